-- What the paths of an expression become in a model.
use Rattle.std.specs.Prelude.{ℕ, pos, Bool, true, false, ◌&&◌, not, List, [], ◌∷◌, map, Option, Some, None, is_some, if◌then◌else◌}
use Rattle.std.specs.List.{find}
use Rattle.std.specs.Option.{option_map_or, option_and_then}
use Rattle.pst_base.specs.declared.position.Place.{Place}
use Rattle.pst_ast.specs.declared.leaf.Name.{Name}
use Rattle.pst_ast.specs.ExpressionTree.{ExprTree, PathTree, PathDotted, PathItem, PathLongItem}
use Rattle.pst_model.specs.ConstraintTree.{ConstraintTree, SlotTree, Own, Object, First, ClaimId, ClaimField, Prev, IsFirst, Id, Index, Local, Through, Outer}
use Rattle.pst_ast.specs.declared.scope_declaration.Declaration.{Declaration}
use Rattle.pst_ast.specs.declared.scope_declaration.Sort.{Sort}
use Rattle.pst_ast.specs.declared.scope_declaration.Sort.TheVariants as sort
use Rattle.pst_ast.specs.Sorts.{is_handle, same_place}
use Rattle.pst_ast.specs.declared.environment.Environment.{Environment}
use Rattle.pst_ast.specs.declared.referent.Owner.{Owner}
use Rattle.pst_ast.specs.declared.referent.Owner.TheVariants.{Nobody, OfAction, OfObject}
use Rattle.pst_ast.specs.declared.referent.Referent.{Referent}
use Rattle.pst_ast.specs.declared.referent.Referent.TheVariants.{Declared, Initial, Previous, Number}
use Rattle.pst_ast.specs.declared.referent.PathPart.{PathPart}
use Rattle.pst_ast.specs.declared.referent.PathReferent.{PathReferent}
use Rattle.pst_ast.specs.declared.referent.Checked.{Checked}
use Rattle.pst_ast.specs.declared.referent.Checked.TheVariants.{Is, Breaks}
use Rattle.pst_ast.specs.Lookups.{type_of, traversed, traversed_member, stands_for}
use Rattle.pst_ast.specs.Paths.{is_value, read_path}
use Rattle.pst_ast.specs.Uses.{part_of, parts_of}
use Rattle.pst_ast.specs.NameRules.{item_by}
use Rattle.pst_tree.specs.Bases.{number_in, reference_number, claim_number, handle_number}
use Rattle.pst_terms.specs.Sources.{Sources, declared_in, item_value}
use Rattle.pst_terms.specs.Fields.{counted, size_of, count_of, field_number}
use Rattle.pst_terms.specs.Terms.{Term, Reading, ANumber, AThing, AnArray, term_of}
use Rattle.pst_terms.specs.Slots.{constraint_of}

-- what an index stands for: the turn of the repetition with that many repetitions round it, or a number of a `foreach`
pub data Turn : Type 0 where
  AtLevel : (level : ℕ) → Turn
  AtNumber : (n : ℕ) → Turn

-- where an expression of a model stands: its environment, the indices in it with what they stand for, and the locals of the body
pub record Setting : Type 0 where
  pub at : Environment
  pub turns : List (Place × Turn)
  pub locals : List Declaration

-- what can't come where the rules are kept
abbrev pub nothing : Reading SlotTree
nothing = ANumber (pos 0)

abbrev pub map_reading : (SlotTree → SlotTree) → Reading SlotTree → Reading SlotTree
map_reading f (ANumber n) = ANumber n
map_reading f (AThing x) = AThing (f x)
map_reading f (AnArray elements) = AnArray (map f elements)

-- ---- fields

abbrev pub slots_from : (ℕ → SlotTree) → ℕ → Option ℕ → Reading SlotTree
slots_from slot first None = AThing (slot first)
slots_from slot first (Some n) = AnArray (map slot (counted first n))

abbrev pub field_reading : Sources → (ℕ → SlotTree) → Declaration → Declaration → Reading SlotTree
field_reading s slot owner d = slots_from slot (field_number s owner d) (size_of s d)

-- a field of the object type of a reference or claim
abbrev pub typed_field : Sources → (ℕ → SlotTree) → Declaration → Declaration → Reading SlotTree
typed_field s slot need d = option_map_or (λ type. field_reading s slot type d) (type_of (declared_in s) need) nothing

-- ---- names without dots

abbrev pub item_reading : Sources → Option Declaration → Reading SlotTree
item_reading s None = nothing
item_reading s (Some d) = ANumber (option_map_or (λ v. v) (item_value s d.name.place) (pos 0))

abbrev pub turn_reading : Option (Place × Turn) → Reading SlotTree
turn_reading None = nothing
turn_reading (Some (place, AtLevel level)) = AThing (Index level)
turn_reading (Some (place, AtNumber n)) = ANumber (pos n)

abbrev pub declared_reading : Sources → Setting → Declaration → Declaration → Sort → Reading SlotTree
declared_reading s setting owner d (sort.Field array) = field_reading s (λ k. Own k) owner d
declared_reading s setting owner d (sort.Item level) = item_reading s (Some d)
declared_reading s setting owner d sort.Local = AThing (Local (number_in setting.locals d))
declared_reading s setting owner d sort.Index = turn_reading (find (λ (t : Place × Turn). same_place t.0 d.name.place) setting.turns)
declared_reading s setting owner d _ = nothing

abbrev pub name_reading : Sources → Setting → Declaration → Referent → Reading SlotTree
name_reading s setting owner (Declared d) = declared_reading s setting owner d d.sort
name_reading s setting owner (Initial object) = AThing IsFirst
name_reading s setting owner (Number object) = AThing Id
name_reading s setting owner (Previous object) = nothing

-- ---- names behind dots

-- behind a reference or claim of an action
abbrev pub need_reading : Sources → Declaration → Declaration → Sort → Referent → Reading SlotTree
need_reading s owner r (sort.Reference of output) (Declared d) = typed_field s (λ k. Object (reference_number (declared_in s) owner r) k) r d
need_reading s owner r (sort.Reference of output) (Initial object) = AThing (First (reference_number (declared_in s) owner r))
need_reading s owner r (sort.Claim of) (Declared d) = typed_field s (λ k. ClaimField (claim_number (declared_in s) owner r) k) r d
need_reading s owner r (sort.Claim of) (Number object) = AThing (ClaimId (claim_number (declared_in s) owner r))
need_reading s owner r _ last = nothing

-- behind a handle: a field of its action, or of its action's reference or claim
abbrev pub handle_reading : Sources → Option Declaration → List Referent → Referent → Reading SlotTree
handle_reading s (Some action) [] (Declared d) = field_reading s (λ k. Own k) action d
handle_reading s (Some action) (Declared r ∷ []) last = need_reading s action r r.sort last
handle_reading s _ before last = nothing

abbrev pub behind_reading : Sources → Declaration → Referent → List Referent → Referent → Reading SlotTree
behind_reading s owner (Declared h) more last =
    if is_handle h.sort then map_reading (Through (handle_number (declared_in s) owner h)) (handle_reading s (type_of (declared_in s) h) more last)
    else need_reading s owner h h.sort last
behind_reading s owner (Previous object) more (Declared d) = field_reading s (λ k. Prev k) object d
behind_reading s owner head more last = nothing

-- ---- paths

-- a path in a constraint of that action or object
abbrev pub own_reading : Sources → Setting → Declaration → List Referent → Referent → Reading SlotTree
own_reading s setting owner [] last = name_reading s setting owner last
own_reading s setting owner (head ∷ more) last = behind_reading s owner head more last

abbrev pub owner_reading : Sources → Setting → Owner → PathReferent → Reading SlotTree
owner_reading s setting Nobody path = nothing
owner_reading s setting (OfAction action) path = own_reading s setting action path.before path.last
owner_reading s setting (OfObject object) path = own_reading s setting object path.before path.last

-- an index and a local stand as they are
abbrev pub is_inner_sort : Sort → Bool
is_inner_sort sort.Index = true
is_inner_sort sort.Local = true
is_inner_sort _ = false

abbrev pub is_inner : Option Referent → Bool
is_inner (Some (Declared d)) = is_inner_sort d.sort
is_inner _ = false

-- the traversed action of an inline constraint, where the name is one of its members
abbrev pub traversed_with : Sources → Environment → Name → Option Declaration
traversed_with s at name =
    if is_some (traversed_member (declared_in s) s.names at name.id) then option_and_then (traversed (declared_in s) s.names at) at.traversal else None

-- in an inline constraint what is of the action round it stands in Outer
abbrev pub outer_if : Bool → Reading SlotTree → Reading SlotTree
outer_if outside reading = if outside then map_reading Outer reading else reading

-- a path whose first name is a member of the traversed action, or is none
abbrev pub path_reading : Sources → Setting → Name → Option Declaration → PathReferent → Reading SlotTree
path_reading s setting name (Some action) path = own_reading s setting action path.before path.last
path_reading s setting name None path =
    outer_if (is_some setting.at.traversal && not (is_inner (stands_for (declared_in s) s.names setting.at name.id))) (owner_reading s setting setting.at.owner path)

abbrev pub checked_reading : Sources → Setting → Name → Checked PathReferent → Reading SlotTree
checked_reading s setting name (Is path) = path_reading s setting name (traversed_with s setting.at name) path
checked_reading s setting name (Breaks place rule) = nothing

abbrev pub dotted_reading : Sources → Setting → PathPart → List PathPart → Reading SlotTree
dotted_reading s setting first rest = checked_reading s setting first.name (read_path (declared_in s) s.names setting.at is_value first rest)

-- what a path of an expression stands for
unfoldable pub reading_of : Sources → Setting → PathTree → Reading SlotTree
reading_of s setting (PathDotted first rest) = dotted_reading s setting (part_of first) (parts_of rest)
reading_of s setting (PathItem enum colons item) = item_reading s (item_by (declared_in s) setting.at.component None enum item)
reading_of s setting (PathLongItem component colons enum more_colons item) = item_reading s (item_by (declared_in s) setting.at.component (Some component) enum item)

-- ---- expressions

abbrev pub expr_term : Sources → Setting → ExprTree → Term SlotTree
expr_term s setting expr = term_of (reading_of s setting) expr

-- a condition, guard, count, matched value, argument or other expression by itself
abbrev pub expression_of : Sources → Setting → ExprTree → ConstraintTree
expression_of s setting expr = constraint_of (expr_term s setting expr)

-- how many elements the array of a `foreach` has
abbrev pub array_count : Sources → Referent → ℕ
array_count s (Declared d) = count_of s d
array_count s _ = 0

abbrev pub elements_of : Sources → Checked PathReferent → ℕ
elements_of s (Is path) = array_count s path.last
elements_of s (Breaks place rule) = 0
