-- What a path of names with dots between them stands for, or the first name of it that is wrong, computed; `PathAnswers` has a row for each answer.
use Rattle.std.specs.Prelude.{ℕ, Bool, true, false, not, ◌&&◌, ◌||◌, List, [], ◌∷◌, ◌++◌, codes, Option, Some, None, is_some, if◌then◌else◌}
use Rattle.std.specs.List.{find}
use Rattle.std.specs.Option.{option_map_or, option_or}
use Rattle.pst_base.specs.declared.position.Place.{Place}
use Rattle.pst_base.specs.declared.table.NameId.{NameId}
use Rattle.pst_ast.specs.declared.scope_declaration.Declaration.{Declaration}
use Rattle.pst_ast.specs.declared.scope_declaration.Scope.{Scope}
use Rattle.pst_ast.specs.declared.scope_declaration.Sort.{Sort}
use Rattle.pst_ast.specs.declared.scope_declaration.Sort.TheVariants as sort
pub use Rattle.pst_ast.specs.declared.referent.PathPart.{PathPart}
pub use Rattle.pst_ast.specs.declared.referent.PathReferent.{PathReferent}
pub use Rattle.pst_ast.specs.declared.referent.Checked.{Checked}
pub use Rattle.pst_ast.specs.declared.referent.Checked.TheVariants.{Is, Breaks}
use Rattle.pst_ast.specs.Sorts.{is_handle, is_claim, is_need, is_state, same_name, same_scope}
use Rattle.pst_ast.specs.Lookups.{Environment, Referent, Declared, Initial, Previous, Number, referent, is_text, is_item_at, field_of, member_of, type_of, stands_for}

abbrev pub and_then : {X Y : Type 0} → Checked X → (X → Checked Y) → Checked Y
and_then (Is x) f = f x
and_then (Breaks place rule) f = Breaks place rule

-- ---- what may stand where

-- a value: an array just where an index stands behind it
abbrev pub is_value_sort : Sort → Bool → Bool
is_value_sort (sort.Field array) index = if array then index else not index
is_value_sort (sort.Item level) index = not index
is_value_sort sort.Local index = not index
is_value_sort sort.Index index = not index
is_value_sort _ index = false

abbrev pub is_value : Referent → Bool → Bool
is_value (Declared d) index = is_value_sort d.sort index
is_value (Initial object) index = not index
is_value (Number object) index = not index
is_value (Previous object) index = false

-- an array, in a `foreach`
abbrev pub is_array_sort : Sort → Bool
is_array_sort (sort.Field array) = array
is_array_sort _ = false

abbrev pub is_array : Referent → Bool → Bool
is_array (Declared d) index = is_array_sort d.sort
is_array _ index = false

-- a reference, claim or handle, or `prev`: what may stand before the first dot of a path
abbrev pub is_head_sort : Sort → Bool
is_head_sort s = is_need s || is_handle s

abbrev pub is_head : Referent → Bool
is_head (Declared d) = is_head_sort d.sort
is_head (Previous object) = true
is_head _ = false

-- a field, `initial` or `instance_id`: what may stand behind the last dot
abbrev pub is_last_sort : Sort → Bool
is_last_sort (sort.Field array) = true
is_last_sort _ = false

abbrev pub is_last : Referent → Bool
is_last (Declared d) = is_last_sort d.sort
is_last (Initial object) = true
is_last (Number object) = true
is_last (Previous object) = false

-- What its index is judged as, whatever else it is: a field, which is an array or none.
abbrev pub as_field : Referent → Referent
as_field (Declared d) = Declared (record d { sort = sort.Field (is_array_sort d.sort) })
as_field r = r

-- an array without an index, something else with one, or something else than an array in a `foreach`
abbrev pub is_misindexed : (Referent → Bool → Bool) → Referent → Bool → Bool
is_misindexed fits r index = not (fits (as_field r) index)

-- ---- names behind a dot

-- `initial` behind a reference to a state, `instance_id` behind a claim
abbrev pub word_behind : List (List ℕ) → Sort → Declaration → NameId → Option Referent
word_behind names (sort.Reference of output) object name = if is_state object.sort && is_text names (codes "initial") name then Some (Initial object) else None
word_behind names (sort.Claim of) object name = if is_text names (codes "instance_id") name then Some (Number object) else None
word_behind names _ object name = None

-- a member of the action behind a handle; a field, or one of those words, behind a reference or claim
abbrev pub member_behind : List Declaration → List (List ℕ) → Sort → Declaration → NameId → Option Referent
member_behind ds names head type name =
    if is_handle head then referent (member_of ds type name) else option_or (referent (field_of ds type name)) (word_behind names head type name)

-- Behind a claim `instance_id` is there whatever the claim's type name stands for; where it stands for no object type, the claim's own.
abbrev pub untyped_behind : List (List ℕ) → Declaration → NameId → Option Referent
untyped_behind names head name = if is_claim head.sort && is_text names (codes "instance_id") name then Some (Number head) else None

abbrev pub named_behind : List Declaration → List (List ℕ) → Referent → NameId → Option Referent
named_behind ds names (Declared d) name = option_map_or (λ type. member_behind ds names d.sort type name) (type_of ds d) (untyped_behind names d name)
named_behind ds names (Previous object) name = referent (field_of ds object name)
named_behind ds names _ name = None

-- behind a handle a further dot may stand after a reference or claim
abbrev pub is_handle_referent : Referent → Bool
is_handle_referent (Declared d) = is_handle d.sort
is_handle_referent _ = false

abbrev pub is_need_referent : Referent → Bool
is_need_referent (Declared d) = is_need d.sort
is_need_referent _ = false

-- The name behind the last dot. Its index is looked at first, then what may stand there.
abbrev pub last_behind : (Referent → Bool → Bool) → List Referent → PathPart → Option Referent → Checked PathReferent
last_behind fits before p None = Breaks p.name.place 6
last_behind fits before p (Some r) =
    if is_misindexed fits r p.index then Breaks p.name.place 3
    else (if is_last r then Is (record { before = before; last = r }) else Breaks p.name.place 6)

-- A name between two dots. Its index is looked at first; behind a value no dot may stand, so there the name after it is wrong.
abbrev pub between : Referent → PathPart → Place → Option Referent → Checked Referent
between head p next None = Breaks p.name.place 6
between head p next (Some r) =
    if is_misindexed is_value r p.index then Breaks p.name.place 3
    else (if is_last r then Breaks next 6
    else (if is_handle_referent head && is_need_referent r then Is r else Breaks p.name.place 6))

-- the names behind a head, of which no name is wrong so far
abbrev pub behind : List Declaration → List (List ℕ) → (Referent → Bool → Bool) → List Referent → Referent → PathPart → List PathPart → Checked PathReferent
behind ds names fits before head p [] = last_behind fits before p (named_behind ds names head p.name.id)
behind ds names fits before head p (q ∷ more) =
    and_then (between head p q.name.place (named_behind ds names head p.name.id)) (λ r. behind ds names fits (before ++ r ∷ []) r q more)

-- ---- whole paths

-- another enum of the level has an item of that name
abbrev pub is_other_item : Declaration → Scope → Declaration → Bool
is_other_item d level e = is_item_at level e.sort && (same_name e.name.id d.name.id && not (same_scope e.scope d.scope))

abbrev pub is_doubled : List Declaration → Declaration → Sort → Bool
is_doubled ds d (sort.Item level) = is_some (find (is_other_item d level) ds)
is_doubled ds d _ = false

abbrev pub is_ambiguous : List Declaration → Referent → Bool
is_ambiguous ds (Declared d) = is_doubled ds d d.sort
is_ambiguous ds _ = false

-- a name without dots
abbrev pub alone : List Declaration → (Referent → Bool → Bool) → PathPart → Option Referent → Checked PathReferent
alone ds fits p None = Breaks p.name.place 3
alone ds fits p (Some r) =
    if not (fits r p.index) then Breaks p.name.place 3
    else (if is_ambiguous ds r then Breaks p.name.place 4 else Is (record { before = []; last = r }))

-- a name before the first dot
abbrev pub first_of : PathPart → Option Referent → Checked Referent
first_of p None = Breaks p.name.place 3
first_of p (Some r) = if is_head r && not p.index then Is r else Breaks p.name.place 3

unfoldable pub read_path : List Declaration → List (List ℕ) → Environment → (Referent → Bool → Bool) → PathPart → List PathPart → Checked PathReferent
read_path ds names at fits p [] = alone ds fits p (stands_for ds names at p.name.id)
read_path ds names at fits p (q ∷ more) = and_then (first_of p (stands_for ds names at p.name.id)) (λ r. behind ds names fits (r ∷ []) r q more)
