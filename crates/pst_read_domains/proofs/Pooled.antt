-- What stays of actions while their references are linked and their values are read.
use Rattle.std.proofs.Common.{◌≡◌, ℕ, ℤ, List, [], ◌∷◌, ◌++◌, map, length, Bool, true, false, if◌then◌else◌, Option, Some, None, refl, sym, ap, ◌∙◌, subst, ⊎_elim}
use Rattle.std.specs.Prelude.{slice_get}
use Rattle.std.specs.List.{enumerate_from}
use Rattle.std.proofs.lemmas.List.{map-append}
use Rattle.std.proofs.lemmas.Bool.{not-true, false≢true}
use Rattle.pst_model.specs.declared.action.Reference.{Reference}
use Rattle.pst_model.specs.ModelTree.{ModelTree, ActionTree, ContentTree, Atomic, Compound}
use Rattle.pst_model.specs.Served.{IsAtomic}
use Rattle.pst_scen.specs.declared.act.Act.{Act}
use Rattle.pst_scen.specs.declared.act.Filled.{Filled}
use Rattle.pst_scen.specs.declared.act.Link.{Link}
use Rattle.pst_scen.specs.declared.act.Link.TheVariants as link
use Rattle.pst_scen.specs.declared.scenario.Scenario.{Scenario}
use Rattle.pst_legal.specs.Types.{type_of}
use Rattle.pst_legal.specs.Growing.{Look, Inner, Leaf, open_act, open_reference, open_references, with_look}
use Rattle.pst_legal.specs.Blanks.{Blank, Instance, OfFirst, OfAct, OfOutput, OfClaim, option_value}
use Rattle.pst_legal.specs.SupplyReading.{Spot, Source, Initially, From, New, with_link, act_with_link, put_link, linked_to, is_stream, is_inferable, supplied_by}
use Rattle.pst_legal.specs.ValueReading.{with_option, with_claim, act_with_value, filled_with_value, with_output_value, with_claim_value}
use Rattle.pst_built.proofs.Bares.{alter_same}
use Rattle.pst_built.proofs.Parents.{get_cases}
use Rattle.pst_built.proofs.Spots.{Suits}
use Rattle.pst_built.proofs.SoundActs.{IsConcrete}
use Rattle.pst_built.proofs.SoundPieces.{IsSoundLook}

-- a reference without its link and its values
abbrev pub unread : Filled → Filled
unread filled = record filled { values = []; link = link.Nothing }

-- an action without links, values and claims
pub record Row : Type 0 where
  pub action : ℕ
  pub instance : ℕ
  pub references : List Filled

abbrev row_with : Act → List Filled → Row
row_with x references = record { action = x.action; instance = x.instance; references = references }

abbrev pub row : Act → Row
row x = row_with x (map unread x.references)

abbrev pub rows : List Act → List Row
rows acts = map row acts

-- an action that may be read, with its references
pub record IsPooled (m : ModelTree) (x : Row) : Type 0 where
  pub concrete : IsConcrete m x.action x.instance
  pub references : x.references ≡ open_references m x.action x.instance (type_of m x.action)

abbrev pub AllPooled : ModelTree → List Row → Type 0
AllPooled m xs = (a : ℕ) (x : Row) → slice_get xs a ≡ Some x → IsPooled m x

abbrev pub ArePooled : ModelTree → Scenario → Type 0
ArePooled m s = AllPooled m (rows s.actions)

-- where actions are so, they are behind the step
abbrev pub Keeps : ModelTree → Scenario → Scenario → Type 0
Keeps m s t = ArePooled m s → ArePooled m t

-- ---- one action more

rows_open : (m : ModelTree) (action instance : ℕ) (references : List (ℕ × Reference)) → map unread (map (open_reference m action instance) references) ≡ map (open_reference m action instance) references
rows_open m action instance [] = refl
rows_open m action instance (e ∷ more) = ap (λ fs. open_reference m action instance e ∷ fs) (rows_open m action instance more)

open_again : (m : ModelTree) (action instance : ℕ) (type : Option ActionTree) → map unread (open_references m action instance type) ≡ open_references m action instance type
open_again m action instance None = refl
open_again m action instance (Some type) = rows_open m action instance (enumerate_from 0 type.references)

pooled_push : (m : ModelTree) (acts : List Act) (action instance : ℕ) (node : Option ℕ) → IsConcrete m action instance → AllPooled m (rows acts) → AllPooled m (rows (acts ++ open_act m action instance node ∷ []))
pooled_push m acts action instance node is all =
    let x = open_act m action instance node in
    let one : IsPooled m (row x) = record { concrete = is; references = open_again m action instance (type_of m action) } in
    subst (AllPooled m) (sym (map-append row acts (x ∷ [])))
    (λ a y at. ⊎_elim (λ old. all a y old) (λ new. subst (IsPooled m) new.1 one) (get_cases (rows acts) (row x) a y at))

pub look_keeps : (m : ModelTree) (s : Scenario) (parent : Option ℕ) (look : Look) → IsSoundLook m look → Keeps m s (with_look m s parent look)
look_keeps m s parent (Inner fill) is all = all
look_keeps m s parent (Leaf action instance) is all = pooled_push m s.actions action instance (Some (length s.nodes)) is all

-- ---- links

linked_row : (r : ℕ) (to : Link) (x : Act) → row (act_with_link r to x) ≡ row x
linked_row r to x = ap (row_with x) (alter_same unread (with_link to) (λ filled. refl) r x.references)

put_rows : (a r : ℕ) (to : Link) (acts : List Act) → rows (put_link a r to acts) ≡ rows acts
put_rows a r to acts = alter_same row (act_with_link r to) (linked_row r to) a acts

linked_rows : (need : Spot) (b q : ℕ) (acts : List Act) → rows (linked_to need b q acts) ≡ rows acts
linked_rows need b q acts = by (is_stream need.filled.flow)
  where
    by : (c : Bool) → rows (if c then put_link b q (link.Act need.act need.reference) (put_link need.act need.reference (link.Act b q) acts) else put_link need.act need.reference (link.Act b q) acts) ≡ rows acts
    by true = put_rows b q (link.Act need.act need.reference) (put_link need.act need.reference (link.Act b q) acts) ∙ put_rows need.act need.reference (link.Act b q) acts
    by false = put_rows need.act need.reference (link.Act b q) acts

new_atomic : (type : ActionTree) (content : ContentTree) → is_inferable type content ≡ true → IsAtomic content × (type.is_abstract ≡ false)
new_atomic type (Atomic body) e = (tt, not-true type.is_abstract e)
new_atomic type (Compound activity) e = absurd (false≢true e)

pub source_keeps : (m : ModelTree) (s : Scenario) (need : Spot) (source : Source) → Suits m s need source → Keeps m s (supplied_by m s need source)
source_keeps m s need Initially suit all = subst (AllPooled m) (sym (put_rows need.act need.reference link.Initial s.actions)) all
source_keeps m s need (From b q) suit all = subst (AllPooled m) (sym (linked_rows need b q s.actions)) all
source_keeps m s need (New action instance q) suit all =
    let i = new_atomic suit.type suit.type.content suit.inferable in
    let is : IsConcrete m action instance = record { type = suit.type; is = suit.is; atomic = i.0; concrete = i.1; top = None; inside = suit.inside } in
    let acts = s.actions ++ open_act m action instance None ∷ [] in
    subst (AllPooled m) (sym (linked_rows need (length s.actions) q acts)) (pooled_push m s.actions action instance None is all)

-- ---- claims and values

output_row : (r : ℕ) (v : ℤ) (x : Act) → row (with_output_value r v x) ≡ row x
output_row r v x = ap (row_with x) (alter_same unread (filled_with_value v) (λ filled. refl) r x.references)

pub option_keeps : (m : ModelTree) (k : ℕ) (blank : Blank) (s : Scenario) → Keeps m s (with_option m k blank s)
option_keeps m k (Instance act claim) s all = subst (AllPooled m) (sym (alter_same row (with_claim m claim k) (λ x. refl) act s.actions)) all
option_keeps m k (OfFirst pool field) s all = all
option_keeps m k (OfAct act field) s all =
    subst (AllPooled m) (sym (alter_same row (act_with_value (option_value m s.actions (OfAct act field) k)) (λ x. refl) act s.actions)) all
option_keeps m k (OfOutput act reference field) s all =
    let v = option_value m s.actions (OfOutput act reference field) k in
    subst (AllPooled m) (sym (alter_same row (with_output_value reference v) (output_row reference v) act s.actions)) all
option_keeps m k (OfClaim act claim field) s all =
    subst (AllPooled m) (sym (alter_same row (with_claim_value claim (option_value m s.actions (OfClaim act claim field) k)) (λ x. refl) act s.actions)) all
