-- Before the sources are read there are no values but those of compound actions.
use Rattle.std.proofs.Common.{◌≡◌, ℕ, zero, suc, ℤ, List, [], ◌∷◌, ◌++◌, map, length, Bool, true, false, if◌then◌else◌, Option, Some, None, refl, sym, ap, ◌∙◌, subst, ⊎_elim}
use Rattle.std.specs.Prelude.{slice_get}
use Rattle.std.specs.List.{enumerate_from}
use Rattle.std.proofs.lemmas.List.{map-append}
use Rattle.std.proofs.lemmas.Option.{none-some, same_Some, option_and_then_some}
use Rattle.pst_model.specs.declared.action.Field.{Field}
use Rattle.pst_model.specs.declared.action.Reference.{Reference}
use Rattle.pst_model.specs.ModelTree.{ModelTree, ActionTree}
use Rattle.pst_scen.specs.declared.act.Act.{Act}
use Rattle.pst_scen.specs.declared.act.Filled.{Filled}
use Rattle.pst_scen.specs.declared.act.Claimed.{Claimed}
use Rattle.pst_scen.specs.declared.act.Link.{Link}
use Rattle.pst_scen.specs.declared.act.Link.TheVariants as link
use Rattle.pst_scen.specs.declared.scenario.Scenario.{Scenario}
use Rattle.pst_scen.specs.Scenarios.{reference_at}
use Rattle.pst_legal.specs.Types.{type_of}
use Rattle.pst_legal.specs.Growing.{nothing_yet, Look, Inner, Leaf, open_act, open_reference, open_references, with_look}
use Rattle.pst_legal.specs.Menus.{menu}
use Rattle.pst_legal.specs.Reading.{Wants, then_read, put_value, value_number, read_tree}
use Rattle.pst_legal.specs.SupplyReading.{Spot, Source, Initially, From, New, with_link, act_with_link, put_link, linked_to, is_stream, supplied_by, read_supply}
use Rattle.pst_built.specs.StepsOf.{FieldSteps}
use Rattle.pst_built.proofs.Goes.{Stands, stands, goes_then}
use Rattle.pst_built.proofs.Read.{AnyWay, any_ways}
use Rattle.pst_built.proofs.Readers.{goes_tree, goes_supply}
use Rattle.pst_built.proofs.Bares.{alter_same}
use Rattle.pst_built.proofs.Parents.{get_cases}
use Rattle.pst_built.proofs.Lists.{get_mapped}

-- the values of an action
pub record Held : Type 0 where
  pub fields : List ℤ
  pub claims : List Claimed
  pub outputs : List (List ℤ)

abbrev values_in : Filled → List ℤ
values_in filled = filled.values

abbrev held_with : Act → List (List ℤ) → Held
held_with x outputs = record { fields = x.fields; claims = x.claims; outputs = outputs }

abbrev held : Act → Held
held x = held_with x (map values_in x.references)

record IsEmpty (h : Held) : Type 0 where
  fields : h.fields ≡ []
  claims : h.claims ≡ []
  outputs : (r : ℕ) (values : List ℤ) → slice_get h.outputs r ≡ Some values → values ≡ []

abbrev AllEmpty : List Held → Type 0
AllEmpty hs = (a : ℕ) (h : Held) → slice_get hs a ≡ Some h → IsEmpty h

abbrev HasNoValues : Scenario → Type 0
HasNoValues s = AllEmpty (map held s.actions) × (s.firsts ≡ [])

abbrev Keeps : Scenario → Scenario → Type 0
Keeps s t = HasNoValues s → HasNoValues t

-- ---- steps

rows_empty : (m : ModelTree) (action instance : ℕ) (numbered : List (ℕ × Reference)) (r : ℕ) (values : List ℤ) → slice_get (map values_in (map (open_reference m action instance) numbered)) r ≡ Some values → values ≡ []
rows_empty m action instance [] r values at = absurd (none-some values at)
rows_empty m action instance (e ∷ more) zero values at = sym (same_Some [] values at)
rows_empty m action instance (e ∷ more) (suc r) values at = rows_empty m action instance more r values at

references_empty : (m : ModelTree) (action instance : ℕ) (type : Option ActionTree) (r : ℕ) (values : List ℤ) → slice_get (map values_in (open_references m action instance type)) r ≡ Some values → values ≡ []
references_empty m action instance None r values at = absurd (none-some values at)
references_empty m action instance (Some type) r values at = rows_empty m action instance (enumerate_from 0 type.references) r values at

empty_push : (m : ModelTree) (acts : List Act) (action instance : ℕ) (node : Option ℕ) → AllEmpty (map held acts) → AllEmpty (map held (acts ++ open_act m action instance node ∷ []))
empty_push m acts action instance node all =
    let x = open_act m action instance node in
    let one : IsEmpty (held x) = record { fields = refl; claims = refl; outputs = references_empty m action instance (type_of m action) } in
    subst AllEmpty (sym (map-append held acts (x ∷ [])))
    (λ a h at. ⊎_elim (λ old. all a h old) (λ new. subst IsEmpty new.1 one) (get_cases (map held acts) (held x) a h at))

look_keeps : (m : ModelTree) (s : Scenario) (parent : Option ℕ) (look : Look) → Keeps s (with_look m s parent look)
look_keeps m s parent (Inner fill) all = all
look_keeps m s parent (Leaf action instance) all = (empty_push m s.actions action instance (Some (length s.nodes)) all.0, all.1)

field_steps : (n : ℕ) (fields : List Field) (s : Scenario) → FieldSteps Keeps n fields s
field_steps n [] s = tt
field_steps n (field ∷ fields) s = λ k l. ((λ all. all), field_steps n fields (put_value s n (value_number field k)))

linked_held : (r : ℕ) (to : Link) (x : Act) → held (act_with_link r to x) ≡ held x
linked_held r to x = ap (held_with x) (alter_same values_in (with_link to) (λ filled. refl) r x.references)

put_held : (a r : ℕ) (to : Link) (acts : List Act) → map held (put_link a r to acts) ≡ map held acts
put_held a r to acts = alter_same held (act_with_link r to) (linked_held r to) a acts

linked_to_held : (need : Spot) (b q : ℕ) (acts : List Act) → map held (linked_to need b q acts) ≡ map held acts
linked_to_held need b q acts = by (is_stream need.filled.flow)
  where
    by : (c : Bool) → map held (if c then put_link b q (link.Act need.act need.reference) (put_link need.act need.reference (link.Act b q) acts) else put_link need.act need.reference (link.Act b q) acts) ≡ map held acts
    by true = put_held b q (link.Act need.act need.reference) (put_link need.act need.reference (link.Act b q) acts) ∙ put_held need.act need.reference (link.Act b q) acts
    by false = put_held need.act need.reference (link.Act b q) acts

source_keeps : (m : ModelTree) (s : Scenario) (need : Spot) (source : Source) → Keeps s (supplied_by m s need source)
source_keeps m s need Initially all = (subst AllEmpty (sym (put_held need.act need.reference link.Initial s.actions)) all.0, all.1)
source_keeps m s need (From b q) all = (subst AllEmpty (sym (linked_to_held need b q s.actions)) all.0, all.1)
source_keeps m s need (New action instance q) all =
    (subst AllEmpty (sym (linked_to_held need (length s.actions) q (s.actions ++ open_act m action instance None ∷ []))) (empty_push m s.actions action instance None all.0), all.1)

keeps_same : (s : Scenario) → Keeps s s
keeps_same s all = all

keeps_then : (s t u : Scenario) → Keeps s t → Keeps t u → Keeps s u
keeps_then s t u one other all = other (one all)

none_yet : (m : ModelTree) (root seed level : ℕ) (choices : List ℕ) → Stands Keeps (nothing_yet level) (then_read (read_tree m seed root (nothing_yet level) 0 choices) (read_supply m seed))
none_yet m root seed level choices =
    let start = nothing_yet level in
    stands Keeps start (then_read (read_tree m seed root start 0 choices) (read_supply m seed)) (λ more. then_read (read_tree m seed root start 0 (choices ++ more)) (read_supply m seed))
    (goes_then Keeps keeps_then start (read_tree m seed root start 0 choices) (λ more. read_tree m seed root start 0 (choices ++ more)) (read_supply m seed)
    (goes_tree Keeps keeps_same keeps_then m AnyWay (λ piece. any_ways (menu m piece)) (λ s parent look fields is. (look_keeps m s parent look, field_steps (length s.nodes) fields (with_look m s parent look))) seed root start 0 choices)
    (λ t q rest has. goes_supply Keeps keeps_same keeps_then m seed (λ s need source k is there. source_keeps m s need source) rest t q))

-- ---- what holds of a scenario without values

pub record IsUnvalued (s : Scenario) : Type 0 where
  pub fields : (a : ℕ) (x : Act) → slice_get s.actions a ≡ Some x → x.fields ≡ []
  pub claims : (a : ℕ) (x : Act) → slice_get s.actions a ≡ Some x → x.claims ≡ []
  pub outputs : (a r : ℕ) (f : Filled) → reference_at s.actions a r ≡ Some f → f.values ≡ []
  pub firsts : s.firsts ≡ []

unvalued : (s : Scenario) → HasNoValues s → IsUnvalued s
unvalued s all = record {
  fields = λ a x is. (all.0 a (held x) (get_mapped held s.actions a x is)).fields;
  claims = λ a x is. (all.0 a (held x) (get_mapped held s.actions a x is)).claims;
  outputs = λ a r f is. option_and_then_some (λ (x : Act). slice_get x.references r) (slice_get s.actions a) f is
      (λ x there has. (all.0 a (held x) (get_mapped held s.actions a x there)).outputs r f.values (get_mapped values_in x.references r f has));
  firsts = all.1;
}

-- at a place of the activity or of the sources
pub place_unvalued : (m : ModelTree) (root seed level : ℕ) (choices : List ℕ) (s : Scenario) (n : ℕ) → then_read (read_tree m seed root (nothing_yet level) 0 choices) (read_supply m seed) ≡ Wants s n → IsUnvalued s
place_unvalued m root seed level choices s n e =
    let on : Keeps (nothing_yet level) s = subst (Stands Keeps (nothing_yet level)) e (none_yet m root seed level choices) in
    unvalued s (on ((λ a h at. absurd (none-some h at)), refl))
