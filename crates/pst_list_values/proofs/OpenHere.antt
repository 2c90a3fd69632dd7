-- Where the values that are kept refuse no constraint over the blanks, the list refuses none of the scenario's.
use Rattle.std.proofs.Common.{◌≡◌, length, true, Option, Some, None, refl, sym, ap, ◌∙◌, subst}
use Rattle.pst_model.specs.ModelView.{view_model}
use Rattle.pst_model.specs.ModelTree.{ModelTree}
use Rattle.pst_scen.specs.declared.scenario.Scenario.{Scenario}
use Rattle.pst_legal.specs.Blanks.{claim_blanks, value_blanks}
use Rattle.pst_legal.specs.Reading.{then_read}
use Rattle.pst_legal.specs.ValueReading.{Answer, Options, Dead, Whole, answer_of, with_firsts, read_values, read_blanks}
use Rattle.pst_legal.specs.First.{NoneRefused}
use Rattle.pst_built.specs.SoFar.{HasRead}
use Rattle.pst_few_places.specs.Fillings.{all_blanks, filled, named}
use Rattle.pst_few_places.proofs.Named.{blanks_join}
use Rattle.pst_shape.specs.Walks.{IfRead}
use Rattle.pst_link_walk.specs.Walks.{Kept}
use Rattle.pst_list_walk.specs.Walks.{answer, IsRead}
use Rattle.pst_search_places.specs.Facts.{sources_of}
use Rattle.pst_search_places.proofs.Few.{values_on}
use Rattle.pst_written_constraints.specs.Open.{blank_bounds}
use Rattle.pst_value_search.specs.Values.{Kept as Given}
use Rattle.pst_list_values.specs.declared.behind.Behind.{Behind}
use Rattle.pst_list_values.specs.Walked.{kept_of}
use Rattle.pst_list_values.specs.Tied.{IsValued, IsOf, IsOpenAt}
use Rattle.pst_list_values.proofs.Opens.{given_in_blanks, read_filled}

if_has : (a : Answer) (P : Scenario → Type 0) → ((s : Scenario) → HasRead a s → P s) → IfRead a P
if_has (Options s n) P each = each s refl
if_has Dead P each = tt
if_has (Whole s) P each = each s refl

read_in : (a : Answer) (s : Scenario) → HasRead a s → IsRead a × IfRead a (λ t. s ≡ t)
read_in (Options t n) s has = (tt, sym has)
read_in Dead s has = absurd has
read_in (Whole t) s has = (tt, sym has)

pub read_there : (k : Kept) (s : Scenario) → HasRead (answer k) s → IsRead (answer k)
read_there k s has = (read_in (answer k) s has).0

pub read_same : (k : Kept) (s : Scenario) → HasRead (answer k) s → IfRead (answer k) (λ t. s ≡ t)
read_same k s has = (read_in (answer k) s has).1

module _ (k : Kept) (b : Behind) (of : IsOf k b) where
  abbrev m : ModelTree
  m = view_model k.model

  -- the list has read the scenario with the options in its blanks that the choices name
  is_filled : (s : Scenario) → HasRead (answer k) s → s ≡ filled m (all_blanks m of.linked) (named m k.seed of.linked.actions (all_blanks m of.linked) (length of.front) of.present) (with_firsts m of.linked)
  is_filled s has =
      let u = of.linked in
      let here : answer_of (read_values m k.seed u (length of.front) of.present) ≡ answer k =
      values_on (kept_of k) refl of.front of.present u (record { choices = of.choices; reads = of.reads }) of.present
      ∙ ap (λ zs. answer_of (then_read (sources_of m k.root k.seed k.level zs) (read_values m k.seed))) (sym of.choices) in
      let joined : read_values m k.seed u (length of.front) of.present ≡ read_blanks m k.seed (all_blanks m u) (with_firsts m u) (length of.front) of.present =
      blanks_join m k.seed (claim_blanks m u.actions) (value_blanks m u.actions) (with_firsts m u) (length of.front) of.present in
      read_filled m k.seed u (all_blanks m u) (with_firsts m u) (length of.front) of.present s (record { level = refl; nodes = refl; acts = refl; kinds = refl; references = refl })
      (subst (λ r. HasRead (answer_of r) s) joined (subst (λ a. HasRead a s) (sym here) has))

  open_by : (o : Option Given) (s : Scenario) → IsValued m k.seed of.linked (length of.front) of.present b.whole o → b.whole ≡ true → IsOpenAt o → HasRead (answer k) s → NoneRefused m s
  open_by None s valued whole free has = absurd free
  open_by (Some g) s (kept, names, opens) whole free has =
      let u = of.linked in
      let blanks = all_blanks m u in
      let chosen = named m k.seed u.actions blanks (length of.front) of.present in
      let stand = opens whole in
      let inside = given_in_blanks m k.seed u (length of.front) of.present g.values g.bounds names stand.inside in
      subst (NoneRefused m) (sym (is_filled s has)) (stand.open_there chosen (free (blank_bounds m u.actions blanks chosen) inside))

  pub open_here : b.whole ≡ true → IsOpenAt b.valued → IfRead (answer k) (NoneRefused m)
  open_here whole free = if_has (answer k) (NoneRefused m) (λ s has. open_by b.valued s of.valued whole free has)
