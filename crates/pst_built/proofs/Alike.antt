-- Scenarios that differ in values alone have one order.
use Rattle.std.proofs.Common.{◌≢◌, ℕ, ap, ◌∙◌, subst}
use Rattle.std.specs.Prelude.{slice_get}
use Rattle.std.specs.Option.{option_and_then}
use Rattle.pst_scen.specs.declared.act.Act.{Act}
use Rattle.pst_scen.specs.declared.act.Link.{Link}
use Rattle.pst_scen.specs.declared.act.Link.TheVariants as link
use Rattle.pst_scen.specs.declared.scenario.Scenario.{Scenario}
use Rattle.pst_scen.specs.Scenarios.{IsLinkOf, AreLinked}
use Rattle.pst_scen.specs.Flows.{Reads}
use Rattle.pst_scen.specs.Order.{Cause, Sequence, Buffer, Source, Previous, Replaced, Must, Directly, Through}
use Rattle.pst_built.specs.SoFar as so-far
use Rattle.pst_built.specs.SoFar.{CauseSoFar, MustSoFar}
use Rattle.pst_built.specs.OrderStaysLaws.{PlansLookAtNoValue}
use Rattle.pst_built.proofs.Stays.{stays}

-- a reference that reads a state is linked
read_linked : (s : Scenario) (a pool : ℕ) (to : Link) → AreLinked s.actions → Reads s a pool to → to ≢ link.Nothing
read_linked s a pool to linked r none =
    let at = ap (option_and_then (λ (y : Act). slice_get y.references r.reference)) r.is_act ∙ r.is in
    let kind = (linked a r.reference r.filled at).kind in
    subst (λ flow. IsLinkOf flow link.Nothing) r.of_flow (subst (IsLinkOf r.filled.flow) (r.linked ∙ none) kind)

cause_so_far : (s : Scenario) → AreLinked s.actions → (a b : ℕ) → Cause s a b → CauseSoFar s a b
cause_so_far s linked a b (Sequence before) = so-far.Sequence before
cause_so_far s linked a b (Buffer feeds) = so-far.Buffer feeds
cause_so_far s linked a b (Source pool to reads leads) = so-far.Source pool to reads leads
cause_so_far s linked a b (Previous pool to writes leads) = so-far.Previous pool to writes leads
cause_so_far s linked a b (Replaced pool to reads writes) = so-far.Replaced pool to (read_linked s a pool to linked reads) reads writes

must_so_far : (s : Scenario) → AreLinked s.actions → (a b : ℕ) → Must s a b → MustSoFar s a b
must_so_far s linked a b (Directly _ x _ (other, cause) together) = so-far.Directly a x b (other, cause_so_far s linked a x cause) together
must_so_far s linked a b (Through _ c _ one two) = so-far.Through a c b (must_so_far s linked a c one) (must_so_far s linked c b two)

pub alike : PlansLookAtNoValue
alike s t linked both s_formed t_formed on back a b =
    let there = stays s t on t_formed in
    let again = stays t s back s_formed in (
      (there.together a b, again.together a b),
      (λ must. there.must a b (must_so_far s linked a b must), λ must. again.must a b (must_so_far t both a b must)),
      (there.conflict a b, again.conflict a b),
    )
