use Rattle.std.proofs.Common.{◌≡◌, ◌∙◌, ap, subst}
use Rattle.std.specs.Prelude.{reverse}
use Rattle.std.specs.Option.{option_map}
use Rattle.pst_model.specs.ModelView.{view_model}
use Rattle.pst_legal.specs.SupplyReading.{next_need}
use Rattle.pst_open_ends.specs.Spots.{kept_spot}
use Rattle.pst_supply.specs.Walks.{IfRead, answer}
use Rattle.pst_supply.specs.Stops.{stop_after}
use Rattle.pst_supply.specs.Made.{ground_of}
use Rattle.pst_supply.proofs.Stands.{made_reads, stops}
use Rattle.pst_supply.proofs.walk.SupplyWalk.need.Goals as goal

pub returns : goal.returns
returns c =
    let w = c.self.inside in
    let g = ground_of w in
    let made = reverse w.made.items in
    let at : c.stop_of.result ≡ stop_after w.first made = c.stop_of.ensures ∙ ap (λ l. stop_after w.first (reverse l)) c.deref.ensures.value in
    subst (λ k. IfRead (answer k) (λ s. c.stop_of.result.need ≡ option_map kept_spot (next_need (view_model k.model) s))) c.self.view_is
    (made_reads g w.first made w.acts.items (λ s. c.stop_of.result.need ≡ option_map kept_spot (next_need g.model s)) c.self.invariant.stands
    (ap (λ s. s.need) at ∙ (stops g w.first made w.acts.items c.self.invariant.stands).next))
