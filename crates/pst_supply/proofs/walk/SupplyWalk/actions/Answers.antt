use Rattle.std.proofs.Common.{◌≡◌, subst}
use Rattle.std.specs.Prelude.{reverse}
use Rattle.pst_supply.specs.Walks.{IfRead, answer}
use Rattle.pst_supply.specs.Made.{ground_of}
use Rattle.pst_supply.proofs.Stands.{made_reads}
use Rattle.pst_supply.proofs.walk.SupplyWalk.actions.Goals as goal

pub returns : goal.returns
returns c =
    let w = c.self.inside in
    subst (λ k. IfRead (answer k) (λ s. c.deref.result.now ≡ s.actions)) c.self.view_is
    (made_reads (ground_of w) w.first (reverse w.made.items) w.acts.items (λ s. c.deref.result.now ≡ s.actions) c.self.invariant.stands c.deref.ensures.value)
