use Rattle.std.proofs.Common.{◌≡◌, ◌∙◌, ap, sym, length}
use Rattle.std.specs.Prelude.{reverse}
use Rattle.pst_supply.specs.Walks.{next_of, answer}
use Rattle.pst_supply.specs.Stops.{stop_after, shown_at}
use Rattle.pst_supply.specs.Made.{ground_of}
use Rattle.pst_supply.proofs.Stands.{made_next}
use Rattle.pst_supply.proofs.walk.SupplyWalk.next.Goals as goal

pub returns : goal.returns
returns c =
    let w = c.self.inside in
    let made = reverse w.made.items in
    let at : c.stop_of.result ≡ stop_after w.first made = c.stop_of.ensures ∙ ap (λ l. stop_after w.first (reverse l)) c.deref.ensures.value in
    c.next_at.ensures
    ∙ ap (λ s. shown_at s c.len.result w.count w.beyond.level) at
    ∙ ap (λ n. shown_at (stop_after w.first made) n w.count w.beyond.level) (c.len.ensures ∙ w.acts.ok.0)
    ∙ ap (λ n. shown_at (stop_after w.first made) (length w.acts.items) n w.beyond.level) c.self.invariant.count
    ∙ sym (made_next (ground_of w) w.first made w.acts.items c.self.invariant.stands)
    ∙ ap (λ k. next_of (answer k)) c.self.view_is
