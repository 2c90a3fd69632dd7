use Rattle.std.proofs.Common.{◌≡◌, ◌∙◌, ap, sym, subst, length, map}
use Rattle.std.specs.Prelude.{reverse, slice_get}
use Rattle.std.proofs.lemmas.List.{length-reverse}
use Rattle.pst_model.specs.ModelView.{view_model}
use Rattle.pst_blanks.specs.Blanks.{blank_of}
use Rattle.pst_blanks.specs.Placed.{ArePlaced}
use Rattle.pst_value_walk.specs.Walks.{next_of, answer}
use Rattle.pst_value_walk.specs.Choices.{shown_by, begun}
use Rattle.pst_value_walk.proofs.ReadSoFar.{next_is}
use Rattle.pst_value_walk.proofs.walk.ValueWalk.next.Goals as goal

pub returns : goal.returns
returns c =
    let w = c.self.inside in
    let m = view_model w.model.now in
    let made = reverse w.made.items in
    let h = c.self.invariant in
    let many : c.len.result ≡ length made = c.len.ensures ∙ w.made.ok.0 ∙ sym (length-reverse w.made.items) in
    c.next_at.ensures
    ∙ ap (λ l. shown_by m w.scenario (slice_get (map blank_of l) c.len.result)) c.deref.ensures.value
    ∙ ap (λ n. shown_by m w.scenario (slice_get (map blank_of w.places.items) n)) many
    ∙ sym (next_is m w.seed w.place (begun w.places.items made w.scenario) (map blank_of w.places.items) made w.scenario h.firsts h.blanks h.choices)
    ∙ ap (λ k. next_of (answer k)) c.self.view_is

pub next_at-requires : goal.next_at-requires
next_at-requires c =
    let w = c.self.inside in
    subst (ArePlaced (view_model w.model.now) w.scenario) (sym c.deref.ensures.value) c.self.invariant.placed
