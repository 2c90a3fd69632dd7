use Rattle.std.proofs.Common.{◌≡◌, refl, subst, map}
use Rattle.std.specs.Prelude.{reverse}
use Rattle.pst_model.specs.ModelView.{view_model}
use Rattle.pst_blanks.specs.Blanks.{blank_of}
use Rattle.pst_value_walk.specs.Walks.{IfRead, answer}
use Rattle.pst_value_walk.specs.Choices.{begun}
use Rattle.pst_value_walk.proofs.ReadSoFar.{reads_so_far}
use Rattle.pst_value_walk.proofs.walk.ValueWalk.scenario.Goals as goal

pub returns : goal.returns
returns c =
    let w = c.self.inside in
    let made = reverse w.made.items in
    let h = c.self.invariant in
    subst (λ k. IfRead (answer k) (λ s. w.scenario ≡ s)) c.self.view_is
    (reads_so_far (view_model w.model.now) w.seed w.place (begun w.places.items made w.scenario) (map blank_of w.places.items) made w.scenario h.firsts h.blanks h.choices (λ s. w.scenario ≡ s) refl)
