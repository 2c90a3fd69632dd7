use Rattle.std.proofs.Common.{◌≡◌, ◌∙◌, ◌∷◌, [], ap, sym, subst, length, map}
use Rattle.std.specs.Prelude.{reverse, slice_get}
use Rattle.std.proofs.lemmas.List.{reverse-append, length-reverse}
use Rattle.pst_model.specs.ModelView.{view_model}
use Rattle.pst_blanks.specs.Blanks.{blank_of}
use Rattle.pst_blanks.specs.Placed.{ArePlaced}
use Rattle.pst_value_walk.specs.Choices.{cleared_at, kept_at}
use Rattle.pst_value_walk.proofs.Steps.{kept_more}
use Rattle.pst_value_walk.proofs.walk.ValueWalk.back.Goals as goal

pub take-requires-clause-placed : goal.take-requires-clause-placed
take-requires-clause-placed c =
    let w = c.self.inside in
    subst (ArePlaced (view_model w.model.now) w.scenario) (sym c.deref.ensures.value) c.self.invariant.placed

pub returns-in-Some : goal.returns-in-Some
returns-in-Some c =
    let w = c.self.inside in
    let after = c.pop.new.self.items in
    let made = reverse after in
    let d = c.in-Some._digit in
    let t = c.take.new.scenario in
    let all : reverse w.made.items ≡ d ∷ made = ap reverse c.in-Some.ensures.items ∙ reverse-append after (d ∷ []) in
    let many : c.len.result ≡ length made = c.len.ensures ∙ c.pop.new.self.ok.0 ∙ sym (length-reverse after) in
    let is : t ≡ cleared_at (slice_get (map blank_of w.places.items) (length made)) w.scenario =
    subst (λ n. t ≡ cleared_at (slice_get (map blank_of w.places.items) n) w.scenario) many
    (subst (λ l. t ≡ cleared_at (slice_get (map blank_of l) c.len.result) w.scenario) c.deref.ensures.value c.take.ensures.cleared) in (
      d,
      sym c.self.view_is
          ∙ ap (λ l. kept_at w.model.now w.seed w.place w.places.items l w.scenario) all
          ∙ kept_more w.model.now w.seed w.place w.places.items made d t w.scenario is,
    )
