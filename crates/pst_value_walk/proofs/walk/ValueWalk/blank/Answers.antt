use Rattle.std.proofs.Common.{◌≡◌, ◌∙◌, sym, subst, length, map}
use Rattle.std.specs.Prelude.{reverse, slice_get}
use Rattle.std.proofs.lemmas.List.{length-reverse}
use Rattle.pst_blanks.specs.Blanks.{blank_of}
use Rattle.pst_value_walk.specs.Walks.{IsBlank, blank_at}
use Rattle.pst_value_walk.specs.Choices.{digits_of}
use Rattle.pst_value_walk.proofs.ReadSoFar.{length-digits_of}
use Rattle.pst_value_walk.proofs.walk.ValueWalk.blank.Goals as goal

pub returns : goal.returns
returns c =
    let w = c.self.inside in
    let made = reverse w.made.items in
    let r = c.blank_of.result in
    let many : c.len.result ≡ length (digits_of made) = c.len.ensures ∙ w.made.ok.0 ∙ sym (length-reverse w.made.items) ∙ sym (length-digits_of made) in
    subst (λ k. IsBlank r (blank_at k (length k.choices))) c.self.view_is
    (subst (λ l. IsBlank r (slice_get l (length (digits_of made)))) c.self.invariant.blanks
    (subst (λ n. IsBlank r (slice_get (map blank_of w.places.items) n)) many
    (subst (λ l. IsBlank r (slice_get (map blank_of l) c.len.result)) c.deref.ensures.value c.blank_of.ensures)))
