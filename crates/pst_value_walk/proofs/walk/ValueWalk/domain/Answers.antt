use Rattle.std.proofs.Common.{◌≡◌, ◌∙◌, ap, sym, subst, length, map}
use Rattle.std.specs.Prelude.{reverse, slice_get}
use Rattle.std.proofs.lemmas.List.{length-reverse}
use Rattle.std.proofs.lemmas.Option.{IfSome_then}
use Rattle.pst_model.specs.ModelView.{view_model}
use Rattle.pst_blanks.specs.Blanks.{blank_of, IsDomainOf}
use Rattle.pst_value_walk.specs.Choices.{HasDomainOf, IsDomainAt, begun, digits_of}
use Rattle.pst_value_walk.proofs.ReadSoFar.{reads_so_far, length-digits_of}
use Rattle.pst_value_walk.proofs.walk.ValueWalk.domain.Goals as goal

pub returns : goal.returns
returns c =
    let w = c.self.inside in
    let m = view_model w.model.now in
    let made = reverse w.made.items in
    let h = c.self.invariant in
    let blanks = map blank_of w.places.items in
    let many : c.len.result ≡ length (digits_of made) = c.len.ensures ∙ w.made.ok.0 ∙ sym (length-reverse w.made.items) ∙ sym (length-digits_of made) in
    IfSome_then c.domain_at.result c.domain_at.ensures
    (λ d n.
    let own : HasDomainOf m blanks (length (digits_of made)) w.scenario d.now =
    subst (λ k. HasDomainOf m blanks k w.scenario d.now) many (subst (λ l. HasDomainOf m (map blank_of l) c.len.result w.scenario d.now) c.deref.ensures.value n) in
    subst (λ k. IsDomainAt k d.now) c.self.view_is
    (record {
      blank = own.blank;
      is = ap (λ l. slice_get l (length (digits_of made))) (sym h.blanks) ∙ own.is;
      domain = reads_so_far m w.seed w.place (begun w.places.items made w.scenario) blanks made w.scenario h.firsts h.blanks h.choices
          (λ s. IsDomainOf m s.actions own.blank d.now) own.domain;
    }))
