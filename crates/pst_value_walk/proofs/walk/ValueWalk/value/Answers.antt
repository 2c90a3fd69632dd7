use Rattle.std.proofs.Common.{◌≡◌, ◌∙◌, ◌+◌, ap, sym, subst, length, map}
use Rattle.std.specs.Prelude.{reverse, slice_get}
use Rattle.std.proofs.lemmas.List.{length-reverse}
use Rattle.std.proofs.lemmas.Option.{IfSome_then}
use Rattle.pst_model.specs.ModelView.{view_model}
use Rattle.pst_blanks.specs.Blanks.{blank_of}
use Rattle.pst_blanks.specs.Placed.{ArePlaced}
use Rattle.pst_value_walk.specs.Walks.{HasDigit, answer}
use Rattle.pst_value_walk.specs.Choices.{HasOption, IsNamed, IsValueOf, begun, digits_of, value_by}
use Rattle.pst_value_walk.proofs.ReadSoFar.{has_option, reads_so_far, length-digits_of}
use Rattle.pst_value_walk.proofs.walk.ValueWalk.value.Goals as goal

pub value_at-requires-clause-digit : goal.value_at-requires-clause-digit
value_at-requires-clause-digit c =
    let w = c.self.inside in
    let m = view_model w.model.now in
    let made = reverse w.made.items in
    let h = c.self.invariant in
    let blanks = map blank_of w.places.items in
    let has = subst (λ k. HasDigit (answer k) c.args.digit) (sym c.self.view_is) c.requires in
    let base = has_option m w.seed w.place (begun w.places.items made w.scenario) blanks made w.scenario h.firsts h.blanks h.choices c.args.digit has in
    let many : c.len.result ≡ length made = c.len.ensures ∙ w.made.ok.0 ∙ sym (length-reverse w.made.items) in
    subst (λ n. HasOption m (map blank_of c.deref.result.now) n c.args.digit w.scenario) (sym many)
    (subst (λ l. HasOption m (map blank_of l) (length made) c.args.digit w.scenario) (sym c.deref.ensures.value) base)

pub value_at-requires-clause-placed : goal.value_at-requires-clause-placed
value_at-requires-clause-placed c =
    let w = c.self.inside in
    subst (ArePlaced (view_model w.model.now) w.scenario) (sym c.deref.ensures.value) c.self.invariant.placed

pub returns : goal.returns
returns c =
    let w = c.self.inside in
    let m = view_model w.model.now in
    let made = reverse w.made.items in
    let h = c.self.invariant in
    let blanks = map blank_of w.places.items in
    let many : c.len.result ≡ length (digits_of made) = c.len.ensures ∙ w.made.ok.0 ∙ sym (length-reverse w.made.items) ∙ sym (length-digits_of made) in
    IfSome_then c.value_at.result c.value_at.ensures
    (λ v n.
    let own : IsNamed m w.seed w.place blanks (length (digits_of made)) c.args.digit w.scenario v =
    subst (λ k. IsNamed m w.seed w.place blanks k c.args.digit w.scenario v) many (subst (λ l. IsNamed m w.seed w.place (map blank_of l) c.len.result c.args.digit w.scenario v) c.deref.ensures.value n) in
    subst (λ k. IsValueOf k c.args.digit v) c.self.view_is
    (record {
      blank = own.blank;
      is = ap (λ l. slice_get l (length (digits_of made))) (sym h.blanks) ∙ own.is;
      value = reads_so_far m w.seed w.place (begun w.places.items made w.scenario) blanks made w.scenario h.firsts h.blanks h.choices
          (λ s. v ≡ value_by m w.seed (w.place + length (digits_of made)) s own.blank c.args.digit) own.value;
    }))
