use Rattle.std.proofs.Common.{◌≡◌, ◌∙◌, ◌∷◌, [], ◌++◌, ap, sym, subst, length, map}
use Rattle.std.specs.Prelude.{reverse, slice_get}
use Rattle.std.proofs.lemmas.List.{reverse-append, length-reverse}
use Rattle.pst_model.specs.ModelView.{view_model}
use Rattle.pst_blanks.specs.Blanks.{blank_of}
use Rattle.pst_blanks.specs.Placed.{ArePlaced}
use Rattle.pst_value_walk.specs.Walks.{HasDigit, answer}
use Rattle.pst_value_walk.specs.Choices.{cleared_at, IsChoice, HasOption, Stands, begun}
use Rattle.pst_value_walk.proofs.ReadSoFar.{has_option}
use Rattle.pst_value_walk.proofs.Steps.{one_more}
use Rattle.pst_value_walk.proofs.walk.ValueWalk.choose.Goals as goal

pub put-requires-clause-digit : goal.put-requires-clause-digit
put-requires-clause-digit c =
    let w = c.self.inside in
    let m = view_model w.model.now in
    let made = reverse w.made.items in
    let h = c.self.invariant in
    let blanks = map blank_of w.places.items in
    let has = subst (λ k. HasDigit (answer k) c.args.digit) (sym c.self.view_is) c.requires in
    let base = has_option m w.seed w.place (begun w.places.items made w.scenario) blanks made w.scenario h.firsts h.blanks h.choices c.args.digit has in
    let many : c.len.result ≡ length made = c.len.ensures ∙ c.reserve.ensures.len ∙ w.made.ok.0 ∙ sym (length-reverse w.made.items) in
    subst (λ n. HasOption m (map blank_of c.deref.result.now) n c.args.digit w.scenario) (sym many)
    (subst (λ l. HasOption m (map blank_of l) (length made) c.args.digit w.scenario) (sym c.deref.ensures.value) base)

pub invariant_of-self-2 : goal.invariant_of-self-2
invariant_of-self-2 c =
    let w = c.self.inside in
    let m = view_model w.model.now in
    let made = reverse w.made.items in
    let h = c.self.invariant in
    let x = c.args.digit in
    let t = c.put.new.scenario in
    let many : c.len.result ≡ length made = c.len.ensures ∙ c.reserve.ensures.len ∙ w.made.ok.0 ∙ sym (length-reverse w.made.items) in
    let choice = subst (λ n. IsChoice m w.seed w.place (map blank_of w.places.items) n x w.scenario t) many
    (subst (λ l. IsChoice m w.seed w.place (map blank_of l) c.len.result x w.scenario t) c.deref.ensures.value c.in_ok-put.ensures.ok) in
    let back = subst (λ n. w.scenario ≡ cleared_at (slice_get (map blank_of w.places.items) n) t) many
    (subst (λ l. w.scenario ≡ cleared_at (slice_get (map blank_of l) c.len.result) t) c.deref.ensures.value c.in_ok-put.ensures.back) in
    let items : c.push.new.self.items ≡ w.made.items ++ x ∷ [] = c.in-Ok.ensures.items ∙ ap (λ l. l ++ x ∷ []) c.reserve.ensures.items in
    let all : reverse c.push.new.self.items ≡ x ∷ made = ap reverse items ∙ reverse-append w.made.items (x ∷ []) in
    subst (λ l. Stands m w.seed w.place w.places.items l t) (sym all) (one_more m w.seed w.place w.places.items made x w.scenario t h choice back c.put.ensures.keeps)

pub put-requires-clause-placed : goal.put-requires-clause-placed
put-requires-clause-placed c =
    let w = c.self.inside in
    subst (ArePlaced (view_model w.model.now) w.scenario) (sym c.deref.ensures.value) c.self.invariant.placed
