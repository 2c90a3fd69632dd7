use Rattle.std.proofs.Common.{◌≡◌, ◌+◌, ◌∷◌, [], ◌++◌, ◌∙◌, ap, sym, subst, length, ℕ, List}
use Rattle.std.specs.Prelude.{reverse}
use Rattle.std.proofs.lemmas.List.{reverse-append, length-reverse}
use Rattle.pst_model.specs.ModelView.{view_model}
use Rattle.pst_shape.specs.declared.walk.Made.{Made}
use Rattle.pst_shape_parts.specs.Trees.{tree_of, scenario_of}
use Rattle.pst_shape.specs.Walks.{HasDigit, answer}
use Rattle.pst_shape_steps.specs.Pending.{IsDigit, Grows, valued, read_on}
use Rattle.pst_shape.specs.Choices.{at_after, digits_of}
use Rattle.pst_shape.specs.Made.{AllStand}
use Rattle.pst_shape.proofs.Stands.{made_digit, one_more, length-digits_of}
use Rattle.pst_shape.proofs.walk.Walk.choose.Goals as goal

pub choice-requires-clause-digit : goal.choice-requires-clause-digit
choice-requires-clause-digit c =
    let w = c.self.inside in
    let m = view_model w.model.now in
    let items0 : c.deref.result.now ≡ w.made.items = c.deref.ensures.value ∙ c.reserve.ensures.items in
    subst (λ a. IsDigit a c.args.digit) (sym (c.at_of-at.ensures ∙ ap (λ l. at_after w.start (reverse l)) items0))
    (made_digit m w.root w.seed w.start (reverse w.made.items) (tree_of w.grown) c.args.digit c.self.invariant
    (subst (λ k. HasDigit (answer k 0) c.args.digit) (sym c.self.view_is) c.requires))

pub invariant_of-self-2 : goal.invariant_of-self-2
invariant_of-self-2 c =
    let w = c.self.inside in
    let m = view_model w.model.now in
    let made = reverse w.made.items in
    let t = tree_of w.grown in
    let u = tree_of c.choice.new.grown in
    let items0 : c.deref.result.now ≡ w.made.items = c.deref.ensures.value ∙ c.reserve.ensures.items in
    let at : c.at_of-at.result.now ≡ at_after w.start made = c.at_of-at.ensures ∙ ap (λ l. at_after w.start (reverse l)) items0 in
    let place : c.len-place.result ≡ length (digits_of made) = c.len-place.ensures ∙ c.reserve.ensures.len ∙ w.made.ok.0 ∙ sym (length-reverse w.made.items) ∙ sym (length-digits_of made) in
    let x : Made = record { digit = c.args.digit; at = c.in_ok-at.at; nodes = c.len.result; leaves = c.len-2.result; value = c.value_at-value.result } in
    let items : c.push.new.self.items ≡ w.made.items ++ x ∷ [] = c.in-Ok.ensures.items ∙ ap (λ l. l ++ x ∷ []) c.reserve.ensures.items in
    let made' : reverse c.push.new.self.items ≡ x ∷ made = ap reverse items ∙ reverse-append w.made.items (x ∷ []) in
    let value : x.value ≡ valued (at_after w.start made) = c.value_at-value.ensures ∙ ap valued at in
    let grows : Grows (valued (at_after w.start made)) t u = subst (λ a. Grows (valued a) t u) at c.in_ok-at.ensures.grows in
    let reads = λ (level : ℕ) (left : List ℕ).
    ap (λ a. read_on m w.seed a (scenario_of m level t) (length (digits_of made)) (c.args.digit ∷ left)) (sym at)
    ∙ ap (λ p. read_on m w.seed c.at_of-at.result.now (scenario_of m level t) p (c.args.digit ∷ left)) (sym place)
    ∙ c.in_ok-at.ensures.reads level left
    ∙ ap (λ p. read_on m w.seed c.in_ok-at.at (scenario_of m level u) (p + 1) left) place in
    subst (λ l. AllStand m w.root w.seed w.start l u) (sym made')
    (one_more m w.root w.seed w.start made t u x c.self.invariant grows value c.in_ok-at.ensures.ready c.in_ok-at.ensures.opens c.choice.ensures.grown reads
    (sym (c.len.ensures ∙ c.choice.new.grown.nodes.ok.0)) (sym (c.len-2.ensures ∙ c.choice.new.grown.leaves.ok.0)))
