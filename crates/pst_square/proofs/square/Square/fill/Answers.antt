use Rattle.std.proofs.Common.{◌≡◌, inl, inr, ⊎_elim, ◌≤◌, ◌+◌, ◌*◌, ℕ, List, length, get_or, refl, subst, sym, ap, ◌∙◌, arith}
use Rattle.std.specs.Vec.{with_items}
use Rattle.std.proofs.lemmas.List.{with_items_is}
use Rattle.pst_scen.specs.declared.rows.Rows.{Rows}
use Rattle.pst_scen.specs.Rows.{row_words}
use Rattle.pst_square.specs.Squares.{Adds, IsFilled}
use Rattle.pst_square.proofs.Squares.{words_filled}
use Rattle.pst_square.proofs.square.Square.fill.Goals as goal

pub returns : goal.returns
returns c =
    let size = c.self.inside.size in
    let items = c.self.inside.words.items in
    let old : Rows = record { size = size; words = items } in
    let new : Rows = record { size = size; words = c.fill_words.new.words } in
    let at : c.place-start.result ≡ c.args.a * row_words size =
    subst (λ (r : Rows). c.place-start.result ≡ c.args.a * row_words r.size + 0) (sym c.self.view_is) c.place-start.ensures.is ∙ omega arith in
    let many : length c.fill_words.new.words ≡ c.self.inside.words.len =
    c.fill_words.ensures.many ∙ ap (λ (l : List ℕ). length l) c.deref_mut.ensures.value ∙ sym c.self.inside.words.ok.0 in
    let added : Adds old new (IsFilled c.args.a c.args.first c.args.last) =
    words_filled old new c.args.a c.args.first c.args.last (subst (λ (r : Rows). c.args.last ≤ row_words r.size) (sym c.self.view_is) c.requires.last_in) refl
    (λ i low high. c.fill_words.ensures.filled i (omega (arith, low, at)) (omega (arith, high, at)))
    (λ i out. c.fill_words.ensures.others i (⊎_elim (λ less. inl (omega (arith, less, at))) (λ more. inr (omega (arith, more, at))) out) ∙ ap (λ (l : List ℕ). get_or l i 0) c.deref_mut.ensures.value) in
    subst (λ (r : Rows). Adds r (record { size = size; words = (with_items c.self.inside.words c.fill_words.new.words).items }) (IsFilled c.args.a c.args.first c.args.last)) c.self.view_is
    (subst (λ (l : List ℕ). Adds old (record { size = size; words = l }) (IsFilled c.args.a c.args.first c.args.last)) (sym (with_items_is c.self.inside.words c.fill_words.new.words many)) added)
