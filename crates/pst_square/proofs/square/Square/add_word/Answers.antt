use Rattle.std.proofs.Common.{◌≡◌, ◌<◌, ◌+◌, ◌*◌, ℕ, get_or, set, length, refl, subst, sym, ap, ◌∙◌}
use Rattle.std.specs.Prelude.{bit_or}
use Rattle.std.proofs.lemmas.List.{get_or_read}
use Rattle.pst_scen.specs.declared.rows.Rows.{Rows}
use Rattle.pst_scen.specs.Rows.{row_words}
use Rattle.pst_square.specs.Squares.{Adds, IsMasked}
use Rattle.pst_square.proofs.Squares.{word_added}
use Rattle.pst_square.proofs.square.Square.add_word.Goals as goal

pub returns : goal.returns
returns c =
    let size = c.self.inside.size in
    let items = c.self.inside.words.items in
    let old : Rows = record { size = size; words = items } in
    let place : ℕ = c.args.a * row_words size + c.args.w in
    let at : c.place-place.result ≡ place = subst (λ (r : Rows). c.place-place.result ≡ c.args.a * row_words r.size + c.args.w) (sym c.self.view_is) c.place-place.ensures.is in
    let within : c.place-place.result < length items = subst (λ (r : Rows). c.place-place.result < length r.words) (sym c.self.view_is) c.place-place.ensures.within in
    let word : c.index-word.result.now ≡ get_or items place 0 = get_or_read items c.place-place.result c.index-word.result.now within c.index-word.ensures 0 ∙ ap (λ (n : ℕ). get_or items n 0) at in
    let new : Rows = record { size = size; words = set items c.place-place.result (bit_or c.index-word.result.now c.args.mask) } in
    subst (λ (r : Rows). Adds r new (IsMasked c.args.a c.args.w c.args.mask)) c.self.view_is
    (word_added old new c.args.a c.args.w c.args.mask (subst (λ (r : Rows). c.args.w < row_words r.size) (sym c.self.view_is) c.requires.w_in)
    (subst (λ (n : ℕ). n < length items) at within) refl
    (ap (λ (n : ℕ). set items n (bit_or c.index-word.result.now c.args.mask)) at ∙ ap (λ (v : ℕ). set items place (bit_or v c.args.mask)) word))
