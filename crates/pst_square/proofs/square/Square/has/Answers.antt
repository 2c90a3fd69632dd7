use Rattle.std.proofs.Common.{◌≡◌, ◌↔◌, ◌+◌, ◌*◌, ◌/◌, ◌%◌, ◌^◌, ℕ, get_or, length, IsTrue, subst, sym, ap, ◌∙◌, bit_and, ◌<◌}
use Rattle.std.specs.Prelude.{IsBitSet, nat_eq}
use Rattle.std.proofs.lemmas.List.{get_or_read}
use Rattle.pst_scen.specs.declared.rows.Rows.{Rows}
use Rattle.pst_scen.specs.Rows.{row_words}
use Rattle.pst_square.proofs.Bits.{bit_test}
use Rattle.pst_square.proofs.square.Square.has.Goals as goal

pub returns : goal.returns
returns c =
    let within = subst (λ (r : Rows). c.place.result < length r.words) (sym c.self.view_is) c.place.ensures.within in
    let word : c.index-word.result.now ≡ get_or c.args.self.now.words (c.args.a * row_words c.args.self.now.size + c.args.b / 64) 0 =
    get_or_read c.self.inside.words.items c.place.result c.index-word.result.now within c.index-word.ensures 0
    ∙ ap (λ (r : Rows). get_or r.words c.place.result 0) c.self.view_is
    ∙ ap (λ (n : ℕ). get_or c.args.self.now.words n 0) c.place.ensures.is in
    subst (λ (w : ℕ). IsTrue (nat_eq (bit_and (c.index-word.result.now / 2 ^ (c.args.b % 64)) 1) 1) ↔ IsBitSet w (c.args.b % 64)) word
    (bit_test c.index-word.result.now (c.args.b % 64))
