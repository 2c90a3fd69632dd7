use Rattle.std.proofs.Common.{◌≡◌, ◌+◌, ◌*◌, ◌/◌, ◌%◌, ◌∙◌, ℕ, List, get_or, sym, ap, subst}
use Rattle.std.specs.Prelude.{IsBitSet}
use Rattle.pst_scen.specs.Rows.{row_words}
use Rattle.pst_tallies.proofs.rows.word_at.Goals as goal

pub returns : goal.returns
returns c =
    λ m e.
    let words = c.args.rows.now.words in
    let row = c.args.a * row_words c.args.rows.now.size in
    let here : get_or c.as_slice.result.now (row + c.args.place) 0 ≡ get_or words (row + m / 64) 0 =
    ap (λ (xs : List ℕ). get_or xs (row + c.args.place) 0) c.as_slice.ensures ∙ ap (λ i. get_or words (row + i) 0) (sym e) in (
      λ marked. subst (λ w. IsBitSet w (m % 64)) here marked,
      λ has. subst (λ w. IsBitSet w (m % 64)) (sym here) has,
    )
