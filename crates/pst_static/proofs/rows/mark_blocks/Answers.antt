use Rattle.std.proofs.Common.{◌≡◌, ◌/◌, ◌%◌, get_or, true, false, subst, sym, ⊎_elim, arith}
use Rattle.std.proofs.lemmas.Bool.{cases_eq}
use Rattle.pst_book.proofs.Parting.{no_bit}
use Rattle.pst_static.proofs.rows.mark_blocks.Goals as goal

pub loop-place-preserved : goal.loop-place-preserved
loop-place-preserved c = record {
  kept = λ b h. c.mark_block.ensures.kept b (c.loop-place.invariant.kept b h);
  marked = λ m l k has. ⊎_elim
      (λ e. subst (λ v. get_or c.mark_block.new.marks v false ≡ true) (sym e) (c.mark_block.ensures.marked (λ zero. no_bit c.word_at.result (m % 64) zero ((c.word_at.ensures m e).1 has))))
      (λ n. c.mark_block.ensures.kept (m / 64) (c.loop-place.invariant.marked m l (omega (arith, k, n)) has))
      (cases_eq (m / 64) c.loop-place.place);
}

pub returns-clause-marked : goal.returns-clause-marked
returns-clause-marked c = λ m l has. c.loop-place.invariant.marked m l (let past = c.loop-place-test.false in let many = c.requires.many in let n = c.loop-place.auto.marks in omega (arith, l, past, many, n)) has
