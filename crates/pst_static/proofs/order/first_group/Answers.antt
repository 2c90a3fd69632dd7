use Rattle.std.proofs.Common.{◌*◌, ⊎_elim, arith}
use Rattle.std.proofs.lemmas.Bool.{cases_lt}
use Rattle.pst_book.proofs.Marking.{not_found}
use Rattle.pst_static.proofs.order.first_group.Goals as goal

pub loop-place-preserved : goal.loop-place-preserved
loop-place-preserved c = record {
  hinted = c.look_at.ensures.hinted;
  none = λ g l k can. ⊎_elim (λ b. c.loop-place.invariant.none g b k can)
      (λ b. not_found c.look_at.result _ _ c.look_at.ensures.found c.in_default.not-Some g (omega (arith, b, l)) k can) (cases_lt g (c.loop-place.place * 64));
}
