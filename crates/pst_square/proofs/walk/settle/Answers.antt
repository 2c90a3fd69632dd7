use Rattle.std.proofs.Common.{refl}
use Rattle.pst_square.proofs.Closes.{word_in}
use Rattle.pst_square.proofs.Walking.{taken_walks, covered_next}
use Rattle.pst_square.proofs.walk.settle.Goals as goal

pub rest-preserved : goal.rest-preserved
rest-preserved c =
    let row = c.args.row in
    let base = c.args.base.now in
    let next = c.in-Some.ensures in
    let pair = next.has in
    record {
      walked = taken_walks c.args.count row base c.rest.words c.args.stages.now c.rest.invariant.walked c.requires.row c.take_over.new.words c.args.a c.in-Some.c c.requires.a_in next.inside pair.in_base
          (c.if-not-is_finished.ensures.0 refl) c.take_over.ensures;
      covered = covered_next row base c.rest.words c.take_over.new.words c.args.a c.in-Some.c c.rest.from c.args.count next c.take_over.ensures
          (λ b b_in. word_in c.args.count row b c.requires.row b_in) c.rest.invariant.covered;
    }
