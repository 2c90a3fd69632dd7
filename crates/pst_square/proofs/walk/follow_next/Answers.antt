use Rattle.std.proofs.Common.{◌<◌, ◌+◌, refl, arith}
use Rattle.std.proofs.lemmas.Bool.Decides.{nat_tests}
use Rattle.pst_square.proofs.Walking.{follows_next, covers_next}
use Rattle.pst_square.proofs.walk.follow_next.Goals as goal

pub returns : goal.returns
returns c =
    let next_in : c.args.a + 1 < c.args.count = grind (arith, nat_tests, c.if-a-count.false) in
    record {
      walked = follows_next c.args.count c.args.row c.args.base.now c.args.words.now c.args.stages.now c.requires.walked c.requires.row c.join_row.new.words c.args.a (c.args.a + 1) c.requires.a_in next_in
          (c.if-not-are_same_rows.ensures refl) (c.if-not-is_finished.ensures.0 refl) c.join_row.ensures;
      covered = λ is. covers_next c.args.count c.args.row c.args.base.now c.args.words.now c.args.stages.now c.requires.walked c.requires.row c.join_row.new.words c.args.a (c.args.a + 1) c.requires.a_in next_in
          (c.if-not-are_same_rows.ensures refl) (c.if-not-is_finished.ensures.0 refl) c.join_row.ensures;
    }
