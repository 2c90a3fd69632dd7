use Rattle.std.proofs.Common.{◌≡◌, ◌≢◌, None, Some, arith}
use Rattle.pst_book.proofs.Changing.{change_more}
use Rattle.pst_book.proofs.tables.free.Goals as goal

pub loop-lane-preserved : goal.loop-lane-preserved
loop-lane-preserved c =
    change_more None (λ m v w. (v ≡ Some c.args.act → w ≡ None) × (v ≢ Some c.args.act → w ≡ v)) c.args.holders.now c.loop-lane.holders c.free_one.new.holders c.loop-lane.lane (c.free_one.ensures.freed, c.free_one.ensures.same) c.free_one.ensures.others c.loop-lane.invariant

pub returns : goal.returns
returns c =
    let i = c.loop-lane.invariant in
    let past = c.loop-lane-test.false in
    record {
      many = c.loop-lane.auto.holders;
      freed = λ m l h. (i.done m (omega (arith, l, past))).0 h;
      same = λ m l n. (i.done m (omega (arith, l, past))).1 n;
    }
