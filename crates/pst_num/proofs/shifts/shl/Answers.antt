use Rattle.pst_num.proofs.ShiftLemmas.{shl_below, shl_above, shl_within}
use Rattle.pst_num.proofs.shifts.shl.Goals as goal
use Rattle.pst_num.proofs.shifts.shl.Goals.{then-a-b-via-then-a-b, then-a-b-via-else-a-b+then-b-a}

pub returns-then-a-b : goal.returns-then-a-b
returns-then-a-b c =
    elim c.then-a-b.branch [
      | then-a-b-via-then-a-b w ↦ shl_below c.args.a c.args.b c.ranges.a c.ranges.b c.if-b-lt0.false c.if-b-gt63.false w.if-a-b.true
      | then-a-b-via-else-a-b+then-b-a w ↦ shl_above c.args.a c.args.b c.ranges.a c.ranges.b c.if-b-lt0.false c.if-b-gt63.false w.if-b-a.true
    ]

pub returns : goal.returns
returns c =
    shl_within c.args.a c.args.b c.ranges.a c.ranges.b c.if-b-lt0.false c.if-b-gt63.false c.if-a-b.false c.if-b-a.false
