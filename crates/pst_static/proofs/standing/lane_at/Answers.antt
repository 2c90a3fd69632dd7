use Rattle.std.proofs.Common.{length, ⊎_elim, arith}
use Rattle.std.proofs.lemmas.Bool.{cases_lt}
use Rattle.pst_programs.specs.declared.program.Instruction.TheVariants.{Run}
use Rattle.pst_static.proofs.Moved.{none_beyond}
use Rattle.pst_static.proofs.standing.lane_at.Goals as goal

pub returns : goal.returns
returns c =
    let past = c.loop-lane-test.false in
    λ l at. ⊎_elim (λ k. c.loop-lane.invariant l (omega (arith, k, past)) at) (λ k. none_beyond c.args.programs.now c.args.places.now l k (Run c.args.act) at) (cases_lt l (length c.args.programs.now))
