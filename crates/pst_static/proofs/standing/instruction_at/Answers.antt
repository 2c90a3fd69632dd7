use Rattle.std.proofs.Common.{◌≡◌, List, length, ap, arith}
use Rattle.pst_programs.specs.declared.program.Instruction.{Instruction}
use Rattle.pst_programs.specs.declared.program.Instruction.TheVariants.{Run}
use Rattle.pst_programs.specs.Programs.{program_at}
use Rattle.pst_static.proofs.Moved.{none_past, none_beyond, at_read, read_is}
use Rattle.pst_static.proofs.standing.instruction_at.Goals as goal

pub returns-then-at-programs-clause-at : goal.returns-then-at-programs-clause-at
returns-then-at-programs-clause-at c = none_beyond c.args.programs.now c.args.places.now c.args.lane (let past = c.if-at-programs.true in omega (arith, past))

pub returns-then-place-steps-clause-at : goal.returns-then-place-steps-clause-at
returns-then-place-steps-clause-at c =
    let l = c.if-at-programs.false in
    let steps = c.as_slice-steps.result.now in
    at_read c.args.programs.now c.args.places.now c.args.lane steps (Run 0)
    (read_is c.args.programs.now c.args.lane c.index-programs-at.result steps (omega (arith, l)) c.as_slice-steps.ensures) (let k = c.if-place-steps.true in omega (arith, k))

pub returns-else-place-steps-clause-at : goal.returns-else-place-steps-clause-at
returns-else-place-steps-clause-at c =
    let l = c.if-at-programs.false in
    let steps = c.as_slice-steps.result.now in
    let e : length (program_at c.args.programs.now c.args.lane) ≡ length steps =
    ap (λ (v : List Instruction). length v) (read_is c.args.programs.now c.args.lane c.index-programs-at.result steps (omega (arith, l)) c.as_slice-steps.ensures) in
    none_past c.args.programs.now c.args.places.now c.args.lane (let k = c.if-place-steps.false in omega (arith, e, k))
