use Rattle.std.proofs.Common.{◌∙◌, ℕ, List, length, ap, sym, subst}
use Rattle.pst_programs.specs.declared.program.Instruction.TheVariants.{Signal}
use Rattle.pst_programs.specs.Machine.{IsAt}
use Rattle.pst_static.proofs.Tied.{many}
use Rattle.pst_static.proofs.run.pass.Goals as goal

pub signal_at-requires : goal.signal_at-requires
signal_at-requires c = ap (λ (v : List ℕ). length v) c.deref.ensures.value ∙ many c.args.plan.now c.args.programs.now c.args.run.now c.requires

pub pass_await-requires-clause-none : goal.pass_await-requires-clause-none
pass_await-requires-clause-none c = λ a at. c.in-None.ensures.at a (subst (λ (v : List ℕ). IsAt c.args.programs.now v c.args.lane (Signal a)) (sym c.deref.ensures.value) at)
