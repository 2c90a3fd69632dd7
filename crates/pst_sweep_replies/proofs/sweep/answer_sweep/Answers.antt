use Rattle.pst_model.specs.ModelView.{view_model}
use Rattle.std.proofs.Common.{subst}
use Rattle.pst_outcome.specs.Tasks.{IsSweep}
use Rattle.pst_sweep_replies.proofs.Sweeps.{seeds_fit, sweep_owed}
use Rattle.pst_sweep_replies.proofs.sweep.answer_sweep.Goals as goal

pub reply_to_sweep-requires-clause-room : goal.reply_to_sweep-requires-clause-room
reply_to_sweep-requires-clause-room g c = λ names lives. seeds_fit c.args.task.work 1 c.in-Sweep.first c.in-Sweep.count c.in-Sweep.is c.requires.fits

pub returns : goal.returns
returns g c = sweep_owed c.args.names.now (view_model c.args.model.now) c.args.root c.args.task c.in-Sweep.first c.in-Sweep.count c.reply_to_sweep.result c.in-Sweep.is c.reply_to_sweep.ensures

pub unreachable-requires : goal.unreachable-requires
unreachable-requires g c = subst IsSweep c.in-Run.is c.requires.swept

pub unreachable-requires-in-Solve : goal.unreachable-requires-in-Solve
unreachable-requires-in-Solve g c = subst IsSweep c.in-Solve.is c.requires.swept

pub unreachable-requires-in-Check : goal.unreachable-requires-in-Check
unreachable-requires-in-Check g c = subst IsSweep c.in-Check.is c.requires.swept

pub unreachable-requires-in-Place : goal.unreachable-requires-in-Place
unreachable-requires-in-Place g c = subst IsSweep c.in-Place.is c.requires.swept

pub unreachable-requires-in-Generate : goal.unreachable-requires-in-Generate
unreachable-requires-in-Generate g c = subst IsSweep c.in-Generate.is c.requires.swept

pub unreachable-requires-in-Static : goal.unreachable-requires-in-Static
unreachable-requires-in-Static g c = subst IsSweep c.in-Static.is c.requires.swept
