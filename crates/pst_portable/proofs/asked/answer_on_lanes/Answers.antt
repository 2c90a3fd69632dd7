use Rattle.std.proofs.Common.{min, refl, arith}
use Rattle.std.specs.Prelude.{IfErr}
use Rattle.pst_run_alone.specs.Lanes.{lanes_told, HaveMade}
use Rattle.pst_shared_answers.proofs.PassedOn.{all_made}
use Rattle.pst_portable.proofs.Tasks.{fits_swept, not_found}
use Rattle.pst_portable.proofs.Done.{none_called, on_memory}
use Rattle.pst_portable.proofs.asked.answer_on_lanes.Goals as goal

pub answer_swept-requires-clause-ready : goal.answer_swept-requires-clause-ready
answer_swept-requires-clause-ready g c =
    let ready = c.requires.ready in λ names lives. record {
      sound = ready.sound;
      concrete = ready.concrete;
      small = ready.small;
      some = omega arith;
      few = omega arith;
      fits = fits_swept c.args.question.now.task.work (min c.args.lanes.now.len 16) ready.fits (c.if-is_sweep.ensures.0 refl);
      asked = c.if-is_sweep.ensures.0 refl;
    }

pub answer_with_lanes-requires-clause-ready : goal.answer_with_lanes-requires-clause-ready
answer_with_lanes-requires-clause-ready g c =
    let ready = c.requires.ready in λ names lives. record {
      sound = ready.sound;
      concrete = ready.concrete;
      small = ready.small;
      some = ready.some;
      few = ready.few;
      fits = ready.fits;
      asked = not_found c.if-is_sweep.ensures.1;
    }

pub returns-then-is_sweep-clause-done : goal.returns-then-is_sweep-clause-done
returns-then-is_sweep-clause-done g c =
    c.answer_swept.ensures (lanes_told g.T.Target.calls g.T.Target.faults c.args.lanes.now.items c.args.lanes.now.items) (none_called g.T.Target.calls g.T.Target.faults c.args.lanes.now.items)

pub returns-then-is_sweep-clause-memory : goal.returns-then-is_sweep-clause-memory
returns-then-is_sweep-clause-memory g c =
    let told = lanes_told g.T.Target.calls g.T.Target.faults c.args.lanes.now.items c.args.lanes.now.items in
    on_memory (HaveMade told) c.answer_swept.result (all_made told (none_called g.T.Target.calls g.T.Target.faults c.args.lanes.now.items))
