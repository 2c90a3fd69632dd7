use denote.Exit.{no}
use denote.Param.Send.{copied_send, arg_send, copied_sync, arg_sync, shr_send, shr_sync}
use Rattle.std.proofs.Common.{arith}
use Rattle.pst_model.specs.ModelView.{view_model}
use Rattle.pst_sweep.proofs.Crossing.{asked_crosses, one_send, one_sync}
use Rattle.pst_sweep.proofs.Rows.{of_rows}
use Rattle.pst_sweep.proofs.sweeping.sweep_rows.Goals as goal

pub each_row-requires-send-F : goal.each_row-requires-send-F
each_row-requires-send-F g c κs within = copied_send 0 _ (arg_send _ no _ (one_send _ _ (shr_send _ _ _ (asked_crosses _))))

pub each_row-requires-sync-F : goal.each_row-requires-sync-F
each_row-requires-sync-F g c κs within = copied_sync 0 _ (arg_sync _ no _ (one_sync _ _ (shr_sync _ _ _ (asked_crosses _))))

pub each_row-requires-clause-callable : goal.each_row-requires-clause-callable
each_row-requires-clause-callable g c κs within = λ k inside. (c.requires.sound, c.requires.root, omega (arith, inside, c.requires.room))

pub returns : goal.returns
returns g c =
    let asked = c.args.asked.now in
    of_rows (view_model asked.model.now) asked.root asked.infer asked.budget asked.first_seed c.args.count (λ v. v.items) c.each_row.result c.each_row.ensures
