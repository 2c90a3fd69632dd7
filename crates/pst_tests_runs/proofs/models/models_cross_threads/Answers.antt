use denote.Exit.{no}
use denote.Param.Send.{param_send, arg_send, param_sync, arg_sync}
use Rattle.pst_tests_runs.proofs.models.models_cross_threads.Goals as goal
use Rattle.pst_model.proofs.Crossing.{model_send, model_sync}

pub may_cross-requires-send-T : goal.may_cross-requires-send-T
may_cross-requires-send-T c κs = param_send 0 _ (arg_send _ no _ model_send)

pub may_cross-requires-sync-T : goal.may_cross-requires-sync-T
may_cross-requires-sync-T c κs = record { shared = model_sync.shared }
