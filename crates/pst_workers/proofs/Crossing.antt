-- What the workers share may be shared by threads.
use denote.RattleType.{RattleType}
use denote.Param.Send.{IsSend, IsSync, shr_sync}
use denote.Param.SendFields.{declared_send, declared_sync, as_row_send}
use denote.Struct.Field.{row_field}
use denote.Struct.Tuple.{type_at, TupleAt}
use mathlib.Core.List.{[], ◌∷◌}
use mir.Syntax.{Sym}
use Rattle.std.proofs.alloc.Global.TheSendSync as global
use Rattle.pst_model.proofs.Crossing as model
use Rattle.pst_scen.proofs.scenario.Scenario.TheSendSync as scenario
use Rattle.pst_workers.specs.contracts.worker.Job as job_type

pub job_crosses : (ℓ : _) (G : RattleType) → IsSync G → IsSync (job_type.the_row ℓ G)
job_crosses ℓ G s = declared_sync (job_type.the_type ℓ G) (global.the_sync, (shr_sync _ _ _ model.model_sync, (shr_sync _ _ _ scenario.the_sync, (shr_sync _ _ _ s, tt))))

-- a closure may move between threads where what it holds may
pub six_cross : (ν : Sym) (A B C D E F : RattleType) → IsSend A → IsSend B → IsSend C → IsSend D → IsSend E → IsSend F → IsSend (TupleAt ν (A ∷ B ∷ C ∷ D ∷ E ∷ F ∷ []))
six_cross ν A B C D E F a b c d e f =
    declared_send (type_at ν (A ∷ B ∷ C ∷ D ∷ E ∷ F ∷ []))
    (as_row_send (row_field A) a, (as_row_send (row_field B) b, (as_row_send (row_field C) c, (as_row_send (row_field D) d, (as_row_send (row_field E) e, (as_row_send (row_field F) f, tt))))))
