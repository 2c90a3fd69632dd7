-- What the seeds of a sweep are searched for may be shared by threads.
use denote.RattleType.{RattleType}
use denote.Param.Send.{IsSend, IsSync, shr_sync, sendable}
use denote.Param.SendFields.{declared_send, declared_sync, as_row_send, as_row_sync}
use denote.Struct.Field.{row_field}
use denote.Struct.Tuple.{type_at, TupleAt}
use mathlib.Core.List.{[], ◌∷◌}
use mir.Syntax.{Sym}
use Rattle.std.proofs.alloc.Global.TheSendSync as global
use Rattle.pst_model.proofs.Crossing as model
use Rattle.pst_sweep.specs.contracts.sweeping.Asked as asked_type

pub asked_crosses : (ℓ : _) → IsSync (asked_type.the_row ℓ)
asked_crosses ℓ = declared_sync (asked_type.the_type ℓ) (global.the_sync, (shr_sync _ _ _ model.model_sync, (search sendable, (search sendable, (search sendable, (search sendable, tt))))))

-- a closure that holds one value may move between threads, or be shared by them, where that value may
pub one_send : (ν : Sym) (A : RattleType) → IsSend A → IsSend (TupleAt ν (A ∷ []))
one_send ν A a = declared_send (type_at ν (A ∷ [])) (as_row_send (row_field A) a, tt)

pub one_sync : (ν : Sym) (A : RattleType) → IsSync A → IsSync (TupleAt ν (A ∷ []))
one_sync ν A a = declared_sync (type_at ν (A ∷ [])) (as_row_sync (row_field A) a, tt)
