-- What changes while a body runs.
use Rattle.std.specs.Prelude.{ℕ, ℤ, List}
use Rattle.pst_target.specs.declared.call.Call.{Call as Answered}
use Rattle.pst_legal.specs.Body.{State}

-- The values of the locals, how many slots an expression may have, the arguments of the next call, how many statements and
-- turns have begun, and how many calls were answered.
pub record Store : Type 0 where
  pub locals : List ℤ
  pub room : ℕ
  pub arguments : List ℤ
  pub count : ℕ
  pub calls : ℕ

-- the state of the body, where these answered calls are left
abbrev pub state_of : Store → List Answered → State
state_of store left = record { locals = store.locals; count = store.count; left = left }
