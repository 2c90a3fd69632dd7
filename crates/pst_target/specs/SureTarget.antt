-- How a target in memory that never fails is kept.
use Rattle.pst_target.specs.Scripted.{Answering}
use Rattle.pst_target.specs.declared.sure_target.SureTarget.TheInside.{Inside}

-- the lists without their memory
abbrev pub answering : Inside → Answering
answering target = record { answers = target.answers.items; calls = target.calls.items }
