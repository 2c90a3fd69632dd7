-- How a target in memory that fails once is kept.
use Rattle.pst_target.specs.Scripted.{AnsweringOrFailing}
use Rattle.pst_target.specs.declared.script_target.ScriptTarget.TheInside.{Inside}

-- the target without failures, and which call fails
abbrev pub answering_or_failing : Inside → AnsweringOrFailing
answering_or_failing all = record {
  answers = all.target.answers;
  calls = all.target.calls;
  failing = all.failing;
  next = all.next;
  faults = all.faults;
}
