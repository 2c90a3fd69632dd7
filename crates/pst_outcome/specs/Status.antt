-- The exit status of each answer.
use Rattle.std.specs.Prelude.{ℕ}
use Rattle.pst_outcome.specs.declared.answer.Answer.{Answer}
use Rattle.pst_outcome.specs.declared.answer.Answer.TheVariants.{Done, Solved, Placed, Static, Swept, Whole, Prefix, Usage, NoFile, ReadFault, Large, Lexical, Syntax, Rule, NoScenario, Budget, Narrow, TargetFault, BodyTrap, BadTrace, Illegal, NoRoom, WriteFault, NoMemory}

abbrev pub status_of : Answer → ℕ
status_of (Done actions) = 0
status_of (Solved actions) = 0
status_of (Placed asks) = 0
status_of (Static instructions) = 0
status_of (Swept found) = 0
status_of Whole = 0
status_of Prefix = 0
status_of (Lexical wide place) = 1
status_of (Syntax deep place) = 1
status_of (Rule place rule) = 1
status_of (BadTrace number) = 1
status_of (Usage word) = 2
status_of (NoFile word) = 2
status_of (Narrow need have) = 2
status_of NoScenario = 3
status_of (Illegal number rule) = 3
status_of (NoRoom action) = 3
status_of (Budget level) = 4
status_of (TargetFault lane action call) = 5
status_of (BodyTrap lane action kind) = 5
status_of (ReadFault word) = 6
status_of WriteFault = 7
status_of NoMemory = 8
status_of (Large what number) = 9
