use Rattle.std.proofs.Common.{◌++◌, List, take}
use Rattle.pst_scen.specs.declared.event.Event.{Event}
use Rattle.pst_check.specs.Marks.{AreMarks}
use Rattle.pst_check.proofs.marks.note.Given as goal

abbrev pub invariant-loop-i : goal.invariant-loop-i
invariant-loop-i l = (past : List Event) → AreMarks past l.initial.started l.initial.ended → AreMarks (past ++ take l.i l.part) l.started l.ended
