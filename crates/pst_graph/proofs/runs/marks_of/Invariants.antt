use Rattle.std.proofs.Common.{◌≡◌, length}
use Rattle.pst_scen.specs.Rows.{row_words}
use Rattle.pst_graph.specs.Runs.{MarksRun}
use Rattle.pst_graph.proofs.runs.marks_of.Given as goal

abbrev pub invariant-loop-i : goal.invariant-loop-i
invariant-loop-i l = record { many : length l.marks.items ≡ row_words l.count; marked : MarksRun l.marks.items l.uses l.from l.i l.lone }
