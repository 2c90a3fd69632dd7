use Rattle.pst_type_members.specs.KeptHandles.{AreHandleRows}
use Rattle.pst_type_members.proofs.handles.handle_rows_of.Given as goal

abbrev pub invariant-loop-declaration : goal.invariant-loop-declaration
invariant-loop-declaration l = AreHandleRows l.declarations l.kept
