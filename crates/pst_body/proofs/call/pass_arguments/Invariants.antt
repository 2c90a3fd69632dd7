use Rattle.std.proofs.Common.{◌≡◌, length}
use Rattle.pst_body.specs.Sites.{place_of}
use Rattle.pst_body.specs.Passing.{PassedOn}
use Rattle.pst_body.proofs.Passing.{SoFar}
use Rattle.pst_body.proofs.call.pass_arguments.Given as goal

abbrev pub invariant-loop-i : goal.invariant-loop-i
invariant-loop-i l = record {
  on : PassedOn l.fn.memory l.memory;
  many : length l.memory.arguments ≡ l.i;
  so_far : SoFar (place_of l.site l.turns) l.arguments l.ranges l.i l.fn.memory l.memory;
}
