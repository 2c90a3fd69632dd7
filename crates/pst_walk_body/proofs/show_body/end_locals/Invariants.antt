use Rattle.std.proofs.Common.{◌≡◌}
use Rattle.pst_walk_body.specs.Locals.{without_inner}
use Rattle.pst_walk_body.proofs.show_body.end_locals.Given as goal

abbrev pub invariant-loop : goal.invariant-loop
invariant-loop l = l.at ≡ without_inner l.counter l.initial.at
