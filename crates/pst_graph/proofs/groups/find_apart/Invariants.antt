use Rattle.std.proofs.Common.{◌≡◌, ◌<◌, ℕ, get_or}
use Rattle.pst_graph.specs.Streamed.{StreamsFrom}
use Rattle.pst_graph.proofs.groups.find_apart.Given as goal

abbrev pub invariant-loop-a : goal.invariant-loop-a
invariant-loop-a l = (a b : ℕ) → a < l.a → StreamsFrom l.scenario a b → get_or l.groups a 0 ≡ get_or l.groups b 0
