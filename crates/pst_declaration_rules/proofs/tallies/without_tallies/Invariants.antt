use Rattle.std.proofs.Common.{◌≡◌, ℕ, None}
use Rattle.std.specs.Prelude.{slice_index_or}
use Rattle.pst_declaration_rules.proofs.tallies.without_tallies.Given as goal

abbrev pub invariant-loop-declaration : goal.invariant-loop-declaration
invariant-loop-declaration l = (n : ℕ) → slice_index_or l.tallies.items n None ≡ None
