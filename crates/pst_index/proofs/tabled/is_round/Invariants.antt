use Rattle.std.proofs.Common.{◌≡◌, ℕ, suc, ◌<◌}
use Rattle.std.specs.Prelude.{Some, slice_get}
use Rattle.pst_ast.specs.declared.scope_declaration.Declaration.{Declaration}
use Rattle.pst_ast.specs.Lookups.{base_of}
use Rattle.pst_index.proofs.tabled.is_round.Given as goal

abbrev pub invariant-loop-at : goal.invariant-loop-at
invariant-loop-at l = (i : ℕ) (d e : Declaration) → suc i < l.at → slice_get l.round i ≡ Some d → slice_get l.round (suc i) ≡ Some e → base_of l.index e ≡ Some d
