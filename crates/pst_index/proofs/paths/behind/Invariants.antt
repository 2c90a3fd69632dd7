use Rattle.std.proofs.Common.{◌≡◌, ◌∷◌, [], drop}
use Rattle.pst_ast.specs.Paths
use Rattle.pst_index.specs.Fitting.{fits_of}
use Rattle.pst_index.proofs.paths.behind.Given as goal

abbrev pub invariant-loop-next : goal.invariant-loop-next
invariant-loop-next l =
    Paths.behind l.index l.names (fits_of l.what) l.before.items l.head l.part (drop l.next-index l.rest)
    ≡ Paths.behind l.index l.names (fits_of l.what) (l.fn.first ∷ []) l.fn.first l.fn.second l.rest
