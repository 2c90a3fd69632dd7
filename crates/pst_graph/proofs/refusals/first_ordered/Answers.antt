use Rattle.std.proofs.Common.{◌≡◌, ◌≤◌, ◌<◌, ◌∙◌, ℕ, length, sym, ap, subst}
use Rattle.pst_scen.specs.declared.rows.Rows.{Rows}
use Rattle.pst_scen.specs.Plans.{StandParallel}
use Rattle.pst_nodes.specs.Beside.{BoundsRow}
use Rattle.pst_nodes.specs.Tables.{leaf_count}
use Rattle.pst_nodes.proofs.LeafNumbers.{built_numbered}
use Rattle.pst_graph.proofs.Besides.{none_ordered}
use Rattle.pst_graph.proofs.DirectRows.{leaves_fit}
use Rattle.pst_graph.proofs.refusals.first_ordered.Goals as goal

pub first_beside-requires-clause-numbered : goal.first_beside-requires-clause-numbered
first_beside-requires-clause-numbered c = built_numbered c.args.scenario.now c.requires.built

pub first_beside-requires-clause-size : goal.first_beside-requires-clause-size
first_beside-requires-clause-size c =
    let s = c.args.scenario.now in
    let size : c.must_rows.result.now.size ≡ length s.actions = c.must_rows.ensures.size ∙ c.requires.entries.many in
    subst (λ (n : ℕ). leaf_count s.nodes (length s.nodes) ≤ n) (sym size) (leaves_fit s c.args.tables.now.leaves.items c.requires.built.linked c.requires.tables.leaves)

pub returns : goal.returns
returns c =
    let s = c.args.scenario.now in
    let p = c.args.plan.now in
    let is = c.must_rows.ensures.is in
    let size : p.must.size ≡ length s.actions = ap (λ (rows : Rows). rows.size) (sym is) ∙ c.must_rows.ensures.size ∙ c.requires.entries.many in
    none_ordered s p c.requires.built.linked c.requires.entries c.first_beside.result size
    (subst (λ (rows : Rows). (a : ℕ) → a < rows.size → BoundsRow rows a c.first_beside.result (StandParallel s a)) is c.first_beside.ensures)
