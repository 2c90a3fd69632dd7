use Rattle.std.proofs.Common.{rules, ◌≡◌, ◌+◌, sym, subst, get_or, arith}
use Rattle.std.proofs.lemmas.Option.{slice_get-get_or}
use Rattle.pst_loops.specs.Edges.{IsAdded}
use Rattle.pst_loops.specs.Graph.{Graph}
use Rattle.pst_loops.proofs.Adding.{IsEdgeTo, one_more_from, none_more_from, all_from}
use Rattle.pst_loops.proofs.OneMore.{blank}
use Rattle.pst_loops.proofs.edges.add_from_each.Goals as goal
use Rattle.pst_loops.proofs.edges.add_from_each.Goals.{then-eq+in_ok-add_edge, else-eq}

pub loop-from-preserved : goal.loop-from-preserved
loop-from-preserved c =
    let ds = c.args.declarations.now in
    let n = c.loop-from.from in
    let d = get_or ds n blank in
    let place = c.args.place in
    let to = c.args.to in
    let old = c.args.rows.now in
    let mid = c.loop-from.rows in
    let there = slice_get-get_or ds n blank (omega arith) in
    elim c.if-eq.branch [
      | then-eq+in_ok-add_edge w ↦
          let same : d.name.place ≡ place = search (rules, w.if-eq.true) in
          subst (λ (x : Graph). IsAdded (IsEdgeTo (n + 1) ds place to) old x) (sym w.rows-is)
          (one_more_from ds n place to d old mid w.add_edge.new.rows there same c.loop-from.invariant w.in_ok-add_edge.ensures)
      | else-eq w ↦
          let other : d.name.place ≡ place → ⊥ = search (rules, w.if-eq.false) in
          subst (λ (x : Graph). IsAdded (IsEdgeTo (n + 1) ds place to) old x) (sym w.rows-is)
          (none_more_from ds n place to d old mid there other c.loop-from.invariant)
    ]

pub returns : goal.returns
returns c = all_from c.args.declarations.now c.loop-from.from c.args.place c.args.to c.args.rows.now c.loop-from.rows (omega arith) c.loop-from.invariant
