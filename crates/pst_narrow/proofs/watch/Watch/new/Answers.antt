use Rattle.std.proofs.Common.{◌≡◌, length, map, subst, arith}
use Rattle.std.proofs.lemmas.List.{length-map}
use Rattle.pst_expr.specs.Tree.{view}
use Rattle.pst_narrow.specs.Watch.{AreWatched}
use Rattle.pst_narrow.proofs.NotedLemmas.{watched_nothing}
use Rattle.pst_narrow.proofs.watch.Watch.new.Goals as goal

pub loop-number-init : goal.loop-number-init
loop-number-init c = watched_nothing (map view c.args.constraints.now) c.args.variables c.new-mentioned.result.items c.in_ok-watching.watching.items c.new-mentioned.ensures.items c.in_ok-watching.ensures.long c.in_ok-watching.ensures.none

pub returns : goal.returns
returns c =
    let end : c.loop-number.number ≡ length (map view c.args.constraints.now) = omega (arith, length-map c.args.constraints.now view, c.loop-number-test.false, c.loop-number.auto.number-end) in
    subst (λ n. AreWatched (map view c.args.constraints.now) n c.args.variables c.loop-number.mentioned.items c.loop-number.watching.items) end c.loop-number.invariant
