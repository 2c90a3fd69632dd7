use Rattle.std.proofs.Common.{◌≡◌, ◌+◌, List, sym, subst}
use Rattle.std.proofs.lemmas.Option.{get_or_from_slice_get}
use Rattle.pst_ast.specs.declared.scope_declaration.Declaration.{Declaration}
use Rattle.pst_steady.specs.declared.reach.Seed.{Seed}
use Rattle.pst_steady.specs.Lined.{AreMarks, IsMark}
use Rattle.pst_steady.proofs.Lists.{there_is}
use Rattle.pst_steady.proofs.Marking.{one_more_mark}
use Rattle.pst_steady.proofs.lineage.marks_of.Goals as goal

pub loop-at-preserved : goal.loop-at-preserved
loop-at-preserved c =
    let ds = c.args.declarations.now in
    let at = c.loop-at.at in
    let action = c.args.action.now in
    let s = c.mark.result in
    let d = there_is ds at c.loop-at-test.true in
    subst (λ (ss : List Seed). AreMarks ds action (at + 1) ss) (sym c.in_ok-push.ensures.items)
    (one_more_mark ds action at c.loop-at.marks.items d.0 s d.1 (subst (λ (x : Declaration). IsMark action x s) (get_or_from_slice_get ds at d.0 _ d.1) c.mark.ensures) c.loop-at.invariant)
