use Rattle.std.proofs.Common.{◌++◌, ◌-◌, arith, List, length, reverse, sym, ap, ◌∙◌}
use Rattle.std.specs.Prelude.{Option, Some}
use Rattle.pst_ast.specs.declared.scope_declaration.Declaration.{Declaration}
use Rattle.pst_marked_bases.specs.Marked.{marked_within}
use Rattle.pst_marked_bases.proofs.Leading.{begins, no_level, whole, further}
use Rattle.pst_marked_bases.proofs.marked.chain_of.Goals as goal

pub loop-at-init : goal.loop-at-init
loop-at-init c =
    let places = c.args.marks.now in
    let ds = c.args.index.now in
    let left = length c.as_slice-left.result.now in
    ap (λ (xs : List Declaration). marked_within places ds left (Some c.args.declaration.now) ++ reverse xs) c.new-chain.ensures.items
    ∙ begins places ds c.args.declaration.now left (ap (λ (xs : List Declaration). length xs) c.as_slice-left.ensures)

pub returns-in_default-base : goal.returns-in_default-base
returns-in_default-base c =
    let places = c.args.marks.now in
    let ds = c.args.index.now in
    let there = c.follow-there.result in
    whole places ds c.loop-at.left there.left c.loop-at.at there.base c.in-Some.here c.loop-at.chain.items _ c.in-Some.is (ap (marked_within places ds there.left) c.in_default-base.is) c.follow-there.ensures.same c.loop-at.invariant

pub returns-then-there-eq0 : goal.returns-then-there-eq0
returns-then-there-eq0 c =
    let places = c.args.marks.now in
    let ds = c.args.index.now in
    let there = c.follow-there.result in
    whole places ds c.loop-at.left there.left c.loop-at.at there.base c.in-Some.here c.loop-at.chain.items _ c.in-Some.is (ap (λ n. marked_within places ds n there.base) c.if-there-eq0.true ∙ no_level places ds there.base) c.follow-there.ensures.same c.loop-at.invariant

pub loop-at-preserved : goal.loop-at-preserved
loop-at-preserved c =
    let places = c.args.marks.now in
    let ds = c.args.index.now in
    let there = c.follow-there.result in
    ap (λ (o : Option Declaration). marked_within places ds (there.left - 1) o ++ reverse c.add_marked.new.chain.items) c.base_of-at.ensures
    ∙ further places ds c.loop-at.left there.left c.loop-at.at c.in-Some.here c.in-Some-base.base c.loop-at.chain.items c.add_marked.new.chain.items _ c.in-Some.is (omega (arith, c.if-there-eq0.false))
    (ap (marked_within places ds there.left) (sym c.in-Some-base.is) ∙ c.follow-there.ensures.same) c.in_ok-add_marked.ensures c.loop-at.invariant
