use Rattle.std.proofs.Common.{◌-◌, arith, List, length, sym, ap, ◌∙◌}
use Rattle.std.specs.Prelude.{Option}
use Rattle.pst_ast.specs.declared.scope_declaration.Declaration.{Declaration}
use Rattle.pst_marked_bases.specs.Marked.{last_of, marked_within}
use Rattle.pst_marked_bases.proofs.Leading.{no_level, near_begins, near_found, near_further, near_none}
use Rattle.pst_marked_bases.proofs.marked.nearest_of.Goals as goal

pub loop-at-init : goal.loop-at-init
loop-at-init c =
    near_begins c.args.marks.now c.args.index.now c.args.declaration.now (length c.as_slice-left.result.now) (ap (λ (xs : List Declaration). length xs) c.as_slice-left.ensures)

pub returns-in_default-base : goal.returns-in_default-base
returns-in_default-base c =
    let places = c.args.marks.now in
    let ds = c.args.index.now in
    let there = c.follow-there.result in
    near_none places ds c.loop-at.left there.left c.loop-at.at there.base c.in-Some.here _ c.in-Some.is (ap (marked_within places ds there.left) c.in_default-base.is) c.follow-there.ensures.same c.loop-at.invariant

pub returns-then-there-eq0 : goal.returns-then-there-eq0
returns-then-there-eq0 c =
    let places = c.args.marks.now in
    let ds = c.args.index.now in
    let there = c.follow-there.result in
    near_none places ds c.loop-at.left there.left c.loop-at.at there.base c.in-Some.here _ c.in-Some.is (ap (λ n. marked_within places ds n there.base) c.if-there-eq0.true ∙ no_level places ds there.base) c.follow-there.ensures.same c.loop-at.invariant

pub returns-then-is_marked : goal.returns-then-is_marked
returns-then-is_marked c =
    let places = c.args.marks.now in
    let ds = c.args.index.now in
    let there = c.follow-there.result in
    near_found places ds c.loop-at.left there.left c.loop-at.at c.in-Some.here c.in-Some-base.base _ c.in-Some.is (omega (arith, c.if-there-eq0.false)) (sym c.is_marked.ensures ∙ c.if-is_marked.true)
    (ap (marked_within places ds there.left) (sym c.in-Some-base.is) ∙ c.follow-there.ensures.same) c.loop-at.invariant

pub loop-at-preserved : goal.loop-at-preserved
loop-at-preserved c =
    let places = c.args.marks.now in
    let ds = c.args.index.now in
    let there = c.follow-there.result in
    ap (λ (o : Option Declaration). last_of (marked_within places ds (there.left - 1) o)) c.base_of-at.ensures
    ∙ near_further places ds c.loop-at.left there.left c.loop-at.at c.in-Some.here c.in-Some-base.base _ c.in-Some.is (omega (arith, c.if-there-eq0.false)) (sym c.is_marked.ensures ∙ c.if-is_marked.false)
    (ap (marked_within places ds there.left) (sym c.in-Some-base.is) ∙ c.follow-there.ensures.same) c.loop-at.invariant
