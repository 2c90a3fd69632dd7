use Rattle.std.proofs.Common.{◌≡◌, ◌<◌, ◌≤◌, ℕ, get_or, set, sym, subst, arith}
use Rattle.std.proofs.lemmas.List.{get_or_read}
use Rattle.std.proofs.lemmas.Bool.Decides.{nat_tests}
use Rattle.pst_nodes.specs.Tables.{AreEndsFrom}
use Rattle.pst_nodes.proofs.Climbs.{one_parent, child_read, rootless, parent_less}
use Rattle.pst_nodes.proofs.Ends.{unchanged_from, widened_from}
use Rattle.pst_nodes.proofs.tables.widen.Goals as goal

pub returns-in_default : goal.returns-in_default
returns-in_default c =
    unchanged_from c.args.nodes.now c.requires.preorder c.args.ends.now.items c.args.n c.requires.from
    (λ parent child. absurd (rootless c.args.nodes.now c.args.n parent _ c.requires.n_in c.in_default.is child))

pub returns-then-index : goal.returns-then-index
returns-then-index c =
    let ends = c.args.ends.now.items in
    let child = child_read c.args.nodes.now c.args.n c.in-Some.parent _ c.requires.n_in c.in-Some.is in
    let less : c.in-Some.parent < c.args.n = parent_less c.args.nodes.now c.args.n c.in-Some.parent c.requires.preorder child in
    let n_in = c.requires.n_in in
    let many = c.requires.from.many in
    let own : c.index-end.result.now ≡ get_or ends c.args.n 0 = get_or_read ends c.args.n c.index-end.result.now (omega (arith, n_in, many)) c.index-end.ensures 0 in
    let first : c.index.result.now ≡ get_or ends c.in-Some.parent 0 = get_or_read ends c.in-Some.parent c.index.result.now (omega (arith, less, n_in, many)) c.index.ensures 0 in
    let second : c.index-2.result.now ≡ get_or ends c.args.n 0 = get_or_read ends c.args.n c.index-2.result.now (omega (arith, n_in, many)) c.index-2.ensures 0 in
    let lower : get_or ends c.in-Some.parent 0 < get_or ends c.args.n 0 = grind (arith, nat_tests, c.if-index.true, first, second) in
    subst (λ (v : ℕ). AreEndsFrom c.args.nodes.now (set ends c.in-Some.parent v) c.args.n) (sym own)
    (widened_from c.args.nodes.now c.requires.preorder ends c.args.n c.requires.from c.in-Some.parent c.requires.n_in child lower)

pub returns-else-index : goal.returns-else-index
returns-else-index c =
    let ends = c.args.ends.now.items in
    let child = child_read c.args.nodes.now c.args.n c.in-Some.parent _ c.requires.n_in c.in-Some.is in
    let less : c.in-Some.parent < c.args.n = parent_less c.args.nodes.now c.args.n c.in-Some.parent c.requires.preorder child in
    let n_in = c.requires.n_in in
    let many = c.requires.from.many in
    let first : c.index.result.now ≡ get_or ends c.in-Some.parent 0 = get_or_read ends c.in-Some.parent c.index.result.now (omega (arith, less, n_in, many)) c.index.ensures 0 in
    let second : c.index-2.result.now ≡ get_or ends c.args.n 0 = get_or_read ends c.args.n c.index-2.result.now (omega (arith, n_in, many)) c.index-2.ensures 0 in
    let upper : get_or ends c.args.n 0 ≤ get_or ends c.in-Some.parent 0 = grind (arith, nat_tests, c.if-index.false, first, second) in
    unchanged_from c.args.nodes.now c.requires.preorder ends c.args.n c.requires.from
    (λ parent other. subst (λ (p : ℕ). get_or ends c.args.n 0 ≤ get_or ends p 0) (one_parent c.args.nodes.now c.args.n c.in-Some.parent parent child other) upper)
