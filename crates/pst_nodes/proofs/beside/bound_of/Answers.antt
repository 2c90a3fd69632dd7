use Rattle.std.proofs.Common.{◌≡◌, ◌<◌, ◌≤◌, ℕ, get_or, length, sym, subst}
use Rattle.std.proofs.Common.{arith}
use Rattle.std.proofs.lemmas.List.{get_or_read}
use Rattle.std.proofs.lemmas.Bool.Decides.{nat_tests}
use Rattle.pst_nodes.specs.Over.{IsLeafOf}
use Rattle.pst_nodes.proofs.Awaits.{leaf_within}
use Rattle.pst_nodes.proofs.BesideRange.{of_leaf, leafless}
use Rattle.pst_nodes.proofs.beside.bound_of.Goals as goal

pub returns-then-a-len-clause-bounds : goal.returns-then-a-len-clause-bounds
returns-then-a-len-clause-bounds c =
    let more : length c.args.tables.now.leaves.items ≤ c.args.a = grind (arith, nat_tests, c.if-a-len.true, c.len.ensures) in
    leafless c.args.nodes.now c.args.rows.now c.args.a c.args.tables.now.leaves.items c.args.bound c.requires.numbered c.requires.tables.leaves more

pub bound_over-requires-clause-leaf_in : goal.bound_over-requires-clause-leaf_in
bound_over-requires-clause-leaf_in c =
    let leaves = c.args.tables.now.leaves.items in
    let below : c.args.a < length leaves = grind (arith, nat_tests, c.if-a-len.false, c.len.ensures) in
    let is : c.index.result.now ≡ get_or leaves c.args.a 0 = get_or_read leaves c.args.a c.index.result.now below c.index.ensures 0 in
    leaf_within c.args.nodes.now c.args.a c.index.result.now (subst (λ (n : ℕ). IsLeafOf c.args.nodes.now c.args.a n) (sym is) (c.requires.tables.leaves.each c.args.a below))

pub returns-clause-bounds : goal.returns-clause-bounds
returns-clause-bounds c =
    let leaves = c.args.tables.now.leaves.items in
    let below : c.args.a < length leaves = grind (arith, nat_tests, c.if-a-len.false, c.len.ensures) in
    let is : c.index.result.now ≡ get_or leaves c.args.a 0 = get_or_read leaves c.args.a c.index.result.now below c.index.ensures 0 in
    of_leaf c.args.nodes.now c.args.rows.now c.args.a c.index.result.now c.bound_over.result c.requires.numbered
    (subst (λ (n : ℕ). IsLeafOf c.args.nodes.now c.args.a n) (sym is) (c.requires.tables.leaves.each c.args.a below)) c.bound_over.ensures.bounds
