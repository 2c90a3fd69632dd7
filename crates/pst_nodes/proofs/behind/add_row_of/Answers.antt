use Rattle.std.proofs.Common.{◌≡◌, ◌<◌, ◌≤◌, ℕ, get_or, length, sym, subst, arith}
use Rattle.std.proofs.lemmas.List.{get_or_read}
use Rattle.std.proofs.lemmas.Bool.Decides.{nat_tests}
use Rattle.pst_nodes.specs.Over.{IsLeafOf}
use Rattle.pst_nodes.proofs.Awaits.{leaf_within}
use Rattle.pst_nodes.proofs.BehindRange.{before_row, no_row}
use Rattle.pst_nodes.proofs.behind.add_row_of.Goals as goal

pub returns-then-a-len : goal.returns-then-a-len
returns-then-a-len c =
    let more : length c.args.tables.now.leaves.items ≤ c.args.a = grind (arith, nat_tests, c.if-a-len.true, c.len.ensures) in
    no_row c.args.nodes.now c.args.square.now c.args.tables.now.leaves.items c.args.a c.requires.numbered c.requires.tables.leaves more

pub add_row-requires-clause-leaf_in : goal.add_row-requires-clause-leaf_in
add_row-requires-clause-leaf_in c =
    let leaves = c.args.tables.now.leaves.items in
    let below : c.args.a < length leaves = grind (arith, nat_tests, c.if-a-len.false, c.len.ensures) in
    let is : c.index.result.now ≡ get_or leaves c.args.a 0 = get_or_read leaves c.args.a c.index.result.now below c.index.ensures 0 in
    leaf_within c.args.nodes.now c.args.a c.index.result.now (subst (λ (n : ℕ). IsLeafOf c.args.nodes.now c.args.a n) (sym is) (c.requires.tables.leaves.each c.args.a below))

pub returns : goal.returns
returns c =
    let leaves = c.args.tables.now.leaves.items in
    let below : c.args.a < length leaves = grind (arith, nat_tests, c.if-a-len.false, c.len.ensures) in
    let is : c.index.result.now ≡ get_or leaves c.args.a 0 = get_or_read leaves c.args.a c.index.result.now below c.index.ensures 0 in
    before_row c.args.nodes.now c.args.square.now c.add_row.new.square c.args.a c.index.result.now c.requires.numbered
    (subst (λ (n : ℕ). IsLeafOf c.args.nodes.now c.args.a n) (sym is) (c.requires.tables.leaves.each c.args.a below)) c.add_row.ensures
