use Rattle.std.proofs.Common.{◌≡◌, ⊎_elim, ℕ, get_or, arith}
use Rattle.pst_nodes.specs.Tables.{leaf_count}
use Rattle.pst_nodes.proofs.Bits.{no_true}
use Rattle.pst_nodes.proofs.BesideRange.{beside_block, beside_range}
use Rattle.pst_nodes.proofs.beside.bound_at.Goals as goal

pub returns-then-not-is_block-clause-bounds : goal.returns-then-not-is_block-clause-bounds
returns-then-not-is_block-clause-bounds c = λ b b_in has h.
    absurd (no_true (c.if-not-is_block.ensures.1 (beside_block c.args.nodes.now c.requires.numbered c.args.n c.args.block c.requires.child b h)))

pub returns-clause-bounds : goal.returns-clause-bounds
returns-clause-bounds c = λ b b_in has h.
    let nodes = c.args.nodes.now in
    let ends = c.requires.tables.ends in
    let end : ℕ = get_or c.args.tables.now.ends.items c.args.n 0 in
    let last : ℕ = get_or c.args.tables.now.ends.items c.args.block 0 in
    let lower = c.bound_in.ensures.lower in
    ⊎_elim
    (λ k.
    let low = k.0 in
    let high = k.1 in
    let from : c.leaves_until-before.result ≡ leaf_count nodes c.args.block = c.leaves_until-before.ensures in
    let to : c.leaves_until.result ≡ leaf_count nodes c.args.n = c.leaves_until.ensures in
    let is = c.bound_in-first.ensures.bounds b (omega (arith, low, from)) (omega (arith, high, to)) has in
    let one = is.0 in
    let other = is.1 in
    (omega (arith, one, lower), omega (arith, other, lower)))
    (λ k.
    let low = k.0 in
    let high = k.1 in
    let from : c.leaves_until_end-behind.result ≡ leaf_count nodes end = c.leaves_until_end-behind.ensures in
    let to : c.leaves_until_end.result ≡ leaf_count nodes last = c.leaves_until_end.ensures in
    c.bound_in.ensures.bounds b (omega (arith, low, from)) (omega (arith, high, to)) has)
    (beside_range nodes c.requires.numbered c.args.n c.args.block c.requires.child end last (ends.each c.args.n c.requires.n_in) (ends.each c.args.block c.requires.block_in) c.requires.n_in
    (ends.within c.args.block c.requires.block_in) b h)
