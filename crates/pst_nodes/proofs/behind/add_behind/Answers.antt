use Rattle.std.proofs.Common.{◌≡◌, ℕ, refl, get_or, arith}
use Rattle.pst_square.specs.Squares.{IsInRange, IsInRow}
use Rattle.pst_nodes.specs.Tables.{IsBehind, leaf_count}
use Rattle.pst_square.proofs.Adding.{adds_none, adds_as}
use Rattle.pst_nodes.proofs.Bits.{no_true}
use Rattle.pst_nodes.proofs.BehindRange.{behind_sequence, behind_kept, behind_range, range_behind}
use Rattle.pst_nodes.proofs.behind.add_behind.Goals as goal

pub returns-then-not-is_sequence : goal.returns-then-not-is_sequence
returns-then-not-is_sequence c =
    adds_none c.args.square.now (IsInRow (λ x d. IsBehind c.args.nodes.now c.args.leaf c.args.n d) c.args.a)
    (λ x d h. no_true (c.if-not-is_sequence.ensures.1 (behind_sequence c.args.nodes.now c.args.leaf c.args.n c.args.sequence c.requires.child d h.related)))

pub returns-then-is_released : goal.returns-then-is_released
returns-then-is_released c =
    adds_none c.args.square.now (IsInRow (λ x d. IsBehind c.args.nodes.now c.args.leaf c.args.n d) c.args.a)
    (λ x d h. behind_kept c.args.nodes.now c.args.leaf c.args.n c.args.sequence c.requires.child d h.related (c.if-is_released.ensures.0 refl))

pub returns : goal.returns
returns c =
    let nodes = c.args.nodes.now in
    let ends = c.requires.tables.ends in
    let end : ℕ = get_or c.args.tables.now.ends.items c.args.n 0 in
    let last : ℕ = get_or c.args.tables.now.ends.items c.args.sequence 0 in
    let from : c.leaves_until_end-from.result ≡ leaf_count nodes end = c.leaves_until_end-from.ensures in
    let to : c.leaves_until_end-to.result ≡ leaf_count nodes last = c.leaves_until_end-to.ensures in
    adds_as c.args.square.now c.add_range.new.self (IsInRange c.args.a c.leaves_until_end-from.result c.leaves_until_end-to.result) (IsInRow (λ x d. IsBehind nodes c.args.leaf c.args.n d) c.args.a) c.add_range.ensures
    (λ x d x_in d_in h.
    let low = h.least in
    let high = h.below in
    record {
      first = h.first;
      related = range_behind nodes c.args.leaf c.args.n c.args.sequence c.requires.child c.requires.numbered c.args.tables.now.leaves.items c.requires.tables.leaves end last
          (ends.each c.args.n c.requires.n_in) (ends.each c.args.sequence c.requires.sequence_in) (ends.within c.args.n c.requires.n_in) (ends.within c.args.sequence c.requires.sequence_in)
          (c.if-not-is_sequence.ensures.0 refl) (λ over. no_true (c.if-is_released.ensures.1 over)) d (omega (arith, low, from)) (omega (arith, high, to));
    })
    (λ x d x_in d_in h.
    let range = behind_range nodes c.args.leaf c.args.n c.args.sequence c.requires.child c.requires.numbered c.args.tables.now.leaves.items c.requires.tables.leaves end last
    (ends.each c.args.n c.requires.n_in) (ends.each c.args.sequence c.requires.sequence_in) (ends.within c.args.n c.requires.n_in) (ends.within c.args.sequence c.requires.sequence_in) d h.related in
    let low = range.0 in
    let high = range.1 in
    record { first = h.first; least = omega (arith, low, from); below = omega (arith, high, to) })
