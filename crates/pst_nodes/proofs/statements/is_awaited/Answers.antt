use Rattle.std.proofs.Common.{◌<◌, ◌≤◌, arith}
use Rattle.std.proofs.lemmas.Bool.Decides.{nat_tests}
use Rattle.pst_nodes.proofs.Climbs.{not_true, child_read}
use Rattle.pst_nodes.proofs.Bits.{not_test}
use Rattle.pst_nodes.proofs.Awaits.{awaited_later, awaited_kept}
use Rattle.std.proofs.Common.{refl}
use Rattle.pst_nodes.proofs.statements.is_awaited.Goals as goal

pub returns-then-later-n : goal.returns-then-later-n
returns-then-later-n c =
    let child = child_read c.args.nodes.now c.args.n c.in-Some.sequence _ c.requires.within c.in-Some.is in
    let not_later : c.in-Some-child_over.later ≤ c.args.n = grind (arith, nat_tests, c.if-later-n.true) in (
      λ t. absurd (not_true t),
      λ a.
          let later = awaited_later c.args.nodes.now c.args.leaf c.args.other c.args.n c.in-Some.sequence c.in-Some-child_over.later c.requires.preorder child c.in-Some-child_over.ensures.0 c.in-Some-child_over.ensures.1 a in
          absurd (omega (arith, later, not_later)),
    )

pub returns : goal.returns
returns c =
    let child = child_read c.args.nodes.now c.args.n c.in-Some.sequence _ c.requires.within c.in-Some.is in
    let later : c.args.n < c.in-Some-child_over.later = grind (arith, nat_tests, c.if-later-n.false) in
    not_test c.is_released.result c.is_released.ensures
    (λ kept. record {
      sequence = c.in-Some.sequence;
      is_sequence = c.if-not-is_sequence.ensures.0 refl;
      is_child = child;
      later = c.in-Some-child_over.later;
      later_child = c.in-Some-child_over.ensures.0;
      order = later;
      under = c.in-Some-child_over.ensures.1;
      kept = kept;
    })
    (λ a. awaited_kept c.args.nodes.now c.args.leaf c.args.other c.args.n c.in-Some.sequence child a)
