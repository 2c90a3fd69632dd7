use Rattle.std.proofs.Common.{◌≡◌, sym, refl}
use Rattle.std.specs.Prelude.{nat_eq}
use Rattle.std.proofs.lemmas.Bool.{eqb-true, eq-eqb}
use Rattle.pst_nodes.specs.Over.{IsBranchBeside}
use Rattle.pst_nodes.proofs.Climbs.{child_read}
use Rattle.pst_nodes.proofs.Bits.{not_test}
use Rattle.pst_nodes.proofs.Awaits.{beside_is}
use Rattle.pst_nodes.proofs.parallel.is_branch_beside.Goals as goal

pub returns : goal.returns
returns c =
    let child = child_read c.args.nodes.now c.args.n c.in-Some.block _ c.requires.within c.in-Some.is in
    let branch = c.in-Some-child_over.branch in
    not_test (nat_eq branch c.args.n) {A = branch ≡ c.args.n} {B = IsBranchBeside c.args.nodes.now c.args.other c.args.n}
    (λ t. eqb-true branch c.args.n t, λ e. eq-eqb branch c.args.n e)
    (λ different. record {
      block = c.in-Some.block;
      is_block = c.if-not-is_block.ensures.0 refl;
      is_child = child;
      other = branch;
      other_child = c.in-Some-child_over.ensures.0;
      different = λ same. different (sym same);
      under = c.in-Some-child_over.ensures.1;
    })
    (λ a same. beside_is c.args.nodes.now c.args.other c.args.n c.in-Some.block branch c.requires.preorder child c.in-Some-child_over.ensures.0 c.in-Some-child_over.ensures.1 a (sym same))
