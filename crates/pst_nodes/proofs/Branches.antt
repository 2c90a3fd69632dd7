-- Branches of a block stand behind it.
use Rattle.std.proofs.Common.{◌≡◌, ◌≤◌, ◌+◌, ◌∷◌, [], ℕ, zero, suc, List, Bool, true, false, Option, Some, None, length, get_or, refl, sym, ap, ◌∙◌, arith}
use Rattle.std.proofs.lemmas.Bool.{eqb-true}
use Rattle.std.proofs.lemmas.List.Sums.{count_by_more_no}
use Rattle.pst_scen.specs.declared.tree.Node.{Node}
use Rattle.pst_scen.specs.Tree.{is_parent, branch_of}
use Rattle.pst_scen.specs.Laws.{IsPreorder}
use Rattle.pst_nodes.proofs.Climbs.{child_read, parent_less}

named_parent : (parent : ℕ) (of : Option ℕ) → is_parent parent of ≡ true → of ≡ Some parent
named_parent parent None is = absurd cc
named_parent parent (Some p) is = ap Some (sym (eqb-true parent p is))

-- no node up to the block is a branch of it
pub none_early : (nodes : List Node) (block n : ℕ) → IsPreorder nodes → n ≤ block + 1 → n ≤ length nodes → branch_of nodes block n ≡ 0
none_early nodes block zero preorder low within = refl
none_early [] block (suc n) preorder low within = absurd (omega (arith, within))
none_early (d ∷ more) block (suc n) preorder low within =
    ap (branch_of (d ∷ more) block) (next n) ∙ count_by_more_no (λ (node : Node). is_parent block node.parent) (d ∷ more) n d (omega (arith, within)) (not (is_parent block (get_or (d ∷ more) n d).parent) refl)
    ∙ none_early (d ∷ more) block n preorder (omega (arith, low)) (omega (arith, within))
  where
    next : (k : ℕ) → suc k ≡ k + 1
    next k = omega arith

    not : (b : Bool) → is_parent block (get_or (d ∷ more) n d).parent ≡ b → is_parent block (get_or (d ∷ more) n d).parent ≡ false
    not false is = is
    not true is =
        let child = child_read (d ∷ more) n block d (omega (arith, within)) (named_parent block (get_or (d ∷ more) n d).parent is) in
        let less = parent_less (d ∷ more) n block preorder child in
        absurd (omega (arith, less, low))
