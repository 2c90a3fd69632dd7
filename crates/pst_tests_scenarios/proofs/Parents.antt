-- Steps from a node to its parent.
use Rattle.std.proofs.Common.{◌≡◌, ◌<◌, ℕ, List, length, get_or, Some, None, ap}
use Rattle.std.proofs.lemmas.Option.{slice_get-get_or}
use Rattle.pst_scen.specs.declared.tree.Node.{Node}
use Rattle.pst_scen.specs.Tree.{IsChild, StandsUnder, AtTop, Below}
use Rattle.pst_scen.specs.Laws.{IsPreorder}

pub same_some : {X : Type 0} (x y : X) → Some x ≡ Some y → x ≡ y
same_some x y e = ap (λ o. elim o [ Some z ↦ z | None ↦ x ]) e

-- the parent that is read is the node's
pub child_read : (nodes : List Node) (n p : ℕ) (d : Node) → n < length nodes → (get_or nodes n d).parent ≡ Some p → IsChild nodes n p
child_read nodes n p d within has = record { node = get_or nodes n d; is = slice_get-get_or nodes n d within; in_parent = has }

pub parent_less : (nodes : List Node) (n p : ℕ) → IsPreorder nodes → IsChild nodes n p → p < n
parent_less nodes n p preorder child = preorder.parents n p child.node child.is child.in_parent

-- what is under a node's parent, or is under it, is under what the parent is under
pub under_up : (nodes : List Node) (top m n : ℕ) → StandsUnder nodes top m → StandsUnder nodes m n → StandsUnder nodes top n
under_up nodes top m _ upper AtTop = upper
under_up nodes top m _ upper (Below n parent under child) = Below n parent (under_up nodes top m parent upper under) child
