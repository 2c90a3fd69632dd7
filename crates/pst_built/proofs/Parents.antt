-- Nodes in preorder, by their parents alone.
use Rattle.std.proofs.Common.{◌≡◌, ◌⊎◌, ℕ, zero, suc, ◌<◌, ◌≤◌, List, [], ◌∷◌, ◌++◌, map, length, Option, Some, None, refl, sym, ap, ◌∙◌, subst, inl, inr, ⊎_elim, arith}
use Rattle.std.specs.Prelude.{slice_get}
use Rattle.std.specs.Option.{option_map}
use Rattle.std.proofs.lemmas.Option.{slice_get-map, none-some, same_Some}
use Rattle.pst_scen.specs.declared.tree.Node.{Node}
use Rattle.pst_scen.specs.Tree.{StandsUnder, AtTop, Below, IsChild}
use Rattle.pst_scen.specs.Scenarios.{AreInPreorder}
use Rattle.pst_scen.specs.Laws.{IsPreorder}

-- ---- elements of longer lists

pub get_more : {A : Type 0} (xs ys : List A) (k : ℕ) (x : A) → slice_get xs k ≡ Some x → slice_get (xs ++ ys) k ≡ Some x
get_more [] ys k x is = absurd (none-some x is)
get_more (z ∷ zs) ys zero x is = is
get_more (z ∷ zs) ys (suc k) x is = get_more zs ys k x is

pub get_last : {A : Type 0} (xs : List A) (x : A) → slice_get (xs ++ x ∷ []) (length xs) ≡ Some x
get_last [] x = refl
get_last (z ∷ zs) x = get_last zs x

pub get_cases : {A : Type 0} (xs : List A) (x : A) (k : ℕ) (y : A) → slice_get (xs ++ x ∷ []) k ≡ Some y → (slice_get xs k ≡ Some y) ⊎ ((k ≡ length xs) × (x ≡ y))
get_cases [] x zero y is = inr (refl, same_Some x y is)
get_cases [] x (suc k) y is = absurd (none-some y is)
get_cases (z ∷ zs) x zero y is = inl is
get_cases (z ∷ zs) x (suc k) y is = ⊎_elim (λ e. inl e) (λ e. inr (ap suc e.0, e.1)) (get_cases zs x k y is)

-- ---- parents

abbrev pub parent_in : Node → Option ℕ
parent_in node = node.parent

abbrev pub parents : List Node → List (Option ℕ)
parents nodes = map parent_in nodes

-- one node is another, or stands below it
pub data Under (above : List (Option ℕ)) (top : ℕ) : ℕ → Type 0 where
  Here : Under above top top
  Lower : (n parent : ℕ) → Under above top parent → slice_get above n ≡ Some (Some parent) → Under above top n

pub under_all : {above : List (Option ℕ)} {a b c : ℕ} → Under above a b → Under above b c → Under above a c
under_all one Here = one
under_all one (Lower n parent other is) = Lower n parent (under_all one other) is

pub under_more : (xs ys : List (Option ℕ)) {a b : ℕ} → Under xs a b → Under (xs ++ ys) a b
under_more xs ys Here = Here
under_more xs ys (Lower n parent other is) = Lower n parent (under_more xs ys other) (get_more xs ys n (Some parent) is)

pub record InOrder (above : List (Option ℕ)) : Type 0 where
  pub root : (p : Option ℕ) → slice_get above 0 ≡ Some p → p ≡ None
  pub below : (n : ℕ) (p : Option ℕ) → slice_get above (suc n) ≡ Some p → (parent : ℕ) × (p ≡ Some parent) × Under above parent n

-- the next node may stand in that parent: the first node in none, and another one in the last node or in one that contains it
abbrev pub IsPlace : Option ℕ → List (Option ℕ) → Type 0
IsPlace None above = above ≡ []
IsPlace (Some parent) above = (n : ℕ) × (length above ≡ suc n) × Under above parent n

first_node : (xs : List (Option ℕ)) (p q : Option ℕ) → IsPlace p xs → 0 ≡ length xs → p ≡ q → q ≡ None
first_node xs None q place e same = sym same
first_node xs (Some parent) q place e same = absurd (omega (arith, e, place.1))

next_node : (xs : List (Option ℕ)) (p q : Option ℕ) (n : ℕ) → IsPlace p xs → suc n ≡ length xs → p ≡ q → (parent : ℕ) × (q ≡ Some parent) × Under xs parent n
next_node xs None q n place e same = let l : length xs ≡ 0 = ap length place in absurd (omega (arith, e, l))
next_node xs (Some parent) q n place e same = (parent, sym same, subst (λ k. Under xs parent k) (omega (arith, e, place.1)) place.2)

pub order_push : (xs : List (Option ℕ)) (p : Option ℕ) → InOrder xs → IsPlace p xs → InOrder (xs ++ p ∷ [])
order_push xs p order place = record {
  root = λ q is. ⊎_elim (λ e. order.root q e) (λ e. first_node xs p q place e.0 e.1) (get_cases xs p 0 q is);
  below = λ n q is. ⊎_elim
      (λ e. let b = order.below n q e in (b.0, b.1, under_more xs (p ∷ []) b.2))
      (λ e. let b = next_node xs p q n place e.0 e.1 in (b.0, b.1, under_more xs (p ∷ []) b.2)) (get_cases xs p (suc n) q is);
}

-- ---- nodes

by_node : (nodes : List Node) (n parent : ℕ) (node : Option Node) → slice_get nodes n ≡ node → option_map parent_in node ≡ Some (Some parent) → IsChild nodes n parent
by_node nodes n parent None is e = absurd cc
by_node nodes n parent (Some node) is e = record { node = node; is = is; in_parent = same_Some node.parent (Some parent) e }

stands : (nodes : List Node) {top n : ℕ} → Under (parents nodes) top n → StandsUnder nodes top n
stands nodes Here = AtTop
stands nodes (Lower n parent other is) = Below n parent (stands nodes other) (by_node nodes n parent (slice_get nodes n) refl (sym (slice_get-map parent_in nodes n) ∙ is))

pub parent_is : (nodes : List Node) (n : ℕ) (node : Node) → slice_get nodes n ≡ Some node → slice_get (parents nodes) n ≡ Some node.parent
parent_is nodes n node is = slice_get-map parent_in nodes n ∙ ap (option_map parent_in) is

pub in_preorder : (nodes : List Node) → InOrder (parents nodes) → AreInPreorder nodes
in_preorder nodes order = record {
  root = λ node is. order.root node.parent (parent_is nodes 0 node is);
  below = λ n node is. let b = order.below n node.parent (parent_is nodes (suc n) node is) in (b.0, b.1, stands nodes b.2);
}

-- a node stands below earlier ones
under_within : (xs : List (Option ℕ)) → InOrder xs → (bound top n : ℕ) → n < bound → Under xs top n → top ≤ n
under_within xs order zero top n l under = absurd (omega (arith, l))
under_within xs order (suc bound) top n l Here = omega arith
under_within xs order (suc bound) top zero l (Lower n parent other is) = absurd (none-some parent (sym (order.root (Some parent) is)))
under_within xs order (suc bound) top (suc k) l (Lower n parent other is) =
    let b = order.below k (Some parent) is in
    let e : parent ≡ b.0 = same_Some parent b.0 b.1 in
    let p = under_within xs order bound b.0 k (omega (arith, l)) b.2 in
    let q = under_within xs order bound top parent (omega (arith, l, e, p)) other in
    omega (arith, e, p, q)

pub is_preorder : (nodes : List Node) → InOrder (parents nodes) → IsPreorder nodes
is_preorder nodes order = record { parents = earlier }
  where
    earlier : (n parent : ℕ) (node : Node) → slice_get nodes n ≡ Some node → node.parent ≡ Some parent → parent < n
    earlier zero parent node is e = absurd (none-some parent (sym (order.root node.parent (parent_is nodes 0 node is)) ∙ e))
    earlier (suc k) parent node is e =
        let b = order.below k node.parent (parent_is nodes (suc k) node is) in
        let same : b.0 ≡ parent = same_Some b.0 parent (sym b.1 ∙ e) in
        let l = under_within (parents nodes) order (suc k) b.0 k (omega arith) b.2 in
        omega (arith, same, l)
