-- A scenario whose numbers have 31 bits is well formed.
use Rattle.std.proofs.Common.{◌≡◌, ◌⊎◌, ℕ, zero, suc, ◌+◌, List, [], ◌∷◌, ◌++◌, map, length, replicate, Option, Some, None, refl, sym, ap, ◌∙◌, subst, inl, inr, ⊎_elim, arith}
use Rattle.std.specs.Prelude.{slice_get}
use Rattle.std.specs.List.{enumerate_from, range_with_len}
use Rattle.std.specs.Option.{option_map}
use Rattle.std.proofs.lemmas.Option.{slice_get-map, none-some, same_Some}
use Rattle.pst_scen.specs.declared.tree.Node.{Node}
use Rattle.pst_scen.specs.declared.tree.Fill.{Fill}
use Rattle.pst_scen.specs.declared.tree.Fill.TheVariants as fill
use Rattle.pst_scen.specs.declared.act.Act.{Act}
use Rattle.pst_scen.specs.declared.scenario.Scenario.{Scenario}
use Rattle.pst_scen.specs.Tree.{StandsUnder, AtTop, Below}
use Rattle.pst_scen.specs.Scenarios.{leaf_of, leaves_of, AreInPreorder, HasLeavesFirst, AreLinked, IsSmall, IsWellFormed}
use Rattle.pst_legal.specs.Growing.{IsWithin}
use Rattle.pst_built.proofs.Bares.{node_in, nodes_in}
use Rattle.pst_built.proofs.Members.{In, in_flat_map, in_get, in_numbered}
use Rattle.pst_built.proofs.Parents.{get_more, parent_in, parents, Under, Here, Lower, InOrder, is_preorder, parent_is}
use Rattle.pst_built.proofs.Built.{leaf_at}

-- what is behind a value that a function gives
behind : {A B : Type 0} (f : A → B) (o : Option A) (y : B) → option_map f o ≡ Some y → (x : A) × (o ≡ Some x) × (f x ≡ y)
behind f None y e = absurd (none-some y e)
behind f (Some x) y e = (x, refl, same_Some (f x) y e)

behind_at : {A B : Type 0} (f : A → B) (xs : List A) (k : ℕ) (y : B) → slice_get (map f xs) k ≡ Some y → (x : A) × (slice_get xs k ≡ Some x) × (f x ≡ y)
behind_at f xs k y e = behind f (slice_get xs k) y (sym (slice_get-map f xs k) ∙ e)

-- ---- parents

under : (nodes : List Node) {top n : ℕ} → StandsUnder nodes top n → Under (parents nodes) top n
under nodes AtTop = Here
under nodes (Below n parent above child) = Lower n parent (under nodes above) (parent_is nodes n child.node child.is ∙ ap Some child.in_parent)

in_order : (nodes : List Node) → AreInPreorder nodes → InOrder (parents nodes)
in_order nodes order = record {
  root = λ p is. let at = behind_at parent_in nodes 0 p is in sym at.2 ∙ order.root at.0 at.1;
  below = λ n p is.
      let at = behind_at parent_in nodes (suc n) p is in
      let b = order.below n at.0 at.1 in
      (b.0, sym at.2 ∙ b.1, under nodes b.2);
}

-- ---- leaves

from_either : {A : Type 0} (xs ys : List A) (k : ℕ) (x : A) → slice_get (xs ++ ys) k ≡ Some x → (slice_get xs k ≡ Some x) ⊎ In x ys
from_either [] ys k x is = inr (in_get ys k x is)
from_either (z ∷ zs) ys zero x is = inl is
from_either (z ∷ zs) ys (suc k) x is = from_either zs ys k x is

not_repeated : {A : Type 0} (k : ℕ) (x : A) → In (Some x) (replicate k None) → ⊥
not_repeated zero x has = has
not_repeated (suc k) x (inl e) = none-some x e
not_repeated (suc k) x (inr has) = not_repeated k x has

-- the number at a place of a list of numbers in order
number_at : (a n k v : ℕ) → slice_get (range_with_len a n) k ≡ Some v → v ≡ a + k
number_at a zero k v is = absurd (none-some v is)
number_at a (suc n) zero v is = let e : a ≡ v = same_Some a v is in omega (arith, e)
number_at a (suc n) (suc k) v is = let e = number_at (a + 1) n k v is in omega (arith, e)

of_leaf : (k : ℕ) (f : Fill) (a n : ℕ) → In (a, n) (leaf_of k f) → (f ≡ fill.Leaf a) × (k ≡ n)
of_leaf k (fill.Leaf act) a n (inl e) = (ap (λ (p : ℕ × ℕ). fill.Leaf p.0) e, ap (λ (p : ℕ × ℕ). p.1) e)
of_leaf k (fill.Leaf act) a n (inr has) = absurd has
of_leaf k (fill.Compound action instance fields) a n has = absurd has
of_leaf k fill.Sequence a n has = absurd has
of_leaf k fill.Parallel a n has = absurd has
of_leaf k fill.Schedule a n has = absurd has
of_leaf k (fill.Joined parallel joined) a n has = absurd has
of_leaf k (fill.Select branch) a n has = absurd has
of_leaf k fill.Repeat a n has = absurd has
of_leaf k (fill.Turn index) a n has = absurd has
of_leaf k (fill.If taken) a n has = absurd has
of_leaf k (fill.Match arm) a n has = absurd has

module _ (s : Scenario) (first : HasLeavesFirst s) where
  leaf_names_act : (n a : ℕ) (node : Node) → slice_get s.nodes n ≡ Some node → node.fill ≡ fill.Leaf a → (act : Act) × (slice_get s.actions a ≡ Some act) × (act.node ≡ Some n)
  leaf_names_act n a node is leaf =
      let at = leaf_at s n a node first.numbers is leaf in
      let mapped : slice_get (map (λ (e : ℕ × ℕ). Some e.1) (leaves_of s.nodes)) a ≡ Some (Some n) = slice_get-map (λ (e : ℕ × ℕ). Some e.1) (leaves_of s.nodes) a ∙ ap (option_map (λ (e : ℕ × ℕ). Some e.1)) at in
      let whole : slice_get (nodes_in s.actions) a ≡ Some (Some n) =
      ap (λ ns. slice_get ns a) first.nodes ∙ get_more (map (λ (e : ℕ × ℕ). Some e.1) (leaves_of s.nodes)) (replicate s.level None) a (Some n) mapped in
      behind_at node_in s.actions a (Some n) whole

  by_entry : (a n : ℕ) (e : ℕ × ℕ) → slice_get (leaves_of s.nodes) a ≡ Some e → e.1 ≡ n → (node : Node) × (slice_get s.nodes n ≡ Some node) × (node.fill ≡ fill.Leaf a)
  by_entry a n e is at =
      let named = in_flat_map (λ x. leaf_of x.0 x.1.fill) (enumerate_from 0 s.nodes) e (in_get (leaves_of s.nodes) a e is) in
      let own = of_leaf named.0.0 named.0.1.fill e.0 e.1 named.2 in
      let there : slice_get s.nodes named.0.0 ≡ Some named.0.1 = in_numbered s.nodes named.0 named.1 in
      let ranged : slice_get (range_with_len 0 (length (leaves_of s.nodes))) a ≡ Some e.0 =
      ap (λ ns. slice_get ns a) (sym first.numbers) ∙ slice_get-map (λ (x : ℕ × ℕ). x.0) (leaves_of s.nodes) a ∙ ap (option_map (λ (x : ℕ × ℕ). x.0)) is in
      let number = number_at 0 (length (leaves_of s.nodes)) a e.0 ranged in
      let same : e.0 ≡ a = omega (arith, number) in
      (named.0.1, subst (λ k. slice_get s.nodes k ≡ Some named.0.1) (own.1 ∙ at) there, own.0 ∙ ap fill.Leaf same)

  act_names_leaf : (a n : ℕ) (act : Act) → slice_get s.actions a ≡ Some act → act.node ≡ Some n → (node : Node) × (slice_get s.nodes n ≡ Some node) × (node.fill ≡ fill.Leaf a)
  act_names_leaf a n act is at =
      let whole : slice_get (nodes_in s.actions) a ≡ Some (Some n) = slice_get-map node_in s.actions a ∙ ap (option_map node_in) is ∙ ap Some at in
      ⊎_elim
      (λ mapped. let e = behind_at (λ (x : ℕ × ℕ). Some x.1) (leaves_of s.nodes) a (Some n) mapped in by_entry a n e.0 e.1 (same_Some e.0.1 n e.2))
      (λ has. absurd (not_repeated s.level n has))
      (from_either (map (λ (e : ℕ × ℕ). Some e.1) (leaves_of s.nodes)) (replicate s.level None) a (Some n) (ap (λ ns. slice_get ns a) (sym first.nodes) ∙ whole))

-- ---- scenarios

pub well_formed : (s : Scenario) → AreInPreorder s.nodes → HasLeavesFirst s → AreLinked s.actions → IsSmall s → IsWellFormed s
well_formed s order first links small = record {
  small = small;
  parents = (is_preorder s.nodes (in_order s.nodes order)).parents;
  leaves = leaf_names_act s first;
  acts = act_names_leaf s first;
  links = λ a r b q filled is to. (links a r filled is).there b q to;
}

pub within_is_small : (s : Scenario) → IsWithin s.nodes s.actions → IsSmall s
within_is_small s within = record { acts = omega (arith, within.few_acts); nodes = omega (arith, within.few_nodes) }
