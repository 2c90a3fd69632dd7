-- The children of a node are looked for behind it.
use Rattle.std.proofs.Common.{◌≡◌, ℕ, zero, suc, ◌+◌, ◌<◌, ◌≤◌, List, [], ◌∷◌, map, drop, Bool, true, false, Option, Some, None, refl, sym, ap, ◌∙◌, arith}
use Rattle.std.specs.Prelude.{if◌then◌else◌, ◌&&◌, slice_get}
use Rattle.std.specs.List.{enumerate_from, filter}
use Rattle.std.proofs.lemmas.Bool.{ltb-true, lt-ltb, ne_eqb, and_parts}
use Rattle.pst_scen.specs.declared.tree.Node.{Node}
use Rattle.pst_scen.specs.Tree.{is_parent}
use Rattle.pst_handle_nodes.specs.Children.{children_from, names_lower, are_behind, StandEarlier}

not_here : (parent number : ℕ) (of : Option ℕ) → number ≤ parent → names_lower number of ≡ true → is_parent parent of ≡ false
not_here parent number None l h = refl
not_here parent number (Some p) l h = let below : p < number = ltb-true p number h in ne_eqb parent p (λ e. let bad : ⊥ = omega arith in bad)

-- one node more
next_one : (parent number : ℕ) (x : Node) (more : List Node) → children_from parent number (x ∷ more) ≡ (if is_parent parent x.parent then number ∷ children_from parent (number + 1) more else children_from parent (number + 1) more)
next_one parent number x more = go (is_parent parent x.parent)
  where
    rest : List (ℕ × Node)
    rest = filter (λ e. is_parent parent e.1.parent) (enumerate_from (number + 1) more)

    go : (b : Bool) → map (λ e. e.0) (if b then (number, x) ∷ rest else rest) ≡ (if b then number ∷ map (λ e. e.0) rest else map (λ e. e.0) rest)
    go true = refl
    go false = refl

pub behind_it : (parent number n : ℕ) (nodes : List Node) → parent + 1 ≡ number + n → are_behind number nodes ≡ true → children_from parent (parent + 1) (drop n nodes) ≡ children_from parent number nodes
behind_it parent number zero nodes e h = let same : parent + 1 ≡ number = omega arith in ap (λ k. children_from parent k nodes) same
behind_it parent number (suc n) [] e h = refl
behind_it parent number (suc n) (x ∷ xs) e h =
    let parts = and_parts (names_lower number x.parent) (are_behind (number + 1) xs) h in
    behind_it parent (number + 1) n xs (omega arith) parts.1
    ∙ sym (next_one parent number x xs ∙ ap (λ b. if b then number ∷ children_from parent (number + 1) xs else children_from parent (number + 1) xs) (not_here parent number x.parent (omega arith) parts.0))

-- where each node's parent stands before it, all are behind their parents

lower : (number : ℕ) (of : Option ℕ) → ((parent : ℕ) → of ≡ Some parent → parent < number) → names_lower number of ≡ true
lower number None h = refl
lower number (Some parent) h = lt-ltb parent number (h parent refl)

both : (a b : Bool) → a ≡ true → b ≡ true → (a && b) ≡ true
both true b ha hb = hb
both false b ha hb = ha

lower_from : (number : ℕ) (nodes : List Node) → ((n parent : ℕ) (node : Node) → slice_get nodes n ≡ Some node → node.parent ≡ Some parent → parent < number + n) → are_behind number nodes ≡ true
lower_from number [] h = refl
lower_from number (x ∷ xs) h =
    both (names_lower number x.parent) (are_behind (number + 1) xs) (lower number x.parent (λ parent is. let l : parent < number + 0 = h 0 parent x refl is in omega (arith, l)))
    (lower_from (number + 1) xs (λ n parent node at is. let l : parent < number + suc n = h (suc n) parent node at is in omega (arith, l)))

pub earlier_are_behind : (nodes : List Node) → StandEarlier nodes → are_behind 0 nodes ≡ true
earlier_are_behind nodes earlier = lower_from 0 nodes (λ n parent node at is. let l : parent < n = earlier n parent node at is in omega (arith, l))
