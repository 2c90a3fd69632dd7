-- The nodes that stand directly in one, and their places.
use Rattle.std.proofs.Common.{◌≡◌, ℕ, zero, suc, ◌+◌, List, [], ◌∷◌, map, Bool, true, false, cond, nat_eq, if◌then◌else◌, Option, Some, None, refl, sym, ap, ◌∙◌, subst, arith}
use Rattle.std.specs.Prelude.{slice_get}
use Rattle.std.specs.List.{enumerate_from, filter}
use Rattle.std.specs.Option.{option_map}
use Rattle.std.proofs.lemmas.Option.{none-some, same_Some}
use Rattle.std.proofs.lemmas.Bool.{false≢true, eqb-true, eq-eqb}
use Rattle.pst_scen.specs.declared.tree.Node.{Node}
use Rattle.pst_scen.specs.Tree.{is_parent}
use Rattle.pst_slots.specs.Stated.{position_of}

-- what a function gives of a value, if there is one
pub behind : {A B : Type 0} (f : A → B) (o : Option A) (y : B) → option_map f o ≡ Some y → (x : A) × (o ≡ Some x) × (f x ≡ y)
behind f None y e = absurd (none-some y e)
behind f (Some x) y e = (x, refl, same_Some (f x) y e)

-- ---- places of numbers

by_number : (n x : ℕ) (xs : List ℕ) (index : ℕ) → ((i : ℕ) → position_of n xs ≡ Some i → slice_get xs i ≡ Some n) → (b : Bool) → nat_eq x n ≡ b
    → (if b then Some 0 else option_map suc (position_of n xs)) ≡ Some index → slice_get (x ∷ xs) index ≡ Some n
by_number n x xs index rest true is e =
    let first : 0 ≡ index = same_Some 0 index e in
    subst (λ i. slice_get (x ∷ xs) i ≡ Some n) first (ap Some (eqb-true x n is))
by_number n x xs index rest false is e =
    let b = behind suc (position_of n xs) index e in
    subst (λ i. slice_get (x ∷ xs) i ≡ Some n) b.2 (rest b.0 b.1)

pub at_its_place : (n : ℕ) (xs : List ℕ) (index : ℕ) → position_of n xs ≡ Some index → slice_get xs index ≡ Some n
at_its_place n [] index e = absurd (none-some index e)
at_its_place n (x ∷ xs) index e = by_number n x xs index (λ i is. at_its_place n xs i is) (nat_eq x n) refl e

-- ---- children

-- the numbers of the nodes in a parent, where the first one is numbered k
abbrev pub kids : ℕ → List Node → ℕ → List ℕ
kids k nodes parent = map (λ e. e.0) (filter (λ e. is_parent parent e.1.parent) (enumerate_from k nodes))

pub record IsKid (k : ℕ) (nodes : List Node) (parent n index : ℕ) : Type 0 where
  pub place : ℕ
  pub number : n ≡ k + place
  pub node : Node
  pub is : slice_get nodes place ≡ Some node
  pub in_parent : node.parent ≡ Some parent
  pub at : position_of n (kids k nodes parent) ≡ Some index

in_it : (parent : ℕ) (of : Option ℕ) → is_parent parent of ≡ true → of ≡ Some parent
in_it parent None e = absurd (false≢true e)
in_it parent (Some p) e = ap Some (sym (eqb-true parent p e))

first_place : (n k : ℕ) (xs : List ℕ) (b : Bool) → nat_eq k n ≡ b → k ≡ n → (if b then Some 0 else option_map suc (position_of n xs)) ≡ Some 0
first_place n k xs true e same = refl
first_place n k xs false e same = absurd (false≢true (sym e ∙ eq-eqb k n same))

later_place : (n k i : ℕ) (xs : List ℕ) (b : Bool) → nat_eq k n ≡ b → (k ≡ n → ⊥) → position_of n xs ≡ Some i → (if b then Some 0 else option_map suc (position_of n xs)) ≡ Some (suc i)
later_place n k i xs true e other at = absurd (other (eqb-true k n e))
later_place n k i xs false e other at = ap (option_map suc) at

abbrev kids_by : Bool → ℕ → Node → List Node → ℕ → List ℕ
kids_by b k x xs parent = map (λ e. e.0) (cond b ((k, x) ∷ filter (λ e. is_parent parent e.1.parent) (enumerate_from (k + 1) xs)) (filter (λ e. is_parent parent e.1.parent) (enumerate_from (k + 1) xs)))

-- the same of a node that stands before
record IsKidBy (b : Bool) (k : ℕ) (x : Node) (xs : List Node) (parent n index : ℕ) : Type 0 where
  pub place : ℕ
  pub number : n ≡ k + place
  pub node : Node
  pub is : slice_get (x ∷ xs) place ≡ Some node
  pub in_parent : node.parent ≡ Some parent
  pub at : position_of n (kids_by b k x xs parent) ≡ Some index

by_test : (k : ℕ) (x : Node) (xs : List Node) (parent : ℕ) → ((index n : ℕ) → slice_get (kids (k + 1) xs parent) index ≡ Some n → IsKid (k + 1) xs parent n index)
    → (b : Bool) → is_parent parent x.parent ≡ b → (index n : ℕ) → slice_get (kids_by b k x xs parent) index ≡ Some n → IsKidBy b k x xs parent n index
by_test k x xs parent rest true test zero n is =
    let same : k ≡ n = same_Some k n is in
    record {
      place = 0;
      number = omega (arith, same);
      node = x;
      is = refl;
      in_parent = in_it parent x.parent test;
      at = first_place n k (kids (k + 1) xs parent) (nat_eq k n) refl same;
    }
by_test k x xs parent rest true test (suc i) n is =
    let kid = rest i n is in
    record {
      place = suc kid.place;
      number = omega (arith, kid.number);
      node = kid.node;
      is = kid.is;
      in_parent = kid.in_parent;
      at = later_place n k i (kids (k + 1) xs parent) (nat_eq k n) refl (λ same. omega (arith, same, kid.number)) kid.at;
    }
by_test k x xs parent rest false test index n is =
    let kid = rest index n is in
    record { place = suc kid.place; number = omega (arith, kid.number); node = kid.node; is = kid.is; in_parent = kid.in_parent; at = kid.at }

pub kid_at : (k : ℕ) (nodes : List Node) (parent index n : ℕ) → slice_get (kids k nodes parent) index ≡ Some n → IsKid k nodes parent n index
kid_at k [] parent index n is = absurd (none-some n is)
kid_at k (x ∷ xs) parent index n is =
    let by = by_test k x xs parent (λ i m e. kid_at (k + 1) xs parent i m e) (is_parent parent x.parent) refl index n is in
    record { place = by.place; number = by.number; node = by.node; is = by.is; in_parent = by.in_parent; at = by.at }
