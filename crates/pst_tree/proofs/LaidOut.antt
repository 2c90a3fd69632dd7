-- How an instance and those below it stand in a list.
use Rattle.std.proofs.Common.{◌≡◌, ◌⊎◌, inl, inr, arith, ◌<◌, ◌≤◌, refl, sym, subst, ap, ◌∙◌}
use Rattle.std.specs.Prelude.{ℕ, zero, suc, ◌+◌, List, [], ◌∷◌, ◌++◌, length, slice_get, Option, Some}
use Rattle.std.proofs.lemmas.List.{length-append}
use Rattle.pst_base.specs.declared.table.NameId.{NameId}
use Rattle.pst_ast.specs.declared.instance.Instance.{Instance}
use Rattle.pst_ast.specs.declared.scope_declaration.Declaration.{Declaration}
use Rattle.pst_tree.specs.Instances.{instance, IsSubtree, Subtree, AreSubtrees, NoSubtree, MoreSubtrees}
use Rattle.pst_tree.proofs.One.{some_is}
use Rattle.pst_tree.proofs.Found.{is_missing}

-- an instance stands at a number, where the first of the list stands at another one
abbrev pub Stands : ℕ → List Instance → ℕ → Instance → Type 0
Stands n [] m y = ⊥
Stands n (x ∷ xs) m y = ((n ≡ m) × (x ≡ y)) ⊎ Stands (n + 1) xs m y

pub not_before : (n : ℕ) (xs : List Instance) (m : ℕ) (y : Instance) → Stands n xs m y → n ≤ m
not_before n [] m y s = absurd s
not_before n (x ∷ xs) m y (inl e) = omega (arith, e.0)
not_before n (x ∷ xs) m y (inr s) = omega (arith, not_before (n + 1) xs m y s)

pub not_behind : (n : ℕ) (xs : List Instance) (m : ℕ) (y : Instance) → Stands n xs m y → m < n + length xs
not_behind n [] m y s = absurd s
not_behind n (x ∷ xs) m y (inl e) = omega (arith, e.0)
not_behind n (x ∷ xs) m y (inr s) = omega (arith, not_behind (n + 1) xs m y s)

-- the number at which a list stands, by an equation
from : (n k : ℕ) (xs : List Instance) (m : ℕ) (y : Instance) → n ≡ k → Stands n xs m y → Stands k xs m y
from n k xs m y e s = subst (λ (i : ℕ). Stands i xs m y) e s

pub in_front : (n : ℕ) (xs ys : List Instance) (m : ℕ) (y : Instance) → Stands n xs m y → Stands n (xs ++ ys) m y
in_front n [] ys m y s = absurd s
in_front n (x ∷ xs) ys m y (inl e) = inl e
in_front n (x ∷ xs) ys m y (inr s) = inr (in_front (n + 1) xs ys m y s)

pub behind_it : (n : ℕ) (xs ys : List Instance) (m : ℕ) (y : Instance) → Stands (n + length xs) ys m y → Stands n (xs ++ ys) m y
behind_it n [] ys m y s = from (n + 0) n ys m y (omega arith) s
behind_it n (x ∷ xs) ys m y s = inr (behind_it (n + 1) xs ys m y (from (n + length (x ∷ xs)) ((n + 1) + length xs) ys m y (omega arith) s))

pub one_of_both : (n : ℕ) (xs ys : List Instance) (m : ℕ) (y : Instance) → Stands n (xs ++ ys) m y → Stands n xs m y ⊎ Stands (n + length xs) ys m y
one_of_both n [] ys m y s = inr (from n (n + 0) ys m y (omega arith) s)
one_of_both n (x ∷ xs) ys m y (inl e) = inl (inl e)
one_of_both n (x ∷ xs) ys m y (inr s) = further (one_of_both (n + 1) xs ys m y s)
  where
    further : Stands (n + 1) xs m y ⊎ Stands ((n + 1) + length xs) ys m y → Stands n (x ∷ xs) m y ⊎ Stands (n + length (x ∷ xs)) ys m y
    further (inl h) = inl (inr h)
    further (inr h) = inr (from ((n + 1) + length xs) (n + length (x ∷ xs)) ys m y (omega arith) h)

pub from_get : (n : ℕ) (xs : List Instance) (k : ℕ) (y : Instance) → slice_get xs k ≡ Some y → Stands n xs (n + k) y
from_get n [] k y e = absurd (is_missing y e)
from_get n (x ∷ xs) zero y e = inl (omega arith, some_is x y e)
from_get n (x ∷ xs) (suc k) y e = inr (subst (λ (m : ℕ). Stands (n + 1) xs m y) (omega arith) (from_get (n + 1) xs k y e))

pub to_get : (n : ℕ) (xs : List Instance) (m : ℕ) (y : Instance) → Stands n xs m y → (k : ℕ) × (m ≡ n + k) × (slice_get xs k ≡ Some y)
to_get n [] m y s = absurd s
to_get n (x ∷ xs) m y (inl e) = (zero, omega (arith, e.0), ap (λ (z : Instance). Some z) e.1)
to_get n (x ∷ xs) m y (inr s) = let k = to_get (n + 1) xs m y s in (suc k.0, omega (arith, k.1), k.2)

-- one of them is the parent, at an earlier place, and ends no earlier
pub record HasParent (n : ℕ) (xs : List Instance) (m : ℕ) (y : Instance) : Type 0 where
  pub number : ℕ
  pub instance : Instance
  pub named : y.parent ≡ Some number
  pub earlier : number < m
  pub stands : Stands n xs number instance
  pub ends : y.last ≤ instance.last

-- the parent's number is no less
pub record HasParentFrom (t : ℕ) (y : Instance) : Type 0 where
  pub number : ℕ
  pub named : y.parent ≡ Some number
  pub least : t ≤ number

-- subtrees behind one another, whose tops have one parent
pub record AreLaidOut (n : ℕ) (up : Option ℕ) (xs : List Instance) : Type 0 where
  pub least : (m : ℕ) (y : Instance) → Stands n xs m y → m ≤ y.last
  pub most : (m : ℕ) (y : Instance) → Stands n xs m y → y.last < n + length xs
  pub parents : (m : ℕ) (y : Instance) → Stands n xs m y → (y.parent ≡ up) ⊎ HasParent n xs m y
  pub inside : (t : ℕ) (z : Instance) (m : ℕ) (y : Instance) → Stands n xs t z → Stands n xs m y → t < m → m ≤ z.last → HasParentFrom t y

-- ---- none

none_laid_out : (n : ℕ) (up : Option ℕ) → AreLaidOut n up []
none_laid_out n up = record { least = λ m y s. absurd s; most = λ m y s. absurd s; parents = λ m y s. absurd s; inside = λ t z m y s. absurd s }

-- ---- one behind another

module _ (n : ℕ) (up : Option ℕ) (xs ys : List Instance) (here : AreLaidOut n up xs) (there : AreLaidOut (n + length xs) up ys) where
  least_of_both : (m : ℕ) (y : Instance) → Stands n xs m y ⊎ Stands (n + length xs) ys m y → m ≤ y.last
  least_of_both m y (inl s) = here.least m y s
  least_of_both m y (inr s) = there.least m y s

  most_of_both : (m : ℕ) (y : Instance) → Stands n xs m y ⊎ Stands (n + length xs) ys m y → y.last < n + length (xs ++ ys)
  most_of_both m y (inl s) = omega (arith, here.most m y s, length-append xs ys)
  most_of_both m y (inr s) = omega (arith, there.most m y s, length-append xs ys)

  parent_in_front : (m : ℕ) (y : Instance) → (y.parent ≡ up) ⊎ HasParent n xs m y → (y.parent ≡ up) ⊎ HasParent n (xs ++ ys) m y
  parent_in_front m y (inl e) = inl e
  parent_in_front m y (inr p) = inr (record { number = p.number; instance = p.instance; named = p.named; earlier = p.earlier; stands = in_front n xs ys p.number p.instance p.stands; ends = p.ends })

  parent_behind : (m : ℕ) (y : Instance) → (y.parent ≡ up) ⊎ HasParent (n + length xs) ys m y → (y.parent ≡ up) ⊎ HasParent n (xs ++ ys) m y
  parent_behind m y (inl e) = inl e
  parent_behind m y (inr p) = inr (record { number = p.number; instance = p.instance; named = p.named; earlier = p.earlier; stands = behind_it n xs ys p.number p.instance p.stands; ends = p.ends })

  parents_of_both : (m : ℕ) (y : Instance) → Stands n xs m y ⊎ Stands (n + length xs) ys m y → (y.parent ≡ up) ⊎ HasParent n (xs ++ ys) m y
  parents_of_both m y (inl s) = parent_in_front m y (here.parents m y s)
  parents_of_both m y (inr s) = parent_behind m y (there.parents m y s)

  inside_both : (t : ℕ) (z : Instance) (m : ℕ) (y : Instance) → Stands n xs t z ⊎ Stands (n + length xs) ys t z → Stands n xs m y ⊎ Stands (n + length xs) ys m y → t < m → m ≤ z.last
      → HasParentFrom t y
  inside_both t z m y (inl a) (inl b) later within = here.inside t z m y a b later within
  inside_both t z m y (inl a) (inr b) later within = absurd (omega (arith, here.most t z a, not_before (n + length xs) ys m y b, within))
  inside_both t z m y (inr a) (inl b) later within = absurd (omega (arith, not_before (n + length xs) ys t z a, not_behind n xs m y b, later))
  inside_both t z m y (inr a) (inr b) later within = there.inside t z m y a b later within

  both_laid_out : AreLaidOut n up (xs ++ ys)
  both_laid_out = record {
    least = λ m y s. least_of_both m y (one_of_both n xs ys m y s);
    most = λ m y s. most_of_both m y (one_of_both n xs ys m y s);
    parents = λ m y s. parents_of_both m y (one_of_both n xs ys m y s);
    inside = λ t z m y a b. inside_both t z m y (one_of_both n xs ys t z a) (one_of_both n xs ys m y b);
  }

-- ---- a top with those below it

module _ (n : ℕ) (up : Option ℕ) (top : Instance) (below : List Instance) (above : top.parent ≡ up) (last : top.last ≡ n + length below) (laid : AreLaidOut (n + 1) (Some n) below) where
  least_with_top : (m : ℕ) (y : Instance) → Stands n (top ∷ below) m y → m ≤ y.last
  least_with_top m y (inl e) = omega (arith, e.0, ap (λ (z : Instance). z.last) e.1, last)
  least_with_top m y (inr s) = laid.least m y s

  most_with_top : (m : ℕ) (y : Instance) → Stands n (top ∷ below) m y → y.last < n + length (top ∷ below)
  most_with_top m y (inl e) = omega (arith, ap (λ (z : Instance). z.last) e.1, last)
  most_with_top m y (inr s) = omega (arith, laid.most m y s)

  below_top : (m : ℕ) (y : Instance) → Stands (n + 1) below m y → (y.parent ≡ Some n) ⊎ HasParent (n + 1) below m y → HasParent n (top ∷ below) m y
  below_top m y s (inl e) = record { number = n; instance = top; named = e; earlier = omega (arith, not_before (n + 1) below m y s); stands = inl (refl, refl); ends = omega (arith, laid.most m y s, last) }
  below_top m y s (inr p) = record { number = p.number; instance = p.instance; named = p.named; earlier = p.earlier; stands = inr p.stands; ends = p.ends }

  parents_with_top : (m : ℕ) (y : Instance) → Stands n (top ∷ below) m y → (y.parent ≡ up) ⊎ HasParent n (top ∷ below) m y
  parents_with_top m y (inl e) = inl (sym (ap (λ (z : Instance). z.parent) e.1) ∙ above)
  parents_with_top m y (inr s) = inr (below_top m y s (laid.parents m y s))

  from_top : (t m : ℕ) (y : Instance) → n ≡ t → (y.parent ≡ Some n) ⊎ HasParent (n + 1) below m y → HasParentFrom t y
  from_top t m y e (inl f) = record { number = n; named = f; least = omega (arith, e) }
  from_top t m y e (inr p) = record { number = p.number; named = p.named; least = omega (arith, e, not_before (n + 1) below p.number p.instance p.stands) }

  inside_with_top : (t : ℕ) (z : Instance) (m : ℕ) (y : Instance) → Stands n (top ∷ below) t z → Stands n (top ∷ below) m y → t < m → m ≤ z.last → HasParentFrom t y
  inside_with_top t z m y (inl a) (inl b) later within = absurd (omega (arith, a.0, b.0, later))
  inside_with_top t z m y (inl a) (inr b) later within = from_top t m y a.0 (laid.parents m y b)
  inside_with_top t z m y (inr a) (inl b) later within = absurd (omega (arith, not_before (n + 1) below t z a, b.0, later))
  inside_with_top t z m y (inr a) (inr b) later within = laid.inside t z m y a b later within

  top_laid_out : AreLaidOut n up (top ∷ below)
  top_laid_out = record { least = least_with_top; most = most_with_top; parents = parents_with_top; inside = inside_with_top }

-- ---- subtrees

module _ (ds : List Declaration) where
  mutual
    pub subtree_laid_out : (number : ℕ) (component : Declaration) (name : NameId) (parent : Option ℕ) (xs : List Instance) → IsSubtree ds number component name parent xs → AreLaidOut number parent xs
    subtree_laid_out number component name parent xs (Subtree _ _ _ _ below rest) =
        top_laid_out number parent (instance name component parent (number + length below)) below refl refl (subtrees_laid_out number (number + 1) _ below rest)

    subtrees_laid_out : (parent number : ℕ) (row : List Declaration) (xs : List Instance) → AreSubtrees ds parent number row xs → AreLaidOut number (Some parent) xs
    subtrees_laid_out parent number row xs (NoSubtree _ _) = none_laid_out number (Some parent)
    subtrees_laid_out parent number row xs (MoreSubtrees _ _ d component more first rest typed tree behind) =
        both_laid_out number (Some parent) first rest (subtree_laid_out number component d.name.id (Some parent) first tree) (subtrees_laid_out parent (number + length first) more rest behind)
