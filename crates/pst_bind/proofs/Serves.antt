-- Where no rule of pools is broken, one pool serves each reference and claim.
use Rattle.std.proofs.Common.{◌≡◌, refl, sym, subst, arith, true≢false}
use Rattle.std.specs.Prelude.{ℕ, suc, nat_eq, Bool, true, false, not, ◌||◌, List, [], ◌∷◌, Some, None, if◌then◌else◌}
use Rattle.std.specs.List.{list_any, Contains}
use Rattle.std.proofs.lemmas.Bool.{eqb-false}
use Rattle.pst_ast.specs.declared.instance.Instance.{Instance}
use Rattle.pst_ast.specs.DeclarationTree.{UnitTree}
use Rattle.pst_ast.specs.Breaches.{IsNone}
use Rattle.pst_bound_pools.specs.Serving.{only_one}
use Rattle.pst_bind.specs.Needs.{Need, needs, candidates_for}
use Rattle.pst_bind.specs.PoolRules.{PoolBreach, NoPool, TwoPools}

pub is_first : (p : ℕ) (more : List ℕ) → Contains (p ∷ more) p
is_first p more = (0, omega arith, refl)

pub is_behind : (p q : ℕ) (more : List ℕ) → Contains more q → Contains (p ∷ more) q
is_behind p q more c = (suc c.0, omega (arith, c.1), c.2)

-- another number is in the list
another_by : (p q : ℕ) (more : List ℕ) (b : Bool) → nat_eq q p ≡ b → list_any (λ x. not (nat_eq x p)) (q ∷ more) ≡ true
    → (list_any (λ x. not (nat_eq x p)) more ≡ true → (x : ℕ) × Contains more x × (nat_eq x p ≡ false)) → (x : ℕ) × Contains (q ∷ more) x × (nat_eq x p ≡ false)
another_by p q more true same any on =
    let further = on (subst (λ (b : Bool). (not b || list_any (λ x. not (nat_eq x p)) more) ≡ true) same any) in (further.0, is_behind q further.0 more further.1, further.2)
another_by p q more false other any on = (q, is_first q more, other)

pub another : (p : ℕ) (more : List ℕ) → list_any (λ q. not (nat_eq q p)) more ≡ true → (q : ℕ) × Contains more q × (nat_eq q p ≡ false)
another p [] any = absurd (true≢false (sym any))
another p (q ∷ more) any = another_by p q more (nat_eq q p) refl any (another p more)

pub not_same : (p q : ℕ) → nat_eq q p ≡ false → p ≡ q → ⊥
not_same p q other e = eqb-false q p other (sym e)

module _ (units : List UnitTree) (instances : List Instance) (n : Need) (none : IsNone (PoolBreach units instances)) (is : Contains (needs units instances) n) where
  served_so : (p : ℕ) (more : List ℕ) → candidates_for units instances n ≡ p ∷ more → (b : Bool) → list_any (λ q. not (nat_eq q p)) more ≡ b
      → (pool : ℕ) × ((if b then None else Some p) ≡ Some pool)
  served_so p more found true any =
      let other = another p more any in
      absurd (none n.need.name.place 23
      (TwoPools n p other.0 is (subst (λ (ps : List ℕ). Contains ps p) (sym found) (is_first p more)) (subst (λ (ps : List ℕ). Contains ps other.0) (sym found) (is_behind p other.0 more other.1)) (not_same p other.0 other.2)))
  served_so p more found false any = (p, refl)

  served_by : (ps : List ℕ) → candidates_for units instances n ≡ ps → (pool : ℕ) × (only_one ps ≡ Some pool)
  served_by [] found = absurd (none n.need.name.place 22 (NoPool n is found))
  served_by (p ∷ more) found =
      let pool = served_so p more found (list_any (λ q. not (nat_eq q p)) more) refl in (pool.0, pool.1)

  pub is_served : (pool : ℕ) × (only_one (candidates_for units instances n) ≡ Some pool)
  is_served = served_by (candidates_for units instances n) refl
