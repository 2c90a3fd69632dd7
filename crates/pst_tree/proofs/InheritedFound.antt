-- The members that are found are those of the rules of types.
use Rattle.std.proofs.Common.{◌≡◌, ◌≤◌, refl, sym, subst, ap, arith, ◌∙◌, true≢false}
use Rattle.std.specs.Prelude.{ℕ, zero, suc, nat_eq, Bool, true, false, ◌||◌, List, [], ◌∷◌, ◌++◌, length, slice_get, Option, Some}
use Rattle.std.specs.List.{flat_map, list_any, Contains, IsDistinct, AllByRecursion}
use Rattle.std.specs.Option.{option_map_or}
use Rattle.std.proofs.lemmas.Bool.{eqb-true, eq-eqb}
use Rattle.std.proofs.lemmas.List.{append-nil}
use Rattle.std.proofs.lemmas.Grind.{flat_map-append}
use Rattle.std.proofs.lemmas.Map.Steps.{length-le_from_distinct_below}
use Rattle.std.proofs.lemmas.Option.{slice_get_within}
use Rattle.pst_ast.specs.declared.scope_declaration.Declaration.{Declaration}
use Rattle.pst_ast.specs.Lookups.{base_of}
use Rattle.pst_type_rules.specs.Members.{own_members, AreMembers, WithoutBase, WithBase}
use Rattle.pst_tree.specs.Bases.{bases_within, with_bases, members}
use Rattle.pst_tree.proofs.InheritedDeclared.{some_is, is_missing, IsThere, is_there, base_there}

module _ (ds : List Declaration) where
  -- how many types there are on the way to the last base
  abbrev steps : (d : Declaration) (list : List Declaration) → AreMembers ds d list → ℕ
  steps d list (WithoutBase _ none) = 1
  steps d list (WithBase _ base inherited is rest) = suc (steps base inherited rest)

  found_within : (k : ℕ) (d : Declaration) (list : List Declaration) (m : AreMembers ds d list) → steps d list m ≤ k → flat_map (own_members ds) (bases_within k ds d) ≡ list
  found_within zero d list (WithoutBase _ none) less = absurd (omega (arith, less))
  found_within zero d list (WithBase _ base inherited is rest) less = absurd (omega (arith, less))
  found_within (suc k) d list (WithoutBase _ none) less =
      ap (λ (o : Option Declaration). flat_map (own_members ds) (option_map_or (bases_within k ds) o [] ++ d ∷ [])) none ∙ append-nil (own_members ds d)
  found_within (suc k) d list (WithBase _ base inherited is rest) less =
      ap (λ (o : Option Declaration). flat_map (own_members ds) (option_map_or (bases_within k ds) o [] ++ d ∷ [])) is
      ∙ (flat_map-append (own_members ds) (bases_within k ds base) (d ∷ [])
      ∙ (ap (λ (xs : List Declaration). flat_map (own_members ds) (bases_within k ds base) ++ xs) (append-nil (own_members ds d))
      ∙ ap (λ (xs : List Declaration). xs ++ own_members ds d) (found_within k base inherited rest (omega (arith, less)))))

  -- one type has one number of steps
  same_steps : (d e : Declaration) (list other : List Declaration) → d ≡ e → (m : AreMembers ds d list) (n : AreMembers ds e other) → steps d list m ≡ steps e other n
  same_steps d e list other same (WithoutBase _ none) (WithoutBase _ also) = refl
  same_steps d e list other same (WithoutBase _ none) (WithBase _ base inherited is rest) = absurd (is_missing base (sym none ∙ (ap (base_of ds) same ∙ is)))
  same_steps d e list other same (WithBase _ base inherited is rest) (WithoutBase _ none) = absurd (is_missing base (sym none ∙ (ap (base_of ds) (sym same) ∙ is)))
  same_steps d e list other same (WithBase _ base inherited is rest) (WithBase _ another more also behind) =
      ap suc (same_steps base another inherited more (some_is base another (sym is ∙ (ap (base_of ds) same ∙ also))) rest behind)

  -- the numbers of the types on the way
  abbrev numbers : (d : Declaration) (list : List Declaration) → AreMembers ds d list → IsThere ds d → List ℕ
  numbers d list (WithoutBase _ none) here = here.0 ∷ []
  numbers d list (WithBase _ base inherited is rest) here = here.0 ∷ numbers base inherited rest (base_there ds d base is)

  as_many : (d : Declaration) (list : List Declaration) (m : AreMembers ds d list) (here : IsThere ds d) → length (numbers d list m here) ≡ steps d list m
  as_many d list (WithoutBase _ none) here = refl
  as_many d list (WithBase _ base inherited is rest) here = ap suc (as_many base inherited rest (base_there ds d base is))

  -- what stands at a number has no more steps
  record IsOnTheWay (q most : ℕ) : Type 0 where
    type : Declaration
    list : List Declaration
    are : AreMembers ds type list
    stands : slice_get ds q ≡ Some type
    few : steps type list are ≤ most

  any_by : (q p : ℕ) (more : List ℕ) (most : ℕ) → IsOnTheWay p most → (list_any (nat_eq q) more ≡ true → IsOnTheWay q most) → (b : Bool) → nat_eq q p ≡ b → (b || list_any (nat_eq q) more) ≡ true → IsOnTheWay q most
  any_by q p more most first on true same any = subst (λ (k : ℕ). IsOnTheWay k most) (sym (eqb-true q p same)) first
  any_by q p more most first on false other any = on any

  weaker : (q n m : ℕ) → n ≤ m → IsOnTheWay q n → IsOnTheWay q m
  weaker q n m less way = record { type = way.type; list = way.list; are = way.are; stands = way.stands; few = omega (arith, way.few, less) }

  on_the_way : (d : Declaration) (list : List Declaration) (m : AreMembers ds d list) (here : IsThere ds d) (q : ℕ) → list_any (nat_eq q) (numbers d list m here) ≡ true → IsOnTheWay q (steps d list m)
  on_the_way d list (WithoutBase _ none) here q any =
      any_by q here.0 [] 1 (record { type = d; list = list; are = WithoutBase d none; stands = here.1; few = omega arith }) (λ e. absurd (true≢false (sym e))) (nat_eq q here.0) refl any
  on_the_way d list (WithBase _ base inherited is rest) here q any =
      any_by q here.0 (numbers base inherited rest (base_there ds d base is)) (suc (steps base inherited rest))
      (record { type = d; list = list; are = WithBase d base inherited is rest; stands = here.1; few = omega arith })
      (λ e. weaker q (steps base inherited rest) (suc (steps base inherited rest)) (omega arith) (on_the_way base inherited rest (base_there ds d base is) q e)) (nat_eq q here.0) refl any

  other_by : (p q : ℕ) → (p ≡ q → ⊥) → (b : Bool) → nat_eq p q ≡ b → nat_eq p q ≡ false
  other_by p q h true same = absurd (h (eqb-true p q same))
  other_by p q h false other = other

  all_others : (p : ℕ) (xs : List ℕ) → ((q : ℕ) → list_any (nat_eq q) xs ≡ true → p ≡ q → ⊥) → AllByRecursion (λ q. nat_eq p q ≡ false) xs
  all_others p [] h = tt
  all_others p (x ∷ xs) h = (other_by p x (h x (or_left (nat_eq x x) (list_any (nat_eq x) xs) (same_number x))) (nat_eq p x) refl, all_others p xs (λ q e. h q (or_right (nat_eq q x) (list_any (nat_eq q) xs) e)))
    where
      or_left : (a b : Bool) → a ≡ true → (a || b) ≡ true
      or_left a b e = ap (λ (c : Bool). c || b) e

      or_right : (a b : Bool) → b ≡ true → (a || b) ≡ true
      or_right true b e = refl
      or_right false b e = e

      same_number : (x : ℕ) → nat_eq x x ≡ true
      same_number x = eq-eqb x x refl

  distinct : (d : Declaration) (list : List Declaration) (m : AreMembers ds d list) (here : IsThere ds d) → IsDistinct nat_eq (numbers d list m here)
  unfolding IsDistinct
  distinct d list (WithoutBase _ none) here = (tt, tt)
  distinct d list (WithBase _ base inherited is rest) here = (all_others here.0 (numbers base inherited rest (base_there ds d base is)) never, distinct base inherited rest (base_there ds d base is))
    where
      again : (q : ℕ) → here.0 ≡ q → IsOnTheWay q (steps base inherited rest) → ⊥
      again q e way =
          let same : way.type ≡ d = some_is way.type d (sym way.stands ∙ (ap (slice_get ds) (sym e) ∙ here.1)) in
          omega (arith, way.few, same_steps way.type d way.list (inherited ++ own_members ds d) same way.are (WithBase d base inherited is rest))

      never : (q : ℕ) → list_any (nat_eq q) (numbers base inherited rest (base_there ds d base is)) ≡ true → here.0 ≡ q → ⊥
      never q any e = again q e (on_the_way base inherited rest (base_there ds d base is) q any)

  few_steps : (d : Declaration) (list : List Declaration) (m : AreMembers ds d list) → IsThere ds d → steps d list m ≤ length ds
  few_steps d list m here =
      subst (λ (n : ℕ). n ≤ length ds) (as_many d list m here)
      (length-le_from_distinct_below (numbers d list m here) (length ds) (distinct d list m here)
      (λ q any. let way = on_the_way d list m here q any in slice_get_within ds q way.type way.stands))

pub members_are_found : (ds : List Declaration) (d : Declaration) (list : List Declaration) → Contains ds d → AreMembers ds d list → list ≡ members ds d
unfolding with_bases
members_are_found ds d list among m = sym (found_within ds (length ds) d list m (few_steps ds d list m (is_there ds d among)))
