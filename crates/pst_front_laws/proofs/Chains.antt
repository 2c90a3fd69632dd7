-- Chains of bases end where no rule of names is broken.
use Rattle.std.proofs.Common.{◌≡◌, ◌⊎◌, ◌<◌, ◌≤◌, inl, inr, refl, sym, subst, ap, arith, ◌∙◌, true≢false}
use Rattle.std.specs.Prelude.{ℕ, zero, suc, ◌+◌, nat_eq, Bool, true, false, ◌||◌, List, [], ◌∷◌, ◌++◌, length, slice_get, Option, Some, None}
use Rattle.std.specs.List.{list_any, IsDistinct, AllByRecursion}
use Rattle.std.specs.Option.{option_map_or}
use Rattle.std.proofs.lemmas.Bool.{eqb-true, eq-eqb}
use Rattle.std.proofs.lemmas.Map.Steps.{length-le_from_distinct_below}
use Rattle.std.proofs.lemmas.Option.{slice_get_within, none-some, same_Some}
use Rattle.pst_ast.specs.declared.scope_declaration.Declaration.{Declaration}
use Rattle.pst_ast.specs.Lookups.{base_of}
use Rattle.pst_ast.specs.NameRules.{LeadsTo, ToBase, Reaches, AtOnce, Through}
use Rattle.pst_tree.specs.Bases.{bases_within, with_bases}
use Rattle.pst_front_laws.proofs.Elements.{In, in_get}
use Rattle.pst_front_laws.proofs.Bases.{base_there}

-- a number at which a declaration stands
pub standing : (ds : List Declaration) (d : Declaration) → In d ds → (k : ℕ) × (slice_get ds k ≡ Some d)
standing [] d there = absurd there
standing (x ∷ more) d (inl e) = (zero, ap (λ (y : Declaration). Some y) e)
standing (x ∷ more) d (inr there) = let k = standing more d there in (suc k.0, k.1)

-- a chain of bases has so many types at most
abbrev pub HasEnd : List Declaration → ℕ → Declaration → Type 0
HasEnd ds zero d = ⊥
HasEnd ds (suc k) d = (base_of ds d ≡ None) ⊎ ((b : Declaration) × (base_of ds d ≡ Some b) × HasEnd ds k b)

module _ (ds : List Declaration) (never : (d : Declaration) → In d ds → Reaches ds d d → ⊥) where
  reaches_on : (a d e : Declaration) → Reaches ds a d → LeadsTo ds d e → Reaches ds a e
  reaches_on a d e (AtOnce _ _ first) next = Through a d e first (AtOnce d e next)
  reaches_on a d e (Through _ b _ first rest) next = Through a b e first (reaches_on b d e rest next)

  data Path : Declaration → List ℕ → Type 0 where
    Start : (d : Declaration) (k : ℕ) → slice_get ds k ≡ Some d → Path d (k ∷ [])
    Go : (d e : Declaration) (k : ℕ) (ks : List ℕ) → Path d ks → LeadsTo ds d e → slice_get ds k ≡ Some e → Path e (k ∷ ks)

  abbrev IsIn : ℕ → List ℕ → Type 0
  IsIn q ks = list_any (nat_eq q) ks ≡ true

  leads_by : (d e a : Declaration) (k : ℕ) (more : List ℕ) (q : ℕ) → slice_get ds k ≡ Some d → LeadsTo ds d e → slice_get ds q ≡ Some a → (IsIn q more → Reaches ds a d) → (b : Bool) → nat_eq q k ≡ b
      → (b || list_any (nat_eq q) more) ≡ true → Reaches ds a e
  leads_by d e a k more q at next stands on true same any =
      let is : a ≡ d = same_Some a d (sym stands ∙ (ap (slice_get ds) (eqb-true q k same) ∙ at)) in subst (λ (x : Declaration). Reaches ds x e) (sym is) (AtOnce d e next)
  leads_by d e a k more q at next stands on false other any = reaches_on a d e (on any) next

  leads : (d e a : Declaration) (ks : List ℕ) → Path d ks → LeadsTo ds d e → (q : ℕ) → slice_get ds q ≡ Some a → IsIn q ks → Reaches ds a e
  leads d e a ks (Start _ k at) next q stands any = leads_by d e a k [] q at next stands (λ none. absurd (true≢false (sym none))) (nat_eq q k) refl any
  leads d e a ks (Go c _ k more path last at) next q stands any =
      leads_by d e a k more q at next stands (λ further. leads c d a more path last q stands further) (nat_eq q k) refl any

  other_by : (p q : ℕ) → (p ≡ q → ⊥) → (b : Bool) → nat_eq p q ≡ b → nat_eq p q ≡ false
  other_by p q h true same = absurd (h (eqb-true p q same))
  other_by p q h false other = other

  or_left : (a b : Bool) → a ≡ true → (a || b) ≡ true
  or_left a b e = ap (λ (c : Bool). c || b) e

  or_right : (a b : Bool) → b ≡ true → (a || b) ≡ true
  or_right true b e = refl
  or_right false b e = e

  all_others : (p : ℕ) (xs : List ℕ) → ((q : ℕ) → IsIn q xs → p ≡ q → ⊥) → AllByRecursion (λ q. nat_eq p q ≡ false) xs
  all_others p [] h = tt
  all_others p (x ∷ xs) h =
      (other_by p x (h x (or_left (nat_eq x x) (list_any (nat_eq x) xs) (eq-eqb x x refl))) (nat_eq p x) refl, all_others p xs (λ q e. h q (or_right (nat_eq q x) (list_any (nat_eq q) xs) e)))

  distinct : (d : Declaration) (ks : List ℕ) → Path d ks → IsDistinct nat_eq ks
  unfolding IsDistinct
  distinct d ks (Start _ k at) = (tt, tt)
  distinct d ks (Go c _ k more path last at) =
      (all_others k more (λ q any e. never d (in_get ds k d at) (leads c d d more path last q (ap (slice_get ds) (sym e) ∙ at) any)), distinct c more path)

  below_by : (d : Declaration) (k : ℕ) (more : List ℕ) (q : ℕ) → slice_get ds k ≡ Some d → (IsIn q more → q < length ds) → (b : Bool) → nat_eq q k ≡ b → (b || list_any (nat_eq q) more) ≡ true → q < length ds
  below_by d k more q at on true same any = omega (arith, slice_get_within ds k d at, eqb-true q k same)
  below_by d k more q at on false other any = on any

  below : (d : Declaration) (ks : List ℕ) → Path d ks → (q : ℕ) → IsIn q ks → q < length ds
  below d ks (Start _ k at) q any = below_by d k [] q at (λ none. absurd (true≢false (sym none))) (nat_eq q k) refl any
  below d ks (Go c _ k more path last at) q any = below_by d k more q at (below c more path q) (nat_eq q k) refl any

  few : (d : Declaration) (ks : List ℕ) → Path d ks → length ks ≤ length ds
  few d ks path = length-le_from_distinct_below ks (length ds) (distinct d ks path) (below d ks path)

  chain : (left : ℕ) (d : Declaration) (ks : List ℕ) → Path d ks → length ks + left ≡ length ds + 1 → HasEnd ds left d
  chain zero d ks path e = absurd (omega (arith, few d ks path, e))
  chain (suc left) d ks path e = by (base_of ds d) refl (λ b had. let k = base_there ds d b had in chain left b (k.0 ∷ ks) (Go d b k.0 ks path (ToBase b had) k.1) (omega (arith, e)))
    where
      by : (o : Option Declaration) → base_of ds d ≡ o → ((b : Declaration) → base_of ds d ≡ Some b → HasEnd ds left b) → HasEnd ds (suc left) d
      by None had on = inl had
      by (Some b) had on = inr (b, had, on b had)

  pub ends : (d : Declaration) → In d ds → HasEnd ds (length ds) d
  ends d there = let k = standing ds d there in chain (length ds) d (k.0 ∷ []) (Start d k.0 k.1) (omega arith)

  -- ---- bases by any number that is large enough

  same_bases : (k m : ℕ) (d : Declaration) → HasEnd ds k d → HasEnd ds m d → bases_within k ds d ≡ bases_within m ds d
  same_bases zero m d one two = absurd one
  same_bases (suc k) zero d one two = absurd two
  same_bases (suc k) (suc m) d (inl none) two = ap (λ (o : Option Declaration). option_map_or (bases_within k ds) o [] ++ d ∷ []) none ∙ sym (ap (λ (o : Option Declaration). option_map_or (bases_within m ds) o [] ++ d ∷ []) none)
  same_bases (suc k) (suc m) d (inr one) (inl none) = absurd (none-some one.0 (sym none ∙ one.1))
  same_bases (suc k) (suc m) d (inr one) (inr two) =
      let same : two.0 ≡ one.0 = same_Some two.0 one.0 (sym two.1 ∙ one.1) in
      ap (λ (o : Option Declaration). option_map_or (bases_within k ds) o [] ++ d ∷ []) one.1
      ∙ (ap (λ (xs : List Declaration). xs ++ d ∷ []) (same_bases k m one.0 one.2 (subst (HasEnd ds m) same two.2))
      ∙ sym (ap (λ (o : Option Declaration). option_map_or (bases_within m ds) o [] ++ d ∷ []) one.1))

  -- a type without a base, and one with a base
  pub bases_alone : (d : Declaration) → In d ds → base_of ds d ≡ None → with_bases ds d ≡ d ∷ []
  unfolding with_bases
  bases_alone d there none = by (length ds) (ends d there)
    where
      by : (k : ℕ) → HasEnd ds k d → bases_within k ds d ≡ d ∷ []
      by zero end = absurd end
      by (suc k) end = ap (λ (o : Option Declaration). option_map_or (bases_within k ds) o [] ++ d ∷ []) none

  pub bases_behind : (d b : Declaration) → In d ds → base_of ds d ≡ Some b → with_bases ds d ≡ with_bases ds b ++ d ∷ []
  unfolding with_bases
  bases_behind d b there is = by (length ds) (ends d there)
    where
      end_of : (k : ℕ) → HasEnd ds (suc k) d → HasEnd ds k b
      end_of k (inl none) = absurd (none-some b (sym none ∙ is))
      end_of k (inr r) = subst (HasEnd ds k) (same_Some r.0 b (sym r.1 ∙ is)) r.2

      by : (k : ℕ) → HasEnd ds k d → bases_within k ds d ≡ bases_within (length ds) ds b ++ d ∷ []
      by zero end = absurd end
      by (suc k) end =
          let t = base_there ds d b is in
          ap (λ (o : Option Declaration). option_map_or (bases_within k ds) o [] ++ d ∷ []) is ∙ ap (λ (xs : List Declaration). xs ++ d ∷ []) (same_bases k (length ds) b (end_of k end) (ends b (in_get ds t.0 b t.1)))
