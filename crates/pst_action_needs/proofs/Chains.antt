-- A chain of bases is that of the base, and then the type itself.
use Rattle.std.proofs.Common.{◌≡◌, ◌<◌, ◌≤◌, arith, refl, sym, subst, ap, ◌∙◌, append_assoc}
use Rattle.std.specs.Prelude.{ℕ, zero, suc, ◌+◌, length, Bool, false, List, [], ◌∷◌, ◌++◌, Option, Some, None}
use Rattle.std.specs.List.{flat_map}
use Rattle.std.specs.Option.{option_map_or}
use Rattle.std.proofs.lemmas.List.{length-append, append-nil}
use Rattle.std.proofs.lemmas.List.Elements.{filter-append}
use Rattle.pst_ast.specs.declared.scope_declaration.Declaration.{Declaration}
use Rattle.pst_ast.specs.declared.scope_declaration.Sort.{Sort}
use Rattle.pst_ast.specs.Lookups.{base_of}
use Rattle.pst_ast.specs.Sorts.{is_claim, is_reference}
use Rattle.pst_type_rules.specs.Members.{those_that, own_members}
use Rattle.pst_tree.specs.declared.sites.ActionSite.{ActionSite}
use Rattle.pst_tree.specs.Bases.{bases_within, with_bases, claims_of, references_of}
use Rattle.pst_tree.specs.InheritedFound.{after, compound_from, own_sort}
use Rattle.pst_tree.specs.Needed.{needs_within}
use Rattle.pst_action_needs.specs.declared.rows.Inherited.{Inherited}
use Rattle.pst_action_needs.specs.Inheriting.{IsInherited}

-- ---- chains

module _ (ds : List Declaration) where
  -- one step more changes nothing where the chain is short
  same_behind : (k : ℕ) (d : Declaration) (base : Option Declaration) → ((b : Declaration) → length (bases_within (suc k) ds b) ≤ k → bases_within (suc k) ds b ≡ bases_within k ds b)
      → length (option_map_or (bases_within (suc k) ds) base [] ++ d ∷ []) ≤ suc k
      → option_map_or (bases_within (suc k) ds) base [] ++ d ∷ [] ≡ option_map_or (bases_within k ds) base [] ++ d ∷ []
  same_behind k d None same few = refl
  same_behind k d (Some b) same few = ap (λ (xs : List Declaration). xs ++ d ∷ []) (same b (omega (arith, few, length-append (bases_within (suc k) ds b) (d ∷ []))))

  same_within : (k : ℕ) (d : Declaration) → length (bases_within (suc k) ds d) ≤ k → bases_within (suc k) ds d ≡ bases_within k ds d
  same_within zero d few = absurd (omega (arith, few, length-append (option_map_or (bases_within zero ds) (base_of ds d) []) (d ∷ [])))
  same_within (suc k) d few = same_behind k d (base_of ds d) (same_within k) few

  with_base_within : (n : ℕ) (d b : Declaration) → base_of ds d ≡ Some b → length (bases_within n ds b) < n → bases_within n ds d ≡ bases_within n ds b ++ d ∷ []
  with_base_within zero d b is few = absurd (omega (arith, few))
  with_base_within (suc k) d b is few =
      ap (λ (o : Option Declaration). option_map_or (bases_within k ds) o [] ++ d ∷ []) is ∙ ap (λ (xs : List Declaration). xs ++ d ∷ []) (sym (same_within k b (omega (arith, few))))

  pub with_base : (d b : Declaration) → base_of ds d ≡ Some b → length (with_bases ds b) < length ds → with_bases ds d ≡ with_bases ds b ++ d ∷ []
  unfolding with_bases
  with_base d b is few = with_base_within (length ds) d b is few

-- ---- what comes with one type more

pub compound_more : (sites : List ActionSite) (before : Bool) (xs : List Declaration) (d : Declaration) → compound_from sites before (xs ++ d ∷ []) ≡ after (compound_from sites before xs) (own_sort sites d)
compound_more sites before [] d = refl
compound_more sites before (x ∷ xs) d = compound_more sites (after before (own_sort sites x)) xs d

pub members_more : (ds : List Declaration) (test : Sort → Bool) (xs : List Declaration) (d : Declaration)
    → those_that test (flat_map (own_members ds) (xs ++ d ∷ [])) ≡ those_that test (flat_map (own_members ds) xs) ++ needs_within test ds d
members_more ds test [] d = ap (those_that test) (append-nil (own_members ds d))
members_more ds test (x ∷ xs) d =
    filter-append (λ m. test m.sort) (own_members ds x) (flat_map (own_members ds) (xs ++ d ∷ []))
    ∙ ap (λ (ys : List Declaration). needs_within test ds x ++ ys) (members_more ds test xs d)
    ∙ sym (append_assoc (needs_within test ds x) (those_that test (flat_map (own_members ds) xs)) (needs_within test ds d))
    ∙ ap (λ (ys : List Declaration). ys ++ needs_within test ds d) (sym (filter-append (λ m. test m.sort) (own_members ds x) (flat_map (own_members ds) xs)))

pub members_of_each : (ds : List Declaration) (test : Sort → Bool) (bases : List Declaration) → flat_map (needs_within test ds) bases ≡ those_that test (flat_map (own_members ds) bases)
members_of_each ds test [] = refl
members_of_each ds test (d ∷ more) =
    ap (λ (xs : List Declaration). needs_within test ds d ++ xs) (members_of_each ds test more) ∙ sym (filter-append (λ m. test m.sort) (own_members ds d) (flat_map (own_members ds) more))

-- ---- rows

module _ (sites : List ActionSite) (ds : List Declaration) (row : Inherited) where
  pub is_walked : (bases : List Declaration) → bases ≡ with_bases ds row.action → row.count ≡ length bases → row.compound ≡ compound_from sites false bases
      → row.references.items ≡ flat_map (needs_within is_reference ds) bases → row.claims.items ≡ flat_map (needs_within is_claim ds) bases → IsInherited sites ds row
  is_walked bases are counted compound references claims = record {
    counted = counted ∙ ap length are;
    is_compound = compound ∙ ap (compound_from sites false) are;
    has_references = references ∙ members_of_each ds is_reference bases ∙ ap (λ (xs : List Declaration). those_that is_reference (flat_map (own_members ds) xs)) are;
    has_claims = claims ∙ members_of_each ds is_claim bases ∙ ap (λ (xs : List Declaration). those_that is_claim (flat_map (own_members ds) xs)) are;
  }

  pub is_derived : (base : Inherited) → base_of ds row.action ≡ Some base.action → IsInherited sites ds base → base.count < length ds → row.count ≡ base.count + 1
      → row.compound ≡ after base.compound (own_sort sites row.action) → row.references.items ≡ base.references.items ++ needs_within is_reference ds row.action
      → row.claims.items ≡ base.claims.items ++ needs_within is_claim ds row.action → IsInherited sites ds row
  is_derived base is are few counted compound references claims =
      let xs = with_bases ds base.action in
      let chain : with_bases ds row.action ≡ xs ++ row.action ∷ [] = with_base ds row.action base.action is (subst (λ (n : ℕ). n < length ds) are.counted few) in
      record {
        counted = counted ∙ ap (λ (n : ℕ). n + 1) are.counted ∙ sym (length-append xs (row.action ∷ [])) ∙ sym (ap length chain);
        is_compound = compound ∙ ap (λ (b : Bool). after b (own_sort sites row.action)) are.is_compound ∙ sym (compound_more sites false xs row.action) ∙ sym (ap (compound_from sites false) chain);
        has_references = references ∙ ap (λ (ys : List Declaration). ys ++ needs_within is_reference ds row.action) are.has_references ∙ sym (members_more ds is_reference xs row.action)
            ∙ sym (ap (λ (ys : List Declaration). those_that is_reference (flat_map (own_members ds) ys)) chain);
        has_claims = claims ∙ ap (λ (ys : List Declaration). ys ++ needs_within is_claim ds row.action) are.has_claims ∙ sym (members_more ds is_claim xs row.action)
            ∙ sym (ap (λ (ys : List Declaration). those_that is_claim (flat_map (own_members ds) ys)) chain);
      }
