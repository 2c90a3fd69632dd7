-- The bases and members of a type by the rules are those that are found.
use Rattle.std.proofs.Common.{◌≡◌, ◌⊎◌, ◌↔◌, inl, inr, refl, sym, subst, ap, ◌∙◌}
use Rattle.std.specs.Prelude.{ℕ, zero, suc, List, [], ◌∷◌, ◌++◌, length, Option, Some, None}
use Rattle.std.specs.List.{flat_map, Contains}
use Rattle.std.proofs.lemmas.List.{append-nil}
use Rattle.std.proofs.lemmas.Grind.{flat_map-append}
use Rattle.std.proofs.lemmas.Option.{none-some, same_Some}
use Rattle.pst_ast.specs.DeclarationTree.{UnitTree}
use Rattle.pst_ast.specs.Breaches.{IsNone}
use Rattle.pst_ast.specs.declared.scope_declaration.Declaration.{Declaration}
use Rattle.pst_ast.specs.Declarations.{declarations}
use Rattle.pst_ast.specs.Lookups.{base_of}
use Rattle.pst_ast.specs.NameRules.{Reaches, NameBreach, OfDeclaration, Loops}
use Rattle.pst_type_rules.specs.Members.{own_members, AreMembers, WithoutBase, WithBase, IsOrDerives, Itself, Derives}
use Rattle.pst_tree.specs.Bases.{with_bases, members}
use Rattle.pst_front_laws.proofs.Elements.{In, in_get, in_append, to_left, to_right, to_contains, from_contains}
use Rattle.pst_front_laws.proofs.Bases.{base_there}
use Rattle.pst_front_laws.proofs.Chains.{HasEnd, ends, bases_alone, bases_behind}

module _ (ds : List Declaration) (never : (d : Declaration) → In d ds → Reaches ds d d → ⊥) where
  base_in : (d b : Declaration) → base_of ds d ≡ Some b → In b ds
  base_in d b is = let t = base_there ds d b is in in_get ds t.0 b t.1

  -- ---- bases

  itself : (d : Declaration) → In d ds → In d (with_bases ds d)
  itself d there = by (base_of ds d) refl
    where
      by : (o : Option Declaration) → base_of ds d ≡ o → In d (with_bases ds d)
      by None is = subst (In d) (sym (bases_alone ds never d there is)) (inl refl)
      by (Some b) is = subst (In d) (sym (bases_behind ds never d b there is)) (to_right (with_bases ds b) (d ∷ []) d (inl refl))

  is_listed : (d base : Declaration) → In d ds → IsOrDerives ds d base → In base (with_bases ds d)
  is_listed _ _ there (Itself d) = itself d there
  is_listed _ _ there (Derives d b from is rest) =
      subst (In from) (sym (bases_behind ds never d b there is)) (to_left (with_bases ds b) (d ∷ []) from (is_listed b from (base_in d b is) rest))

  derives : (k : ℕ) (d base : Declaration) → HasEnd ds k d → In d ds → In base (with_bases ds d) → IsOrDerives ds d base
  derives zero d base end there has = absurd end
  derives (suc k) d base (inl none) there has = by (subst (In base) (bases_alone ds never d there none) has)
    where
      by : In base (d ∷ []) → IsOrDerives ds d base
      by (inl same) = subst (IsOrDerives ds d) same (Itself d)
      by (inr nothing) = absurd nothing
  derives (suc k) d base (inr r) there has =
      by (λ further. derives k r.0 base r.2 (base_in d r.0 r.1) further) (in_append (with_bases ds r.0) (d ∷ []) base (subst (In base) (bases_behind ds never d r.0 there r.1) has))
    where
      by : (In base (with_bases ds r.0) → IsOrDerives ds r.0 base) → In base (with_bases ds r.0) ⊎ In base (d ∷ []) → IsOrDerives ds d base
      by on (inl further) = Derives d r.0 base r.1 (on further)
      by on (inr (inl same)) = subst (IsOrDerives ds d) same (Itself d)
      by on (inr (inr nothing)) = absurd nothing

  -- ---- members

  are_members : (k : ℕ) (d : Declaration) → HasEnd ds k d → In d ds → AreMembers ds d (members ds d)
  are_members zero d end there = absurd end
  are_members (suc k) d (inl none) there =
      subst (AreMembers ds d) (sym (ap (flat_map (own_members ds)) (bases_alone ds never d there none) ∙ append-nil (own_members ds d))) (WithoutBase d none)
  are_members (suc k) d (inr r) there =
      subst (AreMembers ds d)
      (sym (ap (flat_map (own_members ds)) (bases_behind ds never d r.0 there r.1)
      ∙ (flat_map-append (own_members ds) (with_bases ds r.0) (d ∷ []) ∙ ap (λ (xs : List Declaration). members ds r.0 ++ xs) (append-nil (own_members ds d)))))
      (WithBase d r.0 (members ds r.0) r.1 (are_members k r.0 r.2 (base_in d r.0 r.1)))

  one_list : (d e : Declaration) (xs ys : List Declaration) → d ≡ e → AreMembers ds d xs → AreMembers ds e ys → xs ≡ ys
  one_list d e _ _ same (WithoutBase _ none) (WithoutBase _ also) = ap (own_members ds) same
  one_list d e _ _ same (WithoutBase _ none) (WithBase _ b ys is rest) = absurd (none-some b (sym none ∙ (ap (base_of ds) same ∙ is)))
  one_list d e _ _ same (WithBase _ b xs is rest) (WithoutBase _ none) = absurd (none-some b (sym none ∙ (ap (base_of ds) (sym same) ∙ is)))
  one_list d e _ _ same (WithBase _ b xs is rest) (WithBase _ c ys also more) =
      let bases : b ≡ c = same_Some b c (sym is ∙ (ap (base_of ds) same ∙ also)) in λ i. one_list b c xs ys bases rest more i ++ own_members ds (same i)

no_loops : (units : List UnitTree) (names : List (List ℕ)) → IsNone (NameBreach units names) → (d : Declaration) → In d (declarations units) → Reaches (declarations units) d d → ⊥
no_loops units names kept d there r = kept d.name.place 5 (OfDeclaration d 5 (to_contains (declarations units) d there) (Loops r))

pub bases_are_listed : (units : List UnitTree) (names : List (List ℕ)) (d base : Declaration) → IsNone (NameBreach units names) → Contains (declarations units) d
    → IsOrDerives (declarations units) d base ↔ Contains (with_bases (declarations units) d) base
bases_are_listed units names d base kept among =
    let ds = declarations units in
    let never = no_loops units names kept in
    let there = from_contains ds d among.0 among.1 among.2 in (
      λ is. to_contains (with_bases ds d) base (is_listed ds never d base there is),
      λ c. derives ds never (length ds) d base (ends ds never d there) there (from_contains (with_bases ds d) base c.0 c.1 c.2),
    )

pub members_are_listed : (units : List UnitTree) (names : List (List ℕ)) (d : Declaration) (list : List Declaration) → IsNone (NameBreach units names) → Contains (declarations units) d
    → AreMembers (declarations units) d list ↔ (members (declarations units) d ≡ list)
members_are_listed units names d list kept among =
    let ds = declarations units in
    let never = no_loops units names kept in
    let there = from_contains ds d among.0 among.1 among.2 in
    let has = are_members ds never (length ds) d (ends ds never d there) there in (
      λ are. one_list ds never d d (members ds d) list refl has are,
      λ e. subst (AreMembers ds d) e has,
    )
