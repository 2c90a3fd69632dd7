-- Declarations that are grouped by keys are the members and locals of types.
use Rattle.std.proofs.Common.{◌≡◌, Bool, true, false, ◌&&◌, nat_eq, cond, List, [], ◌∷◌, map, Option, refl, sym, ap, ◌∙◌, ⊎_elim}
use Rattle.std.specs.Prelude.{ℕ, Some, None, if◌then◌else◌}
use Rattle.std.specs.HashMap.{get}
use Rattle.std.specs.List.{filter}
use Rattle.std.specs.Option.{option_map, option_map_or}
use Rattle.std.proofs.lemmas.Bool.Decides.{eqb_tells}
use Rattle.std.proofs.Common.{true≢false}
use Rattle.pst_base.specs.declared.position.Place.{Place}
use Rattle.pst_ast.specs.declared.scope_declaration.Declaration.{Declaration}
use Rattle.pst_ast.specs.declared.scope_declaration.Scope.{Scope}
use Rattle.pst_ast.specs.declared.scope_declaration.Scope.TheVariants.{Files, Part}
use Rattle.pst_ast.specs.Sorts.{same_place, same_scope}
use Rattle.pst_type_rules.specs.Limits.{is_local, is_local_of}
use Rattle.pst_declaration_rules.specs.declared.grouped.By.TheVariants.{OwnScope, OwnText}
use Rattle.pst_declaration_rules.specs.declared.member.Member.{Member}
use Rattle.pst_declaration_rules.specs.declared.sources.TypeSources.{TypeSources}
use Rattle.pst_declaration_rules.specs.Grouped.{has_key, items_at, key_of_scope, place_key, same_key}
use Rattle.pst_declaration_rules.specs.Judged.{locals_of, own_of}
use Rattle.pst_declaration_rules.specs.Tallied.{AreKnown, adding}

module _ {X Y : Type 0} (f : X → Y) (p : Y → Bool) (q : X → Bool) (same : (x : X) → p (f x) ≡ q x) where
  chosen : (x : X) (xs : List X) (b : Bool) → cond b (f x ∷ map f xs) (map f xs) ≡ map f (cond b (x ∷ xs) xs)
  chosen x xs true = refl
  chosen x xs false = refl

  pub filter_of_map : (xs : List X) → filter p (map f xs) ≡ map f (filter q xs)
  filter_of_map [] = refl
  filter_of_map (x ∷ xs) =
      ap (λ (ys : List Y). cond (p (f x)) (f x ∷ ys) ys) (filter_of_map xs)
      ∙ (ap (λ (b : Bool). cond b (f x ∷ map f (filter q xs)) (map f (filter q xs))) (same x) ∙ chosen x (filter q xs) (q x))

turned : (a b : ℕ) (x y : Bool) → nat_eq a b ≡ x → nat_eq b a ≡ y → x ≡ y
turned a b true true p q = refl
turned a b false false p q = refl
turned a b true false p q = ⊎_elim
    (λ t. ⊎_elim (λ u. sym u.0 ∙ q) (λ g. absurd (g.1 (sym t.1))) (eqb_tells b a))
    (λ g. absurd (true≢false (sym p ∙ g.0)))
    (eqb_tells a b)
turned a b false true p q = ⊎_elim
    (λ t. ⊎_elim (λ u. sym (sym u.0 ∙ p)) (λ g. absurd (g.1 (sym t.1))) (eqb_tells a b))
    (λ g. absurd (true≢false (sym q ∙ g.0)))
    (eqb_tells b a)

nat_turned : (a b : ℕ) → nat_eq a b ≡ nat_eq b a
nat_turned a b = turned a b (nat_eq a b) (nat_eq b a) refl refl

place_turned : (p q : Place) → same_place p q ≡ same_place q p
place_turned p q =
    ap (λ (b : Bool). b && (nat_eq p.line q.line && nat_eq p.column q.column)) (nat_turned p.file q.file)
    ∙ (ap (λ (b : Bool). nat_eq q.file p.file && (b && nat_eq p.column q.column)) (nat_turned p.line q.line)
    ∙ ap (λ (b : Bool). nat_eq q.file p.file && (nat_eq q.line p.line && b)) (nat_turned p.column q.column))

scope_test : (p : Place) (s : Scope) → option_map_or (same_key (place_key p)) (key_of_scope s) false ≡ same_scope s (Part p)
scope_test p Files = refl
scope_test p (Part q) = place_turned p q

text_test : (p : Place) (local : Bool) (inside : Option Place) → option_map_or (same_key (place_key p)) (if local then option_map place_key inside else None) false ≡ (local && option_map_or (same_place p) inside false)
text_test p true None = refl
text_test p true (Some q) = refl
text_test p false inside = refl

module _ (k : TypeSources) (known : AreKnown k) (d : Declaration) where
  pub own_is : items_at (get same_key k.scopes.now (place_key d.name.place)) ≡ own_of k d
  own_is =
      known.scopes (place_key d.name.place)
      ∙ (ap (λ (ms : List Member). filter (has_key OwnScope (place_key d.name.place)) ms) known.members
      ∙ filter_of_map (adding k) (has_key OwnScope (place_key d.name.place)) (λ m. same_scope m.scope (Part d.name.place)) (λ m. scope_test d.name.place m.scope) k.index.now)

  pub locals_are : items_at (get same_key k.texts.now (place_key d.name.place)) ≡ locals_of k d
  locals_are =
      known.texts (place_key d.name.place)
      ∙ (ap (λ (ms : List Member). filter (has_key OwnText (place_key d.name.place)) ms) known.members
      ∙ filter_of_map (adding k) (has_key OwnText (place_key d.name.place)) (is_local_of d) (λ m. text_test d.name.place (is_local m.sort) m.inside) k.index.now)
