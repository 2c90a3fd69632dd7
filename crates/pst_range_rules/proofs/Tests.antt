-- What tests tell, and findings where a test is true.
use Rattle.std.proofs.Common.{◌≡◌, inr, ℕ, ℤ, ◌≤ℤ◌, ◌<ℤ◌, int_lt, int_le, Bool, true, false, arith, refl, sym, ap, ◌∙◌, true≢false}
use Rattle.std.specs.Prelude.{Some, None, is_some, if◌then◌else◌}
use Rattle.std.specs.Option.{unwrap_or}
use Rattle.std.specs.Ordering.{int_eq}
use Rattle.std.proofs.lemmas.Int.{ints}
use Rattle.std.proofs.lemmas.Bool.Decides.{Decides-int_eq}
use Rattle.pst_base.specs.declared.position.Place.{Place}
use Rattle.pst_ast.specs.declared.referent.Finding.{Finding}
use Rattle.pst_ast.specs.NameRules.{finding}
use Rattle.pst_name_rules.specs.Leasts.{NoLater, IsLeastOf}

pub by_le : (a b : ℤ) → int_le a b ≡ true → a ≤ℤ b
by_le a b t = omega (arith, ints, t)

pub by_lt : (a b : ℤ) → int_lt a b ≡ true → a <ℤ b
by_lt a b t = omega (arith, ints, t)

pub lt_test : (a b : ℤ) → a <ℤ b → int_lt a b ≡ true
lt_test a b h = grind (arith, ints)

pub le_test : (a b : ℤ) → a ≤ℤ b → int_le a b ≡ true
le_test a b h = grind (arith, ints)

pub by_equality : (a b : ℤ) → int_eq a b ≡ true → a ≡ b
by_equality a b e = (Decides-int_eq a b).0 e

pub equal_test : (a b : ℤ) → a ≡ b → int_eq a b ≡ true
equal_test a b e = (Decides-int_eq a b).1 e

pub some_is : {A : Type 0} (x y : A) → Some x ≡ Some y → x ≡ y
some_is x y e = ap (λ o. unwrap_or o x) e

pub none_is_some : {A : Type 0} (x : A) → None ≡ Some x → ⊥
none_is_some x e = true≢false (sym (ap is_some e))

-- ---- a finding where a test is true

module _ (place : Place) (rule : ℕ) where
  -- it is that finding
  pub found_if : (b : Bool) (f : Finding) → (if b then finding place rule else None) ≡ Some f → (b ≡ true) × (f.place ≡ place) × (f.rule ≡ rule)
  found_if true f is = let same = some_is _ f is in (refl, ap (λ (g : Finding). g.place) (sym same), ap (λ (g : Finding). g.rule) (sym same))
  found_if false f is = absurd (none_is_some f is)

  -- it is found
  pub is_found : (b : Bool) (f : Finding) → b ≡ true → f.place ≡ place → f.rule ≡ rule → (if b then finding place rule else None) ≡ Some f
  is_found true f is at by = ap Some (ap (λ (p : Place). finding_of p rule) (sym at) ∙ ap (λ (n : ℕ). finding_of f.place n) (sym by))
    where
      finding_of : Place → ℕ → Finding
      finding_of p n = record { place = p; rule = n }
  is_found false f is at by = absurd (true≢false (sym is))

  -- it is the least where it is the only one
  pub least_if : (P : Finding → Type 0) (b : Bool) → (b ≡ true → P (record { place = place; rule = rule })) → ((f : Finding) → P f → (b ≡ true) × (f.place ≡ place) × (f.rule ≡ rule))
      → IsLeastOf P (if b then finding place rule else None)
  least_if P true is only = (is refl, λ g has. inr_of g (only g has))
    where
      inr_of : (g : Finding) → (true ≡ true) × (g.place ≡ place) × (g.rule ≡ rule) → NoLater (record { place = place; rule = rule }) g
      inr_of g h = inr (sym h.1, omega (arith, h.2))
  least_if P false is only = λ f has. true≢false (sym (only f has).0)
