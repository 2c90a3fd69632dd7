-- The tokens of units that texts spell stand at rising places.
use Rattle.std.proofs.Common.{◌≡◌, ◌⊎◌, ◌≤◌, inl, inr, refl, sym, subst, arith}
use Rattle.std.specs.Prelude.{ℕ, suc, List, [], ◌∷◌, ◌++◌, length, map}
use Rattle.std.specs.List.{flat_map, AllByRecursion, AllZip}
use Rattle.pst_base.specs.declared.position.Place.{Place}
use Rattle.pst_base.specs.Places.{IsBefore}
use Rattle.pst_token.specs.declared.token.Token.{Token}
use Rattle.pst_token.specs.Laws.{TokensAreInOrder, TokensBelong}
use Rattle.pst_token.specs.Order.{AreRising}
use Rattle.pst_texts.specs.Texts.{AreTokensInTurn, AreTokensOfTexts}
use Rattle.pst_ast.specs.Answers.{IsWhole}
use Rattle.pst_ast.specs.DeclarationTree.{UnitTree}
use Rattle.pst_ast.specs.DeclarationSpelling.{spell_unit}
use Rattle.pst_sound_model.proofs.Members.{In, in_append}

abbrev places : List Token → List Place
places tokens = map (λ token. token.place) tokens

each_is : (P : Token → Type 0) (xs : List Token) → AllByRecursion P xs → (x : Token) → In x xs → P x
each_is P [] all x there = absurd there
each_is P (y ∷ ys) all x (inl e) = subst P e all.0
each_is P (y ∷ ys) all x (inr h) = each_is P ys all.1 x h

joined : (xs ys : List Token) → AreRising (places xs) → AreRising (places ys) → ((x y : Token) → In x xs → In y ys → IsBefore x.place y.place) → AreRising (places (xs ++ ys))
joined [] ys a b before = b
joined (x ∷ []) [] a b before = tt
joined (x ∷ []) (y ∷ ys) a b before = (before x y (inl refl) (inl refl), b)
joined (x ∷ z ∷ xs) ys a b before = (a.0, joined (z ∷ xs) ys a.1 b (λ u v h k. before u v (inr h) k))

module _ (order : TokensAreInOrder) (belong : TokensBelong) (names : List (List ℕ)) where
  abbrev spelled : List UnitTree → List Token
  spelled units = flat_map spell_unit units

  rise : (file : ℕ) (texts : List (List ℕ)) (tokens : List (List Token)) (units : List UnitTree) (free next : ℕ) → AreTokensInTurn file names texts tokens free next → AllZip IsWhole tokens units
      → AreRising (places (spelled units)) × ((t : Token) → In t (spelled units) → file ≤ t.place.file)
  rise file [] [] [] free next turn wholes = (tt, λ t h. absurd h)
  rise file [] [] (unit ∷ units) free next turn wholes = absurd wholes
  rise file [] (ts ∷ more) units free next turn wholes = absurd turn
  rise file (text ∷ texts) [] units free next turn wholes = absurd turn
  rise file (text ∷ texts) (ts ∷ more) [] free next turn wholes = absurd wholes
  rise file (text ∷ texts) (ts ∷ more) (unit ∷ units) free next turn wholes =
      let same : spell_unit unit ≡ ts = wholes.0.spelled in
      let rest = rise (suc file) texts more units turn.0 next turn.3 wholes.1 in
      let first : AreRising (places (spell_unit unit)) = subst (λ (xs : List Token). AreRising (places xs)) (sym same) (order file names text ts turn.1).1 in
      let here : (t : Token) → In t (spell_unit unit) → t.place.file ≡ file = λ t h. each_is (λ token. token.place.file ≡ file) ts (belong file names text ts turn.1).0 t (subst (In t) same h) in (
        joined (spell_unit unit) (spelled units) first rest.0 (λ x y h k. inl (omega (arith, here x h, rest.1 y k))),
        λ t h. by t here rest.1 (in_append (spell_unit unit) (spelled units) t h),
      )
    where
      by : (t : Token) → ((t : Token) → In t (spell_unit unit) → t.place.file ≡ file) → ((t : Token) → In t (spelled units) → suc file ≤ t.place.file) → In t (spell_unit unit) ⊎ In t (spelled units) → file ≤ t.place.file
      by t here later (inl h) = omega (arith, here t h)
      by t here later (inr h) = omega (arith, later t h)

  pub units_rise : (texts : List (List ℕ)) (tokens : List (List Token)) (units : List UnitTree) → AreTokensOfTexts texts names tokens → AllZip IsWhole tokens units → AreRising (places (spelled units))
  units_rise texts tokens units are wholes = (rise 0 texts tokens units 0 (length names) are.are wholes).0
