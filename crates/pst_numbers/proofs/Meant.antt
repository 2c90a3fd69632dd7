-- The meanings of a list of names are what each of them means.
use Rattle.std.proofs.Common.{◌≡◌, ◌↔◌, ◌⊎◌, inl, inr, ℕ, zero, suc, ◌+◌, ◌<◌, List, [], ◌∷◌, ◌++◌, length, drop, get_or, Option, refl, sym, ap, ◌∙◌, subst, ⊎_elim, arith, append_assoc}
use Rattle.std.specs.Prelude.{Some, None}
use Rattle.std.specs.List.{filter_map, cons_option, Contains}
use Rattle.std.specs.Option.{option_map, option_to_list}
use Rattle.std.proofs.lemmas.List.{append-nil, drop_more}
use Rattle.std.proofs.lemmas.List.Elements.{Contains-append_right}
use Rattle.std.proofs.lemmas.Option.{same_Some}
use Rattle.pst_base.specs.declared.position.Place.{Place}
use Rattle.pst_ast.specs.declared.scope_declaration.Declaration.{Declaration}
use Rattle.pst_ast.specs.declared.entry.NameMeaning.{NameMeaning}
use Rattle.pst_ast.specs.declared.referent.Meant.{Meant}
use Rattle.pst_ast.specs.Scopes.{AreInOrder, Numbers, numbers_of}
use Rattle.pst_numbers.specs.Meanings.{Means, AreMeanings, HaveSame, with_numbers, meaning_of, meanings_of}

module _ {X : Type 0} where
  split_at : (x : X) (xs : List X) (y : X) (k : ℕ) → k < length (x ∷ xs) → get_or (x ∷ xs) k y ≡ y → (x ≡ y) ⊎ Contains xs y
  split_at x xs y zero within is = inl is
  split_at x xs y (suc k) within is = inr (k, omega (arith, within), is)

  split : (x : X) (xs : List X) (y : X) → Contains (x ∷ xs) y → (x ≡ y) ⊎ Contains xs y
  split x xs y has = split_at x xs y has.0 has.1 has.2

  first : (x : X) (xs : List X) (y : X) → x ≡ y → Contains (x ∷ xs) y
  first x xs y e = (0, omega arith, e)

  behind : (x : X) (xs : List X) (y : X) → Contains xs y → Contains (x ∷ xs) y
  behind x xs y has = Contains-append_right (x ∷ []) xs y has

module _ {X Y : Type 0} (f : X → Option Y) where
  abbrev pub IsGiven : List X → Y → Type 0
  IsGiven xs y = (x : X) × Contains xs x × (f x ≡ Some y)

  given_later : (x : X) (xs : List X) (y : Y) → IsGiven xs y → IsGiven (x ∷ xs) y
  given_later x xs y given = (given.0, behind x xs given.0 given.1, given.2)

  found_given : (x : X) (xs : List X) (y : Y) (found : Option Y) → f x ≡ found → (Contains (filter_map f xs) y → IsGiven xs y) → Contains (cons_option found (filter_map f xs)) y → IsGiven (x ∷ xs) y
  found_given x xs y None e rest has = given_later x xs y (rest has)
  found_given x xs y (Some z) e rest has =
      ⊎_elim
      (λ (same : z ≡ y). (x, first x xs x refl, e ∙ ap (λ (v : Y). Some v) same))
      (λ (later : Contains (filter_map f xs) y). given_later x xs y (rest later))
      (split z (filter_map f xs) y has)

  given_found : (x : X) (xs : List X) (y : Y) (found : Option Y) → f x ≡ found → (IsGiven xs y → Contains (filter_map f xs) y) → IsGiven (x ∷ xs) y → Contains (cons_option found (filter_map f xs)) y
  given_found x xs y None e rest given =
      ⊎_elim
      (λ (same : x ≡ given.0). absurd (cc (e, same, given.2)))
      (λ (later : Contains xs given.0). rest (given.0, later, given.2))
      (split x xs given.0 given.1)
  given_found x xs y (Some z) e rest given =
      ⊎_elim
      (λ (same : x ≡ given.0). first z (filter_map f xs) y (cc (e, same, given.2)))
      (λ (later : Contains xs given.0). behind z (filter_map f xs) y (rest (given.0, later, given.2)))
      (split x xs given.0 given.1)

  all_given : (xs : List X) (y : Y) → Contains (filter_map f xs) y → IsGiven xs y
  all_given [] y has = absurd (omega (arith, has.1))
  all_given (x ∷ xs) y has = found_given x xs y (f x) refl (all_given xs y) has

  all_found : (xs : List X) (y : Y) → IsGiven xs y → Contains (filter_map f xs) y
  all_found [] y given = absurd (omega (arith, given.1.1))
  all_found (x ∷ xs) y given = given_found x xs y (f x) refl (all_found xs y) given

  -- one item more of a list is taken
  taken : (found : List Y) (one : Option Y) (xs : List X) → (found ++ option_to_list one) ++ filter_map f xs ≡ found ++ cons_option one (filter_map f xs)
  taken found None xs = ap (λ (ys : List Y). ys ++ filter_map f xs) (append-nil found)
  taken found (Some y) xs = append_assoc found (y ∷ []) (filter_map f xs)

  pub taken_on : (xs : List X) (i : ℕ) (d : X) (one : Option Y) (found more : List Y) → i < length xs → one ≡ f (get_or xs i d) → more ≡ found ++ option_to_list one
      → found ++ filter_map f (drop i xs) ≡ filter_map f xs → more ++ filter_map f (drop (i + 1) xs) ≡ filter_map f xs
  taken_on xs i d one found more within is push so_far =
      ap (λ (ys : List Y). ys ++ filter_map f (drop (i + 1) xs)) push
      ∙ taken found one (drop (i + 1) xs)
      ∙ ap (λ (o : Option Y). found ++ cons_option o (filter_map f (drop (i + 1) xs))) is
      ∙ ap (λ (ys : List X). found ++ filter_map f ys) (sym (drop_more xs i d within))
      ∙ so_far

-- numbers are what a name means
read : (n : Meant) (m : NameMeaning) (numbers : Option Numbers) → option_map (with_numbers n) numbers ≡ Some m → (m.at ≡ n.name.place) × (numbers ≡ Some (m.target, m.member))
read n m None e = cc
read n m (Some numbers) e =
    let same : with_numbers n numbers ≡ m = same_Some (with_numbers n numbers) m e in
    (ap (λ (x : NameMeaning). x.at) (sym same), ap (λ (x : NameMeaning). Some (x.target, x.member)) same)

written : (n : Meant) (m : NameMeaning) (numbers : Option Numbers) → (m.at ≡ n.name.place) × (numbers ≡ Some (m.target, m.member)) → option_map (with_numbers n) numbers ≡ Some m
written n m numbers means =
    ap (λ (o : Option Numbers). option_map (with_numbers n) o) means.1
    ∙ ap (λ (at : Place). Some (record { at = at; target = m.target; member = m.member })) (sym means.0)

each_means : (ds : List Declaration) (meant : List Meant) (m : NameMeaning) → Contains (meanings_of ds meant) m ↔ ((n : Meant) × Contains meant n × Means ds n m)
each_means ds meant m = (
  (λ has. let given = all_given (meaning_of ds) meant m has in (given.0, given.1, read given.0 m (numbers_of ds given.0.referent) given.2)),
  (λ means. all_found (meaning_of ds) meant m (means.0, means.1, written means.0 m (numbers_of ds means.0.referent) means.2)),
)

-- what has the same meanings in order has each
pub are_meanings : (ds : List Declaration) (meant : List Meant) (found ordered : List NameMeaning) → found ≡ meanings_of ds meant → AreInOrder ordered → HaveSame ordered found → AreMeanings ds meant ordered
are_meanings ds meant found ordered is order same = record {
  order = order;
  each = λ m. (
    (λ has. (each_means ds meant m).0 (subst (λ (ms : List NameMeaning). Contains ms m) is ((same m).0 has))),
    (λ means. (same m).1 (subst (λ (ms : List NameMeaning). Contains ms m) (sym is) ((each_means ds meant m).1 means))),
  );
}
