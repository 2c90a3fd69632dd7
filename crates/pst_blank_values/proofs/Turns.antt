-- Lists of blanks in which each blank stands behind as many of its row as its place says.
use Rattle.std.proofs.Common.{◌≡◌, ℕ, zero, suc, ◌+◌, ◌<◌, ◌≤◌, List, [], ◌∷◌, ◌++◌, map, true, Some, refl, sym, ap, ◌∙◌, subst, inl, inr, arith, append_assoc, append-nil}
use Rattle.std.specs.Prelude.{slice_get, flat_map}
use Rattle.std.specs.List.{range_with_len}
use Rattle.std.proofs.lemmas.Option.{none-some, same_Some}
use Rattle.pst_model.specs.ModelTree.{ModelTree}
use Rattle.pst_scen.specs.declared.act.Act.{Act}
use Rattle.pst_scen.specs.declared.act.Filled.{Filled}
use Rattle.pst_scen.specs.Scenarios.{reference_at}
use Rattle.pst_legal.specs.Blanks.{Blank, Instance, OfFirst, OfAct, OfOutput, OfClaim, used_state_pools}
use Rattle.pst_built.proofs.Members.{In}
use Rattle.pst_blank_values.specs.Rows.{Claims, Row, InAct, row_of, place_of}
use Rattle.pst_blank_values.proofs.Counts.{same_row, same_itself, AreOne, are_one, one_if, count, count_join, count_one, count_none}

-- what a blank is of is there, behind these blanks
abbrev pub Stands : ModelTree → List Act → List Blank → Blank → Type 0
Stands m acts done (Instance act claim) = (x : Act) × (slice_get acts act ≡ Some x)
Stands m acts done (OfFirst pool field) = In pool (used_state_pools m acts)
Stands m acts done (OfAct act field) = (x : Act) × (slice_get acts act ≡ Some x)
Stands m acts done (OfOutput act reference field) = (f : Filled) × (reference_at acts act reference ≡ Some f)
Stands m acts done (OfClaim act claim field) = (x : Act) × (slice_get acts act ≡ Some x) × (claim < count (InAct act Claims) done)

abbrev pub AreInTurn : ModelTree → List Act → List Blank → List Blank → Type 0
AreInTurn m acts done [] = Unit {0}
AreInTurn m acts done (blank ∷ blanks) = Stands m acts done blank × (place_of blank ≡ count (row_of blank) done) × AreInTurn m acts (done ++ blank ∷ []) blanks

pub turns_join : (m : ModelTree) (acts : List Act) (done xs ys : List Blank) → AreInTurn m acts done xs → AreInTurn m acts (done ++ xs) ys → AreInTurn m acts done (xs ++ ys)
turns_join m acts done [] ys one other = subst (λ d. AreInTurn m acts d ys) (append-nil done) other
turns_join m acts done (x ∷ xs) ys one other =
    (one.0, one.1, turns_join m acts (done ++ x ∷ []) xs ys one.2 (subst (λ d. AreInTurn m acts d ys) (sym (append_assoc done (x ∷ []) xs)) other))

-- a later blank stands behind no fewer
pub later : (m : ModelTree) (acts : List Act) (done xs : List Blank) (i : ℕ) (blank : Blank) → AreInTurn m acts done xs → slice_get xs i ≡ Some blank → count (row_of blank) done ≤ place_of blank
later m acts done [] i blank turns is = absurd (none-some blank is)
later m acts done (x ∷ xs) zero blank turns is = subst (λ b. count (row_of b) done ≤ place_of b) (same_Some x blank is) (let e = turns.1 in omega (arith, e))
later m acts done (x ∷ xs) (suc i) blank turns is =
    let more = later m acts (done ++ x ∷ []) xs i blank turns.2 is in
    let e = count_one (row_of blank) done x in
    omega (arith, more, e)

-- ---- fields in order

module _ (m : ModelTree) (acts : List Act) (blank : ℕ → Blank) (row : Row) (rows : (i : ℕ) → row_of (blank i) ≡ row) (places : (i : ℕ) → place_of (blank i) ≡ i) where
  pub in_range : (first n : ℕ) (done : List Blank) → count row done ≡ first → ((i : ℕ) (more : List Blank) → first ≤ i → i < first + n → Stands m acts (done ++ more) (blank i)) → AreInTurn m acts done (map blank (range_with_len first n))
  in_range first zero done counted stands = tt
  in_range first (suc n) done counted stands =
      let next = done ++ blank first ∷ [] in
      let own : same_row (row_of (blank first)) row ≡ true = ap (λ r. same_row r row) (rows first) ∙ same_itself row in
      let one : count row next ≡ first + 1 = let e = count_one row done (blank first) in let o : one_if (same_row (row_of (blank first)) row) ≡ 1 = ap one_if own in omega (arith, e, o, counted) in (
        subst (λ d. Stands m acts d (blank first)) (append-nil done) (stands first [] (omega arith) (omega arith)),
        places first ∙ sym counted ∙ ap (λ r. count r done) (sym (rows first)),
        in_range (first + 1) n next one
            (λ i more low high. subst (λ d. Stands m acts d (blank i)) (sym (append_assoc done (blank first ∷ []) more)) (stands i (blank first ∷ more) (omega (arith, low)) (omega (arith, high)))),
      )

-- ---- lists of lists

-- by a number of each element: the first no less than that, and each greater than the one before it
abbrev pub Rises : {X : Type 0} → (X → ℕ) → ℕ → List X → Type 0
Rises key low [] = Unit {0}
Rises key low (x ∷ xs) = (low ≤ key x) × Rises key (key x + 1) xs

module _ {X : Type 0} (m : ModelTree) (acts : List Act) (key : X → ℕ) (blanks : X → List Blank) (Of : ℕ → Row → Type 0)
    (rows : (x : X) (blank : Blank) → In blank (blanks x) → Of (key x) (row_of blank))
    (apart : (j k : ℕ) (x y : Row) → Of j x → Of k y → AreOne x y → j ≡ k)
    (Good : List Blank → Type 0) (stays : (done more : List Blank) → Good done → Good (done ++ more)) where
  pub in_lists : (low : ℕ) (xs : List X) (done : List Blank) → Rises key low xs → ((j : ℕ) (row : Row) → low ≤ j → Of j row → count row done ≡ 0) → Good done
      → ((x : X) (done : List Blank) → In x xs → ((row : Row) → Of (key x) row → count row done ≡ 0) → Good done → AreInTurn m acts done (blanks x))
      → AreInTurn m acts done (flat_map blanks xs)
  in_lists low [] done rises none good each = tt
  in_lists low (x ∷ xs) done rises none good each =
      turns_join m acts done (blanks x) (flat_map blanks xs) (each x done (inl refl) (λ row of. none (key x) row rises.0 of) good)
      (in_lists (key x + 1) xs (done ++ blanks x) rises.1
      (λ j row l of.
      let old = none j row (let r = rises.0 in omega (arith, r, l)) of in
      let new = count_none row (blanks x) (λ b has one. let e = apart (key x) j (row_of b) row (rows x b has) of (are_one (row_of b) row one) in omega (arith, e, l)) in
      let sum = count_join row done (blanks x) in
      omega (arith, old, new, sum))
      (stays done (blanks x) good) (λ y d has. each y d (inr has)))
