-- How many blanks of a list are of a row.
use Rattle.std.proofs.Common.{◌≡◌, ℕ, ◌+◌, List, [], ◌∷◌, ◌++◌, Bool, true, false, ◌&&◌, nat_eq, if◌then◌else◌, refl, inl, inr, arith}
use Rattle.std.proofs.lemmas.Bool.{and_parts, and_from, eqb-true, eq-eqb}
use Rattle.pst_legal.specs.Blanks.{Blank}
use Rattle.pst_built.proofs.Members.{In}
use Rattle.pst_blank_values.specs.Rows.{Part, Claims, Fields, Output, Resource, Row, InFirst, InAct, row_of}

-- a row by three numbers
abbrev pub part_kind : Part → ℕ
part_kind Claims = 1
part_kind Fields = 2
part_kind (Output reference) = 3
part_kind (Resource claim) = 4

abbrev pub part_number : Part → ℕ
part_number Claims = 0
part_number Fields = 0
part_number (Output reference) = reference
part_number (Resource claim) = claim

abbrev pub kind : Row → ℕ
kind (InFirst pool) = 0
kind (InAct act part) = part_kind part

abbrev pub first : Row → ℕ
first (InFirst pool) = pool
first (InAct act part) = act

abbrev pub second : Row → ℕ
second (InFirst pool) = 0
second (InAct act part) = part_number part

-- whether two rows are one
abbrev pub same_row : Row → Row → Bool
same_row x y = nat_eq (kind x) (kind y) && (nat_eq (first x) (first y) && nat_eq (second x) (second y))

pub record AreOne (x y : Row) : Type 0 where
  pub kinds : kind x ≡ kind y
  pub firsts : first x ≡ first y
  pub seconds : second x ≡ second y

pub are_one : (x y : Row) → same_row x y ≡ true → AreOne x y
are_one x y e =
    let k = and_parts (nat_eq (kind x) (kind y)) (nat_eq (first x) (first y) && nat_eq (second x) (second y)) e in
    let f = and_parts (nat_eq (first x) (first y)) (nat_eq (second x) (second y)) k.1 in
    record { kinds = eqb-true (kind x) (kind y) k.0; firsts = eqb-true (first x) (first y) f.0; seconds = eqb-true (second x) (second y) f.1 }

pub same_itself : (x : Row) → same_row x x ≡ true
same_itself x =
    and_from (nat_eq (kind x) (kind x)) (nat_eq (first x) (first x) && nat_eq (second x) (second x)) (eq-eqb (kind x) (kind x) refl)
    (and_from (nat_eq (first x) (first x)) (nat_eq (second x) (second x)) (eq-eqb (first x) (first x) refl) (eq-eqb (second x) (second x) refl))

-- ---- counts

abbrev pub one_if : Bool → ℕ
one_if b = if b then 1 else 0

abbrev pub count : Row → List Blank → ℕ
count row [] = 0
count row (blank ∷ blanks) = one_if (same_row (row_of blank) row) + count row blanks

pub count_join : (row : Row) (xs ys : List Blank) → count row (xs ++ ys) ≡ count row xs + count row ys
count_join row [] ys = omega arith
count_join row (x ∷ xs) ys = let more = count_join row xs ys in omega (arith, more)

pub count_one : (row : Row) (done : List Blank) (blank : Blank) → count row (done ++ blank ∷ []) ≡ count row done + one_if (same_row (row_of blank) row)
count_one row done blank = let e = count_join row done (blank ∷ []) in omega (arith, e)

pub none_if : (b : Bool) → (b ≡ true → ⊥) → one_if b ≡ 0
none_if true h = absurd (h refl)
none_if false h = refl

pub count_none : (row : Row) (xs : List Blank) → ((x : Blank) → In x xs → same_row (row_of x) row ≡ true → ⊥) → count row xs ≡ 0
count_none row [] none = refl
count_none row (x ∷ xs) none =
    let here = none_if (same_row (row_of x) row) (none x (inl refl)) in
    let more = count_none row xs (λ y has. none y (inr has)) in
    omega (arith, here, more)
