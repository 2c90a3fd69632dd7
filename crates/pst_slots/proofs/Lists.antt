-- Values of slots, and lists that go together.
use Rattle.std.proofs.Common.{◌≡◌, ℕ, zero, suc, ℤ, List, [], ◌∷◌, length, Bool, true, false, if◌then◌else◌, Option, Some, None, refl, sym, arith}
use Rattle.std.specs.Prelude.{slice_get}
use Rattle.std.specs.List.{AllZip}
use Rattle.std.proofs.lemmas.Option.{none-some}
use Rattle.pst_expr.specs.declared.ranges.Span.{Span}
use Rattle.pst_legal.specs.Blanks.{Blank}
use Rattle.pst_legal.specs.Standing.{Standing, value_or, open_value, unread}
use Rattle.pst_slots.specs.Decided.{IsDecided}

-- a value that has been read, or what is decided where none has
pub decided_or : (o : Option ℤ) (other : Standing) → (o ≡ None → IsDecided other) → IsDecided (value_or o other)
decided_or None other go = go refl
decided_or (Some v) other go = tt

pub nothing_open : (blank : Blank) (span : Option Span) → span ≡ None → IsDecided (open_value blank span)
nothing_open blank None e = tt
nothing_open blank (Some span) e = absurd (none-some span (sym e))

pub nothing_unread : (span : Option Span) → span ≡ None → IsDecided (unread span)
nothing_unread None e = tt
nothing_unread (Some span) e = absurd (none-some span (sym e))

pub either : (b : Bool) (x y : Standing) → (b ≡ true → IsDecided x) → (b ≡ false → IsDecided y) → IsDecided (if b then x else y)
either true x y one other = one refl
either false x y one other = other refl

-- ---- lists of one length

pub zip_past : {A B : Type 0} (R : A → B → Type 0) (xs : List A) (ys : List B) (k : ℕ) → AllZip R xs ys → slice_get ys k ≡ None → slice_get xs k ≡ None
zip_past R [] [] k zips none = refl
zip_past R [] (y ∷ ys) k zips none = absurd zips
zip_past R (x ∷ xs) [] k zips none = absurd zips
zip_past R (x ∷ xs) (y ∷ ys) zero zips none = absurd (none-some y (sym none))
zip_past R (x ∷ xs) (y ∷ ys) (suc k) zips none = zip_past R xs ys k zips.1 none

pub as_long_past : {A B : Type 0} (xs : List A) (ys : List B) (k : ℕ) → length ys ≡ length xs → slice_get ys k ≡ None → slice_get xs k ≡ None
as_long_past [] [] k long none = refl
as_long_past [] (y ∷ ys) k long none = refl
as_long_past (x ∷ xs) [] k long none = absurd (omega (arith, long))
as_long_past (x ∷ xs) (y ∷ ys) zero long none = absurd (none-some y (sym none))
as_long_past (x ∷ xs) (y ∷ ys) (suc k) long none = as_long_past xs ys k (omega (arith, long)) none

pub as_long_at : {A B : Type 0} (xs : List A) (ys : List B) (k : ℕ) (y : B) → length ys ≡ length xs → slice_get ys k ≡ Some y → (x : A) × (slice_get xs k ≡ Some x)
as_long_at [] [] k y long is = absurd (none-some y is)
as_long_at [] (z ∷ ys) k y long is = absurd (omega (arith, long))
as_long_at (x ∷ xs) [] k y long is = absurd (none-some y is)
as_long_at (x ∷ xs) (z ∷ ys) zero y long is = (x, refl)
as_long_at (x ∷ xs) (z ∷ ys) (suc k) y long is = as_long_at xs ys k y (omega (arith, long)) is
