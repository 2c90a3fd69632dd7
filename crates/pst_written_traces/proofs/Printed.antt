-- Texts of printed bytes.
use Rattle.std.proofs.Common.{◌≡◌, ◌<◌, ◌/◌, ◌%◌, ℕ, zero, suc, List, [], ◌∷◌, ◌++◌, Bool, true, false, ◌&&◌, length, get_or, nat_eq, refl, sym, ◌∙◌, subst, ap, decimal, arith}
use Rattle.std.specs.Prelude.{All, Contains, ℤ, pos, negsuc, slice_index_or, if◌then◌else◌}
use Rattle.std.specs.List.{list_all, AllPass}
use Rattle.std.specs.Fmt.{signed_decimal, digits, digits_onto, digit_glyph}
use Rattle.std.proofs.lemmas.Bool.Decides.{nat_tests}
use Rattle.std.proofs.lemmas.List.Sums.{AllPass-from_list_all}
use Rattle.pst_trace_lines.specs.Headers.{is_printed}

abbrev pub Printed : List ℕ → Type 0
Printed text = list_all is_printed text ≡ true

pub both : (a b : Bool) → a ≡ true → b ≡ true → (a && b) ≡ true
both true b h k = k
both false b h k = h

pub left_of : (a b : Bool) → (a && b) ≡ true → a ≡ true
left_of true b h = refl
left_of false b h = h

pub right_of : (a b : Bool) → (a && b) ≡ true → b ≡ true
right_of true b h = h
right_of false b h = let no : false ≡ true = h in absurd cc

pub joined : (a b : List ℕ) → Printed a → Printed b → Printed (a ++ b)
joined [] b own other = other
joined (x ∷ a) b own other = both (is_printed x) (list_all is_printed (a ++ b)) (left_of (is_printed x) (list_all is_printed a) own) (joined a b (right_of (is_printed x) (list_all is_printed a) own) other)

-- what is printed has no line feed
pub unbroken : (text : List ℕ) → Printed text → Contains text 10 → ⊥
unbroken text own (at, below, is) =
    let each : AllPass is_printed text = AllPass-from_list_all is_printed text own in
    let one : is_printed (get_or text at 10) ≡ true = each at 10 below in
    let no : is_printed 10 ≡ true = subst (λ (b : ℕ). is_printed b ≡ true) is one in
    let never : false ≡ true = no in
    absurd cc

-- ---- numbers

digit : (d : ℕ) → d < 10 → is_printed (digit_glyph false d) ≡ true
digit zero below = refl
digit (suc zero) below = refl
digit (suc (suc zero)) below = refl
digit (suc (suc (suc zero))) below = refl
digit (suc (suc (suc (suc zero)))) below = refl
digit (suc (suc (suc (suc (suc zero))))) below = refl
digit (suc (suc (suc (suc (suc (suc zero)))))) below = refl
digit (suc (suc (suc (suc (suc (suc (suc zero))))))) below = refl
digit (suc (suc (suc (suc (suc (suc (suc (suc zero)))))))) below = refl
digit (suc (suc (suc (suc (suc (suc (suc (suc (suc zero))))))))) below = refl
digit (suc (suc (suc (suc (suc (suc (suc (suc (suc (suc d)))))))))) below = absurd (omega (arith, below))

onto : (k n : ℕ) (more : List ℕ) → Printed more → Printed (digits_onto k 10 false n more)
onto zero n more own = own
onto (suc k) n more own = by (onto k (n / 10) (digit_glyph false (n % 10) ∷ more) first) (nat_eq (n / 10) 0) refl
  where
    first : Printed (digit_glyph false (n % 10) ∷ more)
    first = both (is_printed (digit_glyph false (n % 10))) (list_all is_printed more) (digit (n % 10) (omega arith)) own

    by : Printed (digits_onto k 10 false (n / 10) (digit_glyph false (n % 10) ∷ more)) → (b : Bool) → nat_eq (n / 10) 0 ≡ b → Printed (digits_onto (suc k) 10 false n more)
    by rest true is = subst (λ (c : Bool). Printed (if c then digit_glyph false (n % 10) ∷ more else digits_onto k 10 false (n / 10) (digit_glyph false (n % 10) ∷ more))) (sym is) first
    by rest false is = subst (λ (c : Bool). Printed (if c then digit_glyph false (n % 10) ∷ more else digits_onto k 10 false (n / 10) (digit_glyph false (n % 10) ∷ more))) (sym is) rest

pub number : (n : ℕ) → Printed (decimal n)
unfolding digits
number n = onto 64 n [] refl

pub signed : (v : ℤ) → Printed (signed_decimal v)
signed (pos n) = number n
signed (negsuc n) = both (is_printed 45) (list_all is_printed (decimal (suc n))) refl (number (suc n))

-- ---- elements of lists of printed texts

pub at_most : (texts : List (List ℕ)) (k : ℕ) → All (λ t. Printed t) texts → Printed (get_or texts k [])
at_most [] k each = refl
at_most (t ∷ texts) zero each = each 0 [] (omega arith)
at_most (t ∷ texts) (suc k) each = at_most texts k (λ i d below. each (suc i) d (omega (arith, below)))
