-- Lines that are cut at a byte.
use Rattle.std.proofs.Common.{rules, ◌≡◌, ◌≢◌, ◌∙◌, ◌^◌, ℕ, ◌+◌, ◌<◌, List, [], ◌∷◌, ◌++◌, length, get_or, take, ap, sym, subst, refl, ⊎_elim, true, false, arith, decimal}
use Rattle.std.specs.Prelude.{Contains}
use Rattle.std.specs.Char.{is_ascii_digit}
use Rattle.std.specs.List.{list_all, AllPass}
use Rattle.std.proofs.lemmas.List.{take_more}
use Rattle.std.proofs.lemmas.List.Elements.{Contains-append_right, Contains-push_cases}
use Rattle.std.proofs.lemmas.List.Sums.{AllPass-from_list_all}
use Rattle.std.proofs.lemmas.Str.Parse.{IsNumeralModel, numerals_by_fold}
use Rattle.std.proofs.lemmas.Fmt.{decimal_injective, digits_decimal}
use Rattle.pst_words.specs.Numerals.{value_behind}
use Rattle.pst_trace_lines.specs.Forms.{IsNumber, AreTwo, AreThree}

pub first_in : (x : ℕ) (xs : List ℕ) → Contains (x ∷ xs) x
first_in x xs = (0, omega arith, refl)

later_in : (y x : ℕ) (xs : List ℕ) → Contains xs x → Contains (y ∷ xs) x
later_in y x xs h = Contains-append_right (y ∷ []) xs x h

-- there is one first place of a byte
pub first_cut : (m : ℕ) (a b c d : List ℕ) → a ++ m ∷ b ≡ c ++ m ∷ d → (Contains a m → ⊥) → (Contains c m → ⊥) → (a ≡ c) × (b ≡ d)
first_cut m [] b [] d same lacks other = (refl, cc)
first_cut m [] b (y ∷ c) d same lacks other = let e : y ≡ m = cc in absurd (other (subst (λ (n : ℕ). Contains (y ∷ c) n) e (first_in y c)))
first_cut m (x ∷ a) b [] d same lacks other = let e : x ≡ m = cc in absurd (lacks (subst (λ (n : ℕ). Contains (x ∷ a) n) e (first_in x a)))
first_cut m (x ∷ a) b (y ∷ c) d same lacks other =
    let head : x ≡ y = cc in
    let tail : a ++ m ∷ b ≡ c ++ m ∷ d = cc in
    let rest = first_cut m a b c d tail (λ h. lacks (later_in x m a h)) (λ h. other (later_in y m c h)) in
    (ap (λ (n : ℕ). n ∷ a) head ∙ ap (λ (l : List ℕ). y ∷ l) rest.0, rest.1)

numerals : IsNumeralModel (λ ds. list_all is_ascii_digit ds ≡ true) (value_behind 0)
numerals = numerals_by_fold _ (search rules) value_behind (search rules)

-- a printed number has digits alone
pub no_byte : (byte n : ℕ) → is_ascii_digit byte ≡ false → n < 2 ^ 64 → Contains (decimal n) byte → ⊥
no_byte byte n other small h =
    let each : AllPass is_ascii_digit (decimal n) = AllPass-from_list_all is_ascii_digit (decimal n) (digits_decimal numerals n small) in
    let digit : is_ascii_digit (get_or (decimal n) h.0 byte) ≡ true = each h.0 byte h.1 in
    let own : is_ascii_digit byte ≡ true = subst (λ (b : ℕ). is_ascii_digit b ≡ true) h.2 digit in
    let no : false ≡ true = sym other ∙ own in
    absurd cc

pub no_blank : (n : ℕ) → n < 2 ^ 64 → Contains (decimal n) 32 → ⊥
no_blank n small h = no_byte 32 n refl small h

pub wide : (n : ℕ) → n < 2 ^ 32 → n < 2 ^ 64
wide n small = omega (arith, small)

pub is_same : (text : List ℕ) (n m : ℕ) → text ≡ decimal n → n < 2 ^ 64 → IsNumber text m → n ≡ m
is_same text n m is small other = decimal_injective n m small (wide m other.small) (sym is ∙ other.is)

-- the parts of two numbers, and of three
pub two_parts : (text p q : List ℕ) (n k : ℕ) → text ≡ p ++ 32 ∷ q → (Contains p 32 → ⊥) → AreTwo text n k → IsNumber p n × IsNumber q k
two_parts text p q n k are none two =
    let cut = first_cut 32 p q (decimal n) (decimal k) (sym are ∙ two.are) none (no_blank n (wide n two.first)) in
    (record { small = two.first; is = cut.0 }, record { small = two.second; is = cut.1 })

pub three_parts : (text p q : List ℕ) (n k l : ℕ) → text ≡ p ++ 32 ∷ q → (Contains p 32 → ⊥) → AreThree text n k l → IsNumber p n × AreTwo q k l
three_parts text p q n k l are none three =
    let cut = first_cut 32 p q (decimal n) (decimal k ++ 32 ∷ decimal l) (sym are ∙ three.are) none (no_blank n (wide n three.first)) in
    (record { small = three.first; is = cut.0 }, record { first = three.second; second = three.third; are = cut.1 })

pub two_whole : (text p q : List ℕ) (n k : ℕ) → text ≡ p ++ 32 ∷ q → IsNumber p n → IsNumber q k → AreTwo text n k
two_whole text p q n k are first second = record {
  first = first.small;
  second = second.small;
  are = are ∙ ap (λ (t : List ℕ). t ++ 32 ∷ q) first.is ∙ ap (λ (t : List ℕ). decimal n ++ 32 ∷ t) second.is;
}

pub three_whole : (text p q : List ℕ) (n k l : ℕ) → text ≡ p ++ 32 ∷ q → IsNumber p n → AreTwo q k l → AreThree text n k l
three_whole text p q n k l are first rest = record {
  first = first.small;
  second = rest.first;
  third = rest.second;
  are = are ∙ ap (λ (t : List ℕ). t ++ 32 ∷ q) first.is ∙ ap (λ (t : List ℕ). decimal n ++ 32 ∷ t) rest.are;
}

-- ---- looking for a byte

pub none_so_far : (text : List ℕ) (m i : ℕ) → i < length text → get_or text i 0 ≢ m → (Contains (take i text) m → ⊥) → Contains (take (i + 1) text) m → ⊥
none_so_far text m i below other none h =
    ⊎_elim none (λ e. other e) (Contains-push_cases (take i text) (get_or text i 0) m (subst (λ (t : List ℕ). Contains t m) (take_more text i 0 below) h))

pub none_at_all : (text : List ℕ) (m : ℕ) (a b : List ℕ) → (Contains text m → ⊥) → text ≡ a ++ m ∷ b → ⊥
none_at_all text m a b none is = none (subst (λ (t : List ℕ). Contains t m) (sym is) (Contains-append_right a (m ∷ b) m (first_in m b)))

-- three numbers are those of one text alone
pub three_same : (text : List ℕ) (a b c d e f : ℕ) → AreThree text a b c → AreThree text d e f → (a ≡ d) × (b ≡ e) × (c ≡ f)
three_same text a b c d e f one other =
    let outer = first_cut 32 (decimal a) (decimal b ++ 32 ∷ decimal c) (decimal d) (decimal e ++ 32 ∷ decimal f) (sym one.are ∙ other.are) (no_blank a (wide a one.first)) (no_blank d (wide d other.first)) in
    let inner = first_cut 32 (decimal b) (decimal c) (decimal e) (decimal f) outer.1 (no_blank b (wide b one.second)) (no_blank e (wide e other.second)) in
    (decimal_injective a d (wide a one.first) (wide d other.first) outer.0, decimal_injective b e (wide b one.second) (wide e other.second) inner.0, decimal_injective c f (wide c one.third) (wide f other.third) inner.1)
