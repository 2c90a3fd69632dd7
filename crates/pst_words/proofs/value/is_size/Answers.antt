use Rattle.std.proofs.Common.{arith, refl, ap, ◌∙◌, ◌≡◌, ◌*◌, ◌/◌, ◌%◌, ◌^◌, ◌<◌, ◌≤◌, ℕ, List, Bool, true, false, nat_eq, decimal, MatchBool}
use Rattle.std.proofs.lemmas.Bool.Decides.{nat_tests}
use Rattle.pst_words.specs.Table.{IsSize}
use Rattle.pst_words.proofs.Digits.{one_number}
use Rattle.pst_words.proofs.value.is_size.Goals as goal

same : (text : List ℕ) (n : ℕ) → n < 2 ^ 64 → text ≡ decimal n → (h : IsSize text) → n ≡ h.eighth * 8
same text n small e h = one_number n (h.eighth * 8) text small (omega (arith, h.high)) e h.spelled

by_rest : (text : List ℕ) (n : ℕ) (b : Bool) → b ≡ nat_eq (n % 8) 0 → n < 2 ^ 64 → text ≡ decimal n → 8 ≤ n → n ≤ 4096 → MatchBool b (IsSize text) (IsSize text → ⊥)
by_rest text n true is small e low high =
    let whole : n ≡ n / 8 * 8 = grind (arith, nat_tests, is) in
    record { eighth = n / 8; spelled = e ∙ ap decimal whole; low = omega (arith, whole, low); high = omega (arith, whole, high) }
by_rest text n false is small e low high = λ h. let whole : n ≡ h.eighth * 8 = same text n small e h in absurd (grind (arith, nat_tests, is, whole))

pub returns-then-n-lt8 : goal.returns-then-n-lt8
returns-then-n-lt8 c = λ h. let e = same c.args.text.now c.in-Some.n c.in-Some.ensures.1 c.in-Some.ensures.0 h in absurd (omega (arith, e, h.low, c.if-n-lt8.true))

pub returns-then-n-gt4096 : goal.returns-then-n-gt4096
returns-then-n-gt4096 c = λ h. let e = same c.args.text.now c.in-Some.n c.in-Some.ensures.1 c.in-Some.ensures.0 h in absurd (omega (arith, e, h.high, c.if-n-gt4096.true))

pub returns : goal.returns
returns c =
    by_rest c.args.text.now c.in-Some.n (nat_eq (c.in-Some.n % 8) 0) refl c.in-Some.ensures.1 c.in-Some.ensures.0 (omega (arith, c.if-n-lt8.false)) (omega (arith, c.if-n-gt4096.false))
