-- The token at a place.
use Rattle.std.proofs.Common.{◌≡◌, ℕ, zero, suc, ◌+◌, ◌<◌, ◌≤◌, List, [], ◌∷◌, length, drop, Some, Option, None, Bool, true, false, if◌then◌else◌, refl, sym, ap, subst, ◌∙◌, arith, add-one}
use Rattle.std.specs.Prelude.{slice_get}
use Rattle.pst_token.specs.declared.token.Token.{Token}
use Rattle.pst_token.specs.declared.kind.Kind.{Kind}
use Rattle.pst_ast.specs.Limits.{Count, is_over}
use Rattle.pst_reading.specs.Kinds.{is_mark, is_name, next_is}
use Rattle.pst_reading.specs.Parser.{Parser, Done, Wrong, Take, Took, TooDeep, run, next, mark_by, name_by}

pub next_there : (n : ℕ) (ts : List Token) (x : Token) → n < length ts → slice_get ts n ≡ Some x → Some x ≡ next (drop n ts)
next_there zero [] x lt e = absurd (omega (arith, lt))
next_there zero (t ∷ ts) x lt e = sym e
next_there (suc n) [] x lt e = absurd (omega (arith, lt))
next_there (suc n) (t ∷ ts) x lt e = next_there n ts x (omega (arith, lt)) e

pub next_past : (n : ℕ) (ts : List Token) → length ts ≤ n → None ≡ next (drop n ts)
next_past zero [] le = refl
next_past zero (t ∷ ts) le = absurd (omega (arith, le))
next_past (suc n) [] le = refl
next_past (suc n) (t ∷ ts) le = next_past n ts (omega (arith, le))

-- the tokens from a place on
pub there : (n : ℕ) (ts : List Token) (t : Token) → Some t ≡ next (drop n ts) → (drop n ts ≡ t ∷ drop (n + 1) ts) × (n + 1 ≤ length ts)
there zero [] t e = absurd cc
there zero (u ∷ ts) t e = (ap (λ (x : Token). x ∷ ts) (same_token (sym e)), omega arith)
  where
    same_token : Some u ≡ Some t → u ≡ t
    same_token f = cc
there (suc n) [] t e = absurd cc
there (suc n) (u ∷ ts) t e =
    let h = there n ts t e in
    let e : n + 1 ≡ suc n = omega arith in
    let f : suc n + 1 ≡ suc (suc n) = omega arith in
    (rw f (subst (λ (k : ℕ). drop n ts ≡ t ∷ drop k ts) e h.0), omega (arith, h.1))

module _ (c : Count) (free : is_over c ≡ false) (t : Token) (ts : List Token) where
  take_runs : {A : Type 0} (f : Token → A) (test : Bool) → test ≡ true → run is_over (if test then Take c (λ token. Done (f token)) else Wrong) (t ∷ ts) ≡ Took (f t) ts
  take_runs f test e = subst (λ (x : Bool). run is_over (if x then Take c (λ token. Done (f token)) else Wrong) (t ∷ ts) ≡ Took (f t) ts) (sym e) (subst (λ (x : Bool). (if x then TooDeep (t ∷ ts) else Took (f t) ts) ≡ Took (f t) ts) (sym free) refl)

pub mark_taken : (k : Kind) (c : Count) (at : ℕ) (ts : List Token) (t : Token) → Some t ≡ next (drop at ts) → next_is (is_mark k) (next (drop at ts)) ≡ true → is_over c ≡ false → (run is_over (mark_by k c) (drop at ts) ≡ Took t.place (drop (at + 1) ts)) × (at + 1 ≤ length ts)
mark_taken k c at ts t here is free =
    let h = there at ts t here in
    let found : is_mark k t ≡ true = ap (next_is (is_mark k)) here ∙ is in
    (rw h.0 (take_runs c free t (drop (at + 1) ts) (λ token. token.place) (is_mark k t) found), h.1)

pub name_taken : (c : Count) (at : ℕ) (ts : List Token) (t : Token) → Some t ≡ next (drop at ts) → next_is is_name (next (drop at ts)) ≡ true → is_over c ≡ false → (run is_over (name_by c) (drop at ts) ≡ Took (record { id = t.name; place = t.place }) (drop (at + 1) ts)) × (at + 1 ≤ length ts)
name_taken c at ts t here is free =
    let h = there at ts t here in
    let found : is_name t ≡ true = ap (next_is is_name) here ∙ is in
    (rw h.0 (take_runs c free t (drop (at + 1) ts) (λ token. record { id = token.name; place = token.place }) (is_name t) found), h.1)
