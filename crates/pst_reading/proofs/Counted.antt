-- How much a parser takes.
use Rattle.std.proofs.Common.{◌≡◌, ℕ, zero, suc, ◌+◌, ◌<◌, ◌≤◌, List, [], ◌∷◌, ◌++◌, length, take, drop, Bool, true, false, ◌||◌, ltb, if◌then◌else◌, Some, None, Option, refl, sym, ap, subst, ◌∙◌, arith, length-append}
use Rattle.std.specs.Option.{option_map}
use Rattle.pst_token.specs.declared.token.Token.{Token}
use Rattle.pst_ast.specs.Limits.{Count, is_over, first_over}
use Rattle.pst_reading.specs.Parser.{Parser, Done, Wrong, Spent, Look, Take, Outcome, Took, Refused, TooDeep, Unread, next, run, read, counts_taken}

-- what an outcome leaves
abbrev pub rest_of : {A : Type 0} → Outcome A → List Token
rest_of (Took a rest) = rest
rest_of (Refused rest) = rest
rest_of (TooDeep rest) = rest
rest_of (Unread rest) = rest

pub all_counted : {A : Type 0} (p : Parser A) (ts : List Token) → length ts ≡ length (counts_taken p ts) + length (rest_of (read p ts))
all_counted (Done a) ts = omega arith
all_counted Wrong ts = omega arith
all_counted Spent ts = omega arith
all_counted (Look choose) ts = all_counted (choose (next ts)) ts
all_counted (Take c go_on) [] = omega arith
all_counted (Take c go_on) (t ∷ ts) = let h = all_counted (go_on t) ts in omega (arith, h)

-- ---- the first count that breaks a limit

later : (b : Bool) (x y : Option ℕ) → x ≡ y → (if b then Some 0 else option_map suc x) ≡ (if b then Some 0 else option_map suc y)
later b x y e = ap (λ (o : Option ℕ). if b then Some 0 else option_map suc o) e

-- what is behind it does not matter
none_before : (x : Option ℕ) → option_map suc x ≡ None → x ≡ None
none_before None e = refl
none_before (Some n) e = absurd cc

some_before : (x : Option ℕ) (i : ℕ) → option_map suc x ≡ Some (suc i) → x ≡ Some i
some_before None i e = absurd cc
some_before (Some n) i e = ap (λ (o : Option ℕ). option_map pred_of o) e
  where
    pred_of : ℕ → ℕ
    pred_of zero = zero
    pred_of (suc m) = m

inside_cases : (b : Bool) (x : Option ℕ) (n i : ℕ) → ((j : ℕ) → x ≡ Some j → j < n) → (if b then Some 0 else option_map suc x) ≡ Some i → i < suc n
inside_cases b x n zero h e = omega arith
inside_cases true x n (suc i) h e = absurd cc
inside_cases false x n (suc i) h e = let k = h i (some_before x i e) in omega (arith, k)

pub over_inside : (cs : List Count) (i : ℕ) → first_over cs ≡ Some i → i < length cs
over_inside [] i e = absurd cc
over_inside (c ∷ cs) i e = inside_cases (is_over c) (first_over cs) (length cs) i (over_inside cs) e

same_cases : (b : Bool) (x y : Option ℕ) (i : ℕ) → ((j : ℕ) → i ≡ suc j → x ≡ Some j → y ≡ Some j) → (if b then Some 0 else option_map suc x) ≡ Some i → (if b then Some 0 else option_map suc y) ≡ Some i
same_cases true x y i h e = e
same_cases false None y zero h e = absurd cc
same_cases false (Some m) y zero h e = absurd cc
same_cases false x y (suc j) h e = ap (option_map suc) (h j refl (some_before x j e))

pub over_front : (cs ds : List Count) (i : ℕ) → i < length cs → first_over (cs ++ ds) ≡ Some i → first_over cs ≡ Some i
over_front [] ds i lt e = absurd (omega (arith, lt))
over_front (c ∷ cs) ds i lt e = same_cases (is_over c) (first_over (cs ++ ds)) (first_over cs) i (λ j k f. over_front cs ds j (omega (arith, lt, k)) f) e

pub over_more : (cs ds : List Count) (i : ℕ) → first_over cs ≡ Some i → first_over (cs ++ ds) ≡ Some i
over_more [] ds i e = absurd cc
over_more (c ∷ cs) ds i e = same_cases (is_over c) (first_over cs) (first_over (cs ++ ds)) i (λ j k f. over_more cs ds j f) e

none_cases : (b : Bool) (x y : Option ℕ) → (x ≡ None → y ≡ None) → (if b then Some 0 else option_map suc x) ≡ None → (if b then Some 0 else option_map suc y) ≡ None
none_cases true x y h e = e
none_cases false x y h e = ap (option_map suc) (h (none_before x e))

pub none_front : (cs ds : List Count) → first_over (cs ++ ds) ≡ None → first_over cs ≡ None
none_front [] ds e = refl
none_front (c ∷ cs) ds e = none_cases (is_over c) (first_over (cs ++ ds)) (first_over cs) (none_front cs ds) e
