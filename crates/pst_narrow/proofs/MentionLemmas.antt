-- Variables that don't stand in an expression don't matter to it.
use Rattle.std.proofs.Common.{◌≡◌, inl, inr, ℕ, zero, suc, ◌+◌, ◌-◌, ◌<◌, ◌≤◌, ℤ, pos, negsuc, ◌-ℤ◌, ◌≤ℤ◌, int_le, nat_abs, nat_lt, Bool, true, false, cond, List, [], ◌∷◌, length, map, take, drop, get_or, Option, Some, None, option_and_then, refl, sym, ap, subst, ◌∙◌, arith}
use Rattle.std.specs.Int.{int_min, int_max}
use Rattle.std.proofs.lemmas.Int.{ints, clamps}
use Rattle.std.proofs.lemmas.Bool.Decides.{nat_tests}
use Rattle.pst_expr.specs.declared.ranges.Span.{Span}
use Rattle.pst_expr.specs.declared.tree.BinaryOp.{BinaryOp}
use Rattle.pst_expr.specs.Tree.{Expression, Constant, Variable, Unary, Binary, Element}
use Rattle.pst_expr.specs.Value.{value, variable_value, unary_value, binary_value, given, element_value}
use Rattle.pst_domain.specs.Bounds.{bound_of, HasVariablesBelow}
use Rattle.pst_domain.specs.Cut.{cut_span}
use Rattle.pst_domain.specs.Interval.{interval, unary_span, binary_span}
use Rattle.pst_domain.specs.Element.{joined_all, elements, element_span}
use Rattle.pst_narrow.specs.Mentions.{Mentions, SameValues, SameBounds}

-- ---- values

element_values_same : (xs ys : List (Option ℤ)) (first count : ℕ) → ((i : ℕ) → i < count → variable_value xs (first + i) ≡ variable_value ys (first + i)) → (x : ℤ) → element_value xs first count x ≡ element_value ys first count x
element_values_same xs ys first count same (negsuc i) = refl
element_values_same xs ys first count same (pos i) = go (nat_lt i count) refl
  where
    go : (b : Bool) → nat_lt i count ≡ b → cond b (variable_value xs (first + i)) None ≡ cond b (variable_value ys (first + i)) None
    go false e = refl
    go true e = same i (let less : i < count = grind (arith, nat_tests) in less)

after_same : (f g : ℤ → Option ℤ) (a : Option ℤ) → ((x : ℤ) → f x ≡ g x) → option_and_then f a ≡ option_and_then g a
after_same f g None h = refl
after_same f g (Some x) h = h x

both_same : (op : BinaryOp) (a b c d : Option ℤ) → a ≡ c → b ≡ d → binary_value op a b ≡ binary_value op c d
both_same op a b c d e f = ap (λ x. binary_value op x b) e ∙ ap (binary_value op c) f

pub values_same : (e : Expression) (xs ys : List (Option ℤ)) → SameValues e xs ys → value e xs ≡ value e ys
values_same (Constant n) xs ys h = refl
values_same (Variable i) xs ys h = ap given (h i refl)
values_same (Unary op e) xs ys h = ap (option_and_then (unary_value op)) (values_same e xs ys h)
values_same (Binary op a b) xs ys h =
    both_same op (value a xs) (value b xs) (value a ys) (value b ys) (values_same a xs ys (λ v m. h v (inl m))) (values_same b xs ys (λ v m. h v (inr m)))
values_same (Element first count e) xs ys h =
    let index = values_same e xs ys (λ v m. h v (inr m)) in
    ap given
    (ap (option_and_then (element_value xs first count)) index
    ∙ after_same (element_value xs first count) (element_value ys first count) (value e ys) (element_values_same xs ys first count (λ i less. h (first + i) (inl (i, less, refl)))))

-- ---- spans

taken_same : {X : Type 0} (xs ys : List X) (k : ℕ) (d : X) → length xs ≡ length ys → ((i : ℕ) → i < k → get_or xs i d ≡ get_or ys i d) → take k xs ≡ take k ys
taken_same xs ys zero d e h = refl
taken_same [] [] (suc k) d e h = refl
taken_same [] (y ∷ ys) (suc k) d e h = absurd (omega arith)
taken_same (x ∷ xs) [] (suc k) d e h = absurd (omega arith)
taken_same (x ∷ xs) (y ∷ ys) (suc k) d e h =
    ap (λ z. z ∷ take k xs) (h 0 (omega arith)) ∙ ap (λ zs. y ∷ zs) (taken_same xs ys k d (omega arith) (λ i less. h (suc i) (omega arith)))

part_same : {X : Type 0} (xs ys : List X) (n k : ℕ) (d : X) → length xs ≡ length ys → ((i : ℕ) → i < k → get_or xs (n + i) d ≡ get_or ys (n + i) d) → take k (drop n xs) ≡ take k (drop n ys)
part_same xs ys zero k d e h =
    taken_same xs ys k d e (λ i less. let z : 0 + i ≡ i = omega arith in subst (λ j. get_or xs j d ≡ get_or ys j d) z (h i less))
part_same [] [] (suc n) k d e h = refl
part_same [] (y ∷ ys) (suc n) k d e h = absurd (omega arith)
part_same (x ∷ xs) [] (suc n) k d e h = absurd (omega arith)
part_same (x ∷ xs) (y ∷ ys) (suc n) k d e h =
    part_same xs ys n k d (omega arith) (λ i less. let z : suc n + i ≡ suc (n + i) = omega arith in subst (λ j. get_or (x ∷ xs) j d ≡ get_or (y ∷ ys) j d) z (h i less))

abbrev lowest : Span → ℤ
lowest s = int_max s.low (pos 0)

abbrev highest : ℕ → Span → ℤ
highest count s = int_min s.high (pos count -ℤ pos 1)

read_same : (a b : List (Option Span)) (first count : ℕ) (s : Span) → length a ≡ length b → ((i : ℕ) → i < count → bound_of a (first + i) ≡ bound_of b (first + i)) → lowest s ≤ℤ highest count s → elements a first (nat_abs (lowest s)) (nat_abs (highest count s)) ≡ elements b first (nat_abs (lowest s)) (nat_abs (highest count s))
read_same a b first count s long same order =
    part_same a b (first + nat_abs (lowest s)) (nat_abs (highest count s) + 1 - nat_abs (lowest s)) None long
    (λ i less.
    let at : first + nat_abs (lowest s) + i ≡ first + (nat_abs (lowest s) + i) = omega arith in
    let within : nat_abs (lowest s) + i < count = omega (arith, ints, clamps) in
    subst (λ j. bound_of a j ≡ bound_of b j) (sym at) (same (nat_abs (lowest s) + i) within))

element_spans_same : (a b : List (Option Span)) (first count : ℕ) → length a ≡ length b → ((i : ℕ) → i < count → bound_of a (first + i) ≡ bound_of b (first + i)) → (s : Span) → element_span a first count s ≡ element_span b first count s
element_spans_same a b first count long same s = go (int_le (lowest s) (highest count s)) refl
  where
    go : (t : Bool) → int_le (lowest s) (highest count s) ≡ t → cond t (joined_all (map cut_span (elements a first (nat_abs (lowest s)) (nat_abs (highest count s))))) None ≡ cond t (joined_all (map cut_span (elements b first (nat_abs (lowest s)) (nat_abs (highest count s))))) None
    go false e = refl
    go true e = ap (λ r. joined_all (map cut_span r)) (read_same a b first count s long same (let order : lowest s ≤ℤ highest count s = omega (arith, ints, e) in order))

after_span_same : (f g : Span → Option Span) (a : Option Span) → ((s : Span) → f s ≡ g s) → option_and_then f a ≡ option_and_then g a
after_span_same f g None h = refl
after_span_same f g (Some s) h = h s

both_spans_same : (op : BinaryOp) (a b c d : Option Span) → a ≡ c → b ≡ d → binary_span op a b ≡ binary_span op c d
both_spans_same op a b c d e f = ap (λ x. binary_span op x b) e ∙ ap (binary_span op c) f

pub spans_same_at : (e : Expression) (a b : List (Option Span)) → length a ≡ length b → ((v : ℕ) → Mentions e v → bound_of a v ≡ bound_of b v) → interval e a ≡ interval e b
spans_same_at (Constant n) a b long h = refl
spans_same_at (Variable i) a b long h = ap cut_span (h i refl)
spans_same_at (Unary op e) a b long h = ap (option_and_then (unary_span op)) (spans_same_at e a b long h)
spans_same_at (Binary op p q) a b long h =
    both_spans_same op (interval p a) (interval q a) (interval p b) (interval q b) (spans_same_at p a b long (λ v m. h v (inl m))) (spans_same_at q a b long (λ v m. h v (inr m)))
spans_same_at (Element first count e) a b long h =
    ap (option_and_then (element_span a first count)) (spans_same_at e a b long (λ v m. h v (inr m)))
    ∙ after_span_same (element_span a first count) (element_span b first count) (interval e b) (element_spans_same a b first count long (λ i less. h (first + i) (inl (i, less, refl))))

pub spans_same : (e : Expression) (a b : List (Option Span)) → SameBounds e a b → interval e a ≡ interval e b
spans_same e a b h = spans_same_at e a b h.count h.each

-- ---- variables below a number

pub mentions_below : (n : ℕ) (e : Expression) (v : ℕ) → HasVariablesBelow n e → Mentions e v → v < n
mentions_below n (Constant z) v h m = absurd m
mentions_below n (Variable i) v h m = omega (arith, h, m)
mentions_below n (Unary op e) v h m = mentions_below n e v h m
mentions_below n (Binary op a b) v h (inl m) = mentions_below n a v h.0 m
mentions_below n (Binary op a b) v h (inr m) = mentions_below n b v h.1 m
mentions_below n (Element first count e) v h (inl (i, less, is)) = let small = h.0 i less in omega (arith, small, is)
mentions_below n (Element first count e) v h (inr m) = mentions_below n e v h.1 m

pub variables_below_more : (n k : ℕ) (e : Expression) → n ≤ k → HasVariablesBelow n e → HasVariablesBelow k e
variables_below_more n k (Constant z) less h = tt
variables_below_more n k (Variable i) less h = omega (arith, h, less)
variables_below_more n k (Unary op e) less h = variables_below_more n k e less h
variables_below_more n k (Binary op a b) less h = (variables_below_more n k a less h.0, variables_below_more n k b less h.1)
variables_below_more n k (Element first count e) less h = (λ i small. let at = h.0 i small in omega (arith, at, less), variables_below_more n k e less h.1)
