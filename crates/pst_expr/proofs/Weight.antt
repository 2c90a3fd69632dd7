-- The number of operators and operands of an expression, by which recursions over it end.
use Rattle.std.proofs.Common.{◌≡◌, ℕ, zero, suc, ◌+◌, ◌-◌, ◌/◌, ◌<◌, ◌≤◌, arith, ap}
use Rattle.pst_expr.specs.Tree.{Expression, Constant, Variable, Unary, Binary, Element}
use Rattle.pst_expr.specs.Left.{left_depth, left_part}
use Rattle.pst_expr.proofs.LeftLemmas.{left_part-add, left_depth-left_part}

abbrev pub weight : Expression → ℕ
weight (Constant n) = 1
weight (Variable i) = 1
weight (Unary op e) = weight e + 1
weight (Binary op a b) = weight a + weight b + 1
weight (Element first count e) = weight e + 1

-- the weight of what stands above the part n operators down
abbrev pub weight_above : ℕ → Expression → ℕ
weight_above n e = weight e - weight (left_part n e)

pub weight_some : (e : Expression) → 0 < weight e
weight_some (Constant n) = omega arith
weight_some (Variable i) = omega arith
weight_some (Unary op e) = omega arith
weight_some (Binary op a b) = omega arith
weight_some (Element first count e) = omega arith

weight_falls : (n : ℕ) (e : Expression) → suc n ≤ left_depth e → weight (left_part (suc n) e) < weight e
weight_falls n (Constant z) h = absurd (omega arith)
weight_falls n (Variable i) h = absurd (omega arith)
weight_falls n (Unary op a) h = absurd (omega arith)
weight_falls n (Element i k a) h = absurd (omega arith)
weight_falls zero (Binary op a b) h = omega arith
weight_falls (suc n) (Binary op a b) h = omega (arith, weight_falls n a (omega arith))

-- a part below is lighter
pub weight_below : (n : ℕ) (e : Expression) → 0 < n → n ≤ left_depth e → weight (left_part n e) < weight e
weight_below zero e h k = absurd (omega arith)
weight_below (suc n) e h k = weight_falls n e k

-- the lower and the upper part of a way down are lighter than the whole
pub lower_lighter : (m n : ℕ) (e : Expression) → 0 < m → 0 < n → m + n ≤ left_depth e → weight_above n (left_part m e) < weight_above (m + n) e
lower_lighter m n e h k l =
    let below = weight_below m e h (omega arith) in
    let under : weight (left_part n (left_part m e)) < weight (left_part m e) = weight_below n (left_part m e) k (omega (arith, left_depth-left_part m e)) in
    omega (arith, ap weight (left_part-add m n e))

pub upper_lighter : (m n : ℕ) (e : Expression) → 0 < m → 0 < n → m + n ≤ left_depth e → weight_above m e < weight_above (m + n) e
upper_lighter m n e h k l =
    let below = weight_below m e h (omega arith) in
    let under : weight (left_part n (left_part m e)) < weight (left_part m e) = weight_below n (left_part m e) k (omega (arith, left_depth-left_part m e)) in
    omega (arith, ap weight (left_part-add m n e))

-- the two halves of a way down
pub lower_half : (d : ℕ) (e p : Expression) → 1 < d → d ≤ left_depth e → p ≡ left_part (d / 2) e → (weight_above (d - d / 2) p < weight_above d e) × (0 < d - d / 2) × (d - d / 2 ≤ left_depth p)
lower_half d e p h k is =
    let m = d / 2 in
    let n = d - d / 2 in
    let whole : m + n ≡ d = omega arith in
    let lighter = lower_lighter m n e (omega arith) (omega arith) (omega arith) in
    (omega (arith, lighter, ap (λ x. weight_above n x) is, ap (λ j. weight_above j e) whole), omega arith, omega (arith, ap left_depth is, left_depth-left_part m e))

pub upper_half : (d : ℕ) (e : Expression) → 1 < d → d ≤ left_depth e → (weight_above (d / 2) e < weight_above d e) × (0 < d / 2) × (d / 2 ≤ left_depth e)
upper_half d e h k =
    let m = d / 2 in
    let n = d - d / 2 in
    let whole : m + n ≡ d = omega arith in
    let lighter = upper_lighter m n e (omega arith) (omega arith) (omega arith) in
    (omega (arith, lighter, ap (λ j. weight_above j e) whole), omega arith, omega arith)
