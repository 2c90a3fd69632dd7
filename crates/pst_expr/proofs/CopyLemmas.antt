-- An expression put together again from a part and what stands above it.
use Rattle.std.proofs.Common.{◌≡◌, ℕ, zero, suc, ◌+◌, refl, sym, ap, ◌∙◌, zero-add}
use Prim.Native.Nat.add as nat_add
use Rattle.pst_expr.specs.Tree.{Expression, Constant, Variable, Unary, Binary, Element}
use Rattle.pst_expr.specs.Left.{left_part, with_left_part}

pub with_own_part : (n : ℕ) (e : Expression) → with_left_part n e (left_part n e) ≡ e
with_own_part zero e = refl
with_own_part (suc n) (Constant z) = refl
with_own_part (suc n) (Variable i) = refl
with_own_part (suc n) (Unary op a) = refl
with_own_part (suc n) (Element i k a) = refl
with_own_part (suc n) (Binary op a b) = ap (λ x. Binary op x b) (with_own_part n a)

pub with_left_part-add : (m n : ℕ) (e part : Expression) → with_left_part m e (with_left_part n (left_part m e) part) ≡ with_left_part (m + n) e part
with_left_part-add zero n e part = ap (λ k. with_left_part k e part) (sym (zero-add n))
with_left_part-add (suc m) n (Constant z) part = ap (λ k. with_left_part k (Constant z) part) (sym (nat_add.suc m n))
with_left_part-add (suc m) n (Variable i) part = ap (λ k. with_left_part k (Variable i) part) (sym (nat_add.suc m n))
with_left_part-add (suc m) n (Unary op a) part = ap (λ k. with_left_part k (Unary op a) part) (sym (nat_add.suc m n))
with_left_part-add (suc m) n (Element i j a) part = ap (λ k. with_left_part k (Element i j a) part) (sym (nat_add.suc m n))
with_left_part-add (suc m) n (Binary op a b) part =
    ap (λ x. Binary op x b) (with_left_part-add m n a part) ∙ ap (λ k. with_left_part k (Binary op a b) part) (sym (nat_add.suc m n))
