-- Steps down the left operands.
use Rattle.std.proofs.Common.{◌≡◌, ℕ, zero, suc, ◌+◌, ◌-◌, ◌<◌, ◌≤◌, Box, arith, refl, sym, ap, ◌∙◌, Global, zero-add}
use Prim.Native.Nat.add as nat_add
use Rattle.std.proofs.Math.Numerals.{add-one}
use Rattle.pst_expr.specs.declared.tree.BinaryOp.{BinaryOp}
use Rattle.pst_expr.specs.declared.tree.Expr.{Expr}
use Rattle.pst_expr.specs.declared.tree.Expr.TheVariants as tree
use Rattle.pst_expr.specs.declared.tree.Expr.TheViews as whole
use Rattle.pst_expr.specs.Tree.{Expression, Constant, Variable, Unary, Binary, Element, view}
use Rattle.pst_expr.specs.Left.{left_depth, left_part}

-- what is no binary operator has no left operand
pub no_binary : (e : Expr) → ((op : BinaryOp) (a b : Box Expr Global) → e ≡ whole.Binary op a b → ⊥) → left_depth (view e) ≡ 0
no_binary (tree.Constant n) h = refl
no_binary (tree.Variable i) h = refl
no_binary (tree.Unary' op p a) h = refl
no_binary (tree.Element' i n p a) h = refl
no_binary (tree.Binary' op p a q b) h = absurd (h op (record { ptr = p.ptr; alloc = p.alloc; value = a }) (record { ptr = q.ptr; alloc = q.alloc; value = b }) refl)

pub left_part-stays : (n : ℕ) (e : Expression) → left_depth e ≡ 0 → left_part n e ≡ e
left_part-stays zero e h = refl
left_part-stays (suc n) (Constant z) h = refl
left_part-stays (suc n) (Variable i) h = refl
left_part-stays (suc n) (Unary op a) h = refl
left_part-stays (suc n) (Element i k a) h = refl
left_part-stays (suc n) (Binary op a b) h = absurd (omega arith)

pub left_part-suc : (n : ℕ) (e : Expression) → left_part (suc n) e ≡ left_part 1 (left_part n e)
left_part-suc zero e = refl
left_part-suc (suc n) (Constant z) = refl
left_part-suc (suc n) (Variable i) = refl
left_part-suc (suc n) (Unary op a) = refl
left_part-suc (suc n) (Element i k a) = refl
left_part-suc (suc n) (Binary op a b) = left_part-suc n a

pub left_depth-left_part : (n : ℕ) (e : Expression) → left_depth (left_part n e) ≡ left_depth e - n
left_depth-left_part zero e = omega arith
left_depth-left_part (suc n) (Constant z) = omega arith
left_depth-left_part (suc n) (Variable i) = omega arith
left_depth-left_part (suc n) (Unary op a) = omega arith
left_depth-left_part (suc n) (Element i k a) = omega arith
left_depth-left_part (suc n) (Binary op a b) = omega (arith, left_depth-left_part n a)

pub left_part-add : (m n : ℕ) (e : Expression) → left_part (m + n) e ≡ left_part n (left_part m e)
left_part-add zero n e = ap (λ k. left_part k e) (zero-add n)
left_part-add (suc m) n (Constant z) = ap (λ k. left_part k (Constant z)) (nat_add.suc m n) ∙ sym (left_part-stays n (Constant z) refl)
left_part-add (suc m) n (Variable z) = ap (λ k. left_part k (Variable z)) (nat_add.suc m n) ∙ sym (left_part-stays n (Variable z) refl)
left_part-add (suc m) n (Unary op a) = ap (λ k. left_part k (Unary op a)) (nat_add.suc m n) ∙ sym (left_part-stays n (Unary op a) refl)
left_part-add (suc m) n (Element i k a) = ap (λ j. left_part j (Element i k a)) (nat_add.suc m n) ∙ sym (left_part-stays n (Element i k a) refl)
left_part-add (suc m) n (Binary op a b) = ap (λ k. left_part k (Binary op a b)) (nat_add.suc m n) ∙ left_part-add m n a

-- the part at the end of the way stays the same however much further one asks
pub left_part-past : (m n : ℕ) (e : Expression) → m ≤ n → left_depth (left_part m e) ≡ 0 → left_part n e ≡ left_part m e
left_part-past m n e h z =
    let k : m + (n - m) ≡ n = omega arith in
    ap (λ j. left_part j e) (sym k) ∙ left_part-add m (n - m) e ∙ left_part-stays (n - m) (left_part m e) z

-- ---- one step of a loop down the left operands

pub step_part : (root part next : Expr) (n : ℕ) (op : BinaryOp) (a b : Box Expr Global) → part ≡ whole.Binary op a b → next ≡ a.value → view part ≡ left_part n (view root) → view next ≡ left_part (n + 1) (view root)
step_part root part next n op a b e f h =
    rw (add-one, left_part-suc, ← h, e, f) refl

pub step_depth : (root part next : Expr) (n : ℕ) (op : BinaryOp) (a b : Box Expr Global) → part ≡ whole.Binary op a b → next ≡ a.value → n + left_depth (view part) ≡ left_depth (view root) → n + 1 + left_depth (view next) ≡ left_depth (view root)
step_depth root part next n op a b e f h =
    let k : left_depth (view part) ≡ suc (left_depth (view a.value)) = ap (λ x. left_depth (view x)) e in
    omega (arith, ap (λ x. left_depth (view x)) f)

pub ended : (root part : Expr) (m n : ℕ) → ((op : BinaryOp) (a b : Box Expr Global) → part ≡ whole.Binary op a b → ⊥) → view part ≡ left_part m (view root) → m ≤ n → view part ≡ left_part n (view root)
ended root part m n none h k =
    h ∙ sym (left_part-past m n (view root) k (ap left_depth (sym h) ∙ no_binary part none))

pub binary_is_deep : (e : Expr) (op : BinaryOp) (a b : Box Expr Global) → e ≡ whole.Binary op a b → 0 < left_depth (view e)
binary_is_deep e op a b h = omega (arith, ap (λ x. left_depth (view x)) h)
