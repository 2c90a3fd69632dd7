-- What the operator table explains.
use Rattle.std.proofs.Common.{◌≡◌, ℕ, zero, suc, ◌+◌, ◌-◌, ◌≤◌, Bool, true, false, List, [], ◌∷◌, ◌++◌, Some, Option, None, refl, sym, ap, subst, arith, append-nil}
use Rattle.pst_token.specs.declared.kind.Kind.TheVariants as kind
use Rattle.pst_token.specs.declared.token.Token.{Token}
use Rattle.pst_ast.specs.declared.leaf.Operator.{Operator}
use Rattle.pst_ast.specs.Limits.{Count, counted}
use Rattle.pst_ast.specs.ExpressionTree.{ExprTree, ExprUnary, ExprBinary, ExprIn, UnaryTree, RangesTree}
use Rattle.pst_ast.specs.ExpressionSpelling.{spell_expr, spell_unary, spell_ranges}
use Rattle.pst_ast.specs.ExpressionProper.{level, IsProperExpr, IsProperUnary, IsProperRanges}
use Rattle.pst_ast.specs.ExpressionOperators.{operators_expr, operators_ranges}
use Rattle.pst_ast.specs.ExpressionLimits.{counts_expr, counts_unary, counts_ranges}
use Rattle.pst_reading.specs.Parser.{Done, followed_by, next, mark_by, repeat_by}
use Rattle.pst_reading.proofs.Explaining.{Meaning, Means, Explains, ExplainedAt, Behind, LeadsBy, Leads, explains_both, explains_then, explains_done, explains_take, explains_row}
use Rattle.pst_reading.proofs.Marks.{IsMark, mark_explains}
use Rattle.pst_parse_operator.specs.Operators.{operator_of, is_in}
use Rattle.pst_parse_operator.specs.Reading.{Parsers, binary_by, in_by, operation_by, operation_of, level_by}
use Rattle.pst_parse_operator.proofs.Tokens.{IsOperator, operator_is, no_operator, in_is}

pub record IsLevel (k depth before : ℕ) (e : ExprTree) (text : List Token) (counts : List Count) : Type 0 where
  pub is : text ≡ spell_expr e
  pub proper : IsProperExpr e
  pub bound : k ≤ level e
  pub counted : counts ≡ counts_expr depth before e

abbrev pub IsUnary : ℕ → ℕ → Meaning UnaryTree
IsUnary depth before = Means spell_unary IsProperUnary (counts_unary depth before)

abbrev pub AreRanges : ℕ → ℕ → Meaning RangesTree
AreRanges depth before = Means spell_ranges IsProperRanges (counts_ranges depth before)

module _ (unary : Parsers UnaryTree) (ranges : Parsers RangesTree) (turns depth : ℕ) (U : (before : ℕ) → Explains (IsUnary depth before) (unary depth before)) (R : (before : ℕ) → Explains (AreRanges depth before) (ranges depth before)) where
  -- an operator of level k behind a left part, and its right part
  module _ (k before : ℕ) (tighter : Parsers ExprTree) (T : (b : ℕ) → Explains (IsLevel (suc k) depth b) (tighter depth b)) (a : ExprTree) (front : List Token) (counts : List Count) (h : IsLevel k depth before a front counts) where
    binary_explained : (o : Operator) (t : Token) (ts : List Token) → IsOperator k t o → ExplainedAt (Behind (IsLevel k depth before) front counts) (binary_by tighter depth before a o) (t ∷ ts)
    binary_explained o t ts w =
        let b = suc (before + operators_expr a) in
        let c = counted depth b in
        explains_take (Behind (IsLevel k depth before) front counts) c (λ token. followed_by (tighter depth b) (λ right. Done (ExprBinary a o token.place right))) t ts
        (explains_both (IsLevel (suc k) depth b) (Behind (Behind (IsLevel k depth before) front counts) (t ∷ []) (c ∷ [])) (tighter depth b) (λ right. Done (ExprBinary a o t.place right))
        (λ right text ds r. explains_done (Behind (Behind (Behind (IsLevel k depth before) front counts) (t ∷ []) (c ∷ [])) text ds) (ExprBinary a o t.place right)
        (record {
          is = rw (append-nil, h.is, r.is) (ap (λ (u : Token). spell_expr a ++ u ∷ spell_expr right) w.is);
          proper = (h.proper, r.proper, omega (arith, h.bound, w.level_is), omega (arith, r.bound, w.level_is));
          bound = omega (arith, w.level_is);
          counted = rw (append-nil, h.counted, r.counted) refl;
        })) ts (T b ts))

    in_explained : k ≡ 6 → Explains (Behind (IsLevel k depth before) front counts) (in_by ranges depth before a)
    in_explained six =
        let b = suc (before + operators_expr a) in
        let c = counted depth b in
        let M = Behind (IsLevel k depth before) front counts in
        explains_then (IsMark kind.In c) M (mark_by kind.In c) _ (mark_explains kind.In c)
        (λ p f1 c1 h1. explains_then (IsMark kind.LeftBracket c) (Behind M f1 c1) (mark_by kind.LeftBracket c) _ (mark_explains kind.LeftBracket c)
        (λ l f2 c2 h2. explains_then (AreRanges depth b) (Behind (Behind M f1 c1) f2 c2) (ranges depth b) _ (R b)
        (λ rs f3 c3 h3. explains_then (IsMark kind.RightBracket (counted depth (b + operators_ranges rs))) (Behind (Behind (Behind M f1 c1) f2 c2) f3 c3) (mark_by kind.RightBracket (counted depth (b + operators_ranges rs))) _ (mark_explains kind.RightBracket (counted depth (b + operators_ranges rs)))
        (λ r f4 c4 h4. explains_done (Behind (Behind (Behind (Behind M f1 c1) f2 c2) f3 c3) f4 c4) (ExprIn a p l rs r)
        (record {
          is = rw (append-nil, h.is, h1.is, h2.is, h3.is, h4.is) refl;
          proper = (h.proper, h3.proper, omega (arith, h.bound));
          bound = omega arith;
          counted = rw (append-nil, h.counted, h1.counted, h2.counted, h3.counted, h4.counted) refl;
        })))))

    operation_explained : (ts : List Token) (o : Option Operator) (m : Bool) → operator_of k (next ts) ≡ o → is_in k (next ts) ≡ m → LeadsBy (IsLevel k depth before) front counts ts (operation_by tighter ranges depth before a o m)
    operation_explained [] (Some o) m e f = absurd (some_is_none (no_operator k) e)
      where
        some_is_none : operator_of k None ≡ None → operator_of k None ≡ Some o → ⊥
        some_is_none x y = cc
    operation_explained (t ∷ ts) (Some o) m e f = binary_explained o t ts (operator_is k t o e)
    operation_explained ts None true e f = in_explained (in_is k (next ts) f).0 ts
    operation_explained ts None false e f = tt

  pub level_explains : (above k : ℕ) → above + k ≡ 10 → (before : ℕ) → Explains (IsLevel k depth before) (level_by unary ranges turns above depth before)
  level_explains zero k e before =
      explains_then (IsUnary depth before) (IsLevel k depth before) (unary depth before) (λ u. Done (ExprUnary u)) (U before)
      (λ u front counts h. explains_done (Behind (IsLevel k depth before) front counts) (ExprUnary u)
      (record { is = rw (append-nil, h.is) refl; proper = h.proper; bound = omega (arith, e); counted = rw (append-nil, h.counted) refl }))
  level_explains (suc above) k e before =
      let own : 9 - above ≡ k = omega (arith, e) in
      let higher : above + suc k ≡ 10 = omega (arith, e) in
      let T = level_explains above (suc k) higher in
      let step = operation_of (level_by unary ranges turns above) ranges (9 - above) depth before in
      let L : Leads (IsLevel k depth before) step = λ a front counts h ts. subst (λ (l : ℕ). LeadsBy (IsLevel k depth before) front counts ts (operation_of (level_by unary ranges turns above) ranges l depth before a (next ts))) (sym own) (operation_explained k before (level_by unary ranges turns above) T a front counts h ts (operator_of k (next ts)) (is_in k (next ts)) refl refl) in
      explains_then (IsLevel (suc k) depth before) (IsLevel k depth before) (level_by unary ranges turns above depth before) (repeat_by step turns) (T before)
      (λ a front counts h. explains_row (IsLevel k depth before) step L turns a front counts (record { is = h.is; proper = h.proper; bound = omega (arith, h.bound); counted = h.counted }))
