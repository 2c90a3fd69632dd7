-- What counts in brackets give, from what their parts give.
use Rattle.std.proofs.Common.{◌≡◌, ℕ, suc, ◌+◌, ◌≤◌, Bool, if◌then◌else◌, List, length, drop, Option, Some, None, true, false, refl, arith, Err}
use Rattle.pst_base.specs.declared.position.Place.{Place}
use Rattle.pst_token.specs.declared.kind.Kind.TheVariants as kind
use Rattle.pst_token.specs.declared.token.Token.{Token}
use Rattle.pst_ast.specs.declared.fault.SyntaxFault.{SyntaxFault}
use Rattle.pst_ast.specs.declared.shared.LabelNode.{LabelNode}
use Rattle.pst_ast.specs.ExpressionTree.{ExprTree}
use Rattle.pst_ast.specs.Limits.{counted, is_over}
use Rattle.pst_reading.specs.Parser.{Done, Took, run, mark_by}
use Rattle.pst_reading.specs.Gives.{SettlesFrom, FailsFrom, Expects}
use Rattle.pst_reading.specs.Peeking.{name_then}
use Rattle.pst_reading.proofs.Reaching.{Reaches, begin, step, mark_step, ends, fails, mark_fails}
use Rattle.pst_reading.proofs.Peeking.{takes_followed, peek_reaches}
use Rattle.pst_parse_expr.specs.Constraints.{outermost_at}
use Rattle.pst_parse_expr.specs.ConstraintFamilies.{outermost_family}
use Rattle.pst_parse_expr.proofs.Takes.{expr_takes}
use Rattle.pst_parse_part.specs.Times.{times_close, times_count, times_label, times_inner}
use Rattle.pst_parse_part.specs.TimesFamilies.{label_family, counted_family, times_family}
use Rattle.pst_parse_part.proofs.TimesExplain.{label_takes}

module _ (tokens : List Token) (at d : ℕ) where
  module _ (left : Place) (index : Option LabelNode) where
    pub counted_fails : (e : SyntaxFault) → FailsFrom (outermost_family d) tokens at at e → FailsFrom (counted_family d left index) tokens at at e
    counted_fails e h = fails (counted_family d left index) tokens at at (outermost_family d) (λ m n. times_close d left index) at at e (omega arith) h (begin (counted_family d left index) tokens at at)

    module _ (count : ExprTree) (after : ℕ) (more : at + 1 ≤ after) (inside : after ≤ length tokens) (given : SettlesFrom (outermost_family d) tokens at at (Took count (drop after tokens))) where
      counted_read : Reaches (counted_family d left index) tokens at at (λ m n. times_close d left index count) after
      counted_read = step (counted_family d left index) tokens at at (outermost_family d) (λ m n. times_close d left index) at at after count (omega arith) (omega (arith, more)) given (begin (counted_family d left index) tokens at at)

      pub counted_close_fails : (e : SyntaxFault) → Expects (mark_by kind.RightParenthesis (counted d 0)) tokens after (Err e) → FailsFrom (counted_family d left index) tokens at at e
      counted_close_fails e h = mark_fails (counted_family d left index) tokens at at kind.RightParenthesis (counted d 0) (λ m n r. Done (left, index, count, r)) after e inside h counted_read

      pub counted_given : (right : Place) → run is_over (mark_by kind.RightParenthesis (counted d 0)) (drop after tokens) ≡ Took right (drop (after + 1) tokens) → SettlesFrom (counted_family d left index) tokens at at (Took (left, index, count, right) (drop (after + 1) tokens))
      counted_given right h = ends (counted_family d left index) tokens at at (left, index, count, right) (after + 1) (mark_step (counted_family d left index) tokens at at kind.RightParenthesis (counted d 0) (λ m n r. Done (left, index, count, r)) after (after + 1) right refl h counted_read)

  module _ (left : Place) (taken : run is_over (mark_by kind.LeftParenthesis (counted d 0)) (drop at tokens) ≡ Took left (drop (at + 1) tokens)) where
    times_opened : Reaches (times_family d) tokens at at (λ m n. times_inner (outermost_at (suc m)) d left) (at + 1)
    times_opened = mark_step (times_family d) tokens at at kind.LeftParenthesis (counted d 0) (λ m n. times_inner (outermost_at (suc m)) d) at (at + 1) left refl taken (begin (times_family d) tokens at at)

    times_chosen : (b : Bool) → name_then kind.Colon (drop (at + 1) tokens) ≡ b → Reaches (times_family d) tokens at at (λ m n. times_inner (outermost_at (suc m)) d left) (at + 1) → Reaches (times_family d) tokens at at (λ m n. if b then times_label (outermost_at (suc m)) d left else counted_family d left None m n) (at + 1)
    times_chosen b e r = peek_reaches (times_family d) tokens at at kind.Colon (counted d 0) (λ m n. times_label (outermost_at (suc m)) d left) (counted_family d left None) (at + 1) b (λ m n t f. label_takes d (λ label. times_count (outermost_at (suc m)) d left (Some label)) t f) (λ m n t f. takes_followed (outermost_at (suc m) d) (times_close d left None) t (counted d 0) (expr_takes m d t f)) e r

    pub plain_times : name_then kind.Colon (drop (at + 1) tokens) ≡ false → Reaches (times_family d) tokens at at (counted_family d left None) (at + 1)
    plain_times e = times_chosen false e times_opened

    module _ (present : name_then kind.Colon (drop (at + 1) tokens) ≡ true) where
      pub label_fails : (e : SyntaxFault) → FailsFrom (label_family d) tokens (at + 1) (at + 1) e → FailsFrom (times_family d) tokens at at e
      label_fails e h = fails (times_family d) tokens at at (label_family d) (λ m n label. times_count (outermost_at (suc m)) d left (Some label)) (at + 1) (at + 1) e (omega arith) h (times_chosen true present times_opened)

      pub labeled_times : (label : LabelNode) (behind : ℕ) → at + 1 + 2 ≤ behind → SettlesFrom (label_family d) tokens (at + 1) (at + 1) (Took label (drop behind tokens)) → Reaches (times_family d) tokens at at (counted_family d left (Some label)) behind
      labeled_times label behind more h = step (times_family d) tokens at at (label_family d) (λ m n x. times_count (outermost_at (suc m)) d left (Some x)) (at + 1) (at + 1) behind label (omega arith) (omega (arith, more)) h (times_chosen true present times_opened)
