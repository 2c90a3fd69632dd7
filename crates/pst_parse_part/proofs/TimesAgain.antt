-- Counts in brackets read what they spell again.
use Rattle.std.proofs.Common.{◌≡◌, ℕ, ◌≤◌, Bool, true, false, ◌&&◌, List, [], ◌∷◌, ◌++◌, length, Some, Option, None, refl, sym, ap, ◌∙◌}
use Rattle.pst_base.specs.declared.position.Place.{Place}
use Rattle.pst_token.specs.declared.kind.Kind.{Kind}
use Rattle.pst_token.specs.declared.kind.Kind.TheVariants as kind
use Rattle.pst_token.specs.declared.token.Token.{Token}
use Rattle.pst_ast.specs.declared.leaf.Name.{Name}
use Rattle.pst_ast.specs.declared.shared.LabelNode.{LabelNode}
use Rattle.pst_ast.specs.Marks.{mark, name_token, spell_option}
use Rattle.pst_ast.specs.Limits.{counted, counts_option}
use Rattle.pst_ast.specs.ExpressionTree.{ExprTree}
use Rattle.pst_ast.specs.ExpressionSpelling.{spell_expr}
use Rattle.pst_ast.specs.ExpressionProper.{IsProperExpr}
use Rattle.pst_ast.specs.ExpressionLimits.{counts_expr}
use Rattle.pst_ast.specs.SharedSpelling.{spell_label}
use Rattle.pst_ast.specs.SharedLimits.{counts_label}
use Rattle.pst_reading.specs.Kinds.{is_mark, is_name}
use Rattle.pst_reading.specs.Parser.{Done, next}
use Rattle.pst_reading.specs.Peeking.{name_then}
use Rattle.pst_reading.proofs.Becoming.{Becomes, stays, becomes_both}
use Rattle.pst_reading.proofs.Tokens.{mark_is_so, name_is_so}
use Rattle.pst_reading.proofs.Chains.{becomes_mark, becomes_name}
use Rattle.pst_reading.proofs.Peeking.{takes, takes_followed, peek_becomes}
use Rattle.pst_parse_expr.specs.Constraints.{Within}
use Rattle.pst_parse_operator.proofs.Stops.{IsNo, Separates, right_parenthesis_closes}
use Rattle.pst_parse_expr.proofs.Takes.{expr_apart, colon_outside}
use Rattle.pst_parse_expr.proofs.SharedLaws.{same_text}
use Rattle.pst_parse_part.specs.Times.{label_colon, label_by, TimesTree, times_close, times_count, times_label, times_inner, times_by}
use Rattle.pst_parse_part.proofs.TimesExplain.{spell_times, IsProperTimes, counts_times, label_takes, times_spelled}

no_colon_at_parenthesis : (p : Place) → IsNo kind.Colon (Some (mark kind.RightParenthesis p))
unfolding is_mark
no_colon_at_parenthesis p = refl

pub name_and_mark : (k : Kind) (n : Name) (p : Place) (ts : List Token) → name_then k (name_token n ∷ mark k p ∷ ts) ≡ true
name_and_mark k n p ts = ap (λ (b : Bool). b && is_mark k (mark k p)) (name_is_so n) ∙ mark_is_so k p

module _ (X : Within ExprTree) (size : ℕ) (AX : (d : ℕ) (e : ExprTree) (rest : List Token) → IsProperExpr e → length (spell_expr e) ≤ size → Separates 0 (next rest) → Becomes (X d) (spell_expr e ++ rest) (counts_expr d 0 e) (Done e) rest) (TX : (d : ℕ) (t : Token) → is_name t ≡ true → takes (X d) t ≡ Some (counted d 0)) where
  count_again : (d : ℕ) (l : Place) (i : Option LabelNode) (e : ExprTree) (r : Place) (rest : List Token) → IsProperExpr e → length (spell_expr e) ≤ size → Becomes (times_count X d l i) (spell_expr e ++ mark kind.RightParenthesis r ∷ rest) (counts_expr d 0 e ++ counted d 0 ∷ []) (Done (l, i, e, r)) rest
  count_again d l i e r rest proper short =
      let us = mark kind.RightParenthesis r ∷ rest in
      becomes_both (X d) (times_close d l i) e (Done (l, i, e, r)) (spell_expr e ++ us) us rest (counts_expr d 0 e) (counted d 0 ∷ []) (AX d e us proper short (right_parenthesis_closes r))
      (becomes_mark kind.RightParenthesis (counted d 0) (λ x. Done (l, i, e, x)) r (Done (l, i, e, r)) rest rest [] (stays (Done (l, i, e, r)) rest))

  inner_again : (d : ℕ) (l : Place) (i : Option LabelNode) (e : ExprTree) (r : Place) (rest : List Token) → IsProperExpr e → length (spell_expr e) ≤ size → Becomes (times_inner X d l) (spell_option spell_label i ++ (spell_expr e ++ mark kind.RightParenthesis r ∷ rest)) (counts_option (counts_label d) i ++ (counts_expr d 0 e ++ counted d 0 ∷ [])) (Done (l, i, e, r)) rest
  inner_again d l None e r rest proper short =
      let ts = spell_expr e ++ mark kind.RightParenthesis r ∷ rest in
      peek_becomes kind.Colon (counted d 0) (times_label X d l) (times_count X d l None) (λ t f. label_takes d (λ label. times_count X d l (Some label)) t f) (λ t f. takes_followed (X d) (times_close d l None) t (counted d 0) (TX d t f)) false (Done (l, None, e, r)) ts rest (counts_expr d 0 e ++ counted d 0 ∷ [])
      (expr_apart kind.Colon colon_outside e (mark kind.RightParenthesis r ∷ rest) (no_colon_at_parenthesis r))
      (count_again d l None e r rest proper short)
  inner_again d l (Some i) e r rest proper short =
      let c = counted d 0 in
      let us = spell_expr e ++ mark kind.RightParenthesis r ∷ rest in
      let cs = counts_expr d 0 e ++ c ∷ [] in
      let whole : TimesTree = (l, Some i, e, r) in
      peek_becomes kind.Colon c (times_label X d l) (times_count X d l None) (λ t f. label_takes d (λ label. times_count X d l (Some label)) t f) (λ t f. takes_followed (X d) (times_close d l None) t c (TX d t f)) true (Done whole) (name_token i.name ∷ mark kind.Colon i.colon ∷ us) rest (c ∷ c ∷ cs)
      (name_and_mark kind.Colon i.name i.colon us)
      (becomes_both (label_by d) (λ label. times_count X d l (Some label)) i (Done whole) (name_token i.name ∷ mark kind.Colon i.colon ∷ us) us rest (c ∷ c ∷ []) cs
      (becomes_name c (label_colon d) i.name (Done i) (mark kind.Colon i.colon ∷ us) us (c ∷ [])
      (becomes_mark kind.Colon c (λ x. Done (record { name = i.name; colon = x })) i.colon (Done i) us us [] (stays (Done i) us)))
      (count_again d l (Some i) e r rest proper short))

  pub times_again : (d : ℕ) (t : TimesTree) (rest : List Token) → IsProperTimes t → length (spell_expr t.2) ≤ size → Becomes (times_by X d) (spell_times t ++ rest) (counts_times d t) (Done t) rest
  times_again d t rest proper short =
      let ts = spell_option spell_label t.1 ++ (spell_expr t.2 ++ mark kind.RightParenthesis t.3 ∷ rest) in
      same_text (times_by X d) (Done t) (spell_times t ++ rest) (mark kind.LeftParenthesis t.0 ∷ ts) rest (counts_times d t) (counts_times d t) (sym (times_spelled t rest)) refl
      (becomes_mark kind.LeftParenthesis (counted d 0) (times_inner X d) t.0 (Done t) ts rest (counts_option (counts_label d) t.1 ++ (counts_expr d 0 t.2 ++ counted d 0 ∷ [])) (inner_again d t.0 t.1 t.2 t.3 rest proper short))
