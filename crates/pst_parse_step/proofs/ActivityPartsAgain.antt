-- Parts of activities read what they spell again.
use Rattle.std.proofs.Common.{◌≡◌, ℕ, ◌+◌, ◌-◌, ◌≤◌, true, false, [], ◌∷◌, ◌++◌, length, refl, arith, length-append}
use Rattle.std.specs.List.{flat_map}
use Rattle.pst_token.specs.declared.kind.Kind.TheVariants as kind
use Rattle.pst_ast.specs.declared.activity.EndNode.{EndNode}
use Rattle.pst_ast.specs.declared.activity.NextEnd.{NextEnd}
use Rattle.pst_ast.specs.Marks.{mark, spell_option}
use Rattle.pst_ast.specs.Limits.{counted, counts_option}
use Rattle.pst_ast.specs.ExpressionTree.{ExprTree}
use Rattle.pst_ast.specs.ExpressionSpelling.{spell_expr, spell_ranges}
use Rattle.pst_ast.specs.ExpressionProper.{IsProperExpr}
use Rattle.pst_ast.specs.ExpressionLimits.{counts_expr}
use Rattle.pst_ast.specs.SharedSpelling.{spell_names}
use Rattle.pst_ast.specs.SharedLimits.{counts_names, counts_own_ranges}
use Rattle.pst_ast.specs.ConstraintTree.{ConstraintTree}
use Rattle.pst_ast.specs.ConstraintSpelling.{spell_constraint}
use Rattle.pst_ast.specs.ConstraintProper.{IsProperConstraint}
use Rattle.pst_ast.specs.ConstraintLimits.{counts_constraint}
use Rattle.pst_ast.specs.ActivityTree.{GuardTree, GuardCondition, GuardWeight, WeightTree, MakeWeight, ArmLabelTree, ArmLabelRanges, ArmLabelDefault, JoinTree, JoinBranch, JoinNothing, JoinSelect, WithTree, WithNothing, WithSet, BindTree, MakeBind, OtherEndsTree, OtherEndsOne, OtherEndsSeveral}
use Rattle.pst_ast.specs.ActivitySpelling.{spell_with, spell_join, spell_end, spell_next_end, spell_other_ends, spell_bind, spell_weight, spell_guard, spell_arm_label}
use Rattle.pst_ast.specs.ActivityProper.{IsProperWith, IsProperJoin, IsProperWeight, IsProperGuard, IsProperArmLabel}
use Rattle.pst_ast.specs.ActivityLimits.{counts_with, counts_join, counts_end, counts_next_end, counts_other_ends, counts_bind, counts_weight, counts_guard, counts_arm_label}
use Rattle.pst_reading.specs.Kinds.{is_mark}
use Rattle.pst_reading.specs.Parser.{if_mark}
use Rattle.pst_reading.specs.Lists.{list_by}
use Rattle.pst_reading.specs.Options.{option_by}
use Rattle.pst_parse_step.specs.ActivityParts.{end_by, next_end_by, one_end_by, several_ends_by, other_ends_by, bind_by, branch_join_by, nothing_join_by, select_join_by, join_by, weight_by, condition_guard_by, weight_guard_by, guard_by, ranges_label_by, default_label_by, arm_label_by, with_set_by, with_nothing_by, with_by}
use Rattle.pst_parse_part.specs.Names.{names_by}
use Rattle.pst_parse_part.specs.Ranges.{ranges_by}
use Rattle.pst_reading.proofs.Tokens.{mark_is_so}
use Rattle.pst_reading.proofs.Rereading.{Rereads, Anything, EndsOption, reread_done, reread_mark, reread_name, reread_part, reread_last, reread_choice, reread_option, reread_list}
use Rattle.pst_parse_expr.specs.Constraints.{Within, is_at}
use Rattle.pst_parse_operator.proofs.Stops.{Separates, right_parenthesis_closes, right_bracket_closes}
use Rattle.pst_parse_expr.proofs.ConstraintAgain.{StopsSet}
use Rattle.pst_parse_expr.proofs.SharedLaws.{IsAny}
use Rattle.pst_parse_step.proofs.ActivityPartEnds.{StopsWith, weight_starts}
use Rattle.pst_parse_part.proofs.Following.{EndsRange, any_list}
use Rattle.pst_parse_part.proofs.RangesAgain.{ranges_rereads}
use Rattle.pst_parse_part.proofs.NamesAgain.{names_rereads}

-- ---- bind

end_again : (d : ℕ) (e : EndNode) → Rereads Anything (end_by d) (spell_end e) (counts_end d e) e
end_again d e = reread_name Anything _ _ e.handle _ _ _ (reread_mark Anything kind.Dot _ _ e.dot _ _ _ (reread_name Anything _ _ e.name _ _ _ (reread_done Anything _)))

next_end_again : (d : ℕ) (e : NextEnd) → Rereads Anything (next_end_by d) (spell_next_end e) (counts_next_end d e) e
next_end_again d e = reread_mark Anything kind.Comma _ _ e.comma _ _ _ (reread_last Anything (end_by d) _ (spell_end e.end) (counts_end d e.end) e.end e (end_again d e.end) refl)

other_ends_again : (size d : ℕ) (o : OtherEndsTree) → length (spell_other_ends o) ≤ size → Rereads Anything (other_ends_by size d) (spell_other_ends o) (counts_other_ends d o) o
unfolding is_mark
other_ends_again size d (OtherEndsOne e) short =
    reread_choice Anything kind.LeftBrace (several_ends_by size d) (one_end_by d) (spell_end e) (counts_end d e) (OtherEndsOne e) false (λ rest m. refl)
    (reread_last Anything (end_by d) _ (spell_end e) (counts_end d e) e (OtherEndsOne e) (end_again d e) refl)
other_ends_again size d (OtherEndsSeveral l first rest r) short =
    reread_choice Anything kind.LeftBrace (several_ends_by size d) (one_end_by d) (spell_other_ends (OtherEndsSeveral l first rest r)) (counts_other_ends d (OtherEndsSeveral l first rest r)) (OtherEndsSeveral l first rest r) true (λ more m. refl)
    (reread_mark Anything kind.LeftBrace _ _ l _ _ _
    (reread_part Anything Anything (end_by d) _ (spell_end first) (counts_end d first) first (flat_map spell_next_end rest ++ mark kind.RightBrace r ∷ []) (flat_map (counts_next_end d) rest ++ counted d 0 ∷ []) _ (end_again d first) (λ more m. tt)
    (reread_part Anything (EndsOption (is_at kind.Comma) Anything) (list_by (is_at kind.Comma) (next_end_by d) size) _ (flat_map spell_next_end rest) (flat_map (counts_next_end d) rest) rest (mark kind.RightBrace r ∷ []) (counted d 0 ∷ []) _
    (reread_list spell_next_end IsAny (counts_next_end d) (is_at kind.Comma) Anything (next_end_by d) size size (λ x p s. next_end_again d x) (λ x more p. record { found = mark_is_so kind.Comma x.comma; good = tt }) (λ x. omega arith) rest (any_list rest) (omega (arith, short, long)) (omega (arith, short, long))) (λ more m. (refl, tt))
    (reread_mark Anything kind.RightBrace _ _ r _ _ _ (reread_done Anything _)))))
  where
    long : length (flat_map spell_next_end rest ++ mark kind.RightBrace r ∷ []) ≡ length (flat_map spell_next_end rest) + 1
    long = length-append (flat_map spell_next_end rest) (mark kind.RightBrace r ∷ [])

pub bind_again : (size d : ℕ) (b : BindTree) → length (spell_bind b) ≤ size → Rereads Anything (bind_by size d) (spell_bind b) (counts_bind d b) b
bind_again size d (MakeBind word first others semicolon) short =
    reread_mark Anything kind.Bind _ _ word _ _ _
    (reread_part Anything Anything (end_by d) _ (spell_end first) (counts_end d first) first (spell_other_ends others ++ mark kind.Semicolon semicolon ∷ []) (counts_other_ends d others ++ counted d 0 ∷ []) _ (end_again d first) (λ more m. tt)
    (reread_part Anything Anything (other_ends_by size d) _ (spell_other_ends others) (counts_other_ends d others) others (mark kind.Semicolon semicolon ∷ []) (counted d 0 ∷ []) _ (other_ends_again size d others (omega (arith, short, length-append (spell_other_ends others) (mark kind.Semicolon semicolon ∷ [])))) (λ more m. tt)
    (reread_mark Anything kind.Semicolon _ _ semicolon _ _ _ (reread_done Anything _))))

module _ (X : Within ExprTree) (size : ℕ) (AX : (d : ℕ) (e : ExprTree) → IsProperExpr e → length (spell_expr e) ≤ size → Rereads (Separates 0) (X d) (spell_expr e) (counts_expr d 0 e) e) where
  -- ---- join forms

  pub join_again : (d : ℕ) (j : JoinTree) → IsProperJoin j → length (spell_join j) ≤ size → Rereads Anything (join_by X size d) (spell_join j) (counts_join d j) j
  unfolding is_mark
  join_again d (JoinBranch w l names r) p short =
      reread_choice Anything kind.JoinBranch (branch_join_by size d) (if_mark kind.JoinNone (nothing_join_by d) (select_join_by X d)) (spell_join (JoinBranch w l names r)) (counts_join d (JoinBranch w l names r)) (JoinBranch w l names r) true (λ more m. refl)
      (reread_mark Anything kind.JoinBranch _ _ w _ _ _
      (reread_mark Anything kind.LeftParenthesis _ _ l _ _ _
      (reread_part Anything (EndsOption (is_at kind.Comma) Anything) (names_by size d) _ (spell_names names) (counts_names d names) names (mark kind.RightParenthesis r ∷ []) (counted d 0 ∷ []) _ (names_rereads size d names p (omega (arith, short, length-append (spell_names names) (mark kind.RightParenthesis r ∷ [])))) (λ more m. (refl, tt))
      (reread_mark Anything kind.RightParenthesis _ _ r _ _ _ (reread_done Anything _)))))
  join_again d (JoinNothing p) proper short =
      reread_choice Anything kind.JoinBranch (branch_join_by size d) (if_mark kind.JoinNone (nothing_join_by d) (select_join_by X d)) (spell_join (JoinNothing p)) (counts_join d (JoinNothing p)) (JoinNothing p) false (λ more m. refl)
      (reread_choice Anything kind.JoinNone (nothing_join_by d) (select_join_by X d) (spell_join (JoinNothing p)) (counts_join d (JoinNothing p)) (JoinNothing p) true (λ more m. refl)
      (reread_mark Anything kind.JoinNone _ _ p _ _ _ (reread_done Anything _)))
  join_again d (JoinSelect w l e r) proper short =
      reread_choice Anything kind.JoinBranch (branch_join_by size d) (if_mark kind.JoinNone (nothing_join_by d) (select_join_by X d)) (spell_join (JoinSelect w l e r)) (counts_join d (JoinSelect w l e r)) (JoinSelect w l e r) false (λ more m. refl)
      (reread_choice Anything kind.JoinNone (nothing_join_by d) (select_join_by X d) (spell_join (JoinSelect w l e r)) (counts_join d (JoinSelect w l e r)) (JoinSelect w l e r) false (λ more m. refl)
      (reread_mark Anything kind.JoinSelect _ _ w _ _ _
      (reread_mark Anything kind.LeftParenthesis _ _ l _ _ _
      (reread_part Anything (Separates 0) (X d) _ (spell_expr e) (counts_expr d 0 e) e (mark kind.RightParenthesis r ∷ []) (counted d 0 ∷ []) _ (AX d e proper (omega (arith, short, length-append (spell_expr e) (mark kind.RightParenthesis r ∷ [])))) (λ more m. right_parenthesis_closes r)
      (reread_mark Anything kind.RightParenthesis _ _ r _ _ _ (reread_done Anything _))))))

  -- ---- guards

  weight_again : (d : ℕ) (w : WeightTree) → IsProperWeight w → length (spell_weight w) ≤ size → Rereads Anything (weight_by X d) (spell_weight w) (counts_weight d w) w
  weight_again d (MakeWeight l e r) proper short =
      reread_mark Anything kind.LeftBracket _ _ l _ _ _
      (reread_part Anything (Separates 0) (X d) _ (spell_expr e) (counts_expr d 0 e) e (mark kind.RightBracket r ∷ []) (counted d 0 ∷ []) _ (AX d e proper (omega (arith, short, length-append (spell_expr e) (mark kind.RightBracket r ∷ [])))) (λ more m. right_bracket_closes r)
      (reread_mark Anything kind.RightBracket _ _ r _ _ _ (reread_done Anything _)))

  pub guard_again : (d : ℕ) (g : GuardTree) → IsProperGuard g → length (spell_guard g) ≤ size → Rereads Anything (guard_by X d) (spell_guard g) (counts_guard d g) g
  unfolding is_mark
  guard_again d (GuardCondition l e r w c) proper short =
      let long = length-append (spell_expr e) (mark kind.RightParenthesis r ∷ (spell_option spell_weight w ++ mark kind.Colon c ∷ [])) in
      let longer = length-append (spell_option spell_weight w) (mark kind.Colon c ∷ []) in
      reread_choice Anything kind.LeftParenthesis (condition_guard_by X d) (weight_guard_by X d) (spell_guard (GuardCondition l e r w c)) (counts_guard d (GuardCondition l e r w c)) (GuardCondition l e r w c) true (λ more m. refl)
      (reread_mark Anything kind.LeftParenthesis _ _ l _ _ _
      (reread_part Anything (Separates 0) (X d) _ (spell_expr e) (counts_expr d 0 e) e (mark kind.RightParenthesis r ∷ (spell_option spell_weight w ++ mark kind.Colon c ∷ [])) (counted d 0 ∷ (counts_option (counts_weight d) w ++ counted d 0 ∷ [])) _ (AX d e proper.0 (omega (arith, short, long))) (λ more m. right_parenthesis_closes r)
      (reread_mark Anything kind.RightParenthesis _ _ r _ _ _
      (reread_part Anything (EndsOption (is_at kind.LeftBracket) Anything) (option_by (is_at kind.LeftBracket) (weight_by X d)) _ (spell_option spell_weight w) (counts_option (counts_weight d) w) w (mark kind.Colon c ∷ []) (counted d 0 ∷ []) _
      (reread_option spell_weight IsProperWeight (counts_weight d) (is_at kind.LeftBracket) Anything (weight_by X d) size (weight_again d) weight_starts w proper.1 (omega (arith, short, long, longer))) (λ more m. (refl, tt))
      (reread_mark Anything kind.Colon _ _ c _ _ _ (reread_done Anything _))))))
  guard_again d (GuardWeight (MakeWeight l e r) c) proper short =
      let w = MakeWeight l e r in
      reread_choice Anything kind.LeftParenthesis (condition_guard_by X d) (weight_guard_by X d) (spell_guard (GuardWeight w c)) (counts_guard d (GuardWeight w c)) (GuardWeight w c) false (λ more m. refl)
      (reread_part Anything Anything (weight_by X d) _ (spell_weight w) (counts_weight d w) w (mark kind.Colon c ∷ []) (counted d 0 ∷ []) _ (weight_again d w proper (omega (arith, short, length-append (spell_weight w) (mark kind.Colon c ∷ [])))) (λ more m. tt)
      (reread_mark Anything kind.Colon _ _ c _ _ _ (reread_done Anything _)))

  pub arm_label_again : (d : ℕ) (a : ArmLabelTree) → IsProperArmLabel a → length (spell_arm_label a) ≤ size → Rereads Anything (arm_label_by size d) (spell_arm_label a) (counts_arm_label d a) a
  unfolding is_mark
  arm_label_again d (ArmLabelRanges l rs r) proper short =
      reread_choice Anything kind.LeftBracket (ranges_label_by size d) (default_label_by d) (spell_arm_label (ArmLabelRanges l rs r)) (counts_arm_label d (ArmLabelRanges l rs r)) (ArmLabelRanges l rs r) true (λ more m. refl)
      (reread_mark Anything kind.LeftBracket _ _ l _ _ _
      (reread_part Anything (EndsOption (is_at kind.Comma) EndsRange) (ranges_by size d) _ (spell_ranges rs) (counts_own_ranges d rs) rs (mark kind.RightBracket r ∷ []) (counted d 0 ∷ []) _ (ranges_rereads size d rs proper (omega (arith, short, length-append (spell_ranges rs) (mark kind.RightBracket r ∷ [])))) (λ more m. (refl, (right_bracket_closes r, refl)))
      (reread_mark Anything kind.RightBracket _ _ r _ _ _ (reread_done Anything _))))
  arm_label_again d (ArmLabelDefault p) proper short =
      reread_choice Anything kind.LeftBracket (ranges_label_by size d) (default_label_by d) (spell_arm_label (ArmLabelDefault p)) (counts_arm_label d (ArmLabelDefault p)) (ArmLabelDefault p) false (λ more m. refl)
      (reread_mark Anything kind.Default _ _ p _ _ _ (reread_done Anything _))

pub with_again : (S : Within ConstraintTree) (size : ℕ) → ((d : ℕ) (s : ConstraintTree) → IsProperConstraint s → length (spell_constraint s) ≤ size → Rereads (StopsSet s) (S d) (spell_constraint s) (counts_constraint d s) s) → (d : ℕ) (w : WithTree) → IsProperWith w → length (spell_with w) ≤ size → Rereads (StopsWith w) (with_by S d) (spell_with w) (counts_with d w) w
unfolding is_mark
with_again S size AS d (WithNothing p) proper short =
    reread_choice (StopsWith (WithNothing p)) kind.With (with_set_by S d) (with_nothing_by d) (spell_with (WithNothing p)) (counts_with d (WithNothing p)) (WithNothing p) false (λ more m. refl)
    (reread_mark _ kind.Semicolon _ _ p _ _ _ (reread_done _ _))
with_again S size AS d (WithSet p s) proper short =
    reread_choice (StopsWith (WithSet p s)) kind.With (with_set_by S d) (with_nothing_by d) (spell_with (WithSet p s)) (counts_with d (WithSet p s)) (WithSet p s) true (λ more m. refl)
    (reread_mark _ kind.With _ _ p _ _ _ (reread_last _ (S d) _ (spell_constraint s) (counts_constraint d s) s (WithSet p s) (AS d s proper (omega (arith, short))) refl))
