-- What the rules of parts of activities explain.
use Rattle.std.proofs.Common.{◌≡◌, ℕ, ◌+◌, ◌-◌, if◌then◌else◌, [], ◌∷◌, ◌++◌, refl, append-nil}
use Rattle.std.specs.List.{flat_map, AllByRecursion}
use Rattle.pst_token.specs.declared.kind.Kind.TheVariants as kind
use Rattle.pst_ast.specs.Marks.{mark, name_token, spell_option, OptionIs}
use Rattle.pst_ast.specs.Limits.{counted, counts_option}
use Rattle.pst_ast.specs.ExpressionTree.{ExprTree}
use Rattle.pst_ast.specs.ExpressionSpelling.{spell_expr, spell_ranges}
use Rattle.pst_ast.specs.ExpressionProper.{IsProperExpr, IsProperRanges}
use Rattle.pst_ast.specs.ExpressionLimits.{counts_expr}
use Rattle.pst_ast.specs.SharedSpelling.{spell_names}
use Rattle.pst_ast.specs.SharedProper.{IsProperNames}
use Rattle.pst_ast.specs.SharedLimits.{counts_names, counts_own_ranges}
use Rattle.pst_ast.specs.ConstraintTree.{ConstraintTree}
use Rattle.pst_ast.specs.ConstraintSpelling.{spell_constraint}
use Rattle.pst_ast.specs.ConstraintProper.{IsProperConstraint}
use Rattle.pst_ast.specs.ConstraintLimits.{counts_constraint}
use Rattle.pst_ast.specs.ActivityTree.{GuardCondition, GuardWeight, MakeWeight, ArmLabelRanges, ArmLabelDefault, JoinBranch, JoinNothing, JoinSelect, WithNothing, WithSet, MakeBind, OtherEndsOne, OtherEndsSeveral}
use Rattle.pst_ast.specs.ActivitySpelling.{spell_with, spell_join, spell_end, spell_next_end, spell_other_ends, spell_bind, spell_weight, spell_guard, spell_arm_label}
use Rattle.pst_ast.specs.ActivityProper.{IsProperWith, IsProperJoin, IsProperOtherEnds, IsProperBind, IsProperWeight, IsProperGuard, IsProperArmLabel}
use Rattle.pst_ast.specs.ActivityLimits.{counts_with, counts_join, counts_end, counts_next_end, counts_other_ends, counts_bind, counts_weight, counts_guard, counts_arm_label}
use Rattle.pst_parse_step.specs.ActivityParts.{end_by, next_end_by, other_ends_by, bind_by, join_by, weight_by, guard_by, arm_label_by, with_by}
use Rattle.pst_reading.proofs.Explaining.{Means, Behind}
use Rattle.pst_reading.proofs.Accounts.{Accounts, account_done, account_mark, account_name, account_part, account_if_mark, account_option, account_list}
use Rattle.pst_parse_expr.specs.Constraints.{Within, is_at}
use Rattle.pst_parse_expr.proofs.SharedLaws.{IsAny}
use Rattle.pst_parse_part.proofs.RangesExplain.{ranges_explains}
use Rattle.pst_parse_part.proofs.NamesExplain.{names_explains}
use Rattle.pst_parse_part.specs.Ranges.{ranges_by}
use Rattle.pst_parse_part.specs.Names.{names_by}

-- ---- bind

end_explains : (d : ℕ) → Accounts (Means spell_end IsAny (counts_end d)) (end_by d)
end_explains d =
    let M = Means spell_end IsAny (counts_end d) in
    account_name M _ _ (λ handle.
    let M1 = Behind M (name_token handle ∷ []) (counted d 0 ∷ []) in
    account_mark M1 kind.Dot _ _ (λ dot.
    let M2 = Behind M1 (mark kind.Dot dot ∷ []) (counted d 0 ∷ []) in
    account_name M2 _ _ (λ name.
    let M3 = Behind M2 (name_token name ∷ []) (counted d 0 ∷ []) in
    account_done M3 (record { handle = handle; dot = dot; name = name }) (record { is = refl; proper = tt; counted = refl }))))

next_end_explains : (d : ℕ) → Accounts (Means spell_next_end IsAny (counts_next_end d)) (next_end_by d)
next_end_explains d =
    let M = Means spell_next_end IsAny (counts_next_end d) in
    account_mark M kind.Comma _ _ (λ comma.
    let M1 = Behind M (mark kind.Comma comma ∷ []) (counted d 0 ∷ []) in
    account_part M1 spell_end IsAny (counts_end d) _ _ (end_explains d) (λ end p.
    let M2 = Behind M1 (spell_end end) (counts_end d end) in
    account_done M2 (record { comma = comma; end = end }) (record { is = refl; proper = tt; counted = refl })))

other_ends_explains : (turns d : ℕ) → Accounts (Means spell_other_ends IsProperOtherEnds (counts_other_ends d)) (other_ends_by turns d)
other_ends_explains turns d =
    let M = Means spell_other_ends IsProperOtherEnds (counts_other_ends d) in
    account_if_mark M kind.LeftBrace _ _
    (account_mark M kind.LeftBrace _ _ (λ left.
    let M1 = Behind M (mark kind.LeftBrace left ∷ []) (counted d 0 ∷ []) in
    account_part M1 spell_end IsAny (counts_end d) _ _ (end_explains d) (λ first p.
    let M2 = Behind M1 (spell_end first) (counts_end d first) in
    account_part M2 (flat_map spell_next_end) (AllByRecursion IsAny) (flat_map (counts_next_end d)) _ _ (account_list spell_next_end IsAny (counts_next_end d) (is_at kind.Comma) (next_end_by d) (next_end_explains d) turns) (λ rest q.
    let M3 = Behind M2 (flat_map spell_next_end rest) (flat_map (counts_next_end d) rest) in
    account_mark M3 kind.RightBrace _ _ (λ right.
    let M4 = Behind M3 (mark kind.RightBrace right ∷ []) (counted d 0 ∷ []) in
    account_done M4 (OtherEndsSeveral left first rest right) (record { is = refl; proper = tt; counted = refl }))))))
    (account_part M spell_end IsAny (counts_end d) _ _ (end_explains d) (λ end p.
    let M5 = Behind M (spell_end end) (counts_end d end) in
    account_done M5 (OtherEndsOne end) (record { is = refl; proper = tt; counted = refl })))

pub bind_explains : (turns d : ℕ) → Accounts (Means spell_bind IsProperBind (counts_bind d)) (bind_by turns d)
bind_explains turns d =
    let M = Means spell_bind IsProperBind (counts_bind d) in
    account_mark M kind.Bind _ _ (λ bind.
    let M1 = Behind M (mark kind.Bind bind ∷ []) (counted d 0 ∷ []) in
    account_part M1 spell_end IsAny (counts_end d) _ _ (end_explains d) (λ first p.
    let M2 = Behind M1 (spell_end first) (counts_end d first) in
    account_part M2 spell_other_ends IsProperOtherEnds (counts_other_ends d) _ _ (other_ends_explains turns d) (λ others q.
    let M3 = Behind M2 (spell_other_ends others) (counts_other_ends d others) in
    account_mark M3 kind.Semicolon _ _ (λ semicolon.
    let M4 = Behind M3 (mark kind.Semicolon semicolon ∷ []) (counted d 0 ∷ []) in
    account_done M4 (MakeBind bind first others semicolon) (record { is = refl; proper = q; counted = refl })))))

module _ (X : Within ExprTree) (turns : ℕ) (EX : (d : ℕ) → Accounts (Means spell_expr IsProperExpr (counts_expr d 0)) (X d)) where
  pub join_explains : (d : ℕ) → Accounts (Means spell_join IsProperJoin (counts_join d)) (join_by X turns d)
  join_explains d =
      let M = Means spell_join IsProperJoin (counts_join d) in
      account_if_mark M kind.JoinBranch _ _
      (account_mark M kind.JoinBranch _ _ (λ word.
      let M1 = Behind M (mark kind.JoinBranch word ∷ []) (counted d 0 ∷ []) in
      account_mark M1 kind.LeftParenthesis _ _ (λ left.
      let M2 = Behind M1 (mark kind.LeftParenthesis left ∷ []) (counted d 0 ∷ []) in
      account_part M2 spell_names IsProperNames (counts_names d) (names_by turns d) _ (record { all = names_explains turns d }) (λ names p.
      let M3 = Behind M2 (spell_names names) (counts_names d names) in
      account_mark M3 kind.RightParenthesis _ _ (λ right.
      let M4 = Behind M3 (mark kind.RightParenthesis right ∷ []) (counted d 0 ∷ []) in
      account_done M4 (JoinBranch word left names right) (record { is = refl; proper = p; counted = refl }))))))
      (account_if_mark M kind.JoinNone _ _
      (account_mark M kind.JoinNone _ _ (λ place.
      let M5 = Behind M (mark kind.JoinNone place ∷ []) (counted d 0 ∷ []) in
      account_done M5 (JoinNothing place) (record { is = refl; proper = tt; counted = refl })))
      (account_mark M kind.JoinSelect _ _ (λ word.
      let M6 = Behind M (mark kind.JoinSelect word ∷ []) (counted d 0 ∷ []) in
      account_mark M6 kind.LeftParenthesis _ _ (λ left.
      let M7 = Behind M6 (mark kind.LeftParenthesis left ∷ []) (counted d 0 ∷ []) in
      account_part M7 spell_expr IsProperExpr (counts_expr d 0) _ _ (EX d) (λ count p.
      let M8 = Behind M7 (spell_expr count) (counts_expr d 0 count) in
      account_mark M8 kind.RightParenthesis _ _ (λ right.
      let M9 = Behind M8 (mark kind.RightParenthesis right ∷ []) (counted d 0 ∷ []) in
      account_done M9 (JoinSelect word left count right) (record { is = refl; proper = p; counted = refl })))))))

  weight_explains : (d : ℕ) → Accounts (Means spell_weight IsProperWeight (counts_weight d)) (weight_by X d)
  weight_explains d =
      let M = Means spell_weight IsProperWeight (counts_weight d) in
      account_mark M kind.LeftBracket _ _ (λ left.
      let M1 = Behind M (mark kind.LeftBracket left ∷ []) (counted d 0 ∷ []) in
      account_part M1 spell_expr IsProperExpr (counts_expr d 0) _ _ (EX d) (λ e p.
      let M2 = Behind M1 (spell_expr e) (counts_expr d 0 e) in
      account_mark M2 kind.RightBracket _ _ (λ right.
      let M3 = Behind M2 (mark kind.RightBracket right ∷ []) (counted d 0 ∷ []) in
      account_done M3 (MakeWeight left e right) (record { is = refl; proper = p; counted = refl }))))

  pub guard_explains : (d : ℕ) → Accounts (Means spell_guard IsProperGuard (counts_guard d)) (guard_by X d)
  guard_explains d =
      let M = Means spell_guard IsProperGuard (counts_guard d) in
      account_if_mark M kind.LeftParenthesis _ _
      (account_mark M kind.LeftParenthesis _ _ (λ left.
      let M1 = Behind M (mark kind.LeftParenthesis left ∷ []) (counted d 0 ∷ []) in
      account_part M1 spell_expr IsProperExpr (counts_expr d 0) _ _ (EX d) (λ e p.
      let M2 = Behind M1 (spell_expr e) (counts_expr d 0 e) in
      account_mark M2 kind.RightParenthesis _ _ (λ right.
      let M3 = Behind M2 (mark kind.RightParenthesis right ∷ []) (counted d 0 ∷ []) in
      account_part M3 (spell_option spell_weight) (OptionIs IsProperWeight) (counts_option (counts_weight d)) _ _ (account_option spell_weight IsProperWeight (counts_weight d) (is_at kind.LeftBracket) (weight_by X d) (weight_explains d)) (λ weight q.
      let M4 = Behind M3 (spell_option spell_weight weight) (counts_option (counts_weight d) weight) in
      account_mark M4 kind.Colon _ _ (λ colon.
      let M5 = Behind M4 (mark kind.Colon colon ∷ []) (counted d 0 ∷ []) in
      account_done M5 (GuardCondition left e right weight colon) (record { is = refl; proper = (p, q); counted = refl })))))))
      (account_part M spell_weight IsProperWeight (counts_weight d) _ _ (weight_explains d) (λ weight p.
      let M6 = Behind M (spell_weight weight) (counts_weight d weight) in
      account_mark M6 kind.Colon _ _ (λ colon.
      let M7 = Behind M6 (mark kind.Colon colon ∷ []) (counted d 0 ∷ []) in
      account_done M7 (GuardWeight weight colon) (record { is = refl; proper = p; counted = refl }))))

  pub arm_label_explains : (d : ℕ) → Accounts (Means spell_arm_label IsProperArmLabel (counts_arm_label d)) (arm_label_by turns d)
  arm_label_explains d =
      let M = Means spell_arm_label IsProperArmLabel (counts_arm_label d) in
      account_if_mark M kind.LeftBracket _ _
      (account_mark M kind.LeftBracket _ _ (λ left.
      let M1 = Behind M (mark kind.LeftBracket left ∷ []) (counted d 0 ∷ []) in
      account_part M1 spell_ranges IsProperRanges (counts_own_ranges d) (ranges_by turns d) _ (record { all = ranges_explains turns d }) (λ ranges p.
      let M2 = Behind M1 (spell_ranges ranges) (counts_own_ranges d ranges) in
      account_mark M2 kind.RightBracket _ _ (λ right.
      let M3 = Behind M2 (mark kind.RightBracket right ∷ []) (counted d 0 ∷ []) in
      account_done M3 (ArmLabelRanges left ranges right) (record { is = refl; proper = p; counted = refl })))))
      (account_mark M kind.Default _ _ (λ place.
      let M4 = Behind M (mark kind.Default place ∷ []) (counted d 0 ∷ []) in
      account_done M4 (ArmLabelDefault place) (record { is = refl; proper = tt; counted = refl })))

pub with_explains : (S : Within ConstraintTree) → ((d : ℕ) → Accounts (Means spell_constraint IsProperConstraint (counts_constraint d)) (S d)) → (d : ℕ) → Accounts (Means spell_with IsProperWith (counts_with d)) (with_by S d)
with_explains S ES d =
    let M = Means spell_with IsProperWith (counts_with d) in
    account_if_mark M kind.With _ _
    (account_mark M kind.With _ _ (λ word.
    let M1 = Behind M (mark kind.With word ∷ []) (counted d 0 ∷ []) in
    account_part M1 spell_constraint IsProperConstraint (counts_constraint d) _ _ (ES d) (λ set p.
    let M2 = Behind M1 (spell_constraint set) (counts_constraint d set) in
    account_done M2 (WithSet word set) (record { is = rw append-nil refl; proper = p; counted = rw append-nil refl }))))
    (account_mark M kind.Semicolon _ _ (λ place.
    let M3 = Behind M (mark kind.Semicolon place ∷ []) (counted d 0 ∷ []) in
    account_done M3 (WithNothing place) (record { is = refl; proper = tt; counted = refl })))
