-- What the rules of activities explain.
use Rattle.std.proofs.Common.{◌≡◌, ℕ, zero, suc, ◌+◌, ◌-◌, Bool, true, false, if◌then◌else◌, List, [], ◌∷◌, ◌++◌, Some, refl, ap, append-nil}
use Rattle.std.specs.List.{flat_map, AllByRecursion}
use Rattle.pst_base.specs.declared.position.Place.{Place}
use Rattle.pst_token.specs.declared.kind.Kind.TheVariants as kind
use Rattle.pst_token.specs.declared.token.Token.{Token}
use Rattle.pst_ast.specs.declared.activity.TogetherWord.{TogetherWord}
use Rattle.pst_ast.specs.declared.activity.TogetherWord.TheVariants as the_together_word
use Rattle.pst_ast.specs.Closing.{origin}
use Rattle.pst_ast.specs.Marks.{mark, name_token, spell_option, OptionIs, together_word_kind}
use Rattle.pst_ast.specs.Limits.{Count, counted, counts_option}
use Rattle.pst_ast.specs.ExpressionTree.{ExprTree}
use Rattle.pst_ast.specs.ExpressionSpelling.{spell_expr}
use Rattle.pst_ast.specs.ExpressionProper.{IsProperExpr}
use Rattle.pst_ast.specs.ExpressionLimits.{counts_expr}
use Rattle.pst_ast.specs.SharedSpelling.{spell_type_name}
use Rattle.pst_ast.specs.SharedLimits.{counts_type_name}
use Rattle.pst_ast.specs.ConstraintTree.{ConstraintTree}
use Rattle.pst_ast.specs.ConstraintSpelling.{spell_constraint}
use Rattle.pst_ast.specs.ConstraintProper.{IsProperConstraint}
use Rattle.pst_ast.specs.ConstraintLimits.{counts_constraint}
use Rattle.pst_ast.specs.ActivityTree.{MakeActivity, StatementTree, StatementEmpty, StatementLabeled, StatementPlain, CoreTree, CoreDo, CoreHandle, CoreSequence, CoreTogether, CoreSelect, CoreRepeat, CoreIf, CoreIfElse, CoreMatch, CoreBind, MakeBranch, MakeArm}
use Rattle.pst_ast.specs.ActivitySpelling.{spell_activity, spell_statement, spell_core, spell_branch, spell_arm, spell_statement_row, spell_branch_row, spell_arm_row, spell_with, spell_join, spell_bind, spell_guard, spell_arm_label}
use Rattle.pst_ast.specs.ActivityProper.{statement_ends_open, IsProperWith, IsProperJoin, IsProperBind, IsProperGuard, IsProperArmLabel, IsProperStatement, IsProperCore, IsProperBranch, IsProperArm, AreProperStatement, AreProperBranch, AreProperArm, IsProperActivity}
use Rattle.pst_ast.specs.ActivityLimits.{counts_activity, counts_statement, counts_core, counts_branch, counts_arm, counts_statement_row, counts_branch_row, counts_arm_row, counts_with, counts_join, counts_bind, counts_guard, counts_arm_label}
use Rattle.pst_reading.specs.Kinds.{is_name, next_is}
use Rattle.pst_reading.specs.Parser.{Done}
use Rattle.pst_reading.specs.Lists.{list_by}
use Rattle.pst_parse_step.specs.ActivityParts.{join_by, begins_join, guard_by, begins_guard, do_by, handle_by, bound_by}
use Rattle.pst_parse_statement.specs.Activities.{statement_row, statements_by, sequence_word_by, sequence_by, together_by, branch_by, branch_row, branches_by, select_by, repeated_by, maybe_else_by, if_by, arm_by, arm_row, arms_by, match_by, core_by, named_by, plain_by, statement_by, statement_at, activity_by, activity_at}
use Rattle.pst_reading.proofs.Explaining.{Meaning, Means, Behind, Explains, refused_here}
use Rattle.pst_reading.proofs.Accounts.{Accounts, account_done, account_mark, account_name, account_part, account_if_mark, account_look, account_test, account_word, account_option, account_list, account_row}
use Rattle.pst_parse_expr.specs.Constraints.{Within, is_at, is_other, outermost_at, constraint_at}
use Rattle.pst_parse_expr.proofs.Answering.{explains}
use Rattle.pst_parse_expr.proofs.ConstraintExplains.{constraint_explains}
use Rattle.pst_parse_statement.proofs.ActivityRows.{spell_word, counts_word, statements_spelled, statements_counted, statements_proper, branches_spelled, branches_counted, branches_proper, arms_spelled, arms_counted, arms_proper}
use Rattle.pst_parse_expr.proofs.SharedLaws.{IsAny}
use Rattle.pst_parse_expr.proofs.Takes.{expr_takes}
use Rattle.pst_reading.proofs.Peeking.{takes}
use Rattle.pst_parse_part.proofs.TimesExplain.{spell_times, IsProperTimes, counts_times, times_explains, times_spelled, times_counted}
use Rattle.pst_parse_part.proofs.NamesExplain.{type_name_explains}
use Rattle.pst_parse_part.specs.Times.{times_by}
use Rattle.pst_parse_part.specs.Names.{type_name_by}
use Rattle.pst_parse_step.proofs.ActivityPartsExplain.{bind_explains, join_explains, guard_explains, arm_label_explains, with_explains}

module _ (X : Within ExprTree) (S : Within ConstraintTree) (T : Within StatementTree) (turns : ℕ) (EX : (d : ℕ) → Accounts (Means spell_expr IsProperExpr (counts_expr d 0)) (X d)) (TX : (d : ℕ) (t : Token) → is_name t ≡ true → takes (X d) t ≡ Some (counted d 0)) (ES : (d : ℕ) → Accounts (Means spell_constraint IsProperConstraint (counts_constraint d)) (S d)) (ET : (d : ℕ) → Accounts (Means spell_statement IsProperStatement (counts_statement d)) (T d)) where
  abbrev IsCore : ℕ → Meaning CoreTree
  IsCore d = Means spell_core IsProperCore (counts_core d)

  do_explains : (d : ℕ) → Accounts (IsCore d) (do_by S d)
  do_explains d =
      let M = IsCore d in
      account_mark M kind.Do _ _ (λ word.
      let M1 = Behind M (mark kind.Do word ∷ []) (counted d 0 ∷ []) in
      account_part M1 spell_type_name IsAny (counts_type_name d) (type_name_by d) _ (record { all = type_name_explains d }) (λ name p.
      let M2 = Behind M1 (spell_type_name name) (counts_type_name d name) in
      account_part M2 spell_with IsProperWith (counts_with d) _ _ (with_explains S ES d) (λ w q.
      let M3 = Behind M2 (spell_with w) (counts_with d w) in
      account_done M3 (CoreDo word name w) (record { is = rw append-nil refl; proper = q; counted = rw append-nil refl }))))

  handle_explains : (d : ℕ) → Accounts (IsCore d) (handle_by S d)
  handle_explains d =
      let M = IsCore d in
      account_name M _ _ (λ name.
      let M1 = Behind M (name_token name ∷ []) (counted d 0 ∷ []) in
      account_part M1 spell_with IsProperWith (counts_with d) _ _ (with_explains S ES d) (λ w q.
      let M2 = Behind M1 (spell_with w) (counts_with d w) in
      account_done M2 (CoreHandle name w) (record { is = rw append-nil refl; proper = q; counted = rw append-nil refl })))

  statements_explains : (d : ℕ) → Accounts (Means spell_statement_row AreProperStatement (counts_statement_row d)) (statements_by T turns d)
  statements_explains d = account_row spell_statement IsProperStatement (counts_statement d) statement_row spell_statement_row AreProperStatement (counts_statement_row d) statements_spelled statements_proper (statements_counted d) (list_by (is_other kind.RightBrace) (T d) turns) (account_list spell_statement IsProperStatement (counts_statement d) (is_other kind.RightBrace) (T d) (ET d) turns)

  sequence_explains : (d : ℕ) → Accounts (IsCore d) (sequence_by T turns d)
  sequence_explains d =
      let M = IsCore d in
      account_part M (spell_option (spell_word kind.Sequence)) (OptionIs IsAny) (counts_option (counts_word d)) _ _ (account_option (spell_word kind.Sequence) IsAny (counts_word d) (is_at kind.Sequence) (sequence_word_by d) (account_word kind.Sequence (counted d 0))) (λ word o.
      let M1 = Behind M (spell_option (spell_word kind.Sequence) word) (counts_option (counts_word d) word) in
      account_mark M1 kind.LeftBrace _ _ (λ left.
      let M2 = Behind M1 (mark kind.LeftBrace left ∷ []) (counted d 0 ∷ []) in
      account_part M2 spell_statement_row AreProperStatement (counts_statement_row d) _ _ (statements_explains d) (λ statements p.
      let M3 = Behind M2 (spell_statement_row statements) (counts_statement_row d statements) in
      account_mark M3 kind.RightBrace _ _ (λ right.
      let M4 = Behind M3 (mark kind.RightBrace right ∷ []) (counted d 0 ∷ []) in
      account_done M4 (CoreSequence word left statements right) (record { is = refl; proper = p; counted = refl })))))

  together_explains : (word : TogetherWord) (d : ℕ) → Accounts (IsCore d) (together_by X T turns word d)
  together_explains word d =
      let M = IsCore d in
      account_mark M (together_word_kind word) _ _ (λ place.
      let M1 = Behind M (mark (together_word_kind word) place ∷ []) (counted d 0 ∷ []) in
      account_part M1 (spell_option spell_join) (OptionIs IsProperJoin) (counts_option (counts_join d)) _ _ (account_option spell_join IsProperJoin (counts_join d) begins_join (join_by X turns d) (join_explains X turns EX d)) (λ join o.
      let M2 = Behind M1 (spell_option spell_join join) (counts_option (counts_join d) join) in
      account_mark M2 kind.LeftBrace _ _ (λ left.
      let M3 = Behind M2 (mark kind.LeftBrace left ∷ []) (counted d 0 ∷ []) in
      account_part M3 spell_statement_row AreProperStatement (counts_statement_row d) _ _ (statements_explains d) (λ statements p.
      let M4 = Behind M3 (spell_statement_row statements) (counts_statement_row d statements) in
      account_mark M4 kind.RightBrace _ _ (λ right.
      let M5 = Behind M4 (mark kind.RightBrace right ∷ []) (counted d 0 ∷ []) in
      account_done M5 (CoreTogether word place join left statements right) (record { is = refl; proper = (o, p); counted = refl }))))))

  branch_explains : (d : ℕ) → Accounts (Means spell_branch IsProperBranch (counts_branch d)) (branch_by X T d)
  branch_explains d =
      let M = Means spell_branch IsProperBranch (counts_branch d) in
      account_part M (spell_option spell_guard) (OptionIs IsProperGuard) (counts_option (counts_guard d)) _ _ (account_option spell_guard IsProperGuard (counts_guard d) begins_guard (guard_by X d) (guard_explains X turns EX d)) (λ guard o.
      let M1 = Behind M (spell_option spell_guard guard) (counts_option (counts_guard d) guard) in
      account_part M1 spell_statement IsProperStatement (counts_statement d) _ _ (ET d) (λ statement p.
      let M2 = Behind M1 (spell_statement statement) (counts_statement d statement) in
      account_done M2 (MakeBranch guard statement) (record { is = ap (λ (u : List Token). spell_option spell_guard guard ++ u) (append-nil (spell_statement statement)); proper = (o, p); counted = ap (λ (u : List Count). counts_option (counts_guard d) guard ++ u) (append-nil (counts_statement d statement)) })))

  branches_explains : (d : ℕ) → Accounts (Means spell_branch_row AreProperBranch (counts_branch_row d)) (branches_by X T turns d)
  branches_explains d = account_row spell_branch IsProperBranch (counts_branch d) branch_row spell_branch_row AreProperBranch (counts_branch_row d) branches_spelled branches_proper (branches_counted d) (list_by (is_other kind.RightBrace) (branch_by X T d) turns) (account_list spell_branch IsProperBranch (counts_branch d) (is_other kind.RightBrace) (branch_by X T d) (branch_explains d) turns)

  select_explains : (d : ℕ) → Accounts (IsCore d) (select_by X T turns d)
  select_explains d =
      let M = IsCore d in
      account_mark M kind.Select _ _ (λ word.
      let M1 = Behind M (mark kind.Select word ∷ []) (counted d 0 ∷ []) in
      account_mark M1 kind.LeftBrace _ _ (λ left.
      let M2 = Behind M1 (mark kind.LeftBrace left ∷ []) (counted d 0 ∷ []) in
      account_part M2 spell_branch IsProperBranch (counts_branch d) _ _ (branch_explains d) (λ first p.
      let M3 = Behind M2 (spell_branch first) (counts_branch d first) in
      account_part M3 spell_branch_row AreProperBranch (counts_branch_row d) _ _ (branches_explains d) (λ rest q.
      let M4 = Behind M3 (spell_branch_row rest) (counts_branch_row d rest) in
      account_mark M4 kind.RightBrace _ _ (λ right.
      let M5 = Behind M4 (mark kind.RightBrace right ∷ []) (counted d 0 ∷ []) in
      account_done M5 (CoreSelect word left first rest right) (record { is = refl; proper = (p, q); counted = refl }))))))

  repeated_explains : (d : ℕ) → Accounts (IsCore d) (repeated_by X T d)
  repeated_explains d =
      let M = IsCore d in
      account_mark M kind.Repeat _ _ (λ word.
      let M1 = Behind M (mark kind.Repeat word ∷ []) (counted d 0 ∷ []) in
      account_part M1 spell_times IsProperTimes (counts_times d) (times_by X d) _ (record { all = times_explains X (λ x. (EX x).all) TX d }) (λ t p.
      let M2 = Behind M1 (spell_times t) (counts_times d t) in
      account_part M2 spell_statement IsProperStatement (counts_statement d) _ _ (ET d) (λ statement q.
      let M3 = Behind M2 (spell_statement statement) (counts_statement d statement) in
      account_done M3 (CoreRepeat word t.0 t.1 t.2 t.3 statement) (record {
        is = rw append-nil (ap (λ (u : List Token). mark kind.Repeat word ∷ u) (times_spelled t (spell_statement statement)));
        proper = (p, q);
        counted = rw append-nil (ap (λ (u : List Count). counted d 0 ∷ u) (times_counted d t (counts_statement d statement)));
      }))))

  if_explains : (d : ℕ) → Accounts (IsCore d) (if_by X T d)
  if_explains d =
      let M = IsCore d in
      account_mark M kind.If _ _ (λ i.
      let M1 = Behind M (mark kind.If i ∷ []) (counted d 0 ∷ []) in
      account_mark M1 kind.LeftParenthesis _ _ (λ l.
      let M2 = Behind M1 (mark kind.LeftParenthesis l ∷ []) (counted d 0 ∷ []) in
      account_part M2 spell_expr IsProperExpr (counts_expr d 0) _ _ (EX d) (λ e p.
      let M3 = Behind M2 (spell_expr e) (counts_expr d 0 e) in
      account_mark M3 kind.RightParenthesis _ _ (λ r.
      let M4 = Behind M3 (mark kind.RightParenthesis r ∷ []) (counted d 0 ∷ []) in
      account_part M4 spell_statement IsProperStatement (counts_statement d) _ _ (ET d) (λ t q.
      let M5 = Behind M4 (spell_statement t) (counts_statement d t) in
      behind i l e r t p q (statement_ends_open t) refl)))))
    where
      BehindThen : (i l : Place) (e : ExprTree) (r : Place) (t : StatementTree) → Meaning CoreTree
      BehindThen i l e r t = Behind (Behind (Behind (Behind (Behind (IsCore d) (mark kind.If i ∷ []) (counted d 0 ∷ [])) (mark kind.LeftParenthesis l ∷ []) (counted d 0 ∷ [])) (spell_expr e) (counts_expr d 0 e)) (mark kind.RightParenthesis r ∷ []) (counted d 0 ∷ [])) (spell_statement t) (counts_statement d t)

      only : (i l : Place) (e : ExprTree) (r : Place) (t : StatementTree) → IsProperExpr e → IsProperStatement t → Accounts (BehindThen i l e r t) (Done (CoreIf i l e r t))
      only i l e r t p q = account_done (BehindThen i l e r t) (CoreIf i l e r t) (record { is = rw append-nil refl; proper = (p, q); counted = rw append-nil refl })

      behind : (i l : Place) (e : ExprTree) (r : Place) (t : StatementTree) → IsProperExpr e → IsProperStatement t → (b : Bool) → statement_ends_open t ≡ b → Accounts (BehindThen i l e r t) (maybe_else_by T d i l e r t b)
      behind i l e r t p q true opens = only i l e r t p q
      behind i l e r t p q false opens =
          let M = BehindThen i l e r t in
          account_if_mark M kind.Else _ _
          (account_mark M kind.Else _ _ (λ x.
          let M1 = Behind M (mark kind.Else x ∷ []) (counted d 0 ∷ []) in
          account_part M1 spell_statement IsProperStatement (counts_statement d) _ _ (ET d) (λ o h.
          let M2 = Behind M1 (spell_statement o) (counts_statement d o) in
          account_done M2 (CoreIfElse i l e r t x o) (record { is = rw append-nil refl; proper = (p, q, h, opens); counted = rw append-nil refl }))))
          (only i l e r t p q)

  arm_explains : (d : ℕ) → Accounts (Means spell_arm IsProperArm (counts_arm d)) (arm_by X T turns d)
  arm_explains d =
      let M = Means spell_arm IsProperArm (counts_arm d) in
      account_part M spell_arm_label IsProperArmLabel (counts_arm_label d) _ _ (arm_label_explains X turns EX d) (λ label p.
      let M1 = Behind M (spell_arm_label label) (counts_arm_label d label) in
      account_mark M1 kind.Colon _ _ (λ colon.
      let M2 = Behind M1 (mark kind.Colon colon ∷ []) (counted d 0 ∷ []) in
      account_part M2 spell_statement IsProperStatement (counts_statement d) _ _ (ET d) (λ statement q.
      let M3 = Behind M2 (spell_statement statement) (counts_statement d statement) in
      account_done M3 (MakeArm label colon statement) (record { is = ap (λ (u : List Token). spell_arm_label label ++ mark kind.Colon colon ∷ u) (append-nil (spell_statement statement)); proper = (p, q); counted = ap (λ (u : List Count). counts_arm_label d label ++ counted d 0 ∷ u) (append-nil (counts_statement d statement)) }))))

  arms_explains : (d : ℕ) → Accounts (Means spell_arm_row AreProperArm (counts_arm_row d)) (arms_by X T turns d)
  arms_explains d = account_row spell_arm IsProperArm (counts_arm d) arm_row spell_arm_row AreProperArm (counts_arm_row d) arms_spelled arms_proper (arms_counted d) (list_by (is_other kind.RightBrace) (arm_by X T turns d) turns) (account_list spell_arm IsProperArm (counts_arm d) (is_other kind.RightBrace) (arm_by X T turns d) (arm_explains d) turns)

  match_explains : (d : ℕ) → Accounts (IsCore d) (match_by X T turns d)
  match_explains d =
      let M = IsCore d in
      account_mark M kind.Match _ _ (λ word.
      let M1 = Behind M (mark kind.Match word ∷ []) (counted d 0 ∷ []) in
      account_mark M1 kind.LeftParenthesis _ _ (λ l.
      let M2 = Behind M1 (mark kind.LeftParenthesis l ∷ []) (counted d 0 ∷ []) in
      account_part M2 spell_expr IsProperExpr (counts_expr d 0) _ _ (EX d) (λ e p.
      let M3 = Behind M2 (spell_expr e) (counts_expr d 0 e) in
      account_mark M3 kind.RightParenthesis _ _ (λ r.
      let M4 = Behind M3 (mark kind.RightParenthesis r ∷ []) (counted d 0 ∷ []) in
      account_mark M4 kind.LeftBrace _ _ (λ left.
      let M5 = Behind M4 (mark kind.LeftBrace left ∷ []) (counted d 0 ∷ []) in
      account_part M5 spell_arm IsProperArm (counts_arm d) _ _ (arm_explains d) (λ first q.
      let M6 = Behind M5 (spell_arm first) (counts_arm d first) in
      account_part M6 spell_arm_row AreProperArm (counts_arm_row d) _ _ (arms_explains d) (λ rest h.
      let M7 = Behind M6 (spell_arm_row rest) (counts_arm_row d rest) in
      account_mark M7 kind.RightBrace _ _ (λ right.
      let M8 = Behind M7 (mark kind.RightBrace right ∷ []) (counted d 0 ∷ []) in
      account_done M8 (CoreMatch word l e r left first rest right) (record { is = refl; proper = (p, q, h); counted = refl })))))))))

  bound_explains : (d : ℕ) → Accounts (IsCore d) (bound_by turns d)
  bound_explains d =
      let M = IsCore d in
      account_part M spell_bind IsProperBind (counts_bind d) _ _ (bind_explains turns d) (λ bind p.
      let M1 = Behind M (spell_bind bind) (counts_bind d bind) in
      account_done M1 (CoreBind bind) (record { is = rw append-nil refl; proper = p; counted = rw append-nil refl }))

  core_explains : (d : ℕ) → Accounts (IsCore d) (core_by X S T turns d)
  core_explains d =
      let M = IsCore d in
      account_if_mark M kind.Do _ _ (do_explains d)
      (account_if_mark M kind.LeftBrace _ _ (sequence_explains d)
      (account_if_mark M kind.Sequence _ _ (sequence_explains d)
      (account_if_mark M kind.Parallel _ _ (together_explains the_together_word.Parallel d)
      (account_if_mark M kind.Schedule _ _ (together_explains the_together_word.Schedule d)
      (account_if_mark M kind.Select _ _ (select_explains d)
      (account_if_mark M kind.Repeat _ _ (repeated_explains d)
      (account_if_mark M kind.If _ _ (if_explains d)
      (account_if_mark M kind.Match _ _ (match_explains d)
      (account_if_mark M kind.Bind _ _ (bound_explains d) (handle_explains d))))))))))

  -- ---- statements: each is a derivation that counts

  abbrev IsStatement : ℕ → Meaning StatementTree
  IsStatement d = Means spell_statement IsProperStatement (counts_statement d)

  named_explains : (d : ℕ) → Accounts (IsStatement d) (named_by X S T turns (suc d))
  named_explains d =
      let M = IsStatement d in
      account_name M _ _ (λ name.
      let M1 = Behind M (name_token name ∷ []) (counted (suc d) 0 ∷ []) in
      account_if_mark M1 kind.Colon _ _
      (account_mark M1 kind.Colon _ _ (λ colon.
      let M2 = Behind M1 (mark kind.Colon colon ∷ []) (counted (suc d) 0 ∷ []) in
      account_part M2 spell_core IsProperCore (counts_core (suc d)) _ _ (core_explains (suc d)) (λ core p.
      let M3 = Behind M2 (spell_core core) (counts_core (suc d) core) in
      account_done M3 (StatementLabeled (record { name = name; colon = colon }) core) (record { is = rw append-nil refl; proper = p; counted = rw append-nil refl }))))
      (account_part M1 spell_with IsProperWith (counts_with (suc d)) _ _ (with_explains S ES (suc d)) (λ w p.
      let M4 = Behind M1 (spell_with w) (counts_with (suc d) w) in
      account_done M4 (StatementPlain (CoreHandle name w)) (record { is = rw append-nil refl; proper = p; counted = rw append-nil refl }))))

  plain_explains : (d : ℕ) → Accounts (IsStatement d) (plain_by X S T turns (suc d))
  plain_explains d =
      let M = IsStatement d in
      account_part M spell_core IsProperCore (counts_core (suc d)) _ _ (core_explains (suc d)) (λ core p.
      let M1 = Behind M (spell_core core) (counts_core (suc d) core) in
      account_done M1 (StatementPlain core) (record { is = append-nil (spell_core core); proper = p; counted = append-nil (counts_core (suc d) core) }))

  pub statement_explains : (d : ℕ) → Accounts (IsStatement d) (statement_by X S T turns (suc d))
  statement_explains d =
      let M = IsStatement d in
      account_if_mark M kind.Semicolon _ _
      (account_mark M kind.Semicolon _ _ (λ place. account_done _ (StatementEmpty place) (record { is = refl; proper = tt; counted = refl })))
      (account_look (IsStatement d) (λ n. if next_is is_name n then named_by X S T turns (suc d) else plain_by X S T turns (suc d)) (λ n. account_test (IsStatement d) (next_is is_name n) (named_by X S T turns (suc d)) (plain_by X S T turns (suc d)) (named_explains d) (plain_explains d)))

  pub activity_explained : (d : ℕ) → Accounts (Means spell_activity IsProperActivity (counts_activity d)) (activity_by T turns d)
  activity_explained d =
      let M = Means spell_activity IsProperActivity (counts_activity d) in
      account_mark M kind.Activity _ _ (λ word.
      let M1 = Behind M (mark kind.Activity word ∷ []) (counted d 0 ∷ []) in
      account_mark M1 kind.LeftBrace _ _ (λ left.
      let M2 = Behind M1 (mark kind.LeftBrace left ∷ []) (counted d 0 ∷ []) in
      account_part M2 (flat_map spell_statement) (AllByRecursion IsProperStatement) (flat_map (counts_statement d)) _ _ (account_list spell_statement IsProperStatement (counts_statement d) (is_other kind.RightBrace) (T d) (ET d) turns) (λ statements p.
      let M3 = Behind M2 (flat_map spell_statement statements) (flat_map (counts_statement d) statements) in
      account_mark M3 kind.RightBrace _ _ (λ right.
      let M4 = Behind M3 (mark kind.RightBrace right ∷ []) (counted d 0 ∷ []) in
      account_done M4 (MakeActivity word left statements right) (record { is = refl; proper = p; counted = refl })))))

pub statement_at_explains : (size d : ℕ) → Accounts (Means spell_statement IsProperStatement (counts_statement d)) (statement_at size d)
unfolding statement_at
statement_at_explains zero d = record { all = λ ts. refused_here (Means spell_statement IsProperStatement (counts_statement d)) ts (record { value = StatementEmpty origin; text = mark kind.Semicolon origin ∷ []; counts = counted (suc d) 0 ∷ []; more = mark kind.Semicolon origin ∷ []; spelled = record { is = refl; proper = tt; counted = refl }; is = refl }) }
statement_at_explains (suc size) d = statement_explains (outermost_at (suc size)) (constraint_at (suc size)) (statement_at size) size (λ x. record { all = explains x (suc size) }) (λ x t e. expr_takes size x t e) (λ x. record { all = constraint_explains (suc size) x }) (statement_at_explains size) d

pub activity_explains : (size d : ℕ) → Explains (Means spell_activity IsProperActivity (counts_activity d)) (activity_at size d)
activity_explains size d = (activity_explained (outermost_at (suc size)) (constraint_at size) (statement_at size) size (λ x. record { all = explains x (suc size) }) (λ x t e. expr_takes size x t e) (λ x. record { all = constraint_explains size x }) (statement_at_explains size) d).all
