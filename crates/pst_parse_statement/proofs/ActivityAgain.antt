-- Activities read what they spell again.
use Rattle.std.proofs.Common.{◌≡◌, ℕ, zero, suc, ◌+◌, ◌-◌, ◌≤◌, ◌<◌, Bool, true, false, if◌then◌else◌, List, [], ◌∷◌, ◌++◌, length, Some, Option, None, refl, sym, ap, subst, ◌∙◌, arith, append-nil, append_assoc, length-append}
use Rattle.std.specs.List.{flat_map}
use Rattle.pst_base.specs.declared.position.Place.{Place}
use Rattle.pst_token.specs.declared.kind.Kind.{Kind}
use Rattle.pst_token.specs.declared.kind.Kind.TheVariants as kind
use Rattle.pst_token.specs.declared.token.Token.{Token}
use Rattle.pst_ast.specs.declared.leaf.Name.{Name}
use Rattle.pst_ast.specs.declared.shared.TypeName.{TypeName}
use Rattle.pst_ast.specs.declared.activity.TogetherWord.{TogetherWord}
use Rattle.pst_ast.specs.declared.activity.TogetherWord.TheVariants as the_together_word
use Rattle.pst_ast.specs.Marks.{mark, name_token, spell_option, OptionIs, together_word_kind}
use Rattle.pst_ast.specs.Limits.{Count, counted, counts_option}
use Rattle.pst_ast.specs.ExpressionTree.{ExprTree}
use Rattle.pst_ast.specs.ExpressionSpelling.{spell_expr}
use Rattle.pst_ast.specs.ExpressionProper.{IsProperExpr}
use Rattle.pst_ast.specs.ExpressionLimits.{counts_expr}
use Rattle.pst_ast.specs.SharedSpelling.{spell_label, spell_type_name}
use Rattle.pst_ast.specs.SharedLimits.{counts_label, counts_type_name}
use Rattle.pst_ast.specs.ConstraintTree.{ConstraintTree}
use Rattle.pst_ast.specs.ConstraintSpelling.{spell_constraint}
use Rattle.pst_ast.specs.ConstraintProper.{IsProperConstraint}
use Rattle.pst_ast.specs.ConstraintLimits.{counts_constraint}
use Rattle.pst_ast.specs.ActivityTree.{ActivityTree, MakeActivity, StatementTree, StatementEmpty, StatementLabeled, StatementPlain, CoreTree, CoreDo, CoreHandle, CoreSequence, CoreTogether, CoreSelect, CoreRepeat, CoreIf, CoreIfElse, CoreMatch, CoreBind, BranchTree, MakeBranch, ArmTree, MakeArm, JoinTree, WithTree, WithNothing, WithSet, BindTree, MakeBind, StatementRow, BranchRow, NoBranchRow, MoreBranchRow, ArmRow, NoArmRow, MoreArmRow}
use Rattle.pst_ast.specs.ActivitySpelling.{spell_activity, spell_statement, spell_core, spell_branch, spell_arm, spell_statement_row, spell_branch_row, spell_arm_row, spell_with, spell_join, spell_bind, spell_guard, spell_arm_label}
use Rattle.pst_ast.specs.ActivityProper.{statement_ends_open, IsProperWith, IsProperJoin, IsProperGuard, IsProperStatement, IsProperCore, IsProperBranch, IsProperArm, AreProperStatement, AreProperBranch, AreProperArm, IsProperActivity}
use Rattle.pst_ast.specs.ActivityLimits.{counts_activity, counts_statement, counts_core, counts_branch, counts_arm, counts_statement_row, counts_branch_row, counts_arm_row, counts_with, counts_join, counts_bind, counts_guard, counts_arm_label}
use Rattle.pst_reading.specs.Kinds.{is_mark, is_name, next_is}
use Rattle.pst_reading.specs.Parser.{Parser, Done, followed_by, next, mark_by, if_mark}
use Rattle.pst_reading.specs.Lists.{list_by}
use Rattle.pst_reading.specs.Options.{option_by}
use Rattle.pst_parse_step.specs.ActivityParts.{bind_by, join_by, begins_join, guard_by, begins_guard, arm_label_by, with_by, do_by, handle_by, bound_by}
use Rattle.pst_parse_statement.specs.Activities.{statement_row, statements_by, sequence_word_by, sequence_by, together_by, branch_by, branch_row, branches_by, select_by, repeated_by, else_by, maybe_else_by, if_by, arm_by, arm_row, arms_by, match_by, core_by, empty_by, labeled_by, traversed_by, named_by, plain_by, statement_by, statement_at, activity_by, activity_at}
use Rattle.pst_parse_part.specs.Names.{type_name_by}
use Rattle.pst_reading.proofs.Tokens.{mark_is_so}
use Rattle.pst_reading.proofs.Lists.{StartsPart}
use Rattle.pst_reading.proofs.Becoming.{Becomes}
use Rattle.pst_reading.proofs.Marks.{mark_becomes, look_becomes, test_becomes}
use Rattle.pst_reading.proofs.Rereading.{Rereads, Anything, EndsOption, reread_done, narrower, reread_mark, reread_name, reread_part, reread_last, reread_choice, reread_option, reread_list, reread_row}
use Rattle.pst_parse_expr.specs.Constraints.{Within, is_at, is_other, outermost_at, constraint_at}
use Rattle.pst_parse_operator.proofs.Stops.{IsNo, Separates, separated, right_parenthesis_closes}
use Rattle.pst_parse_operator.proofs.ExprAgain.{expr_again}
use Rattle.pst_parse_expr.proofs.ConstraintAgain.{StopsSet, constraint_again}
use Rattle.pst_parse_statement.proofs.ActivityRows.{spell_word, counts_word, list_of_statements, statements_spelled, statements_counted, statements_are, all_statements, list_of_branches, branches_spelled, branches_counted, branches_are, all_branches, list_of_arms, arms_spelled, arms_counted, arms_are, all_arms}
use Rattle.pst_parse_expr.proofs.SharedLaws.{IsAny}
use Rattle.pst_parse_step.proofs.ActivityPartEnds.{guard_starts, join_starts, with_starts}
use Rattle.pst_parse_statement.proofs.ActivityEnds.{StopsCore, StopsStatement, is_handle, core_starts, statement_starts, branch_starts, arm_starts, some_statement, some_branch, some_arm}
use Rattle.pst_parse_step.proofs.ActivityPartsAgain.{bind_again, join_again, guard_again, arm_label_again, with_again}
use Rattle.pst_parse_expr.proofs.Takes.{expr_takes}
use Rattle.pst_reading.proofs.Peeking.{takes}
use Rattle.pst_parse_part.specs.Times.{TimesTree, times_by}
use Rattle.pst_parse_part.proofs.TimesAgain.{times_again}
use Rattle.pst_parse_part.proofs.TimesExplain.{spell_times, IsProperTimes, counts_times, times_spelled, times_counted}
use Rattle.pst_parse_part.proofs.Following.{any_option}
use Rattle.pst_parse_part.proofs.NamesAgain.{type_name_rereads}

-- a mark by its place
word_again : (k : Kind) (d : ℕ) (p : Place) → Rereads Anything (mark_by k (counted d 0)) (spell_word k p) (counts_word d p) p
word_again k d p = record { again = λ rest m. mark_becomes k (counted d 0) p rest }

no_end_behind : (p : Place) → is_other kind.RightBrace (Some (mark kind.RightBrace p)) ≡ false
no_end_behind p = ap (λ (b : Bool). if b then false else true) (mark_is_so kind.RightBrace p)

pub closes_row : (p : Place) → EndsOption (is_other kind.RightBrace) (IsNo kind.Else) (Some (mark kind.RightBrace p))
unfolding is_mark
closes_row p = (no_end_behind p, refl)

goes_on : (n : Option Token) → IsNo kind.RightBrace n → is_other kind.RightBrace n ≡ true
goes_on n e = ap (λ (b : Bool). if b then false else true) e

abbrev EndsRow : Option Token → Type 0
EndsRow = EndsOption (is_other kind.RightBrace) (IsNo kind.Else)

module _ (X : Within ExprTree) (S : Within ConstraintTree) (T : Within StatementTree) (size : ℕ) (AX : (d : ℕ) (e : ExprTree) → IsProperExpr e → length (spell_expr e) ≤ size → Rereads (Separates 0) (X d) (spell_expr e) (counts_expr d 0 e) e) (TX : (d : ℕ) (t : Token) → is_name t ≡ true → takes (X d) t ≡ Some (counted d 0)) (AS : (d : ℕ) (s : ConstraintTree) → IsProperConstraint s → length (spell_constraint s) ≤ size → Rereads (StopsSet s) (S d) (spell_constraint s) (counts_constraint d s) s) (AT : (d : ℕ) (s : StatementTree) → IsProperStatement s → length (spell_statement s) < size → Rereads (StopsStatement s) (T d) (spell_statement s) (counts_statement d s) s) where
  abbrev CoreAgain : ℕ → CoreTree → Parser CoreTree → Type 0
  CoreAgain d c p = Rereads (StopsCore c) p (spell_core c) (counts_core d c) c

  -- ---- traversals

  do_again : (d : ℕ) (p : Place) (n : TypeName) (w : WithTree) → IsProperWith w → length (spell_core (CoreDo p n w)) ≤ size → CoreAgain d (CoreDo p n w) (do_by S d)
  do_again d p n w proper short =
      let c = CoreDo p n w in
      reread_mark (StopsCore c) kind.Do _ _ p _ _ _
      (reread_part (StopsCore c) (IsNo kind.ColonColon) (type_name_by d) _ (spell_type_name n) (counts_type_name d n) n (spell_with w) (counts_with d w) c (type_name_rereads d n) (λ rest m. with_starts w rest)
      (reread_last (StopsCore c) (with_by S d) _ (spell_with w) (counts_with d w) w c (with_again S size AS d w proper (omega (arith, short, length-append (spell_type_name n) (spell_with w)))) refl))

  handle_again : (d : ℕ) (n : Name) (w : WithTree) → IsProperWith w → length (spell_core (CoreHandle n w)) ≤ size → CoreAgain d (CoreHandle n w) (handle_by S d)
  handle_again d n w proper short =
      let c = CoreHandle n w in
      reread_name (StopsCore c) _ _ n _ _ _ (reread_last (StopsCore c) (with_by S d) _ (spell_with w) (counts_with d w) w c (with_again S size AS d w proper (omega (arith, short))) refl)

  -- ---- blocks

  in_row : (d : ℕ) (s : StatementTree) → IsProperStatement s → length (spell_statement s) ≤ size - 1 → Rereads (IsNo kind.Else) (T d) (spell_statement s) (counts_statement d s) s
  in_row d s proper short = narrower (StopsStatement s) (IsNo kind.Else) (T d) (spell_statement s) (counts_statement d s) s (λ n m opens. m) (AT d s proper (omega (arith, short, some_statement s)))

  starts_in_row : (s : StatementTree) (rest : List Token) → IsProperStatement s → StartsPart (is_other kind.RightBrace) (IsNo kind.Else) (spell_statement s ++ rest)
  starts_in_row s rest proper = let w = statement_starts s rest in record { found = goes_on (next (spell_statement s ++ rest)) w.no_end; good = w.no_else }

  statements_again : (d : ℕ) (r : StatementRow) → AreProperStatement r → length (spell_statement_row r) < size → Rereads EndsRow (statements_by T size d) (spell_statement_row r) (counts_statement_row d r) r
  statements_again d r proper short = reread_row statement_row spell_statement IsProperStatement (counts_statement d) spell_statement_row (counts_statement_row d) (is_other kind.RightBrace) (IsNo kind.Else) (T d) (size - 1) size (in_row d) starts_in_row some_statement statements_spelled (statements_counted d) r (list_of_statements r) (statements_are r) (all_statements r proper) short (omega (arith, short))

  sequence_again : (d : ℕ) (w : Option Place) (l : Place) (s : StatementRow) (r : Place) → AreProperStatement s → length (spell_core (CoreSequence w l s r)) ≤ size → CoreAgain d (CoreSequence w l s r) (sequence_by T size d)
  unfolding is_mark
  sequence_again d w l s r proper short =
      let c = CoreSequence w l s r in
      let block = mark kind.LeftBrace l ∷ (spell_statement_row s ++ mark kind.RightBrace r ∷ []) in
      let long = length-append (spell_option (spell_word kind.Sequence) w) block in
      let longer = length-append (spell_statement_row s) (mark kind.RightBrace r ∷ []) in
      reread_part (StopsCore c) (EndsOption (is_at kind.Sequence) Anything) (option_by (is_at kind.Sequence) (sequence_word_by d)) _ (spell_option (spell_word kind.Sequence) w) (counts_option (counts_word d) w) w block (counted d 0 ∷ (counts_statement_row d s ++ counted d 0 ∷ [])) c
      (reread_option (spell_word kind.Sequence) IsAny (counts_word d) (is_at kind.Sequence) Anything (sequence_word_by d) size (λ p q n. word_again kind.Sequence d p) (λ p rest. mark_is_so kind.Sequence p) w (any_option w) (omega (arith, short, long))) (λ rest m. (refl, tt))
      (reread_mark (StopsCore c) kind.LeftBrace _ _ l _ _ _
      (reread_part (StopsCore c) EndsRow (statements_by T size d) _ (spell_statement_row s) (counts_statement_row d s) s (mark kind.RightBrace r ∷ []) (counted d 0 ∷ []) c (statements_again d s proper (omega (arith, short, long, longer))) (λ rest m. closes_row r)
      (reread_mark (StopsCore c) kind.RightBrace _ _ r _ _ _ (reread_done (StopsCore c) c))))

  together_again : (d : ℕ) (w : TogetherWord) (p : Place) (j : Option JoinTree) (l : Place) (s : StatementRow) (r : Place) → OptionIs IsProperJoin j → AreProperStatement s → length (spell_core (CoreTogether w p j l s r)) ≤ size → CoreAgain d (CoreTogether w p j l s r) (together_by X T size w d)
  unfolding begins_join is_mark
  together_again d w p j l s r properj proper short =
      let c = CoreTogether w p j l s r in
      let block = mark kind.LeftBrace l ∷ (spell_statement_row s ++ mark kind.RightBrace r ∷ []) in
      let long = length-append (spell_option spell_join j) block in
      let longer = length-append (spell_statement_row s) (mark kind.RightBrace r ∷ []) in
      reread_mark (StopsCore c) (together_word_kind w) _ _ p _ _ _
      (reread_part (StopsCore c) (EndsOption begins_join Anything) (option_by begins_join (join_by X size d)) _ (spell_option spell_join j) (counts_option (counts_join d) j) j block (counted d 0 ∷ (counts_statement_row d s ++ counted d 0 ∷ [])) c
      (reread_option spell_join IsProperJoin (counts_join d) begins_join Anything (join_by X size d) size (join_again X size AX d) join_starts j properj (omega (arith, short, long))) (λ rest m. (refl, tt))
      (reread_mark (StopsCore c) kind.LeftBrace _ _ l _ _ _
      (reread_part (StopsCore c) EndsRow (statements_by T size d) _ (spell_statement_row s) (counts_statement_row d s) s (mark kind.RightBrace r ∷ []) (counted d 0 ∷ []) c (statements_again d s proper (omega (arith, short, long, longer))) (λ rest m. closes_row r)
      (reread_mark (StopsCore c) kind.RightBrace _ _ r _ _ _ (reread_done (StopsCore c) c)))))

  -- ---- select

  branch_again : (d : ℕ) (b : BranchTree) → IsProperBranch b → length (spell_branch b) ≤ size - 1 → Rereads (IsNo kind.Else) (branch_by X T d) (spell_branch b) (counts_branch d b) b
  branch_again d (MakeBranch g s) proper short =
      let b = MakeBranch g s in
      let long = length-append (spell_option spell_guard g) (spell_statement s) in
      reread_part (IsNo kind.Else) (EndsOption begins_guard Anything) (option_by begins_guard (guard_by X d)) _ (spell_option spell_guard g) (counts_option (counts_guard d) g) g (spell_statement s) (counts_statement d s) b
      (reread_option spell_guard IsProperGuard (counts_guard d) begins_guard Anything (guard_by X d) size (guard_again X size AX d) (λ x rest. (guard_starts x rest).0) g proper.0 (omega (arith, short, long))) (λ rest m. ((statement_starts s rest).no_guard, tt))
      (reread_last (IsNo kind.Else) (T d) _ (spell_statement s) (counts_statement d s) s b (in_row d s proper.1 (omega (arith, short, long))) refl)

  branches_again : (d : ℕ) (r : BranchRow) → AreProperBranch r → length (spell_branch_row r) < size → Rereads EndsRow (branches_by X T size d) (spell_branch_row r) (counts_branch_row d r) r
  branches_again d r proper short = reread_row branch_row spell_branch IsProperBranch (counts_branch d) spell_branch_row (counts_branch_row d) (is_other kind.RightBrace) (IsNo kind.Else) (branch_by X T d) (size - 1) size (branch_again d) (λ b rest p. (let w = branch_starts b rest in record { found = goes_on (next (spell_branch b ++ rest)) w.0; good = w.1 })) some_branch branches_spelled (branches_counted d) r (list_of_branches r) (branches_are r) (all_branches r proper) short (omega (arith, short))

  branches_behind : (r : BranchRow) (p : Place) (more : List Token) → IsNo kind.Else (next ((spell_branch_row r ++ mark kind.RightBrace p ∷ []) ++ more))
  branches_behind NoBranchRow p more = (closes_row p).1
  branches_behind (MoreBranchRow b bs) p more = subst (λ (u : List Token). IsNo kind.Else (next (u ++ more))) (sym (append_assoc (spell_branch b) (spell_branch_row bs) (mark kind.RightBrace p ∷ []))) (subst (λ (u : List Token). IsNo kind.Else (next u)) (sym (append_assoc (spell_branch b) (spell_branch_row bs ++ mark kind.RightBrace p ∷ []) more)) (branch_starts b ((spell_branch_row bs ++ mark kind.RightBrace p ∷ []) ++ more)).1)

  select_again : (d : ℕ) (p l : Place) (first : BranchTree) (rest : BranchRow) (r : Place) → IsProperBranch first → AreProperBranch rest → length (spell_core (CoreSelect p l first rest r)) ≤ size → CoreAgain d (CoreSelect p l first rest r) (select_by X T size d)
  select_again d p l first rest r proper propers short =
      let c = CoreSelect p l first rest r in
      let long = length-append (spell_branch first) (spell_branch_row rest ++ mark kind.RightBrace r ∷ []) in
      let longer = length-append (spell_branch_row rest) (mark kind.RightBrace r ∷ []) in
      reread_mark (StopsCore c) kind.Select _ _ p _ _ _
      (reread_mark (StopsCore c) kind.LeftBrace _ _ l _ _ _
      (reread_part (StopsCore c) (IsNo kind.Else) (branch_by X T d) _ (spell_branch first) (counts_branch d first) first (spell_branch_row rest ++ mark kind.RightBrace r ∷ []) (counts_branch_row d rest ++ counted d 0 ∷ []) c (branch_again d first proper (omega (arith, short, long, longer))) (λ more m. branches_behind rest r more)
      (reread_part (StopsCore c) EndsRow (branches_by X T size d) _ (spell_branch_row rest) (counts_branch_row d rest) rest (mark kind.RightBrace r ∷ []) (counted d 0 ∷ []) c (branches_again d rest propers (omega (arith, short, long, longer))) (λ more m. closes_row r)
      (reread_mark (StopsCore c) kind.RightBrace _ _ r _ _ _ (reread_done (StopsCore c) c)))))

  -- ---- repeat

  repeated_again : (d : ℕ) (p : Place) (t : TimesTree) (s : StatementTree) → IsProperTimes t → IsProperStatement s → length (spell_core (CoreRepeat p t.0 t.1 t.2 t.3 s)) ≤ size → CoreAgain d (CoreRepeat p t.0 t.1 t.2 t.3 s) (repeated_by X T d)
  repeated_again d p t s propert propers short =
      let c = CoreRepeat p t.0 t.1 t.2 t.3 s in
      let whole = λ (times : TimesTree). followed_by (T d) (λ z. Done (CoreRepeat p times.0 times.1 times.2 times.3 z)) in
      let rest_of = λ (u : List Token) (v : List Count). Rereads (StopsCore c) (followed_by (times_by X d) whole) u v c in
      let close = mark kind.RightParenthesis t.3 ∷ spell_statement s in
      let long = length-append (spell_option spell_label t.1) (spell_expr t.2 ++ close) in
      let longer = length-append (spell_expr t.2) close in
      reread_mark (StopsCore c) kind.Repeat _ _ p _ _ _
      (subst (λ (u : List Token). rest_of u (counted d 0 ∷ (counts_option (counts_label d) t.1 ++ (counts_expr d 0 t.2 ++ counted d 0 ∷ counts_statement d s)))) (times_spelled t (spell_statement s))
      (subst (λ (v : List Count). rest_of (spell_times t ++ spell_statement s) v) (times_counted d t (counts_statement d s))
      (reread_part (StopsCore c) Anything (times_by X d) whole (spell_times t) (counts_times d t) t (spell_statement s) (counts_statement d s) c
      (record { again = λ rest m. times_again X size (λ x e more q n w. (AX x e q n).again more w) TX d t rest propert (omega (arith, short, long, longer)) }) (λ more m. tt)
      (reread_last (StopsCore c) (T d) _ (spell_statement s) (counts_statement d s) s c (AT d s propers (omega (arith, short, long, longer))) refl))))

  -- ---- if

  if_again : (d : ℕ) (i l : Place) (e : ExprTree) (r : Place) (t : StatementTree) → IsProperExpr e → IsProperStatement t → length (spell_core (CoreIf i l e r t)) ≤ size → CoreAgain d (CoreIf i l e r t) (if_by X T d)
  if_again d i l e r t proper propert short =
      let c = CoreIf i l e r t in
      let long = length-append (spell_expr e) (mark kind.RightParenthesis r ∷ spell_statement t) in
      reread_mark (StopsCore c) kind.If _ _ i _ _ _
      (reread_mark (StopsCore c) kind.LeftParenthesis _ _ l _ _ _
      (reread_part (StopsCore c) (Separates 0) (X d) _ (spell_expr e) (counts_expr d 0 e) e (mark kind.RightParenthesis r ∷ spell_statement t) (counted d 0 ∷ counts_statement d t) c (AX d e proper (omega (arith, short, long))) (λ more m. right_parenthesis_closes r)
      (reread_mark (StopsCore c) kind.RightParenthesis _ _ r _ _ _
      (subst (λ (u : List Token). Rereads (StopsCore c) (followed_by (T d) (λ x. maybe_else_by T d i l e r x (statement_ends_open x))) u (counts_statement d t) c) (append-nil (spell_statement t))
      (subst (λ (u : List Count). Rereads (StopsCore c) (followed_by (T d) (λ x. maybe_else_by T d i l e r x (statement_ends_open x))) (spell_statement t ++ []) u c) (append-nil (counts_statement d t))
      (reread_part (StopsCore c) (StopsStatement t) (T d) (λ x. maybe_else_by T d i l e r x (statement_ends_open x)) (spell_statement t) (counts_statement d t) t [] [] c (AT d t propert (omega (arith, short, long))) (λ more m opens. m refl)
      (only (statement_ends_open t))))))))
    where
      only : (b : Bool) → Rereads (StopsCore (CoreIf i l e r t)) (maybe_else_by T d i l e r t b) [] [] (CoreIf i l e r t)
      only true = reread_done (StopsCore (CoreIf i l e r t)) (CoreIf i l e r t)
      only false = reread_choice (StopsCore (CoreIf i l e r t)) kind.Else (else_by T d i l e r t) (Done (CoreIf i l e r t)) [] [] (CoreIf i l e r t) false (λ more m. m refl) (reread_done (StopsCore (CoreIf i l e r t)) (CoreIf i l e r t))

  if_else_again : (d : ℕ) (i l : Place) (e : ExprTree) (r : Place) (t : StatementTree) (x : Place) (o : StatementTree) → IsProperExpr e → IsProperStatement t → IsProperStatement o → statement_ends_open t ≡ false → length (spell_core (CoreIfElse i l e r t x o)) ≤ size → CoreAgain d (CoreIfElse i l e r t x o) (if_by X T d)
  if_else_again d i l e r t x o proper propert propero closed short =
      let c = CoreIfElse i l e r t x o in
      let more_text = mark kind.Else x ∷ spell_statement o in
      let more_counts = counted d 0 ∷ counts_statement d o in
      let long = length-append (spell_expr e) (mark kind.RightParenthesis r ∷ (spell_statement t ++ more_text)) in
      let longer = length-append (spell_statement t) more_text in
      reread_mark (StopsCore c) kind.If _ _ i _ _ _
      (reread_mark (StopsCore c) kind.LeftParenthesis _ _ l _ _ _
      (reread_part (StopsCore c) (Separates 0) (X d) _ (spell_expr e) (counts_expr d 0 e) e (mark kind.RightParenthesis r ∷ (spell_statement t ++ more_text)) (counted d 0 ∷ (counts_statement d t ++ more_counts)) c (AX d e proper (omega (arith, short, long))) (λ more m. right_parenthesis_closes r)
      (reread_mark (StopsCore c) kind.RightParenthesis _ _ r _ _ _
      (reread_part (StopsCore c) (StopsStatement t) (T d) (λ y. maybe_else_by T d i l e r y (statement_ends_open y)) (spell_statement t) (counts_statement d t) t more_text more_counts c (AT d t propert (omega (arith, short, long, longer))) (λ more m opens. absurd (both_ways closed opens))
      (with_else (statement_ends_open t) closed (omega (arith, short, long, longer)))))))
    where
      both_ways : statement_ends_open t ≡ false → statement_ends_open t ≡ true → ⊥
      both_ways a b = cc

      with_else : (b : Bool) → b ≡ false → length (spell_statement o) < size → Rereads (StopsCore (CoreIfElse i l e r t x o)) (maybe_else_by T d i l e r t b) (mark kind.Else x ∷ spell_statement o) (counted d 0 ∷ counts_statement d o) (CoreIfElse i l e r t x o)
      with_else true f s = absurd cc
      with_else false f s =
          let c = CoreIfElse i l e r t x o in
          reread_choice (StopsCore c) kind.Else (else_by T d i l e r t) (Done (CoreIf i l e r t)) (mark kind.Else x ∷ spell_statement o) (counted d 0 ∷ counts_statement d o) c true (λ more m. mark_is_so kind.Else x)
          (reread_mark (StopsCore c) kind.Else _ _ x _ _ _ (reread_last (StopsCore c) (T d) _ (spell_statement o) (counts_statement d o) o c (AT d o propero s) refl))

  -- ---- match

  arm_again : (d : ℕ) (a : ArmTree) → IsProperArm a → length (spell_arm a) ≤ size - 1 → Rereads (IsNo kind.Else) (arm_by X T size d) (spell_arm a) (counts_arm d a) a
  arm_again d (MakeArm l c s) proper short =
      let a = MakeArm l c s in
      let long = length-append (spell_arm_label l) (mark kind.Colon c ∷ spell_statement s) in
      reread_part (IsNo kind.Else) Anything (arm_label_by size d) _ (spell_arm_label l) (counts_arm_label d l) l (mark kind.Colon c ∷ spell_statement s) (counted d 0 ∷ counts_statement d s) a (arm_label_again X size AX d l proper.0 (omega (arith, short, long))) (λ rest m. tt)
      (reread_mark (IsNo kind.Else) kind.Colon _ _ c _ _ _
      (reread_last (IsNo kind.Else) (T d) _ (spell_statement s) (counts_statement d s) s a (in_row d s proper.1 (omega (arith, short, long))) refl))

  arms_again : (d : ℕ) (r : ArmRow) → AreProperArm r → length (spell_arm_row r) < size → Rereads EndsRow (arms_by X T size d) (spell_arm_row r) (counts_arm_row d r) r
  arms_again d r proper short = reread_row arm_row spell_arm IsProperArm (counts_arm d) spell_arm_row (counts_arm_row d) (is_other kind.RightBrace) (IsNo kind.Else) (arm_by X T size d) (size - 1) size (arm_again d) (λ a rest p. (let w = arm_starts a rest in record { found = goes_on (next (spell_arm a ++ rest)) w.0; good = w.1 })) some_arm arms_spelled (arms_counted d) r (list_of_arms r) (arms_are r) (all_arms r proper) short (omega (arith, short))

  arms_behind : (r : ArmRow) (p : Place) (more : List Token) → IsNo kind.Else (next ((spell_arm_row r ++ mark kind.RightBrace p ∷ []) ++ more))
  arms_behind NoArmRow p more = (closes_row p).1
  arms_behind (MoreArmRow b bs) p more = subst (λ (u : List Token). IsNo kind.Else (next (u ++ more))) (sym (append_assoc (spell_arm b) (spell_arm_row bs) (mark kind.RightBrace p ∷ []))) (subst (λ (u : List Token). IsNo kind.Else (next u)) (sym (append_assoc (spell_arm b) (spell_arm_row bs ++ mark kind.RightBrace p ∷ []) more)) (arm_starts b ((spell_arm_row bs ++ mark kind.RightBrace p ∷ []) ++ more)).1)

  match_again : (d : ℕ) (p l : Place) (e : ExprTree) (r b : Place) (first : ArmTree) (rest : ArmRow) (z : Place) → IsProperExpr e → IsProperArm first → AreProperArm rest → length (spell_core (CoreMatch p l e r b first rest z)) ≤ size → CoreAgain d (CoreMatch p l e r b first rest z) (match_by X T size d)
  match_again d p l e r b first rest z propere proper propers short =
      let c = CoreMatch p l e r b first rest z in
      let arms = spell_arm first ++ (spell_arm_row rest ++ mark kind.RightBrace z ∷ []) in
      let arms_counts = counts_arm d first ++ (counts_arm_row d rest ++ counted d 0 ∷ []) in
      let long = length-append (spell_expr e) (mark kind.RightParenthesis r ∷ mark kind.LeftBrace b ∷ arms) in
      let longer = length-append (spell_arm first) (spell_arm_row rest ++ mark kind.RightBrace z ∷ []) in
      let longest = length-append (spell_arm_row rest) (mark kind.RightBrace z ∷ []) in
      reread_mark (StopsCore c) kind.Match _ _ p _ _ _
      (reread_mark (StopsCore c) kind.LeftParenthesis _ _ l _ _ _
      (reread_part (StopsCore c) (Separates 0) (X d) _ (spell_expr e) (counts_expr d 0 e) e (mark kind.RightParenthesis r ∷ mark kind.LeftBrace b ∷ arms) (counted d 0 ∷ counted d 0 ∷ arms_counts) c (AX d e propere (omega (arith, short, long))) (λ more m. right_parenthesis_closes r)
      (reread_mark (StopsCore c) kind.RightParenthesis _ _ r _ _ _
      (reread_mark (StopsCore c) kind.LeftBrace _ _ b _ _ _
      (reread_part (StopsCore c) (IsNo kind.Else) (arm_by X T size d) _ (spell_arm first) (counts_arm d first) first (spell_arm_row rest ++ mark kind.RightBrace z ∷ []) (counts_arm_row d rest ++ counted d 0 ∷ []) c (arm_again d first proper (omega (arith, short, long, longer, longest))) (λ more m. arms_behind rest z more)
      (reread_part (StopsCore c) EndsRow (arms_by X T size d) _ (spell_arm_row rest) (counts_arm_row d rest) rest (mark kind.RightBrace z ∷ []) (counted d 0 ∷ []) c (arms_again d rest propers (omega (arith, short, long, longer, longest))) (λ more m. closes_row z)
      (reread_mark (StopsCore c) kind.RightBrace _ _ z _ _ _ (reread_done (StopsCore c) c))))))))

  bound_again : (d : ℕ) (b : BindTree) → length (spell_bind b) ≤ size → CoreAgain d (CoreBind b) (bound_by size d)
  bound_again d b short = reread_last (StopsCore (CoreBind b)) (bind_by size d) _ (spell_bind b) (counts_bind d b) b (CoreBind b) (narrower Anything (StopsCore (CoreBind b)) (bind_by size d) (spell_bind b) (counts_bind d b) b (λ n m. tt) (bind_again size d b short)) refl

  -- ---- core: the first token decides

  core_again : (d : ℕ) (c : CoreTree) → IsProperCore c → length (spell_core c) ≤ size → CoreAgain d c (core_by X S T size d)
  unfolding is_mark
  core_again d (CoreDo p n w) proper short = record { again = λ rest m. (let h = (do_again d p n w proper short).again rest m in record { outcome = h.outcome; taken = h.taken }) }
  core_again d (CoreHandle n w) proper short = record { again = λ rest m. (let h = (handle_again d n w proper short).again rest m in record { outcome = h.outcome; taken = h.taken }) }
  core_again d (CoreSequence None l s r) proper short = record { again = λ rest m. (let h = (sequence_again d None l s r proper short).again rest m in record { outcome = h.outcome; taken = h.taken }) }
  core_again d (CoreSequence (Some w) l s r) proper short = record { again = λ rest m. (let h = (sequence_again d (Some w) l s r proper short).again rest m in record { outcome = h.outcome; taken = h.taken }) }
  core_again d (CoreTogether the_together_word.Parallel p j l s r) proper short = record { again = λ rest m. (let h = (together_again d the_together_word.Parallel p j l s r proper.0 proper.1 short).again rest m in record { outcome = h.outcome; taken = h.taken }) }
  core_again d (CoreTogether the_together_word.Schedule p j l s r) proper short = record { again = λ rest m. (let h = (together_again d the_together_word.Schedule p j l s r proper.0 proper.1 short).again rest m in record { outcome = h.outcome; taken = h.taken }) }
  core_again d (CoreSelect p l f rs r) proper short = record { again = λ rest m. (let h = (select_again d p l f rs r proper.0 proper.1 short).again rest m in record { outcome = h.outcome; taken = h.taken }) }
  core_again d (CoreRepeat p l i e r s) proper short = record { again = λ rest m. (let h = (repeated_again d p (l, i, e, r) s proper.0 proper.1 short).again rest m in record { outcome = h.outcome; taken = h.taken }) }
  core_again d (CoreIf i l e r t) proper short = record { again = λ rest m. (let h = (if_again d i l e r t proper.0 proper.1 short).again rest m in record { outcome = h.outcome; taken = h.taken }) }
  core_again d (CoreIfElse i l e r t x o) proper short = record { again = λ rest m. (let h = (if_else_again d i l e r t x o proper.0 proper.1 proper.2 proper.3 short).again rest m in record { outcome = h.outcome; taken = h.taken }) }
  core_again d (CoreMatch p l e r b f rs z) proper short = record { again = λ rest m. (let h = (match_again d p l e r b f rs z proper.0 proper.1 proper.2 short).again rest m in record { outcome = h.outcome; taken = h.taken }) }
  core_again d (CoreBind (MakeBind b f o s)) proper short = record { again = λ rest m. (let h = (bound_again d (MakeBind b f o s) short).again rest m in record { outcome = h.outcome; taken = h.taken }) }

  -- ---- statements

  abbrev StatementAgain : ℕ → StatementTree → Type 0
  StatementAgain d s = Rereads (StopsStatement s) (statement_by X S T size (suc d)) (spell_statement s) (counts_statement d s) s

  -- a name first
  named : (d : ℕ) (s : StatementTree) (name : Name) (text : List Token) (counts : List Count) → Rereads (StopsStatement s) (named_by X S T size (suc d)) (name_token name ∷ text) (counted (suc d) 0 ∷ counts) s → Rereads (StopsStatement s) (statement_by X S T size (suc d)) (name_token name ∷ text) (counted (suc d) 0 ∷ counts) s
  unfolding is_mark is_name
  named d s name text counts h = record { again = λ rest m. (let g = h.again rest m in record { outcome = g.outcome; taken = g.taken }) }

  plain_again : (d : ℕ) (c : CoreTree) → IsProperCore c → length (spell_core c) ≤ size → is_handle c ≡ false → StatementAgain d (StatementPlain c)
  plain_again d c proper short other =
      let s = StatementPlain c in
      reread_choice (StopsStatement s) kind.Semicolon (empty_by (suc d)) _ (spell_core c) (counts_core (suc d) c) s false (λ rest m. (core_starts c rest).no_semicolon)
      (record { again = λ rest m. look_becomes (λ n. if next_is is_name n then named_by X S T size (suc d) else plain_by X S T size (suc d)) (spell_core c ++ rest) rest (counts_core (suc d) c) (Done s) (test_becomes (next_is is_name (next (spell_core c ++ rest))) false (named_by X S T size (suc d)) (plain_by X S T size (suc d)) (Done s) (spell_core c ++ rest) rest (counts_core (suc d) c) ((core_starts c rest).is_named ∙ other) (plain.again rest m)) })
    where
      plain : Rereads (StopsStatement (StatementPlain c)) (plain_by X S T size (suc d)) (spell_core c) (counts_core (suc d) c) (StatementPlain c)
      plain = reread_last (StopsStatement (StatementPlain c)) (core_by X S T size (suc d)) _ (spell_core c) (counts_core (suc d) c) c (StatementPlain c) (core_again (suc d) c proper short) refl

  pub statement_again : (d : ℕ) (s : StatementTree) → IsProperStatement s → length (spell_statement s) ≤ size → StatementAgain d s
  unfolding is_mark is_handle
  statement_again d (StatementEmpty p) proper short =
      let s = StatementEmpty p in
      reread_choice (StopsStatement s) kind.Semicolon (empty_by (suc d)) _ (spell_statement s) (counts_statement d s) s true (λ rest m. refl)
      (reread_mark (StopsStatement s) kind.Semicolon _ _ p _ _ _ (reread_done (StopsStatement s) s))
  statement_again d (StatementLabeled l c) proper short =
      let s = StatementLabeled l c in
      let name_part = reread_choice (StopsStatement s) kind.Colon (labeled_by X S T size (suc d) l.name) (traversed_by S (suc d) l.name) (mark kind.Colon l.colon ∷ spell_core c) (counted (suc d) 0 ∷ counts_core (suc d) c) s true (λ rest m. refl)
      (reread_mark (StopsStatement s) kind.Colon _ _ l.colon _ _ _
      (reread_last (StopsStatement s) (core_by X S T size (suc d)) _ (spell_core c) (counts_core (suc d) c) c s (core_again (suc d) c proper (omega (arith, short))) refl)) in
      named d s l.name (mark kind.Colon l.colon ∷ spell_core c) (counted (suc d) 0 ∷ counts_core (suc d) c)
      (reread_name (StopsStatement s) (counted (suc d) 0) (λ name. if_mark kind.Colon (labeled_by X S T size (suc d) name) (traversed_by S (suc d) name)) l.name _ _ _ name_part)
  statement_again d (StatementPlain (CoreHandle n w)) proper short =
      let s = StatementPlain (CoreHandle n w) in
      named d s n (spell_with w) (counts_with (suc d) w)
      (reread_name (StopsStatement s) (counted (suc d) 0) (λ name. if_mark kind.Colon (labeled_by X S T size (suc d) name) (traversed_by S (suc d) name)) n _ _ _
      (reread_choice (StopsStatement s) kind.Colon (labeled_by X S T size (suc d) n) (traversed_by S (suc d) n) (spell_with w) (counts_with (suc d) w) s false (λ rest m. no_colon w rest)
      (reread_last (StopsStatement s) (with_by S (suc d)) _ (spell_with w) (counts_with (suc d) w) w s (with_again S size AS (suc d) w proper (omega (arith, short))) refl)))
    where
      no_colon : (w : WithTree) (rest : List Token) → next_is (is_mark kind.Colon) (next (spell_with w ++ rest)) ≡ false
      no_colon (WithNothing p) rest = refl
      no_colon (WithSet p x) rest = refl
  statement_again d (StatementPlain (CoreDo p n w)) proper short = plain_again d (CoreDo p n w) proper short refl
  statement_again d (StatementPlain (CoreSequence w l s r)) proper short = plain_again d (CoreSequence w l s r) proper short refl
  statement_again d (StatementPlain (CoreTogether w p j l s r)) proper short = plain_again d (CoreTogether w p j l s r) proper short refl
  statement_again d (StatementPlain (CoreSelect p l f rs r)) proper short = plain_again d (CoreSelect p l f rs r) proper short refl
  statement_again d (StatementPlain (CoreRepeat p l i e r s)) proper short = plain_again d (CoreRepeat p l i e r s) proper short refl
  statement_again d (StatementPlain (CoreIf i l e r t)) proper short = plain_again d (CoreIf i l e r t) proper short refl
  statement_again d (StatementPlain (CoreIfElse i l e r t x o)) proper short = plain_again d (CoreIfElse i l e r t x o) proper short refl
  statement_again d (StatementPlain (CoreMatch p l e r b f rs z)) proper short = plain_again d (CoreMatch p l e r b f rs z) proper short refl
  statement_again d (StatementPlain (CoreBind b)) proper short = plain_again d (CoreBind b) proper short refl

  pub activity_reread : (d : ℕ) (a : ActivityTree) → IsProperActivity a → length (spell_activity a) ≤ size → Rereads Anything (activity_by T size d) (spell_activity a) (counts_activity d a) a
  activity_reread d (MakeActivity w l s r) proper short =
      let long = length-append (flat_map spell_statement s) (mark kind.RightBrace r ∷ []) in
      reread_mark Anything kind.Activity _ _ w _ _ _
      (reread_mark Anything kind.LeftBrace _ _ l _ _ _
      (reread_part Anything EndsRow (list_by (is_other kind.RightBrace) (T d) size) _ (flat_map spell_statement s) (flat_map (counts_statement d) s) s (mark kind.RightBrace r ∷ []) (counted d 0 ∷ []) (MakeActivity w l s r)
      (reread_list spell_statement IsProperStatement (counts_statement d) (is_other kind.RightBrace) (IsNo kind.Else) (T d) (size - 1) size (in_row d) starts_in_row some_statement s proper (omega (arith, short, long)) (omega (arith, short, long))) (λ more m. closes_row r)
      (reread_mark Anything kind.RightBrace _ _ r _ _ _ (reread_done Anything _))))

-- ---- for all sizes

outermost_again : (size d : ℕ) (e : ExprTree) → IsProperExpr e → length (spell_expr e) < size → Rereads (Separates 0) (outermost_at size d) (spell_expr e) (counts_expr d 0 e) e
outermost_again size d e p n = record { again = λ rest w. expr_again size d 0 e rest p n (separated 0 (next rest) w e p 0 (omega arith) (omega arith)) }

set_again : (size d : ℕ) (s : ConstraintTree) → IsProperConstraint s → length (spell_constraint s) < size → Rereads (StopsSet s) (constraint_at size d) (spell_constraint s) (counts_constraint d s) s
set_again size d s p n = record { again = λ rest w. constraint_again size d s rest p n w }

pub statement_at_again : (size d : ℕ) (s : StatementTree) → IsProperStatement s → length (spell_statement s) < size → Rereads (StopsStatement s) (statement_at size d) (spell_statement s) (counts_statement d s) s
unfolding statement_at
statement_at_again zero d s proper short = absurd (omega (arith, short))
statement_at_again (suc size) d s proper short =
    statement_again (outermost_at (suc size)) (constraint_at (suc size)) (statement_at size) size
    (λ x e p n. outermost_again (suc size) x e p (omega (arith, n)))
    (λ x t e. expr_takes size x t e)
    (λ x c p n. set_again (suc size) x c p (omega (arith, n)))
    (statement_at_again size) d s proper (omega (arith, short))

pub activity_again : (size d : ℕ) (a : ActivityTree) (rest : List Token) → IsProperActivity a → length (spell_activity a) < size → Anything (next rest) → Becomes (activity_at size d) (spell_activity a ++ rest) (counts_activity d a) (Done a) rest
activity_again size d a rest proper short stops =
    (activity_reread (outermost_at (suc size)) (constraint_at (suc size)) (statement_at size) size
    (λ x e p n. outermost_again (suc size) x e p (omega (arith, n)))
    (λ x t e. expr_takes size x t e)
    (λ x c p n. set_again (suc size) x c p (omega (arith, n)))
    (statement_at_again size) d a proper (omega (arith, short))).again rest stops
