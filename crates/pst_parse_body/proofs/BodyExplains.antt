-- What the rules of bodies explain.
use Rattle.std.proofs.Common.{◌≡◌, ℕ, zero, suc, Bool, true, false, if◌then◌else◌, List, [], ◌∷◌, ◌++◌, Some, None, refl, ap, append-nil, append_assoc}
use Rattle.std.specs.List.{flat_map, AllByRecursion}
use Rattle.pst_base.specs.declared.position.Place.{Place}
use Rattle.pst_token.specs.declared.kind.Kind.TheVariants as kind
use Rattle.pst_token.specs.declared.token.Token.{Token}
use Rattle.pst_ast.specs.declared.leaf.Name.{Name}
use Rattle.pst_ast.specs.Closing.{origin}
use Rattle.pst_ast.specs.Marks.{mark, name_token, spell_option, OptionIs}
use Rattle.pst_ast.specs.Limits.{Count, counted, counts_option}
use Rattle.pst_ast.specs.ExpressionTree.{ExprTree}
use Rattle.pst_ast.specs.ExpressionSpelling.{spell_expr}
use Rattle.pst_ast.specs.ExpressionProper.{IsProperExpr}
use Rattle.pst_ast.specs.ExpressionLimits.{counts_expr}
use Rattle.pst_ast.specs.SharedSpelling.{spell_next_expr, spell_plain}
use Rattle.pst_ast.specs.SharedProper.{IsProperNextExpr, IsProperPlain}
use Rattle.pst_ast.specs.SharedLimits.{counts_next_expr, counts_plain}
use Rattle.pst_ast.specs.BodyTree.{MakeBody, BodyStatementTree, BodyStatementEmpty, BodyStatementLocal, BodyStatementCall, BodyStatementBlock, BodyStatementIf, BodyStatementIfElse, BodyStatementRepeat, ValueTree, MakeValue, SourceCall, SourceExpr, CallTree, MakeCall, MakeArguments}
use Rattle.pst_ast.specs.BodySpelling.{spell_arguments, spell_call, spell_source, spell_value, spell_body_statement, spell_body_statement_row, spell_body}
use Rattle.pst_ast.specs.BodyProper.{body_ends_open, IsProperArguments, IsProperCall, IsProperSource, IsProperValue, IsProperBodyStatement, AreProperBodyStatement, IsProperBody}
use Rattle.pst_ast.specs.BodyLimits.{counts_arguments, counts_call, counts_source, counts_value, counts_body_statement, counts_body_statement_row, counts_body}
use Rattle.pst_reading.specs.Kinds.{is_mark, is_name, next_is}
use Rattle.pst_reading.specs.Parser.{Parser, Done, followed_by, next}
use Rattle.pst_reading.proofs.Explaining.{Meaning, Means, Explains, Behind, explains_then, explains_done, refused_here}
use Rattle.pst_reading.proofs.Marks.{explains_choice}
use Rattle.pst_reading.proofs.Chains.{explains_mark, explains_name, explains_part}
use Rattle.pst_reading.proofs.Lists.{list_explains}
use Rattle.pst_reading.proofs.Peeking.{takes, takes_followed, peek_explained}
use Rattle.pst_parse_expr.specs.Constraints.{Within, outermost_at, is_at, is_other, ConditionTree, condition_by, next_expr_by, next_exprs_by}
use Rattle.pst_parse_expr.proofs.Answering.{explains}
use Rattle.pst_parse_expr.proofs.Takes.{expr_takes}
use Rattle.pst_parse_expr.proofs.SharedLaws.{spell_condition, IsProperCondition, counts_condition, condition_explains, next_expr_explains}
use Rattle.pst_parse_body.specs.Types.{begins_plain}
use Rattle.pst_parse_part.specs.Plain.{plain_by}
use Rattle.pst_parse_body.specs.Bodies.{arguments_rest, some_arguments, arguments_by, call_close, call_arguments, call_tail, call_by, source_call, source_expr, source_by, value_source, value_by, maybe_value_by, local_end, local_value, local_name, local_by, assigned, assign_end, assign_by, call_end, called_by, behind_name, named_by, otherwise_by, else_by, maybe_else_by, behind_then, then_by, if_condition_by, if_by, repeated_by, times_statement, loop_by, statement_row, statements_by, block_close, block_statements, block_by, empty_by, local_or_named, statement_by, statement_at, body_close, body_statements, body_open, body_word, body_at}
use Rattle.pst_parse_part.specs.Times.{times_by}
use Rattle.pst_parse_part.proofs.TimesExplain.{spell_times, IsProperTimes, counts_times, name_takes, times_explains, times_spelled, times_counted}
use Rattle.pst_parse_part.proofs.PlainExplain.{plain_explains}

-- ---- rows of statements are those of their lists

pub row_spelled : (ss : List BodyStatementTree) → spell_body_statement_row (statement_row ss) ≡ flat_map spell_body_statement ss
row_spelled [] = refl
row_spelled (s ∷ ss) = ap (λ (u : List Token). spell_body_statement s ++ u) (row_spelled ss)

pub row_counted : (d : ℕ) (ss : List BodyStatementTree) → counts_body_statement_row d (statement_row ss) ≡ flat_map (counts_body_statement d) ss
row_counted d [] = refl
row_counted d (s ∷ ss) = ap (λ (u : List Count). counts_body_statement d s ++ u) (row_counted d ss)

row_proper : (ss : List BodyStatementTree) → AllByRecursion IsProperBodyStatement ss → AreProperBodyStatement (statement_row ss)
row_proper [] h = tt
row_proper (s ∷ ss) h = (h.0, row_proper ss h.1)

pub call_takes : {A : Type 0} (X : Within ExprTree) (turns d : ℕ) (f : CallTree → Parser A) (t : Token) → is_name t ≡ true → takes (followed_by (call_by X turns d) f) t ≡ Some (counted d 0)
call_takes X turns d f t e = takes_followed (call_by X turns d) f t (counted d 0) (name_takes (counted d 0) (call_tail X turns d) t e)

module _ (X : Within ExprTree) (S : Within BodyStatementTree) (turns : ℕ) (EX : (d : ℕ) → Explains (Means spell_expr IsProperExpr (counts_expr d 0)) (X d)) (TX : (d : ℕ) (t : Token) → is_name t ≡ true → takes (X d) t ≡ Some (counted d 0)) (ES : (d : ℕ) → Explains (Means spell_body_statement IsProperBodyStatement (counts_body_statement d)) (S d)) where
  -- ---- calls and values

  arguments_explain : (d : ℕ) → Explains (Means (spell_option spell_arguments) (OptionIs IsProperArguments) (counts_option (counts_arguments d))) (arguments_by X turns d)
  arguments_explain d ts =
      let M = Means (spell_option spell_arguments) (OptionIs IsProperArguments) (counts_option (counts_arguments d)) in
      explains_choice M (next_is (is_mark kind.RightParenthesis) (next ts)) (Done None) (some_arguments X turns d) ts
      (λ present. explains_done M None (record { is = refl; proper = tt; counted = refl }) ts)
      (λ absent. explains_part M spell_expr IsProperExpr (counts_expr d 0) (X d) (arguments_rest X turns d) (EX d) (λ e p.
      let M1 = Behind M (spell_expr e) (counts_expr d 0 e) in
      explains_part M1 (flat_map spell_next_expr) (AllByRecursion IsProperNextExpr) (flat_map (counts_next_expr d)) (next_exprs_by X turns d) _
      (list_explains spell_next_expr IsProperNextExpr (counts_next_expr d) (is_at kind.Comma) (next_expr_by X d) (next_explains d) turns) (λ rest q.
      explains_done (Behind M1 (flat_map spell_next_expr rest) (flat_map (counts_next_expr d) rest)) (Some (MakeArguments e rest)) (record { is = rw append-nil refl; proper = (p, q); counted = rw append-nil refl }))) ts)
    where
      next_explains : (x : ℕ) → Explains (Means spell_next_expr IsProperNextExpr (counts_next_expr x)) (next_expr_by X x)
      next_explains x = next_expr_explains X EX x

  -- behind the name
  tail_explains : (d : ℕ) (name : Name) → Explains (Behind (Means spell_call IsProperCall (counts_call d)) (name_token name ∷ []) (counted d 0 ∷ [])) (call_tail X turns d name)
  tail_explains d name =
      let c = counted d 0 in
      let M = Behind (Means spell_call IsProperCall (counts_call d)) (name_token name ∷ []) (c ∷ []) in
      explains_mark M kind.LeftParenthesis c (call_arguments X turns d name) (λ l.
      let M1 = Behind M (mark kind.LeftParenthesis l ∷ []) (c ∷ []) in
      explains_part M1 (spell_option spell_arguments) (OptionIs IsProperArguments) (counts_option (counts_arguments d)) (arguments_by X turns d) (call_close d name l) (arguments_explain d) (λ a p.
      let M2 = Behind M1 (spell_option spell_arguments a) (counts_option (counts_arguments d) a) in
      explains_mark M2 kind.RightParenthesis c _ (λ r.
      explains_done (Behind M2 (mark kind.RightParenthesis r ∷ []) (c ∷ [])) (MakeCall name l a r) (record { is = refl; proper = p; counted = refl }))))

  call_explains : (d : ℕ) → Explains (Means spell_call IsProperCall (counts_call d)) (call_by X turns d)
  call_explains d = explains_name (Means spell_call IsProperCall (counts_call d)) (counted d 0) (call_tail X turns d) (tail_explains d)

  source_explains : (d : ℕ) → Explains (Means spell_source IsProperSource (counts_source d)) (source_by X turns d)
  source_explains d ts =
      let M = Means spell_source IsProperSource (counts_source d) in
      peek_explained kind.LeftParenthesis (counted d 0) (source_call X turns d) (source_expr X d) (λ t e. call_takes X turns d (λ call. Done (SourceCall call)) t e) (λ t e. takes_followed (X d) (λ x. Done (SourceExpr x)) t (counted d 0) (TX d t e)) M ts
      (explains_part M spell_call IsProperCall (counts_call d) (call_by X turns d) (λ call. Done (SourceCall call)) (call_explains d) (λ k p. explains_done (Behind M (spell_call k) (counts_call d k)) (SourceCall k) (record { is = rw append-nil refl; proper = p; counted = rw append-nil refl })) ts)
      (explains_part M spell_expr IsProperExpr (counts_expr d 0) (X d) (λ x. Done (SourceExpr x)) (EX d) (λ x p. explains_done (Behind M (spell_expr x) (counts_expr d 0 x)) (SourceExpr x) (record { is = rw append-nil refl; proper = p; counted = rw append-nil refl })) ts)

  value_explains : (d : ℕ) → Explains (Means spell_value IsProperValue (counts_value d)) (value_by X turns d)
  value_explains d =
      let c = counted d 0 in
      let M = Means spell_value IsProperValue (counts_value d) in
      explains_mark M kind.Equal c (value_source X turns d) (λ equal.
      let M1 = Behind M (mark kind.Equal equal ∷ []) (c ∷ []) in
      explains_part M1 spell_source IsProperSource (counts_source d) (source_by X turns d) _ (source_explains d) (λ s p.
      explains_done (Behind M1 (spell_source s) (counts_source d s)) (MakeValue equal s) (record { is = rw append-nil refl; proper = p; counted = rw append-nil refl })))

  maybe_value_explains : (d : ℕ) → Explains (Means (spell_option spell_value) (OptionIs IsProperValue) (counts_option (counts_value d))) (maybe_value_by X turns d)
  maybe_value_explains d ts =
      let M = Means (spell_option spell_value) (OptionIs IsProperValue) (counts_option (counts_value d)) in
      explains_choice M (next_is (is_mark kind.Equal) (next ts)) (followed_by (value_by X turns d) (λ value. Done (Some value))) (Done None) ts
      (λ present. explains_part M spell_value IsProperValue (counts_value d) (value_by X turns d) _ (value_explains d) (λ v p. explains_done (Behind M (spell_value v) (counts_value d v)) (Some v) (record { is = rw append-nil refl; proper = p; counted = rw append-nil refl })) ts)
      (λ absent. explains_done M None (record { is = refl; proper = tt; counted = refl }) ts)

  -- ---- statements

  abbrev IsStatement : ℕ → Meaning BodyStatementTree
  IsStatement d = Means spell_body_statement IsProperBodyStatement (counts_body_statement d)

  empty_explains : (d : ℕ) → Explains (IsStatement d) (empty_by (suc d))
  empty_explains d = explains_mark (IsStatement d) kind.Semicolon (counted (suc d) 0) _ (λ p. explains_done (Behind (IsStatement d) (mark kind.Semicolon p ∷ []) (counted (suc d) 0 ∷ [])) (BodyStatementEmpty p) (record { is = refl; proper = tt; counted = refl }))

  local_explains : (d : ℕ) → Explains (IsStatement d) (local_by X turns (suc d))
  local_explains d =
      let c = counted (suc d) 0 in
      let M = IsStatement d in
      explains_part M spell_plain IsProperPlain (counts_plain (suc d)) (plain_by turns (suc d)) (local_name X turns (suc d)) (plain_explains turns (suc d)) (λ plain p.
      let M1 = Behind M (spell_plain plain) (counts_plain (suc d) plain) in
      explains_name M1 c (local_value X turns (suc d) plain) (λ name.
      let M2 = Behind M1 (name_token name ∷ []) (c ∷ []) in
      explains_part M2 (spell_option spell_value) (OptionIs IsProperValue) (counts_option (counts_value (suc d))) (maybe_value_by X turns (suc d)) (local_end (suc d) plain name) (maybe_value_explains (suc d)) (λ v q.
      let M3 = Behind M2 (spell_option spell_value v) (counts_option (counts_value (suc d)) v) in
      explains_mark M3 kind.Semicolon c _ (λ semicolon.
      explains_done (Behind M3 (mark kind.Semicolon semicolon ∷ []) (c ∷ [])) (BodyStatementLocal plain name v semicolon) (record { is = refl; proper = (p, q); counted = refl })))))

  assign_explains : (d : ℕ) (name : Name) → Explains (Behind (IsStatement d) (name_token name ∷ []) (counted (suc d) 0 ∷ [])) (assign_by X turns (suc d) name)
  assign_explains d name =
      let c = counted (suc d) 0 in
      let M1 = Behind (IsStatement d) (name_token name ∷ []) (c ∷ []) in
      explains_part M1 spell_value IsProperValue (counts_value (suc d)) (value_by X turns (suc d)) (assign_end (suc d) name) (value_explains (suc d)) (λ v p.
      let M2 = Behind M1 (spell_value v) (counts_value (suc d) v) in
      explains_mark M2 kind.Semicolon c _ (λ semicolon.
      explains_done (Behind M2 (mark kind.Semicolon semicolon ∷ []) (c ∷ [])) (assigned name v semicolon) (is_assigned v semicolon p)))
    where
      is_assigned : (v : ValueTree) (semicolon : Place) → IsProperValue v → Behind (Behind (Behind (IsStatement d) (name_token name ∷ []) (counted (suc d) 0 ∷ [])) (spell_value v) (counts_value (suc d) v)) (mark kind.Semicolon semicolon ∷ []) (counted (suc d) 0 ∷ []) (assigned name v semicolon) [] []
      is_assigned (MakeValue equal source) semicolon p = record { is = refl; proper = p; counted = refl }

  abbrev AfterName : ℕ → Name → Meaning BodyStatementTree
  AfterName d name = Behind (IsStatement d) (name_token name ∷ []) (counted (suc d) 0 ∷ [])

  -- a call behind its name, and what ends it
  called_explains : (d : ℕ) (name : Name) → Explains (AfterName d name) (called_by X turns (suc d) name)
  called_explains d name =
      let c = counted (suc d) 0 in
      explains_then (Behind (Means spell_call IsProperCall (counts_call (suc d))) (name_token name ∷ []) (c ∷ [])) (AfterName d name) (call_tail X turns (suc d) name) (call_end (suc d)) (tail_explains (suc d) name)
      (λ k text counts h. explains_mark (Behind (AfterName d name) text counts) kind.Semicolon c (λ semicolon. Done (BodyStatementCall k semicolon)) (λ semicolon.
      explains_done (Behind (Behind (AfterName d name) text counts) (mark kind.Semicolon semicolon ∷ []) (c ∷ [])) (BodyStatementCall k semicolon)
      (record { is = ap (λ (u : List Token). u ++ mark kind.Semicolon semicolon ∷ []) h.is; proper = h.proper; counted = ap (λ (u : List Count). u ++ c ∷ []) h.counted })))

  named_explains : (d : ℕ) → Explains (IsStatement d) (named_by X turns (suc d))
  named_explains d =
      explains_name (IsStatement d) (counted (suc d) 0) (behind_name X turns (suc d)) (λ name ts.
      explains_choice (AfterName d name) (next_is (is_mark kind.Equal) (next ts)) (assign_by X turns (suc d) name) (called_by X turns (suc d) name) ts
      (λ present. assign_explains d name ts) (λ absent. called_explains d name ts))

  -- behind the part that holds where the condition does
  module _ (d : ℕ) (i : Place) (g : ConditionTree) (t : BodyStatementTree) (p : IsProperCondition g) (q : IsProperBodyStatement t) where
    abbrev BehindThen : Meaning BodyStatementTree
    BehindThen = Behind (Behind (Behind (IsStatement d) (mark kind.If i ∷ []) (counted (suc d) 0 ∷ [])) (spell_condition g) (counts_condition (suc d) g)) (spell_body_statement t) (counts_body_statement (suc d) t)

    inside_brackets : (more : List Token) → mark kind.If i ∷ (spell_condition g ++ more) ≡ mark kind.If i ∷ mark kind.LeftParenthesis g.0 ∷ (spell_expr g.1 ++ mark kind.RightParenthesis g.2 ∷ more)
    inside_brackets more = ap (λ (u : List Token). mark kind.If i ∷ mark kind.LeftParenthesis g.0 ∷ u) (append_assoc (spell_expr g.1) (mark kind.RightParenthesis g.2 ∷ []) more)

    counted_in_brackets : (more : List Count) → counted (suc d) 0 ∷ (counts_condition (suc d) g ++ more) ≡ counted (suc d) 0 ∷ counted (suc d) 0 ∷ (counts_expr (suc d) 0 g.1 ++ counted (suc d) 0 ∷ more)
    counted_in_brackets more = ap (λ (u : List Count). counted (suc d) 0 ∷ counted (suc d) 0 ∷ u) (append_assoc (counts_expr (suc d) 0 g.1) (counted (suc d) 0 ∷ []) more)

    only_explains : Explains BehindThen (Done (BodyStatementIf i g.0 g.1 g.2 t))
    only_explains = explains_done BehindThen (BodyStatementIf i g.0 g.1 g.2 t) (record { is = rw append-nil (inside_brackets (spell_body_statement t)); proper = (p, q); counted = rw append-nil (counted_in_brackets (counts_body_statement (suc d) t)) })

    else_explains : (open_end : Bool) → body_ends_open t ≡ open_end → Explains BehindThen (maybe_else_by S (suc d) i g t open_end)
    else_explains true opens ts = only_explains ts
    else_explains false opens ts =
        let c = counted (suc d) 0 in
        explains_choice BehindThen (next_is (is_mark kind.Else) (next ts)) (else_by S (suc d) i g t) (Done (BodyStatementIf i g.0 g.1 g.2 t)) ts
        (λ present. explains_mark BehindThen kind.Else c (otherwise_by S (suc d) i g t) (λ e.
        let M1 = Behind BehindThen (mark kind.Else e ∷ []) (c ∷ []) in
        explains_part M1 spell_body_statement IsProperBodyStatement (counts_body_statement (suc d)) (S (suc d)) _ (ES (suc d)) (λ o r.
        explains_done (Behind M1 (spell_body_statement o) (counts_body_statement (suc d) o)) (BodyStatementIfElse i g.0 g.1 g.2 t e o) (record { is = rw append-nil (inside_brackets (spell_body_statement t ++ mark kind.Else e ∷ spell_body_statement o)); proper = (p, q, r, opens); counted = rw append-nil (counted_in_brackets (counts_body_statement (suc d) t ++ c ∷ counts_body_statement (suc d) o)) }))) ts)
        (λ absent. only_explains ts)

  if_explains : (d : ℕ) → Explains (IsStatement d) (if_by X S (suc d))
  if_explains d =
      let c = counted (suc d) 0 in
      let M = IsStatement d in
      explains_mark M kind.If c (if_condition_by X S (suc d)) (λ i.
      let M1 = Behind M (mark kind.If i ∷ []) (c ∷ []) in
      explains_part M1 spell_condition IsProperCondition (counts_condition (suc d)) (condition_by X (suc d)) (then_by S (suc d) i) (condition_explains X EX (suc d)) (λ g p.
      let M2 = Behind M1 (spell_condition g) (counts_condition (suc d) g) in
      explains_part M2 spell_body_statement IsProperBodyStatement (counts_body_statement (suc d)) (S (suc d)) (behind_then S (suc d) i g) (ES (suc d)) (λ t q ts.
      else_explains d i g t p q (body_ends_open t) refl ts)))

  loop_explains : (d : ℕ) → Explains (IsStatement d) (loop_by X S (suc d))
  loop_explains d =
      let c = counted (suc d) 0 in
      let M = IsStatement d in
      explains_mark M kind.Repeat c (times_statement X S (suc d)) (λ r.
      let M1 = Behind M (mark kind.Repeat r ∷ []) (c ∷ []) in
      explains_part M1 spell_times IsProperTimes (counts_times (suc d)) (times_by X (suc d)) (repeated_by S (suc d) r) (times_explains X EX TX (suc d)) (λ t p.
      let M2 = Behind M1 (spell_times t) (counts_times (suc d) t) in
      explains_part M2 spell_body_statement IsProperBodyStatement (counts_body_statement (suc d)) (S (suc d)) _ (ES (suc d)) (λ s q.
      explains_done (Behind M2 (spell_body_statement s) (counts_body_statement (suc d) s)) (BodyStatementRepeat r t.0 t.1 t.2 t.3 s) (record { is = rw append-nil (ap (λ (u : List Token). mark kind.Repeat r ∷ u) (times_spelled t (spell_body_statement s))); proper = (p, q); counted = rw append-nil (ap (λ (u : List Count). c ∷ u) (times_counted (suc d) t (counts_body_statement (suc d) s))) }))))

  statements_explain : (d : ℕ) → Explains (Means (flat_map spell_body_statement) (AllByRecursion IsProperBodyStatement) (flat_map (counts_body_statement d))) (statements_by S turns d)
  statements_explain d = list_explains spell_body_statement IsProperBodyStatement (counts_body_statement d) (is_other kind.RightBrace) (S d) (ES d) turns

  block_explains : (d : ℕ) → Explains (IsStatement d) (block_by S turns (suc d))
  block_explains d =
      let c = counted (suc d) 0 in
      let M = IsStatement d in
      explains_mark M kind.LeftBrace c (block_statements S turns (suc d)) (λ l.
      let M1 = Behind M (mark kind.LeftBrace l ∷ []) (c ∷ []) in
      explains_part M1 (flat_map spell_body_statement) (AllByRecursion IsProperBodyStatement) (flat_map (counts_body_statement (suc d))) (statements_by S turns (suc d)) (block_close (suc d) l) (statements_explain (suc d)) (λ ss p.
      let M2 = Behind M1 (flat_map spell_body_statement ss) (flat_map (counts_body_statement (suc d)) ss) in
      explains_mark M2 kind.RightBrace c _ (λ r.
      explains_done (Behind M2 (mark kind.RightBrace r ∷ []) (c ∷ [])) (BodyStatementBlock l (statement_row ss) r) (record { is = rw row_spelled refl; proper = row_proper ss p; counted = rw row_counted refl }))))

  pub statement_explains : (d : ℕ) → Explains (IsStatement d) (statement_by X S turns (suc d))
  statement_explains d ts =
      let M = IsStatement d in
      explains_choice M (next_is (is_mark kind.Semicolon) (next ts)) (empty_by (suc d)) _ ts (λ e. empty_explains d ts)
      (λ e. explains_choice M (next_is (is_mark kind.LeftBrace) (next ts)) (block_by S turns (suc d)) _ ts (λ f. block_explains d ts)
      (λ f. explains_choice M (next_is (is_mark kind.If) (next ts)) (if_by X S (suc d)) _ ts (λ g. if_explains d ts)
      (λ g. explains_choice M (next_is (is_mark kind.Repeat) (next ts)) (loop_by X S (suc d)) (local_or_named X turns (suc d)) ts (λ h. loop_explains d ts)
      (λ h. explains_choice M (begins_plain (next ts)) (local_by X turns (suc d)) (named_by X turns (suc d)) ts (λ i. local_explains d ts) (λ i. named_explains d ts)))))

pub nested_explains : (size d : ℕ) → Explains (Means spell_body_statement IsProperBodyStatement (counts_body_statement d)) (statement_at size d)
unfolding statement_at
nested_explains zero d ts = refused_here (Means spell_body_statement IsProperBodyStatement (counts_body_statement d)) ts (record { value = BodyStatementEmpty origin; text = mark kind.Semicolon origin ∷ []; counts = counted (suc d) 0 ∷ []; more = mark kind.Semicolon origin ∷ []; spelled = record { is = refl; proper = tt; counted = refl }; is = refl })
nested_explains (suc size) d ts = statement_explains (outermost_at (suc size)) (statement_at size) size (λ x. explains x (suc size)) (λ x t e. expr_takes size x t e) (nested_explains size) d ts

pub body_explains : (size d : ℕ) → Explains (Means spell_body IsProperBody (counts_body d)) (body_at size d)
body_explains size d =
    let c = counted d 0 in
    let M = Means spell_body IsProperBody (counts_body d) in
    let S = statement_at size in
    explains_mark M kind.Exec c (body_word S size d) (λ e.
    let M1 = Behind M (mark kind.Exec e ∷ []) (c ∷ []) in
    explains_mark M1 kind.Body c (body_open S size d e) (λ b.
    let M2 = Behind M1 (mark kind.Body b ∷ []) (c ∷ []) in
    explains_mark M2 kind.LeftBrace c (body_statements S size d e b) (λ l.
    let M3 = Behind M2 (mark kind.LeftBrace l ∷ []) (c ∷ []) in
    explains_part M3 (flat_map spell_body_statement) (AllByRecursion IsProperBodyStatement) (flat_map (counts_body_statement d)) (statements_by S size d) (body_close d e b l)
    (list_explains spell_body_statement IsProperBodyStatement (counts_body_statement d) (is_other kind.RightBrace) (S d) (nested_explains size d) size) (λ ss p.
    let M4 = Behind M3 (flat_map spell_body_statement ss) (flat_map (counts_body_statement d) ss) in
    explains_mark M4 kind.RightBrace c _ (λ r.
    explains_done (Behind M4 (mark kind.RightBrace r ∷ []) (c ∷ [])) (MakeBody e b l ss r) (record { is = refl; proper = p; counted = refl }))))))
