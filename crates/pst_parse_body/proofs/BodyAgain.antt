-- Bodies read what they spell again.
use Rattle.std.proofs.Common.{◌≡◌, ℕ, zero, suc, ◌≤◌, ◌<◌, Bool, true, false, if◌then◌else◌, List, [], ◌∷◌, ◌++◌, length, Some, Option, None, refl, sym, ap, subst, ◌∙◌, arith, append-nil, append_assoc, length-append}
use Rattle.std.specs.List.{flat_map, AllByRecursion}
use Rattle.pst_base.specs.declared.position.Place.{Place}
use Rattle.pst_token.specs.declared.kind.Kind.TheVariants as kind
use Rattle.pst_token.specs.declared.token.Token.{Token}
use Rattle.pst_ast.specs.declared.leaf.Name.{Name}
use Rattle.pst_ast.specs.Marks.{mark, name_token, spell_option, OptionIs}
use Rattle.pst_ast.specs.Limits.{Count, counted, counts_option}
use Rattle.pst_ast.specs.ExpressionTree.{ExprTree}
use Rattle.pst_ast.specs.ExpressionSpelling.{spell_expr}
use Rattle.pst_ast.specs.ExpressionProper.{IsProperExpr}
use Rattle.pst_ast.specs.ExpressionLimits.{counts_expr}
use Rattle.pst_ast.specs.SharedTree.{NextExprTree, MakeNextExpr, PlainTree, PlainInt, PlainBit, PlainBool}
use Rattle.pst_ast.specs.SharedSpelling.{spell_label, spell_next_expr, spell_plain}
use Rattle.pst_ast.specs.SharedProper.{IsProperNextExpr, IsProperPlain}
use Rattle.pst_ast.specs.SharedLimits.{counts_label, counts_next_expr, counts_plain}
use Rattle.pst_ast.specs.BodyTree.{BodyTree, MakeBody, BodyStatementTree, BodyStatementEmpty, BodyStatementLocal, BodyStatementAssign, BodyStatementCall, BodyStatementBlock, BodyStatementIf, BodyStatementIfElse, BodyStatementRepeat, ValueTree, MakeValue, SourceTree, SourceCall, SourceExpr, MakeCall, ArgumentsTree, MakeArguments, BodyStatementRow, NoBodyStatementRow, MoreBodyStatementRow}
use Rattle.pst_ast.specs.BodySpelling.{spell_arguments, spell_call, spell_source, spell_value, spell_body_statement, spell_body_statement_row, spell_body}
use Rattle.pst_ast.specs.BodyProper.{body_ends_open, IsProperArguments, IsProperSource, IsProperValue, IsProperBodyStatement, AreProperBodyStatement, IsProperBody}
use Rattle.pst_ast.specs.BodyLimits.{counts_arguments, counts_source, counts_value, counts_body_statement, counts_body}
use Rattle.pst_reading.specs.Kinds.{is_mark, is_name, next_is}
use Rattle.pst_reading.specs.Parser.{Parser, Done, next}
use Rattle.pst_reading.proofs.Becoming.{Becomes, stays, becomes_both, becomes_followed}
use Rattle.pst_reading.proofs.Marks.{choice_becomes, look_becomes, test_becomes}
use Rattle.pst_reading.proofs.Tokens.{mark_is_so}
use Rattle.pst_reading.proofs.Chains.{becomes_mark, becomes_name}
use Rattle.pst_reading.proofs.Lists.{list_again}
use Rattle.pst_reading.proofs.Peeking.{takes, takes_followed, peek_becomes}
use Rattle.pst_parse_expr.specs.Constraints.{Within, outermost_at, is_at, is_other, ConditionTree, condition_by, next_expr_by, next_exprs_by}
use Rattle.pst_parse_operator.proofs.Stops.{IsNo, Separates, separated, semicolon_closes, right_parenthesis_closes, comma_closes}
use Rattle.pst_parse_operator.proofs.ExprAgain.{expr_again}
use Rattle.pst_parse_expr.proofs.Starts.{starts_expr, no_parenthesis_begins}
use Rattle.pst_parse_expr.proofs.Takes.{expr_takes, expr_apart, parenthesis_outside}
use Rattle.pst_parse_expr.proofs.SharedLaws.{spell_condition, IsProperCondition, counts_condition, same_text, bracketed, condition_again, next_expr_again, next_expr_starts, some_next_expr, brace_ends, brace_is_no_else}
use Rattle.pst_parse_body.specs.Types.{begins_plain}
use Rattle.pst_parse_part.specs.Plain.{plain_by}
use Rattle.pst_parse_body.specs.Bodies.{arguments_rest, some_arguments, arguments_by, call_close, call_arguments, call_tail, call_by, source_call, source_expr, source_by, value_source, value_by, maybe_value_by, local_end, local_value, local_name, local_by, assigned, assign_end, assign_by, call_end, called_by, behind_name, named_by, otherwise_by, else_by, maybe_else_by, behind_then, then_by, if_condition_by, if_by, repeated_by, times_statement, loop_by, statement_row, statements_by, block_close, block_statements, block_by, empty_by, local_or_named, statement_by, statement_at, body_close, body_statements, body_open, body_word, body_at}
use Rattle.pst_parse_part.specs.Times.{TimesTree, times_by}
use Rattle.pst_parse_body.proofs.BodyExplains.{row_spelled, row_counted, call_takes}
use Rattle.pst_parse_part.proofs.TimesExplain.{spell_times, IsProperTimes, counts_times, times_spelled}
use Rattle.pst_parse_part.proofs.PlainAgain.{plain_rereads}
use Rattle.pst_parse_part.proofs.TimesAgain.{name_and_mark, times_again}

-- what may follow a statement: behind an open `if` no `else`
abbrev pub StopsStatement : BodyStatementTree → Option Token → Type 0
StopsStatement s next = body_ends_open s ≡ true → IsNo kind.Else next

-- ---- rows as lists

list_of : BodyStatementRow → List BodyStatementTree
list_of NoBodyStatementRow = []
list_of (MoreBodyStatementRow s ss) = s ∷ list_of ss

row_is : (ss : BodyStatementRow) → statement_row (list_of ss) ≡ ss
unfolding list_of
row_is NoBodyStatementRow = refl
row_is (MoreBodyStatementRow s ss) = ap (MoreBodyStatementRow s) (row_is ss)

all_proper : (ss : List BodyStatementTree) → AreProperBodyStatement (statement_row ss) → AllByRecursion IsProperBodyStatement ss
all_proper [] h = tt
all_proper (s ∷ ss) h = (h.0, all_proper ss h.1)

-- ---- tokens told apart

no_comma_at_parenthesis : (p : Place) → is_at kind.Comma (Some (mark kind.RightParenthesis p)) ≡ false
unfolding is_mark
no_comma_at_parenthesis p = refl

no_bracket_at_name : (n : Name) → IsNo kind.LeftBracket (Some (name_token n))
unfolding is_mark
no_bracket_at_name n = refl

no_equal_at_semicolon : (p : Place) → IsNo kind.Equal (Some (mark kind.Semicolon p))
unfolding is_mark
no_equal_at_semicolon p = refl

no_equal_at_parenthesis : (p : Place) → IsNo kind.Equal (Some (mark kind.LeftParenthesis p))
unfolding is_mark
no_equal_at_parenthesis p = refl

no_parenthesis_at_semicolon : (p : Place) → IsNo kind.LeftParenthesis (Some (mark kind.Semicolon p))
unfolding is_mark
no_parenthesis_at_semicolon p = refl

-- which statement the next token begins
record BeginsStatement (semicolon left if_word repeat plain : Bool) (n : Option Token) : Type 0 where
  is_semicolon : next_is (is_mark kind.Semicolon) n ≡ semicolon
  is_left : next_is (is_mark kind.LeftBrace) n ≡ left
  is_if : next_is (is_mark kind.If) n ≡ if_word
  is_repeat : next_is (is_mark kind.Repeat) n ≡ repeat
  is_plain : begins_plain n ≡ plain
  -- it closes no block, and is no `else`
  is_no_end : IsNo kind.RightBrace n
  is_no_else : IsNo kind.Else n

begins_empty : (p : Place) → BeginsStatement true false false false false (Some (mark kind.Semicolon p))
unfolding is_mark
begins_empty p = record { is_semicolon = refl; is_left = refl; is_if = refl; is_repeat = refl; is_plain = refl; is_no_end = refl; is_no_else = refl }

begins_block : (p : Place) → BeginsStatement false true false false false (Some (mark kind.LeftBrace p))
unfolding is_mark
begins_block p = record { is_semicolon = refl; is_left = refl; is_if = refl; is_repeat = refl; is_plain = refl; is_no_end = refl; is_no_else = refl }

begins_if : (p : Place) → BeginsStatement false false true false false (Some (mark kind.If p))
unfolding is_mark
begins_if p = record { is_semicolon = refl; is_left = refl; is_if = refl; is_repeat = refl; is_plain = refl; is_no_end = refl; is_no_else = refl }

begins_repeat : (p : Place) → BeginsStatement false false false true false (Some (mark kind.Repeat p))
unfolding is_mark
begins_repeat p = record { is_semicolon = refl; is_left = refl; is_if = refl; is_repeat = refl; is_plain = refl; is_no_end = refl; is_no_else = refl }

begins_int : (p : Place) → BeginsStatement false false false false true (Some (mark kind.Int p))
unfolding is_mark
begins_int p = record { is_semicolon = refl; is_left = refl; is_if = refl; is_repeat = refl; is_plain = refl; is_no_end = refl; is_no_else = refl }

begins_bit : (p : Place) → BeginsStatement false false false false true (Some (mark kind.Bit p))
unfolding is_mark
begins_bit p = record { is_semicolon = refl; is_left = refl; is_if = refl; is_repeat = refl; is_plain = refl; is_no_end = refl; is_no_else = refl }

begins_bool : (p : Place) → BeginsStatement false false false false true (Some (mark kind.Bool p))
unfolding is_mark
begins_bool p = record { is_semicolon = refl; is_left = refl; is_if = refl; is_repeat = refl; is_plain = refl; is_no_end = refl; is_no_else = refl }

begins_name : (n : Name) → BeginsStatement false false false false false (Some (name_token n))
unfolding is_mark
begins_name n = record { is_semicolon = refl; is_left = refl; is_if = refl; is_repeat = refl; is_plain = refl; is_no_end = refl; is_no_else = refl }

begins_local : (plain : PlainTree) (rest : List Token) → BeginsStatement false false false false true (next (spell_plain plain ++ rest))
begins_local (PlainInt p w) rest = begins_int p
begins_local (PlainBit p w) rest = begins_bit p
begins_local (PlainBool p) rest = begins_bool p

starts : (s l i r p : Bool) (n : Option Token) → BeginsStatement s l i r p n → IsNo kind.RightBrace n × IsNo kind.Else n
starts s l i r p n b = (b.is_no_end, b.is_no_else)

statement_starts : (s : BodyStatementTree) (rest : List Token) → IsNo kind.RightBrace (next (spell_body_statement s ++ rest)) × IsNo kind.Else (next (spell_body_statement s ++ rest))
statement_starts (BodyStatementEmpty p) rest = starts _ _ _ _ _ _ (begins_empty p)
statement_starts (BodyStatementLocal plain n v p) rest = starts _ _ _ _ _ _ (subst (λ (u : List Token). BeginsStatement false false false false true (next u)) (sym (append_assoc (spell_plain plain) (name_token n ∷ (spell_option spell_value v ++ mark kind.Semicolon p ∷ [])) rest)) (begins_local plain (name_token n ∷ ((spell_option spell_value v ++ mark kind.Semicolon p ∷ []) ++ rest))))
statement_starts (BodyStatementAssign n e s p) rest = starts _ _ _ _ _ _ (begins_name n)
statement_starts (BodyStatementCall (MakeCall n l a r) p) rest = starts _ _ _ _ _ _ (begins_name n)
statement_starts (BodyStatementBlock l ss r) rest = starts _ _ _ _ _ _ (begins_block l)
statement_starts (BodyStatementIf i l e r t) rest = starts _ _ _ _ _ _ (begins_if i)
statement_starts (BodyStatementIfElse i l e r t x o) rest = starts _ _ _ _ _ _ (begins_if i)
statement_starts (BodyStatementRepeat r l i e c s) rest = starts _ _ _ _ _ _ (begins_repeat r)

some_statement : (s : BodyStatementTree) → 1 ≤ length (spell_body_statement s)
some_statement (BodyStatementEmpty p) = omega arith
some_statement (BodyStatementLocal plain n v p) = omega (arith, length-append (spell_plain plain) (name_token n ∷ (spell_option spell_value v ++ mark kind.Semicolon p ∷ [])))
some_statement (BodyStatementAssign n e s p) = omega arith
some_statement (BodyStatementCall (MakeCall n l a r) p) = omega arith
some_statement (BodyStatementBlock l ss r) = omega arith
some_statement (BodyStatementIf i l e r t) = omega arith
some_statement (BodyStatementIfElse i l e r t x o) = omega arith
some_statement (BodyStatementRepeat r l i e c s) = omega arith

module _ (X : Within ExprTree) (size : ℕ) (AX : (d : ℕ) (e : ExprTree) (rest : List Token) → IsProperExpr e → length (spell_expr e) ≤ size → Separates 0 (next rest) → Becomes (X d) (spell_expr e ++ rest) (counts_expr d 0 e) (Done e) rest) where
  module _ (TX : (d : ℕ) (t : Token) → is_name t ≡ true → takes (X d) t ≡ Some (counted d 0)) where
    -- ---- calls and values

    arguments_again : (d : ℕ) (a : Option ArgumentsTree) (r : Place) (rest : List Token) → OptionIs IsProperArguments a → length (spell_option spell_arguments a) < size → Becomes (arguments_by X size d) (spell_option spell_arguments a ++ mark kind.RightParenthesis r ∷ rest) (counts_option (counts_arguments d) a) (Done a) (mark kind.RightParenthesis r ∷ rest)
    arguments_again d None r rest proper short = choice_becomes kind.RightParenthesis (Done None) (some_arguments X size d) (Done None) (mark kind.RightParenthesis r ∷ rest) (mark kind.RightParenthesis r ∷ rest) [] true (mark_is_so kind.RightParenthesis r) (stays (Done None) (mark kind.RightParenthesis r ∷ rest))
    arguments_again d (Some (MakeArguments e es)) r rest proper short =
        let a = Some (MakeArguments e es) in
        let vs = mark kind.RightParenthesis r ∷ rest in
        let us = flat_map spell_next_expr es ++ vs in
        let cs = flat_map (counts_next_expr d) es in
        let long = length-append (spell_expr e) (flat_map spell_next_expr es) in
        same_text (arguments_by X size d) (Done a) ((spell_expr e ++ flat_map spell_next_expr es) ++ vs) (spell_expr e ++ us) vs (counts_expr d 0 e ++ cs) (counts_expr d 0 e ++ cs) (sym (append_assoc (spell_expr e) (flat_map spell_next_expr es) vs)) refl
        (choice_becomes kind.RightParenthesis (Done None) (some_arguments X size d) (Done a) (spell_expr e ++ us) vs (counts_expr d 0 e ++ cs) false (no_parenthesis_begins (next (spell_expr e ++ us)) (starts_expr e us))
        (becomes_both (X d) (arguments_rest X size d) e (Done a) (spell_expr e ++ us) us vs (counts_expr d 0 e) cs (AX d e us proper.0 (omega (arith, short, long)) (behind es))
        (becomes_followed (next_exprs_by X size d) (Done es) (λ x. Done (Some (MakeArguments e x))) us vs cs
        (list_again spell_next_expr IsProperNextExpr (counts_next_expr d) (is_at kind.Comma) (next_expr_by X d) size (Separates 0) (next_expr_again X size AX d) next_expr_starts some_next_expr es size vs proper.1 (omega (arith, short, long)) (omega (arith, short, long)) (no_comma_at_parenthesis r) (right_parenthesis_closes r)))))
      where
        behind : (xs : List NextExprTree) → Separates 0 (next (flat_map spell_next_expr xs ++ mark kind.RightParenthesis r ∷ rest))
        behind [] = right_parenthesis_closes r
        behind (MakeNextExpr comma x ∷ xs) = comma_closes comma

    tail_again : (d : ℕ) (n : Name) (l : Place) (a : Option ArgumentsTree) (r : Place) (rest : List Token) → OptionIs IsProperArguments a → length (spell_option spell_arguments a) < size → Becomes (call_tail X size d n) (mark kind.LeftParenthesis l ∷ (spell_option spell_arguments a ++ mark kind.RightParenthesis r ∷ rest)) (counted d 0 ∷ (counts_option (counts_arguments d) a ++ counted d 0 ∷ [])) (Done (MakeCall n l a r)) rest
    tail_again d n l a r rest proper short =
        let c = counted d 0 in
        let call = MakeCall n l a r in
        let us = mark kind.RightParenthesis r ∷ rest in
        let cs = counts_option (counts_arguments d) a in
        becomes_mark kind.LeftParenthesis c (call_arguments X size d n) l (Done call) (spell_option spell_arguments a ++ us) rest (cs ++ c ∷ [])
        (becomes_both (arguments_by X size d) (call_close d n l) a (Done call) (spell_option spell_arguments a ++ us) us rest cs (c ∷ []) (arguments_again d a r rest proper short)
        (becomes_mark kind.RightParenthesis c (λ x. Done (MakeCall n l a x)) r (Done call) rest rest [] (stays (Done call) rest)))

    -- a source, and the semicolon behind it
    source_again : (d : ℕ) (s : SourceTree) (p : Place) (rest : List Token) → IsProperSource s → length (spell_source s) ≤ size → Becomes (source_by X size d) (spell_source s ++ mark kind.Semicolon p ∷ rest) (counts_source d s) (Done s) (mark kind.Semicolon p ∷ rest)
    source_again d (SourceCall (MakeCall n l a r)) p rest proper short =
        let c = counted d 0 in
        let call = MakeCall n l a r in
        let vs = mark kind.Semicolon p ∷ rest in
        let us = mark kind.LeftParenthesis l ∷ (spell_option spell_arguments a ++ mark kind.RightParenthesis r ∷ vs) in
        let cs = c ∷ (counts_option (counts_arguments d) a ++ c ∷ []) in
        let long = length-append (spell_option spell_arguments a) (mark kind.RightParenthesis r ∷ []) in
        same_text (source_by X size d) (Done (SourceCall call)) (spell_call call ++ vs) (name_token n ∷ us) vs (c ∷ cs) (c ∷ cs)
        (ap (λ (u : List Token). name_token n ∷ mark kind.LeftParenthesis l ∷ u) (sym (append_assoc (spell_option spell_arguments a) (mark kind.RightParenthesis r ∷ []) vs))) refl
        (peek_becomes kind.LeftParenthesis c (source_call X size d) (source_expr X d) (λ t f. call_takes X size d (λ k. Done (SourceCall k)) t f) (λ t f. takes_followed (X d) (λ x. Done (SourceExpr x)) t c (TX d t f)) true (Done (SourceCall call)) (name_token n ∷ us) vs (c ∷ cs)
        (name_and_mark kind.LeftParenthesis n l (spell_option spell_arguments a ++ mark kind.RightParenthesis r ∷ vs))
        (becomes_followed (call_by X size d) (Done call) (λ k. Done (SourceCall k)) (name_token n ∷ us) vs (c ∷ cs)
        (becomes_name c (call_tail X size d) n (Done call) us vs cs (tail_again d n l a r vs proper (omega (arith, short, long))))))
    source_again d (SourceExpr e) p rest proper short =
        let vs = mark kind.Semicolon p ∷ rest in
        peek_becomes kind.LeftParenthesis (counted d 0) (source_call X size d) (source_expr X d) (λ t f. call_takes X size d (λ k. Done (SourceCall k)) t f) (λ t f. takes_followed (X d) (λ x. Done (SourceExpr x)) t (counted d 0) (TX d t f)) false (Done (SourceExpr e)) (spell_expr e ++ vs) vs (counts_expr d 0 e)
        (expr_apart kind.LeftParenthesis parenthesis_outside e vs (no_parenthesis_at_semicolon p))
        (becomes_followed (X d) (Done e) (λ x. Done (SourceExpr x)) (spell_expr e ++ vs) vs (counts_expr d 0 e) (AX d e vs proper short (semicolon_closes p)))

    value_again : (d : ℕ) (v : ValueTree) (p : Place) (rest : List Token) → IsProperValue v → length (spell_value v) ≤ size → Becomes (value_by X size d) (spell_value v ++ mark kind.Semicolon p ∷ rest) (counts_value d v) (Done v) (mark kind.Semicolon p ∷ rest)
    value_again d (MakeValue equal s) p rest proper short =
        let vs = mark kind.Semicolon p ∷ rest in
        becomes_mark kind.Equal (counted d 0) (value_source X size d) equal (Done (MakeValue equal s)) (spell_source s ++ vs) vs (counts_source d s)
        (becomes_followed (source_by X size d) (Done s) (λ x. Done (MakeValue equal x)) (spell_source s ++ vs) vs (counts_source d s) (source_again d s p rest proper (omega (arith, short))))

    maybe_value_again : (d : ℕ) (v : Option ValueTree) (p : Place) (rest : List Token) → OptionIs IsProperValue v → length (spell_option spell_value v) ≤ size → Becomes (maybe_value_by X size d) (spell_option spell_value v ++ mark kind.Semicolon p ∷ rest) (counts_option (counts_value d) v) (Done v) (mark kind.Semicolon p ∷ rest)
    maybe_value_again d None p rest proper short = choice_becomes kind.Equal _ (Done None) (Done None) (mark kind.Semicolon p ∷ rest) (mark kind.Semicolon p ∷ rest) [] false (no_equal_at_semicolon p) (stays (Done None) (mark kind.Semicolon p ∷ rest))
    maybe_value_again d (Some (MakeValue equal s)) p rest proper short =
        let v = MakeValue equal s in
        let vs = mark kind.Semicolon p ∷ rest in
        choice_becomes kind.Equal _ (Done None) (Done (Some v)) (spell_value v ++ vs) vs (counts_value d v) true (mark_is_so kind.Equal equal)
        (becomes_followed (value_by X size d) (Done v) (λ x. Done (Some x)) (spell_value v ++ vs) vs (counts_value d v) (value_again d v p rest proper short))

    -- ---- statements

    module _ (S : Within BodyStatementTree) (AS : (d : ℕ) (s : BodyStatementTree) (rest : List Token) → IsProperBodyStatement s → length (spell_body_statement s) < size → StopsStatement s (next rest) → Becomes (S d) (spell_body_statement s ++ rest) (counts_body_statement d s) (Done s) rest) where
      abbrev Again : ℕ → BodyStatementTree → List Token → Type 0
      Again d s rest = Becomes (statement_by X S size (suc d)) (spell_body_statement s ++ rest) (counts_body_statement d s) (Done s) rest

      -- the choices of a statement
      choices : (d : ℕ) (s l i r p : Bool) (ts us : List Token) (cs : List Count) (q : Parser BodyStatementTree) → BeginsStatement s l i r p (next ts)
          → Becomes (if s then empty_by d else (if l then block_by S size d else (if i then if_by X S d else (if r then loop_by X S d else (if p then local_by X size d else named_by X size d))))) ts cs q us
          → Becomes (statement_by X S size d) ts cs q us
      choices d true l i r p ts us cs q w h = choice_becomes kind.Semicolon (empty_by d) _ q ts us cs true w.is_semicolon h
      choices d false true i r p ts us cs q w h = choice_becomes kind.Semicolon (empty_by d) _ q ts us cs false w.is_semicolon (choice_becomes kind.LeftBrace (block_by S size d) _ q ts us cs true w.is_left h)
      choices d false false true r p ts us cs q w h = choice_becomes kind.Semicolon (empty_by d) _ q ts us cs false w.is_semicolon (choice_becomes kind.LeftBrace (block_by S size d) _ q ts us cs false w.is_left (choice_becomes kind.If (if_by X S d) _ q ts us cs true w.is_if h))
      choices d false false false true p ts us cs q w h = choice_becomes kind.Semicolon (empty_by d) _ q ts us cs false w.is_semicolon (choice_becomes kind.LeftBrace (block_by S size d) _ q ts us cs false w.is_left (choice_becomes kind.If (if_by X S d) _ q ts us cs false w.is_if (choice_becomes kind.Repeat (loop_by X S d) (local_or_named X size d) q ts us cs true w.is_repeat h)))
      choices d false false false false p ts us cs q w h = choice_becomes kind.Semicolon (empty_by d) _ q ts us cs false w.is_semicolon (choice_becomes kind.LeftBrace (block_by S size d) _ q ts us cs false w.is_left (choice_becomes kind.If (if_by X S d) _ q ts us cs false w.is_if (choice_becomes kind.Repeat (loop_by X S d) (local_or_named X size d) q ts us cs false w.is_repeat (look_becomes _ ts us cs q (test_becomes (begins_plain (next ts)) p (local_by X size d) (named_by X size d) q ts us cs w.is_plain h)))))

      empty_again : (d : ℕ) (p : Place) (rest : List Token) → Again d (BodyStatementEmpty p) rest
      empty_again d p rest =
          let c = counted (suc d) 0 in
          choices (suc d) true false false false false (mark kind.Semicolon p ∷ rest) rest (c ∷ []) (Done (BodyStatementEmpty p)) (begins_empty p)
          (becomes_mark kind.Semicolon c (λ x. Done (BodyStatementEmpty x)) p (Done (BodyStatementEmpty p)) rest rest [] (stays (Done (BodyStatementEmpty p)) rest))

      local_again : (d : ℕ) (plain : PlainTree) (n : Name) (v : Option ValueTree) (p : Place) (rest : List Token) → IsProperPlain plain → OptionIs IsProperValue v → length (spell_body_statement (BodyStatementLocal plain n v p)) ≤ size → Again d (BodyStatementLocal plain n v p) rest
      local_again d plain n v p rest proper properv short =
          let c = counted (suc d) 0 in
          let s = BodyStatementLocal plain n v p in
          let vs = mark kind.Semicolon p ∷ rest in
          let us = spell_option spell_value v ++ vs in
          let cs = counts_option (counts_value (suc d)) v in
          let tail = name_token n ∷ (spell_option spell_value v ++ mark kind.Semicolon p ∷ []) in
          let long = length-append (spell_plain plain) tail in
          let longer = length-append (spell_option spell_value v) (mark kind.Semicolon p ∷ []) in
          same_text (statement_by X S size (suc d)) (Done s) (spell_body_statement s ++ rest) (spell_plain plain ++ name_token n ∷ us) rest (counts_body_statement d s) (counts_body_statement d s)
          (ap (λ (u : List Token). spell_plain plain ++ name_token n ∷ u) (sym (append_assoc (spell_option spell_value v) (mark kind.Semicolon p ∷ []) rest)) ∙ sym (append_assoc (spell_plain plain) tail rest)) refl
          (choices (suc d) false false false false true (spell_plain plain ++ name_token n ∷ us) rest (counts_body_statement d s) (Done s) (begins_local plain (name_token n ∷ us))
          (becomes_both (plain_by size (suc d)) (local_name X size (suc d)) plain (Done s) (spell_plain plain ++ name_token n ∷ us) (name_token n ∷ us) rest (counts_plain (suc d) plain) (c ∷ (cs ++ c ∷ [])) ((plain_rereads size (suc d) plain proper (omega (arith, short, long))).again (name_token n ∷ us) (no_bracket_at_name n))
          (becomes_name c (local_value X size (suc d) plain) n (Done s) us rest (cs ++ c ∷ [])
          (becomes_both (maybe_value_by X size (suc d)) (local_end (suc d) plain n) v (Done s) us vs rest cs (c ∷ []) (maybe_value_again (suc d) v p rest properv (omega (arith, short, long, longer)))
          (becomes_mark kind.Semicolon c (λ x. Done (BodyStatementLocal plain n v x)) p (Done s) rest rest [] (stays (Done s) rest))))))

      assign_again : (d : ℕ) (n : Name) (equal : Place) (source : SourceTree) (p : Place) (rest : List Token) → IsProperSource source → length (spell_body_statement (BodyStatementAssign n equal source p)) ≤ size → Again d (BodyStatementAssign n equal source p) rest
      assign_again d n equal source p rest proper short =
          let c = counted (suc d) 0 in
          let s = BodyStatementAssign n equal source p in
          let v = MakeValue equal source in
          let vs = mark kind.Semicolon p ∷ rest in
          let us = mark kind.Equal equal ∷ (spell_source source ++ vs) in
          let cs = counts_value (suc d) v in
          let long = length-append (spell_source source) (mark kind.Semicolon p ∷ []) in
          same_text (statement_by X S size (suc d)) (Done s) (spell_body_statement s ++ rest) (name_token n ∷ us) rest (counts_body_statement d s) (c ∷ (cs ++ c ∷ []))
          (ap (λ (u : List Token). name_token n ∷ mark kind.Equal equal ∷ u) (sym (append_assoc (spell_source source) (mark kind.Semicolon p ∷ []) rest))) refl
          (choices (suc d) false false false false false (name_token n ∷ us) rest (c ∷ (cs ++ c ∷ [])) (Done s) (begins_name n)
          (becomes_name c (behind_name X size (suc d)) n (Done s) us rest (cs ++ c ∷ [])
          (choice_becomes kind.Equal (assign_by X size (suc d) n) (called_by X size (suc d) n) (Done s) us rest (cs ++ c ∷ []) true (mark_is_so kind.Equal equal)
          (becomes_both (value_by X size (suc d)) (assign_end (suc d) n) v (Done s) us vs rest cs (c ∷ []) (value_again (suc d) v p rest proper (omega (arith, short, long)))
          (becomes_mark kind.Semicolon c (λ x. Done (assigned n v x)) p (Done s) rest rest [] (stays (Done s) rest))))))

      call_again : (d : ℕ) (n : Name) (l : Place) (a : Option ArgumentsTree) (r p : Place) (rest : List Token) → OptionIs IsProperArguments a → length (spell_body_statement (BodyStatementCall (MakeCall n l a r) p)) ≤ size → Again d (BodyStatementCall (MakeCall n l a r) p) rest
      call_again d n l a r p rest proper short =
          let c = counted (suc d) 0 in
          let call = MakeCall n l a r in
          let s = BodyStatementCall call p in
          let vs = mark kind.Semicolon p ∷ rest in
          let us = mark kind.LeftParenthesis l ∷ (spell_option spell_arguments a ++ mark kind.RightParenthesis r ∷ vs) in
          let cs = c ∷ (counts_option (counts_arguments (suc d)) a ++ c ∷ []) in
          let inner = spell_option spell_arguments a ++ mark kind.RightParenthesis r ∷ [] in
          let long = length-append inner (mark kind.Semicolon p ∷ []) in
          let longer = length-append (spell_option spell_arguments a) (mark kind.RightParenthesis r ∷ []) in
          same_text (statement_by X S size (suc d)) (Done s) (spell_body_statement s ++ rest) (name_token n ∷ us) rest (counts_body_statement d s) (c ∷ (cs ++ c ∷ []))
          (ap (λ (u : List Token). name_token n ∷ mark kind.LeftParenthesis l ∷ u) (sym (append_assoc (spell_option spell_arguments a) (mark kind.RightParenthesis r ∷ []) vs) ∙ sym (append_assoc inner (mark kind.Semicolon p ∷ []) rest))) refl
          (choices (suc d) false false false false false (name_token n ∷ us) rest (c ∷ (cs ++ c ∷ [])) (Done s) (begins_name n)
          (becomes_name c (behind_name X size (suc d)) n (Done s) us rest (cs ++ c ∷ [])
          (choice_becomes kind.Equal (assign_by X size (suc d) n) (called_by X size (suc d) n) (Done s) us rest (cs ++ c ∷ []) false (no_equal_at_parenthesis l)
          (becomes_both (call_tail X size (suc d) n) (call_end (suc d)) call (Done s) us vs rest cs (c ∷ []) (tail_again (suc d) n l a r vs proper (omega (arith, short, long, longer)))
          (becomes_mark kind.Semicolon c (λ x. Done (BodyStatementCall call x)) p (Done s) rest rest [] (stays (Done s) rest))))))

      -- a condition and its part, and then the rest
      if_becomes : (d : ℕ) (i : Place) (g : ConditionTree) (t : BodyStatementTree) (r : Parser BodyStatementTree) (us rest : List Token) (cs : List Count) → IsProperCondition g → IsProperBodyStatement t → length (spell_condition g) ≤ size → length (spell_body_statement t) < size → StopsStatement t (next us) → Becomes (behind_then S d i g t) us cs r rest → Becomes (if_by X S d) (mark kind.If i ∷ (spell_condition g ++ (spell_body_statement t ++ us))) (counted d 0 ∷ (counts_condition d g ++ (counts_body_statement d t ++ cs))) r rest
      if_becomes d i g t r us rest cs proper propert short shortt stops h =
          becomes_mark kind.If (counted d 0) (if_condition_by X S d) i r (spell_condition g ++ (spell_body_statement t ++ us)) rest (counts_condition d g ++ (counts_body_statement d t ++ cs))
          (becomes_both (condition_by X d) (then_by S d i) g r (spell_condition g ++ (spell_body_statement t ++ us)) (spell_body_statement t ++ us) rest (counts_condition d g) (counts_body_statement d t ++ cs) (condition_again X size AX d g (spell_body_statement t ++ us) proper short)
          (becomes_both (S d) (behind_then S d i g) t r (spell_body_statement t ++ us) us rest (counts_body_statement d t) cs (AS d t us propert shortt stops) h))

      -- no `else` behind it
      only_then : (d : ℕ) (i : Place) (g : ConditionTree) (t : BodyStatementTree) (rest : List Token) → IsNo kind.Else (next rest) → (b : Bool) → Becomes (maybe_else_by S d i g t b) rest [] (Done (BodyStatementIf i g.0 g.1 g.2 t)) rest
      only_then d i g t rest none true = stays (Done (BodyStatementIf i g.0 g.1 g.2 t)) rest
      only_then d i g t rest none false = choice_becomes kind.Else (else_by S d i g t) (Done (BodyStatementIf i g.0 g.1 g.2 t)) (Done (BodyStatementIf i g.0 g.1 g.2 t)) rest rest [] false none (stays (Done (BodyStatementIf i g.0 g.1 g.2 t)) rest)

      if_again : (d : ℕ) (i l : Place) (e : ExprTree) (r : Place) (t : BodyStatementTree) (rest : List Token) → IsProperExpr e → IsProperBodyStatement t → length (spell_condition (l, e, r)) ≤ size → length (spell_body_statement t) < size → IsNo kind.Else (next rest) → Again d (BodyStatementIf i l e r t) rest
      if_again d i l e r t rest proper propert short shortt none =
          let c = counted (suc d) 0 in
          let g : ConditionTree = (l, e, r) in
          let s = BodyStatementIf i l e r t in
          let ts = mark kind.If i ∷ (spell_condition g ++ (spell_body_statement t ++ rest)) in
          let cs = c ∷ (counts_condition (suc d) g ++ (counts_body_statement (suc d) t ++ [])) in
          same_text (statement_by X S size (suc d)) (Done s) (spell_body_statement s ++ rest) ts rest (counts_body_statement d s) cs
          (ap (λ (u : List Token). mark kind.If i ∷ mark kind.LeftParenthesis l ∷ u) (bracketed (spell_expr e) (mark kind.RightParenthesis r) (spell_body_statement t) rest))
          (ap (λ (u : List Count). c ∷ c ∷ u) (bracketed (counts_expr (suc d) 0 e) c (counts_body_statement (suc d) t) [] ∙ append-nil (counts_expr (suc d) 0 e ++ c ∷ counts_body_statement (suc d) t)))
          (choices (suc d) false false true false false ts rest cs (Done s) (begins_if i)
          (if_becomes (suc d) i g t (Done s) rest rest [] proper propert short shortt (λ opens. none) (only_then (suc d) i g t rest none (body_ends_open t))))

      -- an `else` behind it
      with_else : (d : ℕ) (i : Place) (g : ConditionTree) (t : BodyStatementTree) (x : Place) (o : BodyStatementTree) (rest : List Token) → IsProperBodyStatement o → length (spell_body_statement o) < size → StopsStatement o (next rest) → (b : Bool) → b ≡ false → Becomes (maybe_else_by S d i g t b) (mark kind.Else x ∷ (spell_body_statement o ++ rest)) (counted d 0 ∷ counts_body_statement d o) (Done (BodyStatementIfElse i g.0 g.1 g.2 t x o)) rest
      with_else d i g t x o rest proper short stops true f = absurd cc
      with_else d i g t x o rest proper short stops false f =
          let us = mark kind.Else x ∷ (spell_body_statement o ++ rest) in
          let ds = counts_body_statement d o in
          let s = BodyStatementIfElse i g.0 g.1 g.2 t x o in
          choice_becomes kind.Else (else_by S d i g t) (Done (BodyStatementIf i g.0 g.1 g.2 t)) (Done s) us rest (counted d 0 ∷ ds) true (mark_is_so kind.Else x)
          (becomes_mark kind.Else (counted d 0) (otherwise_by S d i g t) x (Done s) (spell_body_statement o ++ rest) rest ds
          (becomes_followed (S d) (Done o) (λ y. Done (BodyStatementIfElse i g.0 g.1 g.2 t x y)) (spell_body_statement o ++ rest) rest ds (AS d o rest proper short stops)))

      if_else_again : (d : ℕ) (i l : Place) (e : ExprTree) (r : Place) (t : BodyStatementTree) (x : Place) (o : BodyStatementTree) (rest : List Token) → IsProperExpr e → IsProperBodyStatement t → IsProperBodyStatement o → body_ends_open t ≡ false → length (spell_condition (l, e, r)) ≤ size → length (spell_body_statement t) < size → length (spell_body_statement o) < size → StopsStatement o (next rest) → Again d (BodyStatementIfElse i l e r t x o) rest
      if_else_again d i l e r t x o rest proper propert propero closed short shortt shorto stops =
          let c = counted (suc d) 0 in
          let g : ConditionTree = (l, e, r) in
          let s = BodyStatementIfElse i l e r t x o in
          let us = mark kind.Else x ∷ (spell_body_statement o ++ rest) in
          let ds = c ∷ counts_body_statement (suc d) o in
          let ts = mark kind.If i ∷ (spell_condition g ++ (spell_body_statement t ++ us)) in
          let cs = c ∷ (counts_condition (suc d) g ++ (counts_body_statement (suc d) t ++ ds)) in
          let both = spell_body_statement t ++ mark kind.Else x ∷ spell_body_statement o in
          same_text (statement_by X S size (suc d)) (Done s) (spell_body_statement s ++ rest) ts rest (counts_body_statement d s) cs
          (ap (λ (u : List Token). mark kind.If i ∷ mark kind.LeftParenthesis l ∷ ((spell_expr e ++ mark kind.RightParenthesis r ∷ []) ++ u)) (sym (append_assoc (spell_body_statement t) (mark kind.Else x ∷ spell_body_statement o) rest))
          ∙ ap (λ (u : List Token). mark kind.If i ∷ mark kind.LeftParenthesis l ∷ u) (bracketed (spell_expr e) (mark kind.RightParenthesis r) both rest))
          (ap (λ (u : List Count). c ∷ c ∷ u) (append_assoc (counts_expr (suc d) 0 e) (c ∷ []) (counts_body_statement (suc d) t ++ ds)))
          (choices (suc d) false false true false false ts rest cs (Done s) (begins_if i)
          (if_becomes (suc d) i g t (Done s) us rest ds proper propert short shortt (λ opens. absurd (both_ways closed opens)) (with_else (suc d) i g t x o rest propero shorto stops (body_ends_open t) closed)))
        where
          both_ways : body_ends_open t ≡ false → body_ends_open t ≡ true → ⊥
          both_ways a b = cc

      loop_again : (d : ℕ) (r : Place) (t : TimesTree) (s : BodyStatementTree) (rest : List Token) → IsProperTimes t → IsProperBodyStatement s → length (spell_expr t.2) ≤ size → length (spell_body_statement s) < size → StopsStatement s (next rest) → Again d (BodyStatementRepeat r t.0 t.1 t.2 t.3 s) rest
      loop_again d r t s rest proper propers short shorts stops =
          let c = counted (suc d) 0 in
          let whole = BodyStatementRepeat r t.0 t.1 t.2 t.3 s in
          let us = spell_body_statement s ++ rest in
          let ds = counts_body_statement (suc d) s in
          let label = spell_option spell_label t.1 in
          let labels = counts_option (counts_label (suc d)) t.1 in
          let inner = spell_expr t.2 ++ mark kind.RightParenthesis t.3 ∷ spell_body_statement s in
          same_text (statement_by X S size (suc d)) (Done whole) (spell_body_statement whole ++ rest) (mark kind.Repeat r ∷ (spell_times t ++ us)) rest (counts_body_statement d whole) (c ∷ (counts_times (suc d) t ++ ds))
          (ap (λ (u : List Token). mark kind.Repeat r ∷ u) (times_spelled t us ∙ ap (λ (u : List Token). mark kind.LeftParenthesis t.0 ∷ u) (ap (λ (u : List Token). label ++ u) (sym (append_assoc (spell_expr t.2) (mark kind.RightParenthesis t.3 ∷ spell_body_statement s) rest)) ∙ sym (append_assoc label inner rest))))
          (ap (λ (u : List Count). c ∷ c ∷ u) (append_assoc labels (counts_expr (suc d) 0 t.2 ++ c ∷ []) ds ∙ ap (λ (u : List Count). labels ++ u) (append_assoc (counts_expr (suc d) 0 t.2) (c ∷ []) ds)))
          (choices (suc d) false false false true false (mark kind.Repeat r ∷ (spell_times t ++ us)) rest (c ∷ (counts_times (suc d) t ++ ds)) (Done whole) (begins_repeat r)
          (becomes_mark kind.Repeat c (times_statement X S (suc d)) r (Done whole) (spell_times t ++ us) rest (counts_times (suc d) t ++ ds)
          (becomes_both (times_by X (suc d)) (repeated_by S (suc d) r) t (Done whole) (spell_times t ++ us) us rest (counts_times (suc d) t) ds (times_again X size AX TX (suc d) t us proper short)
          (becomes_followed (S (suc d)) (Done s) (λ x. Done (BodyStatementRepeat r t.0 t.1 t.2 t.3 x)) us rest ds (AS (suc d) s rest propers shorts stops)))))

      -- statements up to a brace
      statements_again : (d : ℕ) (ss : List BodyStatementTree) (r : Place) (rest : List Token) → AllByRecursion IsProperBodyStatement ss → length (flat_map spell_body_statement ss) < size → Becomes (statements_by S size d) (flat_map spell_body_statement ss ++ mark kind.RightBrace r ∷ rest) (flat_map (counts_body_statement d) ss) (Done ss) (mark kind.RightBrace r ∷ rest)
      statements_again d ss r rest proper short = go size refl
        where
          go : (n : ℕ) → n ≡ size → Becomes (statements_by S size d) (flat_map spell_body_statement ss ++ mark kind.RightBrace r ∷ rest) (flat_map (counts_body_statement d) ss) (Done ss) (mark kind.RightBrace r ∷ rest)
          go zero e = absurd (omega (arith, e, short))
          go (suc n) e =
              list_again spell_body_statement IsProperBodyStatement (counts_body_statement d) (is_other kind.RightBrace) (S d) n (IsNo kind.Else)
              (λ x more p m g. AS d x more p (omega (arith, m, e)) (λ opens. g))
              (λ x more p. (let w = statement_starts x more in record { found = ap (λ (b : Bool). if b then false else true) w.0; good = w.1 }))
              some_statement ss size (mark kind.RightBrace r ∷ rest) proper short (omega (arith, short, e)) (brace_ends r) (brace_is_no_else r)

      block_again : (d : ℕ) (l : Place) (ss : List BodyStatementTree) (r : Place) (rest : List Token) → AreProperBodyStatement (statement_row ss) → length (spell_body_statement (BodyStatementBlock l (statement_row ss) r)) ≤ size → Again d (BodyStatementBlock l (statement_row ss) r) rest
      block_again d l ss r rest proper short =
          let c = counted (suc d) 0 in
          let s = BodyStatementBlock l (statement_row ss) r in
          let row = spell_body_statement_row (statement_row ss) in
          let vs = mark kind.RightBrace r ∷ rest in
          let us = flat_map spell_body_statement ss ++ vs in
          let ds = flat_map (counts_body_statement (suc d)) ss in
          let long = length-append row (mark kind.RightBrace r ∷ []) in
          same_text (statement_by X S size (suc d)) (Done s) (spell_body_statement s ++ rest) (mark kind.LeftBrace l ∷ us) rest (counts_body_statement d s) (c ∷ (ds ++ c ∷ []))
          (ap (λ (u : List Token). mark kind.LeftBrace l ∷ u) (ap (λ (u : List Token). u ++ vs) (sym (row_spelled ss)) ∙ sym (append_assoc row (mark kind.RightBrace r ∷ []) rest)))
          (ap (λ (u : List Count). c ∷ (u ++ c ∷ [])) (sym (row_counted (suc d) ss)))
          (choices (suc d) false true false false false (mark kind.LeftBrace l ∷ us) rest (c ∷ (ds ++ c ∷ [])) (Done s) (begins_block l)
          (becomes_mark kind.LeftBrace c (block_statements S size (suc d)) l (Done s) us rest (ds ++ c ∷ [])
          (becomes_both (statements_by S size (suc d)) (block_close (suc d) l) ss (Done s) us vs rest ds (c ∷ []) (statements_again (suc d) ss r rest (all_proper ss proper) (omega (arith, short, long, ap length (row_spelled ss))))
          (becomes_mark kind.RightBrace c (λ x. Done (BodyStatementBlock l (statement_row ss) x)) r (Done s) rest rest [] (stays (Done s) rest)))))

      pub statement_again : (d : ℕ) (s : BodyStatementTree) (rest : List Token) → IsProperBodyStatement s → length (spell_body_statement s) ≤ size → StopsStatement s (next rest) → Again d s rest
      statement_again d (BodyStatementEmpty p) rest proper short stops = empty_again d p rest
      statement_again d (BodyStatementLocal plain n v p) rest proper short stops = local_again d plain n v p rest proper.0 proper.1 short
      statement_again d (BodyStatementAssign n equal source p) rest proper short stops = assign_again d n equal source p rest proper short
      statement_again d (BodyStatementCall (MakeCall n l a r) p) rest proper short stops = call_again d n l a r p rest proper short
      statement_again d (BodyStatementBlock l ss r) rest proper short stops =
          subst (λ (row : BodyStatementRow). AreProperBodyStatement row → length (spell_body_statement (BodyStatementBlock l row r)) ≤ size → Again d (BodyStatementBlock l row r) rest) (row_is ss)
          (block_again d l (list_of ss) r rest) proper short
      statement_again d (BodyStatementIf i l e r t) rest proper short stops =
          let long = length-append (spell_expr e) (mark kind.RightParenthesis r ∷ spell_body_statement t) in
          if_again d i l e r t rest proper.0 proper.1 (omega (arith, short, long, length-append (spell_expr e) (mark kind.RightParenthesis r ∷ []))) (omega (arith, short, long)) (stops refl)
      statement_again d (BodyStatementIfElse i l e r t x o) rest proper short stops =
          let both = spell_body_statement t ++ mark kind.Else x ∷ spell_body_statement o in
          let long = length-append (spell_expr e) (mark kind.RightParenthesis r ∷ both) in
          let longer = length-append (spell_body_statement t) (mark kind.Else x ∷ spell_body_statement o) in
          if_else_again d i l e r t x o rest proper.0 proper.1 proper.2 proper.3 (omega (arith, short, long, longer, length-append (spell_expr e) (mark kind.RightParenthesis r ∷ []))) (omega (arith, short, long, longer)) (omega (arith, short, long, longer)) stops
      statement_again d (BodyStatementRepeat r l i e c s) rest proper short stops =
          let inner = spell_expr e ++ mark kind.RightParenthesis c ∷ spell_body_statement s in
          let long = length-append (spell_option spell_label i) inner in
          let longer = length-append (spell_expr e) (mark kind.RightParenthesis c ∷ spell_body_statement s) in
          loop_again d r (l, i, e, c) s rest proper.0 proper.1 (omega (arith, short, long, longer)) (omega (arith, short, long, longer)) stops

-- an outermost expression is read again
outermost_again : (size d : ℕ) (e : ExprTree) (rest : List Token) → IsProperExpr e → length (spell_expr e) ≤ size → Separates 0 (next rest) → Becomes (outermost_at (suc size) d) (spell_expr e ++ rest) (counts_expr d 0 e) (Done e) rest
outermost_again size d e rest proper short w = expr_again (suc size) d 0 e rest proper (omega (arith, short)) (separated 0 (next rest) w e proper 0 (omega arith) (omega arith))

pub nested_again : (size d : ℕ) (s : BodyStatementTree) (rest : List Token) → IsProperBodyStatement s → length (spell_body_statement s) < size → StopsStatement s (next rest) → Becomes (statement_at size d) (spell_body_statement s ++ rest) (counts_body_statement d s) (Done s) rest
unfolding statement_at
nested_again zero d s rest proper short stops = absurd (omega (arith, short))
nested_again (suc size) d s rest proper short stops =
    statement_again (outermost_at (suc size)) size (outermost_again size) (λ x t e. expr_takes size x t e) (statement_at size) (nested_again size) d s rest proper (omega (arith, short)) stops

pub body_again : (size d : ℕ) (b : BodyTree) (rest : List Token) → IsProperBody b → length (spell_body b) < size → Becomes (body_at size d) (spell_body b ++ rest) (counts_body d b) (Done b) rest
body_again size d (MakeBody e b l ss r) rest proper short =
    let c = counted d 0 in
    let whole = MakeBody e b l ss r in
    let S = statement_at size in
    let vs = mark kind.RightBrace r ∷ rest in
    let us = flat_map spell_body_statement ss ++ vs in
    let ds = flat_map (counts_body_statement d) ss in
    let long = length-append (flat_map spell_body_statement ss) (mark kind.RightBrace r ∷ []) in
    same_text (body_at size d) (Done whole) (spell_body whole ++ rest) (mark kind.Exec e ∷ mark kind.Body b ∷ mark kind.LeftBrace l ∷ us) rest (counts_body d whole) (counts_body d whole)
    (ap (λ (u : List Token). mark kind.Exec e ∷ mark kind.Body b ∷ mark kind.LeftBrace l ∷ u) (sym (append_assoc (flat_map spell_body_statement ss) (mark kind.RightBrace r ∷ []) rest))) refl
    (becomes_mark kind.Exec c (body_word S size d) e (Done whole) (mark kind.Body b ∷ mark kind.LeftBrace l ∷ us) rest (c ∷ c ∷ (ds ++ c ∷ []))
    (becomes_mark kind.Body c (body_open S size d e) b (Done whole) (mark kind.LeftBrace l ∷ us) rest (c ∷ (ds ++ c ∷ []))
    (becomes_mark kind.LeftBrace c (body_statements S size d e b) l (Done whole) us rest (ds ++ c ∷ [])
    (becomes_both (statements_by S size d) (body_close d e b l) ss (Done whole) us vs rest ds (c ∷ [])
    (statements_again (outermost_at (suc size)) size (outermost_again size) (λ x t f. expr_takes size x t f) S (nested_again size) d ss r rest proper (omega (arith, short, long)))
    (becomes_mark kind.RightBrace c (λ x. Done (MakeBody e b l ss x)) r (Done whole) rest rest [] (stays (Done whole) rest))))))
