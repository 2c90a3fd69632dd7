-- The operator table reads what it spells again.
use Rattle.std.proofs.Common.{◌≡◌, ℕ, zero, suc, ◌+◌, ◌-◌, ◌≤◌, ◌<◌, Bool, true, List, [], ◌∷◌, ◌++◌, length, Some, Option, None, refl, sym, ap, subst, ◌∙◌, ◌⊎◌, inl, inr, arith, append-nil, append_assoc, length-append}
use Rattle.std.proofs.lemmas.Bool.{cases_lt, eq-eqb}
use Rattle.pst_base.specs.declared.position.Place.{Place}
use Rattle.pst_token.specs.declared.kind.Kind.TheVariants as kind
use Rattle.pst_token.specs.declared.token.Token.{Token}
use Rattle.pst_ast.specs.declared.leaf.Operator.{Operator}
use Rattle.pst_ast.specs.declared.leaf.Operator.TheVariants as the_operator
use Rattle.pst_ast.specs.Marks.{mark, operator_kind}
use Rattle.pst_ast.specs.Limits.{Count, counted}
use Rattle.pst_ast.specs.ExpressionTree.{ExprTree, ExprUnary, ExprBinary, ExprIn, UnaryTree, RangesTree}
use Rattle.pst_ast.specs.ExpressionSpelling.{spell_expr, spell_unary, spell_ranges}
use Rattle.pst_ast.specs.ExpressionProper.{level, level_of, IsProperExpr, IsProperUnary, IsProperRanges}
use Rattle.pst_ast.specs.ExpressionOperators.{operators_expr, operators_ranges}
use Rattle.pst_ast.specs.ExpressionLimits.{counts_expr, counts_unary, counts_ranges}
use Rattle.pst_reading.specs.Parser.{Parser, Done, turn, followed_by, next, mark_by, repeat_by}
use Rattle.pst_reading.proofs.Becoming.{Becomes, stays, becomes_on, becomes_followed, becomes_both}
use Rattle.pst_reading.proofs.Marks.{mark_becomes, look_becomes, take_becomes}
use Rattle.pst_reading.proofs.Tokens.{mark_is_so}
use Rattle.pst_parse_operator.specs.Operators.{operator_of, is_in}
use Rattle.pst_parse_operator.specs.Reading.{Parsers, binary_by, in_by, operation_by, operation_of, level_by}
use Rattle.pst_parse_operator.proofs.Tokens.{operator_is_so}
use Rattle.pst_parse_operator.proofs.Stops.{Stops, StopsUnary, IsNoOperator, stops_above, own_stops, separated, operator_separates, in_separates, no_operator_in}

pub level_under : (o : Operator) → level_of o < 10
level_under the_operator.Multiply = omega arith
level_under the_operator.Divide = omega arith
level_under the_operator.Remainder = omega arith
level_under the_operator.Add = omega arith
level_under the_operator.Subtract = omega arith
level_under the_operator.ShiftLeft = omega arith
level_under the_operator.ShiftRight = omega arith
level_under the_operator.Less = omega arith
level_under the_operator.LessEqual = omega arith
level_under the_operator.Greater = omega arith
level_under the_operator.GreaterEqual = omega arith
level_under the_operator.Equal = omega arith
level_under the_operator.NotEqual = omega arith
level_under the_operator.BitAnd = omega arith
level_under the_operator.BitXor = omega arith
level_under the_operator.BitOr = omega arith
level_under the_operator.And = omega arith
level_under the_operator.Or = omega arith

in_found : (place : Place) (l : ℕ) → l ≡ 6 → is_in l (Some (mark kind.In place)) ≡ true
unfolding is_in
in_found place l e = rw (eq-eqb l 6 e, mark_is_so kind.In place) refl

module _ (unary : Parsers UnaryTree) (ranges : Parsers RangesTree) (turns depth : ℕ) (U : (before : ℕ) (u : UnaryTree) (rest : List Token) → IsProperUnary u → length (spell_unary u) ≤ turns → StopsUnary u (next rest) → Becomes (unary depth before) (spell_unary u ++ rest) (counts_unary depth before u) (Done u) rest) (R : (before : ℕ) (rs : RangesTree) (place : Place) (rest : List Token) → IsProperRanges rs → length (spell_ranges rs) < turns → Becomes (ranges depth before) (spell_ranges rs ++ mark kind.RightBracket place ∷ rest) (counts_ranges depth before rs) (Done rs) (mark kind.RightBracket place ∷ rest)) (some_unary : (u : UnaryTree) → 1 ≤ length (spell_unary u)) where
  some_expr : (e : ExprTree) → 1 ≤ length (spell_expr e)
  some_expr (ExprUnary u) = some_unary u
  some_expr (ExprBinary l o p r) = omega (arith, length-append (spell_expr l) (mark (operator_kind o) p ∷ spell_expr r))
  some_expr (ExprIn l p b rs c) = omega (arith, length-append (spell_expr l) (mark kind.In p ∷ mark kind.LeftBracket b ∷ (spell_ranges rs ++ mark kind.RightBracket c ∷ [])))

  -- the table from a level on, before operators of the expression
  module _ (above k before : ℕ) (rank : above + suc k ≡ 10) (tighter : (b : ℕ) (e : ExprTree) (rest : List Token) → IsProperExpr e → suc k ≤ level e → length (spell_expr e) ≤ turns → Stops (suc k) e (next rest) → Becomes (level_by unary ranges turns above depth b) (spell_expr e ++ rest) (counts_expr depth b e) (Done e) rest) where
    abbrev step : ExprTree → Option Token → Option (Parser ExprTree)
    step = operation_of (level_by unary ranges turns above) ranges k depth before

    abbrev whole : Parser ExprTree
    whole = followed_by (level_by unary ranges turns above depth before) (repeat_by step turns)

    -- the parser has come behind the expression, and has some turns left
    record Reached (e : ExprTree) (rest : List Token) : Type 0 where
      left : ℕ
      enough : turns < left + length (spell_expr e)
      here : Becomes whole (spell_expr e ++ rest) (counts_expr depth before e) (repeat_by step left e) rest

    tight : (e : ExprTree) (rest : List Token) → IsProperExpr e → suc k ≤ level e → length (spell_expr e) ≤ turns → Stops (suc k) e (next rest) → Reached e rest
    tight e rest proper le short s = record {
      left = turns;
      enough = omega (arith, some_expr e);
      here = becomes_followed (level_by unary ranges turns above depth before) (Done e) (repeat_by step turns) (spell_expr e ++ rest) rest (counts_expr depth before e) (tighter before e rest proper le short s);
    }

    -- one turn of the loop
    turn_becomes : (left : ℕ) (e f : ExprTree) (part : Parser ExprTree) (ts rest : List Token) (cs : List Count) → step e (next ts) ≡ Some part → Becomes part ts cs (Done f) rest → Becomes (repeat_by step (suc left) e) ts cs (repeat_by step left f) rest
    turn_becomes left e f part ts rest cs is h =
        look_becomes (λ next. turn (step e next) e (repeat_by step left)) ts rest cs (repeat_by step left f)
        (subst (λ (o : Option (Parser ExprTree)). Becomes (turn o e (repeat_by step left)) ts cs (repeat_by step left f) rest) (sym is)
        (becomes_followed part (Done f) (repeat_by step left) ts rest cs h))

    -- a turn behind what was reached
    further : (e f : ExprTree) (part : Parser ExprTree) (ts rest : List Token) (text : List Token) (cs : List Count) → spell_expr f ≡ spell_expr e ++ text → counts_expr depth before f ≡ counts_expr depth before e ++ cs → ts ≡ text ++ rest → 1 ≤ length text → length (spell_expr f) ≤ turns → step e (next ts) ≡ Some part → Becomes part ts cs (Done f) rest → Reached e ts → Reached f rest
    further e f part ts rest text cs spelled counts_are parts some short is h r = go r.left r.enough r.here
      where
        longer : length (spell_expr f) ≡ length (spell_expr e) + length text
        longer = ap length spelled ∙ length-append (spell_expr e) text

        go : (m : ℕ) → turns < m + length (spell_expr e) → Becomes whole (spell_expr e ++ ts) (counts_expr depth before e) (repeat_by step m e) ts → Reached f rest
        go zero enough b = absurd (omega (arith, enough, longer, some, short))
        go (suc m) enough b = record {
          left = m;
          enough = omega (arith, enough, longer, some);
          here = rw (spelled, counts_are) (rw append_assoc (subst (λ (u : List Token). Becomes whole (spell_expr e ++ u) (counts_expr depth before e ++ cs) (repeat_by step m f) rest) parts
              (becomes_on whole (repeat_by step (suc m) e) (repeat_by step m f) (spell_expr e ++ ts) ts rest (counts_expr depth before e) cs b (turn_becomes m e f part ts rest cs is h))));
        }

    -- the next token begins a turn
    operator_begins : (l : ExprTree) (o : Operator) (p : Place) → level_of o ≡ k → step l (Some (mark (operator_kind o) p)) ≡ Some (binary_by (level_by unary ranges turns above) depth before l o)
    operator_begins l o p e =
        let found : operator_of k (Some (mark (operator_kind o) p)) ≡ Some o = subst (λ (i : ℕ). operator_of i (Some (mark (operator_kind o) p)) ≡ Some o) e (operator_is_so o p) in
        ap (λ (x : Option Operator). operation_by (level_by unary ranges turns above) ranges depth before l x (is_in k (Some (mark (operator_kind o) p)))) found

    in_begins : (l : ExprTree) (p : Place) → k ≡ 6 → step l (Some (mark kind.In p)) ≡ Some (in_by ranges depth before l)
    in_begins l p e =
        ap (λ (x : Option Operator). operation_by (level_by unary ranges turns above) ranges depth before l x (is_in k (Some (mark kind.In p)))) (no_operator_in k p)
        ∙ ap (λ (x : Bool). operation_by (level_by unary ranges turns above) ranges depth before l None x) (in_found p k e)

    right_becomes : (l r : ExprTree) (o : Operator) (p : Place) (rest : List Token) → IsProperExpr r → suc k ≤ level r → length (spell_expr r) ≤ turns → Stops (suc k) r (next rest) → Becomes (binary_by (level_by unary ranges turns above) depth before l o) (mark (operator_kind o) p ∷ (spell_expr r ++ rest)) (counted depth (suc (before + operators_expr l)) ∷ counts_expr depth (suc (before + operators_expr l)) r) (Done (ExprBinary l o p r)) rest
    right_becomes l r o p rest proper le short s =
        let b = suc (before + operators_expr l) in
        take_becomes (counted depth b) (λ token. followed_by (level_by unary ranges turns above depth b) (λ right. Done (ExprBinary l o token.place right))) (mark (operator_kind o) p) (spell_expr r ++ rest) rest (counts_expr depth b r) (Done (ExprBinary l o p r))
        (becomes_followed (level_by unary ranges turns above depth b) (Done r) (λ right. Done (ExprBinary l o p right)) (spell_expr r ++ rest) rest (counts_expr depth b r) (tighter b r rest proper le short s))

    ranges_become : (l : ExprTree) (p c : Place) (rs : RangesTree) (e : Place) (rest : List Token) → IsProperRanges rs → length (spell_ranges rs) < turns → Becomes (in_by ranges depth before l) (mark kind.In p ∷ mark kind.LeftBracket c ∷ (spell_ranges rs ++ mark kind.RightBracket e ∷ rest)) (counted depth (suc (before + operators_expr l)) ∷ counted depth (suc (before + operators_expr l)) ∷ (counts_ranges depth (suc (before + operators_expr l)) rs ++ counted depth (suc (before + operators_expr l) + operators_ranges rs) ∷ [])) (Done (ExprIn l p c rs e)) rest
    ranges_become l p c rs e rest proper short =
        let b = suc (before + operators_expr l) in
        let d = counted depth b in
        let d' = counted depth (b + operators_ranges rs) in
        becomes_both (mark_by kind.In d) _ p _ _ (mark kind.LeftBracket c ∷ (spell_ranges rs ++ mark kind.RightBracket e ∷ rest)) rest (d ∷ []) _ (mark_becomes kind.In d p _)
        (becomes_both (mark_by kind.LeftBracket d) _ c _ _ (spell_ranges rs ++ mark kind.RightBracket e ∷ rest) rest (d ∷ []) _ (mark_becomes kind.LeftBracket d c _)
        (becomes_both (ranges depth b) _ rs _ _ (mark kind.RightBracket e ∷ rest) rest (counts_ranges depth b rs) (d' ∷ []) (R b rs e rest proper short)
        (becomes_both (mark_by kind.RightBracket d') (λ r. Done (ExprIn l p c rs r)) e _ _ rest rest (d' ∷ []) [] (mark_becomes kind.RightBracket d' e rest) (stays (Done (ExprIn l p c rs e)) rest))))

    abbrev Reaches : ExprTree → Type 0
    Reaches e = (rest : List Token) → IsProperExpr e → k ≤ level e → length (spell_expr e) ≤ turns → Stops (suc k) e (next rest) → Reached e rest

    operator_case : (l : ExprTree) (o : Operator) (p : Place) (r : ExprTree) → Reaches l → Reaches (ExprBinary l o p r)
    operator_case l o p r before_it rest proper le short s = go (cases_lt k (level_of o))
      where
        long : length (spell_expr (ExprBinary l o p r)) ≡ length (spell_expr l) + suc (length (spell_expr r))
        long = length-append (spell_expr l) (mark (operator_kind o) p ∷ spell_expr r)

        go : (k < level_of o) ⊎ (level_of o ≤ k) → Reached (ExprBinary l o p r) rest
        go (inl lt) = tight (ExprBinary l o p r) rest proper (omega (arith, lt)) short s
        go (inr ge) =
            let own : level_of o ≡ k = omega (arith, le, ge) in
            further l (ExprBinary l o p r) (binary_by (level_by unary ranges turns above) depth before l o) (mark (operator_kind o) p ∷ (spell_expr r ++ rest)) rest (mark (operator_kind o) p ∷ spell_expr r) _ refl refl refl (omega arith) short
            (operator_begins l o p own)
            (right_becomes l r o p rest proper.1 (omega (arith, proper.3, own)) (omega (arith, short, long)) (stops_above r (suc (level_of o)) (suc k) (next rest) (omega (arith, own)) s.0))
            (before_it (mark (operator_kind o) p ∷ (spell_expr r ++ rest)) proper.0 (omega (arith, proper.2, own)) (omega (arith, short, long)) (separated (suc (level_of o)) (Some (mark (operator_kind o) p)) (operator_separates o p) l proper.0 (suc k) (omega (arith, proper.2)) (omega (arith, own))))

    in_case : (l : ExprTree) (p c : Place) (rs : RangesTree) (e : Place) → Reaches l → Reaches (ExprIn l p c rs e)
    in_case l p c rs e before_it rest proper le short s = go (cases_lt k 6)
      where
        long : length (spell_expr (ExprIn l p c rs e)) ≡ length (spell_expr l) + suc (suc (length (spell_ranges rs) + 1))
        long = length-append (spell_expr l) (mark kind.In p ∷ mark kind.LeftBracket c ∷ (spell_ranges rs ++ mark kind.RightBracket e ∷ [])) ∙ ap (λ (n : ℕ). length (spell_expr l) + suc (suc n)) (length-append (spell_ranges rs) (mark kind.RightBracket e ∷ []))

        go : (k < 6) ⊎ (6 ≤ k) → Reached (ExprIn l p c rs e) rest
        go (inl lt) = tight (ExprIn l p c rs e) rest proper (omega (arith, lt)) short s
        go (inr ge) =
            let own : k ≡ 6 = omega (arith, le, ge) in
            further l (ExprIn l p c rs e) (in_by ranges depth before l) (mark kind.In p ∷ mark kind.LeftBracket c ∷ (spell_ranges rs ++ mark kind.RightBracket e ∷ rest)) rest (mark kind.In p ∷ mark kind.LeftBracket c ∷ (spell_ranges rs ++ mark kind.RightBracket e ∷ [])) _ refl refl
            (ap (λ (u : List Token). mark kind.In p ∷ mark kind.LeftBracket c ∷ u) (sym (append_assoc (spell_ranges rs) (mark kind.RightBracket e ∷ []) rest))) (omega arith) short
            (in_begins l p own)
            (ranges_become l p c rs e rest proper.1 (omega (arith, short, long)))
            (before_it (mark kind.In p ∷ mark kind.LeftBracket c ∷ (spell_ranges rs ++ mark kind.RightBracket e ∷ rest)) proper.0 (omega (arith, proper.2, own)) (omega (arith, short, long)) (separated 7 (Some (mark kind.In p)) (in_separates p) l proper.0 (suc k) (omega (arith, proper.2)) (omega (arith, own))))

    reach : (e : ExprTree) → Reaches e
    reach (ExprUnary u) = λ rest proper le short s. tight (ExprUnary u) rest proper (omega (arith, rank)) short s
    reach (ExprBinary l o p r) = operator_case l o p r (reach l)
    reach (ExprIn l p c rs e) = in_case l p c rs e (reach l)

    -- behind it the loop ends
    ends : (e : ExprTree) (rest : List Token) → IsNoOperator k (next rest) → (m : ℕ) → 1 ≤ m → Becomes (repeat_by step m e) rest [] (Done e) rest
    ends e rest none zero le = absurd (omega (arith, le))
    ends e rest none (suc m) le =
        let nothing : step e (next rest) ≡ None = ap (λ (x : Option Operator). operation_by (level_by unary ranges turns above) ranges depth before e x (is_in k (next rest))) none.0 ∙ ap (λ (x : Bool). operation_by (level_by unary ranges turns above) ranges depth before e None x) none.1 in
        look_becomes (λ next. turn (step e next) e (repeat_by step m)) rest rest [] (Done e)
        (subst (λ (o : Option (Parser ExprTree)). Becomes (turn o e (repeat_by step m)) rest [] (Done e) rest) (sym nothing) (stays (Done e) rest))

    again_here : (e : ExprTree) (rest : List Token) → IsProperExpr e → k ≤ level e → length (spell_expr e) ≤ turns → Stops k e (next rest) → Becomes whole (spell_expr e ++ rest) (counts_expr depth before e) (Done e) rest
    again_here e rest proper le short s =
        let r = reach e rest proper le short (stops_above e k (suc k) (next rest) (omega arith) s) in
        let h = becomes_on whole (repeat_by step r.left e) (Done e) (spell_expr e ++ rest) rest rest (counts_expr depth before e) [] r.here (ends e rest (own_stops e k (next rest) le (omega (arith, rank)) s) r.left (omega (arith, r.enough, short))) in
        subst (λ (cs : List Count). Becomes whole (spell_expr e ++ rest) cs (Done e) rest) (append-nil (counts_expr depth before e)) h

  pub level_again : (above k : ℕ) → above + k ≡ 10 → (before : ℕ) (e : ExprTree) (rest : List Token) → IsProperExpr e → k ≤ level e → length (spell_expr e) ≤ turns → Stops k e (next rest) → Becomes (level_by unary ranges turns above depth before) (spell_expr e ++ rest) (counts_expr depth before e) (Done e) rest
  level_again zero k rank before (ExprUnary u) rest proper le short s = becomes_followed (unary depth before) (Done u) (λ u. Done (ExprUnary u)) (spell_unary u ++ rest) rest (counts_unary depth before u) (U before u rest proper short s.0)
  level_again zero k rank before (ExprBinary l o p r) rest proper le short s = absurd (omega (arith, le, rank, level_under o))
  level_again zero k rank before (ExprIn l p c rs e) rest proper le short s = absurd (omega (arith, le, rank))
  level_again (suc above) k rank before e rest proper le short s =
      let own : 9 - above ≡ k = omega (arith, rank) in
      let higher : above + suc k ≡ 10 = omega (arith, rank) in
      subst (λ (l : ℕ). Becomes (followed_by (level_by unary ranges turns above depth before) (repeat_by (operation_of (level_by unary ranges turns above) ranges l depth before) turns)) (spell_expr e ++ rest) (counts_expr depth before e) (Done e) rest) (sym own)
      (again_here above k before higher (λ b. level_again above (suc k) higher b) e rest proper le short s)
