-- What an operator and the part on its right give, and the loop over operators of one level.
use Rattle.std.proofs.Common.{slice_index_or, ◌⊎◌, inl, inr, [], ◌∷◌, Bool, if◌then◌else◌, length-drop, ◌≡◌, ℕ, suc, ◌+◌, ◌-◌, ◌≤◌, List, length, drop, refl, ap, subst, sym, ◌∙◌, arith, true, false, Some, None, Option, is_some, Result, Ok, Err}
use Rattle.pst_token.specs.declared.token.Token.{Token}
use Rattle.pst_ast.specs.declared.fault.SyntaxFault.{SyntaxFault}
use Rattle.pst_ast.specs.declared.fault.SyntaxFault.TheVariants as the_fault
use Rattle.pst_ast.specs.declared.leaf.Operator.{Operator}
use Rattle.pst_ast.specs.declared.expression.ExprNode.{ExprNode}
use Rattle.pst_ast.specs.ExpressionView.{view_expr}
use Rattle.pst_ast.specs.ExpressionTree.{ExprTree, ExprBinary, RangesTree}
use Rattle.pst_ast.specs.ExpressionOperators.{operators_expr}
use Rattle.pst_ast.specs.Limits.{counted, is_over}
use Rattle.pst_reading.specs.Parser.{Parser, repeat_by, and_then, Done, Outcome, Took, Refused, TooDeep, run, next, followed_by}
use Rattle.pst_reading.specs.Gives.{SettlesFrom, FailsFrom, Gives}
use Rattle.pst_reading.proofs.Giving.{settles_both, fails_then, later, later_fault}
use Rattle.pst_reading.proofs.Looping.{loop_begins, loop_turns, loop_fails, loop_ends}
use Rattle.pst_reading.proofs.Becoming.{run_followed}
use Rattle.pst_reading.proofs.Whole.{drop_more}
use Rattle.pst_parse_operator.specs.Operators.{operator_of, is_in}
use Rattle.pst_parse_operator.specs.Reading.{Parsers, binary_by, in_by, operation_by, operation_of, level_by, ranges_by, expr_at}
use Rattle.pst_parse_operator.specs.Families.{part_of, operation_family, in_family, level_family, unary_within}
use Rattle.pst_parse_operator.proofs.Loops.{LevelLoop, level_steps}
use Rattle.pst_parse_operator.proofs.Rules.{slice_at}
use Rattle.pst_parse_operator.proofs.Tokens.{no_operator}

-- ---- an operator between parts, and the part on its right

some_next : (level : ℕ) (ts : List Token) (o : Operator) → operator_of level (next ts) ≡ Some o → (t : Token) × (us : List Token) × (ts ≡ t ∷ us)
some_next level [] o e = absurd (some_none (no_operator level))
  where
    some_none : operator_of level None ≡ None → ⊥
    some_none x = cc
some_next level (t ∷ us) o e = (t, us, refl)

pub operator_inside : (level : ℕ) (tokens : List Token) (at : ℕ) (o : Operator) → operator_of level (next (drop at tokens)) ≡ Some o → at + 1 ≤ length tokens
operator_inside level tokens at o e = let s = some_next level (drop at tokens) o e in omega (arith, ap length s.2, length-drop at tokens)

module _ (tokens : List Token) (at a d b more : ℕ) (left : ExprTree) (one_more : more ≡ suc (b + operators_expr left)) (o : Operator) (found : operator_of (9 - a) (next (drop at tokens)) ≡ Some o) where
  abbrev tighter : ℕ → Parsers ExprTree
  tighter m = level_by (unary_within m) (ranges_by (expr_at m) m) m a

  abbrev behind : Token → ExprTree → Parser ExprTree
  behind t right = Done (ExprBinary left o t.place right)

  operation_look : (x : Outcome ExprTree) → SettlesFrom (λ m n. binary_by (tighter m) d b left o) tokens at at x → SettlesFrom (operation_family a d b left (next (drop at tokens))) tokens at at x
  operation_look x h m n p q = subst (λ (y : Option Operator). run is_over (part_of (operation_by (tighter m) (ranges_by (expr_at m) m) d b left y (is_in (9 - a) (next (drop at tokens))))) (drop at tokens) ≡ x) (sym found) (h m n p q)

  first_token : (t : Token) × (us : List Token) × (drop at tokens ≡ t ∷ us)
  first_token = some_next (9 - a) (drop at tokens) o found

  pub operation_deep : is_over (counted d more) ≡ true → FailsFrom (operation_family a d b left (next (drop at tokens))) tokens at at (the_fault.Deep at)
  operation_deep over =
      let s = first_token in
      let h : SettlesFrom (λ m n. binary_by (tighter m) d b left o) tokens at at (TooDeep (drop at tokens)) = λ m n x y. subst (λ (u : List Token). run is_over (binary_by (tighter m) d b left o) u ≡ TooDeep u) (sym s.2) (ap (λ (q : Bool). if q then TooDeep (s.0 ∷ s.1) else run is_over (followed_by (tighter m d (suc (b + operators_expr left))) (behind s.0)) s.1) (subst (λ (j : ℕ). is_over (counted d j) ≡ true) one_more over)) in
      (operation_look (TooDeep (drop at tokens)) h, omega arith, omega (arith, operator_inside (9 - a) tokens at o found))

  module _ (free : is_over (counted d more) ≡ false) where
    behind_first : drop (at + 1) tokens ≡ first_token.1
    behind_first = ap (λ (k : ℕ). drop k tokens) (let e : at + 1 ≡ suc at = omega arith in e) ∙ drop_more at tokens first_token.0 first_token.1 first_token.2

    operation_runs : (x : Outcome ExprTree) → SettlesFrom (level_family a d more) tokens (at + 1) (at + 1) x → SettlesFrom (operation_family a d b left (next (drop at tokens))) tokens at at (and_then x (λ r rest. Took (ExprBinary left o first_token.0.place r) rest))
    operation_runs x h = operation_look (and_then x (λ r rest. Took (ExprBinary left o first_token.0.place r) rest)) (λ m n p q. go m n p q)
      where
        go : (m n : ℕ) → length tokens ≤ m + at → length tokens ≤ n + at → run is_over (binary_by (tighter m) d b left o) (drop at tokens) ≡ and_then x (λ r rest. Took (ExprBinary left o first_token.0.place r) rest)
        go m n p q =
            let inner : run is_over (tighter m d more) (drop (at + 1) tokens) ≡ x = h m n (omega (arith, p)) (omega (arith, q)) in
            let inner_run : run is_over (tighter m d (suc (b + operators_expr left))) first_token.1 ≡ x = subst (λ (j : ℕ). run is_over (tighter m d j) first_token.1 ≡ x) one_more (subst (λ (v : List Token). run is_over (tighter m d more) v ≡ x) behind_first inner) in
            let part : run is_over (followed_by (tighter m d (suc (b + operators_expr left))) (behind first_token.0)) first_token.1 ≡ and_then x (λ r rest. Took (ExprBinary left o first_token.0.place r) rest) = run_followed is_over (tighter m d (suc (b + operators_expr left))) (behind first_token.0) first_token.1 ∙ ap (λ (y : Outcome ExprTree). and_then y (λ r rest. Took (ExprBinary left o first_token.0.place r) rest)) inner_run in
            subst (λ (v : List Token). run is_over (binary_by (tighter m) d b left o) v ≡ and_then x (λ r rest. Took (ExprBinary left o first_token.0.place r) rest)) (sym first_token.2)
            (ap (λ (c : Bool). if c then TooDeep (first_token.0 ∷ first_token.1) else run is_over (followed_by (tighter m d (suc (b + operators_expr left))) (behind first_token.0)) first_token.1) (subst (λ (j : ℕ). is_over (counted d j) ≡ false) one_more free) ∙ part)

    pub operation_fails : (e : SyntaxFault) → FailsFrom (level_family a d more) tokens (at + 1) (at + 1) e → FailsFrom (operation_family a d b left (next (drop at tokens))) tokens at at e
    operation_fails (the_fault.At k) g = (operation_runs (Refused (drop k tokens)) g.0, omega (arith, g.1), g.2)
    operation_fails (the_fault.Deep k) g = (operation_runs (TooDeep (drop k tokens)) g.0, omega (arith, g.1), g.2)
    operation_fails the_fault.NoMemory g = tt

    pub operation_given : (right : ExprTree) (after : ℕ) (default : Token) → SettlesFrom (level_family a d more) tokens (at + 1) (at + 1) (Took right (drop after tokens)) → SettlesFrom (operation_family a d b left (next (drop at tokens))) tokens at at (Took (ExprBinary left o (slice_index_or tokens at default).place right) (drop after tokens))
    operation_given right after default h = subst (λ (t : Token). SettlesFrom (operation_family a d b left (next (drop at tokens))) tokens at at (Took (ExprBinary left o t.place right) (drop after tokens))) (sym (slice_at tokens at first_token.0 first_token.1 default first_token.2)) (operation_runs (Took right (drop after tokens)) h)

-- ---- which part begins

module _ (tighter : Parsers ExprTree) (ranges : Parsers RangesTree) (d b : ℕ) (left : ExprTree) where
  -- where an operator or `in` stands next there is a part
  is_begun : (o : Option Operator) (m : Bool) → (is_some o ≡ true) ⊎ (m ≡ true) → operation_by tighter ranges d b left o m ≡ Some (part_of (operation_by tighter ranges d b left o m))
  is_begun (Some o) m e = refl
  is_begun None true e = refl
  is_begun None false (inl e) = absurd cc
  is_begun None false (inr e) = absurd cc

  is_ended : (o : Option Operator) (m : Bool) → is_some o ≡ false → m ≡ false → operation_by tighter ranges d b left o m ≡ None
  is_ended (Some o) m e f = absurd cc
  is_ended None true e f = absurd cc
  is_ended None false e f = refl

  -- where no operator stands next, `in` does
  is_membership : (o : Option Operator) (m : Bool) → o ≡ None → (is_some o ≡ true) ⊎ (m ≡ true) → part_of (operation_by tighter ranges d b left o m) ≡ in_by ranges d b left
  is_membership (Some o) m e f = absurd cc
  is_membership None true e f = refl
  is_membership None false e (inl f) = absurd cc
  is_membership None false e (inr f) = absurd cc

abbrev pub Begun : ℕ → Option Token → Type 0
Begun level token = (is_some (operator_of level token) ≡ true) ⊎ (is_in level token ≡ true)

module _ (tokens : List Token) (at a d b : ℕ) (left : ExprTree) (none : operator_of (9 - a) (next (drop at tokens)) ≡ None) (begun : Begun (9 - a) (next (drop at tokens))) where
  membership_is : (m : ℕ) → part_of (operation_of (level_by (unary_within m) (ranges_by (expr_at m) m) m a) (ranges_by (expr_at m) m) (9 - a) d b left (next (drop at tokens))) ≡ in_by (ranges_by (expr_at m) m) d b left
  membership_is m = is_membership (level_by (unary_within m) (ranges_by (expr_at m) m) m a) (ranges_by (expr_at m) m) d b left (operator_of (9 - a) (next (drop at tokens))) (is_in (9 - a) (next (drop at tokens))) none begun

  membership_given : (x : Outcome ExprTree) → SettlesFrom (in_family d b left) tokens at at x → SettlesFrom (operation_family a d b left (next (drop at tokens))) tokens at at x
  membership_given x h m n p q = ap (λ (y : Parser ExprTree). run is_over y (drop at tokens)) (membership_is m) ∙ h m n p q

  membership_fails : (e : SyntaxFault) → FailsFrom (in_family d b left) tokens at at e → FailsFrom (operation_family a d b left (next (drop at tokens))) tokens at at e
  membership_fails (the_fault.At k) g = (membership_given (Refused (drop k tokens)) g.0, g.1, g.2)
  membership_fails (the_fault.Deep k) g = (membership_given (TooDeep (drop k tokens)) g.0, g.1, g.2)
  membership_fails the_fault.NoMemory g = tt

  pub membership_gives : (r : Result (ExprNode × ℕ × ℕ) SyntaxFault) → Gives view_expr operators_expr (in_family d b left) tokens at at b 1 r → Gives view_expr operators_expr (operation_family a d b left (next (drop at tokens))) tokens at at b 1 r
  membership_gives (Ok x) g = record {
    settles = membership_given (Took (view_expr x.0) (drop x.1 tokens)) g.settles;
    after = g.after;
    inside = g.inside;
    counted = g.counted;
    within = g.within;
  }
  membership_gives (Err e) g = membership_fails e g

-- ---- operators of one level in a row

module _ (tokens : List Token) (at a d b : ℕ) where
  pub level_begins : (left : ExprTree) (after count : ℕ) → SettlesFrom (level_family a d b) tokens at at (Took left (drop after tokens)) → at + 1 ≤ after → after ≤ length tokens → count ≡ b + operators_expr left → count ≤ 256 → LevelLoop tokens at a d b left after count
  level_begins left after count h lt le c w = record {
    init = left;
    from = after;
    first = h;
    loop = loop_begins (level_steps a d b) tokens at after left (omega (arith, lt));
    after = omega (arith, lt);
    reached = omega arith;
    inside = le;
    counted = c;
    within = w;
  }

  module _ (above : ℕ) (one_more : above ≡ suc a) (left : ExprTree) (place count : ℕ) (l : LevelLoop tokens at a d b left place count) where
    left_operators : count - operators_expr left ≡ b
    left_operators = omega (arith, l.counted)

    pub left_counted : operators_expr left ≤ count
    left_counted = omega (arith, l.counted)

    pub level_ends : is_some (operator_of (9 - a) (next (drop place tokens))) ≡ false → is_in (9 - a) (next (drop place tokens)) ≡ false → SettlesFrom (level_family above d b) tokens at at (Took left (drop place tokens))
    level_ends no_binary no_in =
        subst (λ (k : ℕ). SettlesFrom (level_family k d b) tokens at at (Took left (drop place tokens))) (sym one_more)
        (settles_both tokens at (level_family a d b) (λ m n. repeat_by (level_steps a d b m n) m) at l.from l.init (Took left (drop place tokens)) l.first
        (loop_ends (level_steps a d b) tokens at l.from l.init place left l.inside (λ m n. is_ended (level_by (unary_within m) (ranges_by (expr_at m) m) m a) (ranges_by (expr_at m) m) d b left (operator_of (9 - a) (next (drop place tokens))) (is_in (9 - a) (next (drop place tokens))) no_binary no_in) l.loop))

    module _ (begun : Begun (9 - a) (next (drop place tokens))) where
      step_is : (m n : ℕ) → level_steps a d b m n left (next (drop place tokens)) ≡ Some (operation_family a d b left (next (drop place tokens)) m n)
      step_is m n = is_begun (level_by (unary_within m) (ranges_by (expr_at m) m) m a) (ranges_by (expr_at m) m) d b left (operator_of (9 - a) (next (drop place tokens))) (is_in (9 - a) (next (drop place tokens))) begun

      pub level_fails : (e : SyntaxFault) → FailsFrom (operation_family a d (count - operators_expr left) left (next (drop place tokens))) tokens place place e → FailsFrom (level_family above d b) tokens at at e
      level_fails e h =
          subst (λ (k : ℕ). FailsFrom (level_family k d b) tokens at at e) (sym one_more)
          (fails_then tokens at (level_family a d b) (λ m n. repeat_by (level_steps a d b m n) m) at l.from l.init e (omega (arith, l.after)) l.first
          (loop_fails (level_steps a d b) tokens at l.from l.init place left (operation_family a d b left (next (drop place tokens))) e l.reached l.inside step_is
          (later_fault tokens at (operation_family a d b left (next (drop place tokens))) place e (omega (arith, l.after, l.reached)) (subst (λ (k : ℕ). FailsFrom (operation_family a d k left (next (drop place tokens))) tokens place place e) left_operators h))
          l.loop))

      pub level_turns : (all : ExprTree) (after more : ℕ) → SettlesFrom (operation_family a d (count - operators_expr left) left (next (drop place tokens))) tokens place place (Took all (drop after tokens)) → place + 1 ≤ after → after ≤ length tokens → more ≡ (count - operators_expr left) + operators_expr all → more ≤ 256 → LevelLoop tokens at a d b all after more
      level_turns all after more h lt inside c w = record {
        init = l.init;
        from = l.from;
        first = l.first;
        loop = loop_turns (level_steps a d b) tokens at l.from l.init place after left all (operation_family a d b left (next (drop place tokens))) (omega (arith, l.after, l.reached)) l.inside step_is
            (later tokens at (operation_family a d b left (next (drop place tokens))) place (Took all (drop after tokens)) (omega (arith, l.after, l.reached)) (subst (λ (k : ℕ). SettlesFrom (operation_family a d k left (next (drop place tokens))) tokens place place (Took all (drop after tokens))) left_operators h))
            (omega (arith, lt)) l.loop;
        after = l.after;
        reached = omega (arith, l.reached, lt);
        inside = inside;
        counted = omega (arith, c, left_operators);
        within = w;
      }
