-- What each rule of expressions gives, from what its parts give.
use Rattle.std.proofs.Common.{slice_index_or, [], ◌∷◌, Bool, if◌then◌else◌, length-drop, ◌≡◌, ℕ, zero, suc, ◌+◌, ◌-◌, ◌<◌, ◌≤◌, List, length, drop, refl, ap, subst, sym, ◌∙◌, arith, true, false, Some, None, Option, Err}
use Rattle.pst_base.specs.declared.position.Place.{Place}
use Rattle.pst_token.specs.declared.kind.Kind.TheVariants as kind
use Rattle.pst_token.specs.declared.token.Token.{Token}
use Rattle.pst_ast.specs.declared.fault.SyntaxFault.{SyntaxFault}
use Rattle.pst_ast.specs.declared.fault.SyntaxFault.TheVariants as the_fault
use Rattle.pst_ast.specs.declared.leaf.Name.{Name}
use Rattle.pst_ast.specs.declared.expression.IndexNode.{IndexNode}
use Rattle.pst_ast.specs.declared.expression.PartNode.{PartNode, roll-PartNode}
use Rattle.pst_ast.specs.declared.expression.NextPart.{roll-NextPart}
use Rattle.pst_ast.specs.ExpressionView.{view_part, view_next_part}
use Rattle.pst_ast.specs.ExpressionTree.{PartTree, MakePart, NextPartTree, MakeNextPart, ExprTree, ExprUnary, ExprIn, RangesTree, UnaryTree, UnaryPrefix, UnaryPrimary, PrimaryTree, PrimaryTrue, PrimaryFalse, PrimaryPath, PrimaryGroup, PathTree, PathDotted, NoNextPartRow, NoNextRangeRow, MakeRanges, MakeIndex, IndexTree, MaybeIndex, NoIndex, SomeIndex, RangeTree, RangeSingle, RangeBetween}
use Rattle.pst_ast.specs.ExpressionOperators.{operators_range, operators_ranges, operators_expr, operators_part, operators_maybe_index}
use Rattle.pst_ast.specs.Limits.{counted, is_over}
use Rattle.pst_reading.specs.Kinds.{is_mark, is_number, next_is}
use Rattle.pst_reading.specs.Parser.{Parser, repeat_by, and_then, Done, Outcome, Took, Refused, TooDeep, run, next, mark_by, name_by, if_mark, ◌>>=◌, followed_by}
use Rattle.pst_reading.specs.Gives.{SettlesFrom, FailsFrom, Expects}
use Rattle.pst_reading.proofs.Giving.{settles_both, fails_first, fails_then, settles_choice, fails_choice, token_given, token_fails, done, later, later_fault}
use Rattle.pst_ast.specs.declared.leaf.PrefixOperator.{PrefixOperator}
use Rattle.pst_parse_operator.specs.Operators.{prefix_of}
use Rattle.pst_parse_operator.specs.Reading.{operation_of, level_by, more_ranges_of, parts_of, item_by, dotted_by, ranges_by, path_by, group_by, number_by, expr_at, prefix_by, primary_by, unary_by, index_by, maybe_index_by}
use Rattle.pst_parse_operator.specs.Families.{in_family, ranges_family, level_family, range_family, index_family, unary_family, unary_within, primary_family, path_family, next_part_family, view_index_option}
use Rattle.pst_parse_operator.proofs.Loops.{expr_nested}
use Rattle.pst_parse_operator.proofs.Tokens.{no_prefix}
use Rattle.pst_reading.proofs.Becoming.{run_followed}
use Rattle.pst_reading.proofs.Whole.{drop_more}

pub nested_fault : (tokens : List Token) (start at d b : ℕ) → start < at → at ≤ length tokens → (f : SyntaxFault) → FailsFrom (level_family 10 d b) tokens at at f → FailsFrom (λ m n. expr_at m d b) tokens start at f
nested_fault tokens start at d b lt le (the_fault.At k) g = (expr_nested tokens start at d b (Refused (drop k tokens)) lt le g.0, g.1, g.2)
nested_fault tokens start at d b lt le (the_fault.Deep k) g = (expr_nested tokens start at d b (TooDeep (drop k tokens)) lt le g.0, g.1, g.2)
nested_fault tokens start at d b lt le the_fault.NoMemory g = tt

-- ---- a range with two ends

module _ (tokens : List Token) (start at d b : ℕ) (lt : start < at) (le : at ≤ length tokens) (low : ExprTree) (after : ℕ) (low_given : SettlesFrom (level_family 10 d b) tokens at at (Took low (drop after tokens))) (more : at ≤ after) (inside : after + 1 ≤ length tokens) (present : next_is (is_mark kind.DotDot) (next (drop after tokens)) ≡ true) (dots : Place) (dots_given : run is_over (mark_by kind.DotDot (counted d (b + operators_expr low))) (drop after tokens) ≡ Took dots (drop (after + 1) tokens)) where
  abbrev second : ℕ → Place → Parser RangeTree
  second m p = followed_by (expr_at m d (b + operators_expr low)) (λ high. Done (RangeBetween low p high))

  abbrev rest : ℕ → ℕ → ExprTree → Parser RangeTree
  rest m n e = if_mark kind.DotDot (do
    p ← mark_by kind.DotDot (counted d (b + operators_expr e))
    high ← expr_at m d (b + operators_expr e)
    Done (RangeBetween e p high)) (Done (RangeSingle e))

  pub between_given : (high : ExprTree) (end : ℕ) → SettlesFrom (level_family 10 d (b + operators_expr low)) tokens (after + 1) (after + 1) (Took high (drop end tokens)) → SettlesFrom (range_family d b) tokens start at (Took (RangeBetween low dots high) (drop end tokens))
  between_given high end h =
      settles_both tokens start (λ m n. expr_at m d b) rest at after low (Took (RangeBetween low dots high) (drop end tokens)) (expr_nested tokens start at d b (Took low (drop after tokens)) lt le low_given)
      (settles_choice tokens start kind.DotDot (λ m n. followed_by (mark_by kind.DotDot (counted d (b + operators_expr low))) (second m)) (λ m n. Done (RangeSingle low)) after (Took (RangeBetween low dots high) (drop end tokens)) true present
      (settles_both tokens start (λ m n. mark_by kind.DotDot (counted d (b + operators_expr low))) (λ m n. second m) after (after + 1) dots (Took (RangeBetween low dots high) (drop end tokens)) (token_given tokens start (mark_by kind.DotDot (counted d (b + operators_expr low))) after dots dots_given)
      (settles_both tokens start (λ m n. expr_at m d (b + operators_expr low)) (λ m n x. Done (RangeBetween low dots x)) (after + 1) end high (Took (RangeBetween low dots high) (drop end tokens)) (expr_nested tokens start (after + 1) d (b + operators_expr low) (Took high (drop end tokens)) (omega (arith, lt, more)) inside h)
      (done tokens start end (RangeBetween low dots high)))))

  pub between_fails : (e : SyntaxFault) → FailsFrom (level_family 10 d (b + operators_expr low)) tokens (after + 1) (after + 1) e → FailsFrom (range_family d b) tokens start at e
  between_fails e h =
      fails_then tokens start (λ m n. expr_at m d b) rest at after low e more (expr_nested tokens start at d b (Took low (drop after tokens)) lt le low_given)
      (fails_choice tokens start kind.DotDot (λ m n. followed_by (mark_by kind.DotDot (counted d (b + operators_expr low))) (second m)) (λ m n. Done (RangeSingle low)) after e true present
      (fails_then tokens start (λ m n. mark_by kind.DotDot (counted d (b + operators_expr low))) (λ m n. second m) after (after + 1) dots e (omega arith) (token_given tokens start (mark_by kind.DotDot (counted d (b + operators_expr low))) after dots dots_given)
      (fails_first tokens start (λ m n. expr_at m d (b + operators_expr low)) (λ m n x. Done (RangeBetween low dots x)) (after + 1) e (nested_fault tokens start (after + 1) d (b + operators_expr low) (omega (arith, lt, more)) inside e h))))

-- ---- an index

module _ (tokens : List Token) (at d b inner : ℕ) (deeper : inner ≡ suc d) (present : next_is (is_mark kind.LeftBracket) (next (drop at tokens)) ≡ true) (open_place : Place) (opened : run is_over (mark_by kind.LeftBracket (counted inner b)) (drop at tokens) ≡ Took open_place (drop (at + 1) tokens)) (inside : at + 1 ≤ length tokens) where
  abbrev closing : ℕ → Place → ExprTree → Parser IndexTree
  closing x l e = followed_by (mark_by kind.RightBracket (counted x (b + operators_expr e))) (λ r. Done (MakeIndex l e r))

  abbrev inner_of : ℕ → ℕ → Place → Parser IndexTree
  inner_of x m l = followed_by (expr_at m x b) (closing x l)

  abbrev index_with : ℕ → ℕ → Parser IndexTree
  index_with x m = followed_by (mark_by kind.LeftBracket (counted x b)) (inner_of x m)

  abbrev maybe_with : ℕ → ℕ → Parser MaybeIndex
  maybe_with x m = if_mark kind.LeftBracket (followed_by (index_with x m) (λ i. Done (SomeIndex i))) (Done NoIndex)

  whole_fails : (e : SyntaxFault) → FailsFrom (λ m n. inner_of inner m open_place) tokens at (at + 1) e → FailsFrom (index_family d b) tokens at at e
  whole_fails e h =
      subst (λ (x : ℕ). FailsFrom (λ m n. maybe_with x m) tokens at at e) deeper
      (fails_choice tokens at kind.LeftBracket (λ m n. followed_by (index_with inner m) (λ i. Done (SomeIndex i))) (λ m n. Done NoIndex) at e true present
      (fails_first tokens at (λ m n. index_with inner m) (λ m n i. Done (SomeIndex i)) at e
      (fails_then tokens at (λ m n. mark_by kind.LeftBracket (counted inner b)) (λ m n. inner_of inner m) at (at + 1) open_place e (omega arith) (token_given tokens at (mark_by kind.LeftBracket (counted inner b)) at open_place opened) h)))

  pub index_inner_fails : (e : SyntaxFault) → FailsFrom (level_family 10 inner b) tokens (at + 1) (at + 1) e → FailsFrom (index_family d b) tokens at at e
  index_inner_fails e h = whole_fails e (fails_first tokens at (λ m n. expr_at m inner b) (λ m n. closing inner open_place) (at + 1) e (nested_fault tokens at (at + 1) inner b (omega arith) inside e h))

  module _ (tree : ExprTree) (after : ℕ) (given : SettlesFrom (level_family 10 inner b) tokens (at + 1) (at + 1) (Took tree (drop after tokens))) (more : at + 1 ≤ after) (within : after ≤ length tokens) where
    pub index_close_fails : (e : SyntaxFault) → Expects (mark_by kind.RightBracket (counted inner (b + operators_expr tree))) tokens after (Err e) → FailsFrom (index_family d b) tokens at at e
    index_close_fails e h =
        whole_fails e (fails_then tokens at (λ m n. expr_at m inner b) (λ m n. closing inner open_place) (at + 1) after tree e more (expr_nested tokens at (at + 1) inner b (Took tree (drop after tokens)) (omega arith) inside given)
        (fails_first tokens at (λ m n. mark_by kind.RightBracket (counted inner (b + operators_expr tree))) (λ m n r. Done (MakeIndex open_place tree r)) after e (token_fails tokens at (mark_by kind.RightBracket (counted inner (b + operators_expr tree))) after e within h)))

    pub index_given : (close_place : Place) → run is_over (mark_by kind.RightBracket (counted inner (b + operators_expr tree))) (drop after tokens) ≡ Took close_place (drop (after + 1) tokens) → SettlesFrom (index_family d b) tokens at at (Took (SomeIndex (MakeIndex open_place tree close_place)) (drop (after + 1) tokens))
    index_given close_place closed =
        let end = drop (after + 1) tokens in
        let tree_is = MakeIndex open_place tree close_place in
        subst (λ (x : ℕ). SettlesFrom (λ m n. maybe_with x m) tokens at at (Took (SomeIndex tree_is) end)) deeper
        (settles_choice tokens at kind.LeftBracket (λ m n. followed_by (index_with inner m) (λ i. Done (SomeIndex i))) (λ m n. Done NoIndex) at (Took (SomeIndex tree_is) end) true present
        (settles_both tokens at (λ m n. index_with inner m) (λ m n i. Done (SomeIndex i)) at (after + 1) tree_is (Took (SomeIndex tree_is) end)
        (settles_both tokens at (λ m n. mark_by kind.LeftBracket (counted inner b)) (λ m n. inner_of inner m) at (at + 1) open_place (Took tree_is end) (token_given tokens at (mark_by kind.LeftBracket (counted inner b)) at open_place opened)
        (settles_both tokens at (λ m n. expr_at m inner b) (λ m n. closing inner open_place) (at + 1) after tree (Took tree_is end) (expr_nested tokens at (at + 1) inner b (Took tree (drop after tokens)) (omega arith) inside given)
        (settles_both tokens at (λ m n. mark_by kind.RightBracket (counted inner (b + operators_expr tree))) (λ m n r. Done (MakeIndex open_place tree r)) after (after + 1) close_place (Took tree_is end) (token_given tokens at (mark_by kind.RightBracket (counted inner (b + operators_expr tree))) after close_place closed)
        (done tokens at (after + 1) tree_is))))
        (done tokens at (after + 1) (SomeIndex tree_is))))

pub no_index_given : (tokens : List Token) (at d b : ℕ) → next_is (is_mark kind.LeftBracket) (next (drop at tokens)) ≡ false → SettlesFrom (index_family d b) tokens at at (Took NoIndex (drop at tokens))
no_index_given tokens at d b absent = settles_choice tokens at kind.LeftBracket (λ m n. followed_by (index_by (expr_at m) d b) (λ i. Done (SomeIndex i))) (λ m n. Done NoIndex) at (Took NoIndex (drop at tokens)) false absent (done tokens at at NoIndex)

pub slice_at : (ts : List Token) (n : ℕ) (t : Token) (us : List Token) (default : Token) → drop n ts ≡ t ∷ us → slice_index_or ts n default ≡ t
slice_at [] zero t us default e = absurd cc
slice_at [] (suc n) t us default e = absurd cc
slice_at (x ∷ xs) zero t us default e = cc
slice_at (x ∷ xs) (suc n) t us default e = slice_at xs n t us default e

-- ---- operators before a part

module _ (tokens : List Token) (at d b : ℕ) where
  unary_look : {o : Option PrefixOperator} → prefix_of (next (drop at tokens)) ≡ o → (x : Outcome UnaryTree) → SettlesFrom (λ m n. prefix_by (primary_by (expr_at m) m) (unary_by (primary_by (expr_at m) m) n) d b o) tokens at at x → SettlesFrom (unary_family d b) tokens at at x
  unary_look e x h size prefixes m n = subst (λ (p : Option PrefixOperator). run is_over (prefix_by (primary_by (expr_at size) size) (unary_by (primary_by (expr_at size) size) prefixes) d b p) (drop at tokens) ≡ x) (sym e) (h size prefixes m n)

  pub plain_fails : (e : SyntaxFault) → prefix_of (next (drop at tokens)) ≡ None → FailsFrom (primary_family d b) tokens at at e → FailsFrom (unary_family d b) tokens at at e
  plain_fails e none h = looked e (fails_first tokens at (λ m n. primary_by (expr_at m) m d b) (λ m n p. Done (UnaryPrimary p)) at e h)
    where
      looked : (f : SyntaxFault) → FailsFrom (λ m n. prefix_by (primary_by (expr_at m) m) (unary_by (primary_by (expr_at m) m) n) d b None) tokens at at f → FailsFrom (unary_family d b) tokens at at f
      looked (the_fault.At k) g = (unary_look none (Refused (drop k tokens)) g.0, g.1, g.2)
      looked (the_fault.Deep k) g = (unary_look none (TooDeep (drop k tokens)) g.0, g.1, g.2)
      looked the_fault.NoMemory g = tt

  pub plain_given : (p : PrimaryTree) (after : ℕ) → prefix_of (next (drop at tokens)) ≡ None → SettlesFrom (primary_family d b) tokens at at (Took p (drop after tokens)) → SettlesFrom (unary_family d b) tokens at at (Took (UnaryPrimary p) (drop after tokens))
  plain_given p after none h = unary_look none (Took (UnaryPrimary p) (drop after tokens)) (settles_both tokens at (λ m n. primary_by (expr_at m) m d b) (λ m n q. Done (UnaryPrimary q)) at after p (Took (UnaryPrimary p) (drop after tokens)) h (done tokens at after (UnaryPrimary p)))

some_next : (ts : List Token) (o : PrefixOperator) → prefix_of (next ts) ≡ Some o → (t : Token) × (us : List Token) × (ts ≡ t ∷ us)
some_next [] o e = absurd (some_none no_prefix e)
  where
    some_none : prefix_of None ≡ None → prefix_of None ≡ Some o → ⊥
    some_none x y = cc
some_next (t ∷ us) o e = (t, us, refl)

pub prefix_inside : (tokens : List Token) (at : ℕ) (o : PrefixOperator) → prefix_of (next (drop at tokens)) ≡ Some o → at + 1 ≤ length tokens
prefix_inside tokens at o e = let s = some_next (drop at tokens) o e in omega (arith, ap length s.2, length-drop at tokens)

module _ (tokens : List Token) (at d b inner more : ℕ) (deeper : inner ≡ suc d) (one_more : more ≡ suc b) (o : PrefixOperator) (found : prefix_of (next (drop at tokens)) ≡ Some o) where
  pub prefix_deep : is_over (counted inner more) ≡ true → FailsFrom (unary_family d b) tokens at at (the_fault.Deep at)
  prefix_deep over =
      let s = some_next (drop at tokens) o found in
      let h : SettlesFrom (λ m n. prefix_by (primary_by (expr_at m) m) (unary_by (primary_by (expr_at m) m) n) d b (Some o)) tokens at at (TooDeep (drop at tokens)) = λ m n x y. subst (λ (u : List Token). run is_over (prefix_by (primary_by (expr_at m) m) (unary_by (primary_by (expr_at m) m) n) d b (Some o)) u ≡ TooDeep u) (sym s.2) (ap (λ (q : Bool). if q then TooDeep (s.0 ∷ s.1) else run is_over (followed_by (unary_by (primary_by (expr_at m) m) n (suc d) (suc b)) (λ operand. Done (UnaryPrefix o s.0.place operand))) s.1) (subst (λ (i : ℕ). is_over (counted i (suc b)) ≡ true) deeper (subst (λ (j : ℕ). is_over (counted inner j) ≡ true) one_more over))) in
      (unary_look tokens at d b found (TooDeep (drop at tokens)) h, omega arith, omega (arith, prefix_inside tokens at o found))

  -- the part behind the operator
  nested_unary : (x : Outcome UnaryTree) → SettlesFrom (unary_family inner more) tokens (at + 1) (at + 1) x → (m n : ℕ) → length tokens ≤ m + at → length tokens ≤ n + at → run is_over (unary_by (primary_by (expr_at m) m) n inner more) (drop (at + 1) tokens) ≡ x
  nested_unary x h m zero p q = absurd (omega (arith, q, prefix_inside tokens at o found))
  nested_unary x h m (suc n) p q = h m n (omega (arith, p)) (omega (arith, q))

  -- the whole runs as its part does
  module _ (free : is_over (counted inner more) ≡ false) where
    over_free : is_over (counted (suc d) (suc b)) ≡ false
    over_free = subst (λ (i : ℕ). is_over (counted i (suc b)) ≡ false) deeper (subst (λ (j : ℕ). is_over (counted inner j) ≡ false) one_more free)

    first_token : (t : Token) × (us : List Token) × (drop at tokens ≡ t ∷ us)
    first_token = some_next (drop at tokens) o found

    behind_first : drop (at + 1) tokens ≡ first_token.1
    behind_first = ap (λ (k : ℕ). drop k tokens) (let e : at + 1 ≡ suc at = omega arith in e) ∙ drop_more at tokens first_token.0 first_token.1 first_token.2

    prefix_runs : (x : Outcome UnaryTree) → SettlesFrom (unary_family inner more) tokens (at + 1) (at + 1) x → SettlesFrom (unary_family d b) tokens at at (and_then x (λ u rest. Took (UnaryPrefix o first_token.0.place u) rest))
    prefix_runs x h = unary_look tokens at d b found (and_then x (λ u rest. Took (UnaryPrefix o first_token.0.place u) rest)) (λ m n p q. go m n p q)
      where
        go : (m n : ℕ) → length tokens ≤ m + at → length tokens ≤ n + at → run is_over (prefix_by (primary_by (expr_at m) m) (unary_by (primary_by (expr_at m) m) n) d b (Some o)) (drop at tokens) ≡ and_then x (λ u rest. Took (UnaryPrefix o first_token.0.place u) rest)
        go m n p q =
            let U = unary_by (primary_by (expr_at m) m) n in
            let inner_run : run is_over (U (suc d) (suc b)) first_token.1 ≡ x = subst (λ (i : ℕ). run is_over (U i (suc b)) first_token.1 ≡ x) deeper (subst (λ (j : ℕ). run is_over (U inner j) first_token.1 ≡ x) one_more (subst (λ (v : List Token). run is_over (U inner more) v ≡ x) behind_first (nested_unary x h m n p q))) in
            let part : run is_over (followed_by (U (suc d) (suc b)) (λ operand. Done (UnaryPrefix o first_token.0.place operand))) first_token.1 ≡ and_then x (λ u rest. Took (UnaryPrefix o first_token.0.place u) rest) = run_followed is_over (U (suc d) (suc b)) (λ operand. Done (UnaryPrefix o first_token.0.place operand)) first_token.1 ∙ ap (λ (y : Outcome UnaryTree). and_then y (λ u rest. Took (UnaryPrefix o first_token.0.place u) rest)) inner_run in
            subst (λ (v : List Token). run is_over (prefix_by (primary_by (expr_at m) m) U d b (Some o)) v ≡ and_then x (λ u rest. Took (UnaryPrefix o first_token.0.place u) rest)) (sym first_token.2)
            (ap (λ (c : Bool). if c then TooDeep (first_token.0 ∷ first_token.1) else run is_over (followed_by (U (suc d) (suc b)) (λ operand. Done (UnaryPrefix o first_token.0.place operand))) first_token.1) over_free ∙ part)

    pub prefix_fails : (e : SyntaxFault) → FailsFrom (unary_family inner more) tokens (at + 1) (at + 1) e → FailsFrom (unary_family d b) tokens at at e
    prefix_fails (the_fault.At k) g = (prefix_runs (Refused (drop k tokens)) g.0, omega (arith, g.1), g.2)
    prefix_fails (the_fault.Deep k) g = (prefix_runs (TooDeep (drop k tokens)) g.0, omega (arith, g.1), g.2)
    prefix_fails the_fault.NoMemory g = tt

    pub prefix_given : (u : UnaryTree) (after : ℕ) (default : Token) → SettlesFrom (unary_family inner more) tokens (at + 1) (at + 1) (Took u (drop after tokens)) → SettlesFrom (unary_family d b) tokens at at (Took (UnaryPrefix o (slice_index_or tokens at default).place u) (drop after tokens))
    prefix_given u after default h = subst (λ (t : Token). SettlesFrom (unary_family d b) tokens at at (Took (UnaryPrefix o t.place u) (drop after tokens))) (sym (slice_at tokens at first_token.0 first_token.1 default first_token.2)) (prefix_runs (Took u (drop after tokens)) h)

-- ---- the tightest level

pub zero_fails : (tokens : List Token) (at d b above : ℕ) → above ≡ 0 → (e : SyntaxFault) → FailsFrom (unary_family d b) tokens at at e → FailsFrom (level_family above d b) tokens at at e
zero_fails tokens at d b above none e h = subst (λ (k : ℕ). FailsFrom (level_family k d b) tokens at at e) (sym none) (fails_first tokens at (λ m n. unary_within m d b) (λ m n u. Done (ExprUnary u)) at e (same e h))
  where
    same : (f : SyntaxFault) → FailsFrom (unary_family d b) tokens at at f → FailsFrom (λ m n. unary_within m d b) tokens at at f
    same (the_fault.At k) g = (λ m n p q. g.0 m m p p, g.1, g.2)
    same (the_fault.Deep k) g = (λ m n p q. g.0 m m p p, g.1, g.2)
    same the_fault.NoMemory g = tt

pub zero_given : (tokens : List Token) (at d b above : ℕ) → above ≡ 0 → (u : UnaryTree) (after : ℕ) → SettlesFrom (unary_family d b) tokens at at (Took u (drop after tokens)) → SettlesFrom (level_family above d b) tokens at at (Took (ExprUnary u) (drop after tokens))
zero_given tokens at d b above none u after h = subst (λ (k : ℕ). SettlesFrom (level_family k d b) tokens at at (Took (ExprUnary u) (drop after tokens))) (sym none) (settles_both tokens at (λ m n. unary_within m d b) (λ m n x. Done (ExprUnary x)) at after u (Took (ExprUnary u) (drop after tokens)) (λ m n p q. h m m p p) (done tokens at after (ExprUnary u)))

-- ---- a name behind a dot

pub part_view : (name : Name) (index : Option IndexNode) → view_part (roll-PartNode (record { name = name; index = index })) ≡ MakePart name (view_index_option index)
unfolding roll-PartNode denote.Hole.Carrier.roll
part_view name None = refl
part_view name (Some i) = refl

pub next_view : (dot : Place) (part : PartNode) → view_next_part (roll-NextPart (record { dot = dot; part = part })) ≡ MakeNextPart dot (view_part part)
unfolding roll-NextPart denote.Hole.Carrier.roll
next_view dot part = refl

module _ (tokens : List Token) (at d b : ℕ) (dot : Place) (dotted : run is_over (mark_by kind.Dot (counted d b)) (drop at tokens) ≡ Took dot (drop (at + 1) tokens)) (name : Name) (named : run is_over (name_by (counted d b)) (drop (at + 1) tokens) ≡ Took name (drop (at + 1 + 1) tokens)) where
  abbrev part_index : ℕ → Place → Name → Parser NextPartTree
  part_index m p x = followed_by (maybe_index_by (expr_at m) d b) (λ i. Done (MakeNextPart p (MakePart x i)))

  abbrev part_name : ℕ → Place → Parser NextPartTree
  part_name m p = followed_by (name_by (counted d b)) (part_index m p)

  pub next_part_fails : (e : SyntaxFault) → FailsFrom (index_family d b) tokens (at + 1 + 1) (at + 1 + 1) e → FailsFrom (next_part_family d b) tokens at at e
  next_part_fails e h =
      fails_then tokens at (λ m n. mark_by kind.Dot (counted d b)) (λ m n. part_name m) at (at + 1) dot e (omega arith) (token_given tokens at (mark_by kind.Dot (counted d b)) at dot dotted)
      (fails_then tokens at (λ m n. name_by (counted d b)) (λ m n. part_index m dot) (at + 1) (at + 1 + 1) name e (omega arith) (token_given tokens at (name_by (counted d b)) (at + 1) name named)
      (fails_first tokens at (index_family d b) (λ m n i. Done (MakeNextPart dot (MakePart name i))) (at + 1 + 1) e (later_fault tokens at (index_family d b) (at + 1 + 1) e (omega arith) h)))

  pub next_part_given : (index : Option IndexNode) (after : ℕ) → SettlesFrom (index_family d b) tokens (at + 1 + 1) (at + 1 + 1) (Took (view_index_option index) (drop after tokens)) → SettlesFrom (next_part_family d b) tokens at at (Took (MakeNextPart dot (view_part (roll-PartNode (record { name = name; index = index })))) (drop after tokens))
  next_part_given index after h =
      let tree = MakeNextPart dot (MakePart name (view_index_option index)) in
      subst (λ (p : PartTree). SettlesFrom (next_part_family d b) tokens at at (Took (MakeNextPart dot p) (drop after tokens))) (sym (part_view name index))
      (settles_both tokens at (λ m n. mark_by kind.Dot (counted d b)) (λ m n. part_name m) at (at + 1) dot (Took tree (drop after tokens)) (token_given tokens at (mark_by kind.Dot (counted d b)) at dot dotted)
      (settles_both tokens at (λ m n. name_by (counted d b)) (λ m n. part_index m dot) (at + 1) (at + 1 + 1) name (Took tree (drop after tokens)) (token_given tokens at (name_by (counted d b)) (at + 1) name named)
      (settles_both tokens at (index_family d b) (λ m n i. Done (MakeNextPart dot (MakePart name i))) (at + 1 + 1) after (view_index_option index) (Took tree (drop after tokens)) (later tokens at (index_family d b) (at + 1 + 1) (Took (view_index_option index) (drop after tokens)) (omega arith) h) (done tokens at after tree))))

  pub next_part_counts : (index : Option IndexNode) → operators_part (view_part (roll-PartNode (record { name = name; index = index }))) ≡ operators_maybe_index (view_index_option index)
  next_part_counts index = ap operators_part (part_view name index)

-- ---- a part that is a path

module _ (tokens : List Token) (at d b : ℕ) (no_number : next_is is_number (next (drop at tokens)) ≡ false) (no_group : next_is (is_mark kind.LeftParenthesis) (next (drop at tokens)) ≡ false) (no_true : next_is (is_mark kind.True) (next (drop at tokens)) ≡ false) (no_false : next_is (is_mark kind.False) (next (drop at tokens)) ≡ false) where
  abbrev path_part : ℕ → Parser PrimaryTree
  path_part m = followed_by (path_by (expr_at m) m d b) (λ path. Done (PrimaryPath path))

  primary_path : (x : Outcome PrimaryTree) → SettlesFrom (λ m n. path_part m) tokens at at x → SettlesFrom (primary_family d b) tokens at at x
  primary_path x h =
      let f = settles_choice tokens at kind.False (λ m n. followed_by (mark_by kind.False (counted d b)) (λ place. Done (PrimaryFalse place))) (λ m n. path_part m) at x false no_false h in
      let g = settles_choice tokens at kind.True (λ m n. followed_by (mark_by kind.True (counted d b)) (λ place. Done (PrimaryTrue place))) (λ m n. if_mark kind.False (followed_by (mark_by kind.False (counted d b)) (λ place. Done (PrimaryFalse place))) (path_part m)) at x false no_true f in
      let k = settles_choice tokens at kind.LeftParenthesis (λ m n. group_by (expr_at m) d b) (λ m n. if_mark kind.True (followed_by (mark_by kind.True (counted d b)) (λ place. Done (PrimaryTrue place))) (if_mark kind.False (followed_by (mark_by kind.False (counted d b)) (λ place. Done (PrimaryFalse place))) (path_part m))) at x false no_group g in
      λ m n p q. subst (λ (y : Bool). run is_over (if y then number_by d b else if_mark kind.LeftParenthesis (group_by (expr_at m) d b) (if_mark kind.True (followed_by (mark_by kind.True (counted d b)) (λ place. Done (PrimaryTrue place))) (if_mark kind.False (followed_by (mark_by kind.False (counted d b)) (λ place. Done (PrimaryFalse place))) (path_part m)))) (drop at tokens) ≡ x) (sym no_number) (k m n p q)

  pub path_part_fails : (e : SyntaxFault) → FailsFrom (path_family d b) tokens at at e → FailsFrom (primary_family d b) tokens at at e
  path_part_fails (the_fault.At k) h = let g = fails_first tokens at (path_family d b) (λ m n path. Done (PrimaryPath path)) at (the_fault.At k) h in (primary_path (Refused (drop k tokens)) g.0, g.1, g.2)
  path_part_fails (the_fault.Deep k) h = let g = fails_first tokens at (path_family d b) (λ m n path. Done (PrimaryPath path)) at (the_fault.Deep k) h in (primary_path (TooDeep (drop k tokens)) g.0, g.1, g.2)
  path_part_fails the_fault.NoMemory h = tt

  pub path_part_given : (path : PathTree) (after : ℕ) → SettlesFrom (path_family d b) tokens at at (Took path (drop after tokens)) → SettlesFrom (primary_family d b) tokens at at (Took (PrimaryPath path) (drop after tokens))
  path_part_given path after h = primary_path (Took (PrimaryPath path) (drop after tokens)) (settles_both tokens at (path_family d b) (λ m n x. Done (PrimaryPath x)) at after path (Took (PrimaryPath path) (drop after tokens)) h (done tokens at after (PrimaryPath path)))

-- ---- an expression in brackets

module _ (tokens : List Token) (at d b inner : ℕ) (deeper : inner ≡ suc d) (no_number : next_is is_number (next (drop at tokens)) ≡ false) (present : next_is (is_mark kind.LeftParenthesis) (next (drop at tokens)) ≡ true) (open_place : Place) (opened : run is_over (mark_by kind.LeftParenthesis (counted inner b)) (drop at tokens) ≡ Took open_place (drop (at + 1) tokens)) (inside : at + 1 ≤ length tokens) where
  abbrev group_close : ℕ → Place → ExprTree → Parser PrimaryTree
  group_close x l e = followed_by (mark_by kind.RightParenthesis (counted x (b + operators_expr e))) (λ r. Done (PrimaryGroup l e r))

  abbrev group_inner : ℕ → ℕ → Place → Parser PrimaryTree
  group_inner x m l = followed_by (expr_at m x b) (group_close x l)

  abbrev group_with : ℕ → ℕ → Parser PrimaryTree
  group_with x m = followed_by (mark_by kind.LeftParenthesis (counted x b)) (group_inner x m)

  abbrev group_others : ℕ → Parser PrimaryTree
  group_others m = if_mark kind.True (followed_by (mark_by kind.True (counted d b)) (λ place. Done (PrimaryTrue place))) (if_mark kind.False (followed_by (mark_by kind.False (counted d b)) (λ place. Done (PrimaryFalse place))) (followed_by (path_by (expr_at m) m d b) (λ path. Done (PrimaryPath path))))

  primary_group : (x : Outcome PrimaryTree) → SettlesFrom (λ m n. group_with inner m) tokens at at x → SettlesFrom (primary_family d b) tokens at at x
  primary_group x h =
      let h' = subst (λ (i : ℕ). SettlesFrom (λ m n. group_with i m) tokens at at x) deeper h in
      let k = settles_choice tokens at kind.LeftParenthesis (λ m n. group_with (suc d) m) (λ m n. group_others m) at x true present h' in
      λ m n p q. subst (λ (y : Bool). run is_over (if y then number_by d b else if_mark kind.LeftParenthesis (group_with (suc d) m) (group_others m)) (drop at tokens) ≡ x) (sym no_number) (k m n p q)

  group_fails : (e : SyntaxFault) → FailsFrom (λ m n. group_inner inner m open_place) tokens at (at + 1) e → FailsFrom (primary_family d b) tokens at at e
  group_fails e h = go e (fails_then tokens at (λ m n. mark_by kind.LeftParenthesis (counted inner b)) (λ m n. group_inner inner m) at (at + 1) open_place e (omega arith) (token_given tokens at (mark_by kind.LeftParenthesis (counted inner b)) at open_place opened) h)
    where
      go : (f : SyntaxFault) → FailsFrom (λ m n. group_with inner m) tokens at at f → FailsFrom (primary_family d b) tokens at at f
      go (the_fault.At k) g = (primary_group (Refused (drop k tokens)) g.0, g.1, g.2)
      go (the_fault.Deep k) g = (primary_group (TooDeep (drop k tokens)) g.0, g.1, g.2)
      go the_fault.NoMemory g = tt

  pub group_inner_fails : (e : SyntaxFault) → FailsFrom (level_family 10 inner b) tokens (at + 1) (at + 1) e → FailsFrom (primary_family d b) tokens at at e
  group_inner_fails e h = group_fails e (fails_first tokens at (λ m n. expr_at m inner b) (λ m n. group_close inner open_place) (at + 1) e (nested_fault tokens at (at + 1) inner b (omega arith) inside e h))

  module _ (tree : ExprTree) (after : ℕ) (given : SettlesFrom (level_family 10 inner b) tokens (at + 1) (at + 1) (Took tree (drop after tokens))) (more : at + 1 ≤ after) (within : after ≤ length tokens) where
    pub group_close_fails : (e : SyntaxFault) → Expects (mark_by kind.RightParenthesis (counted inner (b + operators_expr tree))) tokens after (Err e) → FailsFrom (primary_family d b) tokens at at e
    group_close_fails e h =
        group_fails e (fails_then tokens at (λ m n. expr_at m inner b) (λ m n. group_close inner open_place) (at + 1) after tree e more (expr_nested tokens at (at + 1) inner b (Took tree (drop after tokens)) (omega arith) inside given)
        (fails_first tokens at (λ m n. mark_by kind.RightParenthesis (counted inner (b + operators_expr tree))) (λ m n r. Done (PrimaryGroup open_place tree r)) after e (token_fails tokens at (mark_by kind.RightParenthesis (counted inner (b + operators_expr tree))) after e within h)))

    pub group_given : (close_place : Place) → run is_over (mark_by kind.RightParenthesis (counted inner (b + operators_expr tree))) (drop after tokens) ≡ Took close_place (drop (after + 1) tokens) → SettlesFrom (primary_family d b) tokens at at (Took (PrimaryGroup open_place tree close_place) (drop (after + 1) tokens))
    group_given close_place closed =
        let end = drop (after + 1) tokens in
        let whole = PrimaryGroup open_place tree close_place in
        primary_group (Took whole end)
        (settles_both tokens at (λ m n. mark_by kind.LeftParenthesis (counted inner b)) (λ m n. group_inner inner m) at (at + 1) open_place (Took whole end) (token_given tokens at (mark_by kind.LeftParenthesis (counted inner b)) at open_place opened)
        (settles_both tokens at (λ m n. expr_at m inner b) (λ m n. group_close inner open_place) (at + 1) after tree (Took whole end) (expr_nested tokens at (at + 1) inner b (Took tree (drop after tokens)) (omega arith) inside given)
        (settles_both tokens at (λ m n. mark_by kind.RightParenthesis (counted inner (b + operators_expr tree))) (λ m n r. Done (PrimaryGroup open_place tree r)) after (after + 1) close_place (Took whole end) (token_given tokens at (mark_by kind.RightParenthesis (counted inner (b + operators_expr tree))) after close_place closed)
        (done tokens at (after + 1) whole))))

-- ---- `in` and its ranges

module _ (tokens : List Token) (at d b x : ℕ) (left : ExprTree) (one_more : x ≡ suc (b + operators_expr left)) (in_place : Place) (entered : run is_over (mark_by kind.In (counted d x)) (drop at tokens) ≡ Took in_place (drop (at + 1) tokens)) (open_place : Place) (opened : run is_over (mark_by kind.LeftBracket (counted d x)) (drop (at + 1) tokens) ≡ Took open_place (drop (at + 1 + 1) tokens)) where
  abbrev in_close : ℕ → Place → Place → RangesTree → Parser ExprTree
  in_close y p l rs = followed_by (mark_by kind.RightBracket (counted d (y + operators_ranges rs))) (λ r. Done (ExprIn left p l rs r))

  abbrev in_ranges : ℕ → ℕ → Place → Place → Parser ExprTree
  in_ranges y m p l = followed_by (ranges_by (expr_at m) m d y) (in_close y p l)

  abbrev in_open : ℕ → ℕ → Place → Parser ExprTree
  in_open y m p = followed_by (mark_by kind.LeftBracket (counted d y)) (in_ranges y m p)

  abbrev in_with : ℕ → ℕ → Parser ExprTree
  in_with y m = followed_by (mark_by kind.In (counted d y)) (in_open y m)

  in_fails : (e : SyntaxFault) → FailsFrom (λ m n. in_ranges x m in_place open_place) tokens at (at + 1 + 1) e → FailsFrom (in_family d b left) tokens at at e
  in_fails e h =
      subst (λ (y : ℕ). FailsFrom (λ m n. in_with y m) tokens at at e) one_more
      (fails_then tokens at (λ m n. mark_by kind.In (counted d x)) (λ m n. in_open x m) at (at + 1) in_place e (omega arith) (token_given tokens at (mark_by kind.In (counted d x)) at in_place entered)
      (fails_then tokens at (λ m n. mark_by kind.LeftBracket (counted d x)) (λ m n. in_ranges x m in_place) (at + 1) (at + 1 + 1) open_place e (omega arith) (token_given tokens at (mark_by kind.LeftBracket (counted d x)) (at + 1) open_place opened) h))

  -- the ranges stand behind the bracket
  module _ (before_ranges : ℕ) (near : at ≤ before_ranges) where
    pub in_ranges_fail : (e : SyntaxFault) → FailsFrom (ranges_family d x) tokens before_ranges (at + 1 + 1) e → FailsFrom (in_family d b left) tokens at at e
    in_ranges_fail e h = in_fails e (fails_first tokens at (ranges_family d x) (λ m n. in_close x in_place open_place) (at + 1 + 1) e (go e h))
      where
        go : (f : SyntaxFault) → FailsFrom (ranges_family d x) tokens before_ranges (at + 1 + 1) f → FailsFrom (ranges_family d x) tokens at (at + 1 + 1) f
        go (the_fault.At k) g = (λ m n p q. g.0 m n (omega (arith, p, near)) (omega (arith, q, near)), g.1, g.2)
        go (the_fault.Deep k) g = (λ m n p q. g.0 m n (omega (arith, p, near)) (omega (arith, q, near)), g.1, g.2)
        go the_fault.NoMemory g = tt

    module _ (rs : RangesTree) (after : ℕ) (given : SettlesFrom (ranges_family d x) tokens before_ranges (at + 1 + 1) (Took rs (drop after tokens))) (more : at + 1 + 1 ≤ after) (within : after ≤ length tokens) where
      nearer : SettlesFrom (ranges_family d x) tokens at (at + 1 + 1) (Took rs (drop after tokens))
      nearer m n p q = given m n (omega (arith, p, near)) (omega (arith, q, near))

      pub in_close_fails : (e : SyntaxFault) → Expects (mark_by kind.RightBracket (counted d (x + operators_ranges rs))) tokens after (Err e) → FailsFrom (in_family d b left) tokens at at e
      in_close_fails e h = in_fails e (fails_then tokens at (ranges_family d x) (λ m n. in_close x in_place open_place) (at + 1 + 1) after rs e more nearer
          (fails_first tokens at (λ m n. mark_by kind.RightBracket (counted d (x + operators_ranges rs))) (λ m n r. Done (ExprIn left in_place open_place rs r)) after e (token_fails tokens at (mark_by kind.RightBracket (counted d (x + operators_ranges rs))) after e within h)))

      pub in_given : (close_place : Place) → run is_over (mark_by kind.RightBracket (counted d (x + operators_ranges rs))) (drop after tokens) ≡ Took close_place (drop (after + 1) tokens) → SettlesFrom (in_family d b left) tokens at at (Took (ExprIn left in_place open_place rs close_place) (drop (after + 1) tokens))
      in_given close_place closed =
          let end = drop (after + 1) tokens in
          let whole = ExprIn left in_place open_place rs close_place in
          subst (λ (y : ℕ). SettlesFrom (λ m n. in_with y m) tokens at at (Took whole end)) one_more
          (settles_both tokens at (λ m n. mark_by kind.In (counted d x)) (λ m n. in_open x m) at (at + 1) in_place (Took whole end) (token_given tokens at (mark_by kind.In (counted d x)) at in_place entered)
          (settles_both tokens at (λ m n. mark_by kind.LeftBracket (counted d x)) (λ m n. in_ranges x m in_place) (at + 1) (at + 1 + 1) open_place (Took whole end) (token_given tokens at (mark_by kind.LeftBracket (counted d x)) (at + 1) open_place opened)
          (settles_both tokens at (ranges_family d x) (λ m n. in_close x in_place open_place) (at + 1 + 1) after rs (Took whole end) nearer
          (settles_both tokens at (λ m n. mark_by kind.RightBracket (counted d (x + operators_ranges rs))) (λ m n r. Done (ExprIn left in_place open_place rs r)) after (after + 1) close_place (Took whole end) (token_given tokens at (mark_by kind.RightBracket (counted d (x + operators_ranges rs))) after close_place closed)
          (done tokens at (after + 1) whole)))))

-- ---- the first part of a level, and of ranges

pub left_fails : (tokens : List Token) (at d b above tighter : ℕ) → above ≡ suc tighter → (e : SyntaxFault) → FailsFrom (level_family tighter d b) tokens at at e → FailsFrom (level_family above d b) tokens at at e
left_fails tokens at d b above tighter is e h = subst (λ (k : ℕ). FailsFrom (level_family k d b) tokens at at e) (sym is) (fails_first tokens at (level_family tighter d b) (λ m n. repeat_by (operation_of (level_by (unary_within m) (ranges_by (expr_at m) m) m tighter) (ranges_by (expr_at m) m) (9 - tighter) d b) m) at e h)

pub first_range_fails : (tokens : List Token) (start at d b : ℕ) (e : SyntaxFault) → FailsFrom (range_family d b) tokens start at e → FailsFrom (ranges_family d b) tokens start at e
first_range_fails tokens start at d b e h = fails_first tokens start (range_family d b) (λ m n first. followed_by (repeat_by (more_ranges_of (expr_at m) d (b + operators_range first)) m NoNextRangeRow) (λ more. Done (MakeRanges first more))) at e h

-- ---- paths

module _ (tokens : List Token) (at d b : ℕ) (name : Name) (named : run is_over (name_by (counted d b)) (drop at tokens) ≡ Took name (drop (at + 1) tokens)) where
  abbrev behind_name : ℕ → Name → Parser PathTree
  behind_name m x = if_mark kind.ColonColon (item_by d b x) (dotted_by (expr_at m) m d b x)

  pub item_fails : next_is (is_mark kind.ColonColon) (next (drop (at + 1) tokens)) ≡ true → (e : SyntaxFault) → FailsFrom (λ m n. item_by d b name) tokens (at + 1) (at + 1) e → FailsFrom (path_family d b) tokens at at e
  item_fails present e h =
      fails_then tokens at (λ m n. name_by (counted d b)) (λ m n. behind_name m) at (at + 1) name e (omega arith) (token_given tokens at (name_by (counted d b)) at name named)
      (fails_choice tokens at kind.ColonColon (λ m n. item_by d b name) (λ m n. dotted_by (expr_at m) m d b name) (at + 1) e true present (later_fault tokens at (λ m n. item_by d b name) (at + 1) e (omega arith) h))

  pub item_given : next_is (is_mark kind.ColonColon) (next (drop (at + 1) tokens)) ≡ true → (path : PathTree) (after : ℕ) → SettlesFrom (λ m n. item_by d b name) tokens (at + 1) (at + 1) (Took path (drop after tokens)) → SettlesFrom (path_family d b) tokens at at (Took path (drop after tokens))
  item_given present path after h =
      settles_both tokens at (λ m n. name_by (counted d b)) (λ m n. behind_name m) at (at + 1) name (Took path (drop after tokens)) (token_given tokens at (name_by (counted d b)) at name named)
      (settles_choice tokens at kind.ColonColon (λ m n. item_by d b name) (λ m n. dotted_by (expr_at m) m d b name) (at + 1) (Took path (drop after tokens)) true present (later tokens at (λ m n. item_by d b name) (at + 1) (Took path (drop after tokens)) (omega arith) h))

  pub path_index_fails : next_is (is_mark kind.ColonColon) (next (drop (at + 1) tokens)) ≡ false → (e : SyntaxFault) → FailsFrom (index_family d b) tokens (at + 1) (at + 1) e → FailsFrom (path_family d b) tokens at at e
  path_index_fails absent e h =
      fails_then tokens at (λ m n. name_by (counted d b)) (λ m n. behind_name m) at (at + 1) name e (omega arith) (token_given tokens at (name_by (counted d b)) at name named)
      (fails_choice tokens at kind.ColonColon (λ m n. item_by d b name) (λ m n. dotted_by (expr_at m) m d b name) (at + 1) e false absent
      (fails_first tokens at (index_family d b) (λ m n i. followed_by (repeat_by (parts_of (expr_at m) d (b + operators_part (MakePart name i))) m NoNextPartRow) (λ row. Done (PathDotted (MakePart name i) row))) (at + 1) e (later_fault tokens at (index_family d b) (at + 1) e (omega arith) h)))
