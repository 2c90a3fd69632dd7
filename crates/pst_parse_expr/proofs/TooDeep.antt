-- Where one derivation too many is open, the first token of an expression is too deep.
use Rattle.std.proofs.Common.{◌≡◌, ℕ, zero, suc, ◌+◌, ◌-◌, ◌<◌, ◌≤◌, Bool, true, false, ◌||◌, ltb, if◌then◌else◌, is_some, List, [], ◌∷◌, length, drop, Some, Option, None, refl, ap, ◌∙◌, arith}
use Rattle.std.proofs.lemmas.Bool.{ltb-true, lt-ltb}
use Rattle.pst_token.specs.declared.kind.Kind.{Kind}
use Rattle.pst_token.specs.declared.kind.Kind.TheVariants as kind
use Rattle.pst_token.specs.declared.token.Token.{Token}
use Rattle.pst_ast.specs.declared.fault.SyntaxFault.TheVariants as the_fault
use Rattle.pst_ast.specs.declared.leaf.PrefixOperator.{PrefixOperator}
use Rattle.pst_ast.specs.Limits.{Count, counted, is_over}
use Rattle.pst_ast.specs.ExpressionTree.{ExprTree, ExprUnary, UnaryPrimary, UnaryPrefix, PrimaryNumber, PrimaryTrue, PrimaryFalse, PrimaryPath, PrimaryGroup, RangesTree}
use Rattle.pst_ast.specs.ExpressionOperators.{operators_expr}
use Rattle.pst_reading.specs.Kinds.{is_mark, is_name, is_number, next_is}
use Rattle.pst_reading.specs.Parser.{Parser, Done, Wrong, Take, followed_by, Outcome, Refused, TooDeep, run, next, and_then, mark_by, name_by, if_mark, repeat_by}
use Rattle.pst_reading.specs.Gives.{FailsFrom}
use Rattle.pst_reading.proofs.Becoming.{run_followed}
use Rattle.pst_parse_operator.specs.Operators.{prefix_of}
use Rattle.pst_parse_operator.specs.Reading.{Parsers, operation_of, level_by, primary_by, group_by, path_by, item_by, dotted_by, number_by, prefix_by, unary_by, ranges_by, expr_at}
use Rattle.pst_parse_expr.specs.Constraints.{begins_expr}
use Rattle.pst_parse_expr.specs.ConstraintFamilies.{outermost_family}
use Rattle.pst_parse_operator.proofs.Tokens.{no_prefix}

true_or : (b : Bool) → b ≡ true → (c : Bool) → (b || c) ≡ true
true_or b e c = ap (λ (x : Bool). x || c) e

pub over_deep : (d : ℕ) → is_over (counted d 0) ≡ true → 64 < d
over_deep d e = go (ltb 64 d) refl e
  where
    go : (b : Bool) → ltb 64 d ≡ b → (b || false) ≡ true → 64 < d
    go true f g = ltb-true 64 d f
    go false f g = absurd cc

deep_over : (d b : ℕ) → 64 < d → is_over (counted d b) ≡ true
deep_over d b lt = true_or (ltb 64 d) (lt-ltb 64 d lt) (ltb 256 b)

-- the next token is too deep, or it is no part's first one
abbrev fault : {A : Type 0} → Bool → List Token → Outcome A
fault b ts = if b then TooDeep ts else Refused ts

passes : {A B : Type 0} (b : Bool) (ts : List Token) (f : A → List Token → Outcome B) → and_then (fault b ts) f ≡ fault b ts
passes true ts f = refl
passes false ts f = refl

fault_first : {A B : Type 0} (p : Parser A) (f : A → Parser B) (ts : List Token) (b : Bool) → run is_over p ts ≡ fault b ts → run is_over (followed_by p f) ts ≡ fault b ts
fault_first p f ts b h = run_followed is_over p f ts ∙ ap (λ (o : Outcome _). and_then o (λ a rest. run is_over (f a) rest)) h ∙ passes b ts (λ a rest. run is_over (f a) rest)

take_deep : {A : Type 0} (c : Count) (go_on : Token → Parser A) (t : Token) (ts : List Token) → is_over c ≡ true → run is_over (Take c go_on) (t ∷ ts) ≡ TooDeep (t ∷ ts)
take_deep c go_on t ts e = rw e refl

mark_deep : (k : Kind) (c : Count) (t : Token) (ts : List Token) → is_mark k t ≡ true → is_over c ≡ true → run is_over (mark_by k c) (t ∷ ts) ≡ TooDeep (t ∷ ts)
mark_deep k c t ts e f = ap (λ (b : Bool). run is_over (if b then Take c (λ token. Done token.place) else Wrong) (t ∷ ts)) e ∙ take_deep c (λ token. Done token.place) t ts f

-- a choice, of which the first part is too deep
test_fault : {A : Type 0} (p q : Parser A) (t : Token) (ts : List Token) (x y : Bool) → (x ≡ true → run is_over p (t ∷ ts) ≡ TooDeep (t ∷ ts)) → run is_over q (t ∷ ts) ≡ fault y (t ∷ ts) → run is_over (if x then p else q) (t ∷ ts) ≡ fault (x || y) (t ∷ ts)
test_fault p q t ts true y h i = h refl
test_fault p q t ts false y h i = i

choice_fault : {A : Type 0} (k : Kind) (p q : Parser A) (t : Token) (ts : List Token) (y : Bool) → (is_mark k t ≡ true → run is_over p (t ∷ ts) ≡ TooDeep (t ∷ ts)) → run is_over q (t ∷ ts) ≡ fault y (t ∷ ts) → run is_over (if_mark k p q) (t ∷ ts) ≡ fault (is_mark k t || y) (t ∷ ts)
choice_fault k p q t ts y h i = test_fault p q t ts (is_mark k t) y h i

module _ (X : Parsers ExprTree) (turns d b : ℕ) (deep : 64 < d) where
  name_fault : (t : Token) (ts : List Token) (x : Bool) → is_name t ≡ x → run is_over (name_by (counted d b)) (t ∷ ts) ≡ fault x (t ∷ ts)
  name_fault t ts true e = ap (λ (y : Bool). run is_over (if y then Take (counted d b) (λ token. Done (record { id = token.name; place = token.place })) else Wrong) (t ∷ ts)) e ∙ take_deep (counted d b) (λ token. Done (record { id = token.name; place = token.place })) t ts (deep_over d b deep)
  name_fault t ts false e = ap (λ (y : Bool). run is_over (if y then Take (counted d b) (λ token. Done (record { id = token.name; place = token.place })) else Wrong) (t ∷ ts)) e

  abbrev begins_primary : Option Token → Bool
  begins_primary n = next_is is_number n || (next_is (is_mark kind.LeftParenthesis) n || (next_is (is_mark kind.True) n || (next_is (is_mark kind.False) n || next_is is_name n)))

  primary_fault : (ts : List Token) → run is_over (primary_by X turns d b) ts ≡ fault (begins_primary (next ts)) ts
  primary_fault [] = refl
  primary_fault (t ∷ ts) =
      test_fault (number_by d b) _ t ts (is_number t) _ (λ e. take_deep (counted d b) (λ token. Done (PrimaryNumber (record { value = token.number; place = token.place }))) t ts (deep_over d b deep))
      (choice_fault kind.LeftParenthesis (group_by X d b) _ t ts _ (λ e. fault_first (mark_by kind.LeftParenthesis (counted (suc d) b)) (λ l. followed_by (X (suc d) b) (λ i. followed_by (mark_by kind.RightParenthesis (counted (suc d) (b + operators_expr i))) (λ r. Done (PrimaryGroup l i r)))) (t ∷ ts) true (mark_deep kind.LeftParenthesis (counted (suc d) b) t ts e (deep_over (suc d) b (omega (arith, deep)))))
      (choice_fault kind.True (followed_by (mark_by kind.True (counted d b)) (λ place. Done (PrimaryTrue place))) _ t ts _ (λ e. fault_first (mark_by kind.True (counted d b)) (λ place. Done (PrimaryTrue place)) (t ∷ ts) true (mark_deep kind.True (counted d b) t ts e (deep_over d b deep)))
      (choice_fault kind.False (followed_by (mark_by kind.False (counted d b)) (λ place. Done (PrimaryFalse place))) (followed_by (path_by X turns d b) (λ path. Done (PrimaryPath path))) t ts (is_name t) (λ e. fault_first (mark_by kind.False (counted d b)) (λ place. Done (PrimaryFalse place)) (t ∷ ts) true (mark_deep kind.False (counted d b) t ts e (deep_over d b deep)))
      (fault_first (path_by X turns d b) (λ path. Done (PrimaryPath path)) (t ∷ ts) (is_name t) (fault_first (name_by (counted d b)) (λ name. if_mark kind.ColonColon (item_by d b name) (dotted_by X turns d b name)) (t ∷ ts) (is_name t) (name_fault t ts (is_name t) refl))))))

  unary_fault : (prefixes : ℕ) (ts : List Token) → run is_over (unary_by (primary_by X turns) (suc prefixes) d b) ts ≡ fault (is_some (prefix_of (next ts)) || begins_primary (next ts)) ts
  unary_fault prefixes ts = go ts (prefix_of (next ts)) refl
    where
      go : (us : List Token) (o : Option PrefixOperator) → prefix_of (next us) ≡ o → run is_over (prefix_by (primary_by X turns) (unary_by (primary_by X turns) prefixes) d b o) us ≡ fault (is_some o || begins_primary (next us)) us
      go us None e = fault_first (primary_by X turns d b) (λ p. Done (UnaryPrimary p)) us (begins_primary (next us)) (primary_fault us)
      go [] (Some o) e = absurd (some_none no_prefix e)
        where
          some_none : prefix_of None ≡ None → prefix_of None ≡ Some o → ⊥
          some_none x y = cc
      go (t ∷ us) (Some o) e = take_deep (counted (suc d) (suc b)) (λ token. followed_by (unary_by (primary_by X turns) prefixes (suc d) (suc b)) (λ operand. Done (UnaryPrefix o token.place operand))) t us (deep_over (suc d) (suc b) (omega (arith, deep)))

  level_fault : (ranges : Parsers RangesTree) (prefixes above : ℕ) (ts : List Token) → run is_over (level_by (unary_by (primary_by X turns) (suc prefixes)) ranges turns above d b) ts ≡ fault (is_some (prefix_of (next ts)) || begins_primary (next ts)) ts
  level_fault ranges prefixes zero ts = fault_first (unary_by (primary_by X turns) (suc prefixes) d b) (λ u. Done (ExprUnary u)) ts _ (unary_fault prefixes ts)
  level_fault ranges prefixes (suc above) ts = fault_first (level_by (unary_by (primary_by X turns) (suc prefixes)) ranges turns above d b) (repeat_by (operation_of (level_by (unary_by (primary_by X turns) (suc prefixes)) ranges turns above) ranges (9 - above) d b) turns) ts _ (level_fault ranges prefixes above ts)

expr_fault : (size d : ℕ) (ts : List Token) → 64 < d → run is_over (expr_at (suc size) d 0) ts ≡ fault (begins_expr (next ts)) ts
unfolding expr_at begins_expr
expr_fault size d ts deep = level_fault (expr_at size) size d 0 deep (ranges_by (expr_at size) size) size 10 ts

module _ (tokens : List Token) (at d : ℕ) (deep : is_over (counted d 0) ≡ true) (inside : at ≤ length tokens) where
  pub begun_deep : begins_expr (next (drop at tokens)) ≡ true → FailsFrom (outermost_family d) tokens at at (the_fault.Deep at)
  begun_deep e = (λ size prefixes m n. expr_fault size d (drop at tokens) (over_deep d deep) ∙ ap (λ (b : Bool). fault b (drop at tokens)) e, omega arith, inside)

  pub not_begun : begins_expr (next (drop at tokens)) ≡ false → FailsFrom (outermost_family d) tokens at at (the_fault.At at)
  not_begun e = (λ size prefixes m n. expr_fault size d (drop at tokens) (over_deep d deep) ∙ ap (λ (b : Bool). fault b (drop at tokens)) e, omega arith, inside)
