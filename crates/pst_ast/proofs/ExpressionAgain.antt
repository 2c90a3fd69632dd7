-- Reading what an expression spells gives the expression back, so at most one proper expression spells it.
use Rattle.std.proofs.Common.{◌≡◌, ℕ, zero, suc, ◌+◌, ◌-◌, ◌<◌, ◌≤◌, List, [], ◌∷◌, ◌++◌, Some, None, true, false, refl, ap, sym, ◌∙◌, arith, append_assoc}
use Rattle.std.specs.Prelude.{ltb}
use Rattle.pst_base.specs.declared.position.Place.{Place}
use Rattle.pst_token.specs.declared.token.Token.{Token}
use Rattle.pst_token.specs.declared.kind.Kind.{Kind}
use Rattle.pst_token.specs.declared.kind.Kind.TheVariants as kind
use Rattle.pst_ast.specs.declared.leaf.Operator.{Operator}
use Rattle.pst_ast.specs.declared.leaf.PrefixOperator.{PrefixOperator}
use Rattle.pst_ast.specs.declared.leaf.Operator.TheVariants as the_operator
use Rattle.pst_ast.specs.declared.leaf.PrefixOperator.TheVariants as the_prefix_operator
use Rattle.pst_ast.specs.Marks.{mark, operator_kind, prefix_operator_kind}
use Rattle.pst_ast.specs.ExpressionTree.{ExprTree, ExprUnary, ExprBinary, ExprIn, UnaryTree, UnaryPrefix, UnaryPrimary, PrimaryTree, PrimaryNumber, PrimaryTrue, PrimaryFalse, PrimaryPath, PrimaryGroup, PathTree, PathDotted, PathItem, PathLongItem, PartTree, MakePart, MakeNextPart, MakeIndex, RangesTree, MakeRanges, MakeNextRange, RangeTree, RangeSingle, RangeBetween, NextPartRow, NoNextPartRow, MoreNextPartRow, NoIndex, SomeIndex, NextRangeRow, NoNextRangeRow, MoreNextRangeRow}
use Rattle.pst_ast.specs.ExpressionSpelling.{spell_expr, spell_unary, spell_primary, spell_path, spell_part, spell_next_part_row, spell_ranges, spell_range, spell_next_range_row}
use Rattle.pst_ast.specs.ExpressionProper.{level_of, level, IsProperExpr, IsProperUnary, IsProperPrimary, IsProperPath, IsProperPart, IsProperRanges, IsProperRange, AreProperNextPart, AreProperNextRange}
use Rattle.pst_ast.specs.Laws.{OneTreeOfExpressions}
use Rattle.pst_ast.proofs.ExpressionReading.{Read, Reader, follow, first_kind, others, is_dot, is_bracket, is_colons, is_comma, is_dots, is_in, operator_of, prefix_of, primary_by, extend, extend_in, read_part, read_parts, read_item, read_path, read_unary, read_range, read_range_row, read_ranges, read_chain, read_expr, size_expr, size_unary, size_primary, size_path, size_part, size_parts, size_ranges, size_range, size_range_row}

-- a path ends before such a token
abbrev PathEnds : Kind → Type 0
PathEnds k = (is_dot k ≡ false) × (is_bracket k ≡ false) × (is_colons k ≡ false)

-- an expression ends before such a token
abbrev Ends : Kind → Type 0
Ends k = PathEnds k × (operator_of k ≡ None) × (is_in k ≡ false)

-- a range ends before such a token
abbrev RangeEnds : Kind → Type 0
RangeEnds k = Ends k × (is_dots k ≡ false)

operator_is : (o : Operator) → operator_of (operator_kind o) ≡ Some o
operator_is the_operator.Multiply = refl
operator_is the_operator.Divide = refl
operator_is the_operator.Remainder = refl
operator_is the_operator.Add = refl
operator_is the_operator.Subtract = refl
operator_is the_operator.ShiftLeft = refl
operator_is the_operator.ShiftRight = refl
operator_is the_operator.Less = refl
operator_is the_operator.LessEqual = refl
operator_is the_operator.Greater = refl
operator_is the_operator.GreaterEqual = refl
operator_is the_operator.Equal = refl
operator_is the_operator.NotEqual = refl
operator_is the_operator.BitAnd = refl
operator_is the_operator.BitXor = refl
operator_is the_operator.BitOr = refl
operator_is the_operator.And = refl
operator_is the_operator.Or = refl

operator_ends : (o : Operator) → PathEnds (operator_kind o)
operator_ends the_operator.Multiply = (refl, refl, refl)
operator_ends the_operator.Divide = (refl, refl, refl)
operator_ends the_operator.Remainder = (refl, refl, refl)
operator_ends the_operator.Add = (refl, refl, refl)
operator_ends the_operator.Subtract = (refl, refl, refl)
operator_ends the_operator.ShiftLeft = (refl, refl, refl)
operator_ends the_operator.ShiftRight = (refl, refl, refl)
operator_ends the_operator.Less = (refl, refl, refl)
operator_ends the_operator.LessEqual = (refl, refl, refl)
operator_ends the_operator.Greater = (refl, refl, refl)
operator_ends the_operator.GreaterEqual = (refl, refl, refl)
operator_ends the_operator.Equal = (refl, refl, refl)
operator_ends the_operator.NotEqual = (refl, refl, refl)
operator_ends the_operator.BitAnd = (refl, refl, refl)
operator_ends the_operator.BitXor = (refl, refl, refl)
operator_ends the_operator.BitOr = (refl, refl, refl)
operator_ends the_operator.And = (refl, refl, refl)
operator_ends the_operator.Or = (refl, refl, refl)

prefix_is : (o : PrefixOperator) → prefix_of (prefix_operator_kind o) ≡ Some o
prefix_is the_prefix_operator.Negate = refl
prefix_is the_prefix_operator.Not = refl
prefix_is the_prefix_operator.Complement = refl

ltb_yes : (a b : ℕ) → a < b → ltb a b ≡ true
ltb_yes a b h = grind (arith, h)

ltb_no : (a b : ℕ) → b ≤ a → ltb a b ≡ false
ltb_no a b h = grind (arith, h)

follow_same : {A B : Type 0} (x : Read A) (f g : A → Reader B) → ((a : A) (ts : List Token) → f a ts ≡ g a ts) → follow x f ≡ follow x g
follow_same None f g h = refl
follow_same (Some x) f g h = h x.0 x.1

extend_here : (l : ExprTree) (o : Operator) (p : Place) (u : UnaryTree) → level_of o ≤ level l → extend l o p u ≡ ExprBinary l o p (ExprUnary u)
unfolding extend
extend_here (ExprUnary x) o p u h = refl
extend_here (ExprBinary a q s b) o p u h = rw (ltb_no (level_of q) (level_of o) h) refl
extend_here (ExprIn a i b r c) o p u h = refl

extend_right : (l : ExprTree) (q : Operator) (s : Place) (r : ExprTree) (o : Operator) (p : Place) (u : UnaryTree) → level_of q < level_of o → extend (ExprBinary l q s r) o p u ≡ ExprBinary l q s (extend r o p u)
unfolding extend
extend_right l q s r o p u h = rw (ltb_yes (level_of q) (level_of o) h) refl

extend_in_here : (l : ExprTree) (i b : Place) (r : RangesTree) (c : Place) → 6 ≤ level l → extend_in l i b r c ≡ ExprIn l i b r c
unfolding extend_in
extend_in_here (ExprUnary x) i b r c h = refl
extend_in_here (ExprBinary a q s e) i b r c h = rw (ltb_no (level_of q) 6 h) refl
extend_in_here (ExprIn a j d e f) i b r c h = refl

extend_in_right : (l : ExprTree) (q : Operator) (s : Place) (e : ExprTree) (i b : Place) (r : RangesTree) (c : Place) → level_of q < 6 → extend_in (ExprBinary l q s e) i b r c ≡ ExprBinary l q s (extend_in e i b r c)
unfolding extend_in
extend_in_right l q s e i b r c h = rw (ltb_yes (level_of q) 6 h) refl

-- the operators of an expression that stand outside its brackets
spine : ExprTree → ℕ
spine (ExprUnary u) = 0
spine (ExprBinary l o p r) = suc (spine l + spine r)
spine (ExprIn l i b r c) = suc (spine l)

spine_size : (e : ExprTree) → spine e ≤ size_expr e
unfolding spine
spine_size (ExprUnary u) = omega arith
spine_size (ExprBinary l o p r) = let a = spine_size l in let b = spine_size r in omega (arith, a, b)
spine_size (ExprIn l i b r c) = let a = spine_size l in omega (arith, a)

next_dot : (row : NextPartRow) (rest : List Token) → is_bracket (first_kind rest) ≡ false → is_bracket (first_kind (spell_next_part_row row ++ rest)) ≡ false
next_dot NoNextPartRow rest h = h
next_dot (MoreNextPartRow (MakeNextPart d p) tail) rest h = refl

no_colons : (p : PartTree) (row : NextPartRow) (rest : List Token) → is_colons (first_kind rest) ≡ false → is_colons (first_kind (others (spell_part p ++ (spell_next_part_row row ++ rest)))) ≡ false
no_colons (MakePart name NoIndex) NoNextPartRow rest h = h
no_colons (MakePart name NoIndex) (MoreNextPartRow (MakeNextPart d p) tail) rest h = refl
no_colons (MakePart name (SomeIndex (MakeIndex l e r))) row rest h = refl

no_prefix : (p : PrimaryTree) (rest : List Token) → prefix_of (first_kind (spell_primary p ++ rest)) ≡ None
no_prefix (PrimaryNumber number) rest = refl
no_prefix (PrimaryTrue place) rest = refl
no_prefix (PrimaryFalse place) rest = refl
no_prefix (PrimaryPath (PathDotted (MakePart name index) row)) rest = refl
no_prefix (PrimaryPath (PathItem a c b)) rest = refl
no_prefix (PrimaryPath (PathLongItem a c b d e)) rest = refl
no_prefix (PrimaryGroup l e r) rest = refl

next_comma : (row : NextRangeRow) (rest : List Token) → RangeEnds (first_kind rest) → RangeEnds (first_kind (spell_next_range_row row ++ rest))
next_comma NoNextRangeRow rest h = h
next_comma (MoreNextRangeRow (MakeNextRange c r) tail) rest h = (((refl, refl, refl), refl, refl), refl)

-- E gives back each expression that is small enough
abbrev GivesBack : Reader ExprTree → ℕ → Type 0
GivesBack E n = (e : ExprTree) → IsProperExpr e → size_expr e < n → (rest : List Token) → Ends (first_kind rest) → E (spell_expr e ++ rest) ≡ Some (e, rest)

module _ (E : Reader ExprTree) (n : ℕ) (again : GivesBack E n) where
  closed : (e : ExprTree) (h : IsProperExpr e) → size_expr e < n → (k : Kind) (p : Place) (rest : List Token) → Ends k → E ((spell_expr e ++ mark k p ∷ []) ++ rest) ≡ Some (e, mark k p ∷ rest)
  closed e h s k p rest ends = ap E (append_assoc (spell_expr e) (mark k p ∷ []) rest) ∙ again e h s (mark k p ∷ rest) ends

  part_again : (p : PartTree) → IsProperPart p → size_part p ≤ n → (rest : List Token) → is_bracket (first_kind rest) ≡ false → read_part E (spell_part p ++ rest) ≡ Some (p, rest)
  unfolding read_part
  part_again (MakePart name NoIndex) h s rest b = rw b refl
  part_again (MakePart name (SomeIndex (MakeIndex l e r))) h s rest b = rw (closed e h (omega (arith, s)) kind.RightBracket r rest ((refl, refl, refl), refl, refl)) refl

  parts_again : (row : NextPartRow) → AreProperNextPart row → size_parts row ≤ n → (k : ℕ) → size_parts row ≤ k → (rest : List Token) → is_dot (first_kind rest) ≡ false → is_bracket (first_kind rest) ≡ false → read_parts E k (spell_next_part_row row ++ rest) ≡ Some (row, rest)
  unfolding read_parts
  parts_again NoNextPartRow h s zero t rest d b = refl
  parts_again NoNextPartRow h s (suc k) t rest d b = rw d refl
  parts_again (MoreNextPartRow (MakeNextPart d p) tail) h s zero t rest e b = absurd (let f : ⊥ = omega (arith, t) in f)
  parts_again (MoreNextPartRow (MakeNextPart d p) tail) h s (suc k) t rest e b =
      let one = part_again p h.0 (omega (arith, s)) (spell_next_part_row tail ++ rest) (next_dot tail rest b) in
      let more = parts_again tail h.1 (omega (arith, s)) k (omega (arith, t)) rest e b in
      rw (append_assoc (spell_part p) (spell_next_part_row tail) rest, one, more) refl

  path_again : (p : PathTree) → IsProperPath p → size_path p ≤ n → (rest : List Token) → PathEnds (first_kind rest) → read_path E (suc n) (spell_path p ++ rest) ≡ Some (p, rest)
  unfolding read_path read_item
  path_again (PathDotted f row) h s rest ends =
      let one = part_again f h.0 (omega (arith, s)) (spell_next_part_row row ++ rest) (next_dot row rest ends.1) in
      let more = parts_again row h.1 (omega (arith, s)) (suc n) (omega (arith, s)) rest ends.0 ends.1 in
      rw (append_assoc (spell_part f) (spell_next_part_row row) rest, no_colons f row rest ends.2, one, more) refl
  path_again (PathItem a c b) h s rest ends = rw (ends.2) refl
  path_again (PathLongItem a c b d e) h s rest ends = refl

  primary_again : (p : PrimaryTree) → IsProperPrimary p → size_primary p ≤ n → (rest : List Token) → PathEnds (first_kind rest) → primary_by E (suc n) (spell_primary p ++ rest) (first_kind (spell_primary p ++ rest)) ≡ Some (p, rest)
  primary_again (PrimaryNumber number) h s rest ends = refl
  primary_again (PrimaryTrue place) h s rest ends = refl
  primary_again (PrimaryFalse place) h s rest ends = refl
  primary_again (PrimaryPath (PathDotted (MakePart name index) row)) h s rest ends = rw (path_again (PathDotted (MakePart name index) row) h s rest ends) refl
  primary_again (PrimaryPath (PathItem a c b)) h s rest ends = rw (path_again (PathItem a c b) h s rest ends) refl
  primary_again (PrimaryPath (PathLongItem a c b d e)) h s rest ends = rw (path_again (PathLongItem a c b d e) h s rest ends) refl
  primary_again (PrimaryGroup l e r) h s rest ends = rw (closed e h (omega (arith, s)) kind.RightParenthesis r rest ((refl, refl, refl), refl, refl)) refl

  unary_again : (u : UnaryTree) → IsProperUnary u → size_unary u ≤ n → (k : ℕ) → size_unary u < k → (rest : List Token) → PathEnds (first_kind rest) → read_unary E (suc n) k (spell_unary u ++ rest) ≡ Some (u, rest)
  unfolding read_unary
  unary_again (UnaryPrefix o p u) h s zero t rest ends = absurd (let f : ⊥ = omega (arith, t) in f)
  unary_again (UnaryPrefix o p u) h s (suc k) t rest ends = rw (prefix_is o, unary_again u h (omega (arith, s)) k (omega (arith, t)) rest ends) refl
  unary_again (UnaryPrimary p) h s zero t rest ends = absurd (let f : ⊥ = omega (arith, t) in f)
  unary_again (UnaryPrimary p) h s (suc k) t rest ends = rw (no_prefix p rest, primary_again p h s rest ends) refl

  range_again : (r : RangeTree) → IsProperRange r → size_range r < n → (rest : List Token) → RangeEnds (first_kind rest) → read_range E (spell_range r ++ rest) ≡ Some (r, rest)
  unfolding read_range
  range_again (RangeSingle e) h s rest ends = rw (again e h s rest ends.0, ends.1) refl
  range_again (RangeBetween low d high) h s rest ends =
      rw (append_assoc (spell_expr low) (mark kind.DotDot d ∷ spell_expr high) rest, again low h.0 (omega (arith, s)) (mark kind.DotDot d ∷ (spell_expr high ++ rest)) ((refl, refl, refl), refl, refl), again high h.1 (omega (arith, s)) rest ends.0) refl

  range_row_again : (row : NextRangeRow) → AreProperNextRange row → size_range_row row < n → (k : ℕ) → size_range_row row ≤ k → (rest : List Token) → RangeEnds (first_kind rest) → is_comma (first_kind rest) ≡ false → read_range_row E k (spell_next_range_row row ++ rest) ≡ Some (row, rest)
  unfolding read_range_row
  range_row_again NoNextRangeRow h s zero t rest ends comma = refl
  range_row_again NoNextRangeRow h s (suc k) t rest ends comma = rw comma refl
  range_row_again (MoreNextRangeRow (MakeNextRange c r) tail) h s zero t rest ends comma = absurd (let f : ⊥ = omega (arith, t) in f)
  range_row_again (MoreNextRangeRow (MakeNextRange c r) tail) h s (suc k) t rest ends comma =
      let one = range_again r h.0 (omega (arith, s)) (spell_next_range_row tail ++ rest) (next_comma tail rest ends) in
      let more = range_row_again tail h.1 (omega (arith, s)) k (omega (arith, t)) rest ends comma in
      rw (append_assoc (spell_range r) (spell_next_range_row tail) rest, one, more) refl

  ranges_again : (r : RangesTree) → IsProperRanges r → size_ranges r < n → (rest : List Token) → RangeEnds (first_kind rest) → is_comma (first_kind rest) ≡ false → read_ranges E (suc n) (spell_ranges r ++ rest) ≡ Some (r, rest)
  unfolding read_ranges
  ranges_again (MakeRanges f row) h s rest ends comma =
      let one = range_again f h.0 (omega (arith, s)) (spell_next_range_row row ++ rest) (next_comma row rest ends) in
      let more = range_row_again row h.1 (omega (arith, s)) (suc n) (omega (arith, s)) rest ends comma in
      rw (append_assoc (spell_range f) (spell_next_range_row row) rest, one, more) refl

  -- round a part on the right, what binds at least as tightly as k extends the part
  record Commutes (k : ℕ) (C : ExprTree → ExprTree) : Type 0 where
    operators : (e : ExprTree) (o : Operator) (p : Place) (u : UnaryTree) → k ≤ level_of o → extend (C e) o p u ≡ C (extend e o p u)
    ranges : (e : ExprTree) (i b : Place) (r : RangesTree) (c : Place) → k ≤ 6 → extend_in (C e) i b r c ≡ C (extend_in e i b r c)

  inner : (k : ℕ) (C : ExprTree → ExprTree) → Commutes k C → (l : ExprTree) (o : Operator) (p : Place) → k ≤ level_of o → Commutes (suc (level_of o)) (λ e. C (ExprBinary l o p e))
  inner k C c l o p h = record {
    operators = λ e q s u t. c.operators (ExprBinary l o p e) q s u (omega (arith, h, t)) ∙ ap C (extend_right l o p e q s u (omega (arith, t)));
    ranges = λ e i b r d t. c.ranges (ExprBinary l o p e) i b r d (omega (arith, h, t)) ∙ ap C (extend_in_right l o p e i b r d (omega (arith, t)));
  }

  -- an operand with the operators behind it
  abbrev start : ℕ → (ExprTree → ExprTree) → Reader ExprTree
  start g C ts = follow (read_unary E (suc n) (suc (suc n)) ts) (λ u rest. read_chain E (suc n) g (C (ExprUnary u)) rest)

  operator_step : (f : ℕ) (left : ExprTree) (o : Operator) (p : Place) (ts : List Token) → read_chain E (suc n) (suc f) left (mark (operator_kind o) p ∷ ts) ≡ follow (read_unary E (suc n) (suc (suc n)) ts) (λ u rest. read_chain E (suc n) f (extend left o p u) rest)
  unfolding read_chain
  operator_step f left o p ts = rw (operator_is o) refl

  in_step : (f : ℕ) (left : ExprTree) (i b : Place) (r : RangesTree) (c : Place) (ts : List Token) → read_ranges E (suc n) (spell_ranges r ++ (mark kind.RightBracket c ∷ ts)) ≡ Some (r, mark kind.RightBracket c ∷ ts) → read_chain E (suc n) (suc f) left (mark kind.In i ∷ mark kind.LeftBracket b ∷ (spell_ranges r ++ (mark kind.RightBracket c ∷ ts))) ≡ read_chain E (suc n) f (extend_in left i b r c) ts
  unfolding read_chain
  in_step f left i b r c ts h = rw h refl

  grow : (e : ExprTree) → IsProperExpr e → size_expr e ≤ n → (k : ℕ) (C : ExprTree → ExprTree) → Commutes k C → k ≤ level e → (f g : ℕ) → g ≡ spine e + f → (rest : List Token) → PathEnds (first_kind rest) → start g C (spell_expr e ++ rest) ≡ read_chain E (suc n) f (C e) rest
  unfolding spine
  grow (ExprUnary u) h s k C c lk f g eq rest ends =
      let same : g ≡ f = omega (arith, eq) in
      rw (unary_again u h s (suc (suc n)) (omega (arith, s)) rest ends, same) refl
  grow (ExprBinary l o p r) h s k C c lk f g eq rest ends =
      ap (start g C) (append_assoc (spell_expr l) (mark (operator_kind o) p ∷ spell_expr r) rest)
      ∙ grow l h.0 (omega (arith, s)) k C c (omega (arith, lk, h.2)) (suc (spine r + f)) g (omega (arith, eq)) (mark (operator_kind o) p ∷ (spell_expr r ++ rest)) (operator_ends o)
      ∙ operator_step (spine r + f) (C l) o p (spell_expr r ++ rest)
      ∙ follow_same (read_unary E (suc n) (suc (suc n)) (spell_expr r ++ rest)) (λ u ts. read_chain E (suc n) (spine r + f) (extend (C l) o p u) ts) (λ u ts. read_chain E (suc n) (spine r + f) (C (ExprBinary l o p (ExprUnary u))) ts) (λ u ts. ap (λ (x : ExprTree). read_chain E (suc n) (spine r + f) x ts) (c.operators l o p u lk ∙ ap C (extend_here l o p u h.2)))
      ∙ grow r h.1 (omega (arith, s)) (suc (level_of o)) (λ e. C (ExprBinary l o p e)) (inner k C c l o p lk) (omega (arith, h.3)) f (spine r + f) refl rest ends
  grow (ExprIn l i b r d) h s k C c lk f g eq rest ends =
      ap (start g C) (append_assoc (spell_expr l) (mark kind.In i ∷ mark kind.LeftBracket b ∷ (spell_ranges r ++ mark kind.RightBracket d ∷ [])) rest ∙ ap (λ (ts : List Token). spell_expr l ++ (mark kind.In i ∷ mark kind.LeftBracket b ∷ ts)) (append_assoc (spell_ranges r) (mark kind.RightBracket d ∷ []) rest))
      ∙ grow l h.0 (omega (arith, s)) k C c (omega (arith, lk, h.2)) (suc f) g (omega (arith, eq)) (mark kind.In i ∷ mark kind.LeftBracket b ∷ (spell_ranges r ++ (mark kind.RightBracket d ∷ rest))) (refl, refl, refl)
      ∙ in_step f (C l) i b r d rest (ranges_again r h.1 (omega (arith, s)) (mark kind.RightBracket d ∷ rest) (((refl, refl, refl), refl, refl), refl) refl)
      ∙ ap (λ (x : ExprTree). read_chain E (suc n) f x rest) (c.ranges l i b r d lk ∙ ap C (extend_in_here l i b r d h.2))

  chain_ends : (f : ℕ) (e : ExprTree) (rest : List Token) → Ends (first_kind rest) → read_chain E (suc n) f e rest ≡ Some (e, rest)
  unfolding read_chain
  chain_ends zero e rest ends = refl
  chain_ends (suc f) e rest ends = rw (ends.1, ends.2) refl

  whole : (e : ExprTree) → IsProperExpr e → size_expr e ≤ n → (rest : List Token) → Ends (first_kind rest) → start (suc n) (λ x. x) (spell_expr e ++ rest) ≡ Some (e, rest)
  whole e h s rest ends =
      let small = spine_size e in
      grow e h s 0 (λ x. x) (record { operators = λ e o p u t. refl; ranges = λ e i b r c t. refl }) (omega arith) (suc n - spine e) (suc n) (omega (arith, s, small)) rest ends.0
      ∙ chain_ends (suc n - spine e) e rest ends

pub expr_again : (n : ℕ) → GivesBack (read_expr n) n
unfolding read_expr
expr_again zero e h s rest ends = absurd (let f : ⊥ = omega (arith, s) in f)
expr_again (suc n) e h s rest ends = whole (read_expr n) n (expr_again n) e h (omega (arith, s)) rest ends

first_of : {A : Type 0} → A → Read A → A
first_of a None = a
first_of a (Some x) = x.0

abbrev found : {A : Type 0} → A → Read A
found a = Some (a, [])

-- where reading gives back what two trees spell, and they spell the same, they are one
same_found : {A : Type 0} (read : Reader A) (spell : A → List Token) (a b : A) → read (spell a ++ []) ≡ found a → read (spell b ++ []) ≡ found b → spell a ≡ spell b → a ≡ b
unfolding first_of
same_found read spell a b ra rb e = ap (first_of a) (sym ra ∙ ap (λ (ts : List Token). read (ts ++ [])) e ∙ rb)

pub one_expr : (a b : ExprTree) → IsProperExpr a → IsProperExpr b → spell_expr a ≡ spell_expr b → a ≡ b
one_expr a b p q e =
    let n = suc (size_expr a + size_expr b) in
    same_found (read_expr n) spell_expr a b (expr_again n a p (omega arith) [] ((refl, refl, refl), refl, refl)) (expr_again n b q (omega arith) [] ((refl, refl, refl), refl, refl)) e

pub one_unary : (a b : UnaryTree) → IsProperUnary a → IsProperUnary b → spell_unary a ≡ spell_unary b → a ≡ b
one_unary a b p q e =
    let n = size_unary a + size_unary b in
    same_found (read_unary (read_expr n) (suc n) (suc n)) spell_unary a b (unary_again (read_expr n) n (expr_again n) a p (omega arith) (suc n) (omega arith) [] (refl, refl, refl)) (unary_again (read_expr n) n (expr_again n) b q (omega arith) (suc n) (omega arith) [] (refl, refl, refl)) e

pub one_primary : (a b : PrimaryTree) → IsProperPrimary a → IsProperPrimary b → spell_primary a ≡ spell_primary b → a ≡ b
one_primary a b p q e =
    let n = size_primary a + size_primary b in
    same_found (λ ts. primary_by (read_expr n) (suc n) ts (first_kind ts)) spell_primary a b (primary_again (read_expr n) n (expr_again n) a p (omega arith) [] (refl, refl, refl)) (primary_again (read_expr n) n (expr_again n) b q (omega arith) [] (refl, refl, refl)) e

pub one_path : (a b : PathTree) → IsProperPath a → IsProperPath b → spell_path a ≡ spell_path b → a ≡ b
one_path a b p q e =
    let n = size_path a + size_path b in
    same_found (read_path (read_expr n) (suc n)) spell_path a b (path_again (read_expr n) n (expr_again n) a p (omega arith) [] (refl, refl, refl)) (path_again (read_expr n) n (expr_again n) b q (omega arith) [] (refl, refl, refl)) e

pub one_part : (a b : PartTree) → IsProperPart a → IsProperPart b → spell_part a ≡ spell_part b → a ≡ b
one_part a b p q e =
    let n = size_part a + size_part b in
    same_found (read_part (read_expr n)) spell_part a b (part_again (read_expr n) n (expr_again n) a p (omega arith) [] refl) (part_again (read_expr n) n (expr_again n) b q (omega arith) [] refl) e

pub one_range : (a b : RangeTree) → IsProperRange a → IsProperRange b → spell_range a ≡ spell_range b → a ≡ b
one_range a b p q e =
    let n = suc (size_range a + size_range b) in
    same_found (read_range (read_expr n)) spell_range a b (range_again (read_expr n) n (expr_again n) a p (omega arith) [] (((refl, refl, refl), refl, refl), refl)) (range_again (read_expr n) n (expr_again n) b q (omega arith) [] (((refl, refl, refl), refl, refl), refl)) e

pub one_ranges : (a b : RangesTree) → IsProperRanges a → IsProperRanges b → spell_ranges a ≡ spell_ranges b → a ≡ b
one_ranges a b p q e =
    let n = suc (size_ranges a + size_ranges b) in
    same_found (read_ranges (read_expr n) (suc n)) spell_ranges a b (ranges_again (read_expr n) n (expr_again n) a p (omega arith) [] (((refl, refl, refl), refl, refl), refl) refl) (ranges_again (read_expr n) n (expr_again n) b q (omega arith) [] (((refl, refl, refl), refl, refl), refl) refl) e

pub one_tree_of_expressions : OneTreeOfExpressions
one_tree_of_expressions = (one_expr, (λ o a b p q e. one_expr a b p.0 q.0 e), (λ o a b p q e. one_expr a b p.0 q.0 e), (λ a b p q e. one_expr a b p.0 q.0 e), one_unary, one_primary, one_path, one_part, one_ranges, one_range)
