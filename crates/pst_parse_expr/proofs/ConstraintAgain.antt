-- Constraints read what they spell again.
use Rattle.std.proofs.Common.{◌≡◌, ℕ, zero, suc, ◌≤◌, ◌<◌, Bool, true, false, if◌then◌else◌, List, [], ◌∷◌, ◌++◌, length, Some, Option, refl, sym, ap, subst, ◌∙◌, arith, append-nil, append_assoc, length-append}
use Rattle.std.specs.List.{flat_map, AllByRecursion}
use Rattle.pst_base.specs.declared.position.Place.{Place}
use Rattle.pst_token.specs.declared.kind.Kind.TheVariants as kind
use Rattle.pst_token.specs.declared.token.Token.{Token}
use Rattle.pst_ast.specs.declared.leaf.Name.{Name}
use Rattle.pst_ast.specs.declared.shared.DotName.{DotName}
use Rattle.pst_ast.specs.Marks.{mark, name_token}
use Rattle.pst_ast.specs.Limits.{Count, counted}
use Rattle.pst_ast.specs.ExpressionTree.{ExprTree}
use Rattle.pst_ast.specs.ExpressionSpelling.{spell_expr}
use Rattle.pst_ast.specs.ExpressionProper.{IsProperExpr}
use Rattle.pst_ast.specs.ExpressionLimits.{counts_expr}
use Rattle.pst_ast.specs.SharedTree.{NextExprTree, MakeNextExpr}
use Rattle.pst_ast.specs.SharedSpelling.{spell_next_expr, spell_dot_name}
use Rattle.pst_ast.specs.SharedProper.{IsProperNextExpr}
use Rattle.pst_ast.specs.SharedLimits.{counts_next_expr, counts_dot_name}
use Rattle.pst_ast.specs.ConstraintTree.{ConstraintTree, ConstraintOne, ConstraintBlock, ConstraintItemTree, ConstraintItemEmpty, ConstraintItemExpr, ConstraintItemImplies, ConstraintItemIf, ConstraintItemIfElse, ConstraintItemUnique, ConstraintItemForeach, ConstraintItemRow, NoConstraintItemRow, MoreConstraintItemRow}
use Rattle.pst_ast.specs.ConstraintSpelling.{spell_constraint, spell_constraint_item, spell_constraint_item_row}
use Rattle.pst_ast.specs.ConstraintProper.{constraint_ends_open, item_ends_open, IsProperConstraint, IsProperConstraintItem, AreProperConstraintItem}
use Rattle.pst_ast.specs.ConstraintLimits.{counts_constraint, counts_constraint_item}
use Rattle.pst_reading.specs.Kinds.{is_mark, next_is}
use Rattle.pst_reading.specs.Parser.{Parser, Done, next}
use Rattle.pst_reading.proofs.Becoming.{Becomes, stays, becomes_both, becomes_followed}
use Rattle.pst_reading.proofs.Marks.{choice_becomes}
use Rattle.pst_reading.proofs.Tokens.{mark_is_so}
use Rattle.pst_reading.proofs.Chains.{becomes_mark, becomes_name}
use Rattle.pst_reading.proofs.Lists.{StartsPart, list_again}
use Rattle.pst_parse_expr.specs.Constraints.{Within, outermost_at, is_at, is_other, ConditionTree, condition_close, condition_inner, condition_by, next_expr_by, next_expr_inner, next_exprs_by, dot_name_by, dot_name_inner, dot_names_by, behind_expr, expr_end, implies_by, implied_by, expr_item_by, else_by, otherwise_by, maybe_else_by, behind_then, then_by, if_condition_by, if_by, unique_end, unique_close, unique_by, unique_open, unique_first, unique_rest, SubscriptTree, subscript_by, subscript_name, subscript_close, subscript_end, foreach_by, foreach_open, foreach_first, foreach_rest, foreach_index, foreach_set, empty_by, item_by, item_row, items_by, block_close, block_items, block_by, one_by, set_by, constraint_at}
use Rattle.pst_parse_operator.proofs.Stops.{IsNo, Separates, separated, semicolon_closes, arrow_closes, right_parenthesis_closes, right_brace_closes, comma_closes}
use Rattle.pst_parse_operator.proofs.ExprAgain.{expr_again}
use Rattle.pst_parse_expr.proofs.Starts.{BeginsItem, begins_empty, begins_if, begins_unique, begins_foreach, begins_with_expr, starts_expr, item_starts}
use Rattle.pst_parse_expr.proofs.ConstraintExplains.{items_spelled, items_counted}
use Rattle.pst_parse_expr.proofs.SharedLaws.{IsAny, spell_condition, IsProperCondition, counts_condition, spell_subscript, counts_subscript, same_text, bracketed, no_arrow, no_comma_at_brace, no_dot_at_bracket, brace_is_no_else, brace_ends, condition_again, next_expr_again, next_expr_starts, some_next_expr, dot_name_again, subscript_again}

-- what may follow a set: behind an open `if` no `else`
abbrev pub StopsSet : ConstraintTree → Option Token → Type 0
StopsSet s next = constraint_ends_open s ≡ true → IsNo kind.Else next

-- ---- rows as lists

list_of : ConstraintItemRow → List ConstraintItemTree
list_of NoConstraintItemRow = []
list_of (MoreConstraintItemRow item items) = item ∷ list_of items

row_is : (items : ConstraintItemRow) → item_row (list_of items) ≡ items
unfolding list_of
row_is NoConstraintItemRow = refl
row_is (MoreConstraintItemRow item items) = ap (MoreConstraintItemRow item) (row_is items)

all_proper : (items : List ConstraintItemTree) → AreProperConstraintItem (item_row items) → AllByRecursion IsProperConstraintItem items
all_proper [] h = tt
all_proper (item ∷ items) h = (h.0, all_proper items h.1)

pub some_item : (item : ConstraintItemTree) → 1 ≤ length (spell_constraint_item item)
some_item (ConstraintItemEmpty p) = omega arith
some_item (ConstraintItemExpr e p) = omega (arith, length-append (spell_expr e) (mark kind.Semicolon p ∷ []))
some_item (ConstraintItemImplies e p s) = omega (arith, length-append (spell_expr e) (mark kind.Arrow p ∷ spell_constraint s))
some_item (ConstraintItemIf i l e r t) = omega arith
some_item (ConstraintItemIfElse i l e r t x o) = omega arith
some_item (ConstraintItemUnique u l e es r s) = omega arith
some_item (ConstraintItemForeach f l n ns b i r c s) = omega arith

module _ (X : Within ExprTree) (S : Within ConstraintTree) (size : ℕ) (AX : (d : ℕ) (e : ExprTree) (rest : List Token) → IsProperExpr e → length (spell_expr e) ≤ size → Separates 0 (next rest) → Becomes (X d) (spell_expr e ++ rest) (counts_expr d 0 e) (Done e) rest) (AS : (d : ℕ) (s : ConstraintTree) (rest : List Token) → IsProperConstraint s → length (spell_constraint s) < size → StopsSet s (next rest) → Becomes (S d) (spell_constraint s ++ rest) (counts_constraint d s) (Done s) rest) where
  -- ---- one constraint

  abbrev Again : ℕ → ConstraintItemTree → List Token → Type 0
  Again d item rest = Becomes (item_by X S size (suc d)) (spell_constraint_item item ++ rest) (counts_constraint_item d item) (Done item) rest

  -- the choices of a constraint
  choices : (d : ℕ) (s i u f : Bool) (ts us : List Token) (cs : List Count) (r : Parser ConstraintItemTree) → BeginsItem s i u f (next ts)
      → Becomes (if s then empty_by d else (if i then if_by X S d else (if u then unique_by X size d else (if f then foreach_by S size d else expr_item_by X S d)))) ts cs r us
      → Becomes (item_by X S size d) ts cs r us
  choices d true i u f ts us cs r w h = choice_becomes kind.Semicolon (empty_by d) _ r ts us cs true w.is_semicolon h
  choices d false true u f ts us cs r w h = choice_becomes kind.Semicolon (empty_by d) _ r ts us cs false w.is_semicolon (choice_becomes kind.If (if_by X S d) _ r ts us cs true w.is_if h)
  choices d false false true f ts us cs r w h = choice_becomes kind.Semicolon (empty_by d) _ r ts us cs false w.is_semicolon (choice_becomes kind.If (if_by X S d) _ r ts us cs false w.is_if (choice_becomes kind.Unique (unique_by X size d) _ r ts us cs true w.is_unique h))
  choices d false false false true ts us cs r w h = choice_becomes kind.Semicolon (empty_by d) _ r ts us cs false w.is_semicolon (choice_becomes kind.If (if_by X S d) _ r ts us cs false w.is_if (choice_becomes kind.Unique (unique_by X size d) _ r ts us cs false w.is_unique (choice_becomes kind.Foreach (foreach_by S size d) (expr_item_by X S d) r ts us cs true w.is_foreach h)))
  choices d false false false false ts us cs r w h = choice_becomes kind.Semicolon (empty_by d) _ r ts us cs false w.is_semicolon (choice_becomes kind.If (if_by X S d) _ r ts us cs false w.is_if (choice_becomes kind.Unique (unique_by X size d) _ r ts us cs false w.is_unique (choice_becomes kind.Foreach (foreach_by S size d) (expr_item_by X S d) r ts us cs false w.is_foreach h)))

  expr_again_item : (d : ℕ) (e : ExprTree) (p : Place) (rest : List Token) → IsProperExpr e → length (spell_expr e) ≤ size → Again d (ConstraintItemExpr e p) rest
  expr_again_item d e p rest proper short =
      let c = counted (suc d) 0 in
      let item = ConstraintItemExpr e p in
      let us = mark kind.Semicolon p ∷ rest in
      let cs = counts_expr (suc d) 0 e in
      same_text (item_by X S size (suc d)) (Done item) (spell_constraint_item item ++ rest) (spell_expr e ++ us) rest (counts_constraint_item d item) (counts_constraint_item d item)
      (sym (append_assoc (spell_expr e) (mark kind.Semicolon p ∷ []) rest)) refl
      (choices (suc d) false false false false (spell_expr e ++ us) rest (counts_constraint_item d item) (Done item) (begins_with_expr _ (starts_expr e us))
      (becomes_both (X (suc d)) (behind_expr S (suc d)) e (Done item) (spell_expr e ++ us) us rest cs (c ∷ []) (AX (suc d) e us proper short (semicolon_closes p))
      (choice_becomes kind.Arrow (implies_by S (suc d) e) (expr_end (suc d) e) (Done item) us rest (c ∷ []) false (no_arrow p)
      (becomes_mark kind.Semicolon c (λ x. Done (ConstraintItemExpr e x)) p (Done item) rest rest [] (stays (Done item) rest)))))

  implies_again_item : (d : ℕ) (e : ExprTree) (p : Place) (s : ConstraintTree) (rest : List Token) → IsProperExpr e → IsProperConstraint s → length (spell_expr e) ≤ size → length (spell_constraint s) < size → StopsSet s (next rest) → Again d (ConstraintItemImplies e p s) rest
  implies_again_item d e p s rest proper propers short shorts stops =
      let c = counted (suc d) 0 in
      let item = ConstraintItemImplies e p s in
      let us = mark kind.Arrow p ∷ (spell_constraint s ++ rest) in
      let cs = counts_expr (suc d) 0 e in
      let ds = counts_constraint (suc d) s in
      same_text (item_by X S size (suc d)) (Done item) (spell_constraint_item item ++ rest) (spell_expr e ++ us) rest (counts_constraint_item d item) (counts_constraint_item d item)
      (sym (append_assoc (spell_expr e) (mark kind.Arrow p ∷ spell_constraint s) rest)) refl
      (choices (suc d) false false false false (spell_expr e ++ us) rest (counts_constraint_item d item) (Done item) (begins_with_expr _ (starts_expr e us))
      (becomes_both (X (suc d)) (behind_expr S (suc d)) e (Done item) (spell_expr e ++ us) us rest cs (c ∷ ds) (AX (suc d) e us proper short (arrow_closes p))
      (choice_becomes kind.Arrow (implies_by S (suc d) e) (expr_end (suc d) e) (Done item) us rest (c ∷ ds) true (mark_is_so kind.Arrow p)
      (becomes_mark kind.Arrow c (implied_by S (suc d) e) p (Done item) (spell_constraint s ++ rest) rest ds
      (becomes_followed (S (suc d)) (Done s) (λ x. Done (ConstraintItemImplies e p x)) (spell_constraint s ++ rest) rest ds (AS (suc d) s rest propers shorts stops))))))

  -- a condition and its part, and then the rest
  if_becomes : (d : ℕ) (i : Place) (g : ConditionTree) (t : ConstraintTree) (r : Parser ConstraintItemTree) (us rest : List Token) (cs : List Count) → IsProperCondition g → IsProperConstraint t → length (spell_condition g) ≤ size → length (spell_constraint t) < size → StopsSet t (next us) → Becomes (behind_then S d i g t) us cs r rest → Becomes (if_by X S d) (mark kind.If i ∷ (spell_condition g ++ (spell_constraint t ++ us))) (counted d 0 ∷ (counts_condition d g ++ (counts_constraint d t ++ cs))) r rest
  if_becomes d i g t r us rest cs proper propert short shortt stops h =
      becomes_mark kind.If (counted d 0) (if_condition_by X S d) i r (spell_condition g ++ (spell_constraint t ++ us)) rest (counts_condition d g ++ (counts_constraint d t ++ cs))
      (becomes_both (condition_by X d) (then_by S d i) g r (spell_condition g ++ (spell_constraint t ++ us)) (spell_constraint t ++ us) rest (counts_condition d g) (counts_constraint d t ++ cs) (condition_again X size AX d g (spell_constraint t ++ us) proper short)
      (becomes_both (S d) (behind_then S d i g) t r (spell_constraint t ++ us) us rest (counts_constraint d t) cs (AS d t us propert shortt stops) h))

  -- no `else` behind it
  only_then : (d : ℕ) (i : Place) (g : ConditionTree) (t : ConstraintTree) (rest : List Token) → IsNo kind.Else (next rest) → (b : Bool) → Becomes (maybe_else_by S d i g t b) rest [] (Done (ConstraintItemIf i g.0 g.1 g.2 t)) rest
  only_then d i g t rest none true = stays (Done (ConstraintItemIf i g.0 g.1 g.2 t)) rest
  only_then d i g t rest none false = choice_becomes kind.Else (else_by S d i g t) (Done (ConstraintItemIf i g.0 g.1 g.2 t)) (Done (ConstraintItemIf i g.0 g.1 g.2 t)) rest rest [] false none (stays (Done (ConstraintItemIf i g.0 g.1 g.2 t)) rest)

  if_again_item : (d : ℕ) (i l : Place) (e : ExprTree) (r : Place) (t : ConstraintTree) (rest : List Token) → IsProperExpr e → IsProperConstraint t → length (spell_condition (l, e, r)) ≤ size → length (spell_constraint t) < size → IsNo kind.Else (next rest) → Again d (ConstraintItemIf i l e r t) rest
  if_again_item d i l e r t rest proper propert short shortt none =
      let c = counted (suc d) 0 in
      let g : ConditionTree = (l, e, r) in
      let item = ConstraintItemIf i l e r t in
      let ts = mark kind.If i ∷ (spell_condition g ++ (spell_constraint t ++ rest)) in
      let cs = c ∷ (counts_condition (suc d) g ++ (counts_constraint (suc d) t ++ [])) in
      same_text (item_by X S size (suc d)) (Done item) (spell_constraint_item item ++ rest) ts rest (counts_constraint_item d item) cs
      (ap (λ (u : List Token). mark kind.If i ∷ mark kind.LeftParenthesis l ∷ u) (bracketed (spell_expr e) (mark kind.RightParenthesis r) (spell_constraint t) rest))
      (ap (λ (u : List Count). c ∷ c ∷ u) (bracketed (counts_expr (suc d) 0 e) c (counts_constraint (suc d) t) [] ∙ append-nil (counts_expr (suc d) 0 e ++ c ∷ counts_constraint (suc d) t)))
      (choices (suc d) false true false false ts rest cs (Done item) (begins_if i)
      (if_becomes (suc d) i g t (Done item) rest rest [] proper propert short shortt (λ opens. none) (only_then (suc d) i g t rest none (constraint_ends_open t))))

  -- an `else` behind it
  with_else : (d : ℕ) (i : Place) (g : ConditionTree) (t : ConstraintTree) (x : Place) (o : ConstraintTree) (rest : List Token) → IsProperConstraint o → length (spell_constraint o) < size → StopsSet o (next rest) → (b : Bool) → constraint_ends_open t ≡ b → b ≡ false → Becomes (maybe_else_by S d i g t b) (mark kind.Else x ∷ (spell_constraint o ++ rest)) (counted d 0 ∷ counts_constraint d o) (Done (ConstraintItemIfElse i g.0 g.1 g.2 t x o)) rest
  with_else d i g t x o rest proper short stops true e f = absurd cc
  with_else d i g t x o rest proper short stops false e f =
      let us = mark kind.Else x ∷ (spell_constraint o ++ rest) in
      let ds = counts_constraint d o in
      let item = ConstraintItemIfElse i g.0 g.1 g.2 t x o in
      choice_becomes kind.Else (else_by S d i g t) (Done (ConstraintItemIf i g.0 g.1 g.2 t)) (Done item) us rest (counted d 0 ∷ ds) true (mark_is_so kind.Else x)
      (becomes_mark kind.Else (counted d 0) (otherwise_by S d i g t) x (Done item) (spell_constraint o ++ rest) rest ds
      (becomes_followed (S d) (Done o) (λ y. Done (ConstraintItemIfElse i g.0 g.1 g.2 t x y)) (spell_constraint o ++ rest) rest ds (AS d o rest proper short stops)))

  if_else_again_item : (d : ℕ) (i l : Place) (e : ExprTree) (r : Place) (t : ConstraintTree) (x : Place) (o : ConstraintTree) (rest : List Token) → IsProperExpr e → IsProperConstraint t → IsProperConstraint o → constraint_ends_open t ≡ false → length (spell_condition (l, e, r)) ≤ size → length (spell_constraint t) < size → length (spell_constraint o) < size → StopsSet o (next rest) → Again d (ConstraintItemIfElse i l e r t x o) rest
  if_else_again_item d i l e r t x o rest proper propert propero closed short shortt shorto stops =
      let c = counted (suc d) 0 in
      let g : ConditionTree = (l, e, r) in
      let item = ConstraintItemIfElse i l e r t x o in
      let us = mark kind.Else x ∷ (spell_constraint o ++ rest) in
      let ds = c ∷ counts_constraint (suc d) o in
      let ts = mark kind.If i ∷ (spell_condition g ++ (spell_constraint t ++ us)) in
      let cs = c ∷ (counts_condition (suc d) g ++ (counts_constraint (suc d) t ++ ds)) in
      let both = spell_constraint t ++ mark kind.Else x ∷ spell_constraint o in
      same_text (item_by X S size (suc d)) (Done item) (spell_constraint_item item ++ rest) ts rest (counts_constraint_item d item) cs
      (ap (λ (u : List Token). mark kind.If i ∷ mark kind.LeftParenthesis l ∷ ((spell_expr e ++ mark kind.RightParenthesis r ∷ []) ++ u)) (sym (append_assoc (spell_constraint t) (mark kind.Else x ∷ spell_constraint o) rest))
      ∙ ap (λ (u : List Token). mark kind.If i ∷ mark kind.LeftParenthesis l ∷ u) (bracketed (spell_expr e) (mark kind.RightParenthesis r) both rest))
      (ap (λ (u : List Count). c ∷ c ∷ u) (append_assoc (counts_expr (suc d) 0 e) (c ∷ []) (counts_constraint (suc d) t ++ ds)))
      (choices (suc d) false true false false ts rest cs (Done item) (begins_if i)
      (if_becomes (suc d) i g t (Done item) us rest ds proper propert short shortt (λ opens. absurd (both_ways closed opens)) (with_else (suc d) i g t x o rest propero shorto stops (constraint_ends_open t) refl closed)))
    where
      both_ways : constraint_ends_open t ≡ false → constraint_ends_open t ≡ true → ⊥
      both_ways a b = cc

  unique_again_item : (d : ℕ) (u l : Place) (e : ExprTree) (es : List NextExprTree) (r s : Place) (rest : List Token) → IsProperExpr e → AllByRecursion IsProperNextExpr es → length (spell_constraint_item (ConstraintItemUnique u l e es r s)) ≤ size → Again d (ConstraintItemUnique u l e es r s) rest
  unique_again_item d u l e es r s rest proper propers short =
      let c = counted (suc d) 0 in
      let item = ConstraintItemUnique u l e es r s in
      let close = mark kind.RightBrace r ∷ mark kind.Semicolon s ∷ [] in
      let vs = mark kind.RightBrace r ∷ mark kind.Semicolon s ∷ rest in
      let us = flat_map spell_next_expr es ++ vs in
      let ds = flat_map (counts_next_expr (suc d)) es in
      let long = length-append (spell_expr e) (flat_map spell_next_expr es ++ close) in
      let longer = length-append (flat_map spell_next_expr es) close in
      let ts = mark kind.Unique u ∷ mark kind.LeftBrace l ∷ (spell_expr e ++ us) in
      same_text (item_by X S size (suc d)) (Done item) (spell_constraint_item item ++ rest) ts rest (counts_constraint_item d item) (counts_constraint_item d item)
      (ap (λ (x : List Token). mark kind.Unique u ∷ mark kind.LeftBrace l ∷ x) (ap (λ (x : List Token). spell_expr e ++ x) (sym (append_assoc (flat_map spell_next_expr es) close rest)) ∙ sym (append_assoc (spell_expr e) (flat_map spell_next_expr es ++ close) rest))) refl
      (choices (suc d) false false true false ts rest (counts_constraint_item d item) (Done item) (begins_unique u)
      (becomes_mark kind.Unique c (unique_open X size (suc d)) u (Done item) (mark kind.LeftBrace l ∷ (spell_expr e ++ us)) rest (c ∷ (counts_expr (suc d) 0 e ++ (ds ++ c ∷ c ∷ [])))
      (becomes_mark kind.LeftBrace c (unique_first X size (suc d) u) l (Done item) (spell_expr e ++ us) rest (counts_expr (suc d) 0 e ++ (ds ++ c ∷ c ∷ []))
      (becomes_both (X (suc d)) (unique_rest X size (suc d) u l) e (Done item) (spell_expr e ++ us) us rest (counts_expr (suc d) 0 e) (ds ++ c ∷ c ∷ []) (AX (suc d) e us proper (omega (arith, short, long)) (behind es))
      (becomes_both (next_exprs_by X size (suc d)) (unique_close (suc d) u l e) es (Done item) us vs rest ds (c ∷ c ∷ [])
      (list_again spell_next_expr IsProperNextExpr (counts_next_expr (suc d)) (is_at kind.Comma) (next_expr_by X (suc d)) size (Separates 0) (next_expr_again X size AX (suc d)) next_expr_starts some_next_expr es size vs propers (omega (arith, short, long, longer)) (omega (arith, short, long, longer)) (no_comma_at_brace r) (right_brace_closes r))
      (becomes_mark kind.RightBrace c (unique_end (suc d) u l e es) r (Done item) (mark kind.Semicolon s ∷ rest) rest (c ∷ [])
      (becomes_mark kind.Semicolon c (λ x. Done (ConstraintItemUnique u l e es r x)) s (Done item) rest rest [] (stays (Done item) rest))))))))
    where
      behind : (xs : List NextExprTree) → Separates 0 (next (flat_map spell_next_expr xs ++ mark kind.RightBrace r ∷ mark kind.Semicolon s ∷ rest))
      behind [] = right_brace_closes r
      behind (MakeNextExpr comma x ∷ xs) = comma_closes comma

  foreach_again_item : (d : ℕ) (f l : Place) (n : Name) (ns : List DotName) (b : Place) (i : Name) (r p : Place) (s : ConstraintTree) (rest : List Token) → IsProperConstraint s → length (spell_constraint_item (ConstraintItemForeach f l n ns b i r p s)) ≤ size → StopsSet s (next rest) → Again d (ConstraintItemForeach f l n ns b i r p s) rest
  foreach_again_item d f l n ns b i r p s rest proper short stops =
      let c = counted (suc d) 0 in
      let item = ConstraintItemForeach f l n ns b i r p s in
      let index : SubscriptTree = (b, i, r, p) in
      let ws = spell_constraint s ++ rest in
      let vs = spell_subscript index ++ ws in
      let us = flat_map spell_dot_name ns ++ vs in
      let ds = flat_map (counts_dot_name (suc d)) ns in
      let es = counts_constraint (suc d) s in
      let tail = spell_subscript index ++ spell_constraint s in
      let long = length-append (flat_map spell_dot_name ns) tail in
      let ts = mark kind.Foreach f ∷ mark kind.LeftParenthesis l ∷ name_token n ∷ us in
      same_text (item_by X S size (suc d)) (Done item) (spell_constraint_item item ++ rest) ts rest (counts_constraint_item d item) (counts_constraint_item d item)
      (ap (λ (x : List Token). mark kind.Foreach f ∷ mark kind.LeftParenthesis l ∷ name_token n ∷ x) (sym (append_assoc (flat_map spell_dot_name ns) tail rest))) refl
      (choices (suc d) false false false true ts rest (counts_constraint_item d item) (Done item) (begins_foreach f)
      (becomes_mark kind.Foreach c (foreach_open S size (suc d)) f (Done item) (mark kind.LeftParenthesis l ∷ name_token n ∷ us) rest (c ∷ c ∷ (ds ++ (counts_subscript (suc d) index ++ es)))
      (becomes_mark kind.LeftParenthesis c (foreach_first S size (suc d) f) l (Done item) (name_token n ∷ us) rest (c ∷ (ds ++ (counts_subscript (suc d) index ++ es)))
      (becomes_name c (foreach_rest S size (suc d) f l) n (Done item) us rest (ds ++ (counts_subscript (suc d) index ++ es))
      (becomes_both (dot_names_by size (suc d)) (foreach_index S (suc d) f l n) ns (Done item) us vs rest ds (counts_subscript (suc d) index ++ es)
      (list_again spell_dot_name IsAny (counts_dot_name (suc d)) (is_at kind.Dot) (dot_name_by (suc d)) size IsAny (λ x more q m g. dot_name_again (suc d) x more) (λ x more q. record { found = mark_is_so kind.Dot x.dot; good = tt }) (λ x. omega arith) ns size vs (any_names ns) (omega (arith, short, long)) (omega (arith, short, long)) (no_dot_at_bracket b) tt)
      (becomes_both (subscript_by (suc d)) (foreach_set S (suc d) f l n ns) index (Done item) vs ws rest (counts_subscript (suc d) index) es (subscript_again (suc d) index ws)
      (becomes_followed (S (suc d)) (Done s) (λ x. Done (ConstraintItemForeach f l n ns b i r p x)) ws rest es (AS (suc d) s rest proper (omega (arith, short, long)) stops))))))))
    where
      any_names : (xs : List DotName) → AllByRecursion IsAny xs
      any_names [] = tt
      any_names (x ∷ xs) = (tt, any_names xs)

  pub item_again : (d : ℕ) (item : ConstraintItemTree) (rest : List Token) → IsProperConstraintItem item → length (spell_constraint_item item) ≤ size → (item_ends_open item ≡ true → IsNo kind.Else (next rest)) → Again d item rest
  item_again d (ConstraintItemEmpty p) rest proper short stops =
      let c = counted (suc d) 0 in
      choices (suc d) true false false false (mark kind.Semicolon p ∷ rest) rest (c ∷ []) (Done (ConstraintItemEmpty p)) (begins_empty p)
      (becomes_mark kind.Semicolon c (λ x. Done (ConstraintItemEmpty x)) p (Done (ConstraintItemEmpty p)) rest rest [] (stays (Done (ConstraintItemEmpty p)) rest))
  item_again d (ConstraintItemExpr e p) rest proper short stops = expr_again_item d e p rest proper (omega (arith, short, length-append (spell_expr e) (mark kind.Semicolon p ∷ [])))
  item_again d (ConstraintItemImplies e p s) rest proper short stops =
      let long = length-append (spell_expr e) (mark kind.Arrow p ∷ spell_constraint s) in
      implies_again_item d e p s rest proper.0 proper.1 (omega (arith, short, long)) (omega (arith, short, long)) stops
  item_again d (ConstraintItemIf i l e r t) rest proper short stops =
      let long = length-append (spell_expr e) (mark kind.RightParenthesis r ∷ spell_constraint t) in
      if_again_item d i l e r t rest proper.0 proper.1 (omega (arith, short, long, length-append (spell_expr e) (mark kind.RightParenthesis r ∷ []))) (omega (arith, short, long)) (stops refl)
  item_again d (ConstraintItemIfElse i l e r t x o) rest proper short stops =
      let both = spell_constraint t ++ mark kind.Else x ∷ spell_constraint o in
      let long = length-append (spell_expr e) (mark kind.RightParenthesis r ∷ both) in
      let longer = length-append (spell_constraint t) (mark kind.Else x ∷ spell_constraint o) in
      if_else_again_item d i l e r t x o rest proper.0 proper.1 proper.2 proper.3 (omega (arith, short, long, longer, length-append (spell_expr e) (mark kind.RightParenthesis r ∷ []))) (omega (arith, short, long, longer)) (omega (arith, short, long, longer)) stops
  item_again d (ConstraintItemUnique u l e es r s) rest proper short stops = unique_again_item d u l e es r s rest proper.0 proper.1 short
  item_again d (ConstraintItemForeach f l n ns b i r p s) rest proper short stops = foreach_again_item d f l n ns b i r p s rest proper short stops

  -- ---- sets

  block_again : (d : ℕ) (l : Place) (items : List ConstraintItemTree) (r : Place) (rest : List Token) → AllByRecursion IsProperConstraintItem items → suc (suc (length (flat_map spell_constraint_item items))) ≤ size → Becomes (set_by X S size d) (mark kind.LeftBrace l ∷ (flat_map spell_constraint_item items ++ mark kind.RightBrace r ∷ rest)) (counted d 0 ∷ (flat_map (counts_constraint_item d) items ++ counted d 0 ∷ [])) (Done (ConstraintBlock l (item_row items) r)) rest
  block_again d l items r rest proper short =
      let c = counted d 0 in
      let set = ConstraintBlock l (item_row items) r in
      let vs = mark kind.RightBrace r ∷ rest in
      let us = flat_map spell_constraint_item items ++ vs in
      let ds = flat_map (counts_constraint_item d) items in
      choice_becomes kind.LeftBrace (block_by X S size d) (one_by X S size d) (Done set) (mark kind.LeftBrace l ∷ us) rest (c ∷ (ds ++ c ∷ [])) true (mark_is_so kind.LeftBrace l)
      (becomes_mark kind.LeftBrace c (block_items X S size d) l (Done set) us rest (ds ++ c ∷ [])
      (becomes_both (items_by X S size (suc d)) (block_close d l) items (Done set) us vs rest ds (c ∷ [])
      (list_again spell_constraint_item IsProperConstraintItem (counts_constraint_item d) (is_other kind.RightBrace) (item_by X S size (suc d)) size (IsNo kind.Else)
      (λ x more p m g. item_again d x more p m (λ opens. g))
      (λ x more p. (let w = item_starts x more in record { found = ap (λ (b : Bool). if b then false else true) w.no_end; good = w.no_else }))
      some_item items size vs proper (omega (arith, short)) (omega (arith, short)) (brace_ends r) (brace_is_no_else r))
      (becomes_mark kind.RightBrace c (λ x. Done (ConstraintBlock l (item_row items) x)) r (Done set) rest rest [] (stays (Done set) rest))))

  block_again_row : (d : ℕ) (l : Place) (items : List ConstraintItemTree) (r : Place) (rest : List Token) → AreProperConstraintItem (item_row items) → length (spell_constraint (ConstraintBlock l (item_row items) r)) ≤ size → Becomes (set_by X S size d) (spell_constraint (ConstraintBlock l (item_row items) r) ++ rest) (counts_constraint d (ConstraintBlock l (item_row items) r)) (Done (ConstraintBlock l (item_row items) r)) rest
  block_again_row d l items r rest proper short =
      let c = counted d 0 in
      let set = ConstraintBlock l (item_row items) r in
      let row = spell_constraint_item_row (item_row items) in
      let long = length-append row (mark kind.RightBrace r ∷ []) in
      same_text (set_by X S size d) (Done set) (spell_constraint set ++ rest) (mark kind.LeftBrace l ∷ (flat_map spell_constraint_item items ++ mark kind.RightBrace r ∷ rest)) rest (counts_constraint d set) (c ∷ (flat_map (counts_constraint_item d) items ++ c ∷ []))
      (ap (λ (u : List Token). mark kind.LeftBrace l ∷ u) (ap (λ (u : List Token). u ++ mark kind.RightBrace r ∷ rest) (sym (items_spelled items)) ∙ sym (append_assoc row (mark kind.RightBrace r ∷ []) rest)))
      (ap (λ (u : List Count). c ∷ (u ++ c ∷ [])) (sym (items_counted d items)))
      (block_again d l items r rest (all_proper items proper) (omega (arith, short, long, ap length (items_spelled items))))

  pub set_again : (d : ℕ) (s : ConstraintTree) (rest : List Token) → IsProperConstraint s → length (spell_constraint s) ≤ size → StopsSet s (next rest) → Becomes (set_by X S size d) (spell_constraint s ++ rest) (counts_constraint d s) (Done s) rest
  set_again d (ConstraintOne item) rest proper short stops =
      choice_becomes kind.LeftBrace (block_by X S size d) (one_by X S size d) (Done (ConstraintOne item)) (spell_constraint_item item ++ rest) rest (counts_constraint_item d item) false (item_starts item rest).no_brace
      (becomes_followed (item_by X S size (suc d)) (Done item) (λ x. Done (ConstraintOne x)) (spell_constraint_item item ++ rest) rest (counts_constraint_item d item) (item_again d item rest proper short stops))
  set_again d (ConstraintBlock l items r) rest proper short stops =
      subst (λ (row : ConstraintItemRow). AreProperConstraintItem row → length (spell_constraint (ConstraintBlock l row r)) ≤ size → Becomes (set_by X S size d) (spell_constraint (ConstraintBlock l row r) ++ rest) (counts_constraint d (ConstraintBlock l row r)) (Done (ConstraintBlock l row r)) rest) (row_is items)
      (block_again_row d l (list_of items) r rest) proper short

pub constraint_again : (size d : ℕ) (s : ConstraintTree) (rest : List Token) → IsProperConstraint s → length (spell_constraint s) < size → StopsSet s (next rest) → Becomes (constraint_at size d) (spell_constraint s ++ rest) (counts_constraint d s) (Done s) rest
unfolding constraint_at
constraint_again zero d s rest proper short stops = absurd (omega (arith, short))
constraint_again (suc size) d s rest proper short stops =
    set_again (outermost_at (suc size)) (constraint_at size) size
    (λ x e more p n w. expr_again (suc size) x 0 e more p (omega (arith, n)) (separated 0 (next more) w e p 0 (omega arith) (omega arith)))
    (constraint_again size)
    d s rest proper (omega (arith, short)) stops
