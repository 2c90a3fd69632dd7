-- The rules between operators read what they spell again.
use Rattle.std.proofs.Common.{◌≡◌, ℕ, zero, suc, ◌+◌, ◌≤◌, ◌<◌, Bool, true, false, if◌then◌else◌, List, [], ◌∷◌, ◌++◌, length, Some, Option, None, refl, sym, ap, subst, arith, append-nil, append_assoc, length-append}
use Rattle.pst_base.specs.declared.position.Place.{Place}
use Rattle.pst_token.specs.declared.kind.Kind.{Kind}
use Rattle.pst_token.specs.declared.kind.Kind.TheVariants as kind
use Rattle.pst_token.specs.declared.token.Token.{Token}
use Rattle.pst_ast.specs.declared.leaf.Name.{Name}
use Rattle.pst_ast.specs.Marks.{mark, name_token}
use Rattle.pst_ast.specs.Limits.{Count, counted}
use Rattle.pst_ast.specs.ExpressionTree.{ExprTree, PrimaryGroup, PathTree, PathDotted, PathItem, PathLongItem, MakePart, NextPartTree, MakeNextPart, MakeIndex, NextPartRow, NoNextPartRow, MoreNextPartRow, MaybeIndex, NoIndex, SomeIndex}
use Rattle.pst_ast.specs.ExpressionSpelling.{spell_expr, spell_path, spell_next_part, spell_next_part_row, spell_maybe_index}
use Rattle.pst_ast.specs.ExpressionProper.{IsProperExpr, IsProperPath, IsProperNextPart, AreProperNextPart, IsProperMaybeIndex}
use Rattle.pst_ast.specs.ExpressionOperators.{operators_expr, operators_part, operators_next_part_row}
use Rattle.pst_ast.specs.ExpressionLimits.{counts_expr, counts_primary, counts_path, counts_next_part, counts_index, counts_next_part_row, counts_maybe_index}
use Rattle.pst_reading.specs.Kinds.{is_mark}
use Rattle.pst_reading.specs.Parser.{Done, followed_by, next, mark_by, name_by, repeat_by}
use Rattle.pst_reading.proofs.Becoming.{Becomes, stays, becomes_on, becomes_followed, becomes_both}
use Rattle.pst_reading.proofs.Marks.{mark_becomes, name_becomes, choice_becomes, turn_becomes, row_ends}
use Rattle.pst_reading.proofs.Tokens.{mark_is_so}
use Rattle.pst_parse_operator.specs.Reading.{Parsers, index_by, maybe_index_by, next_part_by, with_part, parts_of, dotted_by, item_by, path_by, group_by}
use Rattle.pst_parse_operator.proofs.Rows.{parts_behind, parts_end, parts_go_on, all_parts, operators_with_part}
use Rattle.pst_parse_operator.proofs.Stops.{IsNo, StopsIndex, StopsRow, StopsColons, StopsPath, Stops, separated, right_bracket_closes, right_parenthesis_closes}

other : (j k : Kind) (place : Place) → is_mark j (mark k place) ≡ false → IsNo j (Some (mark k place))
other j k place e = e

module _ (X : Parsers ExprTree) (size : ℕ) (A : (d b : ℕ) (e : ExprTree) (rest : List Token) → IsProperExpr e → length (spell_expr e) < size → Stops 0 e (next rest) → Becomes (X d b) (spell_expr e ++ rest) (counts_expr d b e) (Done e) rest) where
  index_again : (d b : ℕ) (l : Place) (e : ExprTree) (r : Place) (rest : List Token) → IsProperExpr e → length (spell_expr e) < size → Becomes (index_by X d b) (mark kind.LeftBracket l ∷ (spell_expr e ++ mark kind.RightBracket r ∷ rest)) (counts_index d b (MakeIndex l e r)) (Done (MakeIndex l e r)) rest
  index_again d b l e r rest proper short =
      let c = counted (suc d) b in
      let c' = counted (suc d) (b + operators_expr e) in
      becomes_both (mark_by kind.LeftBracket c) _ l _ _ (spell_expr e ++ mark kind.RightBracket r ∷ rest) rest (c ∷ []) _ (mark_becomes kind.LeftBracket c l _)
      (becomes_both (X (suc d) b) _ e _ _ (mark kind.RightBracket r ∷ rest) rest (counts_expr (suc d) b e) (c' ∷ []) (A (suc d) b e (mark kind.RightBracket r ∷ rest) proper short (separated 0 (Some (mark kind.RightBracket r)) (right_bracket_closes r) e proper 0 (omega arith) (omega arith)))
      (becomes_both (mark_by kind.RightBracket c') (λ q. Done (MakeIndex l e q)) r _ _ rest rest (c' ∷ []) [] (mark_becomes kind.RightBracket c' r rest) (stays (Done (MakeIndex l e r)) rest)))

  pub group_again : (d b : ℕ) (l : Place) (e : ExprTree) (r : Place) (rest : List Token) → IsProperExpr e → length (spell_expr e) < size → Becomes (group_by X d b) (mark kind.LeftParenthesis l ∷ (spell_expr e ++ mark kind.RightParenthesis r ∷ rest)) (counts_primary d b (PrimaryGroup l e r)) (Done (PrimaryGroup l e r)) rest
  group_again d b l e r rest proper short =
      let c = counted (suc d) b in
      let c' = counted (suc d) (b + operators_expr e) in
      becomes_both (mark_by kind.LeftParenthesis c) _ l _ _ (spell_expr e ++ mark kind.RightParenthesis r ∷ rest) rest (c ∷ []) _ (mark_becomes kind.LeftParenthesis c l _)
      (becomes_both (X (suc d) b) _ e _ _ (mark kind.RightParenthesis r ∷ rest) rest (counts_expr (suc d) b e) (c' ∷ []) (A (suc d) b e (mark kind.RightParenthesis r ∷ rest) proper short (separated 0 (Some (mark kind.RightParenthesis r)) (right_parenthesis_closes r) e proper 0 (omega arith) (omega arith)))
      (becomes_both (mark_by kind.RightParenthesis c') (λ q. Done (PrimaryGroup l e q)) r _ _ rest rest (c' ∷ []) [] (mark_becomes kind.RightParenthesis c' r rest) (stays (Done (PrimaryGroup l e r)) rest)))

  pub maybe_index_again : (d b : ℕ) (i : MaybeIndex) (rest : List Token) → IsProperMaybeIndex i → length (spell_maybe_index i) ≤ size → StopsIndex i (next rest) → Becomes (maybe_index_by X d b) (spell_maybe_index i ++ rest) (counts_maybe_index d b i) (Done i) rest
  maybe_index_again d b NoIndex rest proper short s = choice_becomes kind.LeftBracket (followed_by (index_by X d b) (λ index. Done (SomeIndex index))) (Done NoIndex) (Done NoIndex) rest rest [] false s (stays (Done NoIndex) rest)
  maybe_index_again d b (SomeIndex (MakeIndex l e r)) rest proper short s =
      let assoc = append_assoc (spell_expr e) (mark kind.RightBracket r ∷ []) rest in
      let inner : length (spell_expr e) < size = omega (arith, short, length-append (spell_expr e) (mark kind.RightBracket r ∷ [])) in
      subst (λ (u : List Token). Becomes (maybe_index_by X d b) (mark kind.LeftBracket l ∷ u) (counts_index d b (MakeIndex l e r)) (Done (SomeIndex (MakeIndex l e r))) rest) (sym assoc)
      (choice_becomes kind.LeftBracket (followed_by (index_by X d b) (λ index. Done (SomeIndex index))) (Done NoIndex) (Done (SomeIndex (MakeIndex l e r))) (mark kind.LeftBracket l ∷ (spell_expr e ++ mark kind.RightBracket r ∷ rest)) rest (counts_index d b (MakeIndex l e r)) true (mark_is_so kind.LeftBracket l)
      (becomes_followed (index_by X d b) (Done (MakeIndex l e r)) (λ index. Done (SomeIndex index)) (mark kind.LeftBracket l ∷ (spell_expr e ++ mark kind.RightBracket r ∷ rest)) rest (counts_index d b (MakeIndex l e r)) (index_again d b l e r rest proper inner)))

  next_part_again : (d b : ℕ) (p : NextPartTree) (rest : List Token) → IsProperNextPart p → length (spell_next_part p) ≤ size → StopsRow NoIndex (MoreNextPartRow p NoNextPartRow) (next rest) → Becomes (next_part_by X d b) (spell_next_part p ++ rest) (counts_next_part d b p) (Done p) rest
  next_part_again d b (MakeNextPart dot (MakePart name i)) rest proper short s =
      let c = counted d b in
      let h = becomes_both (mark_by kind.Dot c) _ dot _ _ (name_token name ∷ (spell_maybe_index i ++ rest)) rest (c ∷ []) _ (mark_becomes kind.Dot c dot _)
      (becomes_both (name_by c) _ name _ _ (spell_maybe_index i ++ rest) rest (c ∷ []) _ (name_becomes c name _)
      (becomes_both (maybe_index_by X d b) (λ j. Done (MakeNextPart dot (MakePart name j))) i (Done (MakeNextPart dot (MakePart name i))) _ rest rest (counts_maybe_index d b i) [] (maybe_index_again d b i rest proper (omega (arith, short)) s) (stays (Done (MakeNextPart dot (MakePart name i))) rest))) in
      subst (λ (cs : List Count). Becomes (next_part_by X d b) (mark kind.Dot dot ∷ name_token name ∷ (spell_maybe_index i ++ rest)) (c ∷ c ∷ cs) (Done (MakeNextPart dot (MakePart name i))) rest) (append-nil (counts_maybe_index d b i)) h

  -- what follows a part of a row
  not_bracket : (dot : Place) → is_mark kind.LeftBracket (mark kind.Dot dot) ≡ false
  unfolding is_mark
  not_bracket dot = refl

  part_stops : (p : NextPartTree) (tail : NextPartRow) (rest : List Token) → StopsRow NoIndex (MoreNextPartRow p tail) (next rest) → StopsRow NoIndex (MoreNextPartRow p NoNextPartRow) (next (spell_next_part_row tail ++ rest))
  part_stops (MakeNextPart dot (MakePart name i)) NoNextPartRow rest s = s
  part_stops (MakeNextPart dot (MakePart name NoIndex)) (MoreNextPartRow (MakeNextPart d p) tail) rest s = not_bracket d
  part_stops (MakeNextPart dot (MakePart name (SomeIndex i))) (MoreNextPartRow (MakeNextPart d p) tail) rest s = tt

  tail_stops : (p : NextPartTree) (head : NextPartTree) (tail : NextPartRow) (next : Option Token) → StopsRow NoIndex (MoreNextPartRow p (MoreNextPartRow head tail)) next → StopsRow NoIndex (MoreNextPartRow head tail) next
  tail_stops (MakeNextPart dot (MakePart name i)) (MakeNextPart e (MakePart n j)) tail next s = s

  abbrev RowStops : NextPartRow → Option Token → Type 0
  RowStops NoNextPartRow next = Unit {0}
  RowStops (MoreNextPartRow head tail) next = StopsRow NoIndex (MoreNextPartRow head tail) next

  later_stops : (head : NextPartTree) (tail : NextPartRow) (next : Option Token) → StopsRow NoIndex (MoreNextPartRow head tail) next → RowStops tail next
  later_stops head NoNextPartRow next s = tt
  later_stops head (MoreNextPartRow p tail) next s = tail_stops head p tail next s

  parts_done : (d b m : ℕ) (row : NextPartRow) (rest : List Token) → 1 ≤ m → IsNo kind.Dot (next rest) → Becomes (repeat_by (parts_of X d b) m row) rest [] (Done row) rest
  parts_done d b zero row rest le s = absurd (omega (arith, le))
  parts_done d b (suc m) row rest le s = row_ends (parts_of X d b) m row rest (ap (λ (x : Bool). if x then Some (followed_by (next_part_by X d (b + operators_next_part_row row)) (λ part. Done (with_part row part))) else None) s)

  parts_again : (d b : ℕ) (todo row : NextPartRow) (m : ℕ) (rest : List Token) → AreProperNextPart todo → length (spell_next_part_row todo) < m → length (spell_next_part_row todo) ≤ size → RowStops todo (next rest) → IsNo kind.Dot (next rest) → Becomes (repeat_by (parts_of X d b) m row) (spell_next_part_row todo ++ rest) (counts_next_part_row d (b + operators_next_part_row row) todo) (Done (parts_behind row todo)) rest
  parts_again d b NoNextPartRow row m rest proper turns short s dot_free =
      subst (λ (r : NextPartRow). Becomes (repeat_by (parts_of X d b) m row) rest [] (Done r) rest) (sym (parts_end row)) (parts_done d b m row rest (omega (arith, turns)) dot_free)
  parts_again d b (MoreNextPartRow head tail) row zero rest proper turns short s dot_free = absurd (omega (arith, turns))
  parts_again d b (MoreNextPartRow (MakeNextPart dot (MakePart name i)) tail) row (suc m) rest proper turns short s dot_free =
      let head = MakeNextPart dot (MakePart name i) in
      let b' = b + operators_next_part_row row in
      let long = length-append (spell_next_part head) (spell_next_part_row tail) in
      let ts = spell_next_part head ++ (spell_next_part_row tail ++ rest) in
      let us = spell_next_part_row tail ++ rest in
      let part = followed_by (next_part_by X d b') (λ p. Done (with_part row p)) in
      let begins : parts_of X d b row (next ts) ≡ Some part = ap (λ (x : Bool). if x then Some (followed_by (next_part_by X d (b + operators_next_part_row row)) (λ p. Done (with_part row p))) else None) (mark_is_so kind.Dot dot) in
      let h = turn_becomes (parts_of X d b) m row (with_part row head) part ts us (counts_next_part d b' head) begins
      (becomes_followed (next_part_by X d b') (Done head) (λ p. Done (with_part row p)) ts us (counts_next_part d b' head) (next_part_again d b' head us proper.0 (omega (arith, short, long)) (part_stops head tail rest s))) in
      let count : b + operators_next_part_row (with_part row head) ≡ b' + operators_part (MakePart name i) = (let e = operators_with_part row head in omega (arith, e)) in
      let k = parts_again d b tail (with_part row head) m rest proper.1 (omega (arith, turns, long)) (omega (arith, short, long)) (later_stops head tail (next rest) s) dot_free in
      let j = becomes_on (repeat_by (parts_of X d b) (suc m) row) (repeat_by (parts_of X d b) m (with_part row head)) (Done (parts_behind (with_part row head) tail)) ts us rest (counts_next_part d b' head) (counts_next_part_row d (b' + operators_part (MakePart name i)) tail) h (subst (λ (n : ℕ). Becomes (repeat_by (parts_of X d b) m (with_part row head)) us (counts_next_part_row d n tail) (Done (parts_behind (with_part row head) tail)) rest) count k) in
      let parts = append_assoc (spell_next_part head) (spell_next_part_row tail) rest in
      subst (λ (u : List Token). Becomes (repeat_by (parts_of X d b) (suc m) row) u (counts_next_part_row d b' (MoreNextPartRow head tail)) (Done (parts_behind row (MoreNextPartRow head tail))) rest) (sym parts)
      (subst (λ (r : NextPartRow). Becomes (repeat_by (parts_of X d b) (suc m) row) ts (counts_next_part_row d b' (MoreNextPartRow head tail)) (Done r) rest) (sym (parts_go_on row head tail)) j)

  -- ---- paths

  first_stops : (i : MaybeIndex) (row : NextPartRow) (rest : List Token) → StopsRow i row (next rest) → StopsIndex i (next (spell_next_part_row row ++ rest))
  first_stops i NoNextPartRow rest s = s
  first_stops NoIndex (MoreNextPartRow (MakeNextPart d p) tail) rest s = not_bracket d
  first_stops (SomeIndex i) (MoreNextPartRow (MakeNextPart d p) tail) rest s = tt

  row_stops : (i : MaybeIndex) (row : NextPartRow) (next : Option Token) → StopsRow i row next → RowStops row next
  row_stops i NoNextPartRow next s = tt
  row_stops i (MoreNextPartRow (MakeNextPart d (MakePart n j)) tail) next s = s

  dotted_again : (d b : ℕ) (name : Name) (i : MaybeIndex) (row : NextPartRow) (rest : List Token) → IsProperMaybeIndex i → AreProperNextPart row → length (spell_maybe_index i) + length (spell_next_part_row row) < size → StopsRow i row (next rest) → IsNo kind.Dot (next rest) → Becomes (dotted_by X size d b name) (spell_maybe_index i ++ (spell_next_part_row row ++ rest)) (counts_maybe_index d b i ++ counts_next_part_row d (b + operators_part (MakePart name i)) row) (Done (PathDotted (MakePart name i) row)) rest
  dotted_again d b name i row rest proper propers short s dot_free =
      let b' = b + operators_part (MakePart name i) in
      let none : b' + 0 ≡ b' = omega arith in
      let k = parts_again d b' row NoNextPartRow size rest propers (omega (arith, short)) (omega (arith, short)) (row_stops i row (next rest) s) dot_free in
      let k' = subst (λ (n : ℕ). Becomes (repeat_by (parts_of X d b') size NoNextPartRow) (spell_next_part_row row ++ rest) (counts_next_part_row d n row) (Done (parts_behind NoNextPartRow row)) rest) none k in
      let k'' = subst (λ (r : NextPartRow). Becomes (repeat_by (parts_of X d b') size NoNextPartRow) (spell_next_part_row row ++ rest) (counts_next_part_row d b' row) (Done r) rest) (all_parts row) k' in
      becomes_both (maybe_index_by X d b) _ i _ _ (spell_next_part_row row ++ rest) rest (counts_maybe_index d b i) (counts_next_part_row d b' row) (maybe_index_again d b i (spell_next_part_row row ++ rest) proper (omega (arith, short)) (first_stops i row rest s))
      (becomes_followed (repeat_by (parts_of X d b') size NoNextPartRow) (Done row) (λ r. Done (PathDotted (MakePart name i) r)) (spell_next_part_row row ++ rest) rest (counts_next_part_row d b' row) k'')

  no_colons_at_bracket : (p : Place) → is_mark kind.ColonColon (mark kind.LeftBracket p) ≡ false
  unfolding is_mark
  no_colons_at_bracket p = refl

  no_colons_at_dot : (p : Place) → is_mark kind.ColonColon (mark kind.Dot p) ≡ false
  unfolding is_mark
  no_colons_at_dot p = refl

  colons_stop : (i : MaybeIndex) (row : NextPartRow) (rest : List Token) → StopsColons i row (next rest) → IsNo kind.ColonColon (next (spell_maybe_index i ++ (spell_next_part_row row ++ rest)))
  colons_stop NoIndex NoNextPartRow rest s = s
  colons_stop NoIndex (MoreNextPartRow (MakeNextPart d p) tail) rest s = no_colons_at_dot d
  colons_stop (SomeIndex (MakeIndex l e r)) row rest s = no_colons_at_bracket l

  pub path_again : (d b : ℕ) (p : PathTree) (rest : List Token) → IsProperPath p → length (spell_path p) ≤ size → StopsPath p (next rest) → Becomes (path_by X size d b) (spell_path p ++ rest) (counts_path d b p) (Done p) rest
  path_again d b (PathDotted (MakePart name i) row) rest proper short s =
      let c = counted d b in
      let long = length-append (spell_maybe_index i) (spell_next_part_row row) in
      let us = spell_maybe_index i ++ (spell_next_part_row row ++ rest) in
      let cs = counts_maybe_index d b i ++ counts_next_part_row d (b + operators_part (MakePart name i)) row in
      subst (λ (u : List Token). Becomes (path_by X size d b) (name_token name ∷ u) (c ∷ cs) (Done (PathDotted (MakePart name i) row)) rest) (sym (append_assoc (spell_maybe_index i) (spell_next_part_row row) rest))
      (becomes_both (name_by c) _ name _ _ us rest (c ∷ []) cs (name_becomes c name us)
      (choice_becomes kind.ColonColon (item_by d b name) (dotted_by X size d b name) (Done (PathDotted (MakePart name i) row)) us rest cs false (colons_stop i row rest s.2)
      (dotted_again d b name i row rest proper.0 proper.1 (omega (arith, short, long)) s.0 s.1)))
  path_again d b (PathItem first colons second) rest proper short s =
      let c = counted d b in
      becomes_both (name_by c) _ first _ _ (mark kind.ColonColon colons ∷ name_token second ∷ rest) rest (c ∷ []) (c ∷ c ∷ []) (name_becomes c first _)
      (choice_becomes kind.ColonColon (item_by d b first) (dotted_by X size d b first) (Done (PathItem first colons second)) (mark kind.ColonColon colons ∷ name_token second ∷ rest) rest (c ∷ c ∷ []) true (mark_is_so kind.ColonColon colons)
      (becomes_both (mark_by kind.ColonColon c) _ colons _ _ (name_token second ∷ rest) rest (c ∷ []) (c ∷ []) (mark_becomes kind.ColonColon c colons _)
      (becomes_both (name_by c) _ second _ _ rest rest (c ∷ []) [] (name_becomes c second rest)
      (choice_becomes kind.ColonColon _ (Done (PathItem first colons second)) (Done (PathItem first colons second)) rest rest [] false s (stays (Done (PathItem first colons second)) rest)))))
  path_again d b (PathLongItem first colons second more third) rest proper short s =
      let c = counted d b in
      let us = mark kind.ColonColon more ∷ name_token third ∷ rest in
      becomes_both (name_by c) _ first _ _ (mark kind.ColonColon colons ∷ name_token second ∷ us) rest (c ∷ []) (c ∷ c ∷ c ∷ c ∷ []) (name_becomes c first _)
      (choice_becomes kind.ColonColon (item_by d b first) (dotted_by X size d b first) (Done (PathLongItem first colons second more third)) (mark kind.ColonColon colons ∷ name_token second ∷ us) rest (c ∷ c ∷ c ∷ c ∷ []) true (mark_is_so kind.ColonColon colons)
      (becomes_both (mark_by kind.ColonColon c) _ colons _ _ (name_token second ∷ us) rest (c ∷ []) (c ∷ c ∷ c ∷ []) (mark_becomes kind.ColonColon c colons _)
      (becomes_both (name_by c) _ second _ _ us rest (c ∷ []) (c ∷ c ∷ []) (name_becomes c second us)
      (choice_becomes kind.ColonColon _ (Done (PathItem first colons second)) (Done (PathLongItem first colons second more third)) us rest (c ∷ c ∷ []) true (mark_is_so kind.ColonColon more)
      (becomes_both (mark_by kind.ColonColon c) _ more _ _ (name_token third ∷ rest) rest (c ∷ []) (c ∷ []) (mark_becomes kind.ColonColon c more _)
      (becomes_followed (name_by c) (Done third) (λ x. Done (PathLongItem first colons second more x)) (name_token third ∷ rest) rest (c ∷ []) (name_becomes c third rest)))))))
