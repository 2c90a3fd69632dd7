-- What the loops of paths and ranges give, from what each turn gives.
use Rattle.std.proofs.Common.{◌≡◌, ℕ, ◌+◌, ◌-◌, ◌≤◌, List, [], ◌∷◌, ◌++◌, length, drop, refl, ap, subst, sym, ◌∙◌, arith, Bool, if◌then◌else◌, true, false, Some, None}
use Rattle.std.specs.Global.{Vec, Box}
use Rattle.pst_base.specs.declared.position.Place.{Place}
use Rattle.pst_token.specs.declared.kind.Kind.TheVariants as kind
use Rattle.pst_token.specs.declared.token.Token.{Token}
use Rattle.pst_ast.specs.declared.fault.SyntaxFault.{SyntaxFault}
use Rattle.pst_ast.specs.declared.fault.SyntaxFault.TheVariants as the_fault
use Rattle.pst_ast.specs.declared.leaf.Name.{Name}
use Rattle.pst_ast.specs.declared.expression.PathNode.{Row_of-NextPart, end_of-NextPart, more_of-NextPart, items-the_row-NextPart, items_hidden-the_row-NextPart-0}
use Rattle.pst_ast.specs.declared.expression.PathNode.TheVariants as the_path
use Rattle.pst_ast.specs.declared.expression.PartNode.{PartNode}
use Rattle.pst_ast.specs.declared.expression.NextPart.{NextPart}
use Rattle.pst_ast.specs.declared.expression.NextRange.{NextRange}
use Rattle.pst_ast.specs.declared.expression.RangeNode.{RangeNode}
use Rattle.pst_ast.specs.declared.expression.ExprNode.TheBlock.{hidden-the_row-NextPart-0, items-the_row-NextRange, hidden-the_row-NextRange-1, items_hidden-the_row-NextRange-1}
use Rattle.pst_ast.specs.declared.expression.RangesNode.{roll-RangesNode, Row_of-NextRange, end_of-NextRange, more_of-NextRange}
use Rattle.pst_ast.specs.ExpressionView.{view_path, view_part, view_next_part, view_next_part_row, view_range, view_ranges, view_next_range, view_next_range_row}
use Rattle.pst_ast.specs.ExpressionTree.{PathTree, PathDotted, PartTree, MakePart, NextPartTree, NextPartRow, NoNextPartRow, MoreNextPartRow, MaybeIndex, RangesTree, MakeRanges, RangeTree, NextRangeTree, MakeNextRange, NextRangeRow, NoNextRangeRow, MoreNextRangeRow}
use Rattle.pst_ast.specs.ExpressionOperators.{operators_part, operators_maybe_index, operators_next_part, operators_next_part_row, operators_range, operators_next_range_row, operators_path}
use Rattle.pst_ast.specs.Limits.{counted, is_over}
use Rattle.pst_reading.specs.Kinds.{is_mark, next_is}
use Rattle.pst_reading.specs.Parser.{Parser, repeat_by, Done, Outcome, Took, Refused, TooDeep, run, next, mark_by, name_by, if_mark, followed_by}
use Rattle.pst_reading.specs.Gives.{Family, SettlesFrom, FailsFrom}
use Rattle.pst_reading.proofs.Giving.{settles_both, fails_first, fails_then, settles_choice, token_given, done, later, later_fault}
use Rattle.pst_reading.proofs.Looping.{loop, loop_begins, loop_turns, loop_fails, loop_ends}
use Rattle.pst_parse_operator.specs.Reading.{more_ranges_of, parts_of, with_part, with_range, item_by, dotted_by, next_range_by, range_by, next_part_by, expr_at}
use Rattle.pst_parse_operator.specs.Families.{ranges_family, range_family, index_family, path_family, next_part_family, part_row, range_row}
use Rattle.pst_parse_operator.proofs.Loops.{RangesLoop, PathLoop, range_steps, part_steps}
use Rattle.pst_parse_operator.proofs.Rows.{operators_with_range, operators_with_part}

-- ---- rows of trees are those of their lists

parts_in : {n : _} (k : Row_of-NextPart n) → view_next_part_row k ≡ part_row (items-the_row-NextPart n k)
parts_in end_of-NextPart = refl
parts_in (more_of-NextPart head tail) = ap (λ (r : NextPartRow). MoreNextPartRow (view_next_part head) r) (parts_in tail)

pub dotted_view : (first : PartNode) (v : Vec NextPart) → view_path (the_path.Dotted first v) ≡ PathDotted (view_part first) (part_row v.items)
dotted_view first v = ap (λ (r : NextPartRow). PathDotted (view_part first) r) (parts_in (hidden-the_row-NextPart-0 v) ∙ ap part_row (items_hidden-the_row-NextPart-0 v))

pub dotted_counts : (first : PartNode) (v : Vec NextPart) (b count : ℕ) → count ≡ (b + operators_part (view_part first)) + operators_next_part_row (part_row v.items) → count ≡ b + operators_path (view_path (the_path.Dotted first v))
dotted_counts first v b count e = e ∙ (let a : (b + operators_part (view_part first)) + operators_next_part_row (part_row v.items) ≡ b + (operators_part (view_part first) + operators_next_part_row (part_row v.items)) = omega arith in a) ∙ ap (λ (p : PathTree). b + operators_path p) (sym (dotted_view first v))

ranges_in : {n : _} (k : Row_of-NextRange n) → view_next_range_row k ≡ range_row (items-the_row-NextRange n k)
ranges_in end_of-NextRange = refl
ranges_in (more_of-NextRange comma range tail) = ap (λ (r : NextRangeRow). MoreNextRangeRow (MakeNextRange comma (view_range range)) r) (ranges_in tail)

pub ranges_view : (first : Box RangeNode) (v : Vec NextRange) → view_ranges (roll-RangesNode (record { first = first; rest = v })) ≡ MakeRanges (view_range first.value) (range_row v.items)
unfolding roll-RangesNode denote.Hole.Carrier.roll
ranges_view first v = ap (λ (r : NextRangeRow). MakeRanges (view_range first.value) r) (ranges_in (hidden-the_row-NextRange-1 v) ∙ ap range_row (items_hidden-the_row-NextRange-1 v))

-- a part more at the end of the list is one more at the end of the row
pub part_more : (parts : List NextPart) (part : NextPart) → part_row (parts ++ part ∷ []) ≡ with_part (part_row parts) (view_next_part part)
part_more [] part = refl
part_more (head ∷ tail) part = ap (λ (r : NextPartRow). MoreNextPartRow (view_next_part head) r) (part_more tail part)

pub range_more : (ranges : List NextRange) (range : NextRange) → range_row (ranges ++ range ∷ []) ≡ with_range (range_row ranges) (view_next_range range)
range_more [] range = refl
range_more (head ∷ tail) range = ap (λ (r : NextRangeRow). MoreNextRangeRow (view_next_range head) r) (range_more tail range)

-- what suffices from a place on suffices from an earlier one
earlier : {A : Type 0} (F : Family A) (tokens : List Token) (start nearer at : ℕ) (o : Outcome A) → start ≤ nearer → SettlesFrom F tokens nearer at o → SettlesFrom F tokens start at o
earlier F tokens start nearer at o le h m n p q = h m n (omega (arith, p, le)) (omega (arith, q, le))

earlier_fault : {A : Type 0} (F : Family A) (tokens : List Token) (start nearer at : ℕ) (e : SyntaxFault) → start ≤ nearer → FailsFrom F tokens nearer at e → FailsFrom F tokens start at e
earlier_fault F tokens start nearer at (the_fault.At k) le h = (earlier F tokens start nearer at (Refused (drop k tokens)) le h.0, h.1, h.2)
earlier_fault F tokens start nearer at (the_fault.Deep k) le h = (earlier F tokens start nearer at (TooDeep (drop k tokens)) le h.0, h.1, h.2)
earlier_fault F tokens start nearer at the_fault.NoMemory le h = tt

-- ---- ranges

module _ (tokens : List Token) (at d b : ℕ) (behind : 1 ≤ at) (first : RangeTree) where
  pub ranges_begin : (after count : ℕ) → SettlesFrom (range_family d b) tokens (at - 1) at (Took first (drop after tokens)) → at + 1 ≤ after → after ≤ length tokens → count ≡ b + operators_range first → count ≤ 256 → RangesLoop tokens at d b first NoNextRangeRow after count
  ranges_begin after count h lt le c w = record {
    from = after;
    head = h;
    loop = loop_begins (range_steps d (b + operators_range first)) tokens (at - 1) after NoNextRangeRow (omega (arith, lt));
    after = omega (arith, lt);
    reached = omega arith;
    inside = le;
    counted = omega (arith, c);
    within = w;
  }

  module _ (row : NextRangeRow) (place count : ℕ) (l : RangesLoop tokens at d b first row place count) where
    abbrev so_far : ℕ
    so_far = (b + operators_range first) + operators_next_range_row row

    abbrev comma_range : ℕ → ℕ → Place → Parser NextRangeTree
    comma_range k m comma = followed_by (range_by (expr_at m) d k) (λ range. Done (MakeNextRange comma range))

    abbrev one_range : ℕ → Family NextRangeRow
    one_range k m n = followed_by (next_range_by (expr_at m) d k) (λ range. Done (with_range row range))

    abbrev behind_first : ℕ → ℕ → RangeTree → Parser RangesTree
    behind_first m n x = followed_by (repeat_by (more_ranges_of (expr_at m) d (b + operators_range x)) m NoNextRangeRow) (λ more. Done (MakeRanges x more))

    pub ranges_end : next_is (is_mark kind.Comma) (next (drop place tokens)) ≡ false → SettlesFrom (ranges_family d b) tokens (at - 1) at (Took (MakeRanges first row) (drop place tokens))
    ranges_end absent =
        settles_both tokens (at - 1) (range_family d b) behind_first at l.from first (Took (MakeRanges first row) (drop place tokens)) l.head
        (settles_both tokens (at - 1) (loop (range_steps d (b + operators_range first)) tokens (at - 1) l.from NoNextRangeRow) (λ m n more. Done (MakeRanges first more)) l.from place row (Took (MakeRanges first row) (drop place tokens))
        (loop_ends (range_steps d (b + operators_range first)) tokens (at - 1) l.from NoNextRangeRow place row l.inside (λ m n. ap (λ (x : Bool). if x then Some (one_range so_far m n) else None) absent) l.loop)
        (done tokens (at - 1) place (MakeRanges first row)))

    module _ (present : next_is (is_mark kind.Comma) (next (drop place tokens)) ≡ true) (comma : Place) (given : run is_over (mark_by kind.Comma (counted d count)) (drop place tokens) ≡ Took comma (drop (place + 1) tokens)) where
      pub ranges_fail : (nearer : ℕ) → at - 1 ≤ nearer → (e : SyntaxFault) → FailsFrom (range_family d count) tokens nearer (place + 1) e → FailsFrom (ranges_family d b) tokens (at - 1) at e
      ranges_fail nearer le e h =
          fails_then tokens (at - 1) (range_family d b) behind_first at l.from first e (omega (arith, l.after)) l.head
          (fails_first tokens (at - 1) (loop (range_steps d (b + operators_range first)) tokens (at - 1) l.from NoNextRangeRow) (λ m n more. Done (MakeRanges first more)) l.from e
          (loop_fails (range_steps d (b + operators_range first)) tokens (at - 1) l.from NoNextRangeRow place row (one_range so_far) e l.reached l.inside (λ m n. ap (λ (x : Bool). if x then Some (one_range so_far m n) else None) present)
          (subst (λ (k : ℕ). FailsFrom (one_range k) tokens (at - 1) place e) l.counted
          (fails_first tokens (at - 1) (λ m n. next_range_by (expr_at m) d count) (λ m n range. Done (with_range row range)) place e
          (fails_then tokens (at - 1) (λ m n. mark_by kind.Comma (counted d count)) (λ m n. comma_range count m) place (place + 1) comma e (omega arith) (token_given tokens (at - 1) (mark_by kind.Comma (counted d count)) place comma given)
          (fails_first tokens (at - 1) (range_family d count) (λ m n range. Done (MakeNextRange comma range)) (place + 1) e (earlier_fault (range_family d count) tokens (at - 1) nearer (place + 1) e le h)))))
          l.loop))

      pub ranges_turn : (nearer : ℕ) → at - 1 ≤ nearer → (range : RangeTree) (after more : ℕ) → SettlesFrom (range_family d count) tokens nearer (place + 1) (Took range (drop after tokens)) → place + 1 + 1 ≤ after → after ≤ length tokens → more ≡ count + operators_range range → more ≤ 256 → RangesLoop tokens at d b first (with_range row (MakeNextRange comma range)) after more
      ranges_turn nearer le range after more h lt inside c w =
          let tree = MakeNextRange comma range in
          let end = Took (with_range row tree) (drop after tokens) in
          record {
            from = l.from;
            head = l.head;
            loop = loop_turns (range_steps d (b + operators_range first)) tokens (at - 1) l.from NoNextRangeRow place after row (with_range row tree) (one_range so_far) (omega (arith, l.after, l.reached)) l.inside (λ m n. ap (λ (x : Bool). if x then Some (one_range so_far m n) else None) present)
                (subst (λ (k : ℕ). SettlesFrom (one_range k) tokens (at - 1) place end) l.counted
                (settles_both tokens (at - 1) (λ m n. next_range_by (expr_at m) d count) (λ m n range. Done (with_range row range)) place after tree end
                (settles_both tokens (at - 1) (λ m n. mark_by kind.Comma (counted d count)) (λ m n. comma_range count m) place (place + 1) comma (Took tree (drop after tokens)) (token_given tokens (at - 1) (mark_by kind.Comma (counted d count)) place comma given)
                (settles_both tokens (at - 1) (range_family d count) (λ m n range. Done (MakeNextRange comma range)) (place + 1) after range (Took tree (drop after tokens)) (earlier (range_family d count) tokens (at - 1) nearer (place + 1) (Took range (drop after tokens)) le h)
                (done tokens (at - 1) after tree)))
                (done tokens (at - 1) after (with_range row tree))))
                (omega (arith, lt)) l.loop;
            after = l.after;
            reached = omega (arith, l.reached, lt);
            inside = inside;
            counted = omega (arith, c, l.counted, operators_with_range row tree);
            within = w;
          }

-- ---- paths

module _ (tokens : List Token) (at d b : ℕ) where
  pub path_begins : (name : Name) → run is_over (name_by (counted d b)) (drop at tokens) ≡ Took name (drop (at + 1) tokens) → next_is (is_mark kind.ColonColon) (next (drop (at + 1) tokens)) ≡ false → (index : MaybeIndex) (after count : ℕ) → SettlesFrom (index_family d b) tokens (at + 1) (at + 1) (Took index (drop after tokens)) → at + 1 + 0 ≤ after → after ≤ length tokens → count ≡ b + operators_maybe_index index → count ≤ 256 → PathLoop tokens at d b (MakePart name index) NoNextPartRow after count
  path_begins name named absent index after count h lt le c w = record {
    name = name;
    index = index;
    from = after;
    part_is = refl;
    name_given = named;
    no_colons = absent;
    index_given = later tokens at (index_family d b) (at + 1) (Took index (drop after tokens)) (omega arith) h;
    loop = loop_begins (part_steps d (b + operators_maybe_index index)) tokens at after NoNextPartRow (omega (arith, lt));
    after = omega (arith, lt);
    reached = omega arith;
    inside = le;
    counted = omega (arith, c);
    within = w;
  }

  module _ (part : PartTree) (row : NextPartRow) (place count : ℕ) (l : PathLoop tokens at d b part row place count) where
    abbrev parts_so_far : ℕ
    parts_so_far = (b + operators_part part) + operators_next_part_row row

    abbrev one_part : ℕ → Family NextPartRow
    one_part k m n = followed_by (next_part_by (expr_at m) d k) (λ x. Done (with_part row x))

    abbrev behind_index : ℕ → ℕ → MaybeIndex → Parser PathTree
    behind_index m n i = followed_by (repeat_by (parts_of (expr_at m) d (b + operators_part (MakePart l.name i))) m NoNextPartRow) (λ rest. Done (PathDotted (MakePart l.name i) rest))

    abbrev behind_part : ℕ → PartTree → Parser PathTree
    behind_part m x = followed_by (repeat_by (parts_of (expr_at m) d (b + operators_part x)) m NoNextPartRow) (λ rest. Done (PathDotted x rest))

    abbrev behind_name : ℕ → Name → Parser PathTree
    behind_name m x = if_mark kind.ColonColon (item_by d b x) (dotted_by (expr_at m) m d b x)

    whole_given : (o : Outcome PathTree) → SettlesFrom (λ m n. behind_part m part) tokens at l.from o → SettlesFrom (path_family d b) tokens at at o
    whole_given o h =
        settles_both tokens at (λ m n. name_by (counted d b)) (λ m n. behind_name m) at (at + 1) l.name o (token_given tokens at (name_by (counted d b)) at l.name l.name_given)
        (settles_choice tokens at kind.ColonColon (λ m n. item_by d b l.name) (λ m n. dotted_by (expr_at m) m d b l.name) (at + 1) o false l.no_colons
        (settles_both tokens at (index_family d b) behind_index (at + 1) l.from l.index o l.index_given
        (subst (λ (x : PartTree). SettlesFrom (λ m n. behind_part m x) tokens at l.from o) l.part_is h)))

    whole_fails : (e : SyntaxFault) → FailsFrom (λ m n. behind_part m part) tokens at l.from e → FailsFrom (path_family d b) tokens at at e
    whole_fails (the_fault.At k) h = (whole_given (Refused (drop k tokens)) h.0, omega (arith, h.1, l.after), h.2)
    whole_fails (the_fault.Deep k) h = (whole_given (TooDeep (drop k tokens)) h.0, omega (arith, h.1, l.after), h.2)
    whole_fails the_fault.NoMemory h = tt

    pub path_ends : next_is (is_mark kind.Dot) (next (drop place tokens)) ≡ false → SettlesFrom (path_family d b) tokens at at (Took (PathDotted part row) (drop place tokens))
    path_ends absent =
        whole_given (Took (PathDotted part row) (drop place tokens))
        (settles_both tokens at (loop (part_steps d (b + operators_part part)) tokens at l.from NoNextPartRow) (λ m n rest. Done (PathDotted part rest)) l.from place row (Took (PathDotted part row) (drop place tokens))
        (loop_ends (part_steps d (b + operators_part part)) tokens at l.from NoNextPartRow place row l.inside (λ m n. ap (λ (x : Bool). if x then Some (one_part parts_so_far m n) else None) absent) l.loop)
        (done tokens at place (PathDotted part row)))

    module _ (present : next_is (is_mark kind.Dot) (next (drop place tokens)) ≡ true) where
      pub path_fails : (e : SyntaxFault) → FailsFrom (next_part_family d count) tokens place place e → FailsFrom (path_family d b) tokens at at e
      path_fails e h =
          whole_fails e
          (fails_first tokens at (loop (part_steps d (b + operators_part part)) tokens at l.from NoNextPartRow) (λ m n rest. Done (PathDotted part rest)) l.from e
          (loop_fails (part_steps d (b + operators_part part)) tokens at l.from NoNextPartRow place row (one_part parts_so_far) e l.reached l.inside (λ m n. ap (λ (x : Bool). if x then Some (one_part parts_so_far m n) else None) present)
          (subst (λ (k : ℕ). FailsFrom (one_part k) tokens at place e) l.counted
          (fails_first tokens at (next_part_family d count) (λ m n x. Done (with_part row x)) place e (later_fault tokens at (next_part_family d count) place e (omega (arith, l.after, l.reached)) h)))
          l.loop))

      pub path_turns : (more_part : NextPartTree) (after more : ℕ) → SettlesFrom (next_part_family d count) tokens place place (Took more_part (drop after tokens)) → place + 1 ≤ after → after ≤ length tokens → more ≡ count + operators_next_part more_part → more ≤ 256 → PathLoop tokens at d b part (with_part row more_part) after more
      path_turns more_part after more h lt inside c w =
          let end = Took (with_part row more_part) (drop after tokens) in
          record {
            name = l.name;
            index = l.index;
            from = l.from;
            part_is = l.part_is;
            name_given = l.name_given;
            no_colons = l.no_colons;
            index_given = l.index_given;
            loop = loop_turns (part_steps d (b + operators_part part)) tokens at l.from NoNextPartRow place after row (with_part row more_part) (one_part parts_so_far) (omega (arith, l.after, l.reached)) l.inside (λ m n. ap (λ (x : Bool). if x then Some (one_part parts_so_far m n) else None) present)
                (subst (λ (k : ℕ). SettlesFrom (one_part k) tokens at place end) l.counted
                (settles_both tokens at (next_part_family d count) (λ m n x. Done (with_part row x)) place after more_part end (later tokens at (next_part_family d count) place (Took more_part (drop after tokens)) (omega (arith, l.after, l.reached)) h)
                (done tokens at after (with_part row more_part))))
                (omega (arith, lt)) l.loop;
            after = l.after;
            reached = omega (arith, l.reached, lt);
            inside = inside;
            counted = omega (arith, c, l.counted, operators_with_part row more_part);
            within = w;
          }
