-- Elements of arrays, and the rows of parts and ranges as lists.
use Rattle.std.proofs.Common.{◌≡◌, ◌<◌, refl, sym, ap, ◌∙◌, map}
use Rattle.std.specs.Prelude.{ℕ, ◌+◌, pos, List, length, drop, get_or, Option, Some, None}
use Rattle.std.specs.Global.{Vec}
use Rattle.std.proofs.lemmas.List.{drop_more}
use Rattle.pst_ast.specs.declared.expression.PathNode.{Row_of-NextPart, end_of-NextPart, more_of-NextPart, items-the_row-NextPart, items_hidden-the_row-NextPart-0}
use Rattle.pst_ast.specs.declared.expression.PathNode.TheVariants as the_path
use Rattle.pst_ast.specs.declared.expression.PartNode.{PartNode, PartNode', out-PartNode, None', Some'}
use Rattle.pst_ast.specs.declared.expression.IndexNode.{IndexNode}
use Rattle.pst_ast.specs.declared.expression.NextPart.{NextPart, NextPart', out-NextPart}
use Rattle.pst_ast.specs.declared.expression.ExprNode.TheBlock.{hidden-the_row-NextPart-0, items-the_row-NextRange, items_shown-the_row-NextRange-1}
use Rattle.pst_ast.specs.declared.expression.RangesNode.{RangesNode, RangesNode', out-RangesNode, Row_of-NextRange, end_of-NextRange, more_of-NextRange}
use Rattle.pst_ast.specs.declared.expression.NextRange.{NextRange}
use Rattle.pst_ast.specs.ExpressionTree.{PathTree}
use Rattle.pst_ast.specs.ExpressionView.{view_expr, view_path, view_part, view_next_part, view_next_part_row, view_range, view_ranges, view_next_range_row}
use Rattle.pst_expr.specs.Tree.{Expression, Constant, Binary, Element}
use Rattle.pst_expr.specs.declared.tree.BinaryOp.{BinaryOp}
use Rattle.pst_expr.specs.declared.tree.BinaryOp.TheVariants.{Or}
use Rattle.pst_model.specs.ConstraintTree.{SlotTree}
use Rattle.pst_terms.specs.Terms.{Term, Infix, Indexed, Reading, AnArray, first_some, term_at, term_of, path_index, part_index, dotted_index, row_index, ranges_term, or_ranges, range_term}
use Rattle.pst_terms.specs.Slots.{with_slots, with_term, first_number, numbered}
use Rattle.pst_numbering.proofs.Grown.{first_stays, numbered_stays}
use Rattle.pst_numbering.specs.Made.{indexed, with_maybe, numbered_maybe, list_index, as_range, or_each}

-- ---- an index that was found, or none

some_none : {A : Type 0} {x : A} → Some x ≡ None → ⊥
some_none {A} {x} e = cc

pub is_none : (slots elements : List SlotTree) (p : Option (Term SlotTree)) → None ≡ numbered_maybe slots (indexed elements p) → p ≡ None
is_none slots elements None e = refl
is_none slots elements (Some t) e = absurd (some_none (sym e))

pub is_first : (slots elements : List SlotTree) (p rest : Option (Term SlotTree)) (e : Expression) → Some e ≡ numbered_maybe slots (indexed elements p) → first_some p rest ≡ p
is_first slots elements None rest e is = absurd (some_none is)
is_first slots elements (Some t) rest e is = refl

same_some : {A : Type 0} {x y : A} → Some x ≡ Some y → x ≡ y
same_some {A} {x} {y} e = cc

module _ (read : Reading SlotTree) (old new elements : List SlotTree) (is : AnArray elements ≡ read) where
  pub element_slots : (p : Option (Term SlotTree)) (e : Expression) → Some e ≡ numbered_maybe new (indexed elements p) → new ≡ with_maybe old (indexed elements p) → new ≡ with_term old (term_at read p)
  element_slots None e found slots = absurd (some_none found)
  element_slots (Some t) e found slots = slots ∙ ap (λ (r : Reading SlotTree). with_term old (term_at r (Some t))) is

  pub element_expr : (p : Option (Term SlotTree)) (e : Expression) → Some e ≡ numbered_maybe new (indexed elements p) → e ≡ numbered new (term_at read p)
  element_expr None e found = absurd (some_none found)
  element_expr (Some t) e found = same_some found ∙ ap (λ (r : Reading SlotTree). numbered new (term_at r (Some t))) is

  pub missing_slots : (p : Option (Term SlotTree)) → None ≡ numbered_maybe new (indexed elements p) → new ≡ with_maybe old (indexed elements p) → new ≡ with_term old (term_at read p)
  missing_slots None found slots = slots ∙ ap (λ (r : Reading SlotTree). with_term old (term_at r None)) is
  missing_slots (Some t) found slots = absurd (some_none (sym found))

  pub missing_expr : (p : Option (Term SlotTree)) → None ≡ numbered_maybe new (indexed elements p) → Constant (pos 0) ≡ numbered new (term_at read p)
  missing_expr None found = ap (λ (r : Reading SlotTree). numbered new (term_at r None)) is
  missing_expr (Some t) found = absurd (some_none (sym found))

-- ---- rows

module _ (read : PathTree → Reading SlotTree) where
  pub next_index : (next : NextPart) → part_index read (view_part (out-NextPart next).part) ≡ dotted_index read (view_next_part next)
  unfolding out-NextPart denote.Hole.Carrier.out
  next_index (NextPart' dot part) = refl

  parts_row : {n : _} (k : Row_of-NextPart n) → row_index read (view_next_part_row k) ≡ list_index read (map view_next_part (items-the_row-NextPart n k))
  parts_row end_of-NextPart = refl
  parts_row (more_of-NextPart head tail) = ap (λ (p : Option (Term SlotTree)). first_some (dotted_index read (view_next_part head)) p) (parts_row tail)

  pub dotted_are : (first : PartNode) (v : Vec NextPart) → path_index read (view_path (the_path.Dotted first v)) ≡ first_some (part_index read (view_part first)) (list_index read (map view_next_part v.items))
  dotted_are first v = ap (λ (p : Option (Term SlotTree)). first_some (part_index read (view_part first)) p) (parts_row (hidden-the_row-NextPart-0 v) ∙ ap (λ (ns : List NextPart). list_index read (map view_next_part ns)) (items_hidden-the_row-NextPart-0 v))

  -- one part after another
  pub at_next : (parts : List NextPart) (i : ℕ) (next : NextPart) → i < length parts → next ≡ get_or parts i next
      → list_index read (map view_next_part (drop i parts)) ≡ first_some (dotted_index read (view_next_part next)) (list_index read (map view_next_part (drop (i + 1) parts)))
  at_next parts i next within is =
      ap (λ (ns : List NextPart). list_index read (map view_next_part ns)) (drop_more parts i next within)
      ∙ ap (λ (n : NextPart). first_some (dotted_index read (view_next_part n)) (list_index read (map view_next_part (drop (i + 1) parts)))) (sym is)

  module _ (x : Term SlotTree) where
    ranges_row : (before : Term SlotTree) {n : _} (k : Row_of-NextRange n) → or_ranges read x before (view_next_range_row k) ≡ or_each read x before (map as_range (items-the_row-NextRange n k))
    ranges_row before end_of-NextRange = refl
    ranges_row before (more_of-NextRange comma range tail) = ranges_row (Infix Or before (range_term read x (view_range range))) tail

    pub ranges_are : (r : RangesNode) → ranges_term read x (view_ranges r) ≡ or_each read x (range_term read x (view_range (out-RangesNode r).first.value)) (map as_range (out-RangesNode r).rest.items)
    unfolding out-RangesNode denote.Hole.Carrier.out
    ranges_are (RangesNode' pointer first shape rest) =
        ranges_row (range_term read x (view_range first)) rest
        ∙ ap (λ (rs : _). or_each read x (range_term read x (view_range first)) (map as_range rs)) (sym (items_shown-the_row-NextRange-1 shape rest))

    pub range_next : (ranges : List NextRange) (i : ℕ) (next : NextRange) (before : Term SlotTree) → i < length ranges → next ≡ get_or ranges i next
        → or_each read x before (map as_range (drop i ranges)) ≡ or_each read x (Infix Or before (range_term read x (as_range next))) (map as_range (drop (i + 1) ranges))
    range_next ranges i next before within is =
        ap (λ (ns : List NextRange). or_each read x before (map as_range ns)) (drop_more ranges i next within)
        ∙ ap (λ (n : NextRange). or_each read x (Infix Or before (range_term read x (as_range n))) (map as_range (drop (i + 1) ranges))) (sym is)

-- ---- parts that are put together

module _ (read : PathTree → Reading SlotTree) where
  pub part_some : (part : PartNode) (index : IndexNode) → (out-PartNode part).index ≡ Some index → part_index read (view_part part) ≡ Some (term_of read (view_expr index.expr.value))
  unfolding out-PartNode denote.Hole.Carrier.out
  part_some (PartNode' name None') index e = absurd (some_none (sym e))
  part_some (PartNode' name (Some' left pointer expr right)) index e = ap (λ (i : IndexNode). Some (term_of read (view_expr i.expr.value))) (same_some e)

pub element_is : (old mid new elements : List SlotTree) (t : Term SlotTree) (number count : ℕ) (e : Expression) → mid ≡ with_slots old elements → number ≡ first_number mid elements → count ≡ length elements → new ≡ with_term mid t
    → e ≡ numbered new t → Element number count e ≡ numbered new (Indexed elements t)
element_is old mid new elements t number count e mids numbers counts news es =
    let first : number ≡ first_number new elements = numbers ∙ ap (λ (l : List SlotTree). first_number l elements) mids ∙ sym (first_stays old elements t) ∙ ap (λ (l : List SlotTree). first_number l elements) (sym (news ∙ ap (λ (l : List SlotTree). with_term l t) mids)) in
    (λ i. Element (first i) (counts i) (es i))

pub both_is : (op : BinaryOp) (old mid new : List SlotTree) (left right : Term SlotTree) (a b : Expression) → mid ≡ with_term old left → new ≡ with_term mid right → a ≡ numbered mid left → b ≡ numbered new right
    → Binary op a b ≡ numbered new (Infix op left right)
both_is op old mid new left right a b mids news first second =
    let stays : a ≡ numbered new left = first ∙ ap (λ (l : List SlotTree). numbered l left) mids ∙ sym (numbered_stays old left right) ∙ ap (λ (l : List SlotTree). numbered l left) (sym (news ∙ ap (λ (l : List SlotTree). with_term l right) mids)) in
    (λ i. Binary op (stays i) (second i))
