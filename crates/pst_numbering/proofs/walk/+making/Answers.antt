use Rattle.std.proofs.Common.{arith, ◌≡◌, List, OnOk, IfOk, map, ap, sym, subst, ◌∙◌}
use Rattle.std.specs.Prelude.{Option, Some}
use Rattle.std.specs.Option.{option_map}
use Rattle.std.proofs.lemmas.Grind.{common_steps}
use Rattle.pst_ast.specs.declared.expression.PathNode.{PathNode}
use Rattle.pst_ast.specs.declared.expression.NextPart.{NextPart}
use Rattle.pst_ast.specs.declared.expression.NextRange.{NextRange}
use Rattle.pst_ast.specs.declared.expression.RangeNode.{RangeNode}
use Rattle.pst_ast.specs.declared.expression.RangesNode.{out-RangesNode}
use Rattle.pst_ast.specs.ExpressionView.{view_expr, view_path, view_part, view_next_part, view_range}
use Rattle.pst_expr.specs.Tree.{Expression, Element, view}
use Rattle.pst_expr.specs.declared.tree.BinaryOp.TheVariants.{Or, And, GreaterOrEqual, LessOrEqual}
use Rattle.pst_model.specs.ConstraintTree.{SlotTree}
use Rattle.pst_terms.specs.Terms.{Term, Infix, term_of, path_index, part_index, first_some, range_term}
use Rattle.pst_terms.specs.Slots.{with_term, numbered}
use Rattle.pst_numbering.specs.Kept.{elements_of, view_all}
use Rattle.pst_numbering.specs.Made.{as_range, indexed, list_index, or_each, numbered_maybe, with_maybe}
use Rattle.pst_numbering.proofs.Found.{length_elements}
use Rattle.pst_numbering.proofs.Indexed.{is_none, dotted_are, part_some, element_is, both_is, ranges_are, range_next}
use Rattle.pst_numbering.proofs.walk.+making.Goals as goal

pub add_element-returns-in_default-clause-slots : goal.add_element-returns-in_default-clause-slots
add_element-returns-in_default-clause-slots g t c =
    let read = g.R.PathReader.reads c.args.reader.now in
    let es = elements_of c.args.first c.args.count in
    let old = view_all c.args.slots.now in
    let none = is_none (view_all c.add_part_element.new.slots) es (part_index read (view_part c.in-Dotted.part)) (sym (ap (option_map view) c.in_default.is) ∙ c.in_ok-element-in-Dotted.ensures.expr) in
    let index : path_index read (view_path c.args.path.now) ≡ list_index read (map view_next_part c.as_slice.result.now) =
    ap (λ (p : PathNode). path_index read (view_path p)) c.in-Dotted.is
    ∙ dotted_are read c.in-Dotted.part c.in-Dotted.rest
    ∙ ap (λ (q : Option (Term SlotTree)). first_some q (list_index read (map view_next_part c.in-Dotted.rest.items))) none
    ∙ ap (λ (ns : List NextPart). list_index read (map view_next_part ns)) (sym c.as_slice.ensures.value) in
    let mid : view_all c.add_part_element.new.slots ≡ old = c.in_ok-element-in-Dotted.ensures.slots ∙ ap (λ (q : Option (Term SlotTree)). with_maybe old (indexed es q)) none in
    subst (λ (q : Option (Term SlotTree)). OnOk c.add_next_element.result (view_all c.add_next_element.new.slots ≡ with_maybe old (indexed es q))) (sym index)
    (subst (λ (s : List SlotTree). OnOk c.add_next_element.result (view_all c.add_next_element.new.slots ≡ with_maybe s (indexed es (list_index read (map view_next_part c.as_slice.result.now))))) mid c.add_next_element.ensures.slots)

pub add_element-returns-in_default-clause-expr : goal.add_element-returns-in_default-clause-expr
add_element-returns-in_default-clause-expr g t c =
    let read = g.R.PathReader.reads c.args.reader.now in
    let es = elements_of c.args.first c.args.count in
    let none = is_none (view_all c.add_part_element.new.slots) es (part_index read (view_part c.in-Dotted.part)) (sym (ap (option_map view) c.in_default.is) ∙ c.in_ok-element-in-Dotted.ensures.expr) in
    let index : path_index read (view_path c.args.path.now) ≡ list_index read (map view_next_part c.as_slice.result.now) =
    ap (λ (p : PathNode). path_index read (view_path p)) c.in-Dotted.is
    ∙ dotted_are read c.in-Dotted.part c.in-Dotted.rest
    ∙ ap (λ (q : Option (Term SlotTree)). first_some q (list_index read (map view_next_part c.in-Dotted.rest.items))) none
    ∙ ap (λ (ns : List NextPart). list_index read (map view_next_part ns)) (sym c.as_slice.ensures.value) in
    subst (λ (q : Option (Term SlotTree)). IfOk c.add_next_element.result (λ e. option_map view e ≡ numbered_maybe (view_all c.add_next_element.new.slots) (indexed es q))) (sym index) c.add_next_element.ensures.expr

pub add_part_element-returns-in_ok-new-in-Some-clause-expr : goal.add_part_element-returns-in_ok-new-in-Some-clause-expr
add_part_element-returns-in_ok-new-in-Some-clause-expr g t c =
    let read = g.R.PathReader.reads c.args.reader.now in
    let es = elements_of c.args.first c.args.count in
    let new = view_all c.add_operators.new.slots in
    subst (λ (q : Option (Term SlotTree)). Some (Element c.in_ok-number-in-Some.number c.args.count (view c.in_ok-new-in-Some.field-0.value)) ≡ numbered_maybe new (indexed es q)) (sym (part_some read c.args.part.now c.in-Some.index c.in-Some.is))
    (ap Some (element_is (view_all c.args.slots.now) (view_all c.add_elements.new.slots) new es (term_of read (view_expr c.in-Some.index.expr.value)) c.in_ok-number-in-Some.number c.args.count (view c.in_ok-new-in-Some.field-0.value)
    c.in_ok-number-in-Some.ensures.slots c.in_ok-number-in-Some.ensures.number (sym (length_elements c.args.first c.args.count)) (grind (arith, common_steps)) (grind (arith, common_steps))))

pub add_range-returns-in_ok-below-in-Between-clause-expr : goal.add_range-returns-in_ok-below-in-Between-clause-expr
add_range-returns-in_ok-below-in-Between-clause-expr g t c =
    let read = g.R.PathReader.reads c.args.reader.now in
    let new = view_all c.add_comparison-in-Between-2.new.slots in
    let above = Infix GreaterOrEqual (term_of read (view_expr c.args.left.now)) (term_of read (view_expr c.in-Between.low)) in
    let below = Infix LessOrEqual (term_of read (view_expr c.args.left.now)) (term_of read (view_expr c.in-Between.high)) in
    subst (λ (r : RangeNode). IfOk c.binary.result (λ e. view e ≡ numbered new (range_term read (term_of read (view_expr c.args.left.now)) (view_range r)))) (sym c.in-Between.is)
    (subst (λ (v : Expression). IfOk c.binary.result (λ e. view e ≡ v))
    (both_is And (view_all c.args.slots.now) (view_all c.add_comparison-in-Between.new.slots) new above below (view c.in_ok-above-in-Between.above) (view c.in_ok-below-in-Between.below)
    c.in_ok-above-in-Between.ensures.slots c.in_ok-below-in-Between.ensures.slots c.in_ok-above-in-Between.ensures.expr c.in_ok-below-in-Between.ensures.expr)
    c.binary.ensures)

pub add_ranges-loop-next-init : goal.add_ranges-loop-next-init
add_ranges-loop-next-init g t c =
    let read = g.R.PathReader.reads c.args.reader.now in
    let x = term_of read (view_expr c.args.left.now) in
    let first = range_term read x (view_range (out-RangesNode c.args.ranges.now).first.value) in
    record {
      before = first;
      slots = grind (arith, common_steps);
      found = grind (arith, common_steps);
      rest = ap (λ (ns : List NextRange). or_each read x first (map as_range ns)) c.as_slice-rest.ensures.value ∙ sym (ranges_are read x c.args.ranges.now);
    }

pub add_ranges-loop-next-preserved : goal.add_ranges-loop-next-preserved
add_ranges-loop-next-preserved g t c =
    let read = g.R.PathReader.reads c.args.reader.now in
    let x = term_of read (view_expr c.args.left.now) in
    let before = c.loop-next.invariant.before in
    let more = range_term read x (as_range c.next-item.result) in
    record {
      before = Infix Or before more;
      slots = c.in_ok-more.ensures.slots ∙ ap (λ (l : List SlotTree). with_term l more) c.loop-next.invariant.slots;
      found = c.in_ok-found-2.ensures ∙ both_is Or (view_all c.args.slots.now) (view_all c.loop-next.slots) (view_all c.add_range-in-loop-next.new.slots) before more (view c.loop-next.found) (view c.in_ok-more.more)
          c.loop-next.invariant.slots c.in_ok-more.ensures.slots c.loop-next.invariant.found c.in_ok-more.ensures.expr;
      rest = sym (range_next read x c.as_slice-rest.result.now c.loop-next.next-index c.next-item.result before c.loop-next-test.true c.next-item.is) ∙ c.loop-next.invariant.rest;
    }
