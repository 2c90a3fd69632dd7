use Rattle.std.proofs.Common.{arith, ◌≡◌, ◌+◌, List, ap, sym, subst, ◌∙◌, drop, Option}
use Rattle.std.proofs.lemmas.Grind.{common_steps}
use Rattle.pst_base.specs.declared.position.Place.{Place}
use Rattle.pst_ast.specs.declared.expression.PathNode.{PathNode}
use Rattle.std.specs.List.{flat_map}
use Rattle.pst_ast.specs.ExpressionView.{view_path, view_next_part, view_next_range}
use Rattle.pst_ast.specs.declared.referent.Finding.{Finding}
use Rattle.pst_type_rules.specs.Places.{path_ins, dotted_ins, comma_range_ins}
use Rattle.pst_name_rules.specs.Leasts.{least_at}
use Rattle.pst_use_rules.specs.Found.{inner_in}
use Rattle.pst_use_rules.proofs.InnerRows.{dotted_ins_are, dotted_is, ranges_ins_are}
use Rattle.pst_use_rules.proofs.LeastOf.{least_of_more, one_more}
use Rattle.pst_use_rules.proofs.inner.+inner_ins.Goals as goal

pub inner_of_path-returns-in-Dotted : goal.inner_of_path-returns-in-Dotted
inner_of_path-returns-in-Dotted t c =
    subst (λ (ps : List Place). c.inner_of_parts.result ≡ least_at inner_in ps c.args.before) (sym (ap (λ (p : PathNode). path_ins c.args.within (view_path p)) c.in-Dotted.is ∙ dotted_ins_are c.args.within c.in-Dotted.first c.in-Dotted.rest)) (grind (arith, common_steps, least_of_more))

pub inner_of_ranges-returns : goal.inner_of_ranges-returns
inner_of_ranges-returns t c =
    subst (λ (ps : List Place). c.inner_of_next_ranges.result ≡ least_at inner_in ps c.args.before) (sym (ranges_ins_are c.args.within c.args.ranges.now)) (grind (arith, common_steps, least_of_more))

pub inner_of_parts-loop-next-preserved : goal.inner_of_parts-loop-next-preserved
inner_of_parts-loop-next-preserved t c =
    ap (λ (f : Option Finding). least_at inner_in (flat_map (λ next. dotted_ins c.args.within (view_next_part next)) (drop (c.loop-next.next-index + 1) c.args.parts.now)) f) (c.inner_of_part-found.ensures ∙ ap (λ (ps : List Place). least_at inner_in ps c.loop-next.found) (dotted_is c.args.within c.next-item.result))
    ∙ one_more inner_in (λ next. dotted_ins c.args.within (view_next_part next)) c.args.parts.now c.loop-next.next-index c.next-item.result c.loop-next.found c.loop-next-test.true c.next-item.is
    ∙ c.loop-next.invariant

pub inner_of_next_ranges-loop-next-preserved : goal.inner_of_next_ranges-loop-next-preserved
inner_of_next_ranges-loop-next-preserved t c =
    ap (λ (f : Option Finding). least_at inner_in (flat_map (λ next. comma_range_ins c.args.within (view_next_range next)) (drop (c.loop-next.next-index + 1) c.args.ranges.now)) f) c.inner_of_range-found.ensures
    ∙ one_more inner_in (λ next. comma_range_ins c.args.within (view_next_range next)) c.args.ranges.now c.loop-next.next-index c.next-item.result c.loop-next.found c.loop-next-test.true c.next-item.is
    ∙ c.loop-next.invariant
