use Rattle.std.proofs.Common.{◌≡◌, drop}
use Rattle.std.specs.List.{flat_map}
use Rattle.pst_ast.specs.ExpressionView.{view_next_part, view_next_range}
use Rattle.pst_type_rules.specs.Places.{dotted_ins, comma_range_ins}
use Rattle.pst_name_rules.specs.Leasts.{least_at}
use Rattle.pst_use_rules.specs.Found.{inner_in}
use Rattle.pst_use_rules.proofs.inner.+inner_ins.Given as goal

abbrev pub invariant-inner_of_parts-loop-next : goal.invariant-inner_of_parts-loop-next
invariant-inner_of_parts-loop-next l = least_at inner_in (flat_map (λ next. dotted_ins l.within (view_next_part next)) (drop l.next-index l.parts)) l.found ≡ least_at inner_in (flat_map (λ next. dotted_ins l.within (view_next_part next)) l.parts) l.fn.before

abbrev pub invariant-inner_of_next_ranges-loop-next : goal.invariant-inner_of_next_ranges-loop-next
invariant-inner_of_next_ranges-loop-next l = least_at inner_in (flat_map (λ next. comma_range_ins l.within (view_next_range next)) (drop l.next-index l.ranges)) l.found ≡ least_at inner_in (flat_map (λ next. comma_range_ins l.within (view_next_range next)) l.ranges) l.fn.before
