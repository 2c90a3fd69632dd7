use Rattle.std.proofs.Common.{◌≡◌, drop}
use Rattle.std.specs.List.{list_any}
use Rattle.pst_legal.specs.Menus.{is_in_span}
use Rattle.pst_shape_parts.proofs.branches.is_in.Given as goal

abbrev pub invariant-loop-span : goal.invariant-loop-span
invariant-loop-span l = list_any (is_in_span l.value) (drop l.span-index l.spans) ≡ list_any (is_in_span l.value) l.spans
