use Rattle.std.proofs.Common.{◌≡◌, arith, length, ◌∙◌}
use Rattle.std.proofs.lemmas.Grind.{common_steps}
use Rattle.std.proofs.lemmas.List.{nil_from_length}
use Rattle.pst_marked_bases.proofs.marked.MarkedBases.new.Goals as goal

pub invariant_of-result : goal.invariant_of-result
invariant_of-result c = record {
  leads = c.in_ok-table.ensures;
  unmarked = λ e. let none : length c.args.places.items ≡ 0 = grind (arith, common_steps) in c.in_ok-marks.ensures ∙ nil_from_length c.args.places.items none;
}
