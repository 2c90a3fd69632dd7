use Rattle.std.proofs.Common.{◌≡◌, ◌++◌, map, drop}
use Rattle.std.specs.Prelude.{◌&&◌}
use Rattle.std.specs.List.{enumerate_from, filter}
use Rattle.pst_model.specs.ModelView.{view_model}
use Rattle.pst_legal.specs.Types.{same_name, is_under, instances_of}
use Rattle.pst_shape_parts.proofs.within.instances.Given as goal

abbrev pub invariant-loop-part : goal.invariant-loop-part
invariant-loop-part l = (l.number ≡ l.part-index) × (l.found.items ++ map (λ e. e.0) (filter (λ e. same_name e.1.component l.component && is_under (view_model l.model) l.top e.0) (enumerate_from l.part-index (drop l.part-index l.part-items))) ≡ map (λ e. e.0) (filter (λ e. same_name e.1.component l.component && is_under (view_model l.model) l.top e.0) (enumerate_from 0 l.part-items)))
