-- When a constraint fails.
use Rattle.std.specs.Prelude.{ℕ, ℤ, List, Bool, true, false, not, ◌&&◌, Option, Some, None}
use Rattle.std.specs.List.{list_any}
use Rattle.pst_model.specs.ModelTree.{ModelTree}
use Rattle.pst_scen.specs.declared.tree.Node.{Node}
use Rattle.pst_scen.specs.declared.act.Act.{Act}
use Rattle.pst_scen.specs.declared.scenario.Scenario.{Scenario}
use Rattle.pst_legal.specs.Types.{is_state_pool}
use Rattle.pst_legal.specs.Blanks.{refers_to}
use Rattle.pst_expr.specs.declared.ranges.Span.{Span}
use Rattle.pst_model.specs.ConstraintTree.{SlotTree, ConstraintTree}
use Rattle.pst_legal.specs.Pieces.{is_true}
use Rattle.pst_legal.specs.Standing.{Standing}
use Rattle.pst_legal.specs.Constraints.{is_refused_at, value_at}
use Rattle.pst_known.specs.declared.known.Known.{Known}
use Rattle.pst_known.specs.declared.known.Known.TheVariants as known
use Rattle.pst_slots.specs.Listed.{Stating, of_fill}

abbrev pub bound_in : Known → Option Span
bound_in (known.Value v) = Some (record { low = v; high = v })
bound_in (known.Open span) = Some span
bound_in known.Lacking = None

abbrev pub value_in : Known → Option ℤ
value_in (known.Value v) = Some v
value_in (known.Open span) = None
value_in known.Lacking = None

-- by values it has no value but 0, and by what is known it is refused
abbrev pub fails_at : Bool → ConstraintTree → (SlotTree → Standing) → Bool
fails_at true k standing = not (is_true (value_at k standing))
fails_at false k standing = is_refused_at k standing

abbrev pub fails : Bool → Stating → Bool
fails by_values one = fails_at by_values one.constraint one.standing

-- a pool of states that some action refers to
abbrev pub is_used_state : ModelTree → List Act → ℕ → Bool
is_used_state m acts pool = is_state_pool m pool && list_any (refers_to pool) acts

-- those of the compound action of a numbered node
abbrev pub of_numbered : ModelTree → Scenario → ℕ × Node → List Stating
of_numbered m s e = of_fill m s e.0 e.1.fill
