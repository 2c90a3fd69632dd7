-- The binds of activities, as they join references of a scenario's actions.
use Rattle.std.specs.Prelude.{ℕ, List, [], ◌&&◌, nat_eq, Bool, Option, Some, None, slice_get, flat_map, option_to_list}
use Rattle.std.specs.List.{enumerate_from, find}
use Rattle.std.specs.Option.{option_map, option_and_then}
use Rattle.pst_model.specs.declared.activity.Tie.{Tie}
use Rattle.pst_model.specs.ActivityTree.{ActivityTree}
use Rattle.pst_model.specs.ModelTree.{ModelTree}
use Rattle.pst_scen.specs.declared.tree.Node.{Node}
use Rattle.pst_scen.specs.declared.tree.Fill.{Fill}
use Rattle.pst_scen.specs.declared.tree.Fill.TheVariants as fill
use Rattle.pst_scen.specs.declared.act.Flow.{Flow}
use Rattle.pst_scen.specs.declared.act.Flow.TheVariants.{BufferIn, BufferOut, StreamIn, StreamOut, StateIn, StateOut}
use Rattle.pst_legal.specs.Types.{action_activity}
use Rattle.pst_legal.specs.Slots.{compound_at, node_behind}

-- an output of one action that is bound to an input of another
pub record Bound : Type 0 where
  pub from_act : ℕ
  pub from_reference : ℕ
  pub to_act : ℕ
  pub to_reference : ℕ

abbrev pub act_in : Fill → Option ℕ
act_in (fill.Leaf act) = Some act
act_in _ = None

-- the atomic action behind a handle of the compound action of a node
abbrev pub act_behind : ModelTree → List Node → ℕ → ℕ → Option ℕ
act_behind m nodes top handle = option_and_then (λ n. option_and_then (λ node. act_in node.fill) (slice_get nodes n)) (node_behind m nodes top handle)

-- what a bind joins in the activity of the compound action of a node
abbrev pub bound_by : ModelTree → List Node → ℕ → Tie → Option Bound
bound_by m nodes top tie =
    option_and_then (λ a. option_map (λ b. record { from_act = a; from_reference = tie.from_reference; to_act = b; to_reference = tie.to_reference }) (act_behind m nodes top tie.to_handle))
    (act_behind m nodes top tie.from_handle)

abbrev pub ties_in : Option ActivityTree → List Tie
ties_in None = []
ties_in (Some activity) = activity.binds

-- the binds of the activity of a node's compound action
abbrev pub ties_at : ModelTree → List Node → ℕ → List Tie
ties_at m nodes top = ties_in (option_and_then (action_activity m) (compound_at nodes top))

-- All references that the binds of the activities join, by node and by the text of the activity.
abbrev pub bounds_of : ModelTree → List Node → List Bound
bounds_of m nodes = flat_map (λ e. flat_map (λ tie. option_to_list (bound_by m nodes e.0 tie)) (ties_at m nodes e.0)) (enumerate_from 0 nodes)

abbrev pub is_to : ℕ → ℕ → Bound → Bool
is_to a r bound = nat_eq bound.to_act a && nat_eq bound.to_reference r

abbrev pub is_from : ℕ → ℕ → Bound → Bool
is_from a r bound = nat_eq bound.from_act a && nat_eq bound.from_reference r

abbrev pub from_of : Bound → ℕ × ℕ
from_of bound = (bound.from_act, bound.from_reference)

abbrev pub to_of : Bound → ℕ × ℕ
to_of bound = (bound.to_act, bound.to_reference)

-- The reference that a bind fixes as the source of a need: that of an input, or of a stream output.
abbrev pub fixed_source : List Bound → ℕ → ℕ → Flow → Option (ℕ × ℕ)
fixed_source bounds a r BufferIn = option_map from_of (find (is_to a r) bounds)
fixed_source bounds a r StreamIn = option_map from_of (find (is_to a r) bounds)
fixed_source bounds a r StateIn = option_map from_of (find (is_to a r) bounds)
fixed_source bounds a r StreamOut = option_map to_of (find (is_from a r) bounds)
fixed_source bounds a r BufferOut = None
fixed_source bounds a r StateOut = None
