-- Joined references, as the definitions see them.
use Rattle.std.specs.Prelude.{ℕ, List, [], ◌∷◌, Bool, ◌&&◌, nat_eq, if◌then◌else◌, Option, Some, None, flat_map, option_to_list}
use Rattle.std.specs.List.{enumerate_from}
use Rattle.std.specs.Option.{option_map, option_and_then, option_or}
use Rattle.pst_model.specs.declared.activity.Tie.{Tie}
use Rattle.pst_model.specs.ModelTree.{ModelTree}
use Rattle.pst_scen.specs.declared.tree.Fill.{Fill}
use Rattle.pst_scen.specs.declared.tree.Node.{Node}
use Rattle.pst_legal.specs.Types.{action_activity}
use Rattle.pst_legal.specs.Slots.{compound_in}
use Rattle.pst_legal.specs.Binds.{Bound, ties_in, ties_at, bound_by}
use Rattle.pst_ties.specs.declared.tied.Tied.{Tied}
use Rattle.pst_ties.specs.declared.tied.End.{End}

abbrev pub bound_of : Tied → Bound
bound_of t = record { from_act = t.from.act; from_reference = t.from.reference; to_act = t.to.act; to_reference = t.to.reference }

abbrev pub pair_of : End → ℕ × ℕ
pair_of end = (end.act, end.reference)

-- the reference that a bind fixes as a source
abbrev pub fixed_of : Option End → Option (ℕ × ℕ)
fixed_of end = option_map pair_of end

-- the binds of the activity of an action type
abbrev pub binds_of : ModelTree → ℕ → List Tie
binds_of m action = ties_in (action_activity m action)

-- the binds of the activity of a node's compound action
abbrev pub binds_in : ModelTree → Fill → List Tie
binds_in m fill = ties_in (option_and_then (action_activity m) (compound_in fill))

-- what the binds join in the nodes that are numbered from there on
abbrev pub bounds_from : ModelTree → List Node → ℕ → List Node → List Bound
bounds_from m nodes number some = flat_map (λ e. flat_map (λ tie. option_to_list (bound_by m nodes e.0 tie)) (ties_at m nodes e.0)) (enumerate_from number some)

-- ---- ends that are kept

abbrev pub same_end : End → End → Bool
same_end a b = nat_eq a.act b.act && nat_eq a.reference b.reference

-- what was found, or else the other end, where that is found
abbrev pub or_end : Option End → Bool → End → Option End
or_end found next other = option_or found (if next then Some other else None)

-- the output of the first bind that names the input
abbrev pub output_to : List Tied → End → Option End
output_to [] q = None
output_to (t ∷ more) q = if same_end t.to q then Some t.from else output_to more q

-- the input of the first bind that names the output
abbrev pub input_from : List Tied → End → Option End
input_from [] q = None
input_from (t ∷ more) q = if same_end t.from q then Some t.to else input_from more q
