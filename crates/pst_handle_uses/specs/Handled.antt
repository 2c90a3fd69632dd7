-- What the rules of handles ask of the uses of names.
use Rattle.std.specs.Prelude.{ℕ, List, ◌++◌, map, Bool, false, if◌then◌else◌, Option, Some, None}
use Rattle.std.specs.List.{flat_map}
use Rattle.std.specs.Option.{option_map, option_map_or, option_or, option_and_then, option_to_list}
use Rattle.pst_base.specs.declared.table.NameId.{NameId}
use Rattle.pst_ast.specs.declared.leaf.Name.{Name}
use Rattle.pst_ast.specs.declared.activity.EndNode.{EndNode}
use Rattle.pst_ast.specs.declared.scope_declaration.Declaration.{Declaration}
use Rattle.pst_ast.specs.declared.environment.Environment.{Environment}
use Rattle.pst_ast.specs.declared.referent.Owner.{Owner}
use Rattle.pst_ast.specs.declared.referent.Owner.TheVariants.{OfAction}
use Rattle.pst_ast.specs.Lookups.{member_of, stands_for, traversed, type_of}
use Rattle.pst_ast.specs.Paths.{is_handle_referent}
use Rattle.pst_ast.specs.Uses.{Use}
use Rattle.pst_type_rules.specs.Binds.{Pair, pairs_of, reference_at, is_stream}
use Rattle.pst_type_rules.specs.Handles.{Mention, mention, mentions}
use Rattle.pst_handle_uses.specs.declared.handle_use.Tied.{Tied}
use Rattle.pst_handle_uses.specs.declared.handle_use.Judging.{Judging}

-- ---- pairs of ends

abbrev pub pair : Environment → EndNode → EndNode → Pair
pair at first other = record { at = at; first = first; other = other }

-- whether an end is a reference to a stream
abbrev pub is_stream_end : List Declaration → List (List ℕ) → Environment → EndNode → Bool
is_stream_end ds names at end = option_map_or (λ t. is_stream t.sort) (option_and_then (type_of ds) (reference_at ds names at end)) false

abbrev pub tied : List Declaration → List (List ℕ) → Pair → Tied
tied ds names p = record { owner = p.at.owner; first = p.first; other = p.other; stream = is_stream_end ds names p.at p.first }

-- ---- handles that are named

abbrev pub naming : Environment → Bool → Name → Mention
naming at inherited name = mention at inherited name

-- the action, where it has a member of that name
abbrev pub having : List Declaration → NameId → Declaration → Option Declaration
having ds name action = option_map (λ m. action) (member_of ds action name)

-- the action that is traversed, where it has a member of that name
abbrev pub traversed_with : List Declaration → List (List ℕ) → Environment → NameId → Option Declaration
traversed_with ds names at name = option_and_then (λ t. option_and_then (having ds name) (traversed ds names at t)) at.traversal

abbrev pub action_in : Owner → Option Declaration
action_in (OfAction action) = Some action
action_in _ = None

-- the action in whose text a name stands, or whose member it is in an inline constraint
abbrev pub judge_of : List Declaration → List (List ℕ) → Environment → NameId → Option Declaration
judge_of ds names at name = option_or (traversed_with ds names at name) (action_in at.owner)

abbrev pub with_judge : Mention → Declaration → Judging
with_judge m action = record { name = m.name; action = action; derived = m.inherited }

-- what is asked of a mention, where it stands for a handle and an action judges it
abbrev pub judging : List Declaration → List (List ℕ) → Mention → Option Judging
judging ds names m =
    if option_map_or is_handle_referent (stands_for ds names m.at m.name.id) false then option_map (with_judge m) (judge_of ds names m.at m.name.id) else None

abbrev pub judgings_of : List Declaration → List (List ℕ) → Use → List Judging
judgings_of ds names u = flat_map (λ m. option_to_list (judging ds names m)) (mentions u)

-- ---- uses one after another

-- what the sources declare and the texts of names, and what is asked of the uses so far
pub record Handled : Type 0 where
  pub ds : List Declaration
  pub names : List (List ℕ)
  pub ties : List Tied
  pub judgings : List Judging

-- a further use
abbrev pub handled : Handled → Use → Handled
handled so_far u = record so_far { ties = so_far.ties ++ map (tied so_far.ds so_far.names) (pairs_of u); judgings = so_far.judgings ++ judgings_of so_far.ds so_far.names u }
