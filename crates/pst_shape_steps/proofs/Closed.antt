-- A place without an option reads nothing.
use Rattle.std.proofs.Common.{◌≡◌, ℕ, zero, suc, ◌<◌, List, Bool, true, false, subst, arith}
use Rattle.std.specs.Prelude.{nat_le, if◌then◌else◌, slice_get, length, map}
use Rattle.pst_model.specs.ModelTree.{ModelTree}
use Rattle.pst_scen.specs.declared.scenario.Scenario.{Scenario}
use Rattle.pst_model.specs.ModelView.{view_action}
use Rattle.pst_legal.specs.Menus.{Menu, join_menu, instance_menu, branch_menu}
use Rattle.pst_legal.specs.Reading.{Reader, Stops, then_read, read_menu, read_pieces, read_piece}
use Rattle.pst_shape_steps.specs.declared.pending.At.{At}
use Rattle.pst_shape_steps.specs.declared.pending.At.TheVariants as at
use Rattle.pst_shape_steps.specs.declared.pending.Spot.{Spot}
use Rattle.pst_shape_steps.specs.declared.pending.Spot.TheVariants as spot
use Rattle.pst_shape_parts.specs.Contexts.{context_of, view_numbered}
use Rattle.pst_shape_parts.specs.Trees.{Tree, values_at}
use Rattle.pst_shape_steps.specs.Pending.{below_fields, spot_menu, options_of, way_at, read_stack, read_on, IsSpot, IsOpen, IsPlaced, IsClosed}
use Rattle.pst_shape_steps.proofs.Levels.{no_option, no_weight, no_value}

pub open_placed : (x : At) (t : Tree) → IsOpen x t → IsPlaced x
open_placed (at.Going stack) t h = tt
open_placed (at.Place s levels parent below) t h = h
open_placed (at.Value f levels below) t h = h.0
open_placed at.Whole t h = tt
open_placed at.Dead t h = tt

options_if : (c : Bool) (x y : Menu) → 0 < options_of x → 0 < options_of y → 0 < options_of (if c then x else y)
options_if true x y h k = h
options_if false x y h k = k

pub some_option : (after : List Bool → Menu) (more left : ℕ) (joined : List Bool) → 0 < left → 0 < options_of (join_menu after more left joined)
some_option after more zero joined h = absurd (omega arith)
some_option after zero (suc b) joined h = omega arith
some_option after (suc n) (suc b) joined h = options_if (nat_le (suc n) b) _ _ (omega arith) (omega arith)

spot_closed : (m : ModelTree) (seed levels : ℕ) (x : Spot) (parent : _) (s : Scenario) (p : ℕ) (l : List ℕ) (after : Reader) → IsSpot x → options_of (spot_menu x) ≡ 0 → then_read (read_menu seed (spot_menu x) (way_at m seed levels parent) s p l) after ≡ Stops
spot_closed m seed levels (spot.Instance action kind options) parent s p l after i h = no_option seed (length options.items) (λ k. instance_menu (view_action kind.now) action (slice_get options.items k)) (way_at m seed levels parent) s p l after h
spot_closed m seed levels (spot.Branch frame found) parent s p l after i h = no_weight seed found.weights.items (λ k. branch_menu (context_of frame.value) (slice_get (map view_numbered found.branches.items) k)) (way_at m seed levels parent) s p l after h
spot_closed m seed levels (spot.Join chosen) parent s p l after i h =
    let k : 0 < options_of (spot_menu (spot.Join chosen)) = some_option _ chosen.more chosen.left chosen.joined.items i in
    let z : 0 < 0 = subst (λ n. 0 < n) h k in absurd (omega arith)

pub closed_stops : (m : ModelTree) (seed : ℕ) (x : At) (s : Scenario) (p : ℕ) (l : List ℕ) → IsPlaced x → IsClosed x → read_on m seed x s p l ≡ Stops
closed_stops m seed (at.Going stack) s p l i h = absurd h
closed_stops m seed (at.Place x levels parent below) s p l i h = spot_closed m seed levels x parent s p l (read_stack m seed below.value) i h
closed_stops m seed (at.Value f levels below) s p l i h = no_value seed f.node f.fields.now (values_at (slice_get s.nodes f.node)) (λ values. read_pieces (read_piece m seed levels) (below_fields f values) f.node) s p l (read_stack m seed below.value) i h
closed_stops m seed at.Whole s p l i h = absurd h
closed_stops m seed at.Dead s p l i h = absurd h
