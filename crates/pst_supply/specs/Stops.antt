-- Where reading stands, as the program keeps it.
use Rattle.std.specs.Prelude.{◌≡◌, ℕ, ◌-◌, List, [], ◌∷◌, length, Bool, ◌&&◌, nat_eq, nat_lt, if◌then◌else◌, Option, Some, None}
use Rattle.std.specs.List.{find}
use Rattle.std.specs.Option.{option_map}
use Rattle.pst_model.specs.ModelTree.{ModelTree}
use Rattle.pst_scen.specs.declared.act.Act.{Act}
use Rattle.pst_scen.specs.declared.next.Next.{Next}
use Rattle.pst_scen.specs.declared.next.Next.TheVariants as next
use Rattle.pst_legal.specs.Binds.{Bound, fixed_source}
use Rattle.pst_legal.specs.Growing.{most_acts}
use Rattle.pst_legal.specs.SupplyReading.{Source, spots}
use Rattle.pst_open_ends.specs.declared.spot.Spot.{Spot}
use Rattle.pst_open_ends.specs.Spots.{read_spot, kept_spot}
use Rattle.pst_open_ends.specs.Options.{options_by}
use Rattle.pst_open_ends.specs.Turns.{turns, IsDoneBefore}
use Rattle.pst_supply.specs.declared.walk.Stop.{Stop}
use Rattle.pst_supply.specs.declared.walk.Made.{Made}

-- one more action may be inferred, where there are so many actions and so many leaves among them
abbrev pub may_infer : ℕ → ℕ → ℕ → Bool
may_infer count leaves level = nat_lt (count - leaves) level && nat_lt count most_acts

-- the sources of a need, by the binds of the activities
abbrev pub options_at : ModelTree → List Bound → List Act → ℕ → ℕ → Spot → List Source
options_at m bounds acts leaves level need = options_by m acts (may_infer (length acts) leaves level) (read_spot need) (fixed_source bounds need.act need.reference need.flow)

-- the need whose turn it is, and the count of its sources
pub record IsStop (m : ModelTree) (bounds : List Bound) (acts : List Act) (leaves level : ℕ) (stop : Stop) : Type 0 where
  pub next : stop.need ≡ option_map kept_spot (find (turns bounds) (spots acts))
  pub count : (need : Spot) → stop.need ≡ Some need → stop.count ≡ length (options_at m bounds acts leaves level need)
  pub done : IsDoneBefore bounds acts stop.need

-- where reading stands after choices, latest first
abbrev pub stop_after : Stop → List Made → Stop
stop_after first [] = first
stop_after first (made ∷ older) = made.stop

abbrev pub shown_by : Option Spot → ℕ → ℕ → ℕ → ℕ → Next
shown_by None options count leaves level = if nat_eq (count - leaves) level then next.Whole else next.Dead
shown_by (Some need) options count leaves level = if nat_lt 0 options then next.Options options else next.Dead

abbrev pub shown_at : Stop → ℕ → ℕ → ℕ → Next
shown_at stop count leaves level = shown_by stop.need stop.count count leaves level
