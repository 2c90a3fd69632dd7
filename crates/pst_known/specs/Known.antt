-- What is known of a slot, without where an open value stands.
use Rattle.std.specs.Prelude.{ℕ, ◌-◌, ℤ, pos, List, [], ◌∷◌, nat_eq, if◌then◌else◌, Option, Some, None, slice_get}
use Rattle.pst_expr.specs.declared.ranges.Span.{Span}
use Rattle.pst_scen.specs.declared.scenario.Scenario.{Scenario}
use Rattle.pst_model.specs.ConstraintTree.{SlotTree}
use Rattle.pst_model.specs.ModelTree.{ModelTree}
use Rattle.pst_legal.specs.Slots.{behind, unread_slot, type_behind}
use Rattle.pst_legal.specs.Standing.{Standing, Known as Read, Lacking as Never, Open as Blank-of, Unread}
use Rattle.pst_known.specs.declared.known.Known.{Known}
use Rattle.pst_known.specs.declared.known.Known.TheVariants as known
use Rattle.pst_known.specs.declared.scene.Scene.{Scene}

abbrev pub known_of : Standing → Known
known_of (Read v) = known.Value v
known_of Never = known.Lacking
known_of (Blank-of blank span) = known.Open span
known_of (Unread span) = known.Open span

-- a value of the span, where there is one
abbrev pub known_span : Option Span → Known
known_span None = known.Lacking
known_span (Some span) = known.Open span

-- the value, or else something other
abbrev pub or_known : Option ℤ → Known → Known
or_known None other = other
or_known (Some v) other = known.Value v

abbrev pub known_or : List ℤ → ℕ → Known → Known
known_or values number other = or_known (slice_get values number) other

-- the scenario
abbrev pub seen : Scene → Scenario
seen x = record { level = x.level; nodes = x.nodes.now; actions = x.actions.now; firsts = x.firsts.now }

-- the numbers of the instances of a pool of that size
abbrev pub numbers : ℕ → List Span
numbers size = if nat_eq size 0 then [] else record { low = pos 0; high = pos (size - 1) } ∷ []

-- what belongs to what a handle traverses that isn't read yet
abbrev pub unread_behind : ModelTree → Scenario → ℕ → ℕ → SlotTree → Standing
unread_behind m s n handle slot = behind (λ type. unread_slot m type slot) (type_behind m s.nodes n handle) Never
