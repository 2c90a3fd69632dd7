-- Why an action comes behind others, or starts with them, as references of its own.
use Rattle.std.specs.Prelude.{◌≡◌, ◌≢◌, ◌<◌, ℕ, length, true}
use Rattle.pst_scen.specs.declared.act.Filled.{Filled}
use Rattle.pst_scen.specs.declared.act.Claimed.{Claimed}
use Rattle.pst_scen.specs.declared.act.Flow.{Flow}
use Rattle.pst_scen.specs.declared.act.Flow.TheVariants.{BufferIn, BufferOut, StreamIn, StreamOut, StateIn, StateOut}
use Rattle.pst_scen.specs.declared.act.Link.{Link}
use Rattle.pst_scen.specs.declared.act.Link.TheVariants as link
use Rattle.pst_scen.specs.declared.scenario.Scenario.{Scenario}
use Rattle.pst_scen.specs.Flows.{Streams, Writes}
use Rattle.pst_scen.specs.Conflicts.{Uses}
use Rattle.pst_order_ahead.specs.Ahead.{MustAhead}

-- what a reference of the first kind is linked to comes before its action, as with an input of a buffer, or starts with it, as
-- with one of a stream
abbrev pub IsKindOf : Flow → Flow → Type 0
IsKindOf BufferIn kind = kind ≡ BufferIn
IsKindOf BufferOut kind = ⊥
IsKindOf StreamIn kind = kind ≡ StreamIn
IsKindOf StreamOut kind = kind ≡ StreamIn
IsKindOf StateIn kind = kind ≡ BufferIn
IsKindOf StateOut kind = kind ≡ BufferIn

-- the other action must come before this one, which a buffer's input says, or a stream joins them
abbrev pub IsWhy : Scenario → ℕ → ℕ → Flow → Type 0
IsWhy s act other BufferIn = MustAhead s other act
IsWhy s act other StreamIn = Streams s act other
IsWhy s act other BufferOut = ⊥
IsWhy s act other StreamOut = ⊥
IsWhy s act other StateIn = ⊥
IsWhy s act other StateOut = ⊥

-- the reference names another action that must come before this one or is joined to it
pub record IsReason (s : Scenario) (act : ℕ) (filled : Filled) : Type 0 where
  pub other : ℕ
  pub below : other < length s.actions
  pub different : other ≢ act
  pub link : (reference : ℕ) × (filled.link ≡ link.Act other reference)
  pub why : IsWhy s act other filled.flow

-- the claim is a use of a state pool by the action, by lock only where it writes it
pub record IsUse (s : Scenario) (act : ℕ) (claimed : Claimed) : Type 0 where
  pub uses : Uses s act claimed.pool
  pub writes : claimed.lock ≡ true → (to : Link) × Writes s act claimed.pool to
