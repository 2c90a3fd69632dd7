-- The tables of whoever follows a trace, on lanes below 16.
use Rattle.std.specs.Prelude.{◌≡◌, ◌<◌, ℕ, List, [], ◌∷◌, ◌++◌, Bool, Option, None, length, get_or}
use Rattle.pst_scen.specs.declared.event.Event.{Event}
use Rattle.pst_scen.specs.declared.event.Event.TheVariants.{Start}
use Rattle.pst_scen.specs.Trace.{IsHeld}
use Rattle.pst_scen.specs.Plan.{Entries}
use Rattle.pst_book.specs.Books.{MayJoin}
use Rattle.pst_book.specs.Tables.{AreTied}
use Rattle.pst_tallies.specs.Tallies.{counts_in, IsTally}

-- Each table says of the trace what its name says. What is awaited and what is in the way is counted in tallies.
pub record AreCounted (p : Entries) (trace : List Event) (started ended : List Bool) (awaited in_the_way next : List ℕ) (holders : List (Option ℕ)) : Type 0 where
  pub left : ℕ
  pub awaited_are : IsTally (length p.groups) awaited
  pub in_the_way_are : IsTally (length p.groups) in_the_way
  pub tied : AreTied p 16 trace started ended (counts_in (length p.groups) awaited) (counts_in (length p.groups) in_the_way) next holders 0 left

-- they do of some trace, with some other tables
abbrev pub AreCountedStarts : Entries → List Bool → List ℕ → List ℕ → List (Option ℕ) → Type 0
AreCountedStarts p started awaited in_the_way holders = (trace : List Event) × (ended : List Bool) × (next : List ℕ) × AreCounted p trace started ended awaited in_the_way next holders

abbrev pub AreCountedMembers : Entries → List Bool → List ℕ → List ℕ → List ℕ → List (Option ℕ) → Type 0
AreCountedMembers p started awaited in_the_way next holders = (trace : List Event) × (ended : List Bool) × AreCounted p trace started ended awaited in_the_way next holders

abbrev pub AreCountedEnds : Entries → List Bool → List Bool → List ℕ → List ℕ → List (Option ℕ) → Type 0
AreCountedEnds p started ended awaited in_the_way holders = (trace : List Event) × (next : List ℕ) × AreCounted p trace started ended awaited in_the_way next holders

abbrev pub AreCountedAll : Entries → List Bool → List Bool → List ℕ → List ℕ → List ℕ → List (Option ℕ) → Type 0
AreCountedAll p started ended awaited in_the_way next holders = (trace : List Event) × AreCounted p trace started ended awaited in_the_way next holders

-- the event starts the action on a lane that the table shows as free
pub record StartsFreely (event : Event) (act lane : ℕ) (holders : List (Option ℕ)) : Type 0 where
  pub more : Bool
  pub is : event ≡ Start act lane more
  pub below : lane < length holders
  pub free : get_or holders lane None ≡ None

-- the event starts the action, which may join, on a free lane, and the tables are of the trace with it
pub record DidStart (p : Entries) (trace : List Event) (event : Event) (act : ℕ) (started ended : List Bool) (awaited in_the_way next : List ℕ) (holders : List (Option ℕ)) : Type 0 where
  pub lane : ℕ
  pub more : Bool
  pub is : event ≡ Start act lane more
  pub below : lane < 16
  pub idle : IsHeld trace lane → ⊥
  pub join : MayJoin p trace act
  pub counted : AreCounted p (trace ++ event ∷ []) started ended awaited in_the_way next holders
