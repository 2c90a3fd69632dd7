-- Which addresses asks get.
use Rattle.std.specs.Prelude.{◌≡◌, ◌⊎◌, ℕ, ◌+◌, ◌%◌, ◌<◌, ◌≤◌, List, length, get_or, take, Some, slice_get, All}
use Rattle.pst_scen.specs.Rows.{Has}
use Rattle.pst_scen.specs.Plan.{Entries}
use Rattle.pst_addr.specs.declared.ask.Ask.{Ask}
use Rattle.pst_addr.specs.declared.ask.Space.{Space}
use Rattle.pst_addr.specs.declared.ask.PlaceEnd.{PlaceEnd}
use Rattle.pst_addr.specs.declared.ask.PlaceEnd.TheVariants.{NoRoom, NoMemory}

-- The asks of two actions meet where the actions are one, or have neither an order nor a conflict.
abbrev pub Meet : Entries → ℕ → ℕ → Type 0
Meet p one other = (one ≡ other) ⊎ ((Has p.must one other → ⊥) × (Has p.must other one → ⊥) × (Has p.conflict one other → ⊥))

-- so many bytes from one address on, and so many from another on, have none in common
abbrev pub AreApart : ℕ → ℕ → ℕ → ℕ → Type 0
AreApart address size other other_size = (address + size ≤ other) ⊎ (other + other_size ≤ address)

-- The ask's bytes from the address on: the address is aligned, they lie in the space, and have none in common with those of
-- each earlier ask that meets this one. The places are those of the first asks, as many as there are.
pub record Fits (p : Entries) (space : Space) (asks : List Ask) (places : List ℕ) (ask : Ask) (address : ℕ) : Type 0 where
  pub aligned : address % ask.align ≡ 0
  pub above : space.base ≤ address
  pub inside : address + ask.size ≤ space.base + space.size
  pub clear : (k : ℕ) (earlier : Ask) → k < length places → slice_get asks k ≡ Some earlier → Meet p ask.action earlier.action → AreApart address ask.size (get_or places k 0) earlier.size

-- the least number of which it holds
pub record IsLeast (Holds : ℕ → Type 0) (number : ℕ) : Type 0 where
  pub holds : Holds number
  pub least : (other : ℕ) → Holds other → number ≤ other

-- the least address that fits
abbrev pub IsPlaced : Entries → Space → List Ask → List ℕ → Ask → ℕ → Type 0
IsPlaced p space asks places ask = IsLeast (Fits p space asks places ask)

-- the first asks, as many as there are places, are placed one after another
pub record AreFirst (p : Entries) (space : Space) (asks : List Ask) (places : List ℕ) : Type 0 where
  pub few : length places ≤ length asks
  pub each : (k : ℕ) (ask : Ask) → k < length places → slice_get asks k ≡ Some ask → IsPlaced p space asks (take k places) ask (get_or places k 0)

-- all are
pub record ArePlaced (p : Entries) (space : Space) (asks : List Ask) (places : List ℕ) : Type 0 where
  pub first : AreFirst p space asks places
  pub all : length places ≡ length asks

-- the asks before that one are placed, and it has no place
pub record HasNoRoom (p : Entries) (space : Space) (asks : List Ask) (number : ℕ) : Type 0 where
  pub places : List ℕ
  pub first : AreFirst p space asks places
  pub count : length places ≡ number
  pub ask : Ask
  pub is : slice_get asks number ≡ Some ask
  pub none : (address : ℕ) → Fits p space asks places ask address → ⊥

-- ---- what is asked of asks, and what is answered where they aren't placed

-- the ask is of an action of the plan, with at least one byte and an alignment
pub record IsAsk (p : Entries) (ask : Ask) : Type 0 where
  pub action : ask.action < length p.groups
  pub size : 1 ≤ ask.size
  pub align : 1 ≤ ask.align

abbrev pub AreAsks : Entries → List Ask → Type 0
AreAsks p asks = All (IsAsk p) asks

abbrev pub EndsPlacing : Entries → Space → List Ask → PlaceEnd → Type 0
EndsPlacing p space asks (NoRoom ask) = HasNoRoom p space asks ask
EndsPlacing p space asks NoMemory = Unit {0}
