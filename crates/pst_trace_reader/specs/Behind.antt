-- What the lines behind the counts of a text come to.
use Rattle.std.specs.Prelude.{◌≡◌, ℕ, ◌+◌, List, [], ◌∷◌, ◌++◌, length, map, string_bytes, Result, Ok, Err}
use Rattle.pst_scen.specs.declared.event.Event.{Event}
use Rattle.pst_trace_lines.specs.declared.last.LastLine.{LastLine}
use Rattle.pst_trace_reader.specs.declared.line.Reading.{Reading}
use Rattle.pst_trace_reader.specs.declared.body.TraceEnd.{TraceEnd}
use Rattle.pst_trace_reader.specs.declared.body.TraceEnd.TheVariants.{Bad, NoMemory}
use Rattle.pst_trace_reader.specs.Traces.{AreLines, AreRest}

-- Lines of the rest of a trace were read, and what stands behind them is read on from here.
pub record IsReadOn (format : ℕ) (front : List (List ℕ)) (header : List (List ℕ)) (events : List Event) (passed : ℕ) : Type 0 where
  pub onto : (more others : List (List ℕ)) (later : List Event) (last : LastLine) → AreRest format passed more others later last → AreRest format 0 (front ++ more) (header ++ others) (events ++ later) last
  pub back : (more all : List (List ℕ)) (each : List Event) (last : LastLine) → AreRest format 0 (front ++ more) all each last
      → (others : List (List ℕ)) × (later : List Event) × (all ≡ header ++ others) × (each ≡ events ++ later) × AreRest format passed more others later last

pub record IsRest (format : ℕ) (lines : List (List ℕ)) : Type 0 where
  pub header : List (List ℕ)
  pub events : List Event
  pub last : LastLine
  pub is : AreRest format 0 lines header events last

abbrev pub BeginsRest : ℕ → List (List ℕ) → Type 0
BeginsRest format lines = (more : List (List ℕ)) × IsRest format (lines ++ more)

abbrev pub IsBadRest : ℕ → List (List ℕ) → List (List ℕ) → List ℕ → Type 0
IsBadRest format front [] rest = IsRest format front → rest ≡ [] → ⊥
IsBadRest format front (text ∷ more) rest = BeginsRest format (front ++ text ∷ []) → ⊥

-- the first bad line of the rest of a trace, of which the first has the number 3
pub record IsFirstBadRest (format : ℕ) (text : List ℕ) (number : ℕ) : Type 0 where
  pub front : List (List ℕ)
  pub behind : List (List ℕ)
  pub rest : List ℕ
  pub are : AreLines text (front ++ behind) rest
  pub number_is : number ≡ length front + 3
  pub begins : BeginsRest format front
  pub bad : IsBadRest format front behind rest

-- the lines of the rest of a trace, which added these to the header and to the events
pub record IsRestText (old new : Reading) (text : List ℕ) (last : LastLine) : Type 0 where
  pub lines : List (List ℕ)
  pub header : List (List ℕ)
  pub events : List Event
  pub are : AreLines text lines []
  pub rest : AreRest old.format 0 lines header events last
  pub header_is : map string_bytes new.header.items ≡ map string_bytes old.header.items ++ header
  pub events_are : new.events.items ≡ old.events.items ++ events
  pub format_is : new.format ≡ old.format

abbrev pub BodyEnds : Reading → Reading → List ℕ → Result LastLine TraceEnd → Type 0
BodyEnds old new text (Ok last) = IsRestText old new text last
BodyEnds old new text (Err (Bad number)) = IsFirstBadRest old.format text number
BodyEnds old new text (Err NoMemory) = Unit {0}
