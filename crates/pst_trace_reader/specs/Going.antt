-- One line of the rest of a trace.
use Rattle.std.specs.Prelude.{◌≡◌, ℕ, ◌≤◌, List, [], ◌∷◌, ◌++◌, map, string_bytes}
use Rattle.pst_scen.specs.declared.event.Event.{Event}
use Rattle.pst_trace_lines.specs.declared.header.HeaderLine.{HeaderLine}
use Rattle.pst_trace_lines.specs.declared.header.HeaderLine.TheVariants.{Join}
use Rattle.pst_trace_lines.specs.declared.last.LastLine.{LastLine}
use Rattle.pst_trace_lines.specs.Last.{IsLastLine}
use Rattle.pst_trace_lines.specs.Blocks.{IsBlockLine}
use Rattle.pst_trace_lines.specs.Headers.{rank, IsHeaderLine}
use Rattle.pst_trace_reader.specs.declared.line.Reading.{Reading}
use Rattle.pst_trace_reader.specs.declared.line.Step.{Step}
use Rattle.pst_trace_reader.specs.declared.line.Step.TheVariants.{Goes, Ends, Bad}
use Rattle.pst_trace_reader.specs.Traces.{all_sorts, AreRest}

-- what one line adds to the header and to the events, and how many sorts are passed behind it
pub data Passes (format passed : ℕ) (text : List ℕ) : List (List ℕ) → List Event → ℕ → Type 0 where
  OfHeader : (sort : HeaderLine) → passed ≤ rank sort → (sort ≡ Join → format ≡ 2) → IsHeaderLine sort text → Passes format passed text (text ∷ []) [] (rank sort)
  OfBlock : (own : List Event) → IsBlockLine text own → Passes format passed text [] own all_sorts

-- the line went on so
pub record HasGone (old new : Reading) (text : List ℕ) : Type 0 where
  pub header : List (List ℕ)
  pub events : List Event
  pub header_is : map string_bytes new.header.items ≡ map string_bytes old.header.items ++ header
  pub events_are : new.events.items ≡ old.events.items ++ events
  pub format_is : new.format ≡ old.format
  pub passes : Passes old.format old.passed text header events new.passed

-- nothing was added
pub record IsSame (old new : Reading) : Type 0 where
  pub header_is : new.header.items ≡ old.header.items
  pub events_are : new.events.items ≡ old.events.items
  pub format_is : new.format ≡ old.format

-- What a line does: it goes on, is the last one, or is none that may stand there.
abbrev pub Steps : Reading → Reading → List ℕ → Step → Type 0
Steps old new text Goes = HasGone old new text
Steps old new text (Ends last) = IsSame old new × IsLastLine text last
Steps old new text Bad = (more header : List (List ℕ)) (events : List Event) (last : LastLine) → AreRest old.format old.passed (text ∷ more) header events last → ⊥
