-- What is written as a trace is read again as it was.
use Rattle.std.specs.Prelude.{◌≡◌, ℕ, ◌^◌, ◌<◌, ◌≤◌, List, [], length, map, string_bytes, All, true}
use Rattle.std.specs.List.{list_all, flat_map}
use Rattle.pst_model.specs.ModelTree.{ModelTree}
use Rattle.pst_scen.specs.declared.event.Event.{Event}
use Rattle.pst_scen.specs.declared.event.Event.TheVariants.{Start, End}
use Rattle.pst_scen.specs.declared.scenario.Scenario.{Scenario}
use Rattle.pst_scen.specs.Judging.{AreWholeBlocks}
use Rattle.pst_trace_texts.specs.declared.last.Last.{Last}
use Rattle.pst_trace_texts.specs.declared.last.Last.TheVariants.{Done, Solved, Fault, Trap}
use Rattle.pst_trace_texts.specs.Lines.{line}
use Rattle.pst_trace_texts.specs.Header.{header_text}
use Rattle.pst_trace_texts.specs.Texts.{trace_text}
use Rattle.pst_trace_lines.specs.declared.last.LastLine.{LastLine}
use Rattle.pst_trace_lines.specs.declared.last.LastLine.TheVariants as said
use Rattle.pst_trace_lines.specs.Headers.{is_printed}
use Rattle.pst_trace_reader.specs.declared.text.TraceText.{TraceText}
use Rattle.pst_trace_reader.specs.Traces.{AreLines, AreTrace, IsTraceText, IsFirstBad}

-- ---- what may be written

-- the number of an action below 2^32, and a lane up to 15
abbrev pub IsNumbered : Event → Type 0
IsNumbered (Start act lane more) = (act < 2 ^ 32) × (lane ≤ 15)
IsNumbered (End act) = act < 2 ^ 32

-- names of printed bytes alone, counts below 2^32, and whole blocks
pub record MayBeRead (names : List (List ℕ)) (s : Scenario) (events : List Event) : Type 0 where
  pub printed : All (λ name. list_all is_printed name ≡ true) names
  pub actions : length s.actions < 2 ^ 32
  pub inferred : s.level < 2 ^ 32
  pub blocks : AreWholeBlocks events
  pub numbered : All IsNumbered events

-- what the last line of a text of so many actions says to its reader: nothing where the scenario wasn't run
abbrev pub Says : ℕ → Last → LastLine → Type 0
Says count Done last = last ≡ said.Done count
Says count Solved last = ⊥
Says count (Fault lane act call) last = (last ≡ said.Fault lane act call) × (lane ≤ 15) × (act < 2 ^ 32) × (call < 2 ^ 32)
Says count (Trap lane act kind) last = (last ≡ said.Trap lane act kind) × (lane ≤ 15) × (act < 2 ^ 32) × (1 ≤ kind) × (kind ≤ 3)

-- ---- what is read

-- the text is that of a trace with its own header, events and last line
pub record IsReadAs (text header : List ℕ) (events : List Event) (last : LastLine) : Type 0 where
  pub lines : List (List ℕ)
  pub own : List (List ℕ)
  pub are : AreLines text lines []
  pub trace : AreTrace lines 2 own events last
  pub header_is : flat_map line own ≡ header

-- whatever reads the text finds that, and no bad line
pub record ReadsAs (text header : List ℕ) (events : List Event) (last : LastLine) : Type 0 where
  pub found : (t : TraceText) → IsTraceText text t → (t.format ≡ 2) × (flat_map line (map string_bytes t.header.items) ≡ header) × (t.events.items ≡ events) × (t.last ≡ last)
  pub no_bad_line : (number : ℕ) → IsFirstBad text number → ⊥

-- What is written as a trace is the text of one, and is read with its own header, events and last line.
abbrev pub WrittenTracesAreRead : Type 0
WrittenTracesAreRead =
    (names : List (List ℕ)) (m : ModelTree) (s : Scenario) (events : List Event) (end : Last) (last : LastLine)
    → MayBeRead names s events → Says (length s.actions) end last
    → IsReadAs (trace_text names m s events end) (header_text 2 names m s) events last × ReadsAs (trace_text names m s events end) (header_text 2 names m s) events last
