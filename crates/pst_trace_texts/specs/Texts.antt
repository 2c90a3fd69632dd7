-- A whole trace as a text, in format 2.
use Rattle.std.specs.Prelude.{ℕ, List, [], ◌∷◌, ◌++◌, length, Bool, true, false, if◌then◌else◌, codes, decimal}
use Rattle.pst_model.specs.ModelTree.{ModelTree}
use Rattle.pst_scen.specs.declared.scenario.Scenario.{Scenario}
use Rattle.pst_scen.specs.declared.event.Event.{Event}
use Rattle.pst_scen.specs.declared.event.Event.TheVariants.{Start, End}
use Rattle.pst_trace_texts.specs.declared.last.Last.{Last}
use Rattle.pst_trace_texts.specs.declared.last.Last.TheVariants.{Done, Solved, Fault, Trap}
use Rattle.pst_trace_texts.specs.Lines.{line}
use Rattle.pst_trace_texts.specs.Header.{header_text}

-- An event; the flag says that a block of starts has begun. A block's line begins with its first start and ends with its last.
abbrev pub event_text : Bool → Event → List ℕ
event_text begun (Start act lane more) =
    (if begun then [] else codes "start") ++ codes " " ++ decimal act ++ codes ":" ++ decimal lane ++ (if more then [] else 10 ∷ [])
event_text begun (End act) = line (codes "end " ++ decimal act)

-- whether the block goes on behind an event
abbrev pub goes_on : Event → Bool
goes_on (Start act lane more) = more
goes_on (End act) = false

-- a line for each block
abbrev pub events_text : Bool → List Event → List ℕ
events_text begun [] = []
events_text begun (event ∷ events) = event_text begun event ++ events_text (goes_on event) events

-- the last line of a text of so many actions
abbrev pub last_line : ℕ → Last → List ℕ
last_line count Done = line (codes "done " ++ decimal count)
last_line count Solved = line (codes "solved " ++ decimal count)
last_line count (Fault lane action call) = line (codes "fault " ++ decimal lane ++ codes " " ++ decimal action ++ codes " " ++ decimal call)
last_line count (Trap lane action kind) = line (codes "trap " ++ decimal lane ++ codes " " ++ decimal action ++ codes " " ++ decimal kind)

-- the header, the blocks and the last line
abbrev pub trace_text : List (List ℕ) → ModelTree → Scenario → List Event → Last → List ℕ
trace_text names m s events last = header_text 2 names m s ++ events_text false events ++ last_line (length s.actions) last
