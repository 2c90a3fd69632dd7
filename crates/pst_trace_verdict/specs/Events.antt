-- What the last line of a trace may say behind its events.
use Rattle.std.specs.Prelude.{◌≡◌, ℕ, List, length, Bool, true, false, ◌&&◌, nat_eq, not}
use Rattle.std.specs.List.{count_by}
use Rattle.pst_scen.specs.declared.event.Event.{Event}
use Rattle.pst_scen.specs.declared.event.Event.TheVariants.{Start, End}
use Rattle.pst_scen.specs.declared.scenario.Scenario.{Scenario}
use Rattle.pst_scen.specs.Trace.{StartsOn, Ended, IsWhole}
use Rattle.pst_trace_texts.specs.Texts.{goes_on}
use Rattle.pst_trace_lines.specs.declared.last.LastLine.{LastLine}
use Rattle.pst_trace_lines.specs.declared.last.LastLine.TheVariants.{Done, Fault, Trap}

-- the action has started on the lane and not ended
abbrev pub RunsOn : List Event → ℕ → ℕ → Type 0
RunsOn events act lane = StartsOn events act lane × (Ended events act → ⊥)

-- All actions have ended, and so many are they; or the action named runs on the lane named.
abbrev pub Fits : Scenario → List Event → LastLine → Type 0
Fits s events (Done actions) = (actions ≡ length s.actions) × IsWhole s events
Fits s events (Fault lane act call) = RunsOn events act lane
Fits s events (Trap lane act kind) = RunsOn events act lane

-- how many blocks events are: each has one event behind which it doesn't go on
abbrev pub ends_block : Event → Bool
ends_block event = not (goes_on event)

abbrev pub count_blocks : List Event → ℕ
count_blocks events = count_by ends_block events

-- ---- as they are tested

abbrev pub starts_it : ℕ → ℕ → Event → Bool
starts_it act lane (Start other used more) = nat_eq other act && nat_eq used lane
starts_it act lane (End other) = false

abbrev pub ends_it : ℕ → Event → Bool
ends_it act (Start other used more) = false
ends_it act (End other) = nat_eq other act
