-- What a verdict on the text of a trace says, against a scenario.
use Rattle.std.specs.Prelude.{◌≡◌, ◌≤◌, ℕ, ◌+◌, List, [], ◌∷◌, ◌++◌, length, take, drop, map, string_bytes}
use Rattle.std.specs.List.{flat_map}
use Rattle.pst_model.specs.ModelTree.{ModelTree}
use Rattle.pst_scen.specs.declared.event.Event.{Event}
use Rattle.pst_scen.specs.declared.scenario.Scenario.{Scenario}
use Rattle.pst_check.specs.declared.verdict.Verdict.{Verdict}
use Rattle.pst_check.specs.declared.verdict.Verdict.TheVariants as judged
use Rattle.pst_check.specs.Verdicts.{IsVerdict}
use Rattle.pst_trace_texts.specs.Lines.{line}
use Rattle.pst_trace_texts.specs.Header.{header_text}
use Rattle.pst_trace_texts.specs.Elements.{HasHeader}
use Rattle.pst_trace_lines.specs.declared.last.LastLine.{LastLine}
use Rattle.pst_trace_reader.specs.declared.text.TraceText.{TraceText}
use Rattle.pst_trace_verdict.specs.declared.verdict.TraceVerdict.{TraceVerdict}
use Rattle.pst_trace_verdict.specs.declared.verdict.TraceVerdict.TheVariants.{Whole, Prefix, Illegal}
use Rattle.pst_trace_verdict.specs.Events.{Fits, count_blocks}

-- ---- the header

-- the text doesn't go on with the first of these lines, or goes on where there is none
abbrev pub GoesElsewhere : List ℕ → List (List ℕ) → Type 0
GoesElsewhere text [] = text ≡ [] → ⊥
GoesElsewhere text (next ∷ more) = (behind : List ℕ) → text ≡ line next ++ behind → ⊥

-- the text begins with so many of the lines, and then it isn't theirs
pub record LeavesAt (text : List ℕ) (lines : List (List ℕ)) (at : ℕ) : Type 0 where
  pub rest : List ℕ
  pub inside : at ≤ length lines
  pub begins : text ≡ flat_map line (take at lines) ++ rest
  pub leaves : GoesElsewhere rest (drop at lines)

-- The line of that number, counted from 1, is the first that breaks rule 1: the scenario has no header in the format, or its header
-- has another line there, or ends before, or goes on.
pub data IsHeaderBreach (names : List (List ℕ)) (m : ModelTree) (s : Scenario) (format : ℕ) (header : List (List ℕ)) : ℕ → Type 0 where
  HasNone : (HasHeader format m s → ⊥) → IsHeaderBreach names m s format header 1
  Leaves : (at : ℕ) → HasHeader format m s → LeavesAt (header_text format names m s) header at → IsHeaderBreach names m s format header (at + 1)

-- the lines are the scenario's header in the format
pub record IsHeader (names : List (List ℕ)) (m : ModelTree) (s : Scenario) (format : ℕ) (header : List (List ℕ)) : Type 0 where
  pub has : HasHeader format m s
  pub is : header_text format names m s ≡ flat_map line header

-- ---- the blocks and the last line

-- Behind so many lines of a header, the first block that breaks a rule, or the last line where that doesn't fit, or the verdict on
-- the events.
pub data OfEvents (s : Scenario) (lines : ℕ) (events : List Event) (last : LastLine) : TraceVerdict → Type 0 where
  BlockBreaks : (block rule : ℕ) → IsVerdict s events (judged.Illegal block rule) → OfEvents s lines events last (Illegal (lines + block + 1) rule)
  WholeEndsWrong : IsVerdict s events judged.Whole → (Fits s events last → ⊥) → OfEvents s lines events last (Illegal (lines + count_blocks events + 1) 10)
  PrefixEndsWrong : IsVerdict s events judged.Prefix → (Fits s events last → ⊥) → OfEvents s lines events last (Illegal (lines + count_blocks events + 1) 10)
  IsWhole : IsVerdict s events judged.Whole → Fits s events last → OfEvents s lines events last Whole
  IsPrefix : IsVerdict s events judged.Prefix → Fits s events last → OfEvents s lines events last Prefix

-- ---- the whole

-- The first line that breaks a rule, and its least one; or the verdict where none does.
pub data OfText (names : List (List ℕ)) (m : ModelTree) (s : Scenario) (format : ℕ) (header : List (List ℕ)) (events : List Event) (last : LastLine) : TraceVerdict → Type 0 where
  HeaderBreaks : (number : ℕ) → IsHeaderBreach names m s format header number → OfText names m s format header events last (Illegal number 1)
  HeaderKept : (verdict : TraceVerdict) → IsHeader names m s format header → OfEvents s (length header) events last verdict → OfText names m s format header events last verdict

abbrev pub IsTraceVerdict : List (List ℕ) → ModelTree → Scenario → TraceText → TraceVerdict → Type 0
IsTraceVerdict names m s t verdict = OfText names m s t.format (map string_bytes t.header.items) t.events.items t.last verdict
