-- The law of reading.
use Rattle.std.specs.Prelude.{◌≡◌, ℕ, List, [], map, string_bytes}
use Rattle.pst_scen.specs.declared.event.Event.{Event}
use Rattle.pst_trace_lines.specs.declared.last.LastLine.{LastLine}
use Rattle.pst_trace_reader.specs.declared.text.TraceText.{TraceText}
use Rattle.pst_trace_reader.specs.Traces.{AreLines, AreTrace, IsTrace, IsTraceText, IsFirstBad}

-- two readings say the same
pub record AreAlike (t u : TraceText) : Type 0 where
  pub formats : t.format ≡ u.format
  pub headers : map string_bytes t.header.items ≡ map string_bytes u.header.items
  pub events : t.events.items ≡ u.events.items
  pub lasts : t.last ≡ u.last

-- A text stands for at most one trace, or has one first bad line, and never both: of what is read, and of its lines.
pub record ReadingsAreOne : Type 0 where
  pub one_trace : (text : List ℕ) (t u : TraceText) → IsTraceText text t → IsTraceText text u → AreAlike t u
  pub one_line : (text : List ℕ) (n k : ℕ) → IsFirstBad text n → IsFirstBad text k → n ≡ k
  pub apart : (text : List ℕ) (t : TraceText) (n : ℕ) → IsTraceText text t → IsFirstBad text n → ⊥
  pub one_reading : (text : List ℕ) (lines others : List (List ℕ)) (f g : ℕ) (h k : List (List ℕ)) (e d : List Event) (l m : LastLine)
      → AreLines text lines [] → AreLines text others [] → AreTrace lines f h e l → AreTrace others g k d m → (f ≡ g) × (h ≡ k) × (e ≡ d) × (l ≡ m)
  pub never_bad : (text : List ℕ) (lines : List (List ℕ)) (n : ℕ) → AreLines text lines [] → IsTrace lines → IsFirstBad text n → ⊥
