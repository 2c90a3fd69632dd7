-- What reading a trace comes to.
use Rattle.std.specs.Prelude.{◌≡◌, ℕ, List, ◌∷◌, ◌++◌, Contains, Result, Ok, Err}
use Rattle.pst_trace_lines.specs.Forms.{IsCounts}
use Rattle.pst_trace_reader.specs.declared.text.TraceText.{TraceText}
use Rattle.pst_trace_reader.specs.declared.body.TraceEnd.{TraceEnd}
use Rattle.pst_trace_reader.specs.declared.body.TraceEnd.TheVariants.{Bad, NoMemory}
use Rattle.pst_trace_reader.specs.Traces.{IsFormatLine, IsTraceText, IsFirstBad}

-- what the text stands for, or its first bad line
abbrev pub TextEnds : List ℕ → Result TraceText TraceEnd → Type 0
TextEnds text (Ok t) = IsTraceText text t
TextEnds text (Err (Bad number)) = IsFirstBad text number
TextEnds text (Err NoMemory) = Unit {0}

-- so for every text with a line of the format in front
abbrev pub CountedEnds : ℕ → List ℕ → Result TraceText TraceEnd → Type 0
CountedEnds format text result =
    (whole first : List ℕ) → whole ≡ first ++ 10 ∷ text → (Contains first 10 → ⊥) → IsFormatLine first format → TextEnds whole result

-- and for every text with a line of the format and one of the counts in front
abbrev pub RestEnds : ℕ → ℕ → ℕ → List ℕ → Result TraceText TraceEnd → Type 0
RestEnds format actions inferred text result =
    (whole first counts : List ℕ) → whole ≡ first ++ 10 ∷ (counts ++ 10 ∷ text) → (Contains first 10 → ⊥) → (Contains counts 10 → ⊥)
    → IsFormatLine first format → IsCounts counts actions inferred → TextEnds whole result
