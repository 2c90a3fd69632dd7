-- Which texts are those of traces, in either format, and which line of another text is the first bad one.
use Rattle.std.specs.Prelude.{◌≡◌, ◌⊎◌, ℕ, ◌+◌, ◌≤◌, List, [], ◌∷◌, ◌++◌, length, map, string_bytes, codes, decimal, All, Contains}
use Rattle.std.specs.List.{flat_map}
use Rattle.pst_scen.specs.declared.event.Event.{Event}
use Rattle.pst_trace_texts.specs.Lines.{line}
use Rattle.pst_trace_lines.specs.declared.header.HeaderLine.{HeaderLine}
use Rattle.pst_trace_lines.specs.declared.header.HeaderLine.TheVariants.{Join}
use Rattle.pst_trace_lines.specs.declared.last.LastLine.{LastLine}
use Rattle.pst_trace_lines.specs.Forms.{IsCounts}
use Rattle.pst_trace_lines.specs.Last.{IsLastLine}
use Rattle.pst_trace_lines.specs.Blocks.{IsBlockLine}
use Rattle.pst_trace_lines.specs.Headers.{rank, IsHeaderLine}
use Rattle.pst_trace_reader.specs.declared.text.TraceText.{TraceText}

-- these lines, each with its line feed, and then a rest without one
pub record AreLines (text : List ℕ) (lines : List (List ℕ)) (rest : List ℕ) : Type 0 where
  pub are : text ≡ flat_map line lines ++ rest
  pub each : All (λ l. Contains l 10 → ⊥) lines
  pub last : Contains rest 10 → ⊥

-- how many sorts of header lines there are
abbrev pub all_sorts : ℕ
all_sorts = 4

-- What lines stand for, behind the counts of a text in a format, where so many sorts of header lines are passed: header lines in
-- the order of their sorts, then lines of blocks, then one last line. Lines of join forms stand in format 2 alone.
pub data AreRest (format : ℕ) : ℕ → List (List ℕ) → List (List ℕ) → List Event → LastLine → Type 0 where
  AHeaderLine : (passed : ℕ) (sort : HeaderLine) (text : List ℕ) (more header : List (List ℕ)) (events : List Event) (last : LastLine)
      → passed ≤ rank sort → (sort ≡ Join → format ≡ 2) → IsHeaderLine sort text → AreRest format (rank sort) more header events last
      → AreRest format passed (text ∷ more) (text ∷ header) events last
  ABlock : (passed : ℕ) (text : List ℕ) (more header : List (List ℕ)) (own events : List Event) (last : LastLine)
      → IsBlockLine text own → AreRest format all_sorts more header events last
      → AreRest format passed (text ∷ more) header (own ++ events) last
  TheLast : (passed : ℕ) (text : List ℕ) (last : LastLine) → IsLastLine text last → AreRest format passed (text ∷ []) [] [] last

-- the first line of a text, which names its format
pub record IsFormatLine (text : List ℕ) (format : ℕ) : Type 0 where
  pub is : text ≡ codes "pst " ++ decimal format
  pub known : (format ≡ 1) ⊎ (format ≡ 2)

-- the lines of a trace: its format, its counts, and the rest
pub record AreTrace (lines : List (List ℕ)) (format : ℕ) (header : List (List ℕ)) (events : List Event) (last : LastLine) : Type 0 where
  pub first : List ℕ
  pub counts : List ℕ
  pub more : List (List ℕ)
  pub own : List (List ℕ)
  pub are : lines ≡ first ∷ counts ∷ more
  pub of_format : IsFormatLine first format
  pub actions : ℕ
  pub inferred : ℕ
  pub of_counts : IsCounts counts actions inferred
  pub header_is : header ≡ first ∷ counts ∷ own
  pub rest : AreRest format 0 more own events last

-- the text is that of a trace
pub record IsTraceText (text : List ℕ) (t : TraceText) : Type 0 where
  pub lines : List (List ℕ)
  pub are : AreLines text lines []
  pub trace : AreTrace lines t.format (map string_bytes t.header.items) t.events.items t.last

-- ---- the first bad line

pub record IsTrace (lines : List (List ℕ)) : Type 0 where
  pub format : ℕ
  pub header : List (List ℕ)
  pub events : List Event
  pub last : LastLine
  pub is : AreTrace lines format header events last

-- some trace begins with these lines
abbrev pub Begins : List (List ℕ) → Type 0
Begins lines = (more : List (List ℕ)) × IsTrace (lines ++ more)

-- Behind these lines none is left, and they are no trace or what is left has no line feed; or no trace begins with them and the next one.
abbrev pub IsBadBehind : List (List ℕ) → List (List ℕ) → List ℕ → Type 0
IsBadBehind front [] rest = IsTrace front → rest ≡ [] → ⊥
IsBadBehind front (text ∷ more) rest = Begins (front ++ text ∷ []) → ⊥

-- The line of that number, counted from 1, is the first bad one: some trace begins with those before it.
pub record IsFirstBad (text : List ℕ) (number : ℕ) : Type 0 where
  pub front : List (List ℕ)
  pub behind : List (List ℕ)
  pub rest : List ℕ
  pub are : AreLines text (front ++ behind) rest
  pub number_is : number ≡ length front + 1
  pub begins : Begins front
  pub bad : IsBadBehind front behind rest
