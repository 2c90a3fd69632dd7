-- Lines of blocks: one end, or starts of which all but the last have more behind them.
use Rattle.std.specs.Prelude.{◌≡◌, ℕ, ◌^◌, ◌<◌, ◌≤◌, List, [], ◌∷◌, ◌++◌, codes, decimal, true, false}
use Rattle.pst_scen.specs.declared.event.Event.{Event}
use Rattle.pst_scen.specs.declared.event.Event.TheVariants.{Start, End}
use Rattle.pst_trace_texts.specs.Lines.{line}
use Rattle.pst_trace_texts.specs.Texts.{events_text}

-- starts of one block, of actions below 2^32 on lanes up to 15
abbrev pub AreStarts : List Event → Type 0
AreStarts [] = ⊥
AreStarts (Start act lane false ∷ []) = (act < 2 ^ 32) × (lane ≤ 15)
AreStarts (Start act lane false ∷ event ∷ events) = ⊥
AreStarts (Start act lane true ∷ events) = (act < 2 ^ 32) × (lane ≤ 15) × AreStarts events
AreStarts (End act ∷ events) = ⊥

-- the events of one block
pub data IsOneBlock : List Event → Type 0 where
  OfStarts : (events : List Event) → AreStarts events → IsOneBlock events
  OfEnd : (act : ℕ) → act < 2 ^ 32 → IsOneBlock (End act ∷ [])

-- the line, without its line feed, is that of the block
pub record IsBlockLine (text : List ℕ) (events : List Event) : Type 0 where
  pub block : IsOneBlock events
  pub is : line text ≡ events_text false events

-- ---- on the way

-- pairs of actions and lanes, with blanks between them
abbrev pub pairs_text : List Event → List ℕ
pairs_text [] = []
pairs_text (Start act lane true ∷ events) = decimal act ++ 58 ∷ (decimal lane ++ 32 ∷ pairs_text events)
pairs_text (Start act lane false ∷ events) = decimal act ++ 58 ∷ decimal lane
pairs_text (End act ∷ events) = []

-- the text is that of the pairs of these starts
pub record ArePairs (text : List ℕ) (events : List Event) : Type 0 where
  pub starts : AreStarts events
  pub are : text ≡ pairs_text events

-- the text is that of an action and a lane
pub record IsPair (text : List ℕ) (act lane : ℕ) : Type 0 where
  pub of_act : act < 2 ^ 32
  pub of_lane : lane ≤ 15
  pub is : text ≡ decimal act ++ 58 ∷ decimal lane

-- the line is that of these starts
pub record IsStartLine (text : List ℕ) (events : List Event) : Type 0 where
  pub rest : List ℕ
  pub begins : text ≡ codes "start " ++ rest
  pub pairs : ArePairs rest events

-- a line is that of at most one block
abbrev pub BlockLinesAreOne : Type 0
BlockLinesAreOne = (text : List ℕ) (own other : List Event) → IsBlockLine text own → IsBlockLine text other → own ≡ other
