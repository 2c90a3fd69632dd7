-- The forms of single lines of a text that is read, without their line feeds. Numbers are printed ones below 2^32.
use Rattle.std.specs.Prelude.{◌≡◌, ℕ, ◌^◌, ◌<◌, ◌≤◌, List, ◌∷◌, ◌++◌, codes, decimal}
use Rattle.pst_scen.specs.declared.event.Event.TheVariants.{End}
use Rattle.std.specs.Prelude.{false}
use Rattle.pst_trace_texts.specs.declared.last.Last.TheVariants.{Done, Fault, Trap}
use Rattle.pst_trace_texts.specs.Lines.{line}
use Rattle.pst_trace_texts.specs.Texts.{event_text, last_line}

pub record IsNumber (text : List ℕ) (n : ℕ) : Type 0 where
  pub small : n < 2 ^ 32
  pub is : text ≡ decimal n

-- two numbers with a blank between them
pub record AreTwo (text : List ℕ) (n k : ℕ) : Type 0 where
  pub first : n < 2 ^ 32
  pub second : k < 2 ^ 32
  pub are : text ≡ decimal n ++ 32 ∷ decimal k

-- three numbers with blanks between them
pub record AreThree (text : List ℕ) (n k l : ℕ) : Type 0 where
  pub first : n < 2 ^ 32
  pub second : k < 2 ^ 32
  pub third : l < 2 ^ 32
  pub are : text ≡ decimal n ++ 32 ∷ (decimal k ++ 32 ∷ decimal l)

-- the counts of actions and of inferred ones
pub record IsCounts (text : List ℕ) (n k : ℕ) : Type 0 where
  pub actions : n < 2 ^ 32
  pub inferred : k < 2 ^ 32
  pub is : text ≡ codes "scenario " ++ decimal n ++ codes " " ++ decimal k

-- the line of an end
pub record IsEnd (text : List ℕ) (act : ℕ) : Type 0 where
  pub small : act < 2 ^ 32
  pub is : line text ≡ event_text false (End act)

-- ---- last lines

pub record IsDone (text : List ℕ) (count : ℕ) : Type 0 where
  pub small : count < 2 ^ 32
  pub is : line text ≡ last_line count Done

pub record IsFault (text : List ℕ) (lane act call : ℕ) : Type 0 where
  pub of_lane : lane ≤ 15
  pub of_act : act < 2 ^ 32
  pub of_call : call < 2 ^ 32
  pub is : line text ≡ last_line 0 (Fault lane act call)

pub record IsTrap (text : List ℕ) (lane act kind : ℕ) : Type 0 where
  pub of_lane : lane ≤ 15
  pub of_act : act < 2 ^ 32
  pub least : 1 ≤ kind
  pub most : kind ≤ 3
  pub is : line text ≡ last_line 0 (Trap lane act kind)
