-- The texts of places.
use Rattle.std.specs.Prelude.{ℕ, List, ◌++◌, length, get_or, codes, decimal}
use Rattle.pst_model.specs.ModelTree.{ModelTree}
use Rattle.pst_scen.specs.declared.scenario.Scenario.{Scenario}
use Rattle.pst_trace_texts.specs.Lines.{line, each_from}
use Rattle.pst_trace_texts.specs.Header.{header_text}
use Rattle.pst_addr.specs.declared.ask.Ask.{Ask}

-- the action, the address and the number of bytes
abbrev pub place_line : Ask → ℕ → List ℕ
place_line ask address = line (codes "place " ++ decimal ask.action ++ codes " " ++ decimal address ++ codes " " ++ decimal ask.size)

abbrev pub placed_line : ℕ → List ℕ
placed_line count = line (codes "placed " ++ decimal count)

-- the header of the scenario, a line for each ask with its address, and how many these are
abbrev pub placed_text : List (List ℕ) → ModelTree → Scenario → List Ask → List ℕ → List ℕ
placed_text names m s asks places = header_text 2 names m s ++ each_from (λ number ask. place_line ask (get_or places number 0)) 0 asks ++ placed_line (length asks)

abbrev pub no_room_text : ℕ → List ℕ
no_room_text action = line (codes "noroom " ++ decimal action)
