-- The text of a sweep.
use Rattle.std.specs.Prelude.{ℕ, List, [], ◌++◌, length, get_or, nat_eq, if◌then◌else◌, Bool, true, false, codes, decimal, Some}
use Rattle.std.specs.List.{sum_by, count_by}
use Rattle.pst_model.specs.ModelTree.{ModelTree, ActionTree}
use Rattle.pst_trace_texts.specs.Lines.{line, each_from}
use Rattle.pst_trace_texts.specs.Named.{type_text}
use Rattle.pst_sweep_table.specs.declared.row.Outcome.{Outcome}
use Rattle.pst_sweep_table.specs.declared.row.Outcome.TheVariants.{Found, NoScenario, Budget}
use Rattle.pst_sweep_table.specs.declared.row.SweepRow.{SweepRow}

-- ---- counts over all rows

-- how many actions there are of the type of that number
abbrev pub total : List SweepRow → ℕ → ℕ
total rows number = sum_by (λ (row : SweepRow). get_or row.uses number 0) rows

abbrev pub is_found : Outcome → Bool
is_found (Found actions inferred) = true
is_found NoScenario = false
is_found (Budget level) = false

-- how many rows have a scenario
abbrev pub found_in : List SweepRow → ℕ
found_in rows = count_by (λ (row : SweepRow). is_found row.outcome) rows

-- ---- lines

abbrev pub head_line : ℕ → List ℕ
head_line count = line (codes "sweep " ++ decimal count)

-- the seed, and what its search comes to: the actions of its scenario and the inferred ones of these, no scenario, or the level of a spent budget
abbrev pub row_line : ℕ → Outcome → List ℕ
row_line seed (Found actions inferred) = line (codes "seed " ++ decimal seed ++ codes " found " ++ decimal actions ++ codes " " ++ decimal inferred)
row_line seed NoScenario = line (codes "seed " ++ decimal seed ++ codes " noscenario")
row_line seed (Budget level) = line (codes "seed " ++ decimal seed ++ codes " budget " ++ decimal level)

-- a type that is used, and how often; none where it isn't
abbrev pub use_text : List (List ℕ) → ActionTree → ℕ → List ℕ
use_text names type count = if nat_eq count 0 then [] else line (codes "use " ++ type_text names (Some type) ++ codes " " ++ decimal count)

-- the types that are used in some row, in order
abbrev pub uses_text : List (List ℕ) → ModelTree → List SweepRow → List ℕ
uses_text names m rows = each_from (λ number type. use_text names type (total rows number)) 0 m.actions

abbrev pub found_line : ℕ → List ℕ
found_line count = line (codes "found " ++ decimal count)

-- ---- the text

-- how many rows there are, the line of each, the types that are used, and a count
abbrev pub sweep_text : List (List ℕ) → ModelTree → List SweepRow → ℕ → List ℕ
sweep_text names m rows found = head_line (length rows) ++ each_from (λ number (row : SweepRow). row_line row.seed row.outcome) 0 rows ++ uses_text names m rows ++ found_line found
