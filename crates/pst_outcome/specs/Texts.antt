-- The texts that are printed for answers; traces, verdicts on them and counts have their own.
use Rattle.std.specs.Prelude.{ℕ, List, [], ◌++◌, get_or, Bool, if◌then◌else◌, codes, decimal}
use Rattle.pst_base.specs.declared.position.Place.{Place}
use Rattle.pst_trace_texts.specs.Lines.{line}
use Rattle.pst_files_read.specs.Files.{sources_in}
use Rattle.pst_outcome.specs.declared.answer.What.{What}
use Rattle.pst_outcome.specs.declared.answer.What.TheVariants.{Bytes, Trace, Tokens, Instances}

abbrev pub usage_text : ℕ → List ℕ
usage_text word = line (codes "usage " ++ decimal word)

abbrev pub no_file_text : List ℕ → List ℕ
no_file_text name = line (codes "nofile " ++ name)

abbrev pub read_fault_text : List ℕ → List ℕ
read_fault_text name = line (codes "readfault " ++ name)

abbrev pub what_text : What → List ℕ
what_text Bytes = codes "bytes"
what_text Trace = codes "trace"
what_text Tokens = codes "tokens"
what_text Instances = codes "instances"

abbrev pub large_text : What → ℕ → List ℕ
large_text what number = line (codes "large " ++ what_text what ++ codes " " ++ decimal number)

-- the name of the source of that number among the words behind a command; a place in no file is one of the root
abbrev pub source_name : List (List ℕ) → ℕ → List ℕ
source_name arguments number = get_or (sources_in arguments) number (codes "root")

-- the file's name, the line and the column
abbrev pub place_text : List ℕ → Place → List ℕ
place_text name place = name ++ codes ":" ++ decimal place.line ++ codes ":" ++ decimal place.column

abbrev pub lexical_text : List ℕ → Bool → Place → List ℕ
lexical_text name wide place = line (codes "lexical " ++ (if wide then codes "wide" else codes "bad") ++ codes " " ++ place_text name place)

abbrev pub syntax_text : List ℕ → Bool → Place → List ℕ
syntax_text name deep place = line (codes "syntax " ++ (if deep then codes "deep " else []) ++ place_text name place)

abbrev pub rule_text : List ℕ → Place → ℕ → List ℕ
rule_text name place rule = line (codes "rule " ++ decimal rule ++ codes " " ++ place_text name place)

abbrev pub no_scenario_text : ℕ → List ℕ
no_scenario_text infer = line (codes "noscenario " ++ decimal infer)

abbrev pub budget_text : ℕ → List ℕ
budget_text level = line (codes "budget " ++ decimal level)
