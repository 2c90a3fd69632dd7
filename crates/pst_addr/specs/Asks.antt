-- Which actions of a scenario ask for memory.
use Rattle.std.specs.Prelude.{ℕ, zero, suc, ◌+◌, ℤ, pos, negsuc, List, [], ◌++◌, ◌∷◌, Bool, true, false, ◌&&◌, codes, Option, None, Some, slice_get, position}
use Rattle.std.specs.Option.{option_and_then, option_map, option_to_list, unwrap_or}
use Rattle.std.specs.Str.{bytes_eq}
use Rattle.pst_model.specs.declared.action.Field.{Field}
use Rattle.pst_model.specs.ModelTree.{ModelTree}
use Rattle.pst_scen.specs.declared.act.Act.{Act}
use Rattle.pst_scen.specs.declared.scenario.Scenario.{Scenario}
use Rattle.pst_trace_texts.specs.Named.{name, action_fields}
use Rattle.pst_addr.specs.declared.ask.Ask.{Ask}

abbrev pub is_no_element : Option ℕ → Bool
is_no_element None = true
is_no_element (Some index) = false

-- a field of that name that is no element of an array
abbrev pub is_field : List (List ℕ) → List ℕ → Field → Bool
is_field names text field = is_no_element field.element && bytes_eq (name names field.name) text

-- a number above 0, if the value is one
abbrev pub above_zero : ℤ → Option ℕ
above_zero (pos zero) = None
above_zero (pos (suc n)) = Some (suc n)
above_zero (negsuc n) = None

-- the value of the first field of that name that is no element, where it is above 0
abbrev pub wanted : List (List ℕ) → List ℕ → List Field → List ℤ → Option ℕ
wanted names text fields values = option_and_then (λ at. option_and_then above_zero (slice_get values at)) (position (is_field names text) fields)

-- what the action of that number asks for, of such fields with these values: as many bytes as `mem_size` says, if it says so, at a
-- multiple of `mem_align`, if that says so
abbrev pub asked_by : List (List ℕ) → ℕ → List Field → List ℤ → Option Ask
asked_by names number fields values =
    option_map (λ size. record { action = number; size = size; align = unwrap_or (wanted names (codes "mem_align") fields values) 1 }) (wanted names (codes "mem_size") fields values)

-- what the action of that number asks for, if anything
abbrev pub asked : List (List ℕ) → ModelTree → ℕ → Act → Option Ask
asked names m number act = asked_by names number (action_fields (slice_get m.actions act.action)) act.fields

abbrev pub asks_from : List (List ℕ) → ModelTree → ℕ → List Act → List Ask
asks_from names m number [] = []
asks_from names m number (act ∷ acts) = option_to_list (asked names m number act) ++ asks_from names m (number + 1) acts

-- what the actions of a scenario ask for, in their order
abbrev pub asks_of : List (List ℕ) → ModelTree → Scenario → List Ask
asks_of names m s = asks_from names m 0 s.actions
