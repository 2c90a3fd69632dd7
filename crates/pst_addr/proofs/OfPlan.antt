-- What a scenario's actions ask for is of its plan.
use Rattle.std.proofs.Common.{ℕ, zero, suc, ◌+◌, ◌<◌, ◌≤◌, List, [], ◌∷◌, length, Option, Some, None, arith, length-append}
use Rattle.std.specs.Prelude.{ℤ, pos, negsuc, slice_get, position, codes, All}
use Rattle.std.specs.Option.{option_and_then, option_map, option_to_list, unwrap_or}
use Rattle.std.proofs.lemmas.List.Elements.{All-append, All-cons, All-nil}
use Rattle.pst_model.specs.declared.action.Field.{Field}
use Rattle.pst_model.specs.ModelTree.{ModelTree}
use Rattle.pst_scen.specs.declared.act.Act.{Act}
use Rattle.pst_scen.specs.Plan.{Entries}
use Rattle.pst_trace_texts.specs.Named.{action_fields}
use Rattle.pst_addr.specs.Places.{IsAsk}
use Rattle.pst_addr.specs.Asks.{is_field, above_zero, wanted, asked, asks_from}
use Rattle.pst_addr.specs.Laws.{AsksAreOfPlan}

-- a number that there is isn't 0
abbrev IsAbove : Option ℕ → Type 0
IsAbove None = Unit {0}
IsAbove (Some n) = 1 ≤ n

value_above : (value : ℤ) → IsAbove (above_zero value)
value_above (pos zero) = tt
value_above (pos (suc n)) = omega arith
value_above (negsuc n) = tt

found_above : (value : Option ℤ) → IsAbove (option_and_then above_zero value)
found_above None = tt
found_above (Some value) = value_above value

at_above : (values : List ℤ) (at : Option ℕ) → IsAbove (option_and_then (λ k. option_and_then above_zero (slice_get values k)) at)
at_above values None = tt
at_above values (Some k) = found_above (slice_get values k)

wanted_above : (names : List (List ℕ)) (text : List ℕ) (fields : List Field) (values : List ℤ) → IsAbove (wanted names text fields values)
wanted_above names text fields values = at_above values (position (is_field names text) fields)

or_one : (o : Option ℕ) → IsAbove o → 1 ≤ unwrap_or o 1
or_one None h = omega arith
or_one (Some n) h = h

module _ (p : Entries) where
  with_size : (number : ℕ) (align : Option ℕ) (size : Option ℕ) → number < length p.groups → IsAbove align → IsAbove size
      → All (IsAsk p) (option_to_list (option_map (λ n. record { action = number; size = n; align = unwrap_or align 1 }) size))
  with_size number align None below aligned some = All-nil (IsAsk p)
  with_size number align (Some n) below aligned some =
      All-cons (IsAsk p) (record { action = number; size = n; align = unwrap_or align 1 }) [] (record { action = below; size = some; align = or_one align aligned }) (All-nil (IsAsk p))

  asked_one : (names : List (List ℕ)) (m : ModelTree) (number : ℕ) (act : Act) → number < length p.groups → All (IsAsk p) (option_to_list (asked names m number act))
  asked_one names m number act below =
      with_size number (wanted names (codes "mem_align") (action_fields (slice_get m.actions act.action)) act.fields) (wanted names (codes "mem_size") (action_fields (slice_get m.actions act.action)) act.fields)
      below
      (wanted_above names (codes "mem_align") (action_fields (slice_get m.actions act.action)) act.fields)
      (wanted_above names (codes "mem_size") (action_fields (slice_get m.actions act.action)) act.fields)

  asked_all : (names : List (List ℕ)) (m : ModelTree) (number : ℕ) (acts : List Act) → number + length acts ≤ length p.groups → All (IsAsk p) (asks_from names m number acts)
  asked_all names m number [] below = All-nil (IsAsk p)
  asked_all names m number (act ∷ acts) below =
      All-append (IsAsk p) (option_to_list (asked names m number act)) (asks_from names m (number + 1) acts)
      (asked_one names m number act (omega (arith, below))) (asked_all names m (number + 1) acts (omega (arith, below)))

at_most_one : {X : Type 0} (o : Option X) → length (option_to_list o) ≤ 1
at_most_one None = omega arith
at_most_one (Some x) = omega arith

few : (names : List (List ℕ)) (m : ModelTree) (number : ℕ) (acts : List Act) → length (asks_from names m number acts) ≤ length acts
few names m number [] = omega arith
few names m number (act ∷ acts) =
    let many = length-append (option_to_list (asked names m number act)) (asks_from names m (number + 1) acts) in
    let one = at_most_one (asked names m number act) in
    let rest = few names m (number + 1) acts in
    omega (arith, many, one, rest)

pub of_plan : AsksAreOfPlan
of_plan names m s p many = (asked_all p names m 0 s.actions (omega (arith, many)), few names m 0 s.actions)
