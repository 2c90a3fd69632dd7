-- Bodies: what they come to, given the answers of their calls.
use Rattle.std.specs.Prelude.{◌≡◌, ℕ, pos, negsuc, List, [], ◌∷◌, Option, Some, None}
use Rattle.pst_expr.specs.declared.ranges.Span.{Span}
use Rattle.pst_expr.specs.declared.tree.BinaryOp.TheVariants.{Sub, Div, Add}
use Rattle.pst_expr.specs.Tree.{Expression, Variable}
use Rattle.pst_target.specs.declared.call.Call.{Call as Answered}
use Rattle.pst_model.specs.ConstraintTree.{ConstraintTree, Local, Index}
use Rattle.pst_model.specs.BodyTree.{Value, Answer, BodyStepTree, Declare, Assign, Call, Repeat, NoBody, MoreBody}
use Rattle.pst_model.specs.ModelTree.{ModelTree}
use Rattle.pst_scen.specs.declared.tree.Fill.TheVariants as fill
use Rattle.pst_scen.specs.declared.scenario.Scenario.{Scenario}
use Rattle.pst_legal.specs.Body.{BodyRun, Ended, Trap, Wants, body_run}
use Rattle.pst_trials.specs.Parts.{name, span, with_body, top, number, by, constraint, act_with, scenario_of}

-- int
abbrev pub int : Span
int = record { low = negsuc 2147483647; high = pos 2147483647 }

-- bit
abbrev pub bit : Span
bit = span 0 1

abbrev pub plain : Expression → ConstraintTree
plain expression = constraint expression []

-- import target function int step(int n); action entry { exec body { .. } }
abbrev pub model : List BodyStepTree → ModelTree
model body = record {
  actions = with_body body ∷ [];
  objects = [];
  instances = top;
  pools = [];
  functions = record { name = name 1; parameters = int ∷ []; answer = Some int } ∷ record { name = name 2; parameters = bit ∷ []; answer = None }
      ∷ record { name = name 3; parameters = bit ∷ int ∷ []; answer = None } ∷ [];
  served = [];
}

abbrev pub scenario : Scenario
scenario = scenario_of 0 (record { parent = None; fill = fill.Leaf 0 } ∷ []) (act_with 0 (Some 0) [] ∷ []) []

-- the body with answered calls
abbrev pub runs : List BodyStepTree → List Answered → Option BodyRun
runs body calls = body_run (model body) scenario 0 calls

-- repeat (..) ;
abbrev pub turns : Expression → List BodyStepTree
turns count = Repeat (plain count) NoBody ∷ []

-- step(n);
abbrev pub step : ℕ → BodyStepTree
step n = Call 0 (plain (number n) ∷ [])

-- step with n was answered so
abbrev pub stepped : ℕ → ℕ → Answered
stepped n answer = record { function = 0; arguments = pos n ∷ []; answer = pos answer }

-- int q = step(1); q = 10 / q;
abbrev pub divides : List BodyStepTree
divides = Declare 0 int (Some (Answer 0 (plain (number 1) ∷ []))) ∷ Assign 0 (Value (constraint (by Div (number 10) (Variable 0)) (Local 0 ∷ []))) ∷ []

-- repeat (i : 2) step(i + 1);
abbrev pub indexed : List BodyStepTree
indexed = Repeat (plain (number 2)) (MoreBody (Call 0 (constraint (by Add (Variable 0) (number 1)) (Index 0 ∷ []) ∷ [])) NoBody) ∷ []

pub record BodiesAreTried : Type 0 where
  -- counts: one for the repetition and one for each turn
  pub a_thousand : runs (turns (number 999)) [] ≡ Some Ended
  pub one_more : runs (turns (number 1000)) [] ≡ Some (Trap 3)
  pub negative_count : runs (turns (by Sub (number 0) (number 1))) [] ≡ Some (Trap 1)
  -- ranges
  pub outside_bit : runs (Declare 0 bit (Some (Value (plain (number 2)))) ∷ []) [] ≡ Some (Trap 2)
  pub inside_bit : runs (Declare 0 bit (Some (Value (plain (number 1)))) ∷ []) [] ≡ Some Ended
  pub outside_parameter : runs (Call 1 (plain (number 2) ∷ []) ∷ []) [] ≡ Some (Trap 2)
  pub outside_answer : runs (step 1 ∷ []) (stepped 1 2147483648 ∷ []) ≡ Some (Trap 2)
  -- calls, one after another
  pub wants_first : runs (step 2 ∷ step 3 ∷ []) [] ≡ Some (Wants 0 (pos 2 ∷ []))
  pub wants_second : runs (step 2 ∷ step 3 ∷ []) (stepped 2 0 ∷ []) ≡ Some (Wants 0 (pos 3 ∷ []))
  pub both_answered : runs (step 2 ∷ step 3 ∷ []) (stepped 2 0 ∷ stepped 3 0 ∷ []) ≡ Some Ended
  pub another_call : runs (step 2 ∷ step 3 ∷ []) (stepped 1 0 ∷ []) ≡ None
  pub a_call_left : runs (step 2 ∷ []) (stepped 2 0 ∷ stepped 3 0 ∷ []) ≡ None
  -- a quotient by the answer
  pub wants_divisor : runs divides [] ≡ Some (Wants 0 (pos 1 ∷ []))
  pub divisor_zero : runs divides (stepped 1 0 ∷ []) ≡ Some (Trap 1)
  pub divisor_two : runs divides (stepped 1 2 ∷ []) ≡ Some Ended
  -- the number of a turn
  pub first_turn : runs indexed [] ≡ Some (Wants 0 (pos 1 ∷ []))
  pub second_turn : runs indexed (stepped 1 0 ∷ []) ≡ Some (Wants 0 (pos 2 ∷ []))
  pub turns_end : runs indexed (stepped 1 0 ∷ stepped 2 0 ∷ []) ≡ Some Ended
