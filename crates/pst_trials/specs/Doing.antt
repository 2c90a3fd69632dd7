-- Bodies: the order of evaluation, indices, counts, and where locals begin.
use Rattle.std.specs.Prelude.{◌≡◌, ℕ, pos, List, [], ◌∷◌, Some, None}
use Rattle.pst_expr.specs.declared.tree.BinaryOp.TheVariants.{Add, Mul, Div}
use Rattle.pst_expr.specs.Tree.{Variable}
use Rattle.pst_model.specs.ConstraintTree.{ConstraintTree, Local, Index}
use Rattle.pst_model.specs.BodyTree.{BodyStepTree, Declare, Assign, Call, Repeat, BodyRow, NoBody, MoreBody, Value, Answer}
use Rattle.pst_model.specs.ModelTree.{ModelTree}
use Rattle.pst_model.specs.Sound.{IsSound}
use Rattle.pst_legal.specs.Shape.{HasShape}
use Rattle.pst_legal.specs.Body.{Ended, Trap, Wants}
use Rattle.pst_trials.specs.Parts.{number, by, constraint}
use Rattle.pst_trials.specs.Bodies.{int, bit, plain, model, scenario, runs, stepped}

abbrev pub no_value : ConstraintTree
no_value = plain (by Div (number 1) (number 0))

abbrev pub repeat : ℕ → BodyRow → BodyStepTree
repeat n body = Repeat (plain (number n)) body

abbrev pub row : BodyStepTree → BodyRow
row step = MoreBody step NoBody

-- step(i * 10 + j);
abbrev pub nested : List BodyStepTree
nested = repeat 2 (row (repeat 2 (row (Call 0 (constraint (by Add (by Mul (Variable 0) (number 10)) (Variable 1)) (Index 0 ∷ Index 1 ∷ []) ∷ []))))) ∷ []

-- repeat (2) { int x; step(x); x = 5; }
abbrev pub again : List BodyStepTree
again =
    repeat 2 (MoreBody (Declare 0 int None) (MoreBody (Call 0 (constraint (Variable 0) (Local 0 ∷ []) ∷ [])) (row (Assign 0 (Value (plain (number 5))))))) ∷ []

-- put(a, b);
abbrev pub put : ConstraintTree → ConstraintTree → List BodyStepTree
put a b = Call 2 (a ∷ b ∷ []) ∷ []

pub record DoingIsTried : Type 0 where
  -- arguments from left to right, each with its range, before the call
  pub first_range : runs (put (plain (number 2)) no_value) [] ≡ Some (Trap 2)
  pub first_value : runs (put no_value (plain (number 2147483648))) [] ≡ Some (Trap 1)
  pub second_value : runs (put (plain (number 1)) no_value) [] ≡ Some (Trap 1)
  -- what a void function answers is dropped
  pub dropped : runs (put (plain (number 1)) (plain (number 3))) (record { function = 2; arguments = pos 1 ∷ pos 3 ∷ []; answer = pos 9223372036854775807 } ∷ []) ≡ Some Ended
  -- levels of indices
  pub third_call : runs nested (stepped 0 0 ∷ stepped 1 0 ∷ []) ≡ Some (Wants 0 (pos 10 ∷ []))
  pub all_calls : runs nested (stepped 0 0 ∷ stepped 1 0 ∷ stepped 10 0 ∷ stepped 11 0 ∷ []) ≡ Some Ended
  -- a declaration in a further turn
  pub starts_anew : runs again (stepped 0 0 ∷ []) ≡ Some (Wants 0 (pos 0 ∷ []))
  -- counts: 1 + 2 * (1 + 1 + 497) is 999
  pub one_left : runs (repeat 2 (row (repeat 497 NoBody)) ∷ Declare 0 int None ∷ []) [] ≡ Some Ended
  pub none_left : runs (repeat 2 (row (repeat 497 NoBody)) ∷ Declare 0 int None ∷ Declare 1 int None ∷ []) [] ≡ Some (Trap 3)
  -- the count comes before the expression
  pub count_first : runs (repeat 999 NoBody ∷ Declare 0 int (Some (Value no_value)) ∷ []) [] ≡ Some (Trap 3)
  -- the call that is answered has been made before the range of its answer traps
  pub answer_of_local : runs (Declare 0 bit (Some (Answer 0 (plain (number 1) ∷ []))) ∷ []) (stepped 1 2 ∷ []) ≡ Some (Trap 2)
  pub answer_wanted : runs (Declare 0 bit (Some (Answer 0 (plain (number 1) ∷ []))) ∷ []) [] ≡ Some (Wants 0 (pos 1 ∷ []))

-- x = 1; int x;
abbrev pub undeclared : List BodyStepTree
undeclared = Assign 0 (Value (plain (number 1))) ∷ Declare 0 int None ∷ []

pub record LocalsAreTried : Type 0 where
  -- a local stands from the beginning of its body, holds 0 there, and has the range of its declaration
  pub sound : IsSound (model undeclared)
  pub shape : HasShape (model undeclared) scenario
  pub ends : runs undeclared [] ≡ Some Ended
  pub its_range : runs (Assign 0 (Value (plain (number 2))) ∷ Declare 0 bit None ∷ []) [] ≡ Some (Trap 2)
  pub reads_zero : runs (Call 0 (constraint (Variable 0) (Local 0 ∷ []) ∷ []) ∷ Declare 0 int None ∷ []) [] ≡ Some (Wants 0 (pos 0 ∷ []))
