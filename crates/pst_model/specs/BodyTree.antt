-- Bodies of atomic actions without where they lie in memory.
use Rattle.std.specs.Prelude.{ℕ, List, [], ◌∷◌, Option}
use Rattle.pst_expr.specs.declared.ranges.Span.{Span}
use Rattle.pst_model.specs.ConstraintTree.{ConstraintTree}

-- where a local's value comes from
pub data SourceTree : Type 0 where
  -- an expression
  Value : (expression : ConstraintTree) → SourceTree
  -- the answer of a call
  Answer : (function : ℕ) (arguments : List ConstraintTree) → SourceTree

mutual
  pub data BodyStepTree : Type 0 where
    -- a declaration of a local
    Declare : (local : ℕ) (range : Span) (value : Option SourceTree) → BodyStepTree
    -- an assignment
    Assign : (local : ℕ) (value : SourceTree) → BodyStepTree
    -- a call whose answer is dropped
    Call : (function : ℕ) (arguments : List ConstraintTree) → BodyStepTree
    -- a conditional part
    If : (condition : ConstraintTree) (holds fails : BodyRow) → BodyStepTree
    -- as many turns as the count says
    Repeat : (count : ConstraintTree) (body : BodyRow) → BodyStepTree

  pub data BodyRow : Type 0 where
    NoBody : BodyRow
    MoreBody : (head : BodyStepTree) (tail : BodyRow) → BodyRow

-- a row as a list
abbrev pub body_of : BodyRow → List BodyStepTree
body_of NoBody = []
body_of (MoreBody head tail) = head ∷ body_of tail
