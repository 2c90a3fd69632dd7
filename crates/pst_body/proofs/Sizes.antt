-- How many steps stand in a step, itself included.
use Rattle.std.proofs.Common.{◌≡◌, ◌<◌, ◌≤◌, ◌+◌, ℕ, zero, suc, List, [], ◌∷◌, map, length, get_or, refl, ap, ◌∙◌, arith}
use Rattle.std.specs.Global.{Vec}
use Rattle.pst_model.specs.declared.constraint.Constraint.{Constraint}
use Rattle.pst_model.specs.declared.body.BodyStep.{BodyStep}
use Rattle.pst_model.specs.declared.body.BodyStep.TheVariants as the_body
use Rattle.pst_model.specs.ModelView.{view_body_step}
use Rattle.pst_model.specs.BodyTree.{BodyStepTree, Declare, Assign, Call, If, Repeat, BodyRow, NoBody, MoreBody}
use Rattle.pst_body.proofs.Rows.{row_of, row, if_is, repeat_is}

abbrev mutual
  pub size : BodyStepTree → ℕ
  size (Declare local range from) = 1
  size (Assign local from) = 1
  size (Call function arguments) = 1
  size (If condition holds fails) = 1 + (size_row holds + size_row fails)
  size (Repeat count body) = 1 + size_row body

  pub size_row : BodyRow → ℕ
  size_row NoBody = 0
  size_row (MoreBody head tail) = size head + size_row tail

abbrev pub sizes : List BodyStepTree → ℕ
sizes [] = 0
sizes (s ∷ more) = size s + sizes more

row_sizes : (xs : List BodyStepTree) → size_row (row_of xs) ≡ sizes xs
row_sizes [] = refl
row_sizes (x ∷ xs) = ap (λ (n : ℕ). size x + n) (row_sizes xs)

pub size_if : (condition : Constraint) (holds fails : Vec BodyStep) → size (view_body_step (the_body.If condition holds fails)) ≡ 1 + (sizes (map view_body_step holds.items) + sizes (map view_body_step fails.items))
size_if condition holds fails =
    ap size (if_is condition holds fails)
    ∙ ap (λ (n : ℕ). 1 + (n + size_row (row fails))) (row_sizes (map view_body_step holds.items))
    ∙ ap (λ (n : ℕ). 1 + (sizes (map view_body_step holds.items) + n)) (row_sizes (map view_body_step fails.items))

pub size_repeat : (count : Constraint) (body : Vec BodyStep) → size (view_body_step (the_body.Repeat count body)) ≡ 1 + sizes (map view_body_step body.items)
size_repeat count body = ap size (repeat_is count body) ∙ ap (λ (n : ℕ). 1 + n) (row_sizes (map view_body_step body.items))

pub item_size : (steps : List BodyStep) (i : ℕ) (step : BodyStep) → i < length steps → step ≡ get_or steps i step → size (view_body_step step) ≤ sizes (map view_body_step steps)
item_size [] i step within is = absurd (omega (arith, within))
item_size (s ∷ steps) zero step within is = let same = ap (λ (x : BodyStep). size (view_body_step x)) is in omega (arith, same)
item_size (s ∷ steps) (suc i) step within is = let rest = item_size steps i step (omega (arith, within)) is in omega (arith, rest)
