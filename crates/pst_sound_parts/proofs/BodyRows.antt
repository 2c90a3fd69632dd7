-- The rows of a body step's tree are those of its lists.
use Rattle.std.proofs.Common.{◌≡◌, ◌++◌, ◌+◌, ◌↔◌, ℕ, List, [], ◌∷◌, map, All, Option, refl, ap, subst, sym, ◌∙◌}
use Rattle.std.specs.List.{flat_map}
use Rattle.std.specs.Global.{Vec}
use Rattle.std.proofs.lemmas.List.Elements.{All-cons, All-head, All-tail, All-nil}
use Rattle.pst_model.specs.declared.body.BodyStep.{BodyStep, Row_of-BodyStep, end_of-BodyStep, more_of-BodyStep}
use Rattle.pst_model.specs.declared.body.BodyStep.TheBlock.{items-the_row-BodyStep, hidden-the_row-BodyStep-0, items_hidden-the_row-BodyStep-0}
use Rattle.pst_model.specs.declared.body.BodyStep.TheVariants as the_body
use Rattle.pst_model.specs.declared.constraint.Constraint.{Constraint}
use Rattle.pst_model.specs.ConstraintTree.{view_constraint}
use Rattle.pst_model.specs.ModelView.{view_body_step, view_body}
use Rattle.pst_model.specs.BodyTree.{BodyStepTree, Declare, Assign, Call, If, Repeat, BodyRow, NoBody, MoreBody}
use Rattle.pst_model.specs.SoundBody.{locals_in, locals_in_row, EachBodyStep, EachBodyPart, EachInRow}
use Rattle.pst_sound_parts.specs.Numbered.{behind_local, behind_locals}

abbrev body_row : List BodyStepTree → BodyRow
body_row [] = NoBody
body_row (x ∷ xs) = MoreBody x (body_row xs)

steps_in : {n : _} (k : Row_of-BodyStep n) → view_body k ≡ body_row (map view_body_step (items-the_row-BodyStep n k))
steps_in end_of-BodyStep = refl
steps_in (more_of-BodyStep head tail) = ap (λ (r : BodyRow). MoreBody (view_body_step head) r) (steps_in tail)

abbrev row_of : Vec BodyStep → BodyRow
row_of v = body_row (map view_body_step v.items)

steps_are : (v : Vec BodyStep) → view_body (hidden-the_row-BodyStep-0 v) ≡ row_of v
steps_are v = steps_in (hidden-the_row-BodyStep-0 v) ∙ ap (λ (xs : List BodyStep). body_row (map view_body_step xs)) (items_hidden-the_row-BodyStep-0 v)

pub if_is : (condition : Constraint) (holds fails : Vec BodyStep) → view_body_step (the_body.If condition holds fails) ≡ If (view_constraint condition) (row_of holds) (row_of fails)
if_is condition holds fails = ap (λ (r : BodyRow). If (view_constraint condition) r (view_body (hidden-the_row-BodyStep-0 fails))) (steps_are holds) ∙ ap (λ (r : BodyRow). If (view_constraint condition) (row_of holds) r) (steps_are fails)

pub repeat_is : (count : Constraint) (body : Vec BodyStep) → view_body_step (the_body.Repeat count body) ≡ Repeat (view_constraint count) (row_of body)
repeat_is count body = ap (λ (r : BodyRow). Repeat (view_constraint count) r) (steps_are body)

-- ---- locals

locals_row : (xs : List BodyStepTree) → locals_in_row (body_row xs) ≡ flat_map locals_in xs
locals_row [] = refl
locals_row (x ∷ xs) = ap (λ (ls : List ℕ). locals_in x ++ ls) (locals_row xs)

pub locals_in_if : (condition : Constraint) (holds fails : Vec BodyStep) → locals_in (view_body_step (the_body.If condition holds fails)) ≡ flat_map locals_in (map view_body_step holds.items) ++ flat_map locals_in (map view_body_step fails.items)
locals_in_if condition holds fails =
    ap locals_in (if_is condition holds fails)
    ∙ ap (λ (ls : List ℕ). ls ++ locals_in_row (row_of fails)) (locals_row (map view_body_step holds.items))
    ∙ ap (λ (ls : List ℕ). flat_map locals_in (map view_body_step holds.items) ++ ls) (locals_row (map view_body_step fails.items))

pub locals_in_repeat : (count : Constraint) (body : Vec BodyStep) → locals_in (view_body_step (the_body.Repeat count body)) ≡ flat_map locals_in (map view_body_step body.items)
locals_in_repeat count body = ap locals_in (repeat_is count body) ∙ locals_row (map view_body_step body.items)

pub behind_append : (next : Option ℕ) (xs ys : List ℕ) → behind_locals next (xs ++ ys) ≡ behind_locals (behind_locals next xs) ys
behind_append next [] ys = refl
behind_append next (x ∷ xs) ys = behind_append (behind_local next x) xs ys

pub behind_if : (next : Option ℕ) (condition : Constraint) (holds fails : Vec BodyStep) → behind_locals next (locals_in (view_body_step (the_body.If condition holds fails))) ≡ behind_locals (behind_locals next (flat_map locals_in (map view_body_step holds.items))) (flat_map locals_in (map view_body_step fails.items))
behind_if next condition holds fails = ap (behind_locals next) (locals_in_if condition holds fails) ∙ behind_append next (flat_map locals_in (map view_body_step holds.items)) (flat_map locals_in (map view_body_step fails.items))

-- ---- a step and its parts

pub step_and_parts : (P : ℕ → BodyStepTree → Type 0) (levels : ℕ) (s : BodyStepTree) → EachBodyStep P levels s ↔ P levels s × EachBodyPart P levels s
step_and_parts P levels (Declare local range value) = (λ h. (h, tt), λ h. h.0)
step_and_parts P levels (Assign local value) = (λ h. (h, tt), λ h. h.0)
step_and_parts P levels (Call function arguments) = (λ h. (h, tt), λ h. h.0)
step_and_parts P levels (If condition holds fails) = (λ h. (h.0, (h.1, h.2)), λ h. (h.0, h.1.0, h.1.1))
step_and_parts P levels (Repeat count body) = (λ h. h, λ h. h)

each_row : (P : ℕ → BodyStepTree → Type 0) (levels : ℕ) (xs : List BodyStepTree) → All (EachBodyStep P levels) xs ↔ EachInRow P levels (body_row xs)
each_row P levels [] = (λ h. tt, λ h. All-nil (EachBodyStep P levels))
each_row P levels (x ∷ xs) = (λ h. (All-head (EachBodyStep P levels) x xs h, (each_row P levels xs).0 (All-tail (EachBodyStep P levels) x xs h)), λ h. All-cons (EachBodyStep P levels) x xs h.0 ((each_row P levels xs).1 h.1))

pub parts_of_if : (P : ℕ → BodyStepTree → Type 0) (levels : ℕ) (condition : Constraint) (holds fails : Vec BodyStep) (R : Type 0) → (R ↔ All (EachBodyStep P levels) (map view_body_step holds.items) × All (EachBodyStep P levels) (map view_body_step fails.items)) → (R ↔ EachBodyPart P levels (view_body_step (the_body.If condition holds fails)))
parts_of_if P levels condition holds fails R h =
    let first = each_row P levels (map view_body_step holds.items) in
    let second = each_row P levels (map view_body_step fails.items) in
    subst (λ (s : BodyStepTree). R ↔ EachBodyPart P levels s) (sym (if_is condition holds fails)) (λ r. let parts = h.0 r in (first.0 parts.0, second.0 parts.1), λ parts. h.1 (first.1 parts.0, second.1 parts.1))

pub parts_of_repeat : (P : ℕ → BodyStepTree → Type 0) (levels : ℕ) (count : Constraint) (body : Vec BodyStep) (R : Type 0) → (R ↔ All (EachBodyStep P (levels + 1)) (map view_body_step body.items)) → (R ↔ EachBodyPart P levels (view_body_step (the_body.Repeat count body)))
parts_of_repeat P levels count body R h =
    let row = each_row P (levels + 1) (map view_body_step body.items) in
    subst (λ (s : BodyStepTree). R ↔ EachBodyPart P levels s) (sym (repeat_is count body)) (λ r. row.0 (h.0 r), λ parts. h.1 (row.1 parts))
