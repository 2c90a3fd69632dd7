-- The statements at places of a statement of the program.
use Rattle.std.proofs.Common.{◌≡◌, ℕ, List, map, length, get_or, Bool, nat_lt, Bor, Option, Some, None, refl, sym, ap, ◌∙◌, arith}
use Rattle.std.specs.Prelude.{IfSome, is_some, slice_get}
use Rattle.std.specs.Option.{option_map}
use Rattle.std.specs.Global.{Vec, Box}
use Rattle.std.proofs.lemmas.Option.{slice_get-map, slice_get_past, slice_get_read}
use Rattle.pst_model.specs.declared.activity.Step.{Step}
use Rattle.pst_model.specs.declared.activity.Step.TheVariants as the_step
use Rattle.pst_model.specs.declared.activity.Join.{Join}
use Rattle.pst_model.specs.declared.activity.Branch.{Branch}
use Rattle.pst_model.specs.declared.activity.Arm.{Arm}
use Rattle.pst_model.specs.declared.constraint.Constraint.{Constraint}
use Rattle.pst_model.specs.ActivityTree.{branch_step, arm_step}
use Rattle.pst_model.specs.ModelView.{view_step, view_branch, view_arm}
use Rattle.pst_scen.specs.declared.tree.Fill.TheVariants as fill
use Rattle.pst_legal.specs.Statements.{step_below}
use Rattle.pst_sound_parts.proofs.Rows.{steps_of_row, branches_of_row, arms_of_row, sequence_is, parallel_is, schedule_is, joined_is, select_is, match_is}

listed : (v : Vec Step) (index : ℕ) → slice_get (map view_step v.items) index ≡ option_map view_step (slice_get v.items index)
listed v index = slice_get-map view_step v.items index

pub sequence_at : (v : Vec Step) (index : ℕ) → step_below fill.Sequence (view_step (the_step.Sequence v)) index ≡ option_map view_step (slice_get v.items index)
sequence_at v index = ap (λ s. step_below fill.Sequence s index) (sequence_is v) ∙ ap (λ xs. slice_get xs index) (steps_of_row (map view_step v.items)) ∙ listed v index

pub parallel_at : (v : Vec Step) (index : ℕ) → step_below fill.Parallel (view_step (the_step.Parallel v)) index ≡ option_map view_step (slice_get v.items index)
parallel_at v index = ap (λ s. step_below fill.Parallel s index) (parallel_is v) ∙ ap (λ xs. slice_get xs index) (steps_of_row (map view_step v.items)) ∙ listed v index

pub schedule_at : (v : Vec Step) (index : ℕ) → step_below fill.Schedule (view_step (the_step.Schedule v)) index ≡ option_map view_step (slice_get v.items index)
schedule_at v index = ap (λ s. step_below fill.Schedule s index) (schedule_is v) ∙ ap (λ xs. slice_get xs index) (steps_of_row (map view_step v.items)) ∙ listed v index

pub joined_at : (parallel : Bool) (joined : ℕ) (also : Bool) (join : Join) (v : Vec Step) (index : ℕ) → step_below (fill.Joined parallel joined) (view_step (the_step.Joined also join v)) index ≡ option_map view_step (slice_get v.items index)
joined_at parallel joined also join v index =
    ap (λ s. step_below (fill.Joined parallel joined) s index) (joined_is also join v) ∙ ap (λ xs. slice_get xs index) (steps_of_row (map view_step v.items)) ∙ listed v index

branch_of : (o : Option Branch) → option_map branch_step (option_map view_branch o) ≡ option_map (λ (b : Branch). view_step b.step) o
branch_of None = refl
branch_of (Some b) = refl

arm_of : (o : Option Arm) → option_map arm_step (option_map view_arm o) ≡ option_map (λ (a : Arm). view_step a.step) o
arm_of None = refl
arm_of (Some a) = refl

pub select_at : (branch : ℕ) (v : Vec Branch) (index : ℕ) → step_below (fill.Select branch) (view_step (the_step.Select v)) index ≡ option_map (λ (b : Branch). view_step b.step) (slice_get v.items branch)
select_at branch v index =
    ap (λ s. step_below (fill.Select branch) s index) (select_is v)
    ∙ ap (λ xs. option_map branch_step (slice_get xs branch)) (branches_of_row (map view_branch v.items))
    ∙ ap (option_map branch_step) (slice_get-map view_branch v.items branch)
    ∙ branch_of (slice_get v.items branch)

pub match_at : (arm : ℕ) (value : Constraint) (v : Vec Arm) (other : Option (Box Step)) (index : ℕ)
    → step_below (fill.Match (Some arm)) (view_step (the_step.Match value v other)) index ≡ option_map (λ (a : Arm). view_step a.step) (slice_get v.items arm)
match_at arm value v other index =
    ap (λ s. step_below (fill.Match (Some arm)) s index) (match_is value v other)
    ∙ ap (λ xs. option_map arm_step (slice_get xs arm)) (arms_of_row (map view_arm v.items))
    ∙ ap (option_map arm_step) (slice_get-map view_arm v.items arm)
    ∙ arm_of (slice_get v.items arm)

-- ---- what is looked up

lent : {X : Type 0} (xs : List X) (n : ℕ) (item : Option (Bor X)) → is_some item ≡ nat_lt n (length xs) → IfSome item (λ x. x.now ≡ get_or xs n x.now) → option_map (λ x. x.now) item ≡ slice_get xs n
lent {X} xs n None is value = sym (slice_get_past xs n (grind (arith, is)))
lent {X} xs n (Some x) is value = sym (slice_get_read xs (length xs) n x.now refl (grind (arith, is)) value)

view_lent : {X Y : Type 0} (view : X → Y) (item : Option (Bor X)) → option_map (λ x. view x.now) item ≡ option_map view (option_map (λ x. x.now) item)
view_lent view None = refl
view_lent view (Some x) = refl

pub view_get : {X Y : Type 0} (view : X → Y) (xs ys : List X) (n : ℕ) (item : Option (Bor X)) → is_some item ≡ nat_lt n (length xs) → IfSome item (λ x. x.now ≡ get_or xs n x.now) → xs ≡ ys
    → option_map (λ x. view x.now) item ≡ option_map view (slice_get ys n)
view_get view xs ys n item is value e = view_lent view item ∙ ap (option_map view) (lent xs n item is value ∙ ap (λ zs. slice_get zs n) e)

pub got : {X : Type 0} (xs : List X) (n : ℕ) (item : Option (Bor X)) (x : Bor X) → is_some item ≡ nat_lt n (length xs) → IfSome item (λ x. x.now ≡ get_or xs n x.now) → item ≡ Some x → slice_get xs n ≡ Some x.now
got {X} xs n item x is value e = sym (lent xs n item is value) ∙ ap (option_map (λ (y : Bor X). y.now)) e
