-- The rows of a step's tree are those of its lists.
use Rattle.std.proofs.Common.{◌≡◌, ◌<◌, ◌≤◌, ◌+◌, ◌++◌, ℕ, zero, suc, List, [], ◌∷◌, map, length, drop, get_or, All, refl, ap, subst, sym, ◌∙◌, arith}
use Rattle.std.specs.List.{flat_map}
use Rattle.std.specs.Global.{Vec}
use Rattle.std.proofs.lemmas.List.{drop_more, append_assoc, length-map}
use Rattle.std.proofs.lemmas.List.Elements.{All-cons, All-head, All-tail, All-nil}
use Rattle.pst_expr.specs.declared.ranges.Span.{Span}
use Rattle.pst_model.specs.declared.body.BodyStep.{BodyStep, Row_of-BodyStep, end_of-BodyStep, more_of-BodyStep}
use Rattle.pst_model.specs.declared.body.BodyStep.TheBlock.{items-the_row-BodyStep, hidden-the_row-BodyStep-0, items_hidden-the_row-BodyStep-0}
use Rattle.pst_model.specs.declared.body.BodyStep.TheVariants as the_body
use Rattle.pst_model.specs.declared.constraint.Constraint.{Constraint}
use Rattle.pst_model.specs.ConstraintTree.{view_constraint, view_slot}
use Rattle.pst_model.specs.ModelView.{view_body_step, view_body}
use Rattle.pst_model.specs.ModelTree.{ModelTree}
use Rattle.pst_model.specs.BodyTree.{BodyStepTree, If, Repeat, BodyRow, NoBody, MoreBody}
use Rattle.pst_legal.specs.Body.{State, Outcome, Goes, Traps, Asks, Strays, then_do, Place, run_step, run_row, run_steps, ranges_in, ranges_in_row, run_turns, tick}
use Rattle.pst_body.specs.Ready.{HasRoomToRun, HasRoomToRunRow, CanRun, CanRunRow}

-- the steps as a row
abbrev pub row_of : List BodyStepTree → BodyRow
row_of [] = NoBody
row_of (x ∷ xs) = MoreBody x (row_of xs)

steps_in : {n : _} (k : Row_of-BodyStep n) → view_body k ≡ row_of (map view_body_step (items-the_row-BodyStep n k))
steps_in end_of-BodyStep = refl
steps_in (more_of-BodyStep head tail) = ap (λ (r : BodyRow). MoreBody (view_body_step head) r) (steps_in tail)

abbrev pub row : Vec BodyStep → BodyRow
row v = row_of (map view_body_step v.items)

steps_are : (v : Vec BodyStep) → view_body (hidden-the_row-BodyStep-0 v) ≡ row v
steps_are v = steps_in (hidden-the_row-BodyStep-0 v) ∙ ap (λ (xs : List BodyStep). row_of (map view_body_step xs)) (items_hidden-the_row-BodyStep-0 v)

pub if_is : (condition : Constraint) (holds fails : Vec BodyStep) → view_body_step (the_body.If condition holds fails) ≡ If (view_constraint condition) (row holds) (row fails)
if_is condition holds fails = ap (λ (r : BodyRow). If (view_constraint condition) r (view_body (hidden-the_row-BodyStep-0 fails))) (steps_are holds) ∙ ap (λ (r : BodyRow). If (view_constraint condition) (row holds) r) (steps_are fails)

pub repeat_is : (count : Constraint) (body : Vec BodyStep) → view_body_step (the_body.Repeat count body) ≡ Repeat (view_constraint count) (row body)
repeat_is count body = ap (λ (r : BodyRow). Repeat (view_constraint count) r) (steps_are body)

-- ---- the items of a list from one on

-- the items from the i-th on, of which it is the first
pub drop_read : {X : Type 0} (xs : List X) (i : ℕ) (x : X) → i < length xs → x ≡ get_or xs i x → drop i xs ≡ x ∷ drop (i + 1) xs
drop_read xs i x within is = drop_more xs i x within ∙ ap (λ y. y ∷ drop (i + 1) xs) (sym is)

-- what holds of the item and of those behind it
pub all_from : {X Y : Type 0} (P : Y → Type 0) (view : X → Y) (xs : List X) (i : ℕ) (x : X) → i < length xs → x ≡ get_or xs i x → P (view x) → All P (map view (drop (i + 1) xs)) → All P (map view (drop i xs))
all_from {X} {Y} P view xs i x within is here rest =
    subst (λ (ys : List X). All P (map view ys)) (sym (drop_read xs i x within is)) (All-cons P (view x) (map view (drop (i + 1) xs)) here rest)

pub all_of : {X Y : Type 0} (P : Y → Type 0) (view : X → Y) (xs : List X) (i : ℕ) (x : X) → i < length xs → x ≡ get_or xs i x → All P (map view (drop i xs)) → P (view x) × All P (map view (drop (i + 1) xs))
all_of {X} {Y} P view xs i x within is all =
    let now = subst (λ (ys : List X). All P (map view ys)) (drop_read xs i x within is) all in
    (All-head P (view x) (map view (drop (i + 1) xs)) now, All-tail P (view x) (map view (drop (i + 1) xs)) now)

-- ---- ranges of locals

ranges_row : (xs : List BodyStepTree) → ranges_in_row (row_of xs) ≡ flat_map ranges_in xs
ranges_row [] = refl
ranges_row (x ∷ xs) = ap (λ (rs : List Span). ranges_in x ++ rs) (ranges_row xs)

pub ranges_in_if : (condition : Constraint) (holds fails : Vec BodyStep) → ranges_in (view_body_step (the_body.If condition holds fails)) ≡ flat_map ranges_in (map view_body_step holds.items) ++ flat_map ranges_in (map view_body_step fails.items)
ranges_in_if condition holds fails =
    ap ranges_in (if_is condition holds fails)
    ∙ ap (λ (rs : List Span). rs ++ ranges_in_row (row fails)) (ranges_row (map view_body_step holds.items))
    ∙ ap (λ (rs : List Span). flat_map ranges_in (map view_body_step holds.items) ++ rs) (ranges_row (map view_body_step fails.items))

pub ranges_in_repeat : (count : Constraint) (body : Vec BodyStep) → ranges_in (view_body_step (the_body.Repeat count body)) ≡ flat_map ranges_in (map view_body_step body.items)
ranges_in_repeat count body = ap ranges_in (repeat_is count body) ∙ ranges_row (map view_body_step body.items)

-- one turn of the loop that adds ranges
pub ranges_next : (steps : List BodyStep) (i : ℕ) (step : BodyStep) (old new all : List Span) → i < length steps → step ≡ get_or steps i step
    → new ≡ old ++ ranges_in (view_body_step step) → old ++ flat_map ranges_in (map view_body_step (drop i steps)) ≡ all
    → new ++ flat_map ranges_in (map view_body_step (drop (i + 1) steps)) ≡ all
ranges_next steps i step old new all within is now so_far =
    ap (λ (rs : List Span). rs ++ flat_map ranges_in (map view_body_step (drop (i + 1) steps))) now
    ∙ append_assoc old (ranges_in (view_body_step step)) (flat_map ranges_in (map view_body_step (drop (i + 1) steps)))
    ∙ sym (ap (λ (ys : List BodyStep). old ++ flat_map ranges_in (map view_body_step ys)) (drop_read steps i step within is))
    ∙ so_far

-- ---- room

room_row : (room : ℕ) (xs : List BodyStepTree) → All (HasRoomToRun room) xs → HasRoomToRunRow room (row_of xs)
room_row room [] all = tt
room_row room (x ∷ xs) all = (All-head (HasRoomToRun room) x xs all, room_row room xs (All-tail (HasRoomToRun room) x xs all))

pub room_of_if : (room : ℕ) (condition : Constraint) (holds fails : Vec BodyStep) → length condition.slots.items ≤ room → All (HasRoomToRun room) (map view_body_step holds.items) → All (HasRoomToRun room) (map view_body_step fails.items) → HasRoomToRun room (view_body_step (the_body.If condition holds fails))
room_of_if room condition holds fails own first second =
    let many = length-map condition.slots.items view_slot in
    subst (HasRoomToRun room) (sym (if_is condition holds fails)) (omega (arith, many, own), room_row room (map view_body_step holds.items) first, room_row room (map view_body_step fails.items) second)

pub room_of_repeat : (room : ℕ) (count : Constraint) (body : Vec BodyStep) → length count.slots.items ≤ room → All (HasRoomToRun room) (map view_body_step body.items) → HasRoomToRun room (view_body_step (the_body.Repeat count body))
room_of_repeat room count body own all =
    let many = length-map count.slots.items view_slot in
    subst (HasRoomToRun room) (sym (repeat_is count body)) (omega (arith, many, own), room_row room (map view_body_step body.items) all)

-- ---- what can run

pub can_row : (m : ModelTree) (locals room : ℕ) (xs : List BodyStepTree) → CanRunRow m locals room (row_of xs) → All (CanRun m locals room) xs
can_row m locals room [] can = All-nil (CanRun m locals room)
can_row m locals room (x ∷ xs) can = All-cons (CanRun m locals room) x xs can.0 (can_row m locals room xs can.1)

pub same_then : (o : Outcome) (f g : State → Outcome) → ((state : State) → f state ≡ g state) → then_do o f ≡ then_do o g
same_then (Goes state) f g same = same state
same_then (Traps kind left) f g same = refl
same_then (Asks function arguments) f g same = refl
same_then Strays f g same = refl

-- the run of a row is that of its steps
pub run_row_is : (p : Place) (xs : List BodyStepTree) (state : State) → run_row p (row_of xs) state ≡ run_steps p xs state
run_row_is p [] state = refl
run_row_is p (x ∷ xs) state = same_then (run_step p x state) (run_row p (row_of xs)) (run_steps p xs) (run_row_is p xs)

pub same_turns : (f g : ℕ → State → Outcome) → ((index : ℕ) (state : State) → f index state ≡ g index state) → (index n : ℕ) (state : State) → run_turns f index n state ≡ run_turns g index n state
same_turns f g same index zero state = refl
same_turns f g same index (suc n) state =
    same_then (tick state) (λ begun. then_do (f index begun) (run_turns f (index + 1) n)) (λ begun. then_do (g index begun) (run_turns g (index + 1) n))
    (λ begun. ap (λ (o : Outcome). then_do o (run_turns f (index + 1) n)) (same index begun) ∙ same_then (g index begun) (run_turns f (index + 1) n) (run_turns g (index + 1) n) (same_turns f g same (index + 1) n))
