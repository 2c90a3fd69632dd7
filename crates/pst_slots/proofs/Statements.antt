-- A node that stands for a statement stands for it as a piece too.
use Rattle.std.proofs.Common.{◌≡◌, ℕ, zero, suc, ◌+◌, ◌<◌, List, [], ◌∷◌, length, Bool, true, false, not, if◌then◌else◌, Option, Some, None, refl, sym, ap, ◌∙◌, subst, ⊎_elim}
use Rattle.std.specs.Prelude.{slice_get}
use Rattle.std.specs.List.{AllZip, enumerate_from}
use Rattle.std.specs.Option.{option_map, option_and_then}
use Rattle.std.proofs.lemmas.Option.{none-some, same_Some, slice_get-map, slice_get_within}
use Rattle.std.proofs.lemmas.Bool.{false≢true, eq-eqb}
use Rattle.pst_expr.specs.Value.{is_false}
use Rattle.pst_model.specs.ActivityTree.{StepTree, Sequence, Parallel, Schedule, Joined, Select, Repeat, If, Match, ActivityTree, steps_of, branches_of, arms_of, step_of, branch_step, arm_step}
use Rattle.pst_model.specs.ModelTree.{ModelTree, ActionTree}
use Rattle.pst_scen.specs.declared.tree.Node.{Node}
use Rattle.pst_scen.specs.declared.tree.Fill.{Fill}
use Rattle.pst_scen.specs.declared.tree.Fill.TheVariants as fill
use Rattle.pst_scen.specs.Tree.{IsChild, is_parent}
use Rattle.pst_legal.specs.Types.{activity_in}
use Rattle.pst_legal.specs.Growing.{Look, Inner}
use Rattle.pst_legal.specs.Pieces.{Context, Piece, Statement, Turning, in_turn, statements, optional, turns, IsStatementWay}
use Rattle.pst_legal.specs.Statements.{children_of, step_below, StandsFor, AtTop, Below, InTurn}
use Rattle.pst_built.proofs.Members.{to_map, to_filter, to_numbered}
use Rattle.pst_built.proofs.SoundActs.{in_place}
use Rattle.pst_slots.proofs.Parts.{IsLookOf}
use Rattle.pst_slots.proofs.Stood.{Stood, IsStood}
use Rattle.pst_slots.proofs.Compounds.{look_is, compound_at}

-- ---- lists that go together

pub zip_get : {A B : Type 0} (R : A → B → Type 0) (xs : List A) (ys : List B) (k : ℕ) (x : A) (y : B) → AllZip R xs ys → slice_get xs k ≡ Some x → slice_get ys k ≡ Some y → R x y
zip_get R [] ys k x y zips is at = absurd (none-some x is)
zip_get R (z ∷ xs) [] k x y zips is at = absurd (none-some y at)
zip_get R (z ∷ xs) (w ∷ ys) zero x y zips is at = subst (λ v. R v y) (same_Some z x is) (subst (R z) (same_Some w y at) zips.0)
zip_get R (z ∷ xs) (w ∷ ys) (suc k) x y zips is at = zip_get R xs ys k x y zips.1 is at

single : {A B : Type 0} (R : A → B → Type 0) (x : A) (ys : List B) (k : ℕ) (y : B) → AllZip R (x ∷ []) ys → slice_get ys k ≡ Some y → R x y
single R x [] k y zips at = absurd (none-some y at)
single R x (w ∷ []) zero y zips at = subst (R x) (same_Some w y at) zips.0
single R x (w ∷ []) (suc k) y zips at = absurd (none-some y at)
single R x (w ∷ v ∷ ys) k y zips at = absurd zips.1

-- a node that stands directly in another has a place there
pub place_among : (nodes : List Node) (n parent : ℕ) → IsChild nodes n parent → (k : ℕ) × (slice_get (children_of nodes parent) k ≡ Some n)
place_among nodes n parent child =
    let test : is_parent parent child.node.parent ≡ true = ap (is_parent parent) child.in_parent ∙ eq-eqb parent parent refl in
    in_place (children_of nodes parent) n
    (to_map (λ (e : ℕ × Node). e.0) _ (n, child.node) (to_filter (λ (e : ℕ × Node). is_parent parent e.1.parent) (enumerate_from 0 nodes) (n, child.node) (to_numbered nodes n child.node child.is) test))

-- ---- parts of a statement

abbrev branch_in : Look → ℕ
branch_in (Inner (fill.Select branch)) = branch
branch_in _ = 0

abbrev truth_in : Look → Bool
truth_in (Inner (fill.If taken)) = taken
truth_in _ = false

abbrev arm_in : Look → Option ℕ
arm_in (Inner (fill.Match arm)) = arm
arm_in _ = None

module _ (m : ModelTree) (nodes : List Node) (levels n : ℕ) (c : Context) (children : List ℕ) (index : ℕ) (step : StepTree) (branch : slice_get children index ≡ Some n) where
  abbrev R : Piece → ℕ → Type 0
  R = Stood m nodes levels

  of_row : (steps : List StepTree) (below : List Piece) → below ≡ statements c steps → slice_get steps index ≡ Some step → AllZip R below children → R (Statement c step) n
  of_row steps below is at zips =
      zip_get R (statements c steps) children index (Statement c step) n (subst (λ b. AllZip R b children) is zips) (slice_get-map (Statement c) steps index ∙ ap (option_map (Statement c)) at) branch

  of_one : (below : List Piece) → below ≡ Statement c step ∷ [] → AllZip R below children → R (Statement c step) n
  of_one below is zips = single R (Statement c step) children index n (subst (λ b. AllZip R b children) is zips) branch

  named : {A : Type 0} (f : A → StepTree) (o : Option A) (x : A) → o ≡ Some x → option_map f o ≡ Some step → f x ≡ step
  named f o x is at = same_Some (f x) step (sym (ap (option_map f) is) ∙ at)

  not_true : (b : Bool) → not b ≡ true → b ≡ false
  not_true false e = refl
  not_true true e = absurd (false≢true e)

  not_false : (b : Bool) → not b ≡ false → b ≡ true
  not_false true e = refl
  not_false false e = absurd (false≢true (sym e))

  part_stood : (f : Fill) (above : StepTree) (look : Look) (below : List Piece) → IsLookOf f look → IsStatementWay m c above look below → step_below f above index ≡ Some step → AllZip R below children → R (Statement c step) n
  part_stood fill.Sequence (Sequence steps) look below looks way at zips = of_row (steps_of steps) below way.1 at zips
  part_stood fill.Parallel (Parallel steps) look below looks way at zips = of_row (steps_of steps) below way.1 at zips
  part_stood fill.Schedule (Schedule steps) look below looks way at zips = of_row (steps_of steps) below way.1 at zips
  part_stood (fill.Joined _ _) (Joined parallel join steps) look below looks way at zips = of_row (steps_of steps) below way.3 at zips
  part_stood (fill.Select taken) (Select branches) look below looks way at zips =
      let l = look_is (fill.Select taken) look refl looks in
      let same : taken ≡ way.index = sym (ap branch_in l) ∙ ap branch_in way.looks in
      let is : branch_step way.branch ≡ step = named branch_step (slice_get (branches_of branches) taken) way.branch (ap (slice_get (branches_of branches)) same ∙ way.is) at in
      of_one below (way.stands ∙ ap (λ x. Statement c x ∷ []) is) zips
  part_stood (fill.If true) (If condition holds fails) look below looks (v, value, other, stands) at zips =
      let l = look_is (fill.If true) look refl looks in
      let no : is_false v ≡ false = not_true (is_false v) (sym (ap truth_in other) ∙ ap truth_in l) in
      of_one below (stands ∙ ap (λ b. if b then optional c (step_of fails) else Statement c holds ∷ []) no ∙ ap (λ x. Statement c x ∷ []) (same_Some holds step at)) zips
  part_stood (fill.If false) (If condition holds fails) look below looks (v, value, other, stands) at zips =
      let l = look_is (fill.If false) look refl looks in
      let yes : is_false v ≡ true = not_false (is_false v) (sym (ap truth_in other) ∙ ap truth_in l) in
      of_one below (stands ∙ ap (λ b. if b then optional c (step_of fails) else Statement c holds ∷ []) yes ∙ ap (optional c) at) zips
  part_stood (fill.Match (Some arm)) (Match matched arms other) look below looks (v, value, ways) at zips =
      let l = look_is (fill.Match (Some arm)) look refl looks in
      ⊎_elim
      (λ w.
      let same : arm ≡ w.0 = same_Some arm w.0 (sym (ap arm_in l) ∙ ap arm_in w.3) in
      let is : arm_step w.1 ≡ step = named arm_step (slice_get (arms_of arms) arm) w.1 (ap (slice_get (arms_of arms)) same ∙ w.2.0) at in
      of_one below (w.4 ∙ ap (λ x. Statement c x ∷ []) is) zips)
      (λ w. absurd (none-some arm (sym (ap arm_in w.1.2) ∙ ap arm_in l))) ways
  part_stood (fill.Match None) (Match matched arms other) look below looks (v, value, ways) at zips =
      let l = look_is (fill.Match None) look refl looks in
      ⊎_elim
      (λ w. absurd (none-some w.0 (sym (ap arm_in l) ∙ ap arm_in w.3)))
      (λ w. let is : w.1.0 ≡ step = same_Some w.1.0 step (sym w.1.1 ∙ at) in of_one below (w.1.3 ∙ ap (λ x. Statement c x ∷ []) is) zips) ways
  part_stood _ _ look below looks way at zips = absurd (none-some step at)

-- ---- statements

-- the node stands for the statement in some context
pub record IsStatement (m : ModelTree) (nodes : List Node) (n : ℕ) (step : StepTree) : Type 0 where
  pub context : Context
  pub levels : ℕ
  pub stood : Stood m nodes levels (Statement context step) n

below_one : (m : ModelTree) (nodes : List Node) (levels n parent index : ℕ) (c : Context) (above step : StepTree) (node : Node) → slice_get nodes parent ≡ Some node → slice_get (children_of nodes parent) index ≡ Some n
    → step_below node.fill above index ≡ Some step → Stood m nodes levels (Statement c above) parent → IsStatement m nodes n step
below_one m nodes zero n parent index c above step node is branch at stood = absurd stood
below_one m nodes (suc levels) n parent index c above step node is branch at (own, has, look, below, looks, way, zips) =
    let same : own ≡ node = same_Some own node (sym has ∙ is) in
    let l : IsLookOf node.fill look = subst (λ (x : Node). IsLookOf x.fill look) same looks in
    record { context = c; levels = levels; stood = part_stood m nodes levels n c (children_of nodes parent) index step branch node.fill above look below l way at zips }

-- a turn
turn_at : {B : Type 0} (R : Piece → B → Type 0) (c : Context) (body : StepTree) (i many : ℕ) (ys : List B) (k : ℕ) (y : B) → AllZip R (turns c body i many) ys → slice_get ys k ≡ Some y → (j : ℕ) × R (Turning c j body) y
turn_at R c body i zero [] k y zips at = absurd (none-some y at)
turn_at R c body i zero (w ∷ ys) k y zips at = absurd zips
turn_at R c body i (suc many) [] k y zips at = absurd zips
turn_at R c body i (suc many) (w ∷ ys) zero y zips at = (i, subst (R (Turning c i body)) (same_Some w y at) zips.0)
turn_at R c body i (suc many) (w ∷ ys) (suc k) y zips at = turn_at R c body (i + 1) many ys k y zips.1 at

in_a_turn : (m : ModelTree) (nodes : List Node) (levels n turn index : ℕ) (c : Context) (body : StepTree) → IsChild nodes n turn → Stood m nodes levels (Turning c index body) turn → IsStatement m nodes n body
in_a_turn m nodes zero n turn index c body child stood = absurd stood
in_a_turn m nodes (suc levels) n turn index c body child (own, has, look, below, looks, way, zips) =
    let k = place_among nodes n turn child in
    record {
      context = in_turn c index;
      levels = levels;
      stood = single (Stood m nodes levels) (Statement (in_turn c index) body) (children_of nodes turn) k.0 n (subst (λ b. AllZip (Stood m nodes levels) b (children_of nodes turn)) way.1 zips) k.1;
    }

in_repeat : (m : ModelTree) (nodes : List Node) (levels n turn parent : ℕ) (c : Context) (count : _) (body : StepTree) → IsChild nodes turn parent → IsChild nodes n turn → Stood m nodes levels (Statement c (Repeat count body)) parent
    → IsStatement m nodes n body
in_repeat m nodes zero n turn parent c count body over child stood = absurd stood
in_repeat m nodes (suc levels) n turn parent c count body over child (own, has, look, below, looks, way, zips) =
    let k = place_among nodes turn parent over in
    let t = turn_at (Stood m nodes levels) c body 0 way.0 (children_of nodes parent) k.0 turn (subst (λ b. AllZip (Stood m nodes levels) b (children_of nodes parent)) way.3 zips) k.1 in
    in_a_turn m nodes levels n turn t.0 c body child t.1

module _ (m : ModelTree) (nodes : List Node) (all : (i : ℕ) → i < length nodes → IsStood m nodes i) where
  pub is_statement : (top : ℕ) {n : ℕ} {step : StepTree} {indices : List ℕ} → StandsFor m nodes top n step indices → IsStatement m nodes n step
  is_statement top (AtTop n index action instance fields activity node step is leaf has branch at) =
      let whole = compound_at m nodes top node action instance fields is leaf (all top (slice_get_within nodes top node is)) in
      let same : whole.activity ≡ activity =
      same_Some whole.activity activity (sym (ap (option_and_then (λ (t : ActionTree). activity_in t.content)) whole.is ∙ ap activity_in whole.content) ∙ has) in
      let listed : slice_get whole.activity.steps index ≡ Some step = ap (λ (x : ActivityTree). slice_get x.steps index) same ∙ at in
      record {
        context = whole.context;
        levels = whole.levels;
        stood = zip_get (Stood m nodes whole.levels) (statements whole.context whole.activity.steps) (children_of nodes top) index (Statement whole.context step) n whole.children
            (slice_get-map (Statement whole.context) whole.activity.steps index ∙ ap (option_map (Statement whole.context)) listed) branch;
      }
  is_statement top (Below n parent index node above step indices over is branch at) =
      let it = is_statement top over in
      below_one m nodes it.levels n parent index it.context above step node is branch at it.stood
  is_statement top (InTurn n turn parent index node count body round over in_parent is of in_it) =
      let it = is_statement top over in
      in_repeat m nodes it.levels n turn parent it.context count body in_parent in_it it.stood
