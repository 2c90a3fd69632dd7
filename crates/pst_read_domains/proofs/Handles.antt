-- Handles lead to nodes of their types.
use Rattle.std.proofs.Common.{◌≡◌, ℕ, zero, suc, ◌+◌, List, [], ◌∷◌, cond, Bool, true, false, nat_eq, Option, Some, None, refl, sym, ap, ◌∙◌, subst, arith}
use Rattle.std.specs.Prelude.{slice_get}
use Rattle.std.specs.Option.{option_and_then}
use Rattle.std.proofs.lemmas.Option.{none-some, same_Some, option_and_then_some, slice_get_within}
use Rattle.std.proofs.lemmas.Bool.{false≢true, eqb-true}
use Rattle.pst_model.specs.ConstraintTree.{ConstraintTree}
use Rattle.pst_model.specs.ActivityTree.{StepTree, Traverse, Sequence, Parallel, Schedule, Joined, Select, Repeat, If, Match, StepRow, NoSteps, MoreSteps, ActivityTree, steps_of}
use Rattle.pst_model.specs.ModelTree.{ModelTree, ActionTree, ContentTree, Atomic, Compound}
use Rattle.pst_model.specs.SoundActivity.{EachStep, EachOfSteps, IsSoundStep}
use Rattle.pst_model.specs.Sound.{IsSoundContent, IsSoundAction}
use Rattle.pst_scen.specs.declared.tree.Node.{Node}
use Rattle.pst_scen.specs.declared.tree.Fill.{Fill}
use Rattle.pst_scen.specs.declared.tree.Fill.TheVariants as fill
use Rattle.pst_scen.specs.declared.scenario.Scenario.{Scenario}
use Rattle.pst_legal.specs.Types.{type_of, activity_in, action_activity}
use Rattle.pst_legal.specs.Pieces.{Context, Piece, Action, Statement, Turning}
use Rattle.pst_legal.specs.Statements.{children_of, IsBranch, step_below, first_way, way_in_step, way_in_row, way_in, node_on, handle_node}
use Rattle.pst_legal.specs.Slots.{traversed_type, compound_in, compound_at}
use Rattle.pst_built.proofs.SoundActs.{all_get}
use Rattle.pst_built.proofs.Lists.{get_below}
use Rattle.pst_built.specs.Known.{HasType}
use Rattle.pst_read_domains.specs.Stood.{StepUnder, OfActivity, OfStatement, OfTurn, Under, StandFor}
use Rattle.pst_read_domains.specs.ReadNodesLaws.{NodesStandForPieces, HandlesHaveTheirTypes}
use Rattle.pst_read_domains.proofs.Kids.{child_node}

its_content : (content : ContentTree) (activity : ActivityTree) → activity_in content ≡ Some activity → content ≡ Compound activity
its_content (Atomic body) activity e = absurd (none-some activity e)
its_content (Compound own) activity e = ap Compound (same_Some own activity e)

-- ---- ways

record WayIn (handle : ℕ) (steps : List StepTree) (index : ℕ) (way : List ℕ) : Type 0 where
  place : ℕ
  step : StepTree
  rest : List ℕ
  at : slice_get steps place ≡ Some step
  leads : way_in_step handle step ≡ Some rest
  is : way ≡ (index + place) ∷ rest

by_first : (handle : ℕ) (step : StepTree) (steps : List StepTree) (index : ℕ) (way : List ℕ) (o others : Option (List ℕ)) → way_in_step handle step ≡ o → first_way index o others ≡ Some way
    → (others ≡ Some way → WayIn handle steps (index + 1) way) → WayIn handle (step ∷ steps) index way
by_first handle step steps index way None others leads e rest =
    let r = rest e in
    let v : (index + 1) + r.place ≡ index + suc r.place = omega arith in
    record { place = suc r.place; step = r.step; rest = r.rest; at = r.at; leads = r.leads; is = r.is ∙ ap (λ i. i ∷ r.rest) v }
by_first handle step steps index way (Some w) others leads e rest =
    let v : index ≡ index + 0 = omega arith in
    record { place = 0; step = step; rest = w; at = refl; leads = leads; is = sym (same_Some (index ∷ w) way e) ∙ ap (λ i. i ∷ w) v }

in_list : (handle index : ℕ) (steps : List StepTree) (way : List ℕ) → way_in handle index steps ≡ Some way → WayIn handle steps index way
in_list handle index [] way e = absurd (none-some way e)
in_list handle index (step ∷ steps) way e = by_first handle step steps index way (way_in_step handle step) (way_in handle (index + 1) steps) refl e (λ is. in_list handle (index + 1) steps way is)

in_row : (handle index : ℕ) (rows : StepRow) (way : List ℕ) → way_in_row handle index rows ≡ Some way → WayIn handle (steps_of rows) index way
in_row handle index NoSteps way e = absurd (none-some way e)
in_row handle index (MoreSteps step rows) way e =
    by_first handle step (steps_of rows) index way (way_in_step handle step) (way_in_row handle (index + 1) rows) refl e (λ is. in_row handle (index + 1) rows way is)

-- ---- fills

abbrev is_turn : Fill → Bool
is_turn (fill.Turn index) = true
is_turn _ = false

compound_below : (f : Fill) (above step : StepTree) (index action : ℕ) → compound_in f ≡ Some action → step_below f above index ≡ Some step → ⊥
compound_below (fill.Compound of instance values) above step index action is e = none-some step e
compound_below (fill.Leaf act) above step index action is e = none-some action is
compound_below fill.Sequence above step index action is e = none-some action is
compound_below fill.Parallel above step index action is e = none-some action is
compound_below fill.Schedule above step index action is e = none-some action is
compound_below (fill.Joined parallel joined) above step index action is e = none-some action is
compound_below (fill.Select branch) above step index action is e = none-some action is
compound_below fill.Repeat above step index action is e = none-some action is
compound_below (fill.Turn turn) above step index action is e = none-some action is
compound_below (fill.If taken) above step index action is e = none-some action is
compound_below (fill.Match arm) above step index action is e = none-some action is

of_row : (P : ℕ → StepTree → Type 0) (levels : ℕ) (rows : StepRow) (k : ℕ) (step : StepTree) → EachOfSteps P levels rows → slice_get (steps_of rows) k ≡ Some step → EachStep P levels step
of_row P levels NoSteps k step each is = absurd (none-some step is)
of_row P levels (MoreSteps first rows) zero step each is = subst (EachStep P levels) (same_Some first step is) each.0
of_row P levels (MoreSteps first rows) (suc k) step each is = of_row P levels rows k step each.1 is

abbrev is_repeat : StepTree → Bool
is_repeat (Repeat count body) = true
is_repeat _ = false

abbrev step_in : Piece → StepTree → StepTree
step_in (Statement c step) other = step
step_in _ other = other

abbrev is_statement : Piece → Bool
is_statement (Statement c step) = true
is_statement _ = false

module _ (m : ModelTree) (root : ℕ) (s : Scenario) (pieces : List Piece) (stand : StandFor m root s pieces) where
  piece_of : (n : ℕ) (node : Node) → slice_get s.nodes n ≡ Some node → (piece : Piece) × (slice_get pieces n ≡ Some piece)
  piece_of n node is = let l = slice_get_within s.nodes n node is in let e = stand.long in get_below pieces n (omega (arith, l, e))

  -- what a child of a statement's node stands for
  record Part (f : Fill) (step : StepTree) (place child : ℕ) : Type 0 where
    node : Node
    there : slice_get s.nodes child ≡ Some node
    c : Context
    below : StepTree
    piece : slice_get pieces child ≡ Some (Statement c below)
    is : step_below f step place ≡ Some below

  part_at : (c : Context) (step : StepTree) (f : Fill) (n place child : ℕ) (node : Node) → slice_get s.nodes n ≡ Some node → node.fill ≡ f → slice_get pieces n ≡ Some (Statement c step) → compound_in f ≡ None → is_repeat step ≡ false
      → IsBranch s.nodes n place child → Part f step place child
  part_at c step f n place child node at of has plain other branch =
      let kid = child_node s.nodes n place child branch in
      let piece = piece_of child kid.0 kid.1 in
      by kid.0 kid.1 piece.0 piece.1 (subst (λ g. Under m (Statement c step) g place piece.0) of (stand.under n place child node (Statement c step) piece.0 at has branch piece.1))
    where
      by_step : (x : Node) → slice_get s.nodes child ≡ Some x → (d : Context) (below : StepTree) → slice_get pieces child ≡ Some (Statement d below) → StepUnder m (Statement c step) f place below → Part f step place child
      by_step x there d below own (OfActivity action activity of _ _) = absurd (none-some action (sym plain ∙ of))
      by_step x there d below own (OfStatement e above same under) =
          let it : step ≡ above = ap (λ p. step_in p step) same in
          record { node = x; there = there; c = d; below = below; piece = own; is = ap (λ a. step_below f a place) it ∙ under }
      by_step x there d below own (OfTurn e turn same) = absurd (false≢true (sym (ap is_statement same)))

      by : (x : Node) → slice_get s.nodes child ≡ Some x → (p : Piece) → slice_get pieces child ≡ Some p → Under m (Statement c step) f place p → Part f step place child
      by x there (Action action top) own under = absurd under
      by x there (Statement d below) own under = by_step x there d below own under
      by x there (Turning d turn body) own (same, (e, count, is)) = absurd (false≢true (sym other ∙ ap is_repeat (ap (λ p. step_in p step) is)))

  -- what a child of a compound action's node stands for
  record Top (activity : ActivityTree) (place child : ℕ) : Type 0 where
    node : Node
    there : slice_get s.nodes child ≡ Some node
    c : Context
    step : StepTree
    piece : slice_get pieces child ≡ Some (Statement c step)
    is : slice_get activity.steps place ≡ Some step

  repeat_fill : (f : Fill) (action : ℕ) → compound_in f ≡ Some action → f ≡ fill.Repeat → ⊥
  repeat_fill f action of e = none-some action (ap compound_in (sym e) ∙ of)

  turn_fill : (f : Fill) (action turn : ℕ) → compound_in f ≡ Some action → f ≡ fill.Turn turn → ⊥
  turn_fill f action turn of e = none-some action (ap compound_in (sym e) ∙ of)

  top_at : (action : ℕ) (activity : ActivityTree) (n place child : ℕ) (node : Node) → slice_get s.nodes n ≡ Some node → compound_in node.fill ≡ Some action → action_activity m action ≡ Some activity → IsBranch s.nodes n place child → Top activity place child
  top_at action activity n place child node at of active branch =
      let kid = child_node s.nodes n place child branch in
      let piece = piece_of child kid.0 kid.1 in
      let own = piece_of n node at in
      by kid.0 kid.1 piece.0 piece.1 own.0 own.1 (stand.under n place child node own.0 piece.0 at own.1 branch piece.1)
    where
      by_step : (x : Node) → slice_get s.nodes child ≡ Some x → (d : Context) (below : StepTree) → slice_get pieces child ≡ Some (Statement d below) → (p : Piece) → slice_get pieces n ≡ Some p → StepUnder m p node.fill place below → Top activity place child
      by_step x there d below has p own (OfActivity other its of_other is_its under) =
          let same : action ≡ other = same_Some action other (sym of ∙ of_other) in
          let one : its ≡ activity = same_Some its activity (sym is_its ∙ ap (action_activity m) (sym same) ∙ active) in
          record { node = x; there = there; c = d; step = below; piece = has; is = ap (λ (y : ActivityTree). slice_get y.steps place) (sym one) ∙ under }
      by_step x there d below has p own (OfStatement e above same under) = absurd (compound_below node.fill above below place action of under)
      by_step x there d below has p own (OfTurn e turn same) = absurd (turn_fill node.fill action turn of (stand.suits n node (Turning e turn below) at (own ∙ ap Some same)))

      by : (x : Node) → slice_get s.nodes child ≡ Some x → (q : Piece) → slice_get pieces child ≡ Some q → (p : Piece) → slice_get pieces n ≡ Some p → Under m p node.fill place q → Top activity place child
      by x there (Action of_action top) has p own under = absurd under
      by x there (Statement d below) has p own under = by_step x there d below has p own under
      by x there (Turning d turn body) has p own (same, (e, count, is)) = absurd (repeat_fill node.fill action of (stand.suits n node (Statement e (Repeat count body)) at (own ∙ ap Some is)))

  -- ---- along a way

  module _ (type : ActionTree) (handles : List ℕ) (handle : ℕ) where
    record Leads (k : ℕ) : Type 0 where
      action : ℕ
      is : slice_get handles handle ≡ Some action
      has : HasType s k action

    branch_of : (n place k : ℕ) (rest : List ℕ) → node_on s.nodes n (place ∷ rest) ≡ Some k → (child : ℕ) × IsBranch s.nodes n place child × (node_on s.nodes child rest ≡ Some k)
    branch_of n place k rest e = option_and_then_some (λ child. node_on s.nodes child rest) (slice_get (children_of s.nodes n) place) k e (λ child at on. (child, at, on))

    ends : (c : Context) (action h : ℕ) (inline : List ConstraintTree) (n k : ℕ) (node : Node) (way : List ℕ) (b : Bool) → nat_eq h handle ≡ b → cond b (Some []) None ≡ Some way → slice_get s.nodes n ≡ Some node
        → slice_get pieces n ≡ Some (Statement c (Traverse action (Some h) inline)) → slice_get handles h ≡ Some action → node_on s.nodes n way ≡ Some k → Leads k
    ends c action h inline n k node way true is e at has sound on =
        let none : [] ≡ way = same_Some [] way e in
        let here : n ≡ k = same_Some n k (ap (node_on s.nodes n) none ∙ on) in
        record {
          action = action;
          is = ap (slice_get handles) (sym (eqb-true h handle is)) ∙ sound;
          has = subst (λ i. HasType s i action) here (node, at, stand.suits n node (Statement c (Traverse action (Some h) inline)) at has);
        }
    ends c action h inline n k node way false is e at has sound on = absurd (none-some way e)

    further : (block : StepTree) (rows : StepRow) (c : Context) (n k : ℕ) (node : Node) (f : Fill) (way : List ℕ) → WayIn handle (steps_of rows) 0 way → slice_get s.nodes n ≡ Some node → slice_get pieces n ≡ Some (Statement c block)
        → node.fill ≡ f → compound_in f ≡ None → is_repeat block ≡ false → ((i : ℕ) → step_below f block i ≡ slice_get (steps_of rows) i) → EachOfSteps (IsSoundStep m type handles) 0 rows → node_on s.nodes n way ≡ Some k
        → ((step : StepTree) (place : ℕ) → slice_get (steps_of rows) place ≡ Some step → (c : Context) (n k : ℕ) (node : Node) (way : List ℕ) → way_in_step handle step ≡ Some way → slice_get s.nodes n ≡ Some node
        → slice_get pieces n ≡ Some (Statement c step) → EachStep (IsSoundStep m type handles) 0 step → node_on s.nodes n way ≡ Some k → Leads k) → Leads k
    further block rows c n k node f way w at has of plain other parts sound on each =
        let v : 0 + w.place ≡ w.place = omega arith in
        let b = branch_of n w.place k w.rest (sym (ap (node_on s.nodes n) (w.is ∙ ap (λ i. i ∷ w.rest) v)) ∙ on) in
        let p = part_at c block f n w.place b.0 node at of has plain other b.1 in
        let same : w.step ≡ p.below = same_Some w.step p.below (sym w.at ∙ sym (parts w.place) ∙ p.is) in
        each w.step w.place w.at p.c b.0 k p.node w.rest w.leads p.there (p.piece ∙ ap (λ x. Some (Statement p.c x)) (sym same)) (of_row (IsSoundStep m type handles) 0 rows w.place w.step sound w.at) b.2

    mutual
      walk : (step : StepTree) (c : Context) (n k : ℕ) (node : Node) (way : List ℕ) → way_in_step handle step ≡ Some way → slice_get s.nodes n ≡ Some node → slice_get pieces n ≡ Some (Statement c step)
          → EachStep (IsSoundStep m type handles) 0 step → node_on s.nodes n way ≡ Some k → Leads k
      walk (Traverse action None inline) c n k node way e at has sound on = absurd (none-some way e)
      walk (Traverse action (Some h) inline) c n k node way e at has sound on = ends c action h inline n k node way (nat_eq h handle) refl e at has sound.0 on
      walk (Sequence rows) c n k node way e at has sound on =
          let w = in_row handle 0 rows way e in
          further (Sequence rows) rows c n k node fill.Sequence way w at has (stand.suits n node (Statement c (Sequence rows)) at has) refl refl (λ i. refl) sound.1 on (λ step has. walk_in rows step has)
      walk (Parallel rows) c n k node way e at has sound on =
          let w = in_row handle 0 rows way e in
          further (Parallel rows) rows c n k node fill.Parallel way w at has (stand.suits n node (Statement c (Parallel rows)) at has) refl refl (λ i. refl) sound.1 on (λ step has. walk_in rows step has)
      walk (Schedule rows) c n k node way e at has sound on =
          let w = in_row handle 0 rows way e in
          further (Schedule rows) rows c n k node fill.Schedule way w at has (stand.suits n node (Statement c (Schedule rows)) at has) refl refl (λ i. refl) sound.1 on (λ step has. walk_in rows step has)
      walk (Joined parallel join rows) c n k node way e at has sound on =
          let w = in_row handle 0 rows way e in
          let f = stand.suits n node (Statement c (Joined parallel join rows)) at has in
          further (Joined parallel join rows) rows c n k node (fill.Joined parallel f.0) way w at has f.1 refl refl (λ i. refl) sound.1 on (λ step has. walk_in rows step has)
      walk (Select rows) c n k node way e at has sound on = absurd (none-some way e)
      walk (Repeat count body) c n k node way e at has sound on = absurd (none-some way e)
      walk (If condition holds fails) c n k node way e at has sound on = absurd (none-some way e)
      walk (Match matched arms other) c n k node way e at has sound on = absurd (none-some way e)

      -- the same of each step of a row
      walk_in : (rows : StepRow) (step : StepTree) (place : ℕ) → slice_get (steps_of rows) place ≡ Some step → (c : Context) (n k : ℕ) (node : Node) (way : List ℕ) → way_in_step handle step ≡ Some way → slice_get s.nodes n ≡ Some node
          → slice_get pieces n ≡ Some (Statement c step) → EachStep (IsSoundStep m type handles) 0 step → node_on s.nodes n way ≡ Some k → Leads k
      walk_in NoSteps step place is c n k node way e at has sound on = absurd (none-some step is)
      walk_in (MoreSteps first rows) step zero is c n k node way e at has sound on =
          let same : step ≡ first = sym (same_Some first step is) in
          walk first c n k node way (ap (way_in_step handle) (sym same) ∙ e) at (has ∙ ap (λ x. Some (Statement c x)) same) (subst (EachStep (IsSoundStep m type handles) 0) same sound) on
      walk_in (MoreSteps first rows) step (suc place) is c n k node way e at has sound on = walk_in rows step place is c n k node way e at has sound on

pub handles_typed : NodesStandForPieces → HandlesHaveTheirTypes
handles_typed stood m root seed level choices s sound read n handle k behind =
    let some = stood m root seed level choices s read in
    option_and_then_some (λ action. handle_node m s.nodes n action handle) (compound_at s.nodes n) k behind
    (λ action of leads.
    option_and_then_some (λ (node : Node). compound_in node.fill) (slice_get s.nodes n) action of
    (λ node at fills.
    option_and_then_some (λ (activity : ActivityTree). option_and_then (node_on s.nodes n) (way_in handle 0 activity.steps)) (action_activity m action) k leads
    (λ activity active steps.
    option_and_then_some (node_on s.nodes n) (way_in handle 0 activity.steps) k steps
    (λ way is on.
    option_and_then_some (λ (t : ActionTree). activity_in t.content) (type_of m action) activity active
    (λ type typed has.
    let whole = all_get (IsSoundAction m) m.actions action type sound.actions typed in
    let content = subst (IsSoundContent m type) (its_content type.content activity has) whole.content in
    let w = in_list handle 0 activity.steps way is in
    let v : 0 + w.place ≡ w.place = omega arith in
    let b = branch_of m root s some.0 some.1 type activity.handles handle n w.place k w.rest (sym (ap (node_on s.nodes n) (w.is ∙ ap (λ i. i ∷ w.rest) v)) ∙ on) in
    let p = top_at m root s some.0 some.1 action activity n w.place b.0 node at fills active b.1 in
    let same : p.step ≡ w.step = same_Some p.step w.step (sym p.is ∙ w.at) in
    let l =
    walk m root s some.0 some.1 type activity.handles handle w.step p.c b.0 k p.node w.rest w.leads p.there (p.piece ∙ ap (λ x. Some (Statement p.c x)) same)
    (all_get (EachStep (IsSoundStep m type activity.handles) 0) activity.steps w.place w.step content.1.steps w.at) b.2 in (
      l.action,
      ap (option_and_then (λ a. traversed_type m a handle)) of ∙ ap (option_and_then (λ (y : ActivityTree). slice_get y.handles handle)) active ∙ l.is,
      l.has,
    ))))))
