-- A menu leads to no other ways than those to fill its piece.
use Rattle.std.proofs.Common.{◌≡◌, ℕ, zero, suc, ◌≤◌, ℤ, pos, negsuc, ◌≤ℤ◌, int_le, List, [], ◌∷◌, ◌++◌, length, Bool, true, false, cond, not, nat_lt, nat_le, if◌then◌else◌, Option, Some, None, refl, sym, ap, ◌∙◌, subst, arith, append_assoc, append-nil, inl, inr}
use Rattle.std.specs.Prelude.{slice_get, count_by, Any}
use Rattle.std.specs.List.{enumerate_from, find}
use Rattle.std.proofs.lemmas.Bool.{leb-true, and_parts, and_from, false≢true}
use Rattle.std.proofs.lemmas.Int.{ints}
use Rattle.std.proofs.lemmas.List.Sums.{sum_by-cons}
use Rattle.pst_expr.specs.declared.ranges.Span.{Span}
use Rattle.pst_expr.specs.Spans.{IsInSpan}
use Rattle.pst_expr.specs.Value.{is_false}
use Rattle.pst_model.specs.declared.activity.Join.{Join}
use Rattle.pst_model.specs.declared.activity.Join.TheVariants.{Fixed, Choose}
use Rattle.pst_model.specs.ActivityTree.{StepTree, Traverse, Sequence, Parallel, Schedule, Joined, Select, Repeat, If, Match, BranchTree, ArmTree, steps_of, branches_of, arms_of, step_of, guard_of, spans_of}
use Rattle.pst_model.specs.ModelTree.{ModelTree, ActionTree, ContentTree, Atomic, Compound}
use Rattle.pst_scen.specs.declared.tree.Fill.TheVariants as fill
use Rattle.pst_legal.specs.Types.{type_of, action_instances}
use Rattle.pst_legal.specs.Growing.{Look, Inner}
use Rattle.pst_legal.specs.Pieces.{Context, Piece, Action, Statement, Turning, value_in, holds_in, statements, optional, turns, mask, IsContent, IsActionWay, IsJoined, IsSelectWay, IsMatchWay, IsStatementWay, IsWay}
use Rattle.pst_legal.specs.Menus.{Menu, Place, Closed, plain, is_in_span, content_menu, instance_menu, action_menu, join_menu, block_menu, available, branch_menu, branches_menu, repeat_menu, if_menu, is_in_arm, other_menu, arm_menu, match_menu, statement_menu, menu}
use Rattle.pst_built.proofs.Members.{In, in_get, in_find, in_filter, in_numbered, to_numbered, none_found, any_found, any_from, to_contains, from_contains}
use Rattle.pst_built.proofs.Menus.{LeadsTo}

-- ---- actions

from_content : (type : ActionTree) (content : ContentTree) (action instance : ℕ) (look : Look) (below : List Piece) → LeadsTo (content_menu type content action instance) look below → IsContent type content action instance look below
from_content type (Atomic body) action instance look below leads = (leads.2, leads.3)
from_content type (Compound activity) action instance look below leads = (leads.0, leads.1, leads.2, leads.3)

by_instance : (type : ActionTree) (action : ℕ) (instances : List ℕ) (k : ℕ) (look : Look) (below : List Piece) (o : Option ℕ) → slice_get instances k ≡ o → LeadsTo (instance_menu type action o) look below
    → (n : ℕ) × In n instances × IsContent type type.content action n look below
by_instance type action instances k look below None at leads = absurd leads
by_instance type action instances k look below (Some n) at leads = (n, in_get instances k n at, from_content type type.content action n look below leads)

from_action : (m : ModelTree) (action : ℕ) (top : Option ℕ) (look : Look) (below : List Piece) (o : Option ActionTree) → type_of m action ≡ o → LeadsTo (action_menu m action top o) look below → IsActionWay m action top look below
from_action m action top look below None is leads = absurd leads
from_action m action top look below (Some type) is leads =
    let instances = action_instances m (Some type) top in
    let x = by_instance type action instances leads.0 look below (slice_get instances leads.0) refl leads.2 in
    record { type = type; is = is; instance = x.0; inside = to_contains instances x.0 x.1; content = x.2 }

-- ---- blocks that wait for branches

abbrev bit : Bool → Bool
bit b = b

counted_true : (bits : List Bool) → count_by bit (true ∷ bits) ≡ suc (count_by bit bits)
counted_true bits = sum_by-cons (λ (x : Bool). cond (bit x) 1 0) true bits ∙ omega arith

counted_false : (bits : List Bool) → count_by bit (false ∷ bits) ≡ count_by bit bits
counted_false bits = sum_by-cons (λ (x : Bool). cond (bit x) 1 0) false bits ∙ omega arith

module _ (after : List Bool → Menu) (look : Look) (below : List Piece) where
  record Joins (n branches : ℕ) (joined : List Bool) : Type 0 where
    bits : List Bool
    long : length bits ≡ branches
    count : count_by bit bits ≡ n
    leads : LeadsTo (after (joined ++ bits)) look below

  skipped : (n branches : ℕ) (joined : List Bool) → Joins n branches (joined ++ false ∷ []) → Joins n (suc branches) joined
  skipped n branches joined j = record {
    bits = false ∷ j.bits;
    long = ap suc j.long;
    count = counted_false j.bits ∙ j.count;
    leads = subst (λ b. LeadsTo (after b) look below) (append_assoc joined (false ∷ []) j.bits) j.leads;
  }

  added : (n branches : ℕ) (joined : List Bool) → Joins n branches (joined ++ true ∷ []) → Joins (suc n) (suc branches) joined
  added n branches joined j = record {
    bits = true ∷ j.bits;
    long = ap suc j.long;
    count = counted_true j.bits ∙ ap suc j.count;
    leads = subst (λ b. LeadsTo (after b) look below) (append_assoc joined (true ∷ []) j.bits) j.leads;
  }

  from_join : (n branches : ℕ) (joined : List Bool) → n ≤ branches → LeadsTo (join_menu after n branches joined) look below → Joins n branches joined
  from_join zero zero joined most leads = record { bits = []; long = refl; count = refl; leads = subst (λ b. LeadsTo (after b) look below) (sym (append-nil joined)) leads }
  from_join (suc n) zero joined most leads = absurd (omega (arith, most))
  from_join zero (suc branches) joined most leads = skipped zero branches joined (from_join zero branches (joined ++ false ∷ []) (omega arith) leads.2)
  from_join (suc n) (suc branches) joined most leads =
      both (nat_le (suc n) branches) refl leads (from_join n branches (joined ++ true ∷ []) (omega (arith, most))) (λ l. from_join (suc n) branches (joined ++ false ∷ []) l)
    where
      both : (b : Bool) → nat_le (suc n) branches ≡ b
          → LeadsTo (if b then Place 2 (λ k. if nat_lt k 1 then join_menu after n branches (joined ++ true ∷ []) else join_menu after (suc n) branches (joined ++ false ∷ [])) else Place 1 (λ k. join_menu after n branches (joined ++ true ∷ []))) look below
          → (LeadsTo (join_menu after n branches (joined ++ true ∷ [])) look below → Joins n branches (joined ++ true ∷ []))
          → (suc n ≤ branches → LeadsTo (join_menu after (suc n) branches (joined ++ false ∷ [])) look below → Joins (suc n) branches (joined ++ false ∷ [])) → Joins (suc n) (suc branches) joined
      both true e to one other = at (nat_lt to.0 1) to.2
        where
          at : (c : Bool) → LeadsTo (if c then join_menu after n branches (joined ++ true ∷ []) else join_menu after (suc n) branches (joined ++ false ∷ [])) look below → Joins (suc n) (suc branches) joined
          at true leads = added n branches joined (one leads)
          at false leads = skipped (suc n) branches joined (other (leb-true (suc n) branches e) leads)
      both false e to one other = added n branches joined (one to.2)

from_block : (c : Context) (parallel : Bool) (join : Join) (steps : List StepTree) (look : Look) (below : List Piece) → LeadsTo (block_menu c parallel join steps) look below
    → (joined : ℕ) × IsJoined join (length steps) joined × (look ≡ Inner (fill.Joined parallel joined)) × (below ≡ statements c steps)
from_block c parallel (Fixed named) steps look below leads = (named, refl, leads.2, leads.3)
from_block c parallel (Choose n) steps look below leads = by (nat_le n (length steps)) refl leads
  where
    by : (b : Bool) → nat_le n (length steps) ≡ b → LeadsTo (if b then join_menu (λ joined. plain (fill.Joined parallel (mask joined)) (statements c steps)) n (length steps) [] else Closed) look below
        → (joined : ℕ) × IsJoined (Choose n) (length steps) joined × (look ≡ Inner (fill.Joined parallel joined)) × (below ≡ statements c steps)
    by true e to =
        let j = from_join (λ joined. plain (fill.Joined parallel (mask joined)) (statements c steps)) look below n (length steps) [] (leb-true n (length steps) e) to in
        let at = j.leads in
        (mask j.bits, (j.bits, j.long, j.count, refl), at.2, at.3)
    by false e to = absurd to

-- ---- branches, repetitions, conditions and matches

by_le : (a b : ℤ) → int_le a b ≡ true → a ≤ℤ b
by_le a b t = omega (arith, ints, t)

le_test : (a b : ℤ) → a ≤ℤ b → int_le a b ≡ true
le_test a b h = grind (arith, ints)

-- the value is in a span of the arm
abbrev InArm : ℤ → ArmTree → Type 0
InArm v arm = (s : Span) × In s (spans_of arm) × IsInSpan v s

in_arm : (v : ℤ) (arm : ArmTree) → Any (IsInSpan v) (spans_of arm) → InArm v arm
in_arm v arm any = (any.1, from_contains (spans_of arm) any.1 any.0 any.2 any.3, any.4)

tested : (v : ℤ) (k : ℕ) (arm : ArmTree) → InArm v arm → is_in_arm v (k, arm) ≡ true
tested v k arm is = any_from (is_in_span v) (spans_of arm) is.0 is.1 (and_from (int_le is.0.low v) (int_le v is.0.high) (le_test is.0.low v is.2.0) (le_test v is.0.high is.2.1))

untested : (v : ℤ) (e : ℕ × ArmTree) → is_in_arm v e ≡ true → InArm v e.1
untested v e is =
    let a = any_found (is_in_span v) (spans_of e.1) is in
    let p = and_parts (int_le a.0.low v) (int_le v a.0.high) a.2 in
    (a.0, a.1, (by_le a.0.low v p.0, by_le v a.0.high p.1))

from_select : (c : Context) (branches : List BranchTree) (look : Look) (below : List Piece) → LeadsTo (branches_menu c (available c branches)) look below → IsSelectWay c branches look below
from_select c branches look below leads = by (slice_get (available c branches) leads.0) refl leads.2
  where
    by : (o : Option (ℕ × BranchTree)) → slice_get (available c branches) leads.0 ≡ o → LeadsTo (branch_menu c o) look below → IsSelectWay c branches look below
    by None at to = absurd to
    by (Some e) at to =
        let test : ℕ × BranchTree → Bool = λ x. holds_in c (guard_of x.1) in
        let f = in_filter test (enumerate_from 0 branches) e (in_get (available c branches) leads.0 e at) in
        record { index = e.0; branch = e.1; is = in_numbered branches e f.0; holds = f.1; looks = to.2; stands = to.3 }

from_repeat : (c : Context) (body : StepTree) (count : Option ℤ) (look : Look) (below : List Piece) → LeadsTo (repeat_menu c body count) look below → (n : ℕ) × (count ≡ Some (pos n)) × (look ≡ Inner fill.Repeat) × (below ≡ turns c body 0 n)
from_repeat c body None look below leads = absurd leads
from_repeat c body (Some (pos n)) look below leads = (n, refl, leads.2, leads.3)
from_repeat c body (Some (negsuc n)) look below leads = absurd leads

from_truth : (c : Context) (holds : StepTree) (fails : Option StepTree) (b : Bool) (look : Look) (below : List Piece) → LeadsTo (if b then plain (fill.If false) (optional c fails) else plain (fill.If true) (Statement c holds ∷ [])) look below
    → (look ≡ Inner (fill.If (not b))) × (below ≡ (if b then optional c fails else Statement c holds ∷ []))
from_truth c holds fails true look below leads = (leads.2, leads.3)
from_truth c holds fails false look below leads = (leads.2, leads.3)

from_if : (c : Context) (holds : StepTree) (fails : Option StepTree) (value : Option ℤ) (look : Look) (below : List Piece) → LeadsTo (if_menu c holds fails value) look below
    → (v : ℤ) × (value ≡ Some v) × (look ≡ Inner (fill.If (not (is_false v)))) × (below ≡ (if is_false v then optional c fails else Statement c holds ∷ []))
from_if c holds fails None look below leads = absurd leads
from_if c holds fails (Some v) look below leads = let t = from_truth c holds fails (is_false v) look below leads in (v, refl, t.0, t.1)

from_other : (c : Context) (other : Option StepTree) (look : Look) (below : List Piece) → LeadsTo (other_menu c other) look below → (step : StepTree) × (other ≡ Some step) × (look ≡ Inner (fill.Match None)) × (below ≡ Statement c step ∷ [])
from_other c None look below leads = absurd leads
from_other c (Some step) look below leads = (step, refl, leads.2, leads.3)

from_arm : (c : Context) (v : ℤ) (arms : List ArmTree) (other : Option StepTree) (look : Look) (below : List Piece) (o : Option (ℕ × ArmTree)) → find (is_in_arm v) (enumerate_from 0 arms) ≡ o → LeadsTo (arm_menu c other o) look below
    → IsMatchWay c v arms other look below
from_arm c v arms other look below None e leads =
    inr (
      λ index arm matches. absurd (false≢true (sym (none_found (is_in_arm v) (enumerate_from 0 arms) (index, arm) e (to_numbered arms index arm matches.0)) ∙ tested v index arm (in_arm v arm matches.1))),
      from_other c other look below leads,
    )
from_arm c v arms other look below (Some found) e leads =
    let f = in_find (is_in_arm v) (enumerate_from 0 arms) found e in
    let has = untested v found f.1 in
    let at = to_contains (spans_of found.1) has.0 has.1 in
    inl (found.0, found.1, (in_numbered arms found f.0, (at.0, has.0, at.1, at.2, has.2)), leads.2, leads.3)

from_match : (c : Context) (arms : List ArmTree) (other : Option StepTree) (value : Option ℤ) (look : Look) (below : List Piece) → LeadsTo (match_menu c arms other value) look below
    → (v : ℤ) × (value ≡ Some v) × IsMatchWay c v arms other look below
from_match c arms other None look below leads = absurd leads
from_match c arms other (Some v) look below leads = (v, refl, from_arm c v arms other look below (find (is_in_arm v) (enumerate_from 0 arms)) refl leads)

-- ---- all pieces

from_statement : (m : ModelTree) (c : Context) (step : StepTree) (look : Look) (below : List Piece) → LeadsTo (statement_menu m c step) look below → IsStatementWay m c step look below
from_statement m c (Traverse action handle inline) look below leads = from_action m action (Some c.instance) look below (type_of m action) refl leads
from_statement m c (Sequence steps) look below leads = (leads.2, leads.3)
from_statement m c (Parallel steps) look below leads = (leads.2, leads.3)
from_statement m c (Schedule steps) look below leads = (leads.2, leads.3)
from_statement m c (Joined parallel join steps) look below leads = from_block c parallel join (steps_of steps) look below leads
from_statement m c (Select rows) look below leads = from_select c (branches_of rows) look below leads
from_statement m c (Repeat count body) look below leads = from_repeat c body (value_in c count) look below leads
from_statement m c (If condition holds fails) look below leads = from_if c holds (step_of fails) (value_in c condition) look below leads
from_statement m c (Match matched arms other) look below leads = from_match c (arms_of arms) (step_of other) (value_in c matched) look below leads

pub from_menu : (m : ModelTree) (piece : Piece) (look : Look) (below : List Piece) → LeadsTo (menu m piece) look below → IsWay m piece look below
from_menu m (Action action top) look below leads = from_action m action top look below (type_of m action) refl leads
from_menu m (Statement c step) look below leads = from_statement m c step look below leads
from_menu m (Turning c index body) look below leads = (leads.2, leads.3)
