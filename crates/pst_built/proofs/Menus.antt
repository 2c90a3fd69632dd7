-- A menu leads to each way to fill its piece.
use Rattle.std.proofs.Common.{◌≡◌, ℕ, zero, suc, ◌+◌, ◌<◌, ◌≤◌, ℤ, pos, ◌≤ℤ◌, List, [], ◌∷◌, ◌++◌, length, get_or, AllPairs, Bool, true, false, cond, not, int_le, nat_lt, nat_le, if◌then◌else◌, Option, Some, None, refl, sym, ap, ◌∙◌, subst, arith, append_assoc, append-nil, length-append, inl, inr, ⊎_elim}
use Rattle.std.specs.Prelude.{slice_get, count_by, Any, flat_map}
use Rattle.std.specs.List.{enumerate_from, find, AllZip}
use Rattle.std.proofs.lemmas.Option.{none-some, same_Some, slice_get_within, get_or_from_slice_get}
use Rattle.std.proofs.lemmas.Bool.{le-leb, cases_lt, and_parts, and_from, false≢true}
use Rattle.std.proofs.lemmas.Int.{ints}
use Rattle.std.proofs.lemmas.List.{length-map, get_or_append_left, get_or-append-add}
use Rattle.std.proofs.lemmas.List.Sums.{sum_by-cons}
use Rattle.pst_expr.specs.declared.ranges.Span.{Span}
use Rattle.pst_expr.specs.Spans.{IsInSpan}
use Rattle.pst_expr.specs.Value.{is_false}
use Rattle.pst_model.specs.declared.activity.Join.{Join}
use Rattle.pst_model.specs.declared.activity.Join.TheVariants.{Fixed, Choose}
use Rattle.pst_model.specs.ActivityTree.{StepTree, Traverse, Sequence, Parallel, Schedule, Joined, Select, Repeat, If, Match, BranchTree, ArmTree, steps_of, branches_of, arms_of, step_of, guard_of, weight_of, spans_of}
use Rattle.pst_model.specs.ModelTree.{ModelTree, ActionTree, ContentTree, Atomic, Compound}
use Rattle.pst_model.specs.SoundActivity.{AreApart, AreArmsApart}
use Rattle.pst_scen.specs.declared.tree.Fill.{Fill}
use Rattle.pst_scen.specs.declared.tree.Fill.TheVariants as fill
use Rattle.pst_legal.specs.Types.{type_of, action_instances}
use Rattle.pst_legal.specs.Growing.{Look, Inner, Leaf}
use Rattle.pst_legal.specs.Pieces.{Context, Piece, Action, Statement, Turning, value_in, holds_in, statements, optional, turns, mask, IsValueOf, IsContent, IsActionWay, IsJoined, IsSelectWay, Matches, IsMatchWay, IsStatementWay, IsWay}
use Rattle.pst_legal.specs.Menus.{Menu, Way, Place, Weighted, Closed, plain, content_menu, instance_menu, action_menu, join_menu, block_menu, available, branch_menu, branches_menu, repeat_menu, if_menu, is_in_span, is_in_arm, arm_menu, match_menu, statement_menu, menu}
use Rattle.pst_built.proofs.Members.{In, in_get, in_find, in_numbered, to_numbered, to_filter, to_flat_map, none_found, any_from, any_found, to_contains, from_contains}
use Rattle.pst_built.proofs.SoundActs.{in_place}
use Rattle.pst_built.proofs.Lists.{in_contains}

-- a compound action's node with these values
abbrev pub filled_with : Fill → List ℤ → Fill
filled_with (fill.Compound action instance fields) values = fill.Compound action instance (fields ++ values)
filled_with other values = other

abbrev pub look_with : Look → List ℤ → Look
look_with (Inner f) values = Inner (filled_with f values)
look_with (Leaf action instance) values = Leaf action instance

-- the menu leads to this node, with values of its action's fields, and these pieces below it
abbrev pub LeadsTo : Menu → Look → List Piece → Type 0
LeadsTo (Way look fields below) to pieces = (values : List ℤ) × AllZip IsValueOf fields values × (to ≡ look_with look values) × (pieces ≡ below values)
LeadsTo (Place n after) to pieces = (k : ℕ) × (k < n) × LeadsTo (after k) to pieces
LeadsTo (Weighted weights after) to pieces = (k : ℕ) × (k < length weights) × LeadsTo (after k) to pieces
LeadsTo Closed to pieces = ⊥

-- ---- actions

to_content : (type : ActionTree) (content : ContentTree) (action instance : ℕ) (look : Look) (below : List Piece) → IsContent type content action instance look below → LeadsTo (content_menu type content action instance) look below
to_content type (Atomic body) action instance look below way = ([], tt, way.0, way.1)
to_content type (Compound activity) action instance look below way = (way.0, way.1, way.2, way.3)

to_action : (m : ModelTree) (action : ℕ) (top : Option ℕ) (look : Look) (below : List Piece) → IsActionWay m action top look below → LeadsTo (action_menu m action top (type_of m action)) look below
to_action m action top look below way =
    let instances = action_instances m (Some way.type) top in
    let k = in_place instances way.instance (in_contains instances way.instance way.inside) in
    subst (λ t. LeadsTo (action_menu m action top t) look below) (sym way.is) (
      k.0,
      slice_get_within instances k.0 way.instance k.1,
      subst (λ o. LeadsTo (instance_menu way.type action o) look below) (sym k.1) (to_content way.type way.type.content action way.instance look below way.content),
    )

-- ---- blocks that wait for branches

abbrev bit : Bool → Bool
bit b = b

counted_true : (bits : List Bool) → count_by bit (true ∷ bits) ≡ suc (count_by bit bits)
counted_true bits = sum_by-cons (λ (x : Bool). cond (bit x) 1 0) true bits ∙ omega arith

counted_false : (bits : List Bool) → count_by bit (false ∷ bits) ≡ count_by bit bits
counted_false bits = sum_by-cons (λ (x : Bool). cond (bit x) 1 0) false bits ∙ omega arith

few : (bits : List Bool) → count_by bit bits ≤ length bits
few [] = omega arith
few (true ∷ bits) = omega (arith, counted_true bits, few bits)
few (false ∷ bits) = omega (arith, counted_false bits, few bits)

module _ (after : List Bool → Menu) (look : Look) (below : List Piece) where
  abbrev To : List Bool → Type 0
  To joined = LeadsTo (after joined) look below

  either : (b : Bool) (n branches : ℕ) (joined : List Bool) → LeadsTo (join_menu after n branches (joined ++ true ∷ [])) look below
      → LeadsTo (if b then Place 2 (λ k. if nat_lt k 1 then join_menu after n branches (joined ++ true ∷ []) else join_menu after (suc n) branches (joined ++ false ∷ [])) else Place 1 (λ k. join_menu after n branches (joined ++ true ∷ []))) look below
  either true n branches joined to = (0, omega arith, to)
  either false n branches joined to = (0, omega arith, to)

  pub to_join : (n branches : ℕ) (joined bits : List Bool) → length bits ≡ branches → count_by bit bits ≡ n → To (joined ++ bits) → LeadsTo (join_menu after n branches joined) look below
  to_join n zero joined [] long count to = subst To (append-nil joined) to
  to_join n zero joined (b ∷ bits) long count to = absurd (omega (arith, long))
  to_join n (suc branches) joined [] long count to = absurd (omega (arith, long))
  to_join zero (suc branches) joined (true ∷ bits) long count to = absurd (omega (arith, count, counted_true bits))
  to_join zero (suc branches) joined (false ∷ bits) long count to =
      (0, omega arith, to_join zero branches (joined ++ false ∷ []) bits (omega (arith, long)) (omega (arith, count, counted_false bits)) (subst To (sym (append_assoc joined (false ∷ []) bits)) to))
  to_join (suc n) (suc branches) joined (true ∷ bits) long count to =
      either (nat_le (suc n) branches) n branches joined
      (to_join n branches (joined ++ true ∷ []) bits (omega (arith, long)) (omega (arith, count, counted_true bits)) (subst To (sym (append_assoc joined (true ∷ []) bits)) to))
  to_join (suc n) (suc branches) joined (false ∷ bits) long count to =
      let room : suc n ≤ branches = omega (arith, few bits, long, count, counted_false bits) in
      let inner = to_join (suc n) branches (joined ++ false ∷ []) bits (omega (arith, long)) (omega (arith, count, counted_false bits)) (subst To (sym (append_assoc joined (false ∷ []) bits)) to) in
      subst (λ b. LeadsTo (if b then Place 2 (λ k. if nat_lt k 1 then join_menu after n branches (joined ++ true ∷ []) else join_menu after (suc n) branches (joined ++ false ∷ [])) else Place 1 (λ k. join_menu after n branches (joined ++ true ∷ []))) look below)
      (sym (le-leb (suc n) branches room)) (1, omega arith, inner)

to_block : (c : Context) (parallel : Bool) (join : Join) (steps : List StepTree) (joined : ℕ) (look : Look) (below : List Piece) → IsJoined join (length steps) joined
    → look ≡ Inner (fill.Joined parallel joined) → below ≡ statements c steps → LeadsTo (block_menu c parallel join steps) look below
to_block c parallel (Fixed named) steps joined look below is e f = ([], tt, e ∙ ap (λ n. Inner (fill.Joined parallel n)) is, f)
to_block c parallel (Choose n) steps joined look below is e f =
    let room : n ≤ length steps = omega (arith, few is.0, is.1, is.2) in
    let after : List Bool → Menu = λ bits. plain (fill.Joined parallel (mask bits)) (statements c steps) in
    subst (λ b. LeadsTo (if b then join_menu after n (length steps) [] else Closed) look below) (sym (le-leb n (length steps) room))
    (to_join after look below n (length steps) [] is.0 is.1 is.2 ([], tt, e ∙ ap (λ k. Inner (fill.Joined parallel k)) is.3, f))

-- ---- branches that are selected

to_select : (c : Context) (branches : List BranchTree) (look : Look) (below : List Piece) → IsSelectWay c branches look below → LeadsTo (branches_menu c (available c branches)) look below
to_select c branches look below way =
    let test : ℕ × BranchTree → Bool = λ e. holds_in c (guard_of e.1) in
    let has = to_filter test (enumerate_from 0 branches) (way.index, way.branch) (to_numbered branches way.index way.branch way.is) way.holds in
    let k = in_place (available c branches) (way.index, way.branch) has in
    let within = slice_get_within (available c branches) k.0 (way.index, way.branch) k.1 in (
      k.0,
      omega (arith, within, length-map (available c branches) (λ e. weight_of e.1)),
      subst (λ o. LeadsTo (branch_menu c o) look below) (sym k.1) ([], tt, way.looks, way.stands),
    )

-- ---- repetitions and conditions

to_repeat : (c : Context) (body : StepTree) (count : Option ℤ) (n : ℕ) (look : Look) (below : List Piece) → count ≡ Some (pos n) → look ≡ Inner fill.Repeat → below ≡ turns c body 0 n → LeadsTo (repeat_menu c body count) look below
to_repeat c body count n look below is e f = subst (λ o. LeadsTo (repeat_menu c body o) look below) (sym is) ([], tt, e, f)

by_truth : (c : Context) (holds : StepTree) (fails : Option StepTree) (b : Bool) (look : Look) (below : List Piece) → look ≡ Inner (fill.If (not b)) → below ≡ (if b then optional c fails else Statement c holds ∷ [])
    → LeadsTo (if b then plain (fill.If false) (optional c fails) else plain (fill.If true) (Statement c holds ∷ [])) look below
by_truth c holds fails true look below e f = ([], tt, e, f)
by_truth c holds fails false look below e f = ([], tt, e, f)

to_if : (c : Context) (holds : StepTree) (fails : Option StepTree) (value : Option ℤ) (v : ℤ) (look : Look) (below : List Piece) → value ≡ Some v → look ≡ Inner (fill.If (not (is_false v))) → below ≡ (if is_false v then optional c fails else Statement c holds ∷ [])
    → LeadsTo (if_menu c holds fails value) look below
to_if c holds fails value v look below is e f = subst (λ o. LeadsTo (if_menu c holds fails o) look below) (sym is) (by_truth c holds fails (is_false v) look below e f)

-- ---- matches

spans_pair : {A : Type 0} (R : A → A → Type 0) (xs ys : List A) (s t : A) → AllPairs R (xs ++ ys) → In s xs → In t ys → R s t
spans_pair R xs ys s t pairs has other =
    let i = in_place xs s has in
    let j = in_place ys t other in
    let near = slice_get_within xs i.0 s i.1 in
    let far = slice_get_within ys j.0 t j.1 in
    let long = length-append xs ys in
    let first : get_or (xs ++ ys) i.0 s ≡ s = get_or_append_left xs ys s i.0 near ∙ get_or_from_slice_get xs i.0 s s i.1 in
    let second : get_or (xs ++ ys) (length xs + j.0) s ≡ t = get_or-append-add xs ys j.0 s ∙ get_or_from_slice_get ys j.0 t s j.1 in
    subst (λ v. R s v) second (subst (λ v. R v (get_or (xs ++ ys) (length xs + j.0) s)) first (pairs i.0 (length xs + j.0) s (omega (arith, near)) (omega (arith, far, long))))

spans_rest : {A : Type 0} (R : A → A → Type 0) (xs ys : List A) → AllPairs R (xs ++ ys) → AllPairs R ys
spans_rest R xs ys pairs i j d less within =
    let long = length-append xs ys in
    subst (λ v. R v (get_or ys j d)) (get_or-append-add xs ys i d)
    (subst (λ v. R (get_or (xs ++ ys) (length xs + i) d) v) (get_or-append-add xs ys j d) (pairs (length xs + i) (length xs + j) d (omega (arith, less)) (omega (arith, within, long))))

in_arms : (arms : List ArmTree) (k : ℕ) (arm : ArmTree) (s : Span) → slice_get arms k ≡ Some arm → In s (spans_of arm) → In s (flat_map spans_of arms)
in_arms arms k arm s is has = to_flat_map spans_of arms arm s (in_get arms k arm is) has

-- spans of an earlier arm and of a later one don't meet
arms_apart : (arms : List ArmTree) (i j : ℕ) (one other : ArmTree) (s t : Span) → AllPairs AreApart (flat_map spans_of arms) → i < j → slice_get arms i ≡ Some one → slice_get arms j ≡ Some other
    → In s (spans_of one) → In t (spans_of other) → AreApart s t
arms_apart [] i j one other s t pairs less is at has there = absurd (none-some one is)
arms_apart (arm ∷ arms) zero zero one other s t pairs less is at has there = absurd (omega (arith, less))
arms_apart (arm ∷ arms) zero (suc j) one other s t pairs less is at has there =
    spans_pair AreApart (spans_of arm) (flat_map spans_of arms) s t pairs (subst (λ a. In s (spans_of a)) (sym (same_Some arm one is)) has) (in_arms arms j other t at there)
arms_apart (arm ∷ arms) (suc i) zero one other s t pairs less is at has there = absurd (omega (arith, less))
arms_apart (arm ∷ arms) (suc i) (suc j) one other s t pairs less is at has there =
    arms_apart arms i j one other s t (spans_rest AreApart (spans_of arm) (flat_map spans_of arms) pairs) (omega (arith, less)) is at has there

by_le : (a b : ℤ) → int_le a b ≡ true → a ≤ℤ b
by_le a b t = omega (arith, ints, t)

le_test : (a b : ℤ) → a ≤ℤ b → int_le a b ≡ true
le_test a b h = grind (arith, ints)

-- the value is in a span of the arm, by list and by test
abbrev InArm : ℤ → ArmTree → Type 0
InArm v arm = (s : Span) × In s (spans_of arm) × IsInSpan v s

in_arm : (v : ℤ) (arm : ArmTree) → Any (IsInSpan v) (spans_of arm) → InArm v arm
in_arm v arm any = (any.1, from_contains (spans_of arm) any.1 any.0 any.2 any.3, any.4)

tested : (v : ℤ) (k : ℕ) (arm : ArmTree) → InArm v arm → is_in_arm v (k, arm) ≡ true
tested v k arm is = any_from (is_in_span v) (spans_of arm) is.0 is.1 (and_from (int_le is.0.low v) (int_le v is.0.high) (le_test is.0.low v is.2.0) (le_test v is.0.high is.2.1))

untested : (v : ℤ) (e : ℕ × ArmTree) → is_in_arm v e ≡ true → InArm v e.1
untested v e is =
    let a = any_found (is_in_span v) (spans_of e.1) is in
    let p = and_parts (int_le a.0.low v) (int_le v a.0.high) a.2 in
    (a.0, a.1, (by_le a.0.low v p.0, by_le v a.0.high p.1))

one_arm : (arms : List ArmTree) (v : ℤ) (i j : ℕ) (one other : ArmTree) → AllPairs AreApart (flat_map spans_of arms) → slice_get arms i ≡ Some one → slice_get arms j ≡ Some other → InArm v one → InArm v other → i ≡ j
one_arm arms v i j one other pairs is at has there =
    ⊎_elim (λ (l : i < j). absurd (arms_apart arms i j one other has.0 there.0 pairs l is at has.1 there.1 v has.2 there.2))
    (λ (l : j ≤ i).
    ⊎_elim (λ (k : j < i). absurd (arms_apart arms j i other one there.0 has.0 pairs k at is there.1 has.1 v there.2 has.2)) (λ (k : i ≤ j). let e : i ≡ j = omega (arith, l, k) in e) (cases_lt j i))
    (cases_lt i j)

found_arm : (arms : List ArmTree) (v : ℤ) (index : ℕ) (arm : ArmTree) (o : Option (ℕ × ArmTree)) → AllPairs AreApart (flat_map spans_of arms) → slice_get arms index ≡ Some arm → InArm v arm → find (is_in_arm v) (enumerate_from 0 arms) ≡ o → o ≡ Some (index, arm)
found_arm arms v index arm None pairs is has e =
    absurd (false≢true (sym (none_found (is_in_arm v) (enumerate_from 0 arms) (index, arm) e (to_numbered arms index arm is)) ∙ tested v index arm has))
found_arm arms v index arm (Some found) pairs is has e =
    let f = in_find (is_in_arm v) (enumerate_from 0 arms) found e in
    let at = in_numbered arms found f.0 in
    let same : found.0 ≡ index = one_arm arms v found.0 index found.1 arm pairs at is (untested v found f.1) has in
    let arms_same : found.1 ≡ arm = same_Some found.1 arm (sym at ∙ ap (λ k. slice_get arms k) same ∙ is) in
    ap Some (λ i. (same i, arms_same i))

no_arm : (arms : List ArmTree) (v : ℤ) (o : Option (ℕ × ArmTree)) → ((index : ℕ) (arm : ArmTree) → Matches arms v index arm → ⊥) → find (is_in_arm v) (enumerate_from 0 arms) ≡ o → o ≡ None
no_arm arms v None none e = refl
no_arm arms v (Some found) none e =
    let f = in_find (is_in_arm v) (enumerate_from 0 arms) found e in
    let has = untested v found f.1 in
    let c = to_contains (spans_of found.1) has.0 has.1 in
    absurd (none found.0 found.1 (in_numbered arms found f.0, (c.0, has.0, c.1, c.2, has.2)))

to_match : (c : Context) (arms : List ArmTree) (other : Option StepTree) (value : Option ℤ) (v : ℤ) (look : Look) (below : List Piece) → AllPairs AreApart (flat_map spans_of arms) → value ≡ Some v
    → IsMatchWay c v arms other look below → LeadsTo (match_menu c arms other value) look below
to_match c arms other value v look below pairs is (inl way) =
    subst (λ o. LeadsTo (match_menu c arms other o) look below) (sym is)
    (subst (λ o. LeadsTo (arm_menu c other o) look below) (sym (found_arm arms v way.0 way.1 (find (is_in_arm v) (enumerate_from 0 arms)) pairs way.2.0 (in_arm v way.1 way.2.1) refl))
    ([], tt, way.3, way.4))
to_match c arms other value v look below pairs is (inr way) =
    let at = way.1 in
    subst (λ o. LeadsTo (match_menu c arms other o) look below) (sym is)
    (subst (λ o. LeadsTo (arm_menu c other o) look below) (sym (no_arm arms v (find (is_in_arm v) (enumerate_from 0 arms)) way.0 refl))
    (subst (λ o. LeadsTo (arm_menu c o None) look below) (sym at.1) ([], tt, at.2, at.3)))

-- ---- all pieces

-- the arms of a match have no number in common
abbrev pub IsApartStep : StepTree → Type 0
IsApartStep (Match matched arms other) = AreArmsApart arms
IsApartStep _ = Unit {0}

to_statement : (m : ModelTree) (c : Context) (step : StepTree) (look : Look) (below : List Piece) → IsApartStep step → IsStatementWay m c step look below → LeadsTo (statement_menu m c step) look below
to_statement m c (Traverse action handle inline) look below apart way = to_action m action (Some c.instance) look below way
to_statement m c (Sequence steps) look below apart way = ([], tt, way.0, way.1)
to_statement m c (Parallel steps) look below apart way = ([], tt, way.0, way.1)
to_statement m c (Schedule steps) look below apart way = ([], tt, way.0, way.1)
to_statement m c (Joined parallel join steps) look below apart way = to_block c parallel join (steps_of steps) way.0 look below way.1 way.2 way.3
to_statement m c (Select branches) look below apart way = to_select c (branches_of branches) look below way
to_statement m c (Repeat count body) look below apart way = to_repeat c body (value_in c count) way.0 look below way.1 way.2 way.3
to_statement m c (If condition holds fails) look below apart way = to_if c holds (step_of fails) (value_in c condition) way.0 look below way.1 way.2 way.3
to_statement m c (Match matched arms other) look below apart way = to_match c (arms_of arms) (step_of other) (value_in c matched) way.0 look below apart way.1 way.2

abbrev pub IsApartPiece : Piece → Type 0
IsApartPiece (Action action top) = Unit {0}
IsApartPiece (Statement c step) = IsApartStep step
IsApartPiece (Turning c index body) = Unit {0}

pub to_menu : (m : ModelTree) (piece : Piece) (look : Look) (below : List Piece) → IsApartPiece piece → IsWay m piece look below → LeadsTo (menu m piece) look below
to_menu m (Action action top) look below apart way = to_action m action top look below way
to_menu m (Statement c step) look below apart way = to_statement m c step look below apart way
to_menu m (Turning c index body) look below apart way = ([], tt, way.0, way.1)
