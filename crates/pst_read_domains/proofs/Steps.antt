-- Each further value of a compound action is of its field's domain.
use Rattle.std.proofs.Common.{◌≡◌, ◌⊎◌, ℕ, zero, suc, ◌+◌, ◌<◌, ℤ, pos, negsuc, List, [], ◌∷◌, ◌++◌, length, Bool, true, false, nat_lt, nat_le, if◌then◌else◌, Option, Some, None, refl, sym, ap, ◌∙◌, subst, inl, inr, arith, length-append}
use Rattle.std.specs.Prelude.{slice_get}
use Rattle.std.specs.List.{enumerate_from, find}
use Rattle.std.specs.Option.{option_and_then}
use Rattle.std.proofs.lemmas.Bool.{false≢true}
use Rattle.std.proofs.lemmas.Option.{none-some}
use Rattle.pst_expr.specs.Laws.{DomainsListValues}
use Rattle.pst_expr.specs.Spans.{size_of}
use Rattle.pst_expr.specs.Value.{is_false}
use Rattle.pst_model.specs.declared.action.Field.{Field}
use Rattle.pst_model.specs.declared.activity.Join.{Join}
use Rattle.pst_model.specs.declared.activity.Join.TheVariants.{Fixed, Choose}
use Rattle.pst_model.specs.ActivityTree.{StepTree, Traverse, Sequence, Parallel, Schedule, Joined, Select, Repeat, If, Match, BranchTree, ArmTree, steps_of, branches_of, arms_of, step_of}
use Rattle.pst_model.specs.ModelTree.{ModelTree, ActionTree, ContentTree, Atomic, Compound}
use Rattle.pst_model.specs.Sound.{IsSoundField, IsSoundAction, IsSound}
use Rattle.pst_scen.specs.declared.tree.Node.{Node}
use Rattle.pst_scen.specs.declared.tree.Fill.{Fill}
use Rattle.pst_scen.specs.declared.tree.Fill.TheVariants as fill
use Rattle.pst_scen.specs.declared.scenario.Scenario.{Scenario}
use Rattle.pst_legal.specs.Types.{type_of, action_field, action_instances}
use Rattle.pst_legal.specs.Growing.{Look, Inner, Leaf, with_look}
use Rattle.pst_legal.specs.Pieces.{Context, Piece, Action, Statement, Turning, statements, value_in, mask, IsValueOf}
use Rattle.pst_legal.specs.Menus.{Menu, Place, Closed, plain, content_menu, instance_menu, action_menu, join_menu, block_menu, available, branch_menu, repeat_menu, if_menu, is_in_arm, arm_menu, match_menu, statement_menu, menu}
use Rattle.pst_legal.specs.Reading.{value_number}
use Rattle.pst_built.proofs.Parents.{get_more, get_last, get_cases}
use Rattle.pst_built.proofs.SoundActs.{all_get}
use Rattle.pst_built.specs.StepsOf.{FieldSteps, AllWays}
use Rattle.pst_built.proofs.Menus.{look_with}
use Rattle.pst_built.proofs.ReachedNodes.{put_look}
use Rattle.pst_built.proofs.Went.{value_of}
use Rattle.pst_read_domains.specs.ReadValuesLaws.{CompoundsAreValued}

abbrev is_compound : Look → Bool
is_compound (Inner (fill.Compound action instance fields)) = true
is_compound _ = false

-- a compound action without values, with its type's fields, or a node that has no values
pub data IsStart (m : ModelTree) (look : Look) (fields : List Field) : Type 0 where
  OfCompound : (action instance : ℕ) (type : ActionTree) → look ≡ Inner (fill.Compound action instance []) → type_of m action ≡ Some type → fields ≡ type.fields → IsStart m look fields
  OfOther : is_compound look ≡ false → fields ≡ [] → IsStart m look fields

module _ (m : ModelTree) where
  content_starts : (type : ActionTree) (content : ContentTree) (action instance : ℕ) → type_of m action ≡ Some type → AllWays (IsStart m) (content_menu type content action instance)
  content_starts type (Atomic body) action instance is = OfOther refl refl
  content_starts type (Compound activity) action instance is = OfCompound action instance type refl is refl

  instance_starts : (type : ActionTree) (action : ℕ) (o : Option ℕ) → type_of m action ≡ Some type → AllWays (IsStart m) (instance_menu type action o)
  instance_starts type action None is = tt
  instance_starts type action (Some instance) is = content_starts type type.content action instance is

  action_starts : (action : ℕ) (top : Option ℕ) (o : Option ActionTree) → type_of m action ≡ o → AllWays (IsStart m) (action_menu m action top o)
  action_starts action top None is = tt
  action_starts action top (Some type) is = λ k. instance_starts type action (slice_get (action_instances m (Some type) top) k) is

  starts_if : (b : Bool) (one other : Menu) → AllWays (IsStart m) one → AllWays (IsStart m) other → AllWays (IsStart m) (if b then one else other)
  starts_if true one other first second = first
  starts_if false one other first second = second

  join_starts : (after : List Bool → Menu) → ((bits : List Bool) → AllWays (IsStart m) (after bits)) → (n branches : ℕ) (joined : List Bool) → AllWays (IsStart m) (join_menu after n branches joined)
  join_starts after each n zero joined = each joined
  join_starts after each zero (suc branches) joined = λ k. join_starts after each zero branches (joined ++ false ∷ [])
  join_starts after each (suc n) (suc branches) joined =
      let next = join_starts after each n branches (joined ++ true ∷ []) in
      let skip = join_starts after each (suc n) branches (joined ++ false ∷ []) in
      starts_if (nat_le (suc n) branches) (Place 2 (λ k. if nat_lt k 1 then join_menu after n branches (joined ++ true ∷ []) else join_menu after (suc n) branches (joined ++ false ∷ []))) (Place 1 (λ k. join_menu after n branches (joined ++ true ∷ [])))
      (λ k. starts_if (nat_lt k 1) (join_menu after n branches (joined ++ true ∷ [])) (join_menu after (suc n) branches (joined ++ false ∷ [])) next skip) (λ k. next)

  block_starts : (c : Context) (parallel : Bool) (join : Join) (steps : List StepTree) → AllWays (IsStart m) (block_menu c parallel join steps)
  block_starts c parallel (Fixed named) steps = OfOther refl refl
  block_starts c parallel (Choose n) steps =
      starts_if (nat_le n (length steps)) (join_menu (λ joined. plain (fill.Joined parallel (mask joined)) (statements c steps)) n (length steps) []) Closed
      (join_starts (λ joined. plain (fill.Joined parallel (mask joined)) (statements c steps)) (λ bits. OfOther refl refl) n (length steps) []) tt

  branch_starts : (c : Context) (o : Option (ℕ × BranchTree)) → AllWays (IsStart m) (branch_menu c o)
  branch_starts c None = tt
  branch_starts c (Some e) = OfOther refl refl

  repeat_starts : (c : Context) (body : StepTree) (o : Option ℤ) → AllWays (IsStart m) (repeat_menu c body o)
  repeat_starts c body None = tt
  repeat_starts c body (Some (pos n)) = OfOther refl refl
  repeat_starts c body (Some (negsuc n)) = tt

  if_starts : (c : Context) (holds : StepTree) (fails : Option StepTree) (o : Option ℤ) → AllWays (IsStart m) (if_menu c holds fails o)
  if_starts c holds fails None = tt
  if_starts c holds fails (Some v) = starts_if (is_false v) _ _ (OfOther refl refl) (OfOther refl refl)

  arm_starts : (c : Context) (other : Option StepTree) (o : Option (ℕ × ArmTree)) → AllWays (IsStart m) (arm_menu c other o)
  arm_starts c None None = tt
  arm_starts c (Some step) None = OfOther refl refl
  arm_starts c other (Some e) = OfOther refl refl

  match_starts : (c : Context) (arms : List ArmTree) (other : Option StepTree) (o : Option ℤ) → AllWays (IsStart m) (match_menu c arms other o)
  match_starts c arms other None = tt
  match_starts c arms other (Some v) = arm_starts c other (find (is_in_arm v) (enumerate_from 0 arms))

  statement_starts : (c : Context) (step : StepTree) → AllWays (IsStart m) (statement_menu m c step)
  statement_starts c (Traverse action handle inline) = action_starts action (Some c.instance) (type_of m action) refl
  statement_starts c (Sequence steps) = OfOther refl refl
  statement_starts c (Parallel steps) = OfOther refl refl
  statement_starts c (Schedule steps) = OfOther refl refl
  statement_starts c (Joined parallel join steps) = block_starts c parallel join (steps_of steps)
  statement_starts c (Select rows) = λ k. branch_starts c (slice_get (available c (branches_of rows)) k)
  statement_starts c (Repeat count body) = repeat_starts c body (value_in c count)
  statement_starts c (If condition holds fails) = if_starts c holds (step_of fails) (value_in c condition)
  statement_starts c (Match matched arms other) = match_starts c (arms_of arms) (step_of other) (value_in c matched)

  pub menu_starts : (piece : Piece) → AllWays (IsStart m) (menu m piece)
  menu_starts (Action action top) = action_starts action top (type_of m action) refl
  menu_starts (Statement c step) = statement_starts c step
  menu_starts (Turning c index body) = OfOther refl refl

-- ---- the steps

-- where values are of their domains, they are behind the step
abbrev pub Keeps : ModelTree → Scenario → Scenario → Type 0
Keeps m s t = CompoundsAreValued m s → CompoundsAreValued m t

compound_parts : (a b i j : ℕ) (xs ys : List ℤ) → fill.Compound a i xs ≡ fill.Compound b j ys → (a ≡ b) × (xs ≡ ys)
compound_parts a b i j xs ys e = (cc, cc)

abbrev fill_compound : Fill → Bool
fill_compound (fill.Compound action instance fields) = true
fill_compound _ = false

not_compound : {P : Type 0} (f : Fill) (action instance : ℕ) (values : List ℤ) → fill_compound f ≡ false → f ≡ fill.Compound action instance values → P
not_compound f action instance values other same = absurd (false≢true (sym other ∙ ap fill_compound same))

-- one node more, of which the values are of their domains
push_node : (m : ModelTree) (nodes : List Node) (x : Node) → ((n : ℕ) (node : Node) (action instance : ℕ) (values : List ℤ) (i : ℕ) (v : ℤ) → slice_get nodes n ≡ Some node → node.fill ≡ fill.Compound action instance values → slice_get values i ≡ Some v
    → (field : Field) × (action_field m action i ≡ Some field) × IsValueOf field v)
    → ((action instance : ℕ) (values : List ℤ) (i : ℕ) (v : ℤ) → x.fill ≡ fill.Compound action instance values → slice_get values i ≡ Some v → (field : Field) × (action_field m action i ≡ Some field) × IsValueOf field v)
    → (n : ℕ) (node : Node) (action instance : ℕ) (values : List ℤ) (i : ℕ) (v : ℤ) → slice_get (nodes ++ x ∷ []) n ≡ Some node → node.fill ≡ fill.Compound action instance values → slice_get values i ≡ Some v
    → (field : Field) × (action_field m action i ≡ Some field) × IsValueOf field v
push_node m nodes x old new n node action instance values i v is of at = by (get_cases nodes x n node is)
  where
    by : ((slice_get nodes n ≡ Some node) ⊎ ((n ≡ length nodes) × (x ≡ node))) → (field : Field) × (action_field m action i ≡ Some field) × IsValueOf field v
    by (inl there) = old n node action instance values i v there of at
    by (inr (last, same)) = new action instance values i v (ap (λ (y : Node). y.fill) same ∙ of) at

fill_of : (look : Look) → is_compound look ≡ false → (f : Fill) → look ≡ Inner f → fill_compound f ≡ false
fill_of look other (fill.Compound action instance fields) same = absurd (false≢true (sym other ∙ ap is_compound same))
fill_of look other (fill.Leaf act) same = refl
fill_of look other fill.Sequence same = refl
fill_of look other fill.Parallel same = refl
fill_of look other fill.Schedule same = refl
fill_of look other (fill.Joined parallel joined) same = refl
fill_of look other (fill.Select branch) same = refl
fill_of look other fill.Repeat same = refl
fill_of look other (fill.Turn index) same = refl
fill_of look other (fill.If taken) same = refl
fill_of look other (fill.Match arm) same = refl

plain_look : (m : ModelTree) (s : Scenario) (parent : Option ℕ) (look : Look) → is_compound look ≡ false → Keeps m s (with_look m s parent look)
plain_look m s parent (Inner f) other valued =
    push_node m s.nodes (record { parent = parent; fill = f }) valued (λ action instance values i v of at. not_compound f action instance values (fill_of (Inner f) other f refl) of)
plain_look m s parent (Leaf action instance) other valued =
    push_node m s.nodes (record { parent = parent; fill = fill.Leaf (length s.actions) }) valued (λ a j values i v of at. not_compound (fill.Leaf (length s.actions)) a j values refl of)

module _ (listed : DomainsListValues) (m : ModelTree) (sound : IsSound m) where
  empty_look : (s : Scenario) (parent : Option ℕ) (action instance : ℕ) → Keeps m s (with_look m s parent (Inner (fill.Compound action instance [])))
  empty_look s parent action instance valued =
      push_node m s.nodes (record { parent = parent; fill = fill.Compound action instance [] }) valued
      (λ a j values i v of at. let p = compound_parts action a instance j [] values of in absurd (none-some v (ap (λ vs. slice_get vs i) p.1 ∙ at)))

  module _ (s : Scenario) (parent : Option ℕ) (action instance : ℕ) (type : ActionTree) (typed : type_of m action ≡ Some type) where
    abbrev At : List ℤ → Scenario
    At known = with_look m s parent (look_with (Inner (fill.Compound action instance [])) known)

    -- one value more
    one_value : (known : List ℤ) (field : Field) (k : ℕ) → slice_get type.fields (length known) ≡ Some field → k < size_of field.domain → Keeps m (At known) (At (known ++ value_number field k ∷ []))
    one_value known field k has below valued =
        push_node m s.nodes (record { parent = parent; fill = fill.Compound action instance (known ++ value_number field k ∷ []) })
        (λ n node a j values i v is of at. valued n node a j values i v (get_more s.nodes (record { parent = parent; fill = fill.Compound action instance known } ∷ []) n node is) of at)
        (λ a j values i v of at.
        let p = compound_parts action a instance j (known ++ value_number field k ∷ []) values of in
        subst (λ b. (f : Field) × (action_field m b i ≡ Some f) × IsValueOf f v) p.0 (by i v (get_cases known (value_number field k) i v (ap (λ vs. slice_get vs i) p.1 ∙ at))))
      where
        by : (i : ℕ) (v : ℤ) → ((slice_get known i ≡ Some v) ⊎ ((i ≡ length known) × (value_number field k ≡ v))) → (f : Field) × (action_field m action i ≡ Some f) × IsValueOf f v
        by i v (inl old) =
            valued (length s.nodes) (record { parent = parent; fill = fill.Compound action instance known }) action instance known i v (get_last s.nodes (record { parent = parent; fill = fill.Compound action instance known })) refl old
        by i v (inr (last, same)) =
            let whole = all_get (IsSoundAction m) m.actions action type sound.actions typed in
            let domain = (all_get IsSoundField type.fields (length known) field whole.fields has).domain in (
              field,
              ap (option_and_then (λ (t : ActionTree). slice_get t.fields i)) typed ∙ ap (slice_get type.fields) last ∙ has,
              subst (IsValueOf field) same (value_of listed field k domain below),
            )

    steps : (fields : List Field) (known : List ℤ) → ((i : ℕ) (field : Field) → slice_get fields i ≡ Some field → slice_get type.fields (length known + i) ≡ Some field) → FieldSteps (Keeps m) (length s.nodes) fields (At known)
    steps [] known all = tt
    steps (field ∷ fields) known all = λ k l.
        let v = value_number field k in
        let e = put_look m s parent (Inner (fill.Compound action instance [])) known v in
        let here : length known + 0 ≡ length known = omega arith in
        let long = length-append known (v ∷ []) in (
          subst (Keeps m (At known)) (sym e) (one_value known field k (ap (slice_get type.fields) (sym here) ∙ all 0 field refl) l),
          subst (FieldSteps (Keeps m) (length s.nodes) fields) (sym e)
              (steps fields (known ++ v ∷ []) (λ i f is. let far : length (known ++ v ∷ []) + i ≡ length known + suc i = omega (arith, long) in ap (slice_get type.fields) far ∙ all (suc i) f is)),
        )

  pub looks_keep : (s : Scenario) (parent : Option ℕ) (look : Look) (fields : List Field) → IsStart m look fields → Keeps m s (with_look m s parent look) × FieldSteps (Keeps m) (length s.nodes) fields (with_look m s parent look)
  looks_keep s parent look fields (OfOther other none) =
      (plain_look m s parent look other, subst (λ fs. FieldSteps (Keeps m) (length s.nodes) fs (with_look m s parent look)) (sym none) tt)
  looks_keep s parent look fields (OfCompound action instance type is typed own) =
      subst (λ l. Keeps m s (with_look m s parent l) × FieldSteps (Keeps m) (length s.nodes) fields (with_look m s parent l)) (sym is) (
        empty_look s parent action instance,
        subst (λ fs. FieldSteps (Keeps m) (length s.nodes) fs (with_look m s parent (Inner (fill.Compound action instance [])))) (sym own)
            (steps s parent action instance type typed type.fields [] (λ i field is. let first : 0 + i ≡ i = omega arith in ap (slice_get type.fields) first ∙ is)),
      )
