-- What is found of an expression is the least of what it breaks.
use Rattle.std.proofs.Common.{◌≡◌, ◌↔◌, ◌⊎◌, inl, inr, ⊎_elim, ℕ, ℤ, Bool, true, false, not, ◌||◌, List, Option, refl, sym, ap, subst, ◌∙◌, true≢false}
use Rattle.std.specs.Prelude.{Some, None, is_some, Contains, IsTrue, IsFalse}
use Rattle.pst_base.specs.declared.position.Place.{Place}
use Rattle.pst_base.specs.Laws.{BeforeGoesOn}
use Rattle.pst_ast.specs.declared.shared.TypeName.{TypeName}
use Rattle.pst_ast.specs.ExpressionTree.{ExprTree}
use Rattle.pst_ast.specs.DeclarationTree.{UnitTree}
use Rattle.pst_expr.specs.declared.ranges.Span.{Span}
use Rattle.pst_expr.specs.Spans.{IsInSpan}
use Rattle.pst_ast.specs.declared.scope_declaration.Declaration.{Declaration}
use Rattle.pst_ast.specs.declared.environment.Environment.{Environment}
use Rattle.pst_ast.specs.declared.referent.Finding.{Finding}
use Rattle.pst_ast.specs.declared.referent.PathPart.{PathPart}
use Rattle.pst_ast.specs.declared.referent.Referent.{Referent}
use Rattle.pst_ast.specs.Declarations.{declarations}
use Rattle.pst_ast.specs.Lookups.{type_named, stands_for}
use Rattle.pst_ast.specs.NameRules.{unless}
use Rattle.pst_ast.specs.Sorts.{is_resource}
use Rattle.pst_ast.specs.Uses.{Use, Judges, Reads, Role, Width, LowestBit, RangeEnd, EnumValue, PoolSize, ArraySize, Weight, JoinCount, Condition, Constrains, InBody, expr_uses}
use Rattle.pst_type_rules.specs.Constants.{IsConstant}
use Rattle.pst_evaluate.specs.Kept.{constant_by}
use Rattle.pst_evaluate.specs.Laws.{ConstantsAreFound}
use Rattle.pst_evaluate.specs.Settled.{AreItemValues}
use Rattle.pst_type_rules.specs.Places.{expr_place, ins}
use Rattle.pst_type_rules.specs.Limits.{limits_of}
use Rattle.pst_type_rules.specs.TypeRules.{UseBreaks, InnerIn, NotConstant, ValueOutside, SizeOfNoResources, NotInCondition, is_constant, is_condition_sort, is_declared}
use Rattle.pst_name_rules.specs.Leasts.{IsLeastOf, least_at}
use Rattle.pst_name_rules.proofs.Leasts.{same_some, some_is_none, told, least_of_both}
use Rattle.pst_use_rules.specs.Found.{inner_in, is_inside, keeps_limits, is_of_resources, may_have_size, may_be_named, read_found, condition_found, judged_found, constant_found}
use Rattle.pst_use_rules.specs.Laws.{ExpressionsAreJudged, IsBroken}
use Rattle.pst_use_rules.proofs.Told.{at, of_one, of_each, unless_is, is_unless, none_if, none_not, both_off, off_both, outside, off_inside, exceeds, exceeding}

-- ---- what a name in a condition tells

unnamed : (o : Option Referent) → may_be_named o ≡ false → (r : Referent) × (o ≡ Some r) × (is_declared is_condition_sort r ≡ false)
unnamed None e = absurd (true≢false e)
unnamed (Some r) e = (r, refl, e)

of_no_resources : (o : Option Declaration) → is_of_resources o ≡ false → (d : Declaration) × (o ≡ Some d) × (is_resource d.sort ≡ false)
of_no_resources None e = absurd (true≢false e)
of_no_resources (Some d) e = (d, refl, e)

module _ (on : BeforeGoesOn) (constants : ConstantsAreFound) (units : List UnitTree) (names : List (List ℕ)) (known : Place → Option ℤ) (here : Environment) (expr : ExprTree) (are : AreItemValues units names known) where
  abbrev ds : List Declaration
  ds = declarations units

  abbrev value : Option ℤ
  value = constant_by ds names known here expr

  abbrev place : Place
  place = expr_place expr

  -- ---- what there may be

  abbrev Inner : Finding → Type 0
  Inner f = (p : Place) × Contains (ins false expr) p × (f ≡ at p 10)

  abbrev Missing : Role → Finding → Type 0
  Missing role f = (is_constant role ≡ true) × (value ≡ None) × (f ≡ at place 11)

  abbrev Outside : Role → Finding → Type 0
  Outside role f = (keeps_limits (limits_of role) value ≡ false) × (f ≡ at place 12)

  abbrev Sized : Role → Finding → Type 0
  Sized role f = (may_have_size ds here role ≡ false) × (f ≡ at place 14)

  abbrev Wrong : Finding → Type 0
  Wrong f = (env : Environment) × (first : PathPart) × (rest : List PathPart) × Contains (expr_uses here expr) (Reads env first rest)
      × (may_be_named (stands_for ds names env first.name.id) ≡ false) × (f ≡ at first.name.place 19)

  abbrev Named : Role → Finding → Type 0
  Named Condition f = Wrong f
  Named _ f = ⊥

  -- ---- the least of each

  inner_least : IsLeastOf Inner (least_at inner_in (ins false expr) None)
  inner_least = of_each on inner_in (ins false expr) Inner (λ p f among is. (p, among, sym (same_some is))) (λ f (p, among, is). (p, among, ap Some (sym is)))

  missing_least : (role : Role) → IsLeastOf (Missing role) (unless (not (is_constant role) || is_some value) place 11)
  missing_least role =
      of_one (Missing role) (not (is_constant role) || is_some value) place 11
      (λ off. let b = both_off (is_constant role) value off in (b.0, b.1, refl))
      (λ f (c, none, is). (off_both (is_constant role) value c none, is))

  outside_least : (role : Role) → IsLeastOf (Outside role) (unless (keeps_limits (limits_of role) value) place 12)
  outside_least role = of_one (Outside role) (keeps_limits (limits_of role) value) place 12 (λ off. (off, refl)) (λ f is. is)

  sized_least : (role : Role) → IsLeastOf (Sized role) (unless (may_have_size ds here role) place 14)
  sized_least role = of_one (Sized role) (may_have_size ds here role) place 14 (λ off. (off, refl)) (λ f is. is)

  read_wrong : (u : Use) (f : Finding) → Contains (expr_uses here expr) u → read_found ds names u ≡ Some f → Wrong f
  read_wrong (Reads env first rest) f among is = let w = unless_is (may_be_named (stands_for ds names env first.name.id)) first.name.place 19 f is in (env, first, rest, among, w.0, w.1)
  read_wrong _ f among is = absurd (some_is_none (sym is))

  wrong_least : IsLeastOf Wrong (least_at (read_found ds names) (expr_uses here expr) None)
  wrong_least = of_each on (read_found ds names) (expr_uses here expr) Wrong read_wrong
      (λ f (env, first, rest, among, off, is). (Reads env first rest, among, is_unless (may_be_named (stands_for ds names env first.name.id)) first.name.place 19 off ∙ ap Some (sym is)))

  named_least : (role : Role) → IsLeastOf (Named role) (condition_found ds names here role expr)
  named_least Condition = wrong_least
  named_least (Width signed) = λ f never. never
  named_least LowestBit = λ f never. never
  named_least RangeEnd = λ f never. never
  named_least EnumValue = λ f never. never
  named_least (PoolSize object) = λ f never. never
  named_least ArraySize = λ f never. never
  named_least Weight = λ f never. never
  named_least (JoinCount branches) = λ f never. never
  named_least Constrains = λ f never. never
  named_least InBody = λ f never. never

  abbrev All : Role → Finding → Type 0
  All role f = (Inner f ⊎ (Missing role f ⊎ Outside role f)) ⊎ (Sized role f ⊎ Named role f)

  all_least : (role : Role) → IsLeastOf (All role) (judged_found ds names here role expr value)
  all_least role =
      least_of_both on (λ f. Inner f ⊎ (Missing role f ⊎ Outside role f)) (λ f. Sized role f ⊎ Named role f) _ _
      (least_of_both on Inner (λ f. Missing role f ⊎ Outside role f) _ _ inner_least (least_of_both on (Missing role) (Outside role) _ _ (missing_least role) (outside_least role)))
      (least_of_both on (Sized role) (Named role) _ _ (sized_least role) (named_least role))

  -- ---- what is found is broken

  abbrev Broken : Role → Finding → Type 0
  Broken role f = IsBroken units names (Judges here role expr) f

  no_constant : value ≡ None → (v : ℤ) → IsConstant units names here expr v → ⊥
  no_constant none v c = none_not value v none ((constants units names known here expr v are).1 c)

  sized_broken : (role : Role) → may_have_size ds here role ≡ false → Broken role (at place 14)
  sized_broken (PoolSize object) off = let t = of_no_resources (type_named ds here.component object) off in SizeOfNoResources here object expr t.0 t.1 t.2
  sized_broken (Width signed) off = absurd (true≢false off)
  sized_broken LowestBit off = absurd (true≢false off)
  sized_broken RangeEnd off = absurd (true≢false off)
  sized_broken EnumValue off = absurd (true≢false off)
  sized_broken ArraySize off = absurd (true≢false off)
  sized_broken Weight off = absurd (true≢false off)
  sized_broken (JoinCount branches) off = absurd (true≢false off)
  sized_broken Condition off = absurd (true≢false off)
  sized_broken Constrains off = absurd (true≢false off)
  sized_broken InBody off = absurd (true≢false off)

  wrong_broken : (f : Finding) → Wrong f → Broken Condition f
  wrong_broken f (env, first, rest, among, off, is) =
      let r = unnamed (stands_for ds names env first.name.id) off in
      subst (Broken Condition) (sym is) (NotInCondition here env expr first rest r.0 among r.1 r.2)

  named_broken : (role : Role) (f : Finding) → Named role f → Broken role f
  named_broken Condition f has = wrong_broken f has
  named_broken (Width signed) f never = absurd never
  named_broken LowestBit f never = absurd never
  named_broken RangeEnd f never = absurd never
  named_broken EnumValue f never = absurd never
  named_broken (PoolSize object) f never = absurd never
  named_broken ArraySize f never = absurd never
  named_broken Weight f never = absurd never
  named_broken (JoinCount branches) f never = absurd never
  named_broken Constrains f never = absurd never
  named_broken InBody f never = absurd never

  outside_broken : (role : Role) → keeps_limits (limits_of role) value ≡ false → Broken role (at place 12)
  outside_broken role off =
      let (s, v, l, w, out) = exceeds (limits_of role) value off in
      ValueOutside here role expr s v l ((constants units names known here expr v are).0 w) (outside s v out)

  all_broken : (role : Role) (f : Finding) → All role f → Broken role f
  all_broken role f (inl (inl (p, among, is))) = subst (Broken role) (sym is) (InnerIn here role expr p among)
  all_broken role f (inl (inr (inl (c, none, is)))) = subst (Broken role) (sym is) (NotConstant here role expr c (no_constant none))
  all_broken role f (inl (inr (inr (off, is)))) = subst (Broken role) (sym is) (outside_broken role off)
  all_broken role f (inr (inl (off, is))) = subst (Broken role) (sym is) (sized_broken role off)
  all_broken role f (inr (inr has)) = named_broken role f has

  -- ---- what is broken is found

  broken_all : (role : Role) (p : Place) (rule : ℕ) → UseBreaks units names (Judges here role expr) p rule → All role (at p rule)
  broken_all role p rule (InnerIn env own whole q among) = inl (inl (p, among, refl))
  broken_all role p rule (NotConstant env own whole c never) = inl (inr (inl (c, none_if value (λ v is. never v ((constants units names known here expr v are).0 is)), refl)))
  broken_all role p rule (ValueOutside env own whole limits v l c out) =
      inl (inr (inr (exceeding (limits_of role) value limits v l ((constants units names known here expr v are).1 c) (off_inside limits v out), refl)))
  broken_all role p rule (SizeOfNoResources env object whole type is never) = inr (inl (ap is_of_resources is ∙ never, refl))
  broken_all role p rule (NotInCondition outer env whole first rest r among is never) = inr (inr (env, first, rest, among, ap may_be_named is ∙ never, refl))

  pub judged : (role : Role) → IsLeastOf (Broken role) (judged_found ds names here role expr value)
  judged role = told on (All role) (Broken role) (judged_found ds names here role expr value) (all_broken role) (λ f has. broken_all role f.place f.rule has) (all_least role)

pub expressions_are_judged : BeforeGoesOn → ConstantsAreFound → ExpressionsAreJudged
expressions_are_judged on constants units names known here role expr are = judged on constants units names known here expr are role
