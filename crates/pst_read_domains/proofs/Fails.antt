-- A constraint that is refused doesn't hold.
use Rattle.std.proofs.Common.{◌≡◌, ℕ, zero, suc, ℤ, pos, List, [], ◌∷◌, map, length, Contains, true, not, Option, Some, None, refl, sym, ap, ◌∙◌, subst, inl, inr, arith}
use Rattle.std.specs.Prelude.{slice_get}
use Rattle.std.specs.Ordering.{int_eq}
use Rattle.std.proofs.lemmas.Int.{ints}
use Rattle.std.proofs.lemmas.Bool.Decides.{Decides-int_eq}
use Rattle.std.proofs.lemmas.Bool.{and_parts}
use Rattle.std.proofs.lemmas.List.{length-map}
use Rattle.std.proofs.lemmas.List.Elements.{All-contains}
use Rattle.std.proofs.lemmas.Option.{option_and_then_some}
use Rattle.pst_expr.specs.declared.ranges.Span.{Span}
use Rattle.pst_expr.specs.Tree.{Expression, Constant, Variable, Unary, Binary, Element}
use Rattle.pst_expr.specs.Value.{value}
use Rattle.pst_domain.specs.Bounds.{HasVariablesBelow, Holds, AreWithin, IsInside}
use Rattle.pst_domain.specs.Truth.{is_zero}
use Rattle.pst_domain.specs.Interval.{interval, is_refused}
use Rattle.pst_domain.specs.Laws.{SpansHoldValues}
use Rattle.pst_model.specs.declared.model.Pool.{Pool}
use Rattle.pst_model.specs.ConstraintTree.{SlotTree, ConstraintTree}
use Rattle.pst_model.specs.ModelTree.{ModelTree, ActionTree, ObjectTree}
use Rattle.pst_model.specs.SoundSlots.{IsConstraintSlot, IsInlineSlot, IsObjectSlot}
use Rattle.pst_model.specs.SoundConstraint.{IsBelow, IsSoundConstraint}
use Rattle.pst_model.specs.SoundActivity.{IsTraversed}
use Rattle.pst_model.specs.Sound.{IsSoundObject, IsSoundAction, IsSound}
use Rattle.pst_scen.specs.declared.scenario.Scenario.{Scenario}
use Rattle.pst_legal.specs.Types.{pool_object}
use Rattle.pst_legal.specs.Pieces.{is_true}
use Rattle.pst_legal.specs.Standing.{Standing, Known, Lacking, Open, Unread, value_of, bound_of}
use Rattle.pst_legal.specs.Constraints.{HasConstraint, OfCompound, OfAct, OfOutput, OfClaim, OfFirst, Inline, value_at, is_refused_at}
use Rattle.pst_built.proofs.SoundActs.{all_get, some_and}
use Rattle.pst_built.proofs.Members.{In, to_contains}
use Rattle.pst_read_slots.proofs.PassedOn.{sound_in}
use Rattle.pst_built.specs.Known.{Narrower}
use Rattle.pst_read_domains.specs.RefusalsStayLaws.{RefusedDoesNotHold, RefusedAtWiderBounds}

-- ---- the variables of constraints

below_is : (n : ℕ) (e : Expression) → IsBelow n e → HasVariablesBelow n e
below_is n (Constant number) is = tt
below_is n (Variable v) is = is
below_is n (Unary op e) is = below_is n e is
below_is n (Binary op a b) is = (below_is n a is.0, below_is n b is.1)
below_is n (Element first count e) is = ((λ i l. omega (arith, l, is.2)), below_is n e is.3)

sound_below : (IsSlot : SlotTree → Type 0) (k : ConstraintTree) (standing : SlotTree → Standing) → IsSoundConstraint IsSlot k → HasVariablesBelow (length (map (λ slot. bound_of (standing slot)) k.slots)) k.expression
sound_below IsSlot k standing is = subst (λ n. HasVariablesBelow n k.expression) (sym (length-map k.slots (λ slot. bound_of (standing slot)))) (below_is (length k.slots) k.expression is.below)

pub variables_below : (m : ModelTree) (s : Scenario) → IsSound m → (k : ConstraintTree) (standing : SlotTree → Standing) → HasConstraint m s k standing
    → HasVariablesBelow (length (map (λ slot. bound_of (standing slot)) k.slots)) k.expression
variables_below m s sound k standing has = by has
  where
    of_action : (i : ℕ) (type : ActionTree) (k : ConstraintTree) (standing : SlotTree → Standing) → slice_get m.actions i ≡ Some type → Contains type.constraints k → HasVariablesBelow (length (map (λ slot. bound_of (standing slot)) k.slots)) k.expression
    of_action i type k standing is has =
        let whole = all_get (IsSoundAction m) m.actions i type sound.actions is in
        sound_below (IsConstraintSlot m type) k standing (All-contains (IsSoundConstraint (IsConstraintSlot m type)) type.constraints k whole.constraints has)

    of_object : (i : ℕ) (object : ObjectTree) (k : ConstraintTree) (standing : SlotTree → Standing) → slice_get m.objects i ≡ Some object → Contains object.constraints k → HasVariablesBelow (length (map (λ slot. bound_of (standing slot)) k.slots)) k.expression
    of_object i object k standing is has =
        let whole = all_get IsSoundObject m.objects i object sound.objects is in
        sound_below (IsObjectSlot object) k standing (All-contains (IsSoundConstraint (IsObjectSlot object)) object.constraints k whole.constraints has)

    of_pool : (pool : ℕ) (object : ObjectTree) (k : ConstraintTree) (standing : SlotTree → Standing) → pool_object m pool ≡ Some object → Contains object.constraints k → HasVariablesBelow (length (map (λ slot. bound_of (standing slot)) k.slots)) k.expression
    of_pool pool object k standing e has = option_and_then_some (λ (p : Pool). slice_get m.objects p.object) (slice_get m.pools pool) object e (λ p is at. of_object p.object object k standing at has)

    by : {k : ConstraintTree} {standing : SlotTree → Standing} → HasConstraint m s k standing → HasVariablesBelow (length (map (λ slot. bound_of (standing slot)) k.slots)) k.expression
    by (OfCompound n action instance fields node type k is filled typed has) = of_action action type k _ typed has
    by (OfAct a act type k is has) = of_action act.action type k _ is.of_type has
    by (OfOutput a r filled object k is output of has) = of_pool filled.pool object k _ of has
    by (OfClaim a c act type claim object k is at of has) = of_object claim.object object k _ of has
    by (OfFirst a r filled object k is state of has) = of_pool filled.pool object k _ of has
    by (Inline n top action handle inline indices k stands has) =
        let here = sound_in m s.nodes sound top stands in
        let traversed = some_and (slice_get m.actions action) (IsTraversed m here.type here.levels inline) here.each.1 in
        sound_below (IsInlineSlot m here.type traversed.0 here.levels) k _ (All-contains (IsSoundConstraint (IsInlineSlot m here.type traversed.0 here.levels)) inline k traversed.2.constraints has)

-- ---- values

ends_are_zero : (s : Span) → is_zero s ≡ true → (s.low ≡ pos 0) × (s.high ≡ pos 0)
ends_are_zero s test = let parts = and_parts (int_eq s.low (pos 0)) (int_eq s.high (pos 0)) test in ((Decides-int_eq s.low (pos 0)).0 parts.0, (Decides-int_eq s.high (pos 0)).0 parts.1)

standing_holds : (x : Standing) → Holds (bound_of x) (value_of x)
standing_holds (Known v) = (omega (arith, ints), omega (arith, ints))
standing_holds Lacking = tt
standing_holds (Open blank span) = tt
standing_holds (Unread span) = tt

lists_within : (slots : List SlotTree) (standing : SlotTree → Standing) → AreWithin (map (λ slot. bound_of (standing slot)) slots) (map (λ slot. value_of (standing slot)) slots)
lists_within [] standing i below = tt
lists_within (slot ∷ slots) standing zero below = standing_holds (standing slot)
lists_within (slot ∷ slots) standing (suc i) below = lists_within slots standing i (omega (arith, below))

never_true : (span : Option Span) (v : Option ℤ) → is_refused span ≡ true → Holds span v → is_true v ≡ true → ⊥
never_true span None refused holds true_ = absurd cc
never_true None (Some v) refused holds true_ = absurd holds
never_true (Some s) (Some v) refused holds true_ =
    let ends = ends_are_zero s refused in
    let same : v ≡ pos 0 = omega (arith, ints, ends.0, ends.1, holds.0, holds.1) in
    let bad : not true ≡ true = sym (ap not ((Decides-int_eq v (pos 0)).1 same)) ∙ true_ in
    absurd cc

-- a constraint that is refused doesn't hold
refused_fails : SpansHoldValues → (k : ConstraintTree) (standing : SlotTree → Standing) → HasVariablesBelow (length (map (λ slot. bound_of (standing slot)) k.slots)) k.expression
    → is_refused_at k standing ≡ true → is_true (value_at k standing) ≡ true → ⊥
refused_fails hold k standing below refused true_ =
    let bounds = map (λ slot. bound_of (standing slot)) k.slots in
    let values = map (λ slot. value_of (standing slot)) k.slots in
    never_true (interval k.expression bounds) (value k.expression values) refused (hold k.expression bounds below values (lists_within k.slots standing)) true_

pub refused_not : SpansHoldValues → RefusedDoesNotHold
refused_not hold m s sound holds some =
    refused_fails hold some.constraint some.standing (variables_below m s sound some.constraint some.standing some.has) some.refused (holds some.constraint some.standing some.has)

-- ---- wider bounds

inside_holds : (inner outer : Option Span) (v : Option ℤ) → IsInside inner outer → Holds inner v → Holds outer v
inside_holds inner outer None inside holds = tt
inside_holds None outer (Some v) inside holds = absurd holds
inside_holds (Some s) None (Some v) inside holds = absurd inside
inside_holds (Some s) (Some t) (Some v) inside holds = (omega (arith, ints, inside.0, holds.0), omega (arith, ints, inside.1, holds.1))

wider_within : (slots : List SlotTree) (standing wider : SlotTree → Standing) → ((slot : SlotTree) → In slot slots → Narrower (standing slot) (wider slot))
    → AreWithin (map (λ slot. bound_of (wider slot)) slots) (map (λ slot. value_of (standing slot)) slots)
wider_within [] standing wider each i below = tt
wider_within (slot ∷ slots) standing wider each zero below = inside_holds (bound_of (standing slot)) (bound_of (wider slot)) (value_of (standing slot)) (each slot (inl refl)) (standing_holds (standing slot))
wider_within (slot ∷ slots) standing wider each (suc i) below = wider_within slots standing wider (λ other has. each other (inr has)) i (omega (arith, below))

pub wider_not : SpansHoldValues → RefusedAtWiderBounds
wider_not hold m s k standing wider sound holds has inside refused =
    let bounds = map (λ slot. bound_of (wider slot)) k.slots in
    let values = map (λ slot. value_of (standing slot)) k.slots in
    let same = length-map k.slots (λ slot. bound_of (standing slot)) ∙ sym (length-map k.slots (λ slot. bound_of (wider slot))) in
    let below = subst (λ n. HasVariablesBelow n k.expression) same (variables_below m s sound k standing has) in
    never_true (interval k.expression bounds) (value k.expression values) refused
    (hold k.expression bounds below values (wider_within k.slots standing wider (λ slot among. inside slot (to_contains k.slots slot among)))) (holds k standing has)
