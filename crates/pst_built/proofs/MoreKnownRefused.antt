-- A constraint that is refused stays refused as reading goes on.
use Rattle.std.proofs.Common.{◌≡◌, ◌⊎◌, ℕ, zero, suc, ℤ, pos, List, [], ◌∷◌, map, Contains, true, Option, Some, None, IfSome, refl, sym, ap, ◌∙◌, subst, inl, inr, arith}
use Rattle.std.specs.Prelude.{slice_get}
use Rattle.std.specs.Ordering.{int_eq}
use Rattle.std.proofs.lemmas.Int.{ints}
use Rattle.std.proofs.lemmas.Bool.Decides.{Decides-int_eq}
use Rattle.std.proofs.lemmas.Bool.{and_parts, and_from}
use Rattle.pst_expr.specs.declared.ranges.Span.{Span}
use Rattle.pst_domain.specs.Bounds.{IsInside, AreInside}
use Rattle.pst_domain.specs.Truth.{is_zero}
use Rattle.pst_domain.specs.Interval.{interval, is_refused}
use Rattle.pst_domain.specs.Laws.{IsSane, SpansAreSane, NarrowerBoundsGiveInnerSpans}
use Rattle.pst_model.specs.ConstraintTree.{SlotTree, ConstraintTree}
use Rattle.pst_model.specs.ActivityTree.{Traverse}
use Rattle.pst_model.specs.ModelTree.{ModelTree, ActionTree}
use Rattle.pst_scen.specs.declared.tree.Node.{Node}
use Rattle.pst_scen.specs.declared.tree.Fill.TheVariants as fill
use Rattle.pst_scen.specs.declared.scenario.Scenario.{Scenario}
use Rattle.pst_legal.specs.Types.{type_of, pool_object, is_state_pool, is_output}
use Rattle.pst_legal.specs.Standing.{Standing, bound_of}
use Rattle.pst_legal.specs.Slots.{node_slot, act_slot, inline_slot, output_slot, resource_slot, first_object_slot}
use Rattle.pst_legal.specs.Constraints.{HasConstraint, OfCompound, OfAct, OfOutput, OfClaim, OfFirst, Inline, is_refused_at}
use Rattle.pst_built.specs.Known.{LeavesHaveActions}
use Rattle.pst_built.specs.MoreKnownLaws.{RefusalsGoOn}
use Rattle.pst_built.proofs.Onward.{MoreValues, Onward}
use Rattle.pst_built.proofs.Inside.{Narrower, InDomains, source_more, output_inside, act_inside, resource_inside, first_object_inside}
use Rattle.pst_built.proofs.Children.{stands_more, stands_there}
use Rattle.pst_built.proofs.MoreKnownNodes.{HandlesFit, node_inside, inline_inside}
use Rattle.pst_built.proofs.Unread.{handles_fit}
use Rattle.pst_built.proofs.Sound.{pools_are_small}

-- the same constraint, of which more is known
pub record StillHas (m : ModelTree) (t : Scenario) (k : ConstraintTree) (standing : SlotTree → Standing) : Type 0 where
  pub now : SlotTree → Standing
  pub has : HasConstraint m t k now
  pub narrower : (slot : SlotTree) → Narrower (now slot) (standing slot)

module _ (m : ModelTree) (s t : Scenario) (on : Onward s t) (old : LeavesHaveActions s) (sane : InDomains m t) (handles : HandlesFit m t) where
  compound_has : (n action instance : ℕ) (fields : List ℤ) (node : Node) (type : ActionTree) (k : ConstraintTree) → slice_get s.nodes n ≡ Some node → node.fill ≡ fill.Compound action instance fields
      → type_of m action ≡ Some type → Contains type.constraints k → StillHas m t k (node_slot m s n)
  compound_has n action instance fields node type k is filled typed has =
      let y = on.nodes n node is in
      record { now = node_slot m t n; has = by_fill y.0 y.1 y.2.fill; narrower = λ slot. node_inside m s t on old sane handles slot n (node, is) }
    where
      by_fill : (y : Node) → slice_get t.nodes n ≡ Some y → (y.fill ≡ node.fill) ⊎ MoreValues node.fill y.fill → HasConstraint m t k (node_slot m t n)
      by_fill y got (inl e) = OfCompound n action instance fields y type k got (e ∙ filled) typed has
      by_fill y got (inr o) =
          let both : fill.Compound o.action o.instance o.old ≡ fill.Compound action instance fields = sym o.was ∙ filled in
          let same : o.action ≡ action = cc in
          OfCompound n action o.instance o.new y type k got (o.is ∙ ap (λ x. fill.Compound x o.instance o.new) same) typed has

  pub still_has : (k : ConstraintTree) (standing : SlotTree → Standing) → HasConstraint m s k standing → StillHas m t k standing
  still_has _ _ (OfCompound n action instance fields node type k is filled typed has) = compound_has n action instance fields node type k is filled typed has
  still_has _ _ (OfAct a act type k is has) =
      let y = on.acts a act is.is in
      record {
        now = act_slot m t a y.0;
        has = OfAct a y.0 type k (record { is = y.1; of_type = ap (type_of m) y.2.action ∙ is.of_type }) has;
        narrower = λ slot. act_inside m s t on sane a act y.0 y.1 y.2 slot;
      }
  still_has _ _ (OfOutput a r filled object k is output of_pool has) =
      let g = source_more m s t on sane a r filled is in
      record {
        now = output_slot m t a r g.0;
        has = OfOutput a r g.0 object k g.1 (ap is_output g.2.flow ∙ output) (ap (pool_object m) g.2.pool ∙ of_pool) has;
        narrower = λ slot. output_inside m s t on sane a r filled g.0 g.1 g.2 slot;
      }
  still_has _ _ (OfClaim a c act type claim object k is claimed of_object has) =
      let y = on.acts a act is.is in
      record {
        now = resource_slot m a y.0 c;
        has = OfClaim a c y.0 type claim object k (record { is = y.1; of_type = ap (type_of m) y.2.action ∙ is.of_type }) claimed of_object has;
        narrower = λ slot. resource_inside m s t on sane a act y.0 y.1 y.2 c slot;
      }
  still_has _ _ (OfFirst a r filled object k is state of_pool has) =
      let g = source_more m s t on sane a r filled is in
      record {
        now = first_object_slot m t g.0.pool;
        has = OfFirst a r g.0 object k g.1 (ap (is_state_pool m) g.2.pool ∙ state) (ap (pool_object m) g.2.pool ∙ of_pool) has;
        narrower = λ slot. subst (λ p. Narrower (first_object_slot m t p slot) (first_object_slot m s filled.pool slot)) (sym g.2.pool) (first_object_inside m s t on sane filled.pool slot);
      }
  still_has _ _ (Inline n top action handle inline indices k stands has) =
      let there = stands_there m s.nodes top n (Traverse action handle inline) indices stands in
      record {
        now = inline_slot m t n top indices;
        has = Inline n top action handle inline indices k (stands_more s t on m top n (Traverse action handle inline) indices stands) has;
        narrower = λ slot. inline_inside m s t on old sane handles n top indices there.0 there.1 slot;
      }

-- ---- spans

lists_inside : (slots : List SlotTree) (now before : SlotTree → Standing) → ((slot : SlotTree) → Narrower (now slot) (before slot))
    → AreInside (map (λ slot. bound_of (now slot)) slots) (map (λ slot. bound_of (before slot)) slots)
lists_inside [] now before narrower i = tt
lists_inside (slot ∷ slots) now before narrower zero = narrower slot
lists_inside (slot ∷ slots) now before narrower (suc i) = lists_inside slots now before narrower i

ends_are_zero : (s : Span) → is_zero s ≡ true → (s.low ≡ pos 0) × (s.high ≡ pos 0)
ends_are_zero s test = let parts = and_parts (int_eq s.low (pos 0)) (int_eq s.high (pos 0)) test in ((Decides-int_eq s.low (pos 0)).0 parts.0, (Decides-int_eq s.high (pos 0)).0 parts.1)

inner_zero : (s t : Span) → IsSane s → IsInside (Some s) (Some t) → is_zero t ≡ true → is_zero s ≡ true
inner_zero s t sane inside zero_ =
    let ends = ends_are_zero t zero_ in
    let up = sane.upright in
    let low : s.low ≡ pos 0 = omega (arith, ints, ends.0, ends.1, inside.0, inside.1, up) in
    let high : s.high ≡ pos 0 = omega (arith, ints, ends.0, ends.1, inside.0, inside.1, up) in
    and_from (int_eq s.low (pos 0)) (int_eq s.high (pos 0)) ((Decides-int_eq s.low (pos 0)).1 low) ((Decides-int_eq s.high (pos 0)).1 high)

zero_inside : (inner outer : Option Span) → IfSome inner IsSane → IsInside inner outer → is_refused outer ≡ true → is_refused inner ≡ true
zero_inside None outer sane inside refused = refl
zero_inside (Some s) None sane inside refused = absurd inside
zero_inside (Some s) (Some t) sane inside refused = inner_zero s t sane inside refused

module _ (narrow : NarrowerBoundsGiveInnerSpans) (upright : SpansAreSane) where
  refused_inside : (k : ConstraintTree) (now before : SlotTree → Standing) → ((slot : SlotTree) → Narrower (now slot) (before slot)) → is_refused_at k before ≡ true → is_refused_at k now ≡ true
  refused_inside k now before narrower refused =
      let inner = map (λ slot. bound_of (now slot)) k.slots in
      let outer = map (λ slot. bound_of (before slot)) k.slots in
      zero_inside (interval k.expression inner) (interval k.expression outer) (upright k.expression inner) (narrow k.expression inner outer (lists_inside k.slots now before narrower)) refused

  pub still_refused : RefusalsGoOn
  still_refused m s t sound on old sane typed some =
      let handles = handles_fit m t sane typed (pools_are_small m sound) in
      let still = still_has m s t on old sane handles some.constraint some.standing some.has in
      record { constraint = some.constraint; standing = still.now; has = still.has; refused = refused_inside some.constraint still.now some.standing still.narrower some.refused }
