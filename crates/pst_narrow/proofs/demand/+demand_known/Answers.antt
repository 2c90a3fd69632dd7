use Rattle.std.proofs.Common.{rules, ◌≡◌, ◌-◌, false, Ok, length, take, sym, subst, ap, ◌∙◌}
use Rattle.pst_expr.specs.Tree.{view, Binary, Element}
use Rattle.pst_narrow.specs.declared.logic.Demand.TheVariants.{LeftIn, BothIn}
use Rattle.pst_domain.specs.Bounds.{HasVariablesBelow}
use Rattle.pst_narrow.specs.Narrowing.{IsStep, GivesIn}
use Rattle.pst_narrow.specs.Chains.{HoldLeftParts}
use Rattle.pst_narrow.specs.Parts.{GiveIn}
use Rattle.pst_narrow.specs.Demands.{Follows}
use Rattle.pst_narrow.specs.Elements.{GivesIndex}
use Rattle.pst_narrow.proofs.NarrowLemmas.{step_from, step_then, step_as, step_err, not_is_true}
use Rattle.pst_narrow.proofs.ElementLemmas.{element_step, index_step}
use Rattle.pst_narrow.proofs.SumLemmas.{no_parts, parts_below, parts_narrower}
use Rattle.pst_narrow.proofs.WeightLemmas.{operand_lighter, left_lighter, right_lighter, index_lighter}
use Rattle.pst_narrow.proofs.demand.+demand_known.Goals as goal

pub returns-in-LeftIn-clause-step : goal.returns-in-LeftIn-clause-step
returns-in-LeftIn-clause-step t c =
    let l = c.in-Binary.left.value in
    let r = c.in-Binary.right.value in
    let op = c.in-Binary.op in
    let span = c.in-LeftIn.span in
    let w = c.args.wanted in
    let a = c.args.bounds.now in
    let b = c.demand_known-in-LeftIn.new.bounds in
    let t1 = c.args.trail.now in
    let u = c.demand_known-in-LeftIn.new.trail in
    let q = c.demand_known-in-LeftIn.result in
    let gives : Follows (GivesIn (Binary op (view l) (view r)) w) (view l) (view r) a (LeftIn span) = subst (λ z. Follows (GivesIn (Binary op (view l) (view z)) w) (view l) (view z) a (LeftIn span)) c.deref-in-Binary-2.ensures (subst (λ z. Follows (GivesIn (Binary op (view z) (view c.deref-in-Binary-2.result.now)) w) (view z) (view c.deref-in-Binary-2.result.now) a (LeftIn span)) c.deref-in-Binary.ensures c.in-LeftIn.ensures) in
    let left : IsStep (GivesIn (view l) span) a b t1 u q = subst (λ z. IsStep (GivesIn (view z) span) a b t1 u q) c.deref-in-LeftIn.ensures c.demand_known-in-LeftIn.ensures.step in
    subst (λ z. IsStep (GivesIn (view z) w) a b t1 u q) (sym c.in-Binary.is)
    (step_from (GivesIn (Binary op (view l) (view r)) w) (GivesIn (view l) span) a b t1 u q left (λ values holds within. gives values within holds))

pub returns-else-not-branch-clause-step : goal.returns-else-not-branch-clause-step
returns-else-not-branch-clause-step t c =
    let l = c.in-Binary.left.value in
    let r = c.in-Binary.right.value in
    let op = c.in-Binary.op in
    let parts = c.in-BothIn.parts in
    let w = c.args.wanted in
    let a = c.args.bounds.now in
    let b = c.demand_known-in-BothIn.new.bounds in
    let d = c.demand_known-in-BothIn-2.new.bounds in
    let t1 = c.args.trail.now in
    let u = c.demand_known-in-BothIn.new.trail in
    let v = c.demand_known-in-BothIn-2.new.trail in
    let gives : Follows (GivesIn (Binary op (view l) (view r)) w) (view l) (view r) a (BothIn parts) = subst (λ z. Follows (GivesIn (Binary op (view l) (view z)) w) (view l) (view z) a (BothIn parts)) c.deref-in-Binary-2.ensures (subst (λ z. Follows (GivesIn (Binary op (view z) (view c.deref-in-Binary-2.result.now)) w) (view z) (view c.deref-in-Binary-2.result.now) a (BothIn parts)) c.deref-in-Binary.ensures c.in-BothIn.ensures) in
    let right : IsStep (GivesIn (view r) parts.right) a b t1 u c.demand_known-in-BothIn.result = subst (λ z. IsStep (GivesIn (view z) parts.right) a b t1 u c.demand_known-in-BothIn.result) c.deref-in-BothIn.ensures c.demand_known-in-BothIn.ensures.step in
    let left : IsStep (GivesIn (view l) parts.left) b d u v c.demand_known-in-BothIn-2.result = subst (λ z. IsStep (GivesIn (view z) parts.left) b d u v c.demand_known-in-BothIn-2.result) c.deref-in-BothIn-2.ensures c.demand_known-in-BothIn-2.ensures.step in
    let both = step_then (GiveIn (view l) (view r) parts) (GivesIn (view l) parts.left) a b d t1 u v c.demand_known-in-BothIn.result c.demand_known-in-BothIn-2.result (step_from (GiveIn (view l) (view r) parts) (GivesIn (view r) parts.right) a b t1 u c.demand_known-in-BothIn.result right (λ values holds within. holds.1)) left (λ values holds within. holds.0) in
    subst (λ z. IsStep (GivesIn (view z) w) a d t1 v c.demand_known-in-BothIn-2.result) (sym c.in-Binary.is)
    (step_from (GivesIn (Binary op (view l) (view r)) w) (GiveIn (view l) (view r) parts) a d t1 v c.demand_known-in-BothIn-2.result both (λ values holds within. gives values within holds))

pub returns-else-not-branch-2-clause-step : goal.returns-else-not-branch-2-clause-step
returns-else-not-branch-2-clause-step t c =
    let e = view c.in-Element.index.value in
    let first = c.in-Element.first in
    let count = c.in-Element.count in
    let places = c.in-Some-index_span.places in
    let w = c.args.wanted in
    let a = c.args.bounds.now in
    let b = c.demand_known-in-Element.new.bounds in
    let d = c.meet_element.new.bounds in
    let t1 = c.args.trail.now in
    let u = c.demand_known-in-Element.new.trail in
    let v = c.meet_element.new.trail in
    let gives : GivesIndex first count e w places a = subst (λ z. GivesIndex first count (view z) w places a) c.deref-in-Element.ensures c.in-Some-index_span.ensures in
    let index : IsStep (GivesIn e places) a b t1 u c.demand_known-in-Element.result = subst (λ z. IsStep (GivesIn (view z) places) a b t1 u c.demand_known-in-Element.result) c.deref-in-Element-2.ensures c.demand_known-in-Element.ensures.step in
    subst (λ z. IsStep (GivesIn (view z) w) a d t1 v c.meet_element.result) (sym c.in-Element.is)
    (element_step first count e w places a b d t1 u v c.demand_known-in-Element.result c.meet_element.result gives index c.meet_element.ensures)

pub demand_known-requires-in-BothIn-2 : goal.demand_known-requires-in-BothIn-2
demand_known-requires-in-BothIn-2 t c =
    let l = c.in-Binary.left.value in
    let r = c.in-Binary.right.value in
    let op = c.in-Binary.op in
    let here = c.deref-in-BothIn-2.result.now in
    let known = c.args.known.now in
    let before = take (length known - 1) known in
    let a = c.args.bounds.now in
    let b = c.demand_known-in-BothIn.new.bounds in
    let narrows = c.demand_known-in-BothIn.ensures.step.narrows in
    let variables : HasVariablesBelow (length a) (Binary op (view l) (view r)) = subst (λ z. HasVariablesBelow (length a) (view z)) c.in-Binary.is c.requires.variables in
    let parts : HoldLeftParts (Binary op (view l) (view r)) known a = subst (λ z. HoldLeftParts (view z) known a) c.in-Binary.is c.requires.known in
    let below : HoldLeftParts (view l) before b = parts_narrower (view l) before b a narrows.count narrows.inside (parts_below op (view l) (view r) known a parts) in
    let smaller = left_lighter c.args.expr.now here t c.decreases op c.in-Binary.left c.in-Binary.right c.in-Binary.is c.deref-in-BothIn-2.ensures in (
      smaller,
      (
        narrows.upright,
        (
          subst (λ n. HasVariablesBelow n (view here)) (sym narrows.count) (subst (λ z. HasVariablesBelow (length a) (view z)) (sym c.deref-in-BothIn-2.ensures) variables.0),
          subst (λ s. HoldLeftParts (view here) s b) (sym c.before_last.ensures) (subst (λ z. HoldLeftParts (view z) before b) (sym c.deref-in-BothIn-2.ensures) below),
        ),
      ),
    )

pub returns-in_err-demand_known-in-Element-clause-step : goal.returns-in_err-demand_known-in-Element-clause-step
returns-in_err-demand_known-in-Element-clause-step t c =
    let e = view c.in-Element.index.value in
    let first = c.in-Element.first in
    let count = c.in-Element.count in
    let places = c.in-Some-index_span.places in
    let w = c.args.wanted in
    let a = c.args.bounds.now in
    let b = c.demand_known-in-Element.new.bounds in
    let t1 = c.args.trail.now in
    let u = c.demand_known-in-Element.new.trail in
    let q = c.demand_known-in-Element.result in
    let other = c.from_residual-in_err-demand_known-in-Element.result in
    let gives : GivesIndex first count e w places a = subst (λ z. GivesIndex first count (view z) w places a) c.deref-in-Element.ensures c.in-Some-index_span.ensures in
    let index : IsStep (GivesIn e places) a b t1 u q = subst (λ z. IsStep (GivesIn (view z) places) a b t1 u q) c.deref-in-Element-2.ensures c.demand_known-in-Element.ensures.step in
    subst (λ z. IsStep (GivesIn (view z) w) a b t1 u other) (sym c.in-Element.is)
    (step_err (GivesIn (Element first count e) w) a b t1 u q other (λ e. search rules) (index_step first count e w places a b t1 u q gives index))

pub returns-then-not-branch-2-clause-step : goal.returns-then-not-branch-2-clause-step
returns-then-not-branch-2-clause-step t c =
    let e = view c.in-Element.index.value in
    let first = c.in-Element.first in
    let count = c.in-Element.count in
    let places = c.in-Some-index_span.places in
    let w = c.args.wanted in
    let a = c.args.bounds.now in
    let b = c.demand_known-in-Element.new.bounds in
    let t1 = c.args.trail.now in
    let u = c.demand_known-in-Element.new.trail in
    let q = c.demand_known-in-Element.result in
    let gives : GivesIndex first count e w places a = subst (λ z. GivesIndex first count (view z) w places a) c.deref-in-Element.ensures c.in-Some-index_span.ensures in
    let index : IsStep (GivesIn e places) a b t1 u q = subst (λ z. IsStep (GivesIn (view z) places) a b t1 u q) c.deref-in-Element-2.ensures c.demand_known-in-Element.ensures.step in
    let is : q ≡ Ok false = (let k : c.in_ok-demand_known-in-Element.field-0 ≡ false = first_of (cc (c.if-not-branch-2.true), search (rules, not_is_true, c.if-not-branch-2.true)) in c.in_ok-demand_known-in-Element.was ∙ ap (λ x. Ok x) k) in
    subst (λ z. IsStep (GivesIn (view z) w) a b t1 u (Ok false)) (sym c.in-Element.is)
    (step_as (GivesIn (Element first count e) w) a b t1 u q (Ok false) is (index_step first count e w places a b t1 u q gives index))

pub demand_known-requires : goal.demand_known-requires
demand_known-requires t c =
    let here = c.deref-in-Unary.result.now in
    let a = c.args.bounds.now in
    let variables = subst (λ z. HasVariablesBelow (length a) (view z)) c.in-Unary.is c.requires.variables in (
      operand_lighter c.args.expr.now here t c.decreases c.in-Unary.op c.in-Unary.operand c.in-Unary.is c.deref-in-Unary.ensures,
      (
        c.requires.upright,
        (
          subst (λ z. HasVariablesBelow (length a) (view z)) (sym c.deref-in-Unary.ensures) variables,
          first_of (assumption (no_parts (view here) a), search rules),
        ),
      ),
    )

pub demand_known-requires-in-LeftIn : goal.demand_known-requires-in-LeftIn
demand_known-requires-in-LeftIn t c =
    let here = c.deref-in-LeftIn.result.now in
    let a = c.args.bounds.now in
    let variables = subst (λ z. HasVariablesBelow (length a) (view z)) c.in-Binary.is c.requires.variables in (
      left_lighter c.args.expr.now here t c.decreases c.in-Binary.op c.in-Binary.left c.in-Binary.right c.in-Binary.is c.deref-in-LeftIn.ensures,
      (
        c.requires.upright,
        (
          subst (λ z. HasVariablesBelow (length a) (view z)) (sym c.deref-in-LeftIn.ensures) variables.0,
          first_of (assumption (no_parts (view here) a), search rules),
        ),
      ),
    )

pub demand_known-requires-in-BothIn : goal.demand_known-requires-in-BothIn
demand_known-requires-in-BothIn t c =
    let here = c.deref-in-BothIn.result.now in
    let a = c.args.bounds.now in
    let variables = subst (λ z. HasVariablesBelow (length a) (view z)) c.in-Binary.is c.requires.variables in (
      right_lighter c.args.expr.now here t c.decreases c.in-Binary.op c.in-Binary.left c.in-Binary.right c.in-Binary.is c.deref-in-BothIn.ensures,
      (
        c.requires.upright,
        (
          subst (λ z. HasVariablesBelow (length a) (view z)) (sym c.deref-in-BothIn.ensures) variables.1,
          first_of (assumption (no_parts (view here) a), search rules),
        ),
      ),
    )

pub demand_known-requires-in-Element : goal.demand_known-requires-in-Element
demand_known-requires-in-Element t c =
    let here = c.deref-in-Element-2.result.now in
    let a = c.args.bounds.now in
    let variables = subst (λ z. HasVariablesBelow (length a) (view z)) c.in-Element.is c.requires.variables in (
      index_lighter c.args.expr.now here t c.decreases c.in-Element.first c.in-Element.count c.in-Element.index c.in-Element.is c.deref-in-Element-2.ensures,
      (
        c.requires.upright,
        (
          subst (λ z. HasVariablesBelow (length a) (view z)) (sym c.deref-in-Element-2.ensures) variables.1,
          first_of (assumption (no_parts (view here) a), search rules),
        ),
      ),
    )
