use Rattle.std.proofs.Common.{map, refl, arith}
use Rattle.std.proofs.lemmas.Option.{slice_get_within}
use Rattle.std.proofs.lemmas.List.{length-map}
use Rattle.pst_model.specs.ModelView.{view_model, view_action}
use Rattle.pst_model.specs.Served.{IsServed}
use Rattle.pst_sound_parts.proofs.Under.{viewed_read, served_next}
use Rattle.pst_sound_parts.proofs.served.are_all_served.Goals as goal

pub returns-then-not-is_served : goal.returns-then-not-is_served
returns-then-not-is_served c =
    let here = viewed_read view_action c.args.actions.now c.loop-number.number c.index-actions-number.result c.loop-number-test.true c.index-actions-number.is in
    (λ t. absurd cc, λ whole. let t = c.is_served.ensures.1 (whole c.loop-number.number (view_action c.index-actions-number.result) here) in let f = c.if-not-is_served.true in absurd cc)

pub loop-number-preserved : goal.loop-number-preserved
loop-number-preserved c =
    let here = viewed_read view_action c.args.actions.now c.loop-number.number c.index-actions-number.result c.loop-number-test.true c.index-actions-number.is in
    served_next (λ n a. IsServed (view_model c.args.model.now) n a) (map view_action c.args.actions.now) c.loop-number.number (view_action c.index-actions-number.result) here (c.is_served.ensures.0 c.if-not-is_served.false) c.loop-number.invariant

pub returns : goal.returns
returns c = (λ t number action is. c.loop-number.invariant number action (let below = slice_get_within (map view_action c.args.actions.now) number action is in let same = length-map c.args.actions.now view_action in let end = c.loop-number-test.false in omega (arith, below, same, end)) is, λ h. refl)
