use Rattle.std.proofs.Common.{◌≡◌, ◌<◌, ◌-◌, ℕ, List, Bor, Some, ap, sym, ◌∙◌, refl, subst, arith}
use Rattle.std.specs.Prelude.{IfOk, slice_get}
use Rattle.std.specs.Option.{option_map, option_and_then}
use Rattle.pst_model.specs.ModelView.{view_model}
use Rattle.pst_slots.specs.Stated.{at_place, part_at}
use Rattle.pst_refusals.specs.Places.{place_by}
use Rattle.pst_refusals.specs.Within.{stated_by}
use Rattle.pst_refusals.specs.Founds.{stated_of}
use Rattle.pst_refusals.proofs.Steps.{got}
use Rattle.pst_refusals.proofs.Within.{within_top, within_turn, within_part, within_repeat}
use Rattle.pst_refusals.proofs.statement.+statements.Goals as goal

pub stated_by-returns-in-Compound : goal.stated_by-returns-in-Compound
stated_by-returns-in-Compound t c =
    let m = view_model c.args.model.now in
    let by = place_by c.args.nodes.now (option_map (λ (t : Bor (List ℕ)). t.now) c.args.places) in
    let some : 0 < c.args.levels = omega arith in
    let at : slice_get c.args.nodes.now c.in-Some.parent ≡ Some c.in-Some-get.node.now = got c.args.nodes.now c.in-Some.parent c.get.result c.in-Some-get.node c.get.ensures.lookup.0 c.get.ensures.lookup.1 c.in-Some-get.is in
    c.at_top.ensures ∙ ap (option_and_then (at_place m c.in-Some.parent c.in-Compound.action)) c.place_of-place.ensures
    ∙ within_top m c.args.nodes.now by c.args.levels c.args.n c.in-Some.parent c.in-Compound.action _ _ c.in-Some-get.node.now some (sym c.parent_of.ensures ∙ c.in-Some.is) at c.in-Compound.is

pub stated_by-returns-in-Turn : goal.stated_by-returns-in-Turn
stated_by-returns-in-Turn t c =
    let m = view_model c.args.model.now in
    let by = place_by c.args.nodes.now (option_map (λ (t : Bor (List ℕ)). t.now) c.args.places) in
    let some : 0 < c.args.levels = omega arith in
    let at : slice_get c.args.nodes.now c.in-Some.parent ≡ Some c.in-Some-get.node.now = got c.args.nodes.now c.in-Some.parent c.get.result c.in-Some-get.node c.get.ensures.lookup.0 c.get.ensures.lookup.1 c.in-Some-get.is in
    subst (λ o. IfOk c.in_turn.result (λ found. option_map stated_of found ≡ o))
    (within_turn m c.args.nodes.now by c.args.levels c.args.n c.in-Some.parent c.in-Turn.index c.in-Some-get.node.now some (sym c.parent_of.ensures ∙ c.in-Some.is) at c.in-Turn.is)
    c.in_turn.ensures

pub stated_by-returns-in-Repeat : goal.stated_by-returns-in-Repeat
stated_by-returns-in-Repeat t c =
    let m = view_model c.args.model.now in
    let by = place_by c.args.nodes.now (option_map (λ (t : Bor (List ℕ)). t.now) c.args.places) in
    let some : 0 < c.args.levels = omega arith in
    let at : slice_get c.args.nodes.now c.in-Some.parent ≡ Some c.in-Some-get.node.now = got c.args.nodes.now c.in-Some.parent c.get.result c.in-Some-get.node c.get.ensures.lookup.0 c.get.ensures.lookup.1 c.in-Some-get.is in
    sym (within_repeat m c.args.nodes.now by c.args.levels c.args.n c.in-Some.parent c.in-Some-get.node.now some (sym c.parent_of.ensures ∙ c.in-Some.is) at c.in-Repeat.is)

pub stated_by-returns-in_default-fill : goal.stated_by-returns-in_default-fill
stated_by-returns-in_default-fill t c =
    let m = view_model c.args.model.now in
    let by = place_by c.args.nodes.now (option_map (λ (t : Bor (List ℕ)). t.now) c.args.places) in
    let some : 0 < c.args.levels = omega arith in
    let at : slice_get c.args.nodes.now c.in-Some.parent ≡ Some c.in-Some-get.node.now = got c.args.nodes.now c.in-Some.parent c.get.result c.in-Some-get.node c.get.ensures.lookup.0 c.get.ensures.lookup.1 c.in-Some-get.is in
    subst (λ o. IfOk c.in_part.result (λ found. option_map stated_of found ≡ o))
    (ap (λ o. option_and_then (λ above. option_and_then (part_at c.in-Some-get.node.now.fill above) o) (stated_by m c.args.nodes.now by (c.args.levels - 1) c.in-Some.parent)) c.place_of-place-in_default-fill.ensures ∙ within_part m c.args.nodes.now by c.args.levels c.args.n c.in-Some.parent c.in-Some-get.node.now c.in-Some-get.node.now.fill some (sym c.parent_of.ensures ∙ c.in-Some.is) at refl
    (λ action instance fields. c.in_default-fill.not-Compound action instance fields) (λ index. c.in_default-fill.not-Turn index))
    c.in_part.ensures
