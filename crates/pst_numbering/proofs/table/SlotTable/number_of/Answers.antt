use Rattle.std.proofs.Common.{arith, rules, ◌≡◌, ◌+◌, List, sym, ap, ◌∙◌}
use Rattle.std.specs.Prelude.{Some, None, take}
use Rattle.std.specs.HashMap.{get}
use Rattle.pst_terms.specs.Slots.{slot_number}
use Rattle.pst_numbering.specs.declared.reading.KeptSlot.{KeptSlot}
use Rattle.pst_numbering.specs.Kept.{view_all, view_kept}
use Rattle.pst_numbering.specs.Tabled.{number_from, same_key}
use Rattle.pst_numbering.proofs.Tabling.{gone_through, looked_up, number_within, rest_is}
use Rattle.pst_numbering.proofs.table.SlotTable.number_of.Goals as goal

pub overflow_add-result : goal.overflow_add-result
overflow_add-result c =
    let slot = c.args.slot in
    let slots = c.self.inside.slots.items in
    let mapped = c.self.inside.mapped in
    let missed : number_from 0 (view_all (take mapped slots)) (view_kept slot) ≡ None = sym (c.self.invariant.numbers slot) ∙ search rules in
    let behind = c.number_of.ensures ∙ ap (λ (l : List KeptSlot). slot_number (view_all l) (view_kept slot)) (rest_is slots c.as_slice.result.now mapped c.as_slice.ensures.value) in
    let sum = gone_through slots mapped slot c.self.invariant.within missed in
    let most = number_within slots slot in
    let v = c.self.inside.slots in
    let long = v.ok.0 in
    let held = v.ok.1 in
    let room = v.small in
    omega (arith, behind, sum, most, long, held, room)

pub returns-in-Some : goal.returns-in-Some
returns-in-Some c =
    let slot = c.args.slot in
    let found : get same_key c.self.inside.numbers slot ≡ Some c.in-Some.number.now = sym (search rules) in
    looked_up c.self.inside.slots.items c.self.inside.mapped slot c.in-Some.number.now (sym (c.self.invariant.numbers slot) ∙ found)
    ∙ ap (λ (l : List KeptSlot). slot_number (view_all l) (view_kept slot)) c.self.view_is

pub returns-in-None : goal.returns-in-None
returns-in-None c =
    let slot = c.args.slot in
    let slots = c.self.inside.slots.items in
    let mapped = c.self.inside.mapped in
    let missed : number_from 0 (view_all (take mapped slots)) (view_kept slot) ≡ None = sym (c.self.invariant.numbers slot) ∙ search rules in
    ap (λ n. mapped + n) (c.number_of.ensures ∙ ap (λ (l : List KeptSlot). slot_number (view_all l) (view_kept slot)) (rest_is slots c.as_slice.result.now mapped c.as_slice.ensures.value))
    ∙ gone_through slots mapped slot c.self.invariant.within missed
    ∙ ap (λ (l : List KeptSlot). slot_number (view_all l) (view_kept slot)) c.self.view_is
