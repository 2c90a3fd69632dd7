use Rattle.std.proofs.Common.{arith, ◌≡◌, ◌+◌, ◌<◌, ◌++◌, ◌∷◌, [], List, length, sym, ap, subst, ◌∙◌}
use Rattle.std.specs.Prelude.{get_or, take}
use Rattle.std.specs.HashMap.{get}
use Rattle.pst_numbering.specs.declared.reading.KeptSlot.{KeptSlot}
use Rattle.pst_numbering.specs.Kept.{view_all, view_kept}
use Rattle.pst_numbering.specs.Tabled.{number_from, same_key}
use Rattle.pst_numbering.proofs.Tabling.{length_mapped, mapped_next, one_more}
use Rattle.pst_numbering.proofs.table.SlotTable.map_next.Goals as goal

pub invariant_of-self-2 : goal.invariant_of-self-2
invariant_of-self-2 c =
    let slots = c.self.inside.slots.items in
    let mapped = c.self.inside.mapped in
    let slot = c.in-Some.slot.now in
    let within : mapped < length slots = subst (λ (l : List KeptSlot). mapped < length l) c.as_slice.ensures.value c.in-Some.ensures.lookup.3.0 in
    let at : get_or slots mapped slot ≡ slot = ap (λ (l : List KeptSlot). get_or l mapped slot) (sym c.as_slice.ensures.value) ∙ sym c.in-Some.ensures.lookup.1 in
    let more : take (mapped + 1) slots ≡ take mapped slots ++ slot ∷ [] = one_more slots mapped slot within ∙ ap (λ (s : KeptSlot). take mapped slots ++ s ∷ []) at in
    record {
      within = omega (arith, within);
      numbers = λ q. mapped_next (λ k. get same_key c.self.inside.numbers k) (λ k. get same_key c.keep.new.numbers k) (take mapped slots) slot mapped (length_mapped slots mapped within) c.self.invariant.numbers c.in_ok-keep.ensures.ok q
          ∙ ap (λ (l : List KeptSlot). number_from 0 (view_all l) (view_kept q)) (sym more);
    }
