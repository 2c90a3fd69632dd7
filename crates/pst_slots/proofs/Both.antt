-- The laws of slots.
use Rattle.pst_legal.specs.Standing.{Standing, Known, Lacking, Open, Unread}
use Rattle.pst_slots.specs.Decided.{IsDecided, IsPlaced}
use Rattle.pst_slots.specs.Laws.{SlotsAreDecided, SlotsArePlaced}
use Rattle.pst_slots.proofs.Owned.{of_act, of_resource, of_output, of_first}
use Rattle.pst_slots.proofs.Placed.{act_placed, resource_placed, output_placed, first_placed}
use Rattle.pst_slots.proofs.Whole.{each_slot}

decided_is_placed : (x : Standing) → IsDecided x → IsPlaced x
decided_is_placed (Known v) is = tt
decided_is_placed Lacking is = tt
decided_is_placed (Open blank span) is = tt
decided_is_placed (Unread span) is = is

pub slots_decided : SlotsAreDecided
slots_decided m root s sound scenario fits supplied k standing has slot among =
    each_slot m root s sound fits.tree IsDecided (λ x is. is) (of_act m s sound scenario fits.values supplied) (of_output m s sound scenario fits.values supplied)
    (of_resource m s sound scenario fits.values supplied) (of_first m s sound scenario fits.values supplied) has slot among

pub slots_placed : SlotsArePlaced
slots_placed m root s sound through k standing has slot among =
    each_slot m root s sound through.tree IsPlaced decided_is_placed (act_placed m root s through)
    (λ a r filled object e output of slot means. output_placed m root s through a r filled object e of slot means)
    (λ a act there c slot. resource_placed m root s through a act c slot)
    (λ a r filled object e state of slot. first_placed m root s through filled.pool slot) has slot among
