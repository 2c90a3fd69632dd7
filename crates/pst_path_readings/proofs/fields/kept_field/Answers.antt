use Rattle.std.proofs.Common.{◌≡◌, ℕ, ap, ◌∙◌}
use Rattle.pst_numbering.specs.declared.reading.KeptSlot.{KeptSlot}
use Rattle.pst_numbering.specs.declared.reading.OwnSlot.{OwnSlot}
use Rattle.pst_numbering.specs.Kept.{elements_of, view_kept}
use Rattle.pst_path_readings.specs.declared.wrap.Wrap.{Wrap}
use Rattle.pst_path_readings.proofs.Wrapping.{kept, field_is, elements_are}
use Rattle.pst_path_readings.proofs.fields.kept_field.Goals as goal

abbrev with_own : Wrap → OwnSlot → KeptSlot
with_own w o = record { outer = w.outer; handle = w.handle; own = o }

pub returns-clause-slot : goal.returns-clause-slot
returns-clause-slot c = ap view_kept (c.kept.ensures ∙ ap (with_own c.args.wrap) c.own_slot.ensures) ∙ field_is c.args.wrap c.args.of c.args.field

pub returns-clause-elements : goal.returns-clause-elements
returns-clause-elements c = λ n. ap (λ (k : KeptSlot). elements_of k n) (c.kept.ensures ∙ ap (with_own c.args.wrap) c.own_slot.ensures) ∙ elements_are c.args.wrap c.args.of c.args.field n
