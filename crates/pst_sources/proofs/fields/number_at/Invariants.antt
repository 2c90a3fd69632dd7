use Rattle.std.proofs.Common.{◌≡◌, drop}
use Rattle.pst_sources.specs.Numbered as kept
use Rattle.pst_sources.proofs.fields.number_at.Given as goal

abbrev pub invariant-loop-field : goal.invariant-loop-field
invariant-loop-field l = kept.number_at (drop l.field-index l.fields) l.place ≡ kept.number_at l.fields l.place
