use Rattle.std.proofs.Common.{refl}
use Rattle.pst_programs.proofs.GroupedRow.{pairs}
use Rattle.pst_programs.proofs.TriedRows.{are, are_not, no_begin, no_pass, last, reaches, ended}
use Rattle.pst_programs.proofs.laws.rows_are_tried.Goals as goal

pub returns : goal.returns
returns c = record { rows = record { are = are; are_not = are_not c.members_are_those.ensures; count = refl; no_begin = no_begin; no_pass = no_pass; end = last; reaches = reaches; ended = ended; trace = refl }; pairs = pairs }
