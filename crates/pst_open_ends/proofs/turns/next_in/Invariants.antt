use Rattle.std.proofs.Common.{◌≡◌, drop}
use Rattle.std.specs.List.{find}
use Rattle.std.specs.Option.{option_map}
use Rattle.pst_open_ends.specs.Spots.{kept_spot, spots_of}
use Rattle.pst_open_ends.specs.Turns.{turns}
use Rattle.pst_open_ends.proofs.turns.next_in.Given as goal

abbrev pub invariant-loop-filled : goal.invariant-loop-filled
invariant-loop-filled l = (l.reference ≡ l.filled-index) × (option_map kept_spot (find (turns l.ties) (spots_of l.act l.filled-index (drop l.filled-index l.references))) ≡ option_map kept_spot (find (turns l.ties) (spots_of l.act 0 l.references)))
