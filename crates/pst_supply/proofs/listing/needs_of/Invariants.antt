use Rattle.std.proofs.Common.{◌≡◌, ◌++◌, drop, map}
use Rattle.std.specs.Prelude.{flat_map}
use Rattle.std.specs.List.{enumerate_from}
use Rattle.pst_legal.specs.Supplied.{linkings_in}
use Rattle.pst_supply.specs.Needs.{need_of}
use Rattle.pst_supply.proofs.listing.needs_of.Given as goal

abbrev pub invariant-loop-act : goal.invariant-loop-act
invariant-loop-act l = (l.number ≡ l.act-index) × (l.found.items ++ map need_of (flat_map linkings_in (enumerate_from l.act-index (drop l.act-index l.acts))) ≡ map need_of (flat_map linkings_in (enumerate_from 0 l.acts)))
