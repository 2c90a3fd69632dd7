-- How joined references are kept.
use Rattle.std.specs.Prelude.{◌≡◌}
use Rattle.std.specs.HashMap.{get}
use Rattle.pst_ties.specs.declared.tied.End.{End}
use Rattle.pst_ties.specs.declared.fixed.Ties.TheInside.{Inside}
use Rattle.pst_ties.specs.Tieds.{same_end, output_to, input_from}

-- each reference has the other end of the first bind that names it
pub record IsTies (ties : Inside) : Type 0 where
  pub outputs : (q : End) → get same_end ties.outputs q ≡ output_to ties.found.items q
  pub inputs : (q : End) → get same_end ties.inputs q ≡ input_from ties.found.items q
