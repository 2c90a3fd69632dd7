use Rattle.std.proofs.Common.{sym, ◌∙◌}
use Rattle.pst_bind.proofs.laws.pool_maps_are_one.Goals as goal

pub returns : goal.returns
returns c = λ units instances pools others serves more one other. (one.are_pools ∙ sym other.are_pools, one.are_served ∙ sym other.are_served)
