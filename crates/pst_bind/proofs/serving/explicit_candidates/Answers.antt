use Rattle.pst_bind.specs.Nearest.{explicit_row}
use Rattle.pst_bound_pools.specs.Serving.{with_those_above}
use Rattle.pst_bind.proofs.Made.{nothing_aimed}
use Rattle.pst_bind.proofs.serving.explicit_candidates.Goals as goal

pub returns-then-not-is_aimed : goal.returns-then-not-is_aimed
returns-then-not-is_aimed c =
    nothing_aimed c.args.rows.now c.args.to (with_those_above c.args.table.now c.args.to) (explicit_row c.args.rows.now c.args.to c.args.action c.args.need) (λ from. c.is_aimed.ensures c.if-not-is_aimed.true from)
