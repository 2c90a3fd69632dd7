use Rattle.std.proofs.Common.{◌<◌, ℕ, subst, length}
use Rattle.pst_scen.specs.declared.rows.Rows.{Rows}
use Rattle.pst_scen.specs.Rows.{Has}
use Rattle.pst_tallies.specs.Tallies.{count_of, IsMoved}
use Rattle.pst_tallies.proofs.Counts.{raised_by}
use Rattle.pst_tallies.proofs.tallies.raise_in_the_way.Goals as goal

pub returns : goal.returns
returns c =
    let n = length c.args.plan.now.groups in
    let old = c.args.tally.now in
    let new = c.move_row.new.tally in
    let a = c.args.a in
    raised_by n c.args.plan.now.conflict a old new c.requires.room
    (subst (λ (rows : Rows). (m : ℕ) → m < n → IsMoved 1 (Has rows a) m (count_of n old m) (count_of n new m)) c.conflict_rows.ensures.is
    (subst (λ (size : ℕ). (m : ℕ) → m < size → IsMoved 1 (Has c.conflict_rows.result.now a) m (count_of size old m) (count_of size new m)) c.conflict_rows.ensures.size c.move_row.ensures))
