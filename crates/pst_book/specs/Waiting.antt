-- The plan by which a run waits.
use Rattle.std.specs.Prelude.{◌≡◌, length}
use Rattle.pst_scen.specs.declared.rows.Rows.{Rows}
use Rattle.pst_scen.specs.Plan.{Entries}
use Rattle.pst_reduction.specs.Reduced.{IsReduced}

-- the plan with these pairs in place of those of which one must come before the other
abbrev pub with_must : Entries → Rows → Entries
with_must p kept = record { groups = p.groups; must = kept; conflict = p.conflict }

-- Of the pairs of which one must come before the other those are left out that lead through a third action.
pub record IsWaiting (p q : Entries) : Type 0 where
  pub is : q ≡ with_must p q.must
  pub reduced : IsReduced p.must q.must
  pub size : p.must.size ≡ length p.groups
