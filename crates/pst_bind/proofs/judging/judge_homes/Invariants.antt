use Rattle.std.proofs.Common.{ℕ, drop, map}
use Rattle.std.specs.List.{enumerate_from, filter, flat_map}
use Rattle.pst_ast.specs.declared.instance.Instance.{Instance}
use Rattle.pst_bind.specs.Judging.{choice_for}
use Rattle.pst_bind.specs.ListedNeeds.{needs_at}
use Rattle.pst_bind.specs.Needs.{homes_of, is_home}
use Rattle.pst_bind.specs.Wants.{need_in}
use Rattle.pst_bind.proofs.Judges.{IsOnTheWay}
use Rattle.pst_bind.proofs.judging.judge_homes.Given as goal

abbrev pub invariant-loop-at : goal.invariant-loop-at
invariant-loop-at l =
    IsOnTheWay (choice_for l.binds.index.now l.binds.explicit.now l.binds.defaults.now l.binds.table.now)
    (flat_map (needs_at l.number l.action (map need_in l.wanted)) (map (λ (x : ℕ × Instance). x.0) (filter (λ (x : ℕ × Instance). is_home l.binds.index.now l.action x.1) (enumerate_from l.at (drop l.at l.binds.table.now))))) l.judged
    (flat_map (needs_at l.number l.action (map need_in l.wanted)) (homes_of l.binds.index.now l.binds.table.now l.action)) l.initial.judged
