use Rattle.std.proofs.Common.{◌≡◌, drop}
use Rattle.std.specs.Prelude.{map}
use Rattle.pst_name_rules.specs.Leasts.{least_at}
use Rattle.pst_use_rules.specs.Found.{end_found}
use Rattle.pst_use_rules.proofs.binds.next_ends_finding.Given as goal

abbrev pub invariant-loop-next : goal.invariant-loop-next
invariant-loop-next l =
    least_at (end_found l.facts.index.now l.facts.names.now l.at l.first) (map (λ n. n.end) (drop l.next-index l.rest)) l.least
    ≡ least_at (end_found l.facts.index.now l.facts.names.now l.at l.first) (map (λ n. n.end) l.rest) l.fn.before
