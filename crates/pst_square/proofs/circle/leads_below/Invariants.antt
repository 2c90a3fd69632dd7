use Rattle.std.proofs.Common.{◌<◌, ◌-◌, ℕ, get_or}
use Rattle.pst_scen.specs.Rows.{Has}
use Rattle.pst_square.proofs.circle.leads_below.Given as goal

abbrev pub invariant-words : goal.invariant-words
invariant-words l = (b : ℕ) → b < l.at → Has l.rows l.a b → get_or l.ranks b 0 < l.limit

abbrev pub decreases-words : goal.decreases-words
decreases-words l = l.size - l.at
