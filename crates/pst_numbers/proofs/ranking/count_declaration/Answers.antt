use Rattle.std.proofs.Common.{sym, ◌∙◌}
use Rattle.std.specs.HashMap.{get}
use Rattle.pst_numbers.specs.NumberKeys.{same_member_key, same_place_key}
use Rattle.pst_numbers.proofs.Counting.{counts_on}
use Rattle.pst_numbers.proofs.ranking.count_declaration.Goals as goal

pub returns-in_ok-count-in-Some : goal.returns-in_ok-count-in-Some
returns-in_ok-count-in-Some c = λ ps so_far.
    counts_on ps c.args.declaration.now (get same_place_key c.args.counts.now) (get same_place_key c.count.new.counts) (get same_member_key c.args.ranks.now) (get same_member_key c.count.new.ranks)
    c.in-Some.inside (sym c.counts_in.ensures ∙ c.in-Some.is) so_far c.in_ok-count-in-Some.ensures
