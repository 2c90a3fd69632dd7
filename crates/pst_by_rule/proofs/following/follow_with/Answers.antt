use Rattle.std.proofs.Common.{◌≡◌, ◌+◌, ◌∙◌, ℕ, List, get_or, length, replicate, ap}
use Rattle.std.proofs.lemmas.List.{length-replicate}
use Rattle.pst_scen.specs.Rows.{row_words}
use Rattle.pst_tallies.specs.Tallies.{IsTally}
use Rattle.pst_tallies.proofs.Counts.{same_anywhere}
use Rattle.pst_by_rule.proofs.Noted.{none_counted}
use Rattle.pst_by_rule.proofs.following.follow_with.Goals as goal

many_zeros : (n : ℕ) (tally : List ℕ) → tally ≡ replicate (n + row_words n) 0 → IsTally n tally
many_zeros n tally e = ap (λ (xs : List ℕ). length xs) e ∙ length-replicate (n + row_words n) 0

all_zeros : (n : ℕ) (tally : List ℕ) → tally ≡ replicate n 0 → (m : ℕ) → get_or tally m 0 ≡ 0
all_zeros n tally e m = ap (λ (xs : List ℕ). get_or xs m 0) e ∙ same_anywhere n m 0

pub count_awaited-requires-clause-tally : goal.count_awaited-requires-clause-tally
count_awaited-requires-clause-tally c = many_zeros (length c.args.plan.now.groups) c.args.awaited.now c.requires.awaited

pub count_awaited-requires-clause-none : goal.count_awaited-requires-clause-none
count_awaited-requires-clause-none c = let n = length c.args.plan.now.groups in all_zeros (n + row_words n) c.args.awaited.now c.requires.awaited

pub follow_counted-requires-clause-counted : goal.follow_counted-requires-clause-counted
follow_counted-requires-clause-counted c =
    let n = length c.args.plan.now.groups in
    none_counted c.args.plan.now c.args.started.now c.args.ended.now c.count_awaited.new.tally c.args.in_the_way.now c.fill_next.new.next c.args.holders.now
    c.requires.started c.requires.ended (c.count_awaited.auto.tally ∙ many_zeros n c.args.awaited.now c.requires.awaited) c.count_awaited.ensures
    (many_zeros n c.args.in_the_way.now c.requires.in_the_way) (all_zeros (n + row_words n) c.args.in_the_way.now c.requires.in_the_way) c.fill_next.ensures c.requires.holders
