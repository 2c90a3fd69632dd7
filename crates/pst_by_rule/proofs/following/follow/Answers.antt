use Rattle.std.proofs.Common.{◌≡◌, ◌≤◌, ◌+◌, ◌/◌, ◌∙◌, ℕ, replicate, take, false, ap, ap₂, arith}
use Rattle.std.proofs.lemmas.List.{take-replicate}
use Rattle.pst_scen.specs.Rows.{row_words}
use Rattle.pst_by_rule.proofs.Going.{followed_none}
use Rattle.pst_by_rule.proofs.following.follow.Goals as goal

-- the first of many entries that are the same
few : {X : Type 0} (count many : ℕ) (x : X) → count ≤ 16384 → count ≡ many → take count (replicate 16384 x) ≡ replicate many x
few count many x l e = take-replicate count 16384 x l ∙ ap (λ n. replicate n x) e

few_counts : (count many : ℕ) → count ≤ 16384 → count ≡ many → take count (replicate 16384 count) ≡ replicate many many
few_counts count many l e = take-replicate count 16384 count l ∙ ap₂ (λ n x. replicate n x) e e

pub returns-then-places-gt-COUNTED : goal.returns-then-places-gt-COUNTED
returns-then-places-gt-COUNTED c = λ s plan. followed_none s c.args.events.now c.requires

pub follow_with-requires-clause-started : goal.follow_with-requires-clause-started
follow_with-requires-clause-started c = few c.len-count.result _ false (let l = c.if-places-gt-COUNTED.false in omega (arith, l)) c.len-count.ensures.is

pub follow_with-requires-clause-ended : goal.follow_with-requires-clause-ended
follow_with-requires-clause-ended c = few c.len-count.result _ false (let l = c.if-places-gt-COUNTED.false in omega (arith, l)) c.len-count.ensures.is

few_tallied : (count many x : ℕ) → count ≤ 16384 → count ≡ many → take (count + (count + 63) / 64) (replicate 16640 x) ≡ replicate (many + row_words many) x
few_tallied count many x l e = take-replicate (count + (count + 63) / 64) 16640 x (omega (arith, l)) ∙ ap (λ n. replicate (n + row_words n) x) e

pub follow_with-requires-clause-awaited : goal.follow_with-requires-clause-awaited
follow_with-requires-clause-awaited c = few_tallied c.len-count.result _ 0 (let l = c.if-places-gt-COUNTED.false in omega (arith, l)) c.len-count.ensures.is

pub follow_with-requires-clause-in_the_way : goal.follow_with-requires-clause-in_the_way
follow_with-requires-clause-in_the_way c = few_tallied c.len-count.result _ 0 (let l = c.if-places-gt-COUNTED.false in omega (arith, l)) c.len-count.ensures.is

pub follow_with-requires-clause-seen : goal.follow_with-requires-clause-seen
follow_with-requires-clause-seen c = few_counts c.len-count.result _ (let l = c.if-places-gt-COUNTED.false in omega (arith, l)) c.len-count.ensures.is
