use Rattle.std.proofs.Common.{◌≡◌, ◌+◌, ◌∙◌, ℕ, List, length, get_or, subst, sym, ap}
use Rattle.std.proofs.lemmas.List.{length-replicate}
use Rattle.pst_scen.specs.Rows.{row_words}
use Rattle.pst_book.specs.Tables.{AreAllAwaited}
use Rattle.pst_book.proofs.Ties.{put_back}
use Rattle.pst_tallies.specs.Tallies.{counts_in, IsTally}
use Rattle.pst_tallies.proofs.Counts.{same_anywhere}
use Rattle.pst_static.proofs.tables.all_awaited.Goals as goal

pub count_awaited-requires-clause-tally : goal.count_awaited-requires-clause-tally
count_awaited-requires-clause-tally c =
    let n = c.len-count.ensures.is in
    ap (λ (xs : List ℕ). length xs) (c.deref_mut.ensures.value ∙ c.in_ok-awaited.ensures) ∙ length-replicate (c.len-count.result + row_words c.len-count.result) 0 ∙ ap (λ (k : ℕ). k + row_words k) n

pub count_awaited-requires-clause-none : goal.count_awaited-requires-clause-none
count_awaited-requires-clause-none c =
    λ m. ap (λ (xs : List ℕ). get_or xs m 0) (c.deref_mut.ensures.value ∙ c.in_ok-awaited.ensures) ∙ same_anywhere (c.len-count.result + row_words c.len-count.result) m 0

pub returns : goal.returns
returns c =
    let p = c.args.plan.now in
    let n = length p.groups in
    let new = c.count_awaited.new.tally in
    let items = c.in_ok-awaited.awaited.items in
    let same : length new ≡ length items = c.count_awaited.auto.tally ∙ ap (λ (xs : List ℕ). length xs) c.deref_mut.ensures.value in
    let many : length items ≡ n + row_words n =
    ap (λ (xs : List ℕ). length xs) c.in_ok-awaited.ensures ∙ length-replicate (c.len-count.result + row_words c.len-count.result) 0 ∙ ap (λ (k : ℕ). k + row_words k) c.len-count.ensures.is in
    let back = put_back c.in_ok-awaited.awaited.len new items same c.in_ok-awaited.awaited.ok.0 in
    record {
      many = subst (λ (xs : List ℕ). IsTally n xs) (sym back) (same ∙ many);
      counted = subst (λ (xs : List ℕ). AreAllAwaited p (counts_in n xs)) (sym back) c.count_awaited.ensures;
    }
