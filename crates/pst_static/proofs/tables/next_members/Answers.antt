use Rattle.std.proofs.Common.{◌≡◌, ◌∙◌, ℕ, List, length, get_or, subst, sym, ap, arith}
use Rattle.std.proofs.lemmas.List.{get_or-replicate, length-replicate}
use Rattle.pst_book.specs.Tables.{AreNext}
use Rattle.pst_book.proofs.Ties.{put_back}
use Rattle.pst_static.proofs.tables.next_members.Goals as goal

pub fill_next-requires-clause-many_next : goal.fill_next-requires-clause-many_next
fill_next-requires-clause-many_next c =
    let n = c.len-count.ensures.is in
    ap (λ (xs : List ℕ). length xs) (c.deref_mut.ensures.value ∙ c.in_ok-next.ensures) ∙ length-replicate c.len-count.result c.len-count.result ∙ n

pub fill_next-requires-clause-many_seen : goal.fill_next-requires-clause-many_seen
fill_next-requires-clause-many_seen c =
    let n = c.len-count.ensures.is in
    ap (λ (xs : List ℕ). length xs) (c.deref_mut-2.ensures.value ∙ c.in_ok-seen.ensures) ∙ length-replicate c.len-count.result c.len-count.result ∙ n

pub fill_next-requires-clause-none_seen : goal.fill_next-requires-clause-none_seen
fill_next-requires-clause-none_seen c =
    λ g l. let n = c.len-count.ensures.is in
    ap (λ (xs : List ℕ). get_or xs g 0) (c.deref_mut-2.ensures.value ∙ c.in_ok-seen.ensures) ∙ get_or-replicate c.len-count.result g c.len-count.result 0 (omega (arith, l, n)) ∙ n

pub returns : goal.returns
returns c =
    let n = c.len-count.ensures.is in
    let old : length c.in_ok-next.next.items ≡ length c.args.plan.now.groups = ap (λ (xs : List ℕ). length xs) c.in_ok-next.ensures ∙ length-replicate c.len-count.result c.len-count.result ∙ n in
    subst (λ (xs : List ℕ). AreNext c.args.plan.now.groups xs)
    (sym (put_back c.in_ok-next.next.len c.fill_next.new.next c.in_ok-next.next.items (c.fill_next.ensures.many ∙ sym old) c.in_ok-next.next.ok.0))
    c.fill_next.ensures
