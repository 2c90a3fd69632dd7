use Rattle.std.proofs.Common.{◌≡◌, ◌∙◌, ◌<◌, ℕ, length, true, arith, sym, subst}
use Rattle.std.proofs.lemmas.List.{get_or_default}
use Rattle.pst_scen.specs.Rows.{row_words}
use Rattle.pst_addr.specs.declared.ask.Range.{Range}
use Rattle.pst_addr.specs.Columns.{IsAdded}
use Rattle.pst_addr.proofs.Holding.{brought, beyond}
use Rattle.pst_addr.proofs.OneMore.{ranges_in, placed_on, without, none_so_far, all_placed}
use Rattle.pst_addr.proofs.placing.place.Goals as goal

pub loop-k-init : goal.loop-k-init
loop-k-init c = record {
  so_far = none_so_far c.args.plan.now c.args.space c.args.asks.now c.in_ok-places.places.items c.in_ok-ranges.ranges.items c.in_ok-places.ensures c.in_ok-ranges.ensures;
  many = c.in_ok-column.ensures ∙ c.len.ensures.is;
  held = λ l.
      let size : c.len-held.result ≡ length c.args.plan.now.groups = c.len-held.ensures ∙ c.in_ok-column.column.ok.0 ∙ c.in_ok-column.ensures ∙ c.len.ensures.is in
      absurd (beyond (length c.args.plan.now.groups) (subst (λ n. n < row_words (length c.args.plan.now.groups)) size l));
}

pub first_fit-requires-clause-ranges_in : goal.first_fit-requires-clause-ranges_in
first_fit-requires-clause-ranges_in c =
    rw c.deref-in-loop-k.ensures.value (ranges_in c.args.plan.now c.args.asks.now c.loop-k.places.items c.loop-k.ranges.items c.loop-k.invariant.so_far.are c.requires.asks)

pub first_fit-requires-clause-sorted : goal.first_fit-requires-clause-sorted
first_fit-requires-clause-sorted c = rw c.deref-in-loop-k.ensures.value c.loop-k.invariant.so_far.are.sorted

pub returns-in_default : goal.returns-in_default
returns-in_default c = without c.args.plan.now c.args.space c.args.asks.now c.loop-k.places.items c.loop-k.ranges.items c.loop-k.k c.loop-k.invariant.so_far _ c.loop-k-test.true (rw c.deref-in-loop-k.ensures.value at c.in_default.ensures)

pub range_at-requires : goal.range_at-requires
range_at-requires c =
    let inside = c.in-Some.ensures.holds.inside in
    let end = c.requires.space in
    omega (arith, inside, end)

pub keep_range-requires : goal.keep_range-requires
keep_range-requires c = c.loop-k.invariant.so_far.are.sorted

pub loop-k-preserved : goal.loop-k-preserved
loop-k-preserved c =
    let needed = c.index.result.now in
    let inside : c.loop-k.k < length c.in_ok-needed.needed.items = let many = c.in_ok-needed.ensures.many in let l = c.loop-k-test.true in omega (arith, many, l) in
    let on = brought c.args.plan.now c.must_rows.result.now _ c.loop-k.column c.bring.new.column c.must_rows.ensures.is c.must_rows.ensures.size c.loop-k.invariant.many c.bring.ensures in record {
      so_far = placed_on c.args.plan.now c.args.space c.args.asks.now c.loop-k.places.items c.loop-k.ranges.items c.loop-k.k c.loop-k.invariant.so_far _ c.loop-k-test.true c.in-Some.address c.add_place.new.places.items
          needed c.keep_range.new.ranges.items
          (rw c.deref-in-loop-k.ensures.value at c.in-Some.ensures)
          (λ none. c.in_ok-needed.ensures.each c.loop-k.k c.loop-k-test.true (get_or_default c.in_ok-needed.needed.items c.loop-k.k true needed inside ∙ sym c.index.ensures ∙ none))
          (subst (λ (range : Range). IsAdded needed c.loop-k.ranges.items range c.keep_range.new.ranges.items) c.range_at.ensures c.in_ok-keep_range.ensures)
          c.in_ok-add_place.ensures;
      many = on.0;
      held = λ l. on.1;
    }

pub returns : goal.returns
returns c = all_placed c.args.plan.now c.args.space c.args.asks.now c.loop-k.places.items c.loop-k.ranges.items c.loop-k.k c.loop-k.invariant.so_far c.loop-k-test.false
