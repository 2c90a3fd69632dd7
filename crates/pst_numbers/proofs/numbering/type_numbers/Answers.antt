use Rattle.std.proofs.Common.{ap, ◌∙◌, arith}
use Rattle.std.specs.HashMap.{get}
use Rattle.pst_numbers.specs.declared.keys.PlaceKey.{PlaceKey}
use Rattle.pst_numbers.specs.NumberKeys.{same_place_key}
use Rattle.pst_numbers.specs.Ranked.{or_new}
use Rattle.pst_numbers.proofs.TypesCounted.{numbered_on}
use Rattle.pst_numbers.proofs.numbering.type_numbers.Goals as goal

pub loop-entry-preserved : goal.loop-entry-preserved
loop-entry-preserved c = record {
  counted = grind (arith, c.in-Some.ensures);
  found = numbered_on c.args.entries.now c.loop-entry.entry-index _ (get same_place_key c.loop-entry.found) (get same_place_key c.keep_number.new.found) c.loop-entry.number
      c.loop-entry-test.true c.loop-entry.invariant.counted c.loop-entry.invariant.found
      (λ q. c.in_ok-keep_number.ensures q ∙ ap (λ (k : PlaceKey). or_new (get same_place_key c.loop-entry.found q) (same_place_key q k) c.loop-entry.number) c.place_key.ensures);
}
