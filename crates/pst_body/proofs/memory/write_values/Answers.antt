use Rattle.std.proofs.Common.{◌∙◌, ap, length, arith, List, Option, ℤ}
use Rattle.std.proofs.lemmas.List.{length-set}
use Rattle.pst_legal.specs.Body.{slot_value}
use Rattle.pst_body.specs.Sites.{place_of}
use Rattle.pst_body.proofs.Values.{written_next}
use Rattle.pst_body.proofs.memory.write_values.Goals as goal

pub loop-i-preserved : goal.loop-i-preserved
loop-i-preserved c =
    let room = c.loop-i.invariant.room in
    record {
      room = ap (λ (l : List (Option ℤ)). length l) c.set.ensures ∙ length-set c.loop-i.values c.loop-i.i c.slot_value.result ∙ room;
      written = written_next (slot_value (place_of c.args.site.now c.args.turns.now) c.args.locals.now) c.args.slots.now c.loop-i.values c.set.new.self c.loop-i.i c.index-slots-i.result c.slot_value.result
          c.loop-i-test.true (omega arith) c.index-slots-i.is c.slot_value.ensures c.set.ensures c.loop-i.invariant.written;
    }
