use Rattle.std.proofs.Common.{List, ◌∷◌, [], ◌++◌, true, ap, ◌∙◌, append_assoc}
use Rattle.pst_scen.specs.declared.event.Event.{Event}
use Rattle.pst_scen.specs.declared.event.Event.TheVariants.{Start}
use Rattle.pst_trace_lines.proofs.Pairing.{going_next, going_bad, going_none}
use Rattle.pst_trace_lines.proofs.blocks.read_pairs.Goals as goal

pub returns-in_default-pair : goal.returns-in_default-pair
returns-in_default-pair c =
    going_bad c.args.text.now c.pairs.rest.now c.in-Some.first.now c.in-Some.more.now c.pairs.invariant.own c.pairs.invariant.going c.in-Some.ensures.0 c.in-Some.ensures.1 c.in_default-pair.ensures

pub pairs-preserved : goal.pairs-preserved
pairs-preserved c = record {
  own = c.pairs.invariant.own ++ Start c.in-Some-pair.act c.in-Some-pair.lane true ∷ [];
  are = c.in_ok-push.ensures.items ∙ ap (λ (es : List Event). es ++ Start c.in-Some-pair.act c.in-Some-pair.lane true ∷ []) c.pairs.invariant.are
      ∙ append_assoc c.args.events.now.items c.pairs.invariant.own (Start c.in-Some-pair.act c.in-Some-pair.lane true ∷ []);
  going = going_next c.args.text.now c.pairs.rest.now c.in-Some.first.now c.in-Some.more.now c.pairs.invariant.own c.in-Some-pair.act c.in-Some-pair.lane
      c.pairs.invariant.going c.in-Some.ensures.0 c.in-Some.ensures.1 c.in-Some-pair.ensures;
}

pub returns-in_default-pair-2 : goal.returns-in_default-pair-2
returns-in_default-pair-2 c = going_none c.args.text.now c.pairs.rest.now c.pairs.invariant.own c.pairs.invariant.going c.in_default.ensures c.in_default-pair-2.ensures
