use Rattle.std.proofs.Common.{refl, ◌∙◌}
use Rattle.pst_square.proofs.Circling.{own_chains, led_on}
use Rattle.pst_square.proofs.circle.lead_back.Goals as goal

pub loop-init : goal.loop-init
loop-init c = record { many = refl; sound = own_chains c.args.count c.args.row c.args.words.now }

pub loop-preserved : goal.loop-preserved
loop-preserved c =
    record {
      many = c.lead_through.ensures.many ∙ c.loop.invariant.many;
      sound = led_on c.args.count c.args.row c.requires.row c.args.words.now c.loop.words c.lead_through.new.words c.args.a c.in-Some.m c.requires.a_in c.in-Some.ensures c.loop.invariant.sound c.lead_through.ensures;
    }

pub returns-then-has_bit : goal.returns-then-has_bit
returns-then-has_bit c = λ is. c.loop.invariant.sound c.args.a c.args.a c.requires.a_in c.requires.a_in (c.if-has_bit.ensures.0 refl)

pub returns : goal.returns
returns c = λ is. c.loop.invariant.sound c.args.a c.args.a c.requires.a_in c.requires.a_in (c.has_bit-2.ensures.0 is)
