use Rattle.std.proofs.Common.{◌≡◌, ◌∙◌, true, false, sym}
use Rattle.pst_addr.specs.Ranges.{Stays}
use Rattle.pst_addr.proofs.Passing.{moved}
use Rattle.pst_addr.proofs.first_fit.past.Goals as goal

pub returns-then-range-address : goal.returns-then-range-address
returns-then-range-address c = Stays (λ meets. c.if-range-address.true)

pub returns-then-not-meet : goal.returns-then-not-meet
returns-then-not-meet c = Stays (λ meets. let both : false ≡ true = sym c.if-not-meet.true ∙ c.meet.ensures.1 meets in absurd cc)

pub returns : goal.returns
returns c = moved c.args.plan.now c.args.ask c.args.address c.args.range c.next_multiple.result (c.meet.ensures.0 c.if-not-meet.false) c.if-range-address.false c.next_multiple.ensures
