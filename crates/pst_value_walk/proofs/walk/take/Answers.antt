use Rattle.std.proofs.Common.{◌∙◌, ap, sym}
use Rattle.pst_value_walk.specs.Choices.{cleared_at}
use Rattle.pst_value_walk.proofs.Steps.{got_blank, no_blank}
use Rattle.pst_value_walk.proofs.walk.take.Goals as goal

pub clear-requires-clause-placed : goal.clear-requires-clause-placed
clear-requires-clause-placed c = c.requires.placed c.args.number c.in-Some.at (sym c.place_at.ensures ∙ c.in-Some.is)

pub returns-in-Some-clause-cleared : goal.returns-in-Some-clause-cleared
returns-in-Some-clause-cleared c =
    c.clear.ensures.cleared
    ∙ ap (λ o. cleared_at o c.args.scenario.now) (sym (got_blank c.args.places.now c.args.number c.in-Some.at (sym c.place_at.ensures ∙ c.in-Some.is)))

pub returns-in-None-clause-cleared : goal.returns-in-None-clause-cleared
returns-in-None-clause-cleared c = ap (λ o. cleared_at o c.args.scenario.now) (sym (no_blank c.args.places.now c.args.number (sym c.place_at.ensures ∙ c.in-None.is)))
