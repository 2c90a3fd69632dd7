use Rattle.std.proofs.Common.{ap}
use Rattle.pst_blanks.specs.Blanks.{read_blank, blank_of}
use Rattle.pst_blanks.proofs.Puts.{first_cleared}
use Rattle.pst_blanks.proofs.filling.take.Goals as goal

pub returns-in-OfFirst : goal.returns-in-OfFirst
returns-in-OfFirst c =
    let place = c.args.place.now in
    first_cleared c.args.scenario.now (blank_of place) place.at c.in-OfFirst.pool c.in-OfFirst.field c.clear_first.new.firsts (ap read_blank c.in-OfFirst.is) c.requires.placed.1 c.requires.rising c.clear_first.ensures
