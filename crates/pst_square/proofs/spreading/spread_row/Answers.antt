use Rattle.pst_square.proofs.Spreads.{row_spread}
use Rattle.pst_square.proofs.spreading.spread_row.Goals as goal

pub returns : goal.returns
returns c =
    row_spread c.args.groups.now c.args.a c.args.square.now c.gather_row.new.square c.share_row.new.square c.requires.a_in c.requires.own
    c.gather_row.ensures.spreading c.gather_row.ensures.gathered c.share_row.ensures.spreading c.share_row.ensures.shared
