use Rattle.std.proofs.Common.{arith}
use Rattle.pst_static.proofs.News.{news_here}
use Rattle.pst_static.proofs.awaits.news_at.Goals as goal

pub returns : goal.returns
returns c =
    let later = c.if-place-before.false in
    news_here c.args.dealt.now c.args.latest.now c.args.heard.now c.args.act c.args.lane c.args.other c.place_at-place.result c.action_at.result c.requires.places c.requires.other_in c.if-other-lane.false c.place_at-place.ensures.is
    (omega (arith, later)) c.action_at.ensures
