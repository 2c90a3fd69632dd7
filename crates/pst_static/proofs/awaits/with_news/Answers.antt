use Rattle.pst_static.proofs.News.{none_more, news_more}
use Rattle.pst_static.proofs.awaits.with_news.Goals as goal

pub returns-in-None : goal.returns-in-None
returns-in-None c = none_more c.args.dealt.now c.args.latest.now c.args.heard.now c.args.act c.args.lane c.args.other c.args.found c.in-None.ensures c.requires.so_far

pub returns-in-Some : goal.returns-in-Some
returns-in-Some c =
    news_more c.args.dealt.now c.args.latest.now c.args.heard.now c.args.act c.args.lane c.args.other c.in-Some.action c.args.found c.least_of.result c.least_of.ensures c.in-Some.ensures c.requires.so_far
