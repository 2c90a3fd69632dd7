use Rattle.std.proofs.Common.{refl}
use Rattle.pst_graph.proofs.Grouped.{streams_back}
use Rattle.pst_graph.proofs.groups.apart_of.Goals as goal

pub returns-then-is_lower-2 : goal.returns-then-is_lower-2
returns-then-is_lower-2 c =
    record {
      a_in = c.requires.b_in;
      b_in = c.requires.a_in;
      link = streams_back c.args.scenario.now c.args.a c.args.b c.requires.link;
      less = c.if-is_lower-2.ensures.0 refl;
    }
