use Rattle.std.proofs.Common.{sym, ◌∙◌}
use Rattle.std.proofs.lemmas.List.{drop_more}
use Rattle.pst_index.specs.Fitting.{fits_of}
use Rattle.pst_index.proofs.Stops.{stops}
use Rattle.pst_index.proofs.paths.behind.Goals as goal

pub returns-in-Breaks : goal.returns-in-Breaks
returns-in-Breaks c =
    stops c.args.index.now c.args.names.now (fits_of c.args.what) c.loop-next.before.items c.loop-next.head c.loop-next.part _ _ _ c.named_behind-found.result c.in-Breaks.place c.in-Breaks.rule
    (drop_more c.args.rest.now c.loop-next.next-index _ c.loop-next-test.true) c.named_behind-found.ensures (sym c.between.ensures ∙ c.in-Breaks.is)
    ∙ c.loop-next.invariant
