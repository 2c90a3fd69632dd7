use Rattle.std.proofs.Common.{get_or, ◌∙◌, sym}
use Rattle.pst_ties.specs.declared.tied.End.{End}
use Rattle.pst_open_ends.specs.Options.{link_of, links_from}
use Rattle.pst_open_ends.proofs.Alters.{get_same}
use Rattle.pst_open_ends.proofs.Rows.{any_here, any_later}
use Rattle.pst_open_ends.proofs.lookup.some_links.Goals as goal

pub returns-then-links_from : goal.returns-then-links_from
returns-then-links_from c =
    let ends = c.args.ends.now in
    let i = c.loop-end.end-index in
    let d : End = record { act = 0; reference = 0 } in
    let x = get_or ends i d in
    any_here (links_from c.args.acts.now (link_of c.args.to)) ends i x c.loop-end-test.true (get_same ends i d x c.loop-end-test.true) (sym c.links_from.ensures ∙ c.if-links_from.true)
    ∙ c.loop-end.invariant

pub loop-end-preserved : goal.loop-end-preserved
loop-end-preserved c =
    let ends = c.args.ends.now in
    let i = c.loop-end.end-index in
    let d : End = record { act = 0; reference = 0 } in
    let x = get_or ends i d in
    any_later (links_from c.args.acts.now (link_of c.args.to)) ends i x c.loop-end-test.true (get_same ends i d x c.loop-end-test.true) (sym c.links_from.ensures ∙ c.if-links_from.false)
    ∙ c.loop-end.invariant
