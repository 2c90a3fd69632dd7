use Rattle.std.proofs.Common.{◌≡◌, List, map, sym, ap, ◌∙◌}
use Rattle.pst_ast.specs.ActivityView.{view_statement}
use Rattle.pst_traversals.specs.declared.listing.Traversed.{Traversed}
use Rattle.pst_traversals.specs.Listed.{withins}
use Rattle.pst_traversals.specs.Tallied.{tally}
use Rattle.pst_traversals.proofs.Alone.{once_some, once_none}
use Rattle.pst_traversals.proofs.once.is_steady.Goals as goal

pub returns-in-Some : goal.returns-in-Some
returns-in-Some c =
    once_some c.args.handle (map view_statement c.args.statements.now) c.in_ok-traversals.traversals.items c.in_ok-traversals.ensures c.in-Some.once
    (sym c.in-Some.is ∙ (c.tally_in.ensures ∙ ap (λ (ts : List Traversed). tally (withins c.args.handle ts)) c.as_slice.ensures.value))

pub returns : goal.returns
returns c =
    once_none c.args.handle (map view_statement c.args.statements.now) c.in_ok-traversals.traversals.items c.in_ok-traversals.ensures
    (sym c.in-None.is ∙ (c.tally_in.ensures ∙ ap (λ (ts : List Traversed). tally (withins c.args.handle ts)) c.as_slice.ensures.value))
