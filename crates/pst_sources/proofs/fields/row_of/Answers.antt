use Rattle.std.proofs.Common.{List, ap, ◌∙◌}
use Rattle.pst_ast.specs.declared.scope_declaration.Declaration.{Declaration}
use Rattle.pst_tree.specs.Bases.{fields_of}
use Rattle.pst_sources.specs.Shown.{sources_of}
use Rattle.pst_sources.proofs.Numbering.{numbers_are}
use Rattle.pst_sources.proofs.fields.row_of.Goals as goal

pub returns : goal.returns
returns c =
    numbers_are (sources_of c.args.known.now) c.args.owner.now c.as_slice.result.now c.in_ok-numbers.numbers.items
    (c.as_slice.ensures.value ∙ c.in_ok-fields.ensures ∙ ap (λ (ds : List Declaration). fields_of ds c.args.owner.now) c.members.ensures) c.in_ok-numbers.ensures
