use Rattle.std.proofs.Common.{◌≡◌, List, sym, subst, ◌∙◌}
use Rattle.pst_ast.specs.declared.scope_declaration.Declaration.{Declaration}
use Rattle.pst_steady.specs.Numbered.{IsNumber}
use Rattle.pst_steady.proofs.Numbering.{base_numbered}
use Rattle.pst_steady.proofs.number.base_number.Goals as goal

pub returns-in-Some : goal.returns-in-Some
returns-in-Some c =
    base_numbered c.args.index.now c.args.action.now c.in-Some.base c.number_of.result (sym c.base_of.ensures ∙ c.in-Some.is)
    (subst (λ (ds : List Declaration). IsNumber ds c.in-Some.base c.number_of.result) c.as_slice.ensures c.number_of.ensures)
