use Rattle.std.proofs.Common.{◌∙◌, sym, ap}
use Rattle.pst_ast.specs.declared.scope_declaration.Declaration.{Declaration}
use Rattle.pst_ast.specs.contracts.scope_declaration.DeclarationPartialEq.TheImpl as declaration
use Rattle.pst_ast.specs.contracts.scope_declaration.DeclarationEq.TheImpl.Laws.{laws-law}
use Rattle.pst_loops.proofs.Same.{same_declaration}
use Rattle.pst_loops.proofs.numbers.are_same.Goals as goal

pub returns : goal.returns
returns c = (
  (λ t. same_declaration c.args.one.now c.args.other.now (sym c.eq.ensures ∙ t)),
  (λ e. c.eq.ensures ∙ ap (λ (z : Declaration). declaration.eq-value.it c.args.one.now z) (sym e) ∙ laws-law.refl c.args.one.now),
)
