use Rattle.std.proofs.Common.{sym, ◌∙◌}
use Rattle.pst_ast.specs.DeclarationView.{view_function}
use Rattle.pst_type_rules.specs.Sites.{function_of}
use Rattle.pst_sites.proofs.Found.{found_none, found_some, lent}
use Rattle.pst_sites.proofs.find.function_in.Goals as goal

pub returns-in-None : goal.returns-in-None
returns-in-None c = found_none (λ f. function_of (view_function f.now)) (λ f. f.name.place) c.args.functions.now c.args.places.now c.args.place c.requires (sym c.number.ensures ∙ c.in-None.is)

pub returns-in-Some : goal.returns-in-Some
returns-in-Some c =
    let item = lent c.args.functions.now c.in-Some.number c.get.result c.get.ensures.lookup.0 c.get.ensures.lookup.1 in
    found_some (λ f. function_of (view_function f.now)) (λ f. f.name.place) c.args.functions.now c.args.places.now c.args.place c.in-Some.number _ c.requires (sym c.number.ensures ∙ c.in-Some.is) (c.copied.ensures ∙ item)
