use Rattle.std.proofs.Common.{rules, ◌≡◌, subst, get_or, List, Some}
use Rattle.std.proofs.lemmas.Result.{on_ok_weaker}
use Rattle.std.proofs.lemmas.Option.{slice_get-get_or}
use Rattle.pst_ast.specs.declared.scope_declaration.Declaration.{Declaration}
use Rattle.pst_ast.specs.Lookups.{base_of}
use Rattle.pst_loops.specs.Numbers.{IsNumber}
use Rattle.pst_loops.proofs.Adding.{adds_base}
use Rattle.pst_loops.proofs.OneMore.{blank}
use Rattle.pst_loops.proofs.edges.add_base.Goals as goal

pub returns-in_ok-number-in-Some : goal.returns-in_ok-number-in-Some
returns-in_ok-number-in-Some c =
    let ds = c.args.index.now in
    let there = slice_get-get_or ds c.args.at blank c.requires.within in
    let base : base_of ds (get_or ds c.args.at blank) ≡ Some c.in-Some.base = search rules in
    let number = subst (λ (x : List Declaration). IsNumber x c.in-Some.base c.in_ok-number-in-Some.number) c.as_slice-declarations.ensures c.in_ok-number-in-Some.ensures in
    on_ok_weaker c.add_edge.result
    (adds_base ds c.args.at (get_or ds c.args.at blank) c.in-Some.base c.in_ok-number-in-Some.number c.args.rows.now c.add_edge.new.rows there base number)
    c.add_edge.ensures
