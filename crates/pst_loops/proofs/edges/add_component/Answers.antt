use Rattle.std.proofs.Common.{rules, ◌≡◌, subst, get_or, List, Some, OnOk}
use Rattle.std.proofs.lemmas.Result.{on_ok_weaker}
use Rattle.std.proofs.lemmas.Option.{slice_get-get_or}
use Rattle.pst_ast.specs.declared.scope_declaration.Declaration.{Declaration}
use Rattle.pst_ast.specs.Lookups.{type_of}
use Rattle.pst_loops.specs.Edges.{IsAdded, IsEdgeFrom, scope_of_instance}
use Rattle.pst_loops.specs.Numbers.{IsNumber}
use Rattle.pst_loops.proofs.Adding.{adds_component}
use Rattle.pst_loops.proofs.OneMore.{blank}
use Rattle.pst_loops.proofs.edges.add_component.Goals as goal

pub returns-in_ok-number-in-Some-type_of : goal.returns-in_ok-number-in-Some-type_of
returns-in_ok-number-in-Some-type_of c =
    let ds = c.args.index.now in
    let d = get_or ds c.args.at blank in
    let e = c.in-Some-type_of.component in
    let n = c.in_ok-number-in-Some-type_of.number in
    let old = c.args.rows.now in
    let new = c.add_from.new.rows in
    let there = slice_get-get_or ds c.args.at blank c.requires.within in
    let scope : scope_of_instance d ≡ Some c.in-Some.place = search rules in
    let type : type_of ds d ≡ Some e = search rules in
    let number = subst (λ (x : List Declaration). IsNumber x e n) c.as_slice-declarations.ensures c.in_ok-number-in-Some-type_of.ensures in
    on_ok_weaker c.add_from.result
    (adds_component ds c.args.at d e c.in-Some.place n old new there scope type number)
    (subst (λ (x : List Declaration). OnOk c.add_from.result (IsAdded (IsEdgeFrom x c.in-Some.place n) old new)) c.as_slice-declarations.ensures c.add_from.ensures)
