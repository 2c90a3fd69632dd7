use Rattle.std.proofs.Common.{◌≡◌, ◌++◌, List, reverse, sym, ap, ◌∙◌}
use Rattle.std.specs.Prelude.{Some, None}
use Rattle.std.specs.List.{filter_map}
use Rattle.std.specs.Option.{option_map}
use Rattle.pst_ast.specs.declared.scope_declaration.Declaration.{Declaration}
use Rattle.pst_tree.specs.declared.walk.Pending.{Pending}
use Rattle.pst_tree.specs.Members.{place_key}
use Rattle.pst_tree.specs.Walked.{pending_in, pending_of}
use Rattle.pst_tree.proofs.Rowed.{pushed, passed}
use Rattle.pst_tree.proofs.walk.add_row.Goals as goal

pub loop-declared-init : goal.loop-declared-init
loop-declared-init c =
    ap (λ (row : List Declaration). filter_map (pending_of c.args.index.now c.args.parent) row ++ reverse c.args.pending.now.items) (c.at-left.ensures ∙ c.requires (place_key c.args.component.now.name.place))

pub loop-declared-preserved-in_ok-push : goal.loop-declared-preserved-in_ok-push
loop-declared-preserved-in_ok-push c =
    let f = pending_of c.args.index.now c.args.parent in
    let d = c.in-Some.declared.now in
    let total = pending_in c.args.index.now c.args.parent c.args.component.now ++ reverse c.args.pending.now.items in
    let p : Pending = record { name = d.name.id; component = c.in-Some-type_of.component; parent = c.args.parent } in
    let is : f d ≡ Some p = ap (λ o. option_map (λ (x : Declaration). record { name = d.name.id; component = x; parent = c.args.parent }) o) (sym c.type_of.ensures ∙ c.in-Some-type_of.is) in
    ap (λ (ps : List Pending). filter_map f c.in-Some.before.now ++ reverse ps) c.in_ok-push.ensures.items
    ∙ pushed f c.in-Some.before.now d c.loop-declared.pending.items total c.loop-declared.left.now p c.in-Some.ensures.cases.0 is c.loop-declared.invariant

pub loop-declared-preserved : goal.loop-declared-preserved
loop-declared-preserved c =
    let f = pending_of c.args.index.now c.args.parent in
    let d = c.in-Some.declared.now in
    let total = pending_in c.args.index.now c.args.parent c.args.component.now ++ reverse c.args.pending.now.items in
    let is : f d ≡ None = ap (λ o. option_map (λ (x : Declaration). record { name = d.name.id; component = x; parent = c.args.parent }) o) (sym c.type_of.ensures ∙ c.in_default-type_of.is) in
    passed f c.in-Some.before.now d c.loop-declared.pending.items total c.loop-declared.left.now c.in-Some.ensures.cases.0 is c.loop-declared.invariant
