use Rattle.pst_ast.specs.DeclarationView.{view_item}
use Rattle.pst_parser.proofs.ItemsLoop.{items_begin, items_turn, items_fail, items_end}
use Rattle.pst_parser.proofs.units.items.Goals as goal
use Rattle.std.proofs.Common.{rules, map}
use Rattle.std.proofs.lemmas.List.{map-append}
use Rattle.std.proofs.lemmas.Result.{err_from_is_err_and}

pub items-init : goal.items-init
items-init c = rw c.new-items.ensures.items (items_begin c.args.tokens.now)

pub returns-in_err-item : goal.returns-in_err-item
returns-in_err-item c =
    let p = err_from_is_err_and c.from_residual.result c.from_residual.ensures.1 in
    rw (p.1, p.2) (items_fail c.args.tokens.now (map view_item c.items.items.items) c.items.place c.items.invariant (search rules) c.in_err-item.field-0.0 c.in_err-item.ensures)

pub items-preserved : goal.items-preserved
items-preserved c = rw (c.in_ok-push.ensures.ok, map-append) (items_turn c.args.tokens.now (map view_item c.items.items.items) c.items.place c.items.invariant (search rules) c.in_ok-item.item c.in_ok-item.after c.in_ok-item.ensures)

pub returns : goal.returns
returns c = record {
  settles = items_end c.args.tokens.now (map view_item c.items.items.items) c.items.place c.items.invariant (search rules);
  inside = c.items.invariant.inside;
}
