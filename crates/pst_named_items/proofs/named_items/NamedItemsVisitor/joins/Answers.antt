use Rattle.std.proofs.Common.{◌≡◌, OnOk, sym, subst}
use Rattle.pst_ast.specs.SharedView.{view_names}
use Rattle.pst_ast.specs.Uses.{labels_in}
use Rattle.pst_walk_parts.specs.Shown.{view_statements}
use Rattle.pst_named_items.specs.Named.{Named}
use Rattle.pst_named_items.proofs.Others.{joins_are_none}
use Rattle.pst_named_items.proofs.named_items.NamedItemsVisitor.joins.Goals as goal

pub returns : goal.returns
returns c = subst (λ (n : Named). OnOk c.other.result (c.other.new.self ≡ n)) (sym (joins_are_none c.args.self.now (labels_in (view_statements c.args._statements.now)) (view_names c.args._names.now))) c.other.ensures
