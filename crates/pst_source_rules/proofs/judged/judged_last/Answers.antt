use Rattle.std.proofs.Common.{List, subst}
use Rattle.std.specs.Prelude.{map}
use Rattle.pst_ast.specs.DeclarationView.{view_unit}
use Rattle.pst_ast.specs.declared.instance.Instance.{Instance}
use Rattle.pst_elab_rules.specs.Ends.{AtLast}
use Rattle.pst_source_rules.specs.Judged.{IsLast}
use Rattle.pst_source_rules.proofs.judged.judged_last.Goals as goal

pub returns-in-Ok-Err-clause-end : goal.returns-in-Ok-Err-clause-end
returns-in-Ok-Err-clause-end c =
    AtLast c.args.tree.instances c.requires.typed c.requires.tree c.requires.few
    (subst (IsLast (map view_unit c.args.sites.now) c.args.names.now c.args.tree.instances c.args.words.now.component.now c.args.words.now.action.now) c.in-Ok-Err.field-0-is
    (subst (λ (l : List Instance). IsLast (map view_unit c.args.sites.now) c.args.names.now l c.args.words.now.component.now c.args.words.now.action.now c.in-Ok-Err.field-0) c.as_slice.ensures c.in-Ok-Err.ensures))
