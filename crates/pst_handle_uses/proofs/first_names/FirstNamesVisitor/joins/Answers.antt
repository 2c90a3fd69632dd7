use Rattle.std.proofs.Common.{sym}
use Rattle.pst_ast.specs.SharedView.{view_names}
use Rattle.pst_ast.specs.Declarations.{names_of}
use Rattle.pst_ast.specs.Uses.{labels_in}
use Rattle.pst_walk_parts.specs.Shown.{view_statements}
use Rattle.pst_handle_uses.proofs.Nothing.{joins_first}
use Rattle.pst_handle_uses.proofs.first_names.FirstNamesVisitor.joins.Goals as goal

pub returns : goal.returns
returns c = sym (joins_first c.args.self.now (labels_in (view_statements c.args._statements.now)) (names_of (view_names c.args._names.now)))
