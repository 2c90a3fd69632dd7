use Rattle.pst_members.proofs.Tabled.{is_right}
use Rattle.pst_ast.specs.declared.scope_declaration.Scope.TheVariants.{Part}
use Rattle.pst_members.specs.Keys.{scope_key}
use Rattle.pst_members.proofs.tables.Tables.of.Goals as goal

pub returns-then-table-declarations : goal.returns-then-table-declarations
returns-then-table-declarations c =
    let table = c.in_ok-table.table in
    is_right c.args.declarations.now c.args.self.now.versions table c.args.action.now (c.requires (scope_key (Part c.args.action.now.name.place)) table c.in_ok-table.ensures.kept) c.in_ok-table.ensures.is_its c.if-table-declarations.true
