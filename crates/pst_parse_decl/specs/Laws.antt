-- Laws of the grammar of declarations.
use Rattle.pst_ast.specs.Laws.{AtMostOneTree}
use Rattle.pst_ast.specs.Rule.{TheObject}
use Rattle.pst_parse_member.specs.Laws.{OneTreeOfMembers}

-- at most one proper tree of each of these rules spells a list of tokens
abbrev pub OneTreeOfDeclarations : Type 0
OneTreeOfDeclarations = OneTreeOfMembers × AtMostOneTree TheObject
