-- Laws of the grammar of members, enums, functions and pools.
use Rattle.pst_ast.specs.Laws.{AtMostOneTree}
use Rattle.pst_ast.specs.Rule.{TheField, TheReference, TheClaim, TheMembers, TheEnum, TheFunction, ThePool, ThePoolBind}

-- at most one proper tree of each of these rules spells a list of tokens
abbrev pub OneTreeOfMembers : Type 0
OneTreeOfMembers =
    AtMostOneTree TheField
    × AtMostOneTree TheReference
    × AtMostOneTree TheClaim
    × AtMostOneTree TheMembers
    × AtMostOneTree TheEnum
    × AtMostOneTree TheFunction
    × AtMostOneTree ThePool
    × AtMostOneTree ThePoolBind
