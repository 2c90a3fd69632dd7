-- The statements of a body as lists.
use Rattle.std.specs.Prelude.{ℕ, drop, List, [], ◌∷◌, ◌++◌, Option}
use Rattle.std.specs.Option.{option_map}
use Rattle.pst_ast.specs.declared.leaf.Name.{Name}
use Rattle.pst_ast.specs.SharedTree.{PlainTree}
use Rattle.pst_ast.specs.BodyTree.{BodyStatementTree, ValueTree}
use Rattle.pst_model.specs.BodyTree.{BodyStepTree, Declare, BodyRow, NoBody, MoreBody, body_of}
use Rattle.pst_ast.specs.declared.scope_declaration.Declaration.{Declaration}
use Rattle.pst_ast.specs.Uses.{with_inner}
use Rattle.pst_terms.specs.Sources.{Sources}
use Rattle.pst_terms.specs.Readings.{Setting}
use Rattle.pst_elab_rules.specs.Spans.{plain_span}
use Rattle.pst_elab_rules.specs.Bodies.{behind, local_of, statement_row, value_source}

-- steps as a row
abbrev pub row_of : List BodyStepTree → BodyRow
row_of [] = NoBody
row_of (x ∷ xs) = MoreBody x (row_of xs)

-- in the scope of a local
abbrev pub with_local : Setting → Name → Setting
with_local setting name = record setting { at = with_inner setting.at name }

-- in a body with these locals
abbrev pub with_locals : Setting → List Declaration → Setting
with_locals setting locals = record setting { locals = locals }

-- without so many of the innermost indices and locals
abbrev pub without_inner : ℕ → Setting → Setting
without_inner n setting = record setting { at = record setting.at { inner = drop n setting.at.inner } }

abbrev pub declaration_of : Sources → Setting → PlainTree → Name → Option ValueTree → BodyStepTree
declaration_of s setting plain name value = Declare (local_of s (with_local setting name) name) (plain_span s plain) (option_map (value_source s setting) value)

-- the steps of statements, each in the scopes of the locals before it
abbrev pub list_steps : Sources → Setting → ℕ → List BodyStatementTree → List BodyStepTree
list_steps s setting level [] = []
list_steps s setting level (head ∷ more) = body_of (statement_row s setting level head) ++ list_steps s (behind setting head) level more
