-- The statements of bodies are sound where their expressions, calls and assignments are.
use Rattle.std.proofs.Common.{◌≡◌, ◌<◌, inl, refl, sym, subst}
use Rattle.std.specs.Prelude.{ℕ, ◌+◌, true, false, List, [], ◌∷◌, ◌++◌, slice_get, All, IfSome, IsSome, Option, Some, None}
use Rattle.std.specs.List.{flat_map}
use Rattle.std.specs.Option.{option_map, IsSomeAnd}
use Rattle.std.proofs.lemmas.List.Elements.{All-nil, All-cons, All-append}
use Rattle.pst_base.specs.declared.position.Place.{Place}
use Rattle.pst_ast.specs.declared.leaf.Name.{Name}
use Rattle.pst_ast.specs.declared.shared.LabelNode.{LabelNode}
use Rattle.pst_ast.specs.ExpressionTree.{ExprTree}
use Rattle.pst_ast.specs.BodyTree.{CallTree, SourceTree, SourceCall, SourceExpr, ValueTree, MakeValue, BodyStatementTree, BodyStatementEmpty, BodyStatementLocal, BodyStatementAssign, BodyStatementCall, BodyStatementBlock, BodyStatementIf, BodyStatementIfElse, BodyStatementRepeat, BodyStatementRow, NoBodyStatementRow, MoreBodyStatementRow}
use Rattle.pst_model.specs.BodyTree.{BodyStepTree, BodyRow, NoBody, MoreBody, body_of}
use Rattle.pst_model.specs.ModelTree.{ActionTree, ModelTree}
use Rattle.pst_model.specs.SoundBody.{EachBodyStep, EachInRow, IsBodyExpression, IsCall, IsSource, IsSoundBodyStep}
use Rattle.pst_ast.specs.declared.scope_declaration.Declaration.{Declaration}
use Rattle.pst_ast.specs.declared.environment.Environment.{Environment}
use Rattle.pst_ast.specs.Declarations.{index_of, in_body_statement, in_body_row}
use Rattle.pst_ast.specs.Uses.{Use, InBody, Assigns, uses, whole_uses, call_uses, source_uses, value_uses, plain_uses, option_uses, with_index, behind_statement, body_statement_uses, body_row_uses, body_list_uses}
use Rattle.pst_terms.specs.Sources.{Sources}
use Rattle.pst_terms.specs.Readings.{Setting, expression_of}
use Rattle.pst_elab_rules.specs.Bodies.{behind, local_of, function_called, arguments_in, source_of, value_source, joined_rows, statement_row, statement_rows, statement_list}
use Rattle.pst_elab_rules.specs.Steps.{turn_setting}
use Rattle.pst_sound_model.proofs.Members.{In, to_left, to_right}
use Rattle.pst_sound_model.proofs.SetTerms.{AreUses, AreDeclared}
use Rattle.pst_sound_model.proofs.TermsOf.{each_left, each_right, each_more}

pub turned_at : (setting : Setting) (level : ℕ) (index : Option LabelNode) → (turn_setting setting level index).at ≡ with_index setting.at index
turned_at setting level None = refl
turned_at setting level (Some label) = refl

module _ (P : ℕ → BodyStepTree → Type 0) where
  pub joined_sound : (level : ℕ) (a b : BodyRow) → EachInRow P level a → EachInRow P level b → EachInRow P level (joined_rows a b)
  joined_sound level NoBody b p q = q
  joined_sound level (MoreBody head tail) b p q = (p.0, joined_sound level tail b p.1 q)

  pub listed_sound : (level : ℕ) (row : BodyRow) → EachInRow P level row → All (EachBodyStep P level) (body_of row)
  listed_sound level NoBody p = All-nil (EachBodyStep P level)
  listed_sound level (MoreBody head tail) p = All-cons (EachBodyStep P level) head (body_of tail) p.0 (listed_sound level tail p.1)

module _ (s : Sources) (model : ModelTree) (action : ActionTree) (locals : ℕ) (type : Place) (declared : List Declaration) (IsRight : ℕ → Setting → Type 0)
    (deeper : (level : ℕ) (setting : Setting) → IsRight level setting → (index : Option LabelNode) → AreDeclared declared (index_of type index) → IsRight (level + 1) (turn_setting setting level index))
    (further : (level : ℕ) (setting : Setting) → IsRight level setting → (scope : Place) (statement : BodyStatementTree) → AreDeclared declared (in_body_statement type scope statement) → IsRight level (behind setting statement))
    (expression : (level : ℕ) (setting : Setting) → IsRight level setting → (expr : ExprTree) → AreUses s.units (whole_uses setting.at InBody expr) → IsBodyExpression model action locals level (expression_of s setting expr))
    (answered : (level : ℕ) (setting : Setting) → IsRight level setting → (call : CallTree) → AreUses s.units (call_uses setting.at true call)
    → IsSomeAnd (slice_get model.functions (function_called s setting call)) (λ f. IsCall model action locals level (arguments_in s setting call) f × IsSome f.answer))
    (passed : (level : ℕ) (setting : Setting) → IsRight level setting → (call : CallTree) → AreUses s.units (call_uses setting.at false call)
    → IsSomeAnd (slice_get model.functions (function_called s setting call)) (IsCall model action locals level (arguments_in s setting call)))
    (assigned : (level : ℕ) (setting : Setting) → IsRight level setting → (name : Name) → In (Assigns setting.at name) (uses s.units) → local_of s setting name < locals) where
  abbrev Used : Use → Type 0
  Used u = In u (uses s.units)

  abbrev P : ℕ → BodyStepTree → Type 0
  P = IsSoundBodyStep model action locals

  source_sound : (level : ℕ) (setting : Setting) → IsRight level setting → (source : SourceTree) → AreUses s.units (source_uses setting.at source) → IsSource model action locals level (source_of s setting source)
  source_sound level setting right (SourceCall call) all = answered level setting right call all
  source_sound level setting right (SourceExpr expr) all = expression level setting right expr all

  value_sound : (level : ℕ) (setting : Setting) → IsRight level setting → (value : Option ValueTree) → AreUses s.units (option_uses (value_uses setting.at) value)
      → IfSome (option_map (value_source s setting) value) (IsSource model action locals level)
  value_sound level setting right None all = tt
  value_sound level setting right (Some (MakeValue equal source)) all = source_sound level setting right source all

  mutual
    statement_sound : (level : ℕ) (setting : Setting) → IsRight level setting → (scope : Place) (statement : BodyStatementTree) → AreUses s.units (body_statement_uses setting.at statement) → AreDeclared declared (in_body_statement type scope statement)
        → EachInRow P level (statement_row s setting level statement)
    statement_sound level setting right scope (BodyStatementEmpty place) all inside = tt
    statement_sound level setting right scope (BodyStatementLocal plain name value semicolon) all inside =
        (value_sound level setting right value (each_right Used (plain_uses setting.at plain) (option_uses (value_uses setting.at) value) all), tt)
    statement_sound level setting right scope (BodyStatementAssign name equal source semicolon) all inside =
        ((assigned level setting right name (all (Assigns setting.at name) (inl refl)), source_sound level setting right source (each_more Used (Assigns setting.at name) (source_uses setting.at source) all)), tt)
    statement_sound level setting right scope (BodyStatementCall call semicolon) all inside = (passed level setting right call all, tt)
    statement_sound level setting right scope (BodyStatementBlock left statements close) all inside = row_sound level setting right left statements all inside
    statement_sound level setting right scope (BodyStatementIf word left condition close then_part) all inside = (
      (
        expression level setting right condition (each_left Used (whole_uses setting.at InBody condition) (body_statement_uses setting.at then_part) all),
        statement_sound level setting right close then_part (each_right Used (whole_uses setting.at InBody condition) (body_statement_uses setting.at then_part) all) inside,
        tt,
      ),
      tt,
    )
    statement_sound level setting right scope (BodyStatementIfElse word left condition close then_part else_place otherwise) all inside =
        let behind_it : AreUses s.units (body_statement_uses setting.at then_part ++ body_statement_uses setting.at otherwise) =
        each_right Used (whole_uses setting.at InBody condition) (body_statement_uses setting.at then_part ++ body_statement_uses setting.at otherwise) all in (
          (
            expression level setting right condition (each_left Used (whole_uses setting.at InBody condition) (body_statement_uses setting.at then_part ++ body_statement_uses setting.at otherwise) all),
            statement_sound level setting right close then_part (each_left Used (body_statement_uses setting.at then_part) (body_statement_uses setting.at otherwise) behind_it)
                (λ d there. inside d (to_left (in_body_statement type close then_part) (in_body_statement type else_place otherwise) d there)),
            statement_sound level setting right else_place otherwise (each_right Used (body_statement_uses setting.at then_part) (body_statement_uses setting.at otherwise) behind_it)
                (λ d there. inside d (to_right (in_body_statement type close then_part) (in_body_statement type else_place otherwise) d there)),
          ),
          tt,
        )
    statement_sound level setting right scope (BodyStatementRepeat word left index count close statement) all inside = (
      (
        expression level setting right count (each_left Used (whole_uses setting.at InBody count) (body_statement_uses (with_index setting.at index) statement) all),
        statement_sound (level + 1) (turn_setting setting level index) (deeper level setting right index (λ d there. inside d (to_left (index_of type index) (in_body_statement type close statement) d there))) close statement
            (subst (λ (at : Environment). AreUses s.units (body_statement_uses at statement)) (sym (turned_at setting level index)) (each_right Used (whole_uses setting.at InBody count) (body_statement_uses (with_index setting.at index) statement) all))
            (λ d there. inside d (to_right (index_of type index) (in_body_statement type close statement) d there)),
      ),
      tt,
    )

    row_sound : (level : ℕ) (setting : Setting) → IsRight level setting → (scope : Place) (row : BodyStatementRow) → AreUses s.units (body_row_uses setting.at row) → AreDeclared declared (in_body_row type scope row)
        → EachInRow P level (statement_rows s setting level row)
    row_sound level setting right scope NoBodyStatementRow all inside = tt
    row_sound level setting right scope (MoreBodyStatementRow head tail) all inside =
        let here : AreDeclared declared (in_body_statement type scope head) = λ d there. inside d (to_left (in_body_statement type scope head) (in_body_row type scope tail) d there) in
        joined_sound P level (statement_row s setting level head) (statement_rows s (behind setting head) level tail)
        (statement_sound level setting right scope head (each_left Used (body_statement_uses setting.at head) (body_row_uses (behind_statement setting.at head) tail) all) here)
        (row_sound level (behind setting head) (further level setting right scope head here) scope tail (each_right Used (body_statement_uses setting.at head) (body_row_uses (behind_statement setting.at head) tail) all)
        (λ d there. inside d (to_right (in_body_statement type scope head) (in_body_row type scope tail) d there)))

  pub list_sound : (setting : Setting) → IsRight 0 setting → (scope : Place) (statements : List BodyStatementTree) → AreUses s.units (body_list_uses setting.at statements) → AreDeclared declared (flat_map (in_body_statement type scope) statements)
      → All (EachBodyStep P 0) (statement_list s setting statements)
  list_sound setting right scope [] all inside = All-nil (EachBodyStep P 0)
  list_sound setting right scope (head ∷ more) all inside =
      let here : AreDeclared declared (in_body_statement type scope head) = λ d there. inside d (to_left (in_body_statement type scope head) (flat_map (in_body_statement type scope) more) d there) in
      All-append (EachBodyStep P 0) (body_of (statement_row s setting 0 head)) (statement_list s (behind setting head) more)
      (listed_sound P 0 (statement_row s setting 0 head)
      (statement_sound 0 setting right scope head (each_left Used (body_statement_uses setting.at head) (body_list_uses (behind_statement setting.at head) more) all) here))
      (list_sound (behind setting head) (further 0 setting right scope head here) scope more (each_right Used (body_statement_uses setting.at head) (body_list_uses (behind_statement setting.at head) more) all)
      (λ d there. inside d (to_right (in_body_statement type scope head) (flat_map (in_body_statement type scope) more) d there)))
