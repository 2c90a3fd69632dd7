-- The locals of bodies by their numbers.
use Rattle.std.proofs.Common.{◌≡◌, inl, refl, sym, ap, ◌∙◌, append_assoc}
use Rattle.std.specs.Prelude.{ℕ, ◌+◌, Bool, true, List, [], ◌∷◌, ◌++◌, map, Option, Some, None, cond}
use Rattle.std.specs.List.{filter, find, flat_map}
use Rattle.std.specs.Option.{option_or, option_and_then}
use Rattle.std.proofs.lemmas.Bool.{eq-eqb}
use Rattle.std.proofs.lemmas.Grind.{flat_map-append}
use Rattle.std.proofs.lemmas.List.{map-append, append-nil}
use Rattle.std.proofs.lemmas.List.Elements.{filter-append}
use Rattle.pst_base.specs.declared.position.Place.{Place}
use Rattle.pst_ast.specs.declared.leaf.Name.{Name}
use Rattle.pst_ast.specs.declared.shared.LabelNode.{LabelNode}
use Rattle.pst_ast.specs.SharedTree.{PlainTree}
use Rattle.pst_ast.specs.BodyTree.{BodyStatementTree, BodyStatementEmpty, BodyStatementLocal, BodyStatementAssign, BodyStatementCall, BodyStatementBlock, BodyStatementIf, BodyStatementIfElse, BodyStatementRepeat, BodyStatementRow, NoBodyStatementRow, MoreBodyStatementRow}
use Rattle.pst_model.specs.BodyTree.{BodyRow, NoBody, MoreBody, body_of}
use Rattle.pst_model.specs.SoundBody.{locals_in, locals_in_row, locals_of}
use Rattle.pst_ast.specs.declared.scope_declaration.Declaration.{Declaration}
use Rattle.pst_ast.specs.declared.environment.Environment.{Environment}
use Rattle.pst_ast.specs.declared.referent.Referent.TheVariants.{Declared}
use Rattle.pst_ast.specs.Declarations.{local, index_of, in_body_statement, in_body_row}
use Rattle.pst_ast.specs.Sorts.{same_name, same_place}
use Rattle.pst_ast.specs.Lookups.{declared_at, referent, owned, item_here, value_named, stands_for}
use Rattle.pst_ast.specs.Uses.{with_inner}
use Rattle.pst_tree.specs.Bases.{number_in}
use Rattle.pst_terms.specs.Sources.{Sources, declared_in}
use Rattle.pst_terms.specs.Readings.{Setting}
use Rattle.pst_type_rules.specs.Limits.{is_local}
use Rattle.pst_elab_rules.specs.Bodies.{behind, local_in, local_of, joined_rows, statement_row, statement_rows, statement_list}
use Rattle.pst_elab_rules.specs.Steps.{turn_setting}
use Rattle.pst_sound_model.proofs.Members.{In, in_find, to_left, to_right}
use Rattle.pst_sound_model.proofs.Owned.{same_itself}
use Rattle.pst_sound_model.proofs.Facts.{AreFacts}
use Rattle.pst_sound_model.proofs.Meanings.{without_traversal}
use Rattle.pst_sound_model.proofs.SetTerms.{AreDeclared}
use Rattle.pst_sound_model.proofs.Typed.{some_found}

-- the locals among some declarations
abbrev pub locals_among : List Declaration → List Declaration
locals_among ds = filter (λ d. is_local d.sort) ds

pub locals_both : (xs ys : List Declaration) → locals_among (xs ++ ys) ≡ locals_among xs ++ locals_among ys
locals_both xs ys = filter-append (λ d. is_local d.sort) xs ys

pub no_index_among : (type : Place) (index : Option LabelNode) → locals_among (index_of type index) ≡ []
no_index_among type None = refl
no_index_among type (Some label) = refl

pub joined_locals : (a b : BodyRow) → locals_in_row (joined_rows a b) ≡ locals_in_row a ++ locals_in_row b
joined_locals NoBody b = refl
joined_locals (MoreBody head tail) b = ap (λ (ns : List ℕ). locals_in head ++ ns) (joined_locals tail b) ∙ sym (append_assoc (locals_in head) (locals_in_row tail) (locals_in_row b))

pub listed_locals : (row : BodyRow) → locals_of (body_of row) ≡ locals_in_row row
listed_locals NoBody = refl
listed_locals (MoreBody head tail) = ap (λ (ns : List ℕ). locals_in head ++ ns) (listed_locals tail)

same_itself_name : (name : Name) → same_name name.id name.id ≡ true
same_itself_name name = eq-eqb name.id.0 name.id.0 refl

module _ (s : Sources) (facts : AreFacts s) where
  -- what is declared at the place of a declaration
  pub declared_itself : (d : Declaration) → In d (declared_in s) → declared_at (declared_in s) d.name.place ≡ Some d
  unfolding declared_at
  declared_itself d there =
      let f = some_found (λ x. same_place x.name.place d.name.place) (declared_in s) d there (same_itself d) in
      let g = in_find (λ x. same_place x.name.place d.name.place) (declared_in s) f.0 f.1 in
      f.1 ∙ ap (λ (x : Declaration). Some x) (facts.places d f.0 there g.0 g.1)

  -- behind its declaration a name stands for the local
  pub stands_for_local : (at : Environment) → at.traversal ≡ None → (type scope : Place) (name : Name) → In (local type scope name) (declared_in s) → stands_for (declared_in s) s.names (with_inner at name) name.id ≡ Some (Declared (local type scope name))
  unfolding value_named
  stands_for_local at plain type scope name there =
      without_traversal (declared_in s) s.names (with_inner at name) name.id plain
      ∙ (ap (λ (b : Bool). option_or (referent (option_and_then (λ n. declared_at (declared_in s) n.place) (cond b (Some name) (find (λ n. same_name n.id name.id) at.inner)))) (option_or (owned (declared_in s) s.names at.owner name.id) (referent (item_here (declared_in s) at.component name.id)))) (same_itself_name name)
      ∙ ap (λ (o : Option Declaration). option_or (referent o) (option_or (owned (declared_in s) s.names at.owner name.id) (referent (item_here (declared_in s) at.component name.id)))) (declared_itself (local type scope name) there))

-- where a statement of a body stands
pub record IsWithin (locals : List Declaration) (setting : Setting) : Type 0 where
  pub plain : setting.at.traversal ≡ None
  pub locals_are : setting.locals ≡ locals

behind_within : (locals : List Declaration) (setting : Setting) → IsWithin locals setting → (statement : BodyStatementTree) → IsWithin locals (behind setting statement)
behind_within locals setting right (BodyStatementEmpty place) = right
behind_within locals setting right (BodyStatementLocal plain name value semicolon) = record { plain = right.plain; locals_are = right.locals_are }
behind_within locals setting right (BodyStatementAssign name equal source semicolon) = right
behind_within locals setting right (BodyStatementCall call semicolon) = right
behind_within locals setting right (BodyStatementBlock left statements close) = right
behind_within locals setting right (BodyStatementIf word left condition close then_part) = right
behind_within locals setting right (BodyStatementIfElse word left condition close then_part else_place otherwise) = right
behind_within locals setting right (BodyStatementRepeat word left index count close statement) = right

turn_within : (locals : List Declaration) (setting : Setting) → IsWithin locals setting → (level : ℕ) (index : Option LabelNode) → IsWithin locals (turn_setting setting level index)
turn_within locals setting right level None = right
turn_within locals setting right level (Some label) = record { plain = right.plain; locals_are = right.locals_are }

module _ (s : Sources) (facts : AreFacts s) (type : Place) (locals : List Declaration) where
  abbrev pub numbers : List Declaration → List ℕ
  numbers ds = map (number_in locals) (locals_among ds)

  numbers_both : (xs ys : List Declaration) → numbers (xs ++ ys) ≡ numbers xs ++ numbers ys
  numbers_both xs ys = ap (map (number_in locals)) (locals_both xs ys) ∙ map-append (number_in locals) (locals_among xs) (locals_among ys)

  declared_number : (setting : Setting) → IsWithin locals setting → (scope : Place) (plain : PlainTree) (name : Name) (value : _) (semicolon : Place) → In (local type scope name) (declared_in s)
      → local_of s (behind setting (BodyStatementLocal plain name value semicolon)) name ≡ number_in locals (local type scope name)
  declared_number setting right scope plain name value semicolon there =
      ap (local_in (behind setting (BodyStatementLocal plain name value semicolon))) (stands_for_local s facts setting.at right.plain type scope name there)
      ∙ ap (λ (l : List Declaration). number_in l (local type scope name)) right.locals_are

  mutual
    statement_locals : (level : ℕ) (setting : Setting) → IsWithin locals setting → (scope : Place) (statement : BodyStatementTree) → AreDeclared (declared_in s) (in_body_statement type scope statement)
        → locals_in_row (statement_row s setting level statement) ≡ numbers (in_body_statement type scope statement)
    statement_locals level setting right scope (BodyStatementEmpty place) inside = refl
    statement_locals level setting right scope (BodyStatementLocal plain name value semicolon) inside =
        ap (λ (n : ℕ). n ∷ []) (declared_number setting right scope plain name value semicolon (inside (local type scope name) (inl refl)))
    statement_locals level setting right scope (BodyStatementAssign name equal source semicolon) inside = refl
    statement_locals level setting right scope (BodyStatementCall call semicolon) inside = refl
    statement_locals level setting right scope (BodyStatementBlock left statements close) inside = row_locals level setting right left statements inside
    statement_locals level setting right scope (BodyStatementIf word left condition close then_part) inside =
        append-nil (locals_in_row (statement_row s setting level then_part) ++ [])
        ∙ (append-nil (locals_in_row (statement_row s setting level then_part)) ∙ statement_locals level setting right close then_part inside)
    statement_locals level setting right scope (BodyStatementIfElse word left condition close then_part else_place otherwise) inside =
        let one = statement_locals level setting right close then_part (λ d there. inside d (to_left (in_body_statement type close then_part) (in_body_statement type else_place otherwise) d there)) in
        let two = statement_locals level setting right else_place otherwise (λ d there. inside d (to_right (in_body_statement type close then_part) (in_body_statement type else_place otherwise) d there)) in
        append-nil (locals_in_row (statement_row s setting level then_part) ++ locals_in_row (statement_row s setting level otherwise))
        ∙ ((λ i. one i ++ two i) ∙ sym (numbers_both (in_body_statement type close then_part) (in_body_statement type else_place otherwise)))
    statement_locals level setting right scope (BodyStatementRepeat word left index count close statement) inside =
        append-nil (locals_in_row (statement_row s (turn_setting setting level index) (level + 1) statement))
        ∙ (statement_locals (level + 1) (turn_setting setting level index) (turn_within locals setting right level index) close statement (λ d there. inside d (to_right (index_of type index) (in_body_statement type close statement) d there))
        ∙ sym (numbers_both (index_of type index) (in_body_statement type close statement) ∙ ap (λ (xs : List Declaration). map (number_in locals) xs ++ numbers (in_body_statement type close statement)) (no_index_among type index)))

    row_locals : (level : ℕ) (setting : Setting) → IsWithin locals setting → (scope : Place) (row : BodyStatementRow) → AreDeclared (declared_in s) (in_body_row type scope row)
        → locals_in_row (statement_rows s setting level row) ≡ numbers (in_body_row type scope row)
    row_locals level setting right scope NoBodyStatementRow inside = refl
    row_locals level setting right scope (MoreBodyStatementRow head tail) inside =
        let one = statement_locals level setting right scope head (λ d there. inside d (to_left (in_body_statement type scope head) (in_body_row type scope tail) d there)) in
        let two = row_locals level (behind setting head) (behind_within locals setting right head) scope tail (λ d there. inside d (to_right (in_body_statement type scope head) (in_body_row type scope tail) d there)) in
        joined_locals (statement_row s setting level head) (statement_rows s (behind setting head) level tail)
        ∙ ((λ i. one i ++ two i) ∙ sym (numbers_both (in_body_statement type scope head) (in_body_row type scope tail)))

  pub list_locals : (setting : Setting) → IsWithin locals setting → (scope : Place) (statements : List BodyStatementTree) → AreDeclared (declared_in s) (flat_map (in_body_statement type scope) statements)
      → locals_of (statement_list s setting statements) ≡ numbers (flat_map (in_body_statement type scope) statements)
  list_locals setting right scope [] inside = refl
  list_locals setting right scope (head ∷ more) inside =
      let one = statement_locals 0 setting right scope head (λ d there. inside d (to_left (in_body_statement type scope head) (flat_map (in_body_statement type scope) more) d there)) in
      let two = list_locals (behind setting head) (behind_within locals setting right head) scope more (λ d there. inside d (to_right (in_body_statement type scope head) (flat_map (in_body_statement type scope) more) d there)) in
      flat_map-append locals_in (body_of (statement_row s setting 0 head)) (statement_list s (behind setting head) more)
      ∙ ((λ i. (listed_locals (statement_row s setting 0 head) ∙ one) i ++ two i) ∙ sym (numbers_both (in_body_statement type scope head) (flat_map (in_body_statement type scope) more)))
