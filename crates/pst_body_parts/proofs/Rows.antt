-- The rows of bodies are those of their lists.
use Rattle.std.proofs.Common.{◌≡◌, ◌+◌, ◌<◌, ◌++◌, ℕ, List, [], ◌∷◌, map, length, refl, ap, sym, ◌∙◌, arith, append_assoc}
use Rattle.std.specs.Prelude.{drop, get_or}
use Rattle.std.proofs.lemmas.List.{drop-drop, drop_more}
use Rattle.std.specs.Global.{Vec}
use Rattle.pst_base.specs.declared.position.Place.{Place}
use Rattle.pst_ast.specs.declared.body.BodyStatement.{Row_of-BodyStatement, end_of-BodyStatement, more_of-BodyStatement, items-the_row-BodyStatement, items_hidden-the_row-BodyStatement-0, BodyStatement}
use Rattle.pst_ast.specs.declared.body.BodyStatement.TheBlock.{hidden-the_row-BodyStatement-0}
use Rattle.pst_ast.specs.declared.body.BodyStatement.TheVariants as the_body_statement
use Rattle.pst_ast.specs.declared.leaf.Name.{Name}
use Rattle.pst_ast.specs.BodyTree.{BodyStatementTree}
use Rattle.pst_ast.specs.BodyView.{view_body_statement, view_body_statement_row}
use Rattle.pst_model.specs.declared.body.BodyStep.{BodyStep, Row_of-BodyStep, end_of-BodyStep, more_of-BodyStep}
use Rattle.pst_model.specs.declared.body.BodyStep.TheBlock.{items-the_row-BodyStep, hidden-the_row-BodyStep-0, items_hidden-the_row-BodyStep-0}
use Rattle.pst_model.specs.declared.body.BodyStep.TheVariants as the_body
use Rattle.pst_model.specs.declared.constraint.Constraint.{Constraint}
use Rattle.pst_model.specs.ConstraintTree.{view_constraint}
use Rattle.pst_model.specs.ModelView.{view_body_step, view_body}
use Rattle.pst_model.specs.BodyTree.{BodyStepTree, If, Repeat, BodyRow, NoBody, MoreBody, body_of}
use Rattle.pst_terms.specs.Sources.{Sources}
use Rattle.pst_terms.specs.Readings.{Setting}
use Rattle.pst_elab_rules.specs.Bodies.{behind, joined_rows, statement_row, statement_rows, statement_list}
use Rattle.pst_body_parts.specs.Listed.{list_steps, row_of, without_inner}

-- ---- rows of the model

steps_in : {n : _} (k : Row_of-BodyStep n) → view_body k ≡ row_of (map view_body_step (items-the_row-BodyStep n k))
steps_in end_of-BodyStep = refl
steps_in (more_of-BodyStep head tail) = ap (λ (r : BodyRow). MoreBody (view_body_step head) r) (steps_in tail)

abbrev row : Vec BodyStep → BodyRow
row v = row_of (map view_body_step v.items)

steps_are : (v : Vec BodyStep) → view_body (hidden-the_row-BodyStep-0 v) ≡ row v
steps_are v = steps_in (hidden-the_row-BodyStep-0 v) ∙ ap (λ (xs : List BodyStep). row_of (map view_body_step xs)) (items_hidden-the_row-BodyStep-0 v)

pub if_is : (condition : Constraint) (holds fails : Vec BodyStep) → view_body_step (the_body.If condition holds fails) ≡ If (view_constraint condition) (row_of (map view_body_step holds.items)) (row_of (map view_body_step fails.items))
if_is condition holds fails = ap (λ (r : BodyRow). If (view_constraint condition) r (view_body (hidden-the_row-BodyStep-0 fails))) (steps_are holds) ∙ ap (λ (r : BodyRow). If (view_constraint condition) (row holds) r) (steps_are fails)

pub repeat_is : (count : Constraint) (body : Vec BodyStep) → view_body_step (the_body.Repeat count body) ≡ Repeat (view_constraint count) (row_of (map view_body_step body.items))
repeat_is count body = ap (λ (r : BodyRow). Repeat (view_constraint count) r) (steps_are body)

pub row_again : (r : BodyRow) → row_of (body_of r) ≡ r
row_again NoBody = refl
row_again (MoreBody head tail) = ap (MoreBody head) (row_again tail)

-- ---- rows of the sources

joined_are : (a b : BodyRow) → body_of (joined_rows a b) ≡ body_of a ++ body_of b
joined_are NoBody b = refl
joined_are (MoreBody head tail) b = ap (λ (xs : List BodyStepTree). head ∷ xs) (joined_are tail b)

statements_in : (s : Sources) (setting : Setting) (level : ℕ) {n : _} (k : Row_of-BodyStatement n) → body_of (statement_rows s setting level (view_body_statement_row k)) ≡ list_steps s setting level (map view_body_statement (items-the_row-BodyStatement n k))
statements_in s setting level end_of-BodyStatement = refl
statements_in s setting level (more_of-BodyStatement head tail) =
    joined_are (statement_row s setting level (view_body_statement head)) (statement_rows s (behind setting (view_body_statement head)) level (view_body_statement_row tail))
    ∙ ap (λ (xs : List BodyStepTree). body_of (statement_row s setting level (view_body_statement head)) ++ xs) (statements_in s (behind setting (view_body_statement head)) level tail)

pub block_is : (s : Sources) (setting : Setting) (level : ℕ) (left : Place) (v : Vec BodyStatement) (right : Place)
    → body_of (statement_row s setting level (view_body_statement (the_body_statement.Block left v right))) ≡ list_steps s setting level (map view_body_statement v.items)
block_is s setting level left v right = statements_in s setting level (hidden-the_row-BodyStatement-0 v) ∙ ap (λ (xs : List BodyStatement). list_steps s setting level (map view_body_statement xs)) (items_hidden-the_row-BodyStatement-0 v)

pub list_is : (s : Sources) (setting : Setting) (xs : List BodyStatementTree) → list_steps s setting 0 xs ≡ statement_list s setting xs
list_is s setting [] = refl
list_is s setting (x ∷ xs) = ap (λ (ys : List BodyStepTree). body_of (statement_row s setting 0 x) ++ ys) (list_is s (behind setting x) xs)

-- one statement after another, each in the scopes behind those before it
pub steps_more : (s : Sources) (level : ℕ) (setting within after : Setting) (old new total : List BodyStepTree) (items : List BodyStatement) (i : ℕ) (item : BodyStatement) → i < length items → item ≡ get_or items i item
    → within ≡ setting → after ≡ behind within (view_body_statement item) → new ≡ old ++ body_of (statement_row s setting level (view_body_statement item))
    → old ++ list_steps s setting level (map view_body_statement (drop i items)) ≡ total → new ++ list_steps s after level (map view_body_statement (drop (i + 1) items)) ≡ total
steps_more s level setting within after old new total items i item inside at kept entered is e =
    let rest = map view_body_statement (drop (i + 1) items) in
    let first = λ (x : BodyStatement). body_of (statement_row s setting level (view_body_statement x)) in
    ap (λ (xs : List BodyStepTree). xs ++ list_steps s after level rest) is
    ∙ append_assoc old (first item) (list_steps s after level rest)
    ∙ ap (λ (st : Setting). old ++ (first item ++ list_steps s st level rest)) (entered ∙ ap (λ (st : Setting). behind st (view_body_statement item)) kept)
    ∙ ap (λ (x : BodyStatement). old ++ (first x ++ list_steps s (behind setting (view_body_statement x)) level rest)) at
    ∙ ap (λ (xs : List BodyStatement). old ++ list_steps s setting level (map view_body_statement xs)) (sym (drop_more items i item inside))
    ∙ e

-- ---- scopes that are left

abbrev in_scopes : Setting → List Name → Setting
in_scopes st names = record st { at = record st.at { inner = names } }

pub without_next : (n : ℕ) (st : Setting) → without_inner 1 (without_inner n st) ≡ without_inner (n + 1) st
without_next n st = ap (in_scopes st) (drop-drop 1 n st.at.inner)

pub without_more : (n k : ℕ) (new old total : Setting) → without_inner k new ≡ old → without_inner n old ≡ total → without_inner (n + k) new ≡ total
without_more n k new old total left rest =
    let other_way : n + k ≡ k + n = omega arith in
    ap (in_scopes new) (ap (λ (m : ℕ). drop m new.at.inner) other_way ∙ sym (drop-drop n k new.at.inner)) ∙ ap (without_inner n) left ∙ rest
