-- Laws of the definitions: activities of the model of sources are sound.
use Rattle.std.specs.Prelude.{◌≡◌, ℕ, ◌<◌, ◌≤◌, List, length, All, Option, Some}
use Rattle.std.specs.List.{Contains}
use Rattle.pst_base.specs.declared.position.Place.{Place}
use Rattle.pst_ast.specs.ExpressionTree.{ExprTree}
use Rattle.pst_ast.specs.declared.activity.TogetherWord.{TogetherWord}
use Rattle.pst_ast.specs.ActivityTree.{JoinTree, GuardTree, CoreMatch, CoreTogether, ArmTree, ArmRow, MakeBranch, StatementTree, StatementRow}
use Rattle.pst_ast.specs.DeclarationTree.{UnitTree}
use Rattle.pst_model.specs.Limits.{most_branches, most_weight}
use Rattle.pst_model.specs.ActivityTree.{ActivityTree, steps_of}
use Rattle.pst_model.specs.ModelTree.{Compound, ModelTree}
use Rattle.pst_model.specs.SoundActivity.{AreArmsApart, IsJoin}
use Rattle.pst_ast.specs.Breaches.{IsNone}
use Rattle.pst_ast.specs.declared.environment.Environment.{Environment}
use Rattle.pst_ast.specs.Declarations.{declarations}
use Rattle.pst_ast.specs.NameRules.{NameBreach}
use Rattle.pst_ast.specs.Uses.{Use, core_uses, branch_uses, uses}
use Rattle.pst_type_rules.specs.declared.typed.ConstantValue.{ConstantValue}
use Rattle.pst_type_rules.specs.TypeRules.{TypeBreach}
use Rattle.pst_type_rules.specs.Typed.{AreConstants}
use Rattle.pst_terms.specs.Readings.{Setting}
use Rattle.pst_elab_rules.specs.Model.{sources, IsModel}
use Rattle.pst_sound_model.specs.SoundExpressionsConditions.{HaveOwnPlaces}
use Rattle.pst_elab_rules.specs.Steps.{arm_row, arm_rows, row_steps, join_of, weight_of}

-- no two ranges of a `match` of the sources meet in the model
abbrev pub ArmsAreApart : Type 0
ArmsAreApart =
    (units : List UnitTree) (names : List (List ℕ)) (constants : List ConstantValue) → AreConstants units names constants → IsNone (TypeBreach units names)
    → (at : Environment) (word left : Place) (expr : ExprTree) (right opening : Place) (first : ArmTree) (rest : ArmRow) (close : Place)
    → ((u : Use) → Contains (core_uses at (CoreMatch word left expr right opening first rest close)) u → Contains (uses units) u)
    → (setting : Setting) (level : ℕ) → AreArmsApart (arm_row (sources units names constants) setting level first (arm_rows (sources units names constants) setting level rest))

-- a block with a join form has no more branches than it may have, and waits for branches that it has
abbrev pub JoinsAreSound : Type 0
JoinsAreSound =
    (units : List UnitTree) (names : List (List ℕ)) (constants : List ConstantValue) → AreConstants units names constants → IsNone (TypeBreach units names)
    → (at : Environment) (word : TogetherWord) (place : Place) (join : JoinTree) (left : Place) (statements : StatementRow) (right : Place)
    → ((u : Use) → Contains (core_uses at (CoreTogether word place (Some join) left statements right)) u → Contains (uses units) u)
    → (setting : Setting) (level : ℕ)
    → (length (steps_of (row_steps (sources units names constants) setting level statements)) ≤ most_branches)
    × IsJoin (join_of (sources units names constants) statements join) (length (steps_of (row_steps (sources units names constants) setting level statements)))

-- the weight of each branch of a `select` is within its limits
abbrev pub WeightsAreSound : Type 0
WeightsAreSound =
    (units : List UnitTree) (names : List (List ℕ)) (constants : List ConstantValue) → AreConstants units names constants → IsNone (TypeBreach units names)
    → (at : Environment) (guard : Option GuardTree) (statement : StatementTree)
    → ((u : Use) → Contains (branch_uses at (MakeBranch guard statement)) u → Contains (uses units) u)
    → (1 ≤ weight_of (sources units names constants) guard) × (weight_of (sources units names constants) guard ≤ most_weight)

-- the handles of each activity are of action types
abbrev pub HandlesAreSound : Type 0
HandlesAreSound =
    (units : List UnitTree) (names : List (List ℕ)) (model : ModelTree) → HaveOwnPlaces (declarations units) → IsNone (NameBreach units names) → IsNone (TypeBreach units names) → IsModel units names model
    → All (λ action. (activity : ActivityTree) → action.content ≡ Compound activity → All (λ type. type < length model.actions) activity.handles) model.actions
