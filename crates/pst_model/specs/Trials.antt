-- A model written out, and parts that break one point each.
use Rattle.std.specs.Prelude.{ℕ, ℤ, pos, [], ◌∷◌, false, Some, None}
use Rattle.pst_base.specs.declared.table.NameId.{NameId}
use Rattle.pst_expr.specs.declared.ranges.Span.{Span}
use Rattle.pst_expr.specs.Tree.{Variable, Element, Constant}
use Rattle.pst_model.specs.declared.action.Field.{Field}
use Rattle.pst_model.specs.declared.activity.Join.TheVariants.{Fixed, Choose}
use Rattle.pst_model.specs.declared.model.Part.{Part}
use Rattle.pst_model.specs.ConstraintTree.{ConstraintTree, Own, Index}
use Rattle.pst_model.specs.ActivityTree.{StepTree, Traverse, Sequence, Repeat, NoSteps, MakeBranch}
use Rattle.pst_model.specs.ModelTree.{ActionTree, Atomic, ModelTree}
use Rattle.pst_model.specs.SoundConstraint.{IsBelow}
use Rattle.pst_model.specs.SoundSlots.{IsConditionSlot}
use Rattle.pst_model.specs.SoundActivity.{IsJoin, AreApart, IsSoundBranch, IsSoundStep}
use Rattle.pst_model.specs.Traversals.{IsSteady}
use Rattle.pst_model.specs.Preorder.{IsInstanceTree}
use Rattle.pst_model.specs.Sound.{IsSound}

abbrev name : NameId
name = record { 0 = 0 }

abbrev pub span : ℤ → ℤ → Span
span low high = record { low = low; high = high }

abbrev pub field : Field
field = record { name = name; domain = span (pos 0) (pos 7) ∷ []; element = None }

-- the value of the first field
abbrev pub own : ConstraintTree
own = record { expression = Variable 0; slots = Own 0 ∷ [] }

-- an action with one field and nothing to do
abbrev pub action : ActionTree
action = record { name = name; component = name; is_abstract = false; fields = field ∷ []; references = []; claims = []; constraints = own ∷ []; content = Atomic [] }

abbrev pub root : ℕ → Part
root last = record { name = name; component = name; parent = None; last = last }

-- that action alone, in the root
abbrev pub lone : ModelTree
lone = record { actions = action ∷ []; objects = []; instances = root 0 ∷ []; pools = []; functions = []; served = [] }

-- a traversal by handle 0
abbrev traversal : StepTree
traversal = Traverse 0 (Some 0) []

pub record AreTrials : Type 0 where
  pub sound : IsSound lone
  -- a variable and an array beyond the slots, and an array without elements
  pub variable : IsBelow 1 (Variable 1) → ⊥
  pub elements : IsBelow 3 (Element 1 3 (Constant (pos 0))) → ⊥
  pub no_elements : IsBelow 3 (Element 1 0 (Constant (pos 0))) → ⊥
  -- a field and a level that there isn't
  pub no_field : IsConditionSlot action 1 (Own 1) → ⊥
  pub no_level : IsConditionSlot action 1 (Index 1) → ⊥
  -- one traversal is steady, none, two and one within a repetition aren't
  pub steady : IsSteady 0 (traversal ∷ [])
  pub missing : IsSteady 0 (Sequence NoSteps ∷ []) → ⊥
  pub twice : IsSteady 0 (traversal ∷ traversal ∷ []) → ⊥
  pub repeated : IsSteady 0 (Repeat own traversal ∷ []) → ⊥
  -- two of one branch are chosen, and branch 1 of one is waited for
  pub choice : IsJoin (Choose 2) 1 → ⊥
  pub branch : IsJoin (Fixed 2) 1 → ⊥
  -- ranges that touch
  pub touching : AreApart (span (pos 1) (pos 3)) (span (pos 3) (pos 5)) → ⊥
  -- a weight of 0
  pub weight : IsSoundBranch action 0 (MakeBranch None 0 traversal) → ⊥
  -- an action that there isn't
  pub no_action : IsSoundStep lone action [] 0 (Traverse 1 None []) → ⊥
  -- a root that ends behind the last instance
  pub beyond : IsInstanceTree (root 1 ∷ []) → ⊥
