-- The trees of the program's models.
use Rattle.std.specs.Prelude.{map, Option, Some, None}
use Rattle.std.specs.Option.{option_map}
use Rattle.std.specs.Global.{Box}
use Rattle.pst_model.specs.declared.activity.Step.{Step, Row_of-Step, end_of-Step, more_of-Step, Row_of-Branch, end_of-Branch, more_of-Branch, Row_of-Arm, end_of-Arm, more_of-Arm, Held-Step-If-2, None', Some'}
use Rattle.pst_model.specs.declared.activity.Step.TheVariants as the_step
use Rattle.pst_model.specs.declared.activity.Branch.{Branch}
use Rattle.pst_model.specs.declared.activity.Arm.{Arm}
use Rattle.pst_model.specs.declared.activity.Activity.{Activity}
use Rattle.pst_model.specs.declared.body.BodyStep.{BodyStep, Row_of-BodyStep, end_of-BodyStep, more_of-BodyStep}
use Rattle.pst_model.specs.declared.body.BodyStep.TheVariants as the_body
use Rattle.pst_model.specs.declared.body.Source.{Source}
use Rattle.pst_model.specs.declared.body.Source.TheVariants as the_source
use Rattle.pst_model.specs.declared.action.Content.{Content}
use Rattle.pst_model.specs.declared.action.Content.TheVariants as the_content
use Rattle.pst_model.specs.declared.action.ActionType.{ActionType}
use Rattle.pst_model.specs.declared.object.ObjectType.{ObjectType}
use Rattle.pst_model.specs.declared.model.Function.{Function}
use Rattle.pst_model.specs.declared.model.Model.{Model}
use Rattle.pst_model.specs.ConstraintTree.{view_constraint}
use Rattle.pst_model.specs.ActivityTree.{StepTree, Traverse, Sequence, Parallel, Schedule, Joined, Select, Repeat, If, Match, BranchTree, MakeBranch, ArmTree, MakeArm, StepRow, NoSteps, MoreSteps, BranchRow, NoBranches, MoreBranches, ArmRow, NoArms, MoreArms, MaybeStep, NoStep, SomeStep, ActivityTree}
use Rattle.pst_model.specs.BodyTree as body
use Rattle.pst_model.specs.ModelTree.{ContentTree, Atomic, Compound, ActionTree, ObjectTree, FunctionTree, ModelTree}

abbrev mutual
  pub view_step : Step → StepTree
  view_step (the_step.Traverse action handle inline) = Traverse action handle (map view_constraint inline.items)
  view_step (the_step.Sequence' shape steps) = Sequence (view_steps steps)
  view_step (the_step.Parallel' shape steps) = Parallel (view_steps steps)
  view_step (the_step.Schedule' shape steps) = Schedule (view_steps steps)
  view_step (the_step.Joined' parallel join shape steps) = Joined parallel join (view_steps steps)
  view_step (the_step.Select' shape branches) = Select (view_branches branches)
  view_step (the_step.Repeat' count pointer inner) = Repeat (view_constraint count) (view_step inner)
  view_step (the_step.If' condition pointer holds fails) = If (view_constraint condition) (view_step holds) (view_maybe fails)
  view_step (the_step.Match' value shape arms other) = Match (view_constraint value) (view_arms arms) (view_maybe other)

  pub view_maybe : Held-Step-If-2 → MaybeStep
  view_maybe None' = NoStep
  view_maybe (Some' pointer step) = SomeStep (view_step step)

  pub view_steps : {m : _} → Row_of-Step m → StepRow
  view_steps end_of-Step = NoSteps
  view_steps (more_of-Step head tail) = MoreSteps (view_step head) (view_steps tail)

  pub view_branches : {m : _} → Row_of-Branch m → BranchRow
  view_branches end_of-Branch = NoBranches
  view_branches (more_of-Branch guard weight step tail) = MoreBranches (MakeBranch (option_map view_constraint guard) weight (view_step step)) (view_branches tail)

  pub view_arms : {m : _} → Row_of-Arm m → ArmRow
  view_arms end_of-Arm = NoArms
  view_arms (more_of-Arm spans step tail) = MoreArms (MakeArm spans.items (view_step step)) (view_arms tail)

abbrev pub view_branch : Branch → BranchTree
view_branch b = MakeBranch (option_map view_constraint b.guard) b.weight (view_step b.step)

abbrev pub view_arm : Arm → ArmTree
view_arm a = MakeArm a.spans.items (view_step a.step)

abbrev pub view_activity : Activity → ActivityTree
view_activity a = record { handles = a.handles.items; steps = map view_step a.steps.items; binds = a.binds.items }

abbrev pub view_source : Source → body.SourceTree
view_source (the_source.Value expression) = body.Value (view_constraint expression)
view_source (the_source.Answer function arguments) = body.Answer function (map view_constraint arguments.items)

abbrev mutual
  pub view_body_step : BodyStep → body.BodyStepTree
  view_body_step (the_body.Declare local range value) = body.Declare local range (option_map view_source value)
  view_body_step (the_body.Assign local value) = body.Assign local (view_source value)
  view_body_step (the_body.Call function arguments) = body.Call function (map view_constraint arguments.items)
  view_body_step (the_body.If' condition shape holds shape_of_fails fails) = body.If (view_constraint condition) (view_body holds) (view_body fails)
  view_body_step (the_body.Repeat' count shape inner) = body.Repeat (view_constraint count) (view_body inner)

  pub view_body : {m : _} → Row_of-BodyStep m → body.BodyRow
  view_body end_of-BodyStep = body.NoBody
  view_body (more_of-BodyStep head tail) = body.MoreBody (view_body_step head) (view_body tail)

abbrev pub view_content : Content → ContentTree
view_content (the_content.Atomic steps) = Atomic (map view_body_step steps.items)
view_content (the_content.Compound activity) = Compound (view_activity activity)

abbrev pub view_action : ActionType → ActionTree
view_action a = record { name = a.name; component = a.component; is_abstract = a.is_abstract; fields = a.fields.items; references = a.references.items; claims = a.claims.items; constraints = map view_constraint a.constraints.items; content = view_content a.content }

abbrev pub view_object : ObjectType → ObjectTree
view_object o = record { name = o.name; kind = o.kind; fields = o.fields.items; constraints = map view_constraint o.constraints.items }

abbrev pub view_function : Function → FunctionTree
view_function f = record { name = f.name; parameters = f.parameters.items; answer = f.answer }

-- the tree of a model
abbrev pub view_model : Model → ModelTree
view_model m = record { actions = map view_action m.actions.items; objects = map view_object m.objects.items; instances = m.instances.items; pools = m.pools.items; functions = map view_function m.functions.items; served = m.served.items }

-- ---- parts that the program holds apart

abbrev pub maybe_step : Option (Box Step) → MaybeStep
maybe_step None = NoStep
maybe_step (Some step) = SomeStep (view_step step.value)
