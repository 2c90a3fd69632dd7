-- What single uses break of the rules of types, where the values of items are known.
use Rattle.std.specs.Prelude.{ℕ, nat_eq, ℤ, int_le, List, length, slice_get, Bool, true, false, not, ◌&&◌, ◌||◌, Option, Some, None, is_some}
use Rattle.std.specs.Option.{option_and_then, option_map}
use Rattle.pst_base.specs.declared.position.Place.{Place}
use Rattle.pst_ast.specs.declared.leaf.Name.{Name}
use Rattle.pst_ast.specs.declared.activity.EndNode.{EndNode}
use Rattle.pst_ast.specs.ExpressionTree.{ExprTree}
use Rattle.pst_ast.specs.DeclarationTree.{UnitTree, AnswerTree, AnswerVoid, AnswerPlain}
use Rattle.pst_expr.specs.declared.ranges.Span.{Span}
use Rattle.pst_model.specs.Limits.{most_branches}
use Rattle.pst_ast.specs.declared.scope_declaration.Declaration.{Declaration}
use Rattle.pst_ast.specs.declared.environment.Environment.{Environment}
use Rattle.pst_ast.specs.declared.referent.Checked.{Checked}
use Rattle.pst_ast.specs.declared.referent.Checked.TheVariants.{Is, Breaks}
use Rattle.pst_ast.specs.declared.referent.Finding.{Finding}
use Rattle.pst_ast.specs.declared.referent.Referent.{Referent}
use Rattle.pst_ast.specs.declared.referent.Target.{Target}
use Rattle.pst_ast.specs.declared.referent.Traversal.{Traversal}
use Rattle.pst_ast.specs.contracts.scope_declaration.DeclarationPartialEq.TheImpl as declaration
use Rattle.pst_ast.specs.Sorts.{same_name, is_pool, is_resource}
use Rattle.pst_ast.specs.Lookups.{type_here, type_named, type_of, stands_for, traversed}
use Rattle.pst_ast.specs.NameRules.{finding, unless, named_in, target_of}
use Rattle.pst_ast.specs.Uses.{Use, Reads, Role, PoolSize, Condition, expr_uses}
use Rattle.pst_type_rules.specs.Places.{expr_place, ins}
use Rattle.pst_type_rules.specs.Sites.{DeclaredAction, DeclaredFunction, action_at, function_at}
use Rattle.pst_type_rules.specs.Limits.{most_unique, limits_of, is_local}
use Rattle.pst_type_rules.specs.Binds.{reference_at, is_output, is_input}
use Rattle.pst_type_rules.specs.TypeRules.{is_constant, is_condition_sort, is_declared, first_name}
use Rattle.pst_name_rules.specs.Earlier.{earlier}
use Rattle.pst_name_rules.specs.Leasts.{least_at}

-- ---- expressions

-- an `in` in the left part of another
abbrev pub inner_in : Place → Option Finding
inner_in place = finding place 10

abbrev pub is_inside : Span → ℤ → Bool
is_inside limits v = int_le limits.low v && int_le v limits.high

-- a value, where there is one, keeps limits, where there are any
abbrev pub keeps_limits : Option Span → Option ℤ → Bool
keeps_limits (Some limits) (Some v) = is_inside limits v
keeps_limits _ _ = true

abbrev pub is_of_resources : Option Declaration → Bool
is_of_resources (Some type) = is_resource type.sort
is_of_resources None = true

-- a size stands at a pool of resources, or at one of nothing
abbrev pub may_have_size : List Declaration → Environment → Role → Bool
may_have_size ds at (PoolSize object) = is_of_resources (type_named ds at.component object)
may_have_size ds at _ = true

-- a name that stands for something that a condition may name, or for nothing
abbrev pub may_be_named : Option Referent → Bool
may_be_named (Some r) = is_declared is_condition_sort r
may_be_named None = true

-- a path in a condition
abbrev pub read_found : List Declaration → List (List ℕ) → Use → Option Finding
read_found ds names (Reads env first rest) = unless (may_be_named (stands_for ds names env first.name.id)) first.name.place 19
read_found ds names _ = None

abbrev pub condition_found : List Declaration → List (List ℕ) → Environment → Role → ExprTree → Option Finding
condition_found ds names at Condition expr = least_at (read_found ds names) (expr_uses at expr) None
condition_found ds names at _ expr = None

-- what an expression breaks that stands there for that, and that has this value as a constant
abbrev pub constant_found : Role → Place → Option ℤ → Option Finding
constant_found role place value = earlier (unless (not (is_constant role) || is_some value) place 11) (unless (keeps_limits (limits_of role) value) place 12)

abbrev pub judged_found : List Declaration → List (List ℕ) → Environment → Role → ExprTree → Option ℤ → Option Finding
judged_found ds names at role expr value =
    earlier (earlier (least_at inner_in (ins false expr) None) (constant_found role (expr_place expr) value))
    (earlier (unless (may_have_size ds at role) (expr_place expr) 14) (condition_found ds names at role expr))

-- ---- counts

abbrev pub too_many : Place → Finding
too_many place = record { place = place; rule = 12 }

abbrev pub unique_found : List ExprTree → Option Finding
unique_found items = option_map (λ e. too_many (expr_place e)) (slice_get items most_unique)

abbrev pub branches_found : List Place → Option Finding
branches_found places = option_map too_many (slice_get places most_branches)

-- ---- binds

abbrev pub is_same : Option Declaration → Option Declaration → Bool
is_same (Some x) (Some y) = declaration.eq-value.it x y
is_same _ _ = false

-- an output and an input of one object type
abbrev pub are_ends : List Declaration → Option Declaration → Option Declaration → Bool
are_ends ds (Some x) (Some y) = is_output x.sort && (is_input y.sort && is_same (type_of ds x) (type_of ds y))
are_ends ds _ _ = true

abbrev pub end_found : List Declaration → List (List ℕ) → Environment → EndNode → EndNode → Option Finding
end_found ds names at first other =
    unless (are_ends ds (reference_at ds names at first) (reference_at ds names at other) && not (same_name first.handle.id other.handle.id)) other.handle.place 20

abbrev pub ties_found : List Declaration → List (List ℕ) → Environment → EndNode → List EndNode → Option Finding
ties_found ds names at first others = least_at (end_found ds names at first) others None

-- two types that are there are one
abbrev pub agree : Option Declaration → Option Declaration → Bool
agree (Some x) (Some y) = declaration.eq-value.it x y
agree _ _ = true

abbrev pub target_agrees : List Declaration → Option Declaration → Checked Target → Bool
target_agrees ds (Some pool) (Is target) = agree (type_of ds pool) (type_of ds target.need)
target_agrees ds _ _ = true

abbrev pub targets_found : List Declaration → Place → Name → List Name → Name → Name → Option Finding
targets_found ds component pool instances action reference =
    unless (target_agrees ds (named_in ds component is_pool pool) (target_of ds component instances action reference)) (first_name instances action).place 20

-- ---- bodies

-- a name that stands for a local, or for nothing
abbrev pub may_be_assigned : Option Referent → Bool
may_be_assigned (Some r) = is_declared is_local r
may_be_assigned None = true

abbrev pub assigns_found : List Declaration → List (List ℕ) → Environment → Name → Option Finding
assigns_found ds names at name = unless (may_be_assigned (stands_for ds names at name.id)) name.place 21

-- ---- traversals and calls

abbrev pub performed_found : Place → Option DeclaredAction → Option Finding
performed_found place None = None
performed_found place (Some a) = unless (not a.is_abstract) place 17

abbrev pub performs_found : List UnitTree → List Declaration → List (List ℕ) → Environment → Place → Traversal → Option Finding
performs_found units ds names at place traversal = performed_found place (option_and_then (λ d. action_at units d.name.place) (traversed ds names at traversal))

abbrev pub is_void : AnswerTree → Bool
is_void (AnswerVoid place) = true
is_void (AnswerPlain plain) = false

-- as many arguments as parameters, and a value where one is needed
abbrev pub passes_right : ℕ → Bool → Option DeclaredFunction → Bool
passes_right arguments needed None = true
passes_right arguments needed (Some f) = nat_eq arguments (length f.parameters) && not (needed && is_void f.answer)

abbrev pub passes_found : List UnitTree → List Declaration → Option Place → Name → ℕ → Bool → Option Finding
passes_found units ds component name arguments needed =
    unless (passes_right arguments needed (option_and_then (λ d. function_at units d.name.place) (type_here ds component name.id))) name.place 21
