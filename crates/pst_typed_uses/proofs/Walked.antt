-- What a walk leaves in a judge.
use Rattle.std.proofs.Common.{◌≡◌, ◌++◌, ℕ, List, [], ◌∷◌, Option, refl, sym, ap, ◌∙◌}
use Rattle.std.specs.Prelude.{Some, None, map}
use Rattle.std.specs.List.{fold, flat_map}
use Rattle.std.proofs.lemmas.List.{append-nil, append_assoc}
use Rattle.pst_ast.specs.DeclarationView.{view_unit}
use Rattle.pst_ast.specs.declared.declaration.Unit.{Unit}
use Rattle.pst_ast.specs.declared.scope_declaration.Declaration.{Declaration}
use Rattle.pst_ast.specs.declared.referent.Finding.{Finding}
use Rattle.pst_ast.specs.Declarations.{declarations}
use Rattle.pst_ast.specs.Uses.{Use, Judges, HasPlain, HasType, Uniques, Branches, Arms, Performs, Ties, Passes, Reads, Repeats, TakesItem, NamesType, NamesBase, Calls, Assigns, Traverses, Ends, Joins, Binds, Targets}
use Rattle.pst_type_rules.specs.Enums.{enums}
use Rattle.pst_type_rules.specs.declared.typed.ConstantValue.{ConstantValue}
use Rattle.pst_name_rules.specs.Earlier.{earlier}
use Rattle.pst_name_rules.specs.Leasts.{least_at}
use Rattle.pst_evaluate.specs.Kept.{Kept, known_in}
use Rattle.pst_enum_values.specs.Gathered.{EnumPlaces, enum_places}
use Rattle.pst_typed_uses.specs.Judged.{Judged, judged}
use Rattle.pst_typed_uses.specs.Found.{use_found, constants_in}

no_later : (found : Option Finding) → earlier found None ≡ found
no_later None = refl
no_later (Some f) = refl

module _ (sources : List Unit) (names : List (List ℕ)) (items : Kept) where
  abbrev judge : Option Finding → List ConstantValue → Judged
  judge least constants = record { units = sources; ds = declarations (map view_unit sources); enums = map enum_places (enums (map view_unit sources)); names = names; items = items; least = least; constants = constants }

  abbrev found : Use → Option Finding
  found u = use_found (map view_unit sources) names (known_in items) u

  abbrev constants_of : Use → List ConstantValue
  constants_of u = constants_in (map view_unit sources) names (known_in items) u

  -- a use that is only judged, and one that isn't
  plain : (least : Option Finding) (f : Option Finding) (constants : List ConstantValue) → judge (earlier least f) constants ≡ judge (earlier least f) (constants ++ [])
  plain least f constants = ap (judge (earlier least f)) (sym (append-nil constants))

  nothing : (least : Option Finding) (constants : List ConstantValue) → judge least constants ≡ judge (earlier least None) (constants ++ [])
  nothing least constants = ap (λ (f : Option Finding). judge f constants) (sym (no_later least)) ∙ plain least None constants

  step : (u : Use) (least : Option Finding) (constants : List ConstantValue) → judged (judge least constants) u ≡ judge (earlier least (found u)) (constants ++ constants_of u)
  step (Judges at role expr) least constants = refl
  step (HasPlain at p) least constants = plain least (found (HasPlain at p)) constants
  step (HasType at type) least constants = plain least (found (HasType at type)) constants
  step (Uniques all) least constants = plain least (found (Uniques all)) constants
  step (Branches places) least constants = plain least (found (Branches places)) constants
  step (Arms at labels) least constants = plain least (found (Arms at labels)) constants
  step (Performs at place traversal) least constants = plain least (found (Performs at place traversal)) constants
  step (Ties at first others) least constants = plain least (found (Ties at first others)) constants
  step (Passes component name arguments needed) least constants = plain least (found (Passes component name arguments needed)) constants
  step (Assigns at name) least constants = plain least (found (Assigns at name)) constants
  step (Targets component pool instances action reference) least constants = plain least (found (Targets component pool instances action reference)) constants
  step (Reads at first rest) least constants = nothing least constants
  step (Repeats at first rest) least constants = nothing least constants
  step (TakesItem at component enum item) least constants = nothing least constants
  step (NamesType component wanted name) least constants = nothing least constants
  step (NamesBase action name) least constants = nothing least constants
  step (Calls component name) least constants = nothing least constants
  step (Traverses at name) least constants = nothing least constants
  step (Ends at handle reference) least constants = nothing least constants
  step (Joins labels name) least constants = nothing least constants
  step (Binds component pool) least constants = nothing least constants

  pub walked : (us : List Use) (least : Option Finding) (constants : List ConstantValue) → fold judged (judge least constants) us ≡ judge (least_at found us least) (constants ++ flat_map constants_of us)
  walked [] least constants = ap (judge least) (sym (append-nil constants))
  walked (u ∷ us) least constants =
      ap (λ (j : Judged). fold judged j us) (step u least constants)
      ∙ walked us (earlier least (found u)) (constants ++ constants_of u)
      ∙ ap (judge (least_at found us (earlier least (found u)))) (append_assoc constants (constants_of u) (flat_map constants_of us))
