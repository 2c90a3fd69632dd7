-- Names of what a model holds are printed.
use Rattle.std.proofs.Common.{◌≡◌, ℕ, ◌+◌, List, [], ◌∷◌, ◌++◌, get_or, refl, decimal}
use Rattle.std.specs.Prelude.{All, ℤ, codes, Option, None, Some, slice_get}
use Rattle.std.specs.Fmt.{signed_decimal}
use Rattle.std.proofs.lemmas.List.Elements.{All-append, All-cons, All-nil}
use Rattle.pst_base.specs.declared.table.NameId.{NameId}
use Rattle.pst_model.specs.declared.action.Field.{Field}
use Rattle.pst_model.specs.declared.action.Reference.{Reference}
use Rattle.pst_model.specs.declared.action.Claim.{Claim}
use Rattle.pst_model.specs.declared.model.Part.{Part}
use Rattle.pst_model.specs.declared.model.Pool.{Pool}
use Rattle.pst_model.specs.ModelTree.{ModelTree, ActionTree}
use Rattle.pst_trace_texts.specs.Named.{name, parent_path, path_of, paths_from, paths, pool_text, type_text, reference_name, claim_name}
use Rattle.pst_trace_texts.specs.Header.{element_text, value_text, values_text, used_text}
use Rattle.pst_trace_texts.specs.Lines.{each_from}
use Rattle.pst_written_traces.proofs.Printed.{Printed, joined, number, signed, at_most}

-- texts one after another
pub each : {X : Type 0} (text : ℕ → X → List ℕ) (items : List X) → ((number : ℕ) (item : X) → Printed (text number item)) → (number : ℕ) → Printed (each_from text number items)
each text [] own number = refl
each text (item ∷ items) own number = joined (text number item) (each_from text (number + 1) items) (own number item) (each text items own (number + 1))

module _ (names : List (List ℕ)) (own : All (λ n. Printed n) names) where
  pub name_printed : (id : NameId) → Printed (name names id)
  name_printed id = at_most names id.0 own

  -- ---- paths

  parent_printed : (known : List (List ℕ)) → All (λ n. Printed n) known → (parent : Option ℕ) → Printed (parent_path known parent)
  parent_printed known all None = refl
  parent_printed known all (Some parent) = joined (get_or known parent []) (codes ".") (at_most known parent all) refl

  from_printed : (known : List (List ℕ)) → All (λ n. Printed n) known → (parts : List Part) → All (λ n. Printed n) (paths_from names known parts)
  from_printed known all [] = all
  from_printed known all (part ∷ parts) =
      from_printed (known ++ path_of names known part ∷ [])
      (All-append (λ n. Printed n) known (path_of names known part ∷ []) all
      (All-cons (λ n. Printed n) (path_of names known part) [] (joined (parent_path known part.parent) (name names part.name) (parent_printed known all part.parent) (name_printed part.name)) (All-nil (λ n. Printed n)))) parts

  paths_printed : (m : ModelTree) → All (λ n. Printed n) (paths names m)
  paths_printed m = from_printed [] (All-nil (λ n. Printed n)) m.instances

  pub path_printed : (m : ModelTree) (instance : ℕ) → Printed (get_or (paths names m) instance [])
  path_printed m instance = at_most (paths names m) instance (paths_printed m)

  pub pool_printed : (m : ModelTree) (pool : Option Pool) → Printed (pool_text names m pool)
  pool_printed m None = refl
  pool_printed m (Some pool) =
      joined (get_or (paths names m) pool.instance [] ++ codes ".") (name names pool.name)
      (joined (get_or (paths names m) pool.instance []) (codes ".") (path_printed m pool.instance) refl) (name_printed pool.name)

  -- ---- types

  pub type_printed : (type : Option ActionTree) → Printed (type_text names type)
  type_printed None = refl
  type_printed (Some type) =
      joined (name names type.component ++ codes "::") (name names type.name) (joined (name names type.component) (codes "::") (name_printed type.component) refl) (name_printed type.name)

  pub reference_printed : (reference : Option Reference) → Printed (reference_name names reference)
  reference_printed None = refl
  reference_printed (Some reference) = name_printed reference.name

  pub claim_printed : (claim : Option Claim) → Printed (claim_name names claim)
  claim_printed None = refl
  claim_printed (Some claim) = name_printed claim.name

  pub used_printed : (m : ModelTree) (instance action : ℕ) → Printed (used_text names m instance action)
  used_printed m instance action =
      joined (get_or (paths names m) instance [] ++ codes " ") (type_text names (slice_get m.actions action))
      (joined (get_or (paths names m) instance []) (codes " ") (path_printed m instance) refl) (type_printed (slice_get m.actions action))

  -- ---- values

  element_printed : (element : Option ℕ) → Printed (element_text element)
  element_printed None = refl
  element_printed (Some index) = joined (codes "[" ++ decimal index) (codes "]") (joined (codes "[") (decimal index) refl (number index)) refl

  value_printed : (before : List ℕ) → Printed before → (field : Option Field) (value : ℤ) → Printed (value_text names before field value)
  value_printed before first None value = refl
  value_printed before first (Some field) value =
      let one = joined (codes " ") before refl first in
      let two = joined (codes " " ++ before) (name names field.name) one (name_printed field.name) in
      let three = joined ((codes " " ++ before) ++ name names field.name) (element_text field.element) two (element_printed field.element) in
      let four = joined (((codes " " ++ before) ++ name names field.name) ++ element_text field.element) (codes "=") three refl in
      joined ((((codes " " ++ before) ++ name names field.name) ++ element_text field.element) ++ codes "=") (signed_decimal value) four (signed value)

  pub values_printed : (before : List ℕ) → Printed before → (fields : List Field) (values : List ℤ) → Printed (values_text names before fields values)
  values_printed before first fields values = each (λ at value. value_text names before (slice_get fields at) value) values (λ at value. value_printed before first (slice_get fields at) value) 0
