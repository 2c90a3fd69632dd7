-- Where reading stands at the value of a field, the list is at the place of that field.
use Rattle.std.proofs.Common.{◌≡◌, ℕ, List, [], ◌∷◌, length, Option, Some, None, refl, sym, ap, ◌∙◌, subst}
use Rattle.std.specs.Prelude.{slice_get}
use Rattle.pst_model.specs.declared.action.Field.{Field}
use Rattle.pst_model.specs.ModelTree.{ModelTree}
use Rattle.pst_scen.specs.declared.tree.Node.{Node}
use Rattle.pst_scen.specs.declared.scenario.Scenario.{Scenario}
use Rattle.pst_legal.specs.Reading.{Reading, Wants, Stops, Reads, Reader, then_read, read_fields, read_pieces, read_piece}
use Rattle.pst_field_places.specs.declared.place.FieldPlace.{FieldPlace}
use Rattle.pst_field_places.specs.Places.{Pending, read_left, IsAtField, IsFieldPlace}
use Rattle.pst_shape_parts.specs.Contexts.{context_of}
use Rattle.pst_shape_parts.specs.Trees.{Tree, scenario_of, values_at}
use Rattle.pst_shape_steps.specs.declared.pending.Stack.{Stack, Empty, Over'}
use Rattle.pst_shape_steps.specs.declared.pending.Fields.{Fields}
use Rattle.pst_shape_steps.specs.declared.pending.At.{At}
use Rattle.pst_shape_steps.specs.declared.pending.At.TheVariants as at
use Rattle.pst_shape_steps.specs.Pending.{pieces_of, below_fields, read_stack, IsCompound}
use Rattle.pst_shape.specs.Fields.{IsFieldAt}
use Rattle.pst_shape.specs.Made.{Stands}

-- what is left above
abbrev above_of : Stack → List Pending
above_of Empty = []
above_of (Over' levels parent frame parts pointer below) = record { levels = levels; pieces = pieces_of (context_of frame.value) parts; parent = parent } ∷ above_of below

then_same : (r : Reading) (f g : Reader) → ((s : Scenario) (p : ℕ) (left : List ℕ) → f s p left ≡ g s p left) → then_read r f ≡ then_read r g
then_same (Wants s n) f g same = refl
then_same Stops f g same = refl
then_same (Reads s p left) f g same = same s p left

stack_left : (m : ModelTree) (seed : ℕ) (stack : Stack) (s : Scenario) (p : ℕ) (left : List ℕ) → read_stack m seed stack s p left ≡ read_left m seed (above_of stack) s p left
stack_left m seed Empty s p left = refl
stack_left m seed (Over' levels parent frame parts pointer below) s p left =
    then_same (read_pieces (read_piece m seed levels) (pieces_of (context_of frame.value) parts) parent s p left) (read_stack m seed below) (read_left m seed (above_of below)) (λ t q rest. stack_left m seed below t q rest)

some_of : (o : Option Node) → IsCompound o → (x : Node) × (o ≡ Some x)
some_of None h = absurd h
some_of (Some x) h = (x, refl)

module _ (m : ModelTree) (root seed level : ℕ) (choices : List ℕ) where
  at_field : (f : Fields) (levels : ℕ) (below : _) (t : Tree) → Stands m root seed choices (at.Value f levels below) t → (node : ℕ) (fields : List Field) → node ≡ f.node → fields ≡ f.fields.now
      → IsAtField m root seed level choices node fields
  at_field f levels below t h node fields of_node of_fields =
      let s = scenario_of m level t in
      let there = some_of (slice_get t.nodes f.node) h.opens.1 in
      let compound = subst IsCompound there.1 h.opens.1 in
      let known = compound.2 in
      let p = length choices in
      let above = above_of below.value in
      let values : values_at (slice_get t.nodes f.node) ≡ known = ap values_at there.1 ∙ ap (λ g. values_at (Some (record there.0 { fill = g }))) compound.3 in
      record {
        so_far = s;
        firsts = refl;
        entry = there.0;
        action = compound.0;
        instance = compound.1;
        known = known;
        is = ap (slice_get t.nodes) of_node ∙ there.1;
        has = compound.3;
        levels = levels;
        below = below_fields f;
        above = above;
        goes = λ left. h.reads level left
            ∙ ap (λ xs. then_read (read_fields seed f.node f.fields.now xs (λ values. read_pieces (read_piece m seed levels) (below_fields f values) f.node) s p left) (read_stack m seed below.value)) values
            ∙ then_same (read_fields seed f.node f.fields.now known (λ values. read_pieces (read_piece m seed levels) (below_fields f values) f.node) s p left) (read_stack m seed below.value) (read_left m seed above) (stack_left m seed below.value)
            ∙ ap (λ n. then_read (read_fields seed n f.fields.now known (λ values. read_pieces (read_piece m seed levels) (below_fields f values) n) s p left) (read_left m seed above)) (sym of_node)
            ∙ ap (λ fs. then_read (read_fields seed node fs known (λ values. read_pieces (read_piece m seed levels) (below_fields f values) node) s p left) (read_left m seed above)) (sym of_fields);
      }

  pub is_place : (x : At) (t : Tree) (place : FieldPlace) → Stands m root seed choices x t → IsFieldAt x place → IsFieldPlace m root seed level choices place
  is_place (at.Value f levels below) t place h is = at_field f levels below t h place.node place.fields.now is.0 is.1
  is_place (at.Going stack) t place h is = absurd is
  is_place (at.Place spot levels parent below) t place h is = absurd is
  is_place at.Whole t place h is = absurd is
  is_place at.Dead t place h is = absurd is
