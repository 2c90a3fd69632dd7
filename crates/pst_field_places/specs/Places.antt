-- Places at which the fields of compound actions are given values.
use Rattle.std.specs.Prelude.{◌≡◌, ℕ, ℤ, List, [], ◌∷◌, ◌++◌, length, Some, slice_get}
use Rattle.pst_model.specs.declared.action.Field.{Field}
use Rattle.pst_model.specs.ModelTree.{ModelTree}
use Rattle.pst_scen.specs.declared.tree.Node.{Node}
use Rattle.pst_scen.specs.declared.tree.Fill.TheVariants as fill
use Rattle.pst_scen.specs.declared.scenario.Scenario.{Scenario}
use Rattle.pst_legal.specs.Growing.{nothing_yet}
use Rattle.pst_legal.specs.Pieces.{Piece}
use Rattle.pst_legal.specs.Reading.{Reads, Reader, then_read, read_fields, read_pieces, read_piece, read_tree}
use Rattle.pst_built.specs.Onward.{Keeps}
use Rattle.pst_field_places.specs.declared.place.FieldPlace.{FieldPlace}

-- the pieces that are left below a node, each with so many levels
pub record Pending : Type 0 where
  pub levels : ℕ
  pub pieces : List Piece
  pub parent : ℕ

-- what is left below each node on the way up, one after another
abbrev pub read_left : ModelTree → ℕ → List Pending → Reader
read_left m seed [] s place left = Reads s place left
read_left m seed (below ∷ above) s place left =
    then_read (read_pieces (read_piece m seed below.levels) below.pieces below.parent s place left) (read_left m seed above)

-- Behind these choices the values of the fields are next, of the compound action of the node, of which the values known are
-- given: whatever choices are left, they give these values, then what stands below the node is read, and then what is left above.
pub record IsAtField (m : ModelTree) (root seed level : ℕ) (choices : List ℕ) (node : ℕ) (fields : List Field) : Type 0 where
  pub so_far : Scenario
  pub firsts : so_far.firsts ≡ []
  pub entry : Node
  pub action : ℕ
  pub instance : ℕ
  pub known : List ℤ
  pub is : slice_get so_far.nodes node ≡ Some entry
  pub has : entry.fill ≡ fill.Compound action instance known
  pub levels : ℕ
  pub below : List ℤ → List Piece
  pub above : List Pending
  pub goes : (left : List ℕ) → read_tree m seed root (nothing_yet level) 0 (choices ++ left)
      ≡ then_read (read_fields seed node fields known (λ values. read_pieces (read_piece m seed levels) (below values) node) so_far (length choices) left) (read_left m seed above)

-- The place at hand is one of a field.
abbrev pub IsFieldPlace : ModelTree → ℕ → ℕ → ℕ → List ℕ → FieldPlace → Type 0
IsFieldPlace m root seed level choices place = IsAtField m root seed level choices place.node place.fields.now

-- a compound action of that type stands at the node, and its first values are these
pub record HasValues (nodes : List Node) (n action : ℕ) (first : List ℤ) : Type 0 where
  pub node : Node
  pub instance : ℕ
  pub values : List ℤ
  pub is : slice_get nodes n ≡ Some node
  pub has : node.fill ≡ fill.Compound action instance values
  pub keeps : Keeps first values
