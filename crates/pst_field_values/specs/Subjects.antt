-- The action whose fields are read, and where the constraints stand that rest on them.
use Rattle.std.specs.Prelude.{◌≡◌, ◌⊎◌, ℕ, List, Bool, true, false, Option, Some, IfSome, slice_get}
use Rattle.pst_model.specs.ConstraintTree.{SlotTree, Own, Through, Outer}
use Rattle.pst_model.specs.ModelTree.{ModelTree}
use Rattle.pst_scen.specs.declared.tree.Node.{Node}
use Rattle.pst_legal.specs.Slots.{node_behind}
use Rattle.pst_constraint_sites.specs.Sites.{SiteTree, AtNode, AtTraversal, AtAct, AtOutput, AtClaim, AtFirst}
use Rattle.pst_field_values.specs.declared.subject.Subject.{Subject}
use Rattle.pst_field_values.specs.declared.subject.Position.{Position}
use Rattle.pst_field_values.specs.declared.subject.Position.TheVariants as position
use Rattle.pst_field_values.specs.Fields.{field_count}

abbrev pub site_of : Subject → Position → SiteTree
site_of subject position.Itself = AtNode subject.node
site_of subject (position.Traversal indices) = AtTraversal subject.node subject.top indices.items
site_of subject position.Around = AtNode subject.top

-- ---- slots that are fields of the action

abbrev pub IsHandle : Subject → ℕ → Bool → Type 0
IsHandle subject handle true = subject.handle ≡ Some handle
IsHandle subject handle false = Unit {0}

-- a slot of the action round it
abbrev pub IsBehind : Subject → SlotTree → ℕ → Type 0
IsBehind subject slot field = (handle : ℕ) × (subject.handle ≡ Some handle) × (slot ≡ Through handle (Own field))

-- a slot of an inline constraint at its traversal
abbrev pub IsFieldInline : Subject → SlotTree → ℕ → Type 0
IsFieldInline subject slot field = (slot ≡ Own field) ⊎ ((inner : SlotTree) × (slot ≡ Outer inner) × IsBehind subject inner field)

abbrev pub IsFieldAt : Subject → Position → SlotTree → ℕ → Type 0
IsFieldAt subject position.Itself slot field = slot ≡ Own field
IsFieldAt subject (position.Traversal indices) slot field = IsFieldInline subject slot field
IsFieldAt subject position.Around slot field = IsBehind subject slot field

-- ---- the nodes

abbrev pub HasNode : List Node → ℕ → Type 0
HasNode nodes n = (node : Node) × (slice_get nodes n ≡ Some node)

-- the nodes of a site are there
abbrev pub IsThere : List Node → SiteTree → Type 0
IsThere nodes (AtNode n) = HasNode nodes n
IsThere nodes (AtTraversal n top indices) = HasNode nodes n × HasNode nodes top
IsThere nodes (AtAct act) = ⊥
IsThere nodes (AtOutput act reference) = ⊥
IsThere nodes (AtClaim act claim) = ⊥
IsThere nodes (AtFirst pool) = ⊥

-- the handle, if there is one, leads from one node to the other
abbrev pub Leads : ModelTree → List Node → ℕ → ℕ → Option ℕ → Type 0
Leads m nodes top n handle = IfSome handle (λ h. node_behind m nodes top h ≡ Some n)

-- the action has so many fields, and is traversed by the handle
pub record IsReached (m : ModelTree) (nodes : List Node) (subject : Subject) : Type 0 where
  pub fields : subject.fields ≡ field_count m nodes subject.node
  pub leads : Leads m nodes subject.top subject.node subject.handle
