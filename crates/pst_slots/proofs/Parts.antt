-- The nodes of a filled-in activity, cut into the parts of its pieces.
use Rattle.std.proofs.Common.{◌≡◌, ℕ, zero, suc, ◌+◌, List, [], ◌∷◌, ◌++◌, length, Option, Some, refl, sym, ap, ◌∙◌, subst, append_assoc, append-nil, length-append}
use Rattle.pst_model.specs.ModelTree.{ModelTree}
use Rattle.pst_scen.specs.declared.tree.Node.{Node}
use Rattle.pst_scen.specs.declared.tree.Fill.{Fill}
use Rattle.pst_scen.specs.declared.tree.Fill.TheVariants as fill
use Rattle.pst_scen.specs.declared.scenario.Scenario.{Scenario}
use Rattle.pst_legal.specs.Growing.{Look, Inner, Leaf, with_look}
use Rattle.pst_legal.specs.Pieces.{Piece, IsWay}
use Rattle.pst_legal.specs.Fits.{FillAll, Fills}

-- a node of that look
abbrev pub IsLookOf : Fill → Look → Type 0
IsLookOf f (Inner g) = f ≡ g
IsLookOf f (Leaf action instance) = (a : ℕ) × (f ≡ fill.Leaf a)

-- the nodes, from number k on, are those of the pieces in order, which stand in a parent
abbrev pub PartsOf : (Piece → Option ℕ → ℕ → List Node → Type 0) → List Piece → ℕ → ℕ → List Node → Type 0
PartsOf One [] parent k nodes = nodes ≡ []
PartsOf One (x ∷ xs) parent k nodes =
    (first : List Node) × (rest : List Node) × (nodes ≡ first ++ rest) × One x (Some parent) k first × PartsOf One xs parent (k + length first) rest

-- the nodes, from number k on, are those of the piece, which stands in a parent: its node, and then what stands below it
abbrev pub PartOf : ModelTree → ℕ → Piece → Option ℕ → ℕ → List Node → Type 0
PartOf m zero piece parent k nodes = ⊥
PartOf m (suc levels) piece parent k nodes =
    (node : Node) × (rest : List Node) × (nodes ≡ node ∷ rest) × (node.parent ≡ parent) × (look : Look) × (below : List Piece)
    × IsLookOf node.fill look × IsWay m piece look below × PartsOf (PartOf m levels) below k (k + 1) rest

look_node : Scenario → Option ℕ → Look → Node
look_node s parent (Inner f) = record { parent = parent; fill = f }
look_node s parent (Leaf action instance) = record { parent = parent; fill = fill.Leaf (length s.actions) }

with_node : (m : ModelTree) (s : Scenario) (parent : Option ℕ) (look : Look) → (with_look m s parent look).nodes ≡ s.nodes ++ look_node s parent look ∷ []
unfolding look_node
with_node m s parent (Inner f) = refl
with_node m s parent (Leaf action instance) = refl

looks : (s : Scenario) (parent : Option ℕ) (look : Look) → IsLookOf (look_node s parent look).fill look
unfolding look_node
looks s parent (Inner f) = refl
looks s parent (Leaf action instance) = (length s.actions, refl)

in_parent : (s : Scenario) (parent : Option ℕ) (look : Look) → (look_node s parent look).parent ≡ parent
unfolding look_node
in_parent s parent (Inner f) = refl
in_parent s parent (Leaf action instance) = refl

-- the second scenario has the nodes of the piece behind those of the first
pub record IsGrowth (m : ModelTree) (levels : ℕ) (piece : Piece) (parent : Option ℕ) (before after : Scenario) : Type 0 where
  pub nodes : List Node
  pub all : after.nodes ≡ before.nodes ++ nodes
  pub part : PartOf m levels piece parent (length before.nodes) nodes

pub record AreGrowth (m : ModelTree) (levels : ℕ) (pieces : List Piece) (parent : ℕ) (before after : Scenario) : Type 0 where
  pub nodes : List Node
  pub all : after.nodes ≡ before.nodes ++ nodes
  pub parts : PartsOf (PartOf m levels) pieces parent (length before.nodes) nodes

all_grow : (m : ModelTree) (levels : ℕ) → ((piece : Piece) (parent : Option ℕ) (before after : Scenario) → Fills m levels piece parent before after → IsGrowth m levels piece parent before after)
    → (pieces : List Piece) (parent : ℕ) (before after : Scenario) → FillAll (Fills m levels) pieces parent before after → AreGrowth m levels pieces parent before after
all_grow m levels each [] parent before after same = record { nodes = []; all = ap (λ (s : Scenario). s.nodes) same ∙ sym (append-nil before.nodes); parts = refl }
all_grow m levels each (x ∷ xs) parent before after (mid, one, more) =
    let first = each x (Some parent) before mid one in
    let rest = all_grow m levels each xs parent mid after more in
    let long : length mid.nodes ≡ length before.nodes + length first.nodes = ap length first.all ∙ length-append before.nodes first.nodes in
    record {
      nodes = first.nodes ++ rest.nodes;
      all = rest.all ∙ ap (λ ns. ns ++ rest.nodes) first.all ∙ append_assoc before.nodes first.nodes rest.nodes;
      parts = (first.nodes, rest.nodes, refl, first.part, subst (λ k. PartsOf (PartOf m levels) xs parent k rest.nodes) long rest.parts);
    }

pub grows : (m : ModelTree) (levels : ℕ) (piece : Piece) (parent : Option ℕ) (before after : Scenario) → Fills m levels piece parent before after → IsGrowth m levels piece parent before after
grows m zero piece parent before after fills = absurd fills
grows m (suc levels) piece parent before after (look, below, way, all) =
    let t = with_look m before parent look in
    let node = look_node before parent look in
    let rest = all_grow m levels (grows m levels) below (length before.nodes) t after all in
    let one : length t.nodes ≡ length before.nodes + 1 = ap length (with_node m before parent look) ∙ length-append before.nodes (node ∷ []) in
    record {
      nodes = node ∷ rest.nodes;
      all = rest.all ∙ ap (λ ns. ns ++ rest.nodes) (with_node m before parent look) ∙ append_assoc before.nodes (node ∷ []) rest.nodes;
      part = (
        node,
        rest.nodes,
        refl,
        in_parent before parent look,
        look,
        below,
        looks before parent look,
        way,
        subst (λ k. PartsOf (PartOf m levels) below (length before.nodes) k rest.nodes) one rest.parts,
      );
    }
