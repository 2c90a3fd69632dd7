-- What versions find.
use Rattle.std.proofs.Common.{◌≡◌, ℕ, ◌<◌, List, ◌∷◌, [], ◌++◌, length, ap, ◌∙◌, Option, arith}
use Rattle.std.specs.Prelude.{Some, None, slice_get}
use Rattle.std.proofs.lemmas.List.{length-append}
use Rattle.std.proofs.lemmas.Option.{slice_get_within}
use Rattle.std.specs.Option.{option_and_then}
use Rattle.pst_members.specs.declared.node.Node.{Node}
use Rattle.pst_members.specs.declared.node.Node.TheVariants.{Empty, Leaf, Branch}
use Rattle.pst_members.specs.declared.versions.Versions.{Versions}
use Rattle.pst_members.specs.Nodes.{at_node, found_within, found_from}
use Rattle.pst_members.specs.Found.{found, count, Keeps, IsStored, StandsBelow}
use Rattle.pst_members.proofs.Arena.{finds_at, still_finds, added_finds}

-- of the same nodes
pub unchanged : (old new : Versions) → new.nodes.items ≡ old.nodes.items → Keeps old new
unfolding found
unchanged old new same = record {
  more = omega (arith, ap (λ (ns : List Node). length ns) same);
  same = λ version key _. ap (λ (ns : List Node). found_from ns version key) same;
}

-- a node was added
pub added : (old new : Versions) (node : Node) → new.nodes.items ≡ old.nodes.items ++ node ∷ [] → Keeps old new
unfolding found
added old new node is = record {
  more = omega (arith, ap (λ (ns : List Node). length ns) is, length-append old.nodes.items (node ∷ []));
  same = λ version key le. ap (λ (ns : List Node). found_from ns version key) is ∙ still_finds old.nodes.items old.stored (node ∷ []) version key le;
}

pub stored : (old new : Versions) (node : Node) (at : ℕ) → new.nodes.items ≡ old.nodes.items ++ node ∷ [] → at ≡ count old → StandsBelow (count old) (count old) node → IsStored old node new at
unfolding found
stored old new node at is last stands = record {
  there = omega (arith, last, ap (λ (ns : List Node). length ns) is, length-append old.nodes.items (node ∷ []));
  finds = λ q. ap (λ (ns : List Node). found_from ns at q) is ∙ ap (λ (n : ℕ). found_from (old.nodes.items ++ node ∷ []) n q) last ∙ added_finds old.nodes.items old.stored node q stands;
}

-- what a version finds that isn't there
pub absent_at : (versions : Versions) (at : ℕ) → slice_get versions.nodes.items at ≡ None → (q : ℕ) → found versions at q ≡ None
unfolding found
absent_at versions at e q = ap (λ (x : Option Node). option_and_then (at_node (found_within at versions.nodes.items) q) x) e

pub at_place : (versions : Versions) (at : ℕ) (node : Node) → slice_get versions.nodes.items at ≡ Some node → (q : ℕ) → found versions at q ≡ at_node (found versions) q node
unfolding found
at_place versions at node e q = finds_at versions.nodes.items versions.stored at q node e

pub stands_below : (versions : Versions) (at : ℕ) (node : Node) → at < count versions → slice_get versions.nodes.items at ≡ Some node → StandsBelow at (count versions) node
stands_below versions at Empty le e = tt
stands_below versions at (Leaf key value) le e = tt
stands_below versions at (Branch even odd) le e = let parts = versions.stored.earlier at even odd e in (parts.0, parts.1, omega (arith, le))

-- the version of number 0 finds nothing
pub finds_nothing : (versions : Versions) (q : ℕ) → found versions 0 q ≡ None
finds_nothing versions q = at_place versions 0 Empty versions.stored.empty q

pub keeps_on : (a b c : Versions) → Keeps a b → Keeps b c → Keeps a c
keeps_on a b c first second = record {
  more = omega (arith, first.more, second.more);
  same = λ version key le. second.same version key (omega (arith, le, first.more)) ∙ first.same version key le;
}

pub is_there : (versions : Versions) → 0 < count versions
is_there versions = slice_get_within versions.nodes.items 0 Empty versions.stored.empty
