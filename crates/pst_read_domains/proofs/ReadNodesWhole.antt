-- The sources and the values change no node, so what nodes stand for stays.
use Rattle.std.proofs.Common.{◌≡◌, ℕ, List, [], ◌∷◌, ◌++◌, length, Bool, true, false, Option, Some, None, refl, sym, ap, ◌∙◌, subst, arith}
use Rattle.std.specs.Prelude.{slice_get}
use Rattle.std.proofs.lemmas.Option.{slice_get_within}
use Rattle.std.proofs.lemmas.Bool.{false≢true}
use Rattle.pst_model.specs.ActivityTree.{StepTree, Traverse, Sequence, Parallel, Schedule, Joined, Select, Repeat, If, Match}
use Rattle.pst_model.specs.ModelTree.{ModelTree}
use Rattle.pst_scen.specs.declared.tree.Fill.{Fill}
use Rattle.pst_scen.specs.declared.tree.Fill.TheVariants as fill
use Rattle.pst_scen.specs.declared.act.Act.{Act}
use Rattle.pst_scen.specs.declared.scenario.Scenario.{Scenario}
use Rattle.pst_legal.specs.Growing.{nothing_yet}
use Rattle.pst_legal.specs.Pieces.{Piece, Action, Statement, Turning}
use Rattle.pst_legal.specs.Reading.{Reading, Wants, Stops, Reads, Reader, then_read, read_tree}
use Rattle.pst_legal.specs.SupplyReading.{Spot, Source, Initially, From, New, supplied_by, read_supply}
use Rattle.pst_legal.specs.Blanks.{Blank, Instance, OfFirst, OfAct, OfOutput, OfClaim, claim_blanks, value_blanks}
use Rattle.pst_legal.specs.Statements.{IsBranch}
use Rattle.pst_legal.specs.ValueReading.{with_option, with_firsts, read_values, answer_of, read_all}
use Rattle.pst_built.specs.StepsOf.{BlankSteps}
use Rattle.pst_built.proofs.Goes.{Stands, stands}
use Rattle.pst_built.proofs.Readers.{goes_supply, goes_values}
use Rattle.pst_built.proofs.Lists.{get_below}
use Rattle.pst_built.specs.SoFar.{HasRead}
use Rattle.pst_built.specs.Onward.{Each, MoreAct}
use Rattle.pst_built.proofs.ReadOnwardLinks.{onward_supplied}
use Rattle.pst_built.proofs.ReadOnwardValues.{onward_option}
use Rattle.pst_read_domains.specs.Stood.{Suits, IsPiece}
use Rattle.pst_read_domains.specs.ReadNodesLaws.{NodesStandForPieces, ReadLeavesHaveActions}
use Rattle.pst_read_domains.proofs.Tree.{TypesStay, piece_more, SomeStand, Result, tree_read}

-- ---- no node changes, and no action's type

record Settled (s t : Scenario) : Type 0 where
  nodes : t.nodes ≡ s.nodes
  types : TypesStay s.actions t.actions

settled_same : (s : Scenario) → Settled s s
settled_same s = record { nodes = refl; types = λ k x is. (x, is, refl) }

settled_then : (s t u : Scenario) → Settled s t → Settled t u → Settled s u
settled_then s t u one other = record {
  nodes = other.nodes ∙ one.nodes;
  types = λ k x is. let y = one.types k x is in let z = other.types k y.0 y.1 in (z.0, z.1, z.2 ∙ y.2);
}

of_acts : (xs ys : List Act) → Each MoreAct xs ys → TypesStay xs ys
of_acts xs ys more k x is = let y = more k x is in (y.0, y.1, y.2.action)

supplied_nodes : (m : ModelTree) (s : Scenario) (need : Spot) (source : Source) → (supplied_by m s need source).nodes ≡ s.nodes
supplied_nodes m s need Initially = refl
supplied_nodes m s need (From b q) = refl
supplied_nodes m s need (New action instance q) = refl

option_nodes : (m : ModelTree) (k : ℕ) (blank : Blank) (s : Scenario) → (with_option m k blank s).nodes ≡ s.nodes
option_nodes m k (Instance act claim) s = refl
option_nodes m k (OfFirst pool field) s = refl
option_nodes m k (OfAct act field) s = refl
option_nodes m k (OfOutput act reference field) s = refl
option_nodes m k (OfClaim act claim field) s = refl

settled_option : (m : ModelTree) (k : ℕ) (blank : Blank) (s : Scenario) → Settled s (with_option m k blank s)
settled_option m k blank s = record { nodes = option_nodes m k blank s; types = of_acts s.actions (with_option m k blank s).actions (onward_option m k blank s).acts }

blank_steps : (m : ModelTree) (blanks : List Blank) (s : Scenario) → BlankSteps Settled m blanks s
blank_steps m [] s = tt
blank_steps m (blank ∷ more) s = λ k l. (settled_option m k blank s, blank_steps m more (with_option m k blank s))

stay_standing : (m : ModelTree) (root : ℕ) (s t : Scenario) → Settled s t → SomeStand m root s → SomeStand m root t
stay_standing m root s t settled (pieces, stand) =
    let e = settled.nodes in (
      pieces,
      record {
        long = stand.long ∙ sym (ap length e);
        first = stand.first;
        suits = λ n node piece is at. piece_more s t settled.types piece node.fill (stand.suits n node piece (ap (λ ns. slice_get ns n) (sym e) ∙ is) at);
        under = λ n index child node piece below is at branch has.
            stand.under n index child node piece below (ap (λ ns. slice_get ns n) (sym e) ∙ is) at (subst (λ ns. IsBranch ns n index child) e branch) has;
        earlier = λ n parent node is own. stand.earlier n parent node (ap (λ ns. slice_get ns n) (sym e) ∙ is) own;
      },
    )

-- ---- whatever is read

module _ (m : ModelTree) (root : ℕ) where
  abbrev Ok : Reading → Type 0
  Ok (Wants t n) = SomeStand m root t
  Ok Stops = Unit {0}
  Ok (Reads t place left) = SomeStand m root t

  then_ok : (r : Reading) (g : Reader) → Ok r → ((t : Scenario) (p : ℕ) (left : List ℕ) → SomeStand m root t → Ok (g t p left)) → Ok (then_read r g)
  then_ok (Wants t n) g ok each = ok
  then_ok Stops g ok each = tt
  then_ok (Reads t p left) g ok each = each t p left ok

  of_result : (s : Scenario) (parent : Option ℕ) (pieces : List Piece) (r : Reading) → Result m root s parent pieces r → Ok r
  of_result s parent pieces (Wants t n) is = is
  of_result s parent pieces Stops is = tt
  of_result s parent pieces (Reads t p left) (more, stand, grown) = (more, stand)

  of_stands : (s : Scenario) (r : Reading) → Stands Settled s r → SomeStand m root s → Ok r
  of_stands s (Wants t n) settled some = stay_standing m root s t settled some
  of_stands s Stops settled some = tt
  of_stands s (Reads t p left) settled some = stay_standing m root s t settled some

  all_ok : (seed level : ℕ) (choices : List ℕ) → Ok (read_all m seed root (nothing_yet level) 0 choices)
  all_ok seed level choices =
      then_ok (then_read (read_tree m seed root (nothing_yet level) 0 choices) (read_supply m seed)) (read_values m seed)
      (then_ok (read_tree m seed root (nothing_yet level) 0 choices) (read_supply m seed) (of_result (nothing_yet level) None [] (read_tree m seed root (nothing_yet level) 0 choices) (tree_read m root seed level 0 choices))
      (λ t p left some. of_stands t (read_supply m seed t p left)
      (stands Settled t (read_supply m seed t p left) (λ more. read_supply m seed t p (left ++ more))
      (goes_supply Settled settled_same settled_then m seed
      (λ u need source k is there. record { nodes = supplied_nodes m u need source; types = of_acts u.actions (supplied_by m u need source).actions (onward_supplied m u need source k is there).acts }) left t p)) some))
      (λ t p left some. of_stands t (read_values m seed t p left)
      (stands Settled t (read_values m seed t p left) (λ more. read_values m seed t p (left ++ more))
      (goes_values Settled settled_same settled_then m seed t p left
      (record { firsts = record { nodes = refl; types = λ k x is. (x, is, refl) }; claims = blank_steps m (claim_blanks m t.actions) (with_firsts m t); values = λ u h. blank_steps m (value_blanks m t.actions) u }))) some)

  of_read : (r : Reading) (s : Scenario) → Ok r → HasRead (answer_of r) s → SomeStand m root s
  of_read (Wants t n) s ok has = subst (SomeStand m root) has ok
  of_read Stops s ok has = absurd has
  of_read (Reads t p []) s ok has = subst (SomeStand m root) has ok
  of_read (Reads t p (d ∷ left)) s ok has = absurd has

pub some_stand : NodesStandForPieces
some_stand m root seed level choices s has = of_read m root (read_all m seed root (nothing_yet level) 0 choices) s (all_ok m root seed level choices) has

-- ---- leaves

abbrev is_leaf : Fill → Bool
is_leaf (fill.Leaf act) = true
is_leaf _ = false

no_leaf : {P : Type 0} (a : ℕ) (f : Fill) → is_leaf f ≡ false → fill.Leaf a ≡ f → P
no_leaf a f other same = absurd (false≢true (sym other ∙ ap is_leaf (sym same)))

leaf_suits : (s : Scenario) (a : ℕ) (step : StepTree) → Suits s step (fill.Leaf a) → (act : Act) × (slice_get s.actions a ≡ Some act)
leaf_suits s a (Traverse action handle inline) (act, at, e) = (act, at)
leaf_suits s a (Sequence steps) e = no_leaf a fill.Sequence refl e
leaf_suits s a (Parallel steps) e = no_leaf a fill.Parallel refl e
leaf_suits s a (Schedule steps) e = no_leaf a fill.Schedule refl e
leaf_suits s a (Joined parallel join steps) (joined, e) = no_leaf a (fill.Joined parallel joined) refl e
leaf_suits s a (Select rows) (branch, e) = no_leaf a (fill.Select branch) refl e
leaf_suits s a (Repeat count body) e = no_leaf a fill.Repeat refl e
leaf_suits s a (If condition holds fails) (taken, e) = no_leaf a (fill.If taken) refl e
leaf_suits s a (Match matched arms other) (arm, e) = no_leaf a (fill.Match arm) refl e

leaf_piece : (s : Scenario) (a : ℕ) (piece : Piece) → IsPiece s piece (fill.Leaf a) → (act : Act) × (slice_get s.actions a ≡ Some act)
leaf_piece s a (Action action top) (act, at, e) = (act, at)
leaf_piece s a (Statement c step) is = leaf_suits s a step is
leaf_piece s a (Turning c index body) e = no_leaf a (fill.Turn index) refl e

pub read_leaves : ReadLeavesHaveActions
read_leaves m root seed level choices s has n node a is leaf =
    let some = some_stand m root seed level choices s has in
    let l = slice_get_within s.nodes n node is in
    let e = some.1.long in
    let piece = get_below some.0 n (omega (arith, l, e)) in
    leaf_piece s a piece.0 (subst (IsPiece s piece.0) leaf (some.1.suits n node piece.0 is piece.1))
