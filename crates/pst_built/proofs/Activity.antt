-- What a filled-in activity keeps, and that it is the scenario's.
use Rattle.std.proofs.Common.{◌≡◌, ℕ, zero, suc, ◌≤◌, ℤ, not, List, [], ◌∷◌, ◌++◌, map, length, take, Option, Some, None, refl, sym, ap, ◌∙◌, subst, arith, append-nil, length-append, length-take, inl, inr, ⊎_elim}
use Rattle.std.specs.Prelude.{slice_get}
use Rattle.std.specs.List.{AllZip}
use Rattle.std.proofs.lemmas.Option.{none-some}
use Rattle.pst_expr.specs.Value.{is_false}
use Rattle.pst_model.specs.ActivityTree.{StepTree, Traverse, Sequence, Parallel, Schedule, Joined, Select, Repeat, If, Match, ArmTree, arms_of, step_of}
use Rattle.pst_model.specs.ModelTree.{ModelTree, ActionTree, ContentTree, Atomic, Compound}
use Rattle.pst_scen.specs.declared.tree.Node.{Node}
use Rattle.pst_scen.specs.declared.tree.Fill.TheVariants as fill
use Rattle.pst_scen.specs.declared.act.Act.{Act}
use Rattle.pst_scen.specs.declared.scenario.Scenario.{Scenario}
use Rattle.pst_scen.specs.Scenarios.{leaf_of, leaves_of}
use Rattle.pst_legal.specs.Growing.{nothing_yet, Look, Inner, Leaf, open_act, with_look, most_nodes, most_levels, IsWithin}
use Rattle.pst_legal.specs.Pieces.{Context, Piece, Action, Statement, Turning, IsContent, IsMatchWay, IsStatementWay, IsWay}
use Rattle.pst_legal.specs.Reading.{read_piece}
use Rattle.pst_legal.specs.Fits.{Filling, FillAll, Fills, Fits, IsSameLeaf}
use Rattle.pst_built.proofs.Parents.{get_cases}
use Rattle.pst_built.proofs.Leaves.{leaves_push}
use Rattle.pst_built.specs.Reached.{IsReached}
use Rattle.pst_built.specs.Parts.{bare_act, leaves_alone}
use Rattle.pst_built.specs.ReachedLaws.{ActivitiesAreRead}
use Rattle.pst_built.proofs.ReachedNodes.{same_leaves}
use Rattle.pst_built.proofs.Tree.{led_piece}

-- an inner node is no leaf
abbrev IsInner : Look → Type 0
IsInner (Inner f) = (n : ℕ) → leaf_of n f ≡ []
IsInner (Leaf action instance) = Unit {0}

-- nothing is known of the actions, which are those of the leaves
record IsOpen (m : ModelTree) (level : ℕ) (s : Scenario) : Type 0 where
  of_level : s.level ≡ level
  no_firsts : s.firsts ≡ []
  many : length s.actions ≡ length (leaves_of s.nodes)
  opens : (k : ℕ) (act : Act) → slice_get s.actions k ≡ Some act → act ≡ open_act m act.action act.instance act.node

inner_as : (look other : Look) → look ≡ other → IsInner other → IsInner look
inner_as look other e is = subst IsInner (sym e) is

content_inner : (type : ActionTree) (content : ContentTree) (action instance : ℕ) (look : Look) (below : List Piece) → IsContent type content action instance look below → IsInner look
content_inner type (Atomic body) action instance look below way = inner_as look (Leaf action instance) way.0 tt
content_inner type (Compound activity) action instance look below way = inner_as look (Inner (fill.Compound action instance way.0)) way.2 (λ n. refl)

match_inner : (c : Context) (v : ℤ) (arms : List ArmTree) (other : Option StepTree) (look : Look) (below : List Piece) → IsMatchWay c v arms other look below → IsInner look
match_inner c v arms other look below (inl way) = inner_as look (Inner (fill.Match (Some way.0))) way.3 (λ n. refl)
match_inner c v arms other look below (inr way) = let at = way.1 in inner_as look (Inner (fill.Match None)) at.2 (λ n. refl)

statement_inner : (m : ModelTree) (c : Context) (step : StepTree) (look : Look) (below : List Piece) → IsStatementWay m c step look below → IsInner look
statement_inner m c (Traverse action handle inline) look below way = content_inner way.type way.type.content action way.instance look below way.content
statement_inner m c (Sequence steps) look below way = inner_as look (Inner fill.Sequence) way.0 (λ n. refl)
statement_inner m c (Parallel steps) look below way = inner_as look (Inner fill.Parallel) way.0 (λ n. refl)
statement_inner m c (Schedule steps) look below way = inner_as look (Inner fill.Schedule) way.0 (λ n. refl)
statement_inner m c (Joined parallel join steps) look below way = inner_as look (Inner (fill.Joined parallel way.0)) way.2 (λ n. refl)
statement_inner m c (Select rows) look below way = inner_as look (Inner (fill.Select way.index)) way.looks (λ n. refl)
statement_inner m c (Repeat count body) look below way = inner_as look (Inner fill.Repeat) way.2 (λ n. refl)
statement_inner m c (If condition holds fails) look below way = inner_as look (Inner (fill.If (not (is_false way.0)))) way.2 (λ n. refl)
statement_inner m c (Match matched arms other) look below way = match_inner c way.0 (arms_of arms) (step_of other) look below way.2

way_inner : (m : ModelTree) (piece : Piece) (look : Look) (below : List Piece) → IsWay m piece look below → IsInner look
way_inner m (Action action top) look below way = content_inner way.type way.type.content action way.instance look below way.content
way_inner m (Statement c step) look below way = statement_inner m c step look below way
way_inner m (Turning c index body) look below way = inner_as look (Inner (fill.Turn index)) way.0 (λ n. refl)

-- ---- one node more

open_look : (m : ModelTree) (level : ℕ) (s : Scenario) (parent : Option ℕ) (look : Look) → IsInner look → IsOpen m level s → IsOpen m level (with_look m s parent look)
open_look m level s parent (Inner f) inner is =
    let node : Node = record { parent = parent; fill = f } in
    let same : leaves_of (s.nodes ++ node ∷ []) ≡ leaves_of s.nodes =
    leaves_push s.nodes node ∙ ap (λ ls. leaves_of s.nodes ++ ls) (inner (length s.nodes)) ∙ append-nil (leaves_of s.nodes) in
    record { of_level = is.of_level; no_firsts = is.no_firsts; many = is.many ∙ sym (ap length same); opens = is.opens }
open_look m level s parent (Leaf action instance) inner is =
    let node : Node = record { parent = parent; fill = fill.Leaf (length s.actions) } in
    let act = open_act m action instance (Some (length s.nodes)) in
    let more = ap length (leaves_push s.nodes node) in
    let long = length-append (leaves_of s.nodes) ((length s.actions, length s.nodes) ∷ []) in
    let acts = length-append s.actions (act ∷ []) in
    record {
      of_level = is.of_level;
      no_firsts = is.no_firsts;
      many = omega (arith, is.many, more, long, acts);
      opens = λ k x at.
          ⊎_elim (λ (old : slice_get s.actions k ≡ Some x). is.opens k x old)
          (λ (new : (k ≡ length s.actions) × (act ≡ x)). subst (λ y. y ≡ open_act m y.action y.instance y.node) new.1 refl)
          (get_cases s.actions act k x at);
    }

abbrev Keeps : ModelTree → ℕ → Filling → Type 0
Keeps m level One = (x : Piece) (parent : Option ℕ) (before after : Scenario) → IsOpen m level before → One x parent before after → IsOpen m level after

all_keep : (m : ModelTree) (level : ℕ) (One : Filling) → Keeps m level One → (xs : List Piece) (parent : ℕ) (before after : Scenario) → IsOpen m level before → FillAll One xs parent before after → IsOpen m level after
all_keep m level One keeps [] parent before after is h = subst (IsOpen m level) (sym h) is
all_keep m level One keeps (x ∷ xs) parent before after is h = all_keep m level One keeps xs parent h.0 after (keeps x (Some parent) before h.0 is h.1) h.2

piece_keeps : (m : ModelTree) (level levels : ℕ) → Keeps m level (Fills m levels)
piece_keeps m level zero x parent before after is h = absurd h
piece_keeps m level (suc levels) x parent before after is h =
    all_keep m level (Fills m levels) (piece_keeps m level levels) h.1 (length before.nodes) (with_look m before parent h.0) after
    (open_look m level before parent h.0 (way_inner m x h.0 h.1 h.2) is) h.3

nothing_open : (m : ModelTree) (level : ℕ) → IsOpen m level (nothing_yet level)
nothing_open m level = record { of_level = refl; no_firsts = refl; many = refl; opens = λ k act at. absurd (none-some act at) }

-- ---- the scenario's own activity

-- the elements of the front of a list are the list's
front : {A : Type 0} (n : ℕ) (xs : List A) (k : ℕ) (x : A) → slice_get (take n xs) k ≡ Some x → slice_get xs k ≡ Some x
front zero xs k x at = absurd (none-some x at)
front (suc n) [] k x at = absurd (none-some x at)
front (suc n) (y ∷ ys) zero x at = at
front (suc n) (y ∷ ys) (suc k) x at = front n ys k x at

pub tree_is : (m : ModelTree) (root : ℕ) (s : Scenario) → (fits : Fits m root s) → fits.tree.tree ≡ leaves_alone s
tree_is m root s fits =
    let tree = fits.tree.tree in
    let is = piece_keeps m s.level most_levels (Action root None) None (nothing_yet s.level) tree (nothing_open m s.level) fits.tree.fills in
    let many : length tree.actions ≡ length (leaves_of s.nodes) = is.many ∙ ap (λ ns. length (leaves_of ns)) (sym fits.tree.nodes) in
    let acts : map bare_act (take (length tree.actions) s.actions) ≡ tree.actions =
    same_leaves m (take (length tree.actions) s.actions) tree.actions (λ k act at. fits.values.acts k act (front (length tree.actions) s.actions k act at)) is.opens fits.tree.leaves in
    let same : tree.actions ≡ map bare_act (take (length (leaves_of s.nodes)) s.actions) = sym acts ∙ ap (λ n. map bare_act (take n s.actions)) many in
    λ i. record { level = is.of_level i; nodes = sym fits.tree.nodes i; actions = same i; firsts = is.no_firsts i }

-- the leaves are actions of the scenario
pub tree_within : (s : Scenario) (tree : Scenario) → AllZip IsSameLeaf (take (length tree.actions) s.actions) tree.actions → length tree.actions ≤ length s.actions
tree_within s tree zip = omega (arith, zipped (take (length tree.actions) s.actions) tree.actions zip, length-take (length tree.actions) s.actions)
  where
    zipped : (xs ys : List Act) → AllZip IsSameLeaf xs ys → length xs ≡ length ys
    zipped [] [] z = refl
    zipped [] (y ∷ ys) z = absurd z
    zipped (x ∷ xs) [] z = absurd z
    zipped (x ∷ xs) (y ∷ ys) z = ap suc (zipped xs ys z.1)

pub activities_read : ActivitiesAreRead
activities_read m root seed s sound is fits =
    let tree = fits.tree.tree in
    let few = tree_within s tree fits.tree.leaves in
    let within : IsWithin tree.nodes tree.actions = record {
      few_nodes = subst (λ ns. length ns ≤ most_nodes) fits.tree.nodes fits.within.few_nodes;
      few_acts = omega (arith, few, fits.within.few_acts);
    } in
    subst (λ t. IsReached (read_piece m seed most_levels (Action root None) None) (nothing_yet s.level) 0 t) (tree_is m root s fits)
    (led_piece m sound seed most_levels (Action root None) tt None (nothing_yet s.level) tree 0 within fits.tree.fills)
