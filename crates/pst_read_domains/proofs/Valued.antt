-- The values of compound actions are of their domains.
use Rattle.std.proofs.Common.{◌≡◌, ℕ, zero, suc, ℤ, List, [], ◌∷◌, length, not, Option, Some, None, sym, subst, inl, inr, ⊎_elim}
use Rattle.std.specs.Prelude.{slice_get}
use Rattle.std.specs.List.{AllZip}
use Rattle.std.proofs.lemmas.Option.{none-some}
use Rattle.pst_expr.specs.Value.{is_false}
use Rattle.pst_model.specs.ActivityTree.{StepTree, Traverse, Sequence, Parallel, Schedule, Joined, Select, Repeat, If, Match, ArmTree, arms_of, step_of}
use Rattle.pst_model.specs.ModelTree.{ModelTree, ActionTree, ContentTree, Atomic, Compound}
use Rattle.pst_scen.specs.declared.tree.Node.{Node}
use Rattle.pst_scen.specs.declared.tree.Fill.{Fill}
use Rattle.pst_scen.specs.declared.tree.Fill.TheVariants as fill
use Rattle.pst_scen.specs.declared.scenario.Scenario.{Scenario}
use Rattle.pst_legal.specs.Types.{type_of}
use Rattle.pst_legal.specs.Growing.{nothing_yet, Look, Inner, Leaf, with_look}
use Rattle.pst_legal.specs.Pieces.{Context, Piece, Action, Statement, Turning, IsValueOf, IsContent, IsMatchWay, IsStatementWay, IsWay}
use Rattle.pst_legal.specs.Fits.{Filling, FillAll, Fills}
use Rattle.pst_built.proofs.Parents.{get_cases}

-- a compound action has values of its type's fields
abbrev pub FillValued : ModelTree → Fill → Type 0
FillValued m f = (action instance : ℕ) (values : List ℤ) → f ≡ fill.Compound action instance values → (type : ActionTree) × (type_of m action ≡ Some type) × AllZip IsValueOf type.fields values

abbrev LookValued : ModelTree → Look → Type 0
LookValued m (Inner f) = FillValued m f
LookValued m (Leaf action instance) = Unit {0}

as_look : (m : ModelTree) (look other : Look) → look ≡ other → LookValued m other → LookValued m look
as_look m look other e is = subst (LookValued m) (sym e) is

parts : (a b i j : ℕ) (xs ys : List ℤ) → fill.Compound a i xs ≡ fill.Compound b j ys → (a ≡ b) × (xs ≡ ys)
parts a b i j xs ys e = (cc, cc)

content_valued : (m : ModelTree) (action instance : ℕ) (type : ActionTree) → type_of m action ≡ Some type → (content : ContentTree) (look : Look) (below : List Piece) → IsContent type content action instance look below → LookValued m look
content_valued m action instance type is (Atomic body) look below way = as_look m look (Leaf action instance) way.0 tt
content_valued m action instance type is (Compound activity) look below way =
    as_look m look (Inner (fill.Compound action instance way.0)) way.2
    (λ a i values same.
    let p = parts action a instance i way.0 values same in
    (type, subst (λ n. type_of m n ≡ Some type) p.0 is, subst (AllZip IsValueOf type.fields) p.1 way.1))

match_valued : (m : ModelTree) (c : Context) (v : ℤ) (arms : List ArmTree) (other : Option StepTree) (look : Look) (below : List Piece) → IsMatchWay c v arms other look below → LookValued m look
match_valued m c v arms other look below (inl way) = as_look m look (Inner (fill.Match (Some way.0))) way.3 (λ a i values e. absurd cc)
match_valued m c v arms other look below (inr way) = let at = way.1 in as_look m look (Inner (fill.Match None)) at.2 (λ a i values e. absurd cc)

statement_valued : (m : ModelTree) (c : Context) (step : StepTree) (look : Look) (below : List Piece) → IsStatementWay m c step look below → LookValued m look
statement_valued m c (Traverse action handle inline) look below way = content_valued m action way.instance way.type way.is way.type.content look below way.content
statement_valued m c (Sequence steps) look below way = as_look m look (Inner fill.Sequence) way.0 (λ a i values e. absurd cc)
statement_valued m c (Parallel steps) look below way = as_look m look (Inner fill.Parallel) way.0 (λ a i values e. absurd cc)
statement_valued m c (Schedule steps) look below way = as_look m look (Inner fill.Schedule) way.0 (λ a i values e. absurd cc)
statement_valued m c (Joined parallel join steps) look below way = as_look m look (Inner (fill.Joined parallel way.0)) way.2 (λ a i values e. absurd cc)
statement_valued m c (Select rows) look below way = as_look m look (Inner (fill.Select way.index)) way.looks (λ a i values e. absurd cc)
statement_valued m c (Repeat count body) look below way = as_look m look (Inner fill.Repeat) way.2 (λ a i values e. absurd cc)
statement_valued m c (If condition holds fails) look below way = as_look m look (Inner (fill.If (not (is_false way.0)))) way.2 (λ a i values e. absurd cc)
statement_valued m c (Match matched arms other) look below way = match_valued m c way.0 (arms_of arms) (step_of other) look below way.2

way_valued : (m : ModelTree) (piece : Piece) (look : Look) (below : List Piece) → IsWay m piece look below → LookValued m look
way_valued m (Action action top) look below way = content_valued m action way.instance way.type way.is way.type.content look below way.content
way_valued m (Statement c step) look below way = statement_valued m c step look below way
way_valued m (Turning c index body) look below way = as_look m look (Inner (fill.Turn index)) way.0 (λ a i values e. absurd cc)

-- ---- all nodes

abbrev pub AreValued : ModelTree → List Node → Type 0
AreValued m nodes = (n : ℕ) (node : Node) → slice_get nodes n ≡ Some node → FillValued m node.fill

valued_look : (m : ModelTree) (s : Scenario) (parent : Option ℕ) (look : Look) → LookValued m look → AreValued m s.nodes → AreValued m (with_look m s parent look).nodes
valued_look m s parent (Inner f) is are n node at =
    ⊎_elim (λ old. are n node old) (λ new. subst (λ (x : Node). FillValued m x.fill) new.1 is) (get_cases s.nodes (record { parent = parent; fill = f }) n node at)
valued_look m s parent (Leaf action instance) is are n node at =
    ⊎_elim (λ old. are n node old) (λ new. subst (λ (x : Node). FillValued m x.fill) new.1 (λ a i values e. absurd cc)) (get_cases s.nodes (record { parent = parent; fill = fill.Leaf (length s.actions) }) n node at)

abbrev Keeps : ModelTree → Filling → Type 0
Keeps m One = (x : Piece) (parent : Option ℕ) (before after : Scenario) → AreValued m before.nodes → One x parent before after → AreValued m after.nodes

all_keep : (m : ModelTree) (One : Filling) → Keeps m One → (xs : List Piece) (parent : ℕ) (before after : Scenario) → AreValued m before.nodes → FillAll One xs parent before after → AreValued m after.nodes
all_keep m One keeps [] parent before after are h = subst (λ (u : Scenario). AreValued m u.nodes) (sym h) are
all_keep m One keeps (x ∷ xs) parent before after are h = all_keep m One keeps xs parent h.0 after (keeps x (Some parent) before h.0 are h.1) h.2

piece_keeps : (m : ModelTree) (levels : ℕ) → Keeps m (Fills m levels)
piece_keeps m zero x parent before after are h = absurd h
piece_keeps m (suc levels) x parent before after are h =
    all_keep m (Fills m levels) (piece_keeps m levels) h.1 (length before.nodes) (with_look m before parent h.0) after (valued_look m before parent h.0 (way_valued m x h.0 h.1 h.2) are) h.3

pub tree_valued : (m : ModelTree) (levels root level : ℕ) (tree : Scenario) → Fills m levels (Action root None) None (nothing_yet level) tree → AreValued m tree.nodes
tree_valued m levels root level tree fills = piece_keeps m levels (Action root None) None (nothing_yet level) tree (λ n node at. absurd (none-some node at)) fills
