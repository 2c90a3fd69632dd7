-- The nodes and leaves of a filled-in activity are of types of their kind, in instances that there are.
use Rattle.std.proofs.Common.{◌≡◌, ℕ, zero, suc, ◌<◌, ℤ, List, [], ◌∷◌, length, not, ◌&&◌, Option, Some, None, refl, sym, ap, subst, inl, inr, ⊎_elim}
use Rattle.std.specs.Prelude.{slice_get}
use Rattle.std.specs.List.{enumerate_from, filter, AllZip}
use Rattle.std.proofs.lemmas.Option.{none-some, slice_get_within}
use Rattle.pst_expr.specs.Value.{is_false}
use Rattle.pst_model.specs.declared.action.Field.{Field}
use Rattle.pst_model.specs.declared.model.Part.{Part}
use Rattle.pst_model.specs.ActivityTree.{StepTree, Traverse, Sequence, Parallel, Schedule, Joined, Select, Repeat, If, Match, ArmTree, arms_of, step_of}
use Rattle.pst_model.specs.ModelTree.{ModelTree, ActionTree, ContentTree, Atomic, Compound}
use Rattle.pst_scen.specs.declared.tree.Node.{Node}
use Rattle.pst_scen.specs.declared.tree.Fill.{Fill}
use Rattle.pst_scen.specs.declared.tree.Fill.TheVariants as fill
use Rattle.pst_scen.specs.declared.act.Act.{Act}
use Rattle.pst_scen.specs.declared.scenario.Scenario.{Scenario}
use Rattle.pst_legal.specs.Types.{type_of, activity_in, same_name, is_under, action_instances}
use Rattle.pst_legal.specs.Growing.{nothing_yet, Look, Inner, Leaf, open_act, with_look}
use Rattle.pst_legal.specs.Pieces.{Context, Piece, Action, Statement, Turning, IsValueOf, IsContent, IsActionWay, IsMatchWay, IsStatementWay, IsWay}
use Rattle.pst_legal.specs.Shape.{HasCompoundShape}
use Rattle.pst_legal.specs.Fits.{Filling, FillAll, Fills}
use Rattle.pst_built.proofs.Members.{In, in_map, in_filter, in_numbered}
use Rattle.pst_built.proofs.Parents.{get_cases}
use Rattle.pst_built.proofs.Lists.{in_contains}

pub instance_there : (m : ModelTree) (type : ActionTree) (top : Option ℕ) (instance : ℕ) → In instance (action_instances m (Some type) top) → instance < length m.instances
instance_there m type top instance has =
    let i = in_map (λ (e : ℕ × Part). e.0) (filter (λ e. same_name e.1.component type.component && is_under m top e.0) (enumerate_from 0 m.instances)) instance has in
    let f = in_filter (λ (e : ℕ × Part). same_name e.1.component type.component && is_under m top e.0) (enumerate_from 0 m.instances) i.0 i.1 in
    subst (λ n. n < length m.instances) i.2 (slice_get_within m.instances i.0.0 i.0.1 (in_numbered m.instances i.0 f.0))

-- an action of an atomic type, in an instance that there is
pub record IsAtomicAct (m : ModelTree) (action instance : ℕ) : Type 0 where
  pub type : ActionTree
  pub is : type_of m action ≡ Some type
  pub atomic : activity_in type.content ≡ None
  pub inside : instance < length m.instances

abbrev FillFits : ModelTree → Fill → Type 0
FillFits m f = (action instance : ℕ) (fields : List ℤ) → f ≡ fill.Compound action instance fields → HasCompoundShape m action instance fields

abbrev LookFits : ModelTree → Look → Type 0
LookFits m (Inner f) = FillFits m f
LookFits m (Leaf action instance) = IsAtomicAct m action instance

look_as : (m : ModelTree) (look other : Look) → look ≡ other → LookFits m other → LookFits m look
look_as m look other e is = subst (LookFits m) (sym e) is

values_many : (fields : List Field) (values : List ℤ) → AllZip IsValueOf fields values → length values ≡ length fields
values_many [] [] zip = refl
values_many [] (v ∷ values) zip = absurd zip
values_many (field ∷ fields) [] zip = absurd zip
values_many (field ∷ fields) (v ∷ values) zip = ap suc (values_many fields values zip.1)

compound_parts : (a b i j : ℕ) (xs ys : List ℤ) → fill.Compound a i xs ≡ fill.Compound b j ys → (a ≡ b) × (i ≡ j) × (xs ≡ ys)
compound_parts a b i j xs ys e = (cc, cc, cc)

content_fits : (m : ModelTree) (action instance : ℕ) (type : ActionTree) → type_of m action ≡ Some type → instance < length m.instances → (content : ContentTree) → type.content ≡ content → (look : Look) (below : List Piece)
    → IsContent type content action instance look below → LookFits m look
content_fits m action instance type is inside (Atomic body) e look below way = look_as m look (Leaf action instance) way.0 (record { type = type; is = is; atomic = ap activity_in e; inside = inside })
content_fits m action instance type is inside (Compound activity) e look below way =
    look_as m look (Inner (fill.Compound action instance way.0)) way.2
    (λ a i fields same.
    let p = compound_parts action a instance i way.0 fields same in
    subst (λ n. HasCompoundShape m n i fields) p.0 (subst (λ n. HasCompoundShape m action n fields) p.1 (subst (HasCompoundShape m action instance) p.2
    (record { type = type; is = is; activity = activity; compound = ap activity_in e; inside = inside; many = values_many type.fields way.0 way.1 }))))

action_fits : (m : ModelTree) (action : ℕ) (top : Option ℕ) (look : Look) (below : List Piece) → IsActionWay m action top look below → LookFits m look
action_fits m action top look below way =
    content_fits m action way.instance way.type way.is (instance_there m way.type top way.instance (in_contains (action_instances m (Some way.type) top) way.instance way.inside)) way.type.content refl look below way.content

match_fits : (m : ModelTree) (c : Context) (v : ℤ) (arms : List ArmTree) (other : Option StepTree) (look : Look) (below : List Piece) → IsMatchWay c v arms other look below → LookFits m look
match_fits m c v arms other look below (inl way) = look_as m look (Inner (fill.Match (Some way.0))) way.3 (λ a i fields e. absurd cc)
match_fits m c v arms other look below (inr way) = let at = way.1 in look_as m look (Inner (fill.Match None)) at.2 (λ a i fields e. absurd cc)

statement_fits : (m : ModelTree) (c : Context) (step : StepTree) (look : Look) (below : List Piece) → IsStatementWay m c step look below → LookFits m look
statement_fits m c (Traverse action handle inline) look below way = action_fits m action (Some c.instance) look below way
statement_fits m c (Sequence steps) look below way = look_as m look (Inner fill.Sequence) way.0 (λ a i fields e. absurd cc)
statement_fits m c (Parallel steps) look below way = look_as m look (Inner fill.Parallel) way.0 (λ a i fields e. absurd cc)
statement_fits m c (Schedule steps) look below way = look_as m look (Inner fill.Schedule) way.0 (λ a i fields e. absurd cc)
statement_fits m c (Joined parallel join steps) look below way = look_as m look (Inner (fill.Joined parallel way.0)) way.2 (λ a i fields e. absurd cc)
statement_fits m c (Select rows) look below way = look_as m look (Inner (fill.Select way.index)) way.looks (λ a i fields e. absurd cc)
statement_fits m c (Repeat count body) look below way = look_as m look (Inner fill.Repeat) way.2 (λ a i fields e. absurd cc)
statement_fits m c (If condition holds fails) look below way = look_as m look (Inner (fill.If (not (is_false way.0)))) way.2 (λ a i fields e. absurd cc)
statement_fits m c (Match matched arms other) look below way = match_fits m c way.0 (arms_of arms) (step_of other) look below way.2

way_fits : (m : ModelTree) (piece : Piece) (look : Look) (below : List Piece) → IsWay m piece look below → LookFits m look
way_fits m (Action action top) look below way = action_fits m action top look below way
way_fits m (Statement c step) look below way = statement_fits m c step look below way
way_fits m (Turning c index body) look below way = look_as m look (Inner (fill.Turn index)) way.0 (λ a i fields e. absurd cc)

-- ---- all nodes and leaves

pub record AreKinds (m : ModelTree) (s : Scenario) : Type 0 where
  pub nodes : (n : ℕ) (node : Node) → slice_get s.nodes n ≡ Some node → FillFits m node.fill
  pub leaves : (a : ℕ) (act : Act) → slice_get s.actions a ≡ Some act → IsAtomicAct m act.action act.instance

kinds_look : (m : ModelTree) (s : Scenario) (parent : Option ℕ) (look : Look) → LookFits m look → AreKinds m s → AreKinds m (with_look m s parent look)
kinds_look m s parent (Inner f) fits are = record {
  nodes = λ n node at.
      ⊎_elim (λ old. are.nodes n node old) (λ new. subst (λ (x : Node). FillFits m x.fill) new.1 fits) (get_cases s.nodes (record { parent = parent; fill = f }) n node at);
  leaves = are.leaves;
}
kinds_look m s parent (Leaf action instance) fits are = record {
  nodes = λ n node at.
      ⊎_elim (λ old. are.nodes n node old) (λ new. subst (λ (x : Node). FillFits m x.fill) new.1 (λ a i fields e. absurd cc)) (get_cases s.nodes (record { parent = parent; fill = fill.Leaf (length s.actions) }) n node at);
  leaves = λ a act at.
      ⊎_elim (λ old. are.leaves a act old) (λ new. subst (λ (x : Act). IsAtomicAct m x.action x.instance) new.1 fits) (get_cases s.actions (open_act m action instance (Some (length s.nodes))) a act at);
}

abbrev Keeps : ModelTree → Filling → Type 0
Keeps m One = (x : Piece) (parent : Option ℕ) (before after : Scenario) → AreKinds m before → One x parent before after → AreKinds m after

all_keep : (m : ModelTree) (One : Filling) → Keeps m One → (xs : List Piece) (parent : ℕ) (before after : Scenario) → AreKinds m before → FillAll One xs parent before after → AreKinds m after
all_keep m One keeps [] parent before after are h = subst (AreKinds m) (sym h) are
all_keep m One keeps (x ∷ xs) parent before after are h = all_keep m One keeps xs parent h.0 after (keeps x (Some parent) before h.0 are h.1) h.2

piece_keeps : (m : ModelTree) (levels : ℕ) → Keeps m (Fills m levels)
piece_keeps m zero x parent before after are h = absurd h
piece_keeps m (suc levels) x parent before after are h =
    all_keep m (Fills m levels) (piece_keeps m levels) h.1 (length before.nodes) (with_look m before parent h.0) after (kinds_look m before parent h.0 (way_fits m x h.0 h.1 h.2) are) h.3

pub tree_kinds : (m : ModelTree) (levels root level : ℕ) (tree : Scenario) → Fills m levels (Action root None) None (nothing_yet level) tree → AreKinds m tree
tree_kinds m levels root level tree fills =
    piece_keeps m levels (Action root None) None (nothing_yet level) tree (record { nodes = λ n node at. absurd (none-some node at); leaves = λ a act at. absurd (none-some act at) }) fills
