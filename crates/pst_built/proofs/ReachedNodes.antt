-- One node more, and the values of its action.
use Rattle.std.proofs.Common.{◌≡◌, ℕ, suc, ◌+◌, ◌≤◌, ℤ, List, [], ◌∷◌, ◌++◌, map, length, take, drop, true, Option, Some, refl, sym, ap, ap₂, ◌∙◌, subst, arith, append_assoc, append-nil, length-append}
use Rattle.std.specs.Prelude.{slice_get}
use Rattle.std.specs.List.{enumerate_from, AllZip}
use Rattle.std.specs.Option.{option_and_then, unwrap_or}
use Rattle.std.proofs.lemmas.Option.{same_Some}
use Rattle.std.proofs.lemmas.Bool.{le-leb, and_from}
use Rattle.pst_model.specs.declared.action.Reference.{Reference}
use Rattle.pst_model.specs.ModelTree.{ModelTree, ActionTree}
use Rattle.pst_scen.specs.declared.tree.Node.{Node}
use Rattle.pst_scen.specs.declared.tree.Fill.{Fill}
use Rattle.pst_scen.specs.declared.tree.Fill.TheVariants as fill
use Rattle.pst_scen.specs.declared.act.Act.{Act}
use Rattle.pst_scen.specs.declared.act.Filled.{Filled}
use Rattle.pst_scen.specs.declared.act.Flow.TheVariants.{BufferIn}
use Rattle.pst_scen.specs.declared.act.Link.TheVariants.{Nothing}
use Rattle.pst_scen.specs.declared.scenario.Scenario.{Scenario}
use Rattle.pst_legal.specs.Types.{served, reference_flow}
use Rattle.pst_legal.specs.Growing.{Look, Inner, Leaf, open_reference, open_references, open_act, with_look, most_nodes, most_acts, IsWithin, is_within}
use Rattle.pst_legal.specs.Reading.{with_value, node_with_value, put_value}
use Rattle.pst_legal.specs.Fits.{IsSameLeaf, IsActOf}
use Rattle.pst_built.specs.Parts.{without_link, bare_act}
use Rattle.pst_built.proofs.Lists.{same_rows}
use Rattle.pst_built.proofs.Menus.{filled_with, look_with}

-- ---- the values of the last node's action

put_last : (v : ℤ) (nodes : List Node) (node : Node)
    → take (length nodes) (nodes ++ node ∷ []) ++ (node_with_value v (slice_get (nodes ++ node ∷ []) (length nodes)) ++ drop (suc (length nodes)) (nodes ++ node ∷ []))
    ≡ nodes ++ record node { fill = with_value v node.fill } ∷ []
put_last v [] node = refl
put_last v (x ∷ xs) node = ap (λ ns. x ∷ ns) (put_last v xs node)

value_with : (f : Fill) (known : List ℤ) (v : ℤ) → with_value v (filled_with f known) ≡ filled_with f (known ++ v ∷ [])
value_with (fill.Compound action instance fields) known v = ap (fill.Compound action instance) (append_assoc fields known (v ∷ []))
value_with (fill.Leaf act) known v = refl
value_with fill.Sequence known v = refl
value_with fill.Parallel known v = refl
value_with fill.Schedule known v = refl
value_with (fill.Joined parallel joined) known v = refl
value_with (fill.Select branch) known v = refl
value_with fill.Repeat known v = refl
value_with (fill.Turn index) known v = refl
value_with (fill.If taken) known v = refl
value_with (fill.Match arm) known v = refl

none_with : (f : Fill) → filled_with f [] ≡ f
none_with (fill.Compound action instance fields) = ap (fill.Compound action instance) (append-nil fields)
none_with (fill.Leaf act) = refl
none_with fill.Sequence = refl
none_with fill.Parallel = refl
none_with fill.Schedule = refl
none_with (fill.Joined parallel joined) = refl
none_with (fill.Select branch) = refl
none_with fill.Repeat = refl
none_with (fill.Turn index) = refl
none_with (fill.If taken) = refl
none_with (fill.Match arm) = refl

-- before any value is known
pub look_none : (look : Look) → look_with look [] ≡ look
look_none (Inner f) = ap Inner (none_with f)
look_none (Leaf action instance) = refl

pub put_look : (m : ModelTree) (s : Scenario) (parent : Option ℕ) (look : Look) (known : List ℤ) (v : ℤ)
    → put_value (with_look m s parent (look_with look known)) (length s.nodes) v ≡ with_look m s parent (look_with look (known ++ v ∷ []))
put_look m s parent (Inner f) known v =
    let nodes = put_last v s.nodes (record { parent = parent; fill = filled_with f known })
    ∙ ap (λ g. s.nodes ++ record { parent = parent; fill = g } ∷ []) (value_with f known v) in
    ap (λ ns. record s { nodes = ns }) nodes
put_look m s parent (Leaf action instance) known v =
    ap (λ ns. record { level = s.level; nodes = ns; actions = s.actions ++ open_act m action instance (Some (length s.nodes)) ∷ []; firsts = s.firsts })
    (put_last v s.nodes (record { parent = parent; fill = fill.Leaf (length s.actions) }))

-- ---- sizes

pub record IsAtMost (s t : Scenario) : Type 0 where
  pub nodes : length s.nodes ≤ length t.nodes
  pub acts : length s.actions ≤ length t.actions

pub at_most_same : (s t : Scenario) → t ≡ s → IsAtMost s t
at_most_same s t e = subst (λ u. IsAtMost s u) (sym e) (record { nodes = omega arith; acts = omega arith })

pub at_most_trans : (s t u : Scenario) → IsAtMost s t → IsAtMost t u → IsAtMost s u
at_most_trans s t u a b = record { nodes = omega (arith, a.nodes, b.nodes); acts = omega (arith, a.acts, b.acts) }

pub look_grows : (m : ModelTree) (s : Scenario) (parent : Option ℕ) (look : Look) → IsAtMost s (with_look m s parent look)
look_grows m s parent (Inner f) = record { nodes = omega (arith, length-append s.nodes (record { parent = parent; fill = f } ∷ [])); acts = omega arith }
look_grows m s parent (Leaf action instance) = record {
  nodes = omega (arith, length-append s.nodes (record { parent = parent; fill = fill.Leaf (length s.actions) } ∷ []));
  acts = omega (arith, length-append s.actions (open_act m action instance (Some (length s.nodes)) ∷ []));
}

-- a node has one size, whatever its values are
pub look_start_small : (m : ModelTree) (s t : Scenario) (parent : Option ℕ) (look : Look) (values : List ℤ) → IsAtMost (with_look m s parent (look_with look values)) t → IsWithin t.nodes t.actions
    → is_within (with_look m s parent look) ≡ true
look_start_small m s t parent (Inner f) values most within =
    let here = length-append s.nodes (record { parent = parent; fill = f } ∷ []) in
    let there = length-append s.nodes (record { parent = parent; fill = filled_with f values } ∷ []) in
    and_from _ _
    (le-leb (length (s.nodes ++ record { parent = parent; fill = f } ∷ [])) most_nodes (omega (arith, here, there, most.nodes, within.few_nodes)))
    (le-leb (length s.actions) most_acts (omega (arith, most.acts, within.few_acts)))
look_start_small m s t parent (Leaf action instance) values most within =
    let u = with_look m s parent (Leaf action instance) in
    and_from _ _ (le-leb (length u.nodes) most_nodes (omega (arith, most.nodes, within.few_nodes))) (le-leb (length u.actions) most_acts (omega (arith, most.acts, within.few_acts)))

-- ---- an action of which nothing more is known

pub bare_is_open : (m : ModelTree) (act : Act) → IsActOf m act → bare_act act ≡ open_act m act.action act.instance act.node
bare_is_open m act of =
    let rows : map without_link act.references ≡ map (open_reference m act.action act.instance) (enumerate_from 0 of.type.references) =
    same_rows without_link (open_reference m act.action act.instance) 0 act.references of.type.references of.many_references each in
    ap (λ rs. record { action = act.action; instance = act.instance; node = act.node; fields = []; references = rs; claims = [] })
    (rows ∙ ap (open_references m act.action act.instance) (sym of.is))
  where
    each : (k : ℕ) (filled : Filled) (reference : Reference) → slice_get act.references k ≡ Some filled → slice_get of.type.references k ≡ Some reference → without_link filled ≡ open_reference m act.action act.instance (0 + k, reference)
    each k filled reference is at =
        let r = of.references k filled is in
        let here : 0 + k ≡ k = omega arith in
        let own : slice_get of.type.references k ≡ Some r.reference = sym (ap (option_and_then (λ (t : ActionTree). slice_get t.references k)) of.is) ∙ r.is in
        let same : r.reference ≡ reference = same_Some r.reference reference (sym own ∙ at) in
        let pool : filled.pool ≡ unwrap_or (served m act.action act.instance (0 + k)) 0 = sym (ap (λ n. unwrap_or (served m act.action act.instance n) 0) here ∙ ap (λ o. unwrap_or o 0) r.pool) in
        let flow : filled.flow ≡ unwrap_or (reference_flow m reference) BufferIn = sym (ap (λ x. unwrap_or (reference_flow m x) BufferIn) (sym same) ∙ ap (λ o. unwrap_or o BufferIn) r.flow) in
        λ i. record { pool = pool i; flow = flow i; values = []; link = Nothing }

-- the same leaves, of which nothing more is known
pub same_leaves : (m : ModelTree) (acts leaves : List Act) → ((k : ℕ) (act : Act) → slice_get acts k ≡ Some act → IsActOf m act)
    → ((k : ℕ) (leaf : Act) → slice_get leaves k ≡ Some leaf → leaf ≡ open_act m leaf.action leaf.instance leaf.node) → AllZip IsSameLeaf acts leaves → map bare_act acts ≡ leaves
same_leaves m [] [] of opens zip = refl
same_leaves m [] (y ∷ ys) of opens zip = absurd zip
same_leaves m (x ∷ xs) [] of opens zip = absurd zip
same_leaves m (x ∷ xs) (y ∷ ys) of opens zip =
    ap₂ (λ a b. a ∷ b)
    (bare_is_open m x (of 0 x refl) ∙ (λ i. open_act m (zip.0.action i) (zip.0.instance i) (zip.0.node i)) ∙ sym (opens 0 y refl))
    (same_leaves m xs ys (λ k act is. of (suc k) act is) (λ k leaf is. opens (suc k) leaf is) zip.1)
