-- The square of direct pairs, from the order of statements, the names of references and what is replaced.
use Rattle.std.proofs.Common.{◌≡◌, ◌≢◌, ◌↔◌, ◌⊎◌, inl, inr, ⊎_elim, ◌<◌, ◌≤◌, ◌∷◌, [], ℕ, List, length, get_or, slice_get, Some, refl, sym, subst, ◌∙◌, arith}
use Rattle.std.proofs.lemmas.Bool.{cases_lt}
use Rattle.std.proofs.lemmas.Option.{slice_get-get_or}
use Rattle.pst_scen.specs.declared.rows.Rows.{Rows}
use Rattle.pst_scen.specs.declared.act.Act.{Act}
use Rattle.pst_scen.specs.declared.act.Flow.{Flow}
use Rattle.pst_scen.specs.declared.act.Flow.TheVariants.{BufferIn, StateIn, StateOut}
use Rattle.pst_scen.specs.declared.act.Link.{Link}
use Rattle.pst_scen.specs.declared.scenario.Scenario.{Scenario}
use Rattle.pst_scen.specs.Tree.{StandsUnder}
use Rattle.pst_scen.specs.Flows.{IsAct, Refers}
use Rattle.pst_scen.specs.Order.{Before, Itself, Sequence, Direct}
use Rattle.pst_scen.specs.Plans.{IsGroupNumber}
use Rattle.pst_scen.specs.Rows.{Has}
use Rattle.pst_order.specs.Facts.{IsLinked}
use Rattle.pst_order.specs.Built.{IsBuilt}
use Rattle.pst_nodes.specs.Over.{IsLeafOf}
use Rattle.pst_graph.specs.Acts.{LinksOrder, ByBuffer, BySource, ByPrevious, ByReader}
use Rattle.pst_graph.specs.Grouping.{MustDirectly}
use Rattle.pst_square.specs.Squares.{IsBlank, Adds}
use Rattle.pst_nodes.specs.Tables.{AreNodesNumbered, AreLeaves, StandsBefore, leaf_count}
use Rattle.pst_graph.specs.Named.{NamesEarlier, IsNamingIn, IsNamed}
use Rattle.pst_graph.specs.Listed.{IsReplacing}
use Rattle.pst_graph.specs.Links.{HasLink}
use Rattle.pst_square.specs.Spread.{IsSpread, AreOwn}
use Rattle.pst_graph.proofs.Acted.{referred, order_cause, cause_order}
use Rattle.pst_square.proofs.Adding.{adds_as, adds_then}
use Rattle.pst_nodes.proofs.BehindRange.{same_leaf}
use Rattle.pst_nodes.proofs.Climbs.{one_child}
use Rattle.pst_graph.proofs.Grouped.{same_group, inside}
use Rattle.pst_nodes.proofs.LeafNumbers.{built_numbered, stands_before}

pub leaves_fit : (s : Scenario) (leaves : List ℕ) → IsLinked s → AreLeaves s.nodes leaves (length s.nodes) → leaf_count s.nodes (length s.nodes) ≤ length s.actions
leaves_fit s leaves linked are = go (cases_lt (length s.actions) (leaf_count s.nodes (length s.nodes)))
  where
    go : (length s.actions < leaf_count s.nodes (length s.nodes)) ⊎ (leaf_count s.nodes (length s.nodes) ≤ length s.actions) → leaf_count s.nodes (length s.nodes) ≤ length s.actions
    go (inr few) = few
    go (inl more) =
        let many = are.many in
        let leaf = are.each (length s.actions) (omega (arith, more, many)) in
        let low = linked.leaves_in (get_or leaves (length s.actions) 0) (length s.actions) leaf.node leaf.is leaf.of_act in
        absurd (omega (arith, low))

never_itself : (s : Scenario) (a b : ℕ) → AreNodesNumbered s.nodes → StandsBefore s.nodes a b → a ≢ b
never_itself s a b numbered h same =
    let behind = h.over.has in
    let await = behind.awaited in
    let one : behind.other ≡ h.leaf = same_leaf s.nodes b behind.other h.leaf numbered behind.of_act (subst (λ (x : ℕ). IsLeafOf s.nodes x h.leaf) same h.of_act) in
    let under : StandsUnder s.nodes await.later h.leaf = subst (λ (n : ℕ). StandsUnder s.nodes await.later n) one await.under in
    let child : h.over.top ≡ await.later = one_child s.nodes await.sequence h.over.top await.later h.leaf numbered.parents await.is_child await.later_child h.over.under under in
    let order = await.order in
    omega (arith, child, order)

act_there : (acts : List Act) (a : ℕ) → a < length acts → (act : Act) × (slice_get acts a ≡ Some act)
act_there [] a within = absurd (omega (arith, within))
act_there (d ∷ more) a within = (get_or (d ∷ more) a d, slice_get-get_or (d ∷ more) a d within)

-- what a reference names comes before its action by the order of links
named_order : (one other : Act) (x a d : ℕ) → IsNamingIn other.references x a d → LinksOrder one other a
named_order one other x a d h = go h.at.naming.of_flow
  where
    has : (flow : Flow) → h.at.filled.flow ≡ flow → HasLink other.references flow a
    has flow of_flow = record { reference = h.place; filled = h.at.filled; is = h.at.is; of_flow = of_flow; leads = h.at.naming.leads }

    go : NamesEarlier h.at.filled.flow → LinksOrder one other a
    go (inl of_flow) = ByBuffer (has BufferIn of_flow)
    go (inr (inl of_flow)) = BySource (has StateIn of_flow)
    go (inr (inr of_flow)) = ByPrevious (has StateOut of_flow)

named_different : (s : Scenario) (a b : ℕ) → IsLinked s → IsNamed s a b → a ≢ b
named_different s a b linked h =
    let at = h.naming.at in
    linked.links_other b at.filled.pool a at.naming.leads.0 at.filled.flow
    (subst (λ (to : Link). Refers s b at.filled.flow at.filled.pool to) at.naming.leads.1 (referred s b h.act h.is_act h.naming.place at.filled at.is))

linked_naming : (s : Scenario) (a b : ℕ) (act : Act) (flow : Flow) → IsAct s b act → NamesEarlier flow → HasLink act.references flow a → IsNamed s a b
linked_naming s a b act flow is_act names h =
    record { act = act; is_act = is_act; naming = record { place = h.reference; at = record { filled = h.filled; is = h.is; naming = record { second = refl; of_flow = subst NamesEarlier (sym h.of_flow) names; leads = h.leads } } } }

abbrev Parts : Scenario → ℕ → ℕ → Type 0
Parts s a b = (StandsBefore s.nodes a b ⊎ IsNamed s a b) ⊎ IsReplacing s a b

parts_direct : (s : Scenario) (a b : ℕ) → IsBuilt s → a < length s.actions → Parts s a b → Direct s a b
parts_direct s a b built a_in (inl (inl h)) = (never_itself s a b (built_numbered s built) h, Sequence ((stands_before s a b built).0 h))
parts_direct s a b built a_in (inl (inr h)) =
    let one = act_there s.actions a a_in in
    (named_different s a b built.linked h, order_cause s a b one.0 h.act one.1 h.is_act (named_order one.0 h.act b a b h.naming))
parts_direct s a b built a_in (inr h) = (h.different, order_cause s a b h.one h.other h.is_one h.is_other (ByReader h.reads))

direct_parts : (s : Scenario) (a b : ℕ) → IsBuilt s → a < length s.actions → b < length s.actions → Direct s a b → Parts s a b
direct_parts s a b built a_in b_in direct = go (cause_order s a b one.0 other.0 one.1 other.1 direct.1)
  where
    one : (act : Act) × (slice_get s.actions a ≡ Some act)
    one = act_there s.actions a a_in

    other : (act : Act) × (slice_get s.actions b ≡ Some act)
    other = act_there s.actions b b_in

    links : LinksOrder one.0 other.0 a → Parts s a b
    links (ByBuffer h) = inl (inr (linked_naming s a b other.0 BufferIn other.1 (inl refl) h))
    links (BySource h) = inl (inr (linked_naming s a b other.0 StateIn other.1 (inr (inl refl)) h))
    links (ByPrevious h) = inl (inr (linked_naming s a b other.0 StateOut other.1 (inr (inr refl)) h))
    links (ByReader h) = inr (record { different = direct.0; one = one.0; other = other.0; is_one = one.1; is_other = other.1; reads = h })

    go : Before s a b ⊎ LinksOrder one.0 other.0 a → Parts s a b
    go (inl before) = inl (inl ((stands_before s a b built).1 before))
    go (inr order) = links order

-- the three parts, one after another, are the direct causes
pub causes_added : (s : Scenario) (first second third last : Rows) → IsBuilt s → first.size ≡ length s.actions → Adds first second (StandsBefore s.nodes) → Adds second third (IsNamed s) → Adds third last (IsReplacing s) → Adds first last (Direct s)
causes_added s first second third last built size one two three =
    adds_as first last (Parts s) (Direct s)
    (adds_then first third last (λ c d. StandsBefore s.nodes c d ⊎ IsNamed s c d) (IsReplacing s) (adds_then first second third (StandsBefore s.nodes) (IsNamed s) one two) three)
    (λ c d c_in d_in parts. parts_direct s c d built (subst (λ (n : ℕ). c < n) size c_in) parts)
    (λ c d c_in d_in direct. direct_parts s c d built (subst (λ (n : ℕ). c < n) size c_in) (subst (λ (n : ℕ). d < n) size d_in) direct)

-- the least members have their own numbers
pub numbers_own : (s : Scenario) (groups : List ℕ) → IsLinked s → ((a : ℕ) → a < length s.actions → IsGroupNumber s a (get_or groups a 0)) → AreOwn groups (length s.actions)
numbers_own s groups linked numbers = record { inside = within; own = own }
  where
    within : (b : ℕ) → b < length s.actions → get_or groups b 0 < length s.actions
    within b b_in = inside s b (get_or groups b 0) linked b_in (numbers b b_in).member

    own : (b : ℕ) → b < length s.actions → get_or groups (get_or groups b 0) 0 ≡ get_or groups b 0
    own b b_in = (same_group s groups numbers b (get_or groups b 0) b_in (within b b_in)).1 (numbers b b_in).member

-- direct causes that are spread to the members of groups
pub spread_direct : (s : Scenario) (groups : List ℕ) (blank middle last : Rows) → IsLinked s → ((a : ℕ) → a < length s.actions → IsGroupNumber s a (get_or groups a 0)) → IsBlank blank (length s.actions) → Adds blank middle (Direct s) → Adds middle last (IsSpread middle groups) → (a b : ℕ) → a < length s.actions → b < length s.actions → Has last a b ↔ MustDirectly s a b
spread_direct s groups blank middle last linked numbers is one two a b a_in b_in = (λ has. to ((two.has a b (in_middle a a_in) (in_middle b b_in)).0 has), λ h. (two.has a b (in_middle a a_in) (in_middle b b_in)).1 (inr (from h)))
  where
    size : middle.size ≡ length s.actions
    size = one.sized ∙ is.sized

    in_middle : (n : ℕ) → n < length s.actions → n < middle.size
    in_middle n n_in = subst (λ (m : ℕ). n < m) (sym size) n_in

    direct : (x : ℕ) → x < length s.actions → Has middle a x ↔ Direct s a x
    direct x x_in =
        let both = one.has a x (subst (λ (m : ℕ). a < m) (sym is.sized) a_in) (subst (λ (m : ℕ). x < m) (sym is.sized) x_in) in
        (λ has. ⊎_elim (λ before. absurd (is.none a x before)) (λ d. d) (both.0 has), λ d. both.1 (inr d))

    to : Has middle a b ⊎ IsSpread middle groups a b → MustDirectly s a b
    to (inl has) = record { x = b; direct = (direct b b_in).0 has; together = Itself }
    to (inr h) =
        let x_in : h.x < length s.actions = subst (λ (m : ℕ). h.x < m) size h.x_in in
        record { x = h.x; direct = (direct h.x x_in).0 h.has; together = (same_group s groups numbers b h.x b_in x_in).0 h.same }

    from : MustDirectly s a b → IsSpread middle groups a b
    from h =
        let x_in = inside s b h.x linked b_in h.together in
        record { x = h.x; x_in = in_middle h.x x_in; same = (same_group s groups numbers b h.x b_in x_in).1 h.together; has = (direct h.x x_in).1 h.direct }
