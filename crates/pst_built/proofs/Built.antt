-- A scenario whose needs have their sources is built.
use Rattle.std.proofs.Common.{◌≡◌, ℕ, zero, suc, ◌+◌, List, [], ◌∷◌, ◌++◌, length, map, replicate, true, Option, Some, None, refl, sym, ap, ◌∙◌, subst, inl, inr, arith, length-append}
use Rattle.std.specs.Prelude.{slice_get}
use Rattle.std.specs.List.{enumerate_from, range_with_len}
use Rattle.std.specs.Option.{option_and_then}
use Rattle.std.proofs.lemmas.List.{length-map, length-replicate}
use Rattle.std.proofs.lemmas.Option.{same_Some, slice_get_within, option_and_then_some}
use Rattle.std.proofs.lemmas.Bool.{false≢true}
use Rattle.pst_scen.specs.declared.tree.Node.{Node}
use Rattle.pst_scen.specs.declared.tree.Fill.TheVariants as fill
use Rattle.pst_scen.specs.declared.act.Act.{Act}
use Rattle.pst_scen.specs.declared.act.Filled.{Filled}
use Rattle.pst_scen.specs.declared.act.Flow.{Flow}
use Rattle.pst_scen.specs.declared.act.Flow.TheVariants.{BufferIn, BufferOut, StreamIn, StreamOut, StateIn, StateOut}
use Rattle.pst_scen.specs.declared.act.Link.{Link}
use Rattle.pst_scen.specs.declared.act.Link.TheVariants as link
use Rattle.pst_scen.specs.declared.scenario.Scenario.{Scenario}
use Rattle.pst_scen.specs.Flows.{Refers}
use Rattle.pst_scen.specs.Scenarios.{leaf_of, leaves_of, HasLeavesFirst}
use Rattle.pst_scen.specs.Laws.{HasOneLeafEach}
use Rattle.pst_legal.specs.Supplied.{is_need, is_source_for}
use Rattle.pst_order.specs.Facts.{IsOutput, LinksStates, IsLinked}
use Rattle.pst_order.specs.Built.{IsBuilt}
use Rattle.pst_built.proofs.Bares.{Bare, bare, bares_in, bares, bare_at, bare_from, bare_of, node_in, nodes_in}
use Rattle.pst_built.proofs.Parents.{in_preorder, is_preorder}
use Rattle.pst_built.proofs.Members.{In, to_flat_map, to_numbered}
use Rattle.pst_built.proofs.Links.{bare_within, IsSourceAt}
use Rattle.pst_built.proofs.Supply.{Joined, IsSupplied}

-- ---- leaves

numbered_at : (k : ℕ) (ls : List (ℕ × ℕ)) (e : ℕ × ℕ) → map (λ x. x.0) ls ≡ range_with_len k (length ls) → In e ls → (i : ℕ) × (e.0 ≡ k + i) × (slice_get ls i ≡ Some e)
numbered_at k [] e numbers has = absurd has
numbered_at k (x ∷ xs) e numbers (inl same) =
    let first : x.0 ≡ k = cc in
    let here : x.0 ≡ e.0 = ap (λ p. p.0) same in
    (zero, omega (arith, first, here), ap Some same)
numbered_at k (x ∷ xs) e numbers (inr has) =
    let rest : map (λ y. y.0) xs ≡ range_with_len (k + 1) (length xs) = cc in
    let r = numbered_at (k + 1) xs e rest has in
    (suc r.0, omega (arith, r.1), r.2)

-- the leaf of an action has the action's number among the leaves
pub leaf_at : (s : Scenario) (n act : ℕ) (node : Node) → map (λ e. e.0) (leaves_of s.nodes) ≡ range_with_len 0 (length (leaves_of s.nodes)) → slice_get s.nodes n ≡ Some node → node.fill ≡ fill.Leaf act
    → slice_get (leaves_of s.nodes) act ≡ Some (act, n)
leaf_at s n act node numbers is leaf =
    let has : In (act, n) (leaf_of n node.fill) = subst (λ f. In (act, n) (leaf_of n f)) (sym leaf) (inl refl) in
    let r = numbered_at 0 (leaves_of s.nodes) (act, n) numbers
    (to_flat_map (λ e. leaf_of e.0 e.1.fill) (enumerate_from 0 s.nodes) (n, node) (act, n) (to_numbered s.nodes n node is) has) in
    subst (λ k. slice_get (leaves_of s.nodes) k ≡ Some (act, n)) (omega (arith, r.1)) r.2

one_leaf : (s : Scenario) → map (λ e. e.0) (leaves_of s.nodes) ≡ range_with_len 0 (length (leaves_of s.nodes)) → HasOneLeafEach s.nodes
one_leaf s numbers = record {
  one = λ m n act first second is at leaf other.
      let both : Some (act, m) ≡ Some (act, n) = sym (leaf_at s m act first numbers is leaf) ∙ leaf_at s n act second numbers at other in
      ap (λ (p : ℕ × ℕ). p.1) (same_Some (act, m) (act, n) both);
}

-- ---- states

read_from : (flow : Flow) → is_source_for StateIn flow ≡ true → flow ≡ StateOut
read_from StateOut e = refl
read_from StateIn e = absurd (false≢true e)
read_from BufferIn e = absurd (false≢true e)
read_from BufferOut e = absurd (false≢true e)
read_from StreamIn e = absurd (false≢true e)
read_from StreamOut e = absurd (false≢true e)

written_after : (flow : Flow) → is_source_for StateOut flow ≡ true → flow ≡ StateOut
written_after StateOut e = refl
written_after StateIn e = absurd (false≢true e)
written_after BufferIn e = absurd (false≢true e)
written_after BufferOut e = absurd (false≢true e)
written_after StreamIn e = absurd (false≢true e)
written_after StreamOut e = absurd (false≢true e)

module _ (level : ℕ) (s : Scenario) (supplied : IsSupplied level s) where
  abbrev joined : Joined level s
  joined = supplied.joined

  abbrev rows : List (List Bare)
  rows = bares s.actions

  at_reference : (a r : ℕ) (act : Act) (filled : Filled) → slice_get s.actions a ≡ Some act → slice_get act.references r ≡ Some filled → bare_at rows a r ≡ Some (bare filled)
  at_reference a r act filled there has = bare_from s.actions a r filled (ap (λ v. option_and_then (λ x. slice_get x.references r) v) there ∙ has)

  at_refers : (a pool : ℕ) (flow : Flow) (to : Link) (refers : Refers s a flow pool to) → bare_at rows a refers.reference ≡ Some (bare refers.filled)
  at_refers a pool flow to refers = at_reference a refers.reference refers.act refers.filled refers.is_act refers.is

  -- the source of a reference
  source_of : (a pool other reference : ℕ) (flow : Flow) (refers : Refers s a flow pool (link.Act other reference)) → IsSourceAt rows a (bare refers.filled) other reference
  source_of a pool other reference flow refers = joined.links.there a refers.reference other reference (bare refers.filled) (at_refers a pool flow (link.Act other reference) refers) refers.linked

  many : length s.actions ≡ length (leaves_of s.nodes) + joined.more
  many =
      let e : length (nodes_in s.actions) ≡ length (map (λ x. Some x.1) (leaves_of s.nodes) ++ replicate joined.more None) = ap length joined.acts in
      let l : length (map (λ x. Some x.1) (leaves_of s.nodes) ++ replicate joined.more None) ≡ length (map (λ x. Some x.1) (leaves_of s.nodes)) + length (replicate joined.more None) =
      length-append (map (λ x. Some x.1) (leaves_of s.nodes)) (replicate joined.more None) in
      let n : length (replicate {A = Option ℕ} joined.more None) ≡ joined.more = length-replicate joined.more None in
      omega (arith, e, l, length-map s.actions node_in, length-map (leaves_of s.nodes) (λ x. Some x.1), n)

  leaves_first : HasLeavesFirst s
  leaves_first =
      let same : joined.more ≡ s.level = omega (arith, supplied.many, many) in
      record { numbers = joined.numbers; nodes = subst (λ k. nodes_in s.actions ≡ map (λ e. Some e.1) (leaves_of s.nodes) ++ replicate k None) same joined.acts }

  output_of : (a r pool : ℕ) (source : Bare) → bare_at rows a r ≡ Some source → source.flow ≡ StateOut → source.pool ≡ pool → (previous : Link) × IsOutput s a r pool previous
  output_of a r pool source at flow same =
      let f = bare_of s.actions a r source at in
      option_and_then_some (λ x. slice_get x.references r) (slice_get s.actions a) f.0 f.1
      (λ act there has. (
        f.0.link,
        record {
          act = act;
          filled = f.0;
          is_act = there;
          is = has;
          of_flow = ap (λ (v : Bare). v.flow) f.2 ∙ flow;
          of_pool = ap (λ (v : Bare). v.pool) f.2 ∙ same;
          linked = refl;
        },
      ))

  states : LinksStates s
  states = record {
    source = λ a pool writer reference reads.
        let from = source_of a pool writer reference StateIn reads in
        output_of writer reference pool from.source from.is (read_from from.source.flow (subst (λ f. is_source_for f from.source.flow ≡ true) reads.of_flow from.fits)) (from.pool ∙ reads.of_pool);
    previous = λ a pool writer reference writes.
        let from = source_of a pool writer reference StateOut writes in
        output_of writer reference pool from.source from.is (written_after from.source.flow (subst (λ f. is_source_for f from.source.flow ≡ true) writes.of_flow from.fits)) (from.pool ∙ writes.of_pool);
    one_next = λ pool a r b q previous one other.
        let at = at_reference a r one.act one.filled one.is_act one.is in
        joined.links.once a r b q (bare one.filled) (bare other.filled) at (at_reference b q other.act other.filled other.is_act other.is)
        one.of_flow other.of_flow (one.of_pool ∙ sym other.of_pool) (one.linked ∙ sym other.linked)
        (supplied.all a r (bare one.filled) at (ap is_need one.of_flow));
  }

  is_linked : IsLinked s
  is_linked = record {
    preorder = is_preorder s.nodes joined.order;
    one_leaf = one_leaf s joined.numbers;
    leaves_in = λ n act node is leaf.
        let l = slice_get_within (leaves_of s.nodes) act (act, n) (leaf_at s n act node joined.numbers is leaf) in
        omega (arith, l, many);
    links_in = λ a pool other reference flow refers.
        let from = source_of a pool other reference flow refers in
        let l = bare_within rows other reference from.source from.is in
        omega (arith, l, length-map s.actions bares_in);
    links_other = λ a pool other reference flow refers. (source_of a pool other reference flow refers).other;
    reads_linked = λ a pool reads. supplied.all a reads.reference (bare reads.filled) (at_refers a pool StateIn link.Nothing reads) (ap is_need reads.of_flow) reads.linked;
    writes_linked = λ a pool writes. supplied.all a writes.reference (bare writes.filled) (at_refers a pool StateOut link.Nothing writes) (ap is_need writes.of_flow) writes.linked;
    states = states;
  }

  pub built : IsBuilt s
  built = record {
    preorder = in_preorder s.nodes joined.order;
    leaves = leaves_first;
    linked = is_linked;
    small = record { acts = omega (arith, joined.within.few_acts); nodes = omega (arith, joined.within.few_nodes) };
  }
