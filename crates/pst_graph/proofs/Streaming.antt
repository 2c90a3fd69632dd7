-- The streams that an action's own references name.
use Rattle.std.proofs.Common.{◌≡◌, ◌⊎◌, inl, inr, ◌<◌, ◌≤◌, ◌+◌, ℕ, List, length, slice_get, Some, get_or, sym, subst, ap, ◌∙◌, arith}
use Rattle.std.proofs.lemmas.Bool.{cases_lt}
use Rattle.pst_scen.specs.declared.act.Act.{Act}
use Rattle.pst_scen.specs.declared.act.Filled.{Filled}
use Rattle.pst_scen.specs.declared.act.Flow.{Flow}
use Rattle.pst_scen.specs.declared.act.Flow.TheVariants.{StreamIn, StreamOut}
use Rattle.pst_scen.specs.declared.act.Link.{Link}
use Rattle.pst_scen.specs.declared.act.Link.TheVariants as link
use Rattle.pst_scen.specs.declared.scenario.Scenario.{Scenario}
use Rattle.pst_scen.specs.Flows.{IsAct, Refers, Streams, FromFirst, FromSecond}
use Rattle.pst_order.specs.Facts.{IsLinked}
use Rattle.pst_graph.specs.Grouping.{IsApart}
use Rattle.pst_graph.specs.Streamed.{IsStreamTo, StreamsFrom}
use Rattle.pst_graph.proofs.Acted.{referred}
use Rattle.pst_nodes.proofs.Climbs.{same_some}

module _ (s : Scenario) (a : ℕ) (act : Act) (is_act : IsAct s a act) (i : ℕ) (filled : Filled) (is : slice_get act.references i ≡ Some filled) (b : ℕ) (to : IsStreamTo filled b) where
  stream_refers : Refers s a filled.flow filled.pool (link.Act b to.leads.0)
  stream_refers = subst (λ (target : Link). Refers s a filled.flow filled.pool target) to.leads.1 (referred s a act is_act i filled is)

  pub stream_link : Streams s a b
  stream_link = FromFirst filled.pool to.leads.0 filled.flow to.of_flow stream_refers

  pub stream_inside : IsLinked s → b < length s.actions
  stream_inside linked = linked.links_in a filled.pool b to.leads.0 filled.flow stream_refers

streaming : (s : Scenario) (a b pool reference : ℕ) (flow : Flow) → (flow ≡ StreamIn) ⊎ (flow ≡ StreamOut) → Refers s a flow pool (link.Act b reference) → StreamsFrom s a b
streaming s a b pool reference flow kind r =
    record { act = r.act; reference = r.reference; filled = r.filled; is_act = r.is_act; is = r.is; to = record { of_flow = subst (λ (f : Flow). (f ≡ StreamIn) ⊎ (f ≡ StreamOut)) (sym r.of_flow) kind; leads = (reference, r.linked) } }

-- where each action's own references join it only to such as have its number, no two are apart
pub none_apart : (s : Scenario) (groups : List ℕ) → ((a b : ℕ) → a < length s.actions → StreamsFrom s a b → get_or groups a 0 ≡ get_or groups b 0) → (a b : ℕ) → IsApart s groups a b → ⊥
none_apart s groups same a b apart = go apart.link
  where
    go : Streams s a b → ⊥
    go (FromFirst pool reference flow kind r) =
        let is = same a b apart.a_in (streaming s a b pool reference flow kind r) in
        let less = apart.less in
        omega (arith, is, less)
    go (FromSecond pool reference flow kind r) =
        let is = same b a apart.b_in (streaming s b a pool reference flow kind r) in
        let less = apart.less in
        omega (arith, is, less)

-- what each item before one is, and that one is, each item before the next is
pub joined_more : {X : Type 0} (P : X → Type 0) (xs : List X) (i : ℕ) (x : X) → slice_get xs i ≡ Some x → P x → ((k : ℕ) (y : X) → k < i → slice_get xs k ≡ Some y → P y) → (k : ℕ) (y : X) → k < i + 1 → slice_get xs k ≡ Some y → P y
joined_more {X = X} P xs i x at_i has before k y below at_k = go (cases_lt k i)
  where
    go : (k < i) ⊎ (i ≤ k) → P y
    go (inl less) = before k y less at_k
    go (inr more) =
        let same : i ≡ k = omega (arith, more, below) in
        subst P (same_some x y (sym at_i ∙ ap (slice_get xs) same ∙ at_k)) has
