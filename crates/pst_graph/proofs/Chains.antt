-- Chains of direct causes are the order.
use Rattle.std.proofs.Common.{◌≡◌, ◌↔◌, ◌⊎◌, inl, inr, ⊎_elim, ◌<◌, ℕ, length, sym, subst, ◌∙◌}
use Rattle.std.proofs.lemmas.Option.{slice_get_within}
use Rattle.pst_scen.specs.declared.act.Link.{Link}
use Rattle.pst_scen.specs.declared.rows.Rows.{Rows}
use Rattle.pst_scen.specs.declared.scenario.Scenario.{Scenario}
use Rattle.pst_scen.specs.Flows.{Reads, Writes, LeadsTo}
use Rattle.pst_scen.specs.Order.{Cause, Sequence, Buffer, Source, Previous, Replaced, Must, Directly, Through}
use Rattle.pst_scen.specs.Rows.{IsSquare, Has}
use Rattle.pst_order.specs.Facts.{IsLinked}
use Rattle.pst_square.specs.Chains.{IsChain, Once, Chained}
use Rattle.pst_scen.specs.Refusals.{IsOnCycle}
use Rattle.pst_square.specs.Circles.{IsOnCircle, IsClosingOf}
use Rattle.pst_square.specs.declared.closure.Closing.{Closing}
use Rattle.pst_square.specs.declared.closure.Closing.TheVariants.{Closed, Circle}
use Rattle.pst_graph.specs.Grouping.{MustDirectly}
use Rattle.pst_graph.specs.Ordered.{IsOrderOf}

module _ (R S : ℕ → ℕ → Type 0) (size : ℕ) (each : (a b : ℕ) → a < size → b < size → R a b → S a b) where
  -- a chain of pairs of one relation is one of another that has them
  pub chain_of : (a b : ℕ) → a < size → b < size → IsChain R size a b → IsChain S size a b
  chain_of _ _ a_in b_in (Once a b r) = Once a b (each a b a_in b_in r)
  chain_of _ _ a_in b_in (Chained a c b c_in p q) = Chained a c b c_in (chain_of a c a_in c_in p) (chain_of c b c_in b_in q)

module _ (s : Scenario) (linked : IsLinked s) where
  leads_in : (a pool b : ℕ) (to : Link) → Reads s a pool to ⊎ Writes s a pool to → LeadsTo to b → b < length s.actions
  leads_in a pool b to w l =
      ⊎_elim (λ r. linked.links_in a pool b l.0 _ (subst (λ (t : Link). Reads s a pool t) l.1 r)) (λ r. linked.links_in a pool b l.0 _ (subst (λ (t : Link). Writes s a pool t) l.1 r)) w

  cause_in : (a b : ℕ) → Cause s a b → a < length s.actions
  cause_in a b (Sequence d) = let c = d.earlier.a_inside in linked.leaves_in c.leaf a c.node c.is c.of_act
  cause_in a b (Buffer d) = linked.links_in b d.pool a d.output _ d.input
  cause_in a b (Source pool to r leads) = leads_in b pool a to (inl r) leads
  cause_in a b (Previous pool to w leads) = leads_in b pool a to (inr w) leads
  cause_in a b (Replaced pool to r w) = slice_get_within s.actions a r.act r.is_act

  -- what must come before another action is an action of the scenario
  pub must_in : (a b : ℕ) → Must s a b → a < length s.actions
  must_in _ _ (Directly a x b d g) = cause_in a x d.1
  must_in _ _ (Through a c b p q) = must_in a c p

  must_chained : (a b : ℕ) → Must s a b → IsChain (MustDirectly s) (length s.actions) a b
  must_chained _ _ (Directly a x b d g) = Once a b (record { x = x; direct = d; together = g })
  must_chained _ _ (Through a c b p q) = Chained a c b (must_in c b q) (must_chained a c p) (must_chained c b q)

  chained_must : (a b : ℕ) → IsChain (MustDirectly s) (length s.actions) a b → Must s a b
  chained_must _ _ (Once a b m) = Directly a m.x b m.direct m.together
  chained_must _ _ (Chained a c b c_in p q) = Through a c b (chained_must a c p) (chained_must c b q)

  -- the order is what chains of direct causes join
  pub must_is_chain : (a b : ℕ) → IsChain (MustDirectly s) (length s.actions) a b ↔ Must s a b
  must_is_chain a b = (chained_must a b, must_chained a b)

  -- the closure of the square of direct causes is the square of the order
  must_square : (direct rows : Rows) → direct.size ≡ length s.actions → ((a b : ℕ) → a < length s.actions → b < length s.actions → Has direct a b ↔ MustDirectly s a b)
      → (rows.size ≡ direct.size) × IsSquare rows × ((a b : ℕ) → a < direct.size → b < direct.size → Has rows a b ↔ IsChain (Has direct) direct.size a b)
      → (rows.size ≡ length s.actions) × IsSquare rows × ((a b : ℕ) → a < length s.actions → b < length s.actions → Has rows a b ↔ Must s a b)
  must_square direct rows size are h = (h.0 ∙ size, h.1, both)
    where
      within : (a : ℕ) → a < length s.actions → a < direct.size
      within a a_in = subst (λ (n : ℕ). a < n) (sym size) a_in

      closed : (a b : ℕ) → a < length s.actions → b < length s.actions → Has rows a b ↔ IsChain (Has direct) (length s.actions) a b
      closed a b a_in b_in = subst (λ (n : ℕ). Has rows a b ↔ IsChain (Has direct) n a b) size (h.2 a b (within a a_in) (within b b_in))

      both : (a b : ℕ) → a < length s.actions → b < length s.actions → Has rows a b ↔ Must s a b
      both a b a_in b_in = (
        λ has. (must_is_chain a b).0
            (chain_of (Has direct) (MustDirectly s) (length s.actions) (λ x y x_in y_in. (are x y x_in y_in).0) a b a_in b_in ((closed a b a_in b_in).0 has)),
        λ must. (closed a b a_in b_in).1
            (chain_of (MustDirectly s) (Has direct) (length s.actions) (λ x y x_in y_in. (are x y x_in y_in).1) a b a_in b_in ((must_is_chain a b).1 must)),
      )

  -- a chain of direct causes from an action back to it is a cycle
  circle_cycle : (direct : Rows) → direct.size ≡ length s.actions → ((a b : ℕ) → a < length s.actions → b < length s.actions → Has direct a b ↔ MustDirectly s a b) → (a : ℕ) → IsOnCircle direct a ↔ IsOnCycle s a
  circle_cycle direct size are a = (to, from)
    where
      to : IsOnCircle direct a → IsOnCycle s a
      to h =
          let a_in : a < length s.actions = subst (λ (n : ℕ). a < n) size h.below in
          let chain : IsChain (Has direct) (length s.actions) a a = subst (λ (n : ℕ). IsChain (Has direct) n a a) size h.chain in
          record {
            below = a_in;
            must = (must_is_chain a a).0 (chain_of (Has direct) (MustDirectly s) (length s.actions) (λ x y x_in y_in. (are x y x_in y_in).0) a a a_in a_in chain);
          }

      from : IsOnCycle s a → IsOnCircle direct a
      from h =
          let chain : IsChain (Has direct) (length s.actions) a a =
          chain_of (MustDirectly s) (Has direct) (length s.actions) (λ x y x_in y_in. (are x y x_in y_in).1) a a h.below h.below ((must_is_chain a a).1 h.must) in
          record {
            below = subst (λ (n : ℕ). a < n) (sym size) h.below;
            chain = subst (λ (n : ℕ). IsChain (Has direct) n a a) (sym size) chain;
          }

  pub order_of : (direct : Rows) (closing : Closing) → direct.size ≡ length s.actions → ((a b : ℕ) → a < length s.actions → b < length s.actions → Has direct a b ↔ MustDirectly s a b) → IsClosingOf direct closing → IsOrderOf s closing
  order_of direct (Closed rows) size are h = let is = must_square direct rows size are h in record { size = is.0; square = is.1; must = is.2 }
  order_of direct (Circle least) size are h =
      record { is = (circle_cycle direct size are least).0 h.is; least = λ b on. h.least b ((circle_cycle direct size are b).1 on) }
