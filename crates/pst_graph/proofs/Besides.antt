-- What isn't found beside actions before a bound.
use Rattle.std.proofs.Common.{◌≡◌, ⊎_elim, ◌<◌, ℕ, length, sym, subst, arith}
use Rattle.pst_scen.specs.declared.scenario.Scenario.{Scenario}
use Rattle.pst_scen.specs.Order.{Must}
use Rattle.pst_scen.specs.Plan.{Entries}
use Rattle.pst_scen.specs.Plans.{StandParallel, AreEntriesOf}
use Rattle.pst_scen.specs.Refusals.{IsParallelOrdered, IsParallelClash}
use Rattle.pst_order.specs.Facts.{IsLinked}
use Rattle.pst_nodes.specs.Beside.{BoundsRow}
use Rattle.pst_graph.proofs.Refused.{parallel_in, parallel_clash_has}

other_way : (s : Scenario) (a b : ℕ) → StandParallel s a b → StandParallel s b a
other_way s a b h =
    record {
      block = h.block;
      node = h.node;
      is = h.is;
      parallel = h.parallel;
      a_branch = h.b_branch;
      b_branch = h.a_branch;
      different = λ same. h.different (sym same);
      a_child = h.b_child;
      b_child = h.a_child;
      a_inside = h.b_inside;
      b_inside = h.a_inside;
    }

module _ (s : Scenario) (p : Entries) (linked : IsLinked s) (are : AreEntriesOf s p) (bound : ℕ) where
  pub none_ordered : p.must.size ≡ length s.actions → ((a : ℕ) → a < p.must.size → BoundsRow p.must a bound (StandParallel s a)) → (a b : ℕ) → a < bound → IsParallelOrdered s a b → ⊥
  none_ordered size bounds a b low h = ⊎_elim forth back h.must
    where
      both : (a < length s.actions) × (b < length s.actions)
      both = parallel_in s p linked are a b h.parallel

      within : (c : ℕ) → c < length s.actions → c < p.must.size
      within c c_in = subst (λ (n : ℕ). c < n) (sym size) c_in

      forth : Must s a b → ⊥
      forth must =
          let is = (bounds a (within a both.0) b (within b both.1) ((are.must a b both.0 both.1).1 must) h.parallel).0 in
          omega (arith, is, low)

      back : Must s b a → ⊥
      back must =
          let is = (bounds b (within b both.1) a (within a both.0) ((are.must b a both.1 both.0).1 must) (other_way s a b h.parallel)).1 in
          omega (arith, is, low)

  pub none_contend : p.conflict.size ≡ length s.actions → ((a : ℕ) → a < p.conflict.size → BoundsRow p.conflict a bound (StandParallel s a)) → (a b : ℕ) → a < bound → IsParallelClash s a b → ⊥
  none_contend size bounds a b low h =
      let has = parallel_clash_has s p linked are a b size h.order h in
      let order = h.order in
      let b_in = has.0 in
      let is = (bounds a (omega (arith, order, b_in)) b has.0 has.1 h.parallel).0 in
      omega (arith, is, low)
