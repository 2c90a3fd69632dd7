-- A legal scenario isn't refused by its plan.
use Rattle.std.proofs.Common.{◌≢◌, ◌⊎◌, ℕ, ◌<◌, sym, inl, inr, arith}
use Rattle.pst_model.specs.ModelTree.{ModelTree}
use Rattle.pst_scen.specs.declared.scenario.Scenario.{Scenario}
use Rattle.pst_scen.specs.Order.{Must}
use Rattle.pst_scen.specs.Plans.{StandParallel}
use Rattle.pst_scen.specs.Refusals.{GroupClashes, Two, One, HasNoCycle, HasNoParallelOrder, HasNoParallelClash}
use Rattle.pst_legal.specs.Legal.{Legal}
use Rattle.pst_order.specs.Laws.{WholeHasNoCycle, WholeHasNoClash}
use Rattle.pst_read_legal.specs.Laws.{LegalIsUnrefused}

swapped : (s : Scenario) (a b : ℕ) → StandParallel s a b → StandParallel s b a
swapped s a b p = record {
  block = p.block;
  node = p.node;
  is = p.is;
  parallel = p.parallel;
  a_branch = p.b_branch;
  b_branch = p.a_branch;
  different = λ e. p.different (sym e);
  a_child = p.b_child;
  b_child = p.a_child;
  a_inside = p.b_inside;
  b_inside = p.a_inside;
}

module _ (no_cycle : WholeHasNoCycle) (no_clash : WholeHasNoClash) (m : ModelTree) (root : ℕ) (s : Scenario) (legal : Legal m root s) where
  cycle : HasNoCycle s
  cycle a is = no_cycle s a legal.runs is.below is.must

  group : (a b : ℕ) → GroupClashes s a b → ⊥
  group a b (Two _ _ order together conflict) = no_clash s a b legal.runs together conflict
  group a _ (One _ below clash) = legal.alone a below clash

  order : HasNoParallelOrder s
  order a b is = by is.must
    where
      by : Must s a b ⊎ Must s b a → ⊥
      by (inl must) = legal.parallel.unordered a b is.parallel must
      by (inr must) = legal.parallel.unordered b a (swapped s a b is.parallel) must

  clash : HasNoParallelClash s
  clash a b is = let l = is.order in legal.parallel.undisputed a b is.parallel (λ e. omega (arith, l, e)) is.contend

pub legal_unrefused : WholeHasNoCycle → WholeHasNoClash → LegalIsUnrefused
legal_unrefused no_cycle no_clash m root s legal = record {
  no_cycle = cycle no_cycle no_clash m root s legal;
  no_group_clash = group no_cycle no_clash m root s legal;
  no_parallel_order = order no_cycle no_clash m root s legal;
  no_parallel_clash = clash no_cycle no_clash m root s legal;
}
