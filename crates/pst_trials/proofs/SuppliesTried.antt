-- Facts: sources and numbers of inferred actions.
use Rattle.std.proofs.Common.{◌≡◌, ◌≢◌, ℕ, zero, suc, ◌<◌, List, [], ◌∷◌, ◌⊎◌, inl, inr, Option, Some, None, Bool, true, false, slice_get, refl, sym, subst, ◌∙◌, lit<, arith, Contains, not-suc-le-zero}
use Rattle.pst_scen.specs.declared.tree.Fill.TheVariants as fill
use Rattle.pst_scen.specs.declared.act.Act.{Act}
use Rattle.pst_scen.specs.declared.act.Filled.{Filled}
use Rattle.pst_scen.specs.declared.act.Flow.{Flow}
use Rattle.pst_scen.specs.declared.act.Flow.TheVariants.{BufferIn, BufferOut, StreamIn, StreamOut, StateIn, StateOut}
use Rattle.pst_scen.specs.declared.act.Link.{Link}
use Rattle.pst_scen.specs.declared.act.Link.TheVariants as link
use Rattle.pst_scen.specs.declared.scenario.First.{First}
use Rattle.pst_scen.specs.declared.scenario.Scenario.{Scenario}
use Rattle.pst_scen.specs.Flows.{Refers, Reads}
use Rattle.pst_scen.specs.Conflicts.{Uses}
use Rattle.pst_scen.specs.Scenarios.{AreLinked, HasFirsts}
use Rattle.pst_legal.specs.Supplied.{linkings, AreNamedInTurn, is_source_for, IsSource, ArePreviousOnce}
use Rattle.pst_trials.specs.Parts.{act_of, filled}
use Rattle.pst_trials.specs.Supplies.{consumer, producer, shared, elsewhere, reading, first, rivals}
use Rattle.pst_trials.proofs.Cases.{each_contained, some_same, false_true}
use Rattle.pst_trials.proofs.Orders.{each_refers}
use Rattle.pst_trials.proofs.Traces.{here}
use Rattle.pst_trials.proofs.Legality.{differ}

pub in_order : AreNamedInTurn (linkings (consumer 2 ∷ consumer 3 ∷ producer ∷ producer ∷ [])) 2 4
in_order = (lit< tt, lit< tt, (lit< tt, lit< tt, refl))

pub other_order : AreNamedInTurn (linkings (consumer 3 ∷ consumer 2 ∷ producer ∷ producer ∷ [])) 2 4 → ⊥
other_order n = let high : 3 < 3 = n.1 in omega (arith, high)

pub with_one : AreNamedInTurn (linkings (consumer 2 ∷ consumer 2 ∷ producer ∷ [])) 2 3
with_one = (lit< tt, lit< tt, (lit< tt, lit< tt, refl))

pub not_needed : AreNamedInTurn (linkings (consumer 1 ∷ producer ∷ producer ∷ [])) 1 3 → ⊥
not_needed n = differ 2 3 refl n.2

act_same : (a q b r : ℕ) → link.Act a q ≡ link.Act b r → a ≡ b
act_same a q b r e = cc e

pub one_to_one : AreLinked shared → ⊥
one_to_one linked = differ 1 2 refl (act_same 1 0 2 0 ((linked 2 0 _ refl).back 0 0 _ (inl refl) refl refl))

pub other_pool : IsSource (consumer 1 ∷ producer ∷ []) 0 elsewhere 1 0 → ⊥
other_pool s =
    let same : filled BufferOut [] link.Nothing ≡ s.source = some_same (filled BufferOut [] link.Nothing) s.source s.is in
    differ 0 1 refl (subst (λ (f : Filled). f.pool ≡ 1) (sym same) s.pool)

pub same_pool : IsSource (consumer 1 ∷ producer ∷ []) 0 (filled BufferIn [] (link.Act 1 0)) 1 0
same_pool = record { other = differ 1 0 refl; source = _; is = refl; fits = refl; pool = refl }

pub no_input : IsSource (consumer 1 ∷ consumer 0 ∷ []) 0 (filled BufferIn [] (link.Act 1 0)) 1 0 → ⊥
no_input s =
    let same : filled BufferIn [] (link.Act 0 0) ≡ s.source = some_same (filled BufferIn [] (link.Act 0 0)) s.source s.is in
    false_true (subst (λ (f : Filled). is_source_for BufferIn f.flow ≡ true) (sym same) s.fits)

-- ---- first objects

reads_first : (firsts : List First) → Reads (reading firsts) 0 0 link.Initial
reads_first firsts = record { act = _; reference = 0; filled = _; is_act = refl; is = refl; of_flow = refl; of_pool = refl; linked = refl }

only : (firsts : List First) (a : ℕ) (flow : Flow) (pool : ℕ) (to : Link) → Refers (reading firsts) a flow pool to → pool ≡ 0
only firsts = each_refers (λ a flow pool to. pool ≡ 0) (reading firsts) (refl, tt)

pool_of_use : (firsts : List First) (a pool : ℕ) → Uses (reading firsts) a pool → pool ≡ 0
pool_of_use firsts a pool (to, inl reads) = only firsts a StateIn pool to reads
pool_of_use firsts a pool (to, inr writes) = only firsts a StateOut pool to writes

pub its_first : HasFirsts (reading (first 0 ∷ []))
its_first = record {
  ascending = λ i j d less below. let under : j < 1 = below in absurd (omega arith);
  used = λ pool. (
    (each_contained (λ pool. (a : ℕ) × Uses (reading (first 0 ∷ [])) a pool) (0 ∷ []) ((0, (link.Initial, inl (reads_first (first 0 ∷ [])))), tt) pool),
    (λ u. subst (Contains (0 ∷ [])) (sym (pool_of_use (first 0 ∷ []) u.0 pool u.1)) (here 0 [])),
  );
}

pub no_first : HasFirsts (reading []) → ⊥
no_first h = let contained : Contains [] 0 = (h.used 0).1 (0, (link.Initial, inl (reads_first []))) in not-suc-le-zero contained.1

pub first_too_many : HasFirsts (reading (first 0 ∷ first 1 ∷ [])) → ⊥
first_too_many h =
    let used : (a : ℕ) × Uses (reading (first 0 ∷ first 1 ∷ [])) a 1 = (h.used 1).0 (1, lit< tt, refl) in
    differ 1 0 refl (pool_of_use (first 0 ∷ first 1 ∷ []) used.0 1 used.1)

pub first_twice : HasFirsts (reading (first 0 ∷ first 0 ∷ [])) → ⊥
first_twice h = let less : 0 < 0 = h.ascending 0 1 0 (lit< tt) (lit< tt) in omega (arith, less)

pub rivals_aren't : ArePreviousOnce rivals → ⊥
rivals_aren't once = differ 0 1 refl (once 0 0 1 0 _ _ refl refl refl refl refl refl).0
