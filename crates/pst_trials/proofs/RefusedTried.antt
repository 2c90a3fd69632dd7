-- Facts: why scenarios of the other trials have no plan.
use Rattle.std.proofs.Common.{◌≡◌, ◌<◌, ◌≤◌, ◌⊎◌, ℕ, zero, suc, Bool, true, inl, inr, refl, sym, arith, lit<}
use Rattle.pst_scen.specs.declared.tree.Fill.{Fill}
use Rattle.pst_scen.specs.declared.tree.Fill.TheVariants as fill
use Rattle.pst_scen.specs.declared.scenario.Scenario.{Scenario}
use Rattle.pst_scen.specs.Order.{Must}
use Rattle.pst_scen.specs.Plans.{ClashesAlone, StandParallel}
use Rattle.pst_scen.specs.Refusals.{IsRefused, IsUnrefused, Two, One, HasNoGroupClash, HasNoParallelOrder, Cycle, GroupClash, ParallelOrder, ParallelClash}
use Rattle.pst_trials.specs.Locks.{scenario as claiming}
use Rattle.pst_trials.specs.Binds.{scenario as bound}
use Rattle.pst_trials.specs.OwnClaims.{scenario as twice_claiming}
use Rattle.pst_trials.specs.States.{replaced}
use Rattle.pst_trials.proofs.Branches.{each_parallel}
use Rattle.pst_trials.proofs.Orders.{EachPair, streams, each_must_alone, each_cause, each_before, itself_alone}
use Rattle.pst_trials.proofs.Traces.{preorder_by}
use Rattle.pst_trials.proofs.Legality.{none_clashes}
use Rattle.pst_trials.proofs.LocksTried.{in_order, stand, first_claims, second_claims}
use Rattle.pst_trials.proofs.BindsTried.{in_order as bound_in_order, stand as bound_stand, order as bound_order}
use Rattle.pst_trials.proofs.OwnClaimsTried.{in_order as twice_in_order, locks_clash}
use Rattle.pst_trials.proofs.StatesTried.{second_before_itself}
use Rattle.std.proofs.Common.{◌↔◌, get_or, ◌≢◌, subst}
use Rattle.pst_scen.specs.Rows.{Has}
use Rattle.pst_scen.specs.Order.{Itself}
use Rattle.pst_scen.specs.Conflicts.{Conflict, Resource}
use Rattle.pst_scen.specs.Plans.{IsPlanOf, IsGroupNumber}
use Rattle.pst_trials.specs.Refused.{plan}
use Rattle.pst_trials.proofs.LocksTried.{locks_conflict, locks_are_legal}
use Rattle.pst_trials.proofs.Traces.{each_below}
use Rattle.pst_trials.proofs.Legality.{differ}

-- groups of one member don't clash, where no action clashes with itself
no_group_clash : (s : Scenario) → EachPair (λ b c. ⊥) (streams s) → ((a : ℕ) → ClashesAlone s a → ⊥) → HasNoGroupClash s
no_group_clash s none alone _ _ (Two a b order together conflict) =
    let same : b ≡ a = itself_alone s none a b together in
    conflict.0 (sym same)
no_group_clash s none alone _ _ (One a below clash) = alone a clash

-- the pair of 0 and 1 is the least of those in ascending order
least_pair : (c d : ℕ) → c < d → (0 < c) ⊎ ((0 ≡ c) × (1 ≤ d))
least_pair zero d order = inr (refl, order)
least_pair (suc c) d order = inl (omega arith)

one_lock : (locks : Bool) (block : Fill) (a : ℕ) → ClashesAlone (claiming locks block) a → ⊥
one_lock locks block = none_clashes (claiming locks block) ((((λ other pool instance locks. other refl), tt), tt), ((((λ other pool instance locks. other refl), tt), tt), tt))

-- ---- locks in parallel

no_order : (a b : ℕ) → Must (claiming true fill.Parallel) a b → ⊥
no_order =
    each_must_alone (λ a b. ⊥) (claiming true fill.Parallel) tt (λ a c b first second. first)
    (each_cause (λ a b. ⊥) (claiming true fill.Parallel) (each_before (λ a b. ⊥) (claiming true fill.Parallel) (in_order true fill.Parallel) tt) tt)

no_parallel_order : HasNoParallelOrder (claiming true fill.Parallel)
no_parallel_order a b ordered = either ordered.must
  where
    either : Must (claiming true fill.Parallel) a b ⊎ Must (claiming true fill.Parallel) b a → ⊥
    either (inl must) = no_order a b must
    either (inr must) = no_order b a must

pub locks_in_parallel : IsRefused (claiming true fill.Parallel) (ParallelClash 0 1)
locks_in_parallel = (
  (λ a cycle. no_order a a cycle.must),
  no_group_clash (claiming true fill.Parallel) tt (one_lock true fill.Parallel),
  no_parallel_order,
  record {
    is = record {
      order = lit< tt;
      parallel = stand true;
      contend = record { pool = 0; instance = 0; own = true; other = true; a_claims = first_claims true fill.Parallel; b_claims = second_claims true fill.Parallel; by_lock = inl refl };
    };
    least = λ c d clash. least_pair c d clash.order;
  },
)

-- ---- a producer and its consumer in parallel

upwards : (a b : ℕ) → Must (bound fill.Parallel) a b → a < b
upwards =
    each_must_alone (λ a b. a < b) (bound fill.Parallel) tt (λ a c b first second. let one : a < c = first in let two : c < b = second in omega arith)
    (each_cause (λ a b. a < b) (bound fill.Parallel) (each_before (λ a b. a < b) (bound fill.Parallel) (bound_in_order fill.Parallel) tt) (lit< tt, tt))

pub bound_in_parallel : IsRefused (bound fill.Parallel) (ParallelOrder 0 1)
bound_in_parallel = (
  (λ a cycle. let less : a < a = upwards a a cycle.must in absurd (omega arith)),
  no_group_clash (bound fill.Parallel) tt (none_clashes (bound fill.Parallel) (tt, (tt, tt))),
  record {
    is = record { order = lit< tt; parallel = bound_stand; must = inl bound_order };
    least = λ c d ordered. least_pair c d ordered.order;
  },
)

-- ---- two locks of one action

no_order_of_one : (a b : ℕ) → Must (twice_claiming true) a b → ⊥
no_order_of_one =
    each_must_alone (λ a b. ⊥) (twice_claiming true) tt (λ a c b first second. first)
    (each_cause (λ a b. ⊥) (twice_claiming true) (each_before (λ a b. ⊥) (twice_claiming true) (twice_in_order true) tt) tt)

first_of_all : (c d : ℕ) → (0 < c) ⊎ ((0 ≡ c) × (0 ≤ d))
first_of_all zero d = inr (refl, omega arith)
first_of_all (suc c) d = inl (omega arith)

pub twice_locked : IsRefused (twice_claiming true) (GroupClash 0 0)
twice_locked = (
  (λ a cycle. no_order_of_one a a cycle.must),
  record { is = One 0 (lit< tt) locks_clash; least = λ c d clash. first_of_all c d },
)

-- ---- a reader of what was replaced

after_first : (a b : ℕ) → Must replaced a b → 0 < b
after_first =
    each_must_alone (λ a b. 0 < b) replaced tt (λ a c b first second. second)
    (each_cause (λ a b. 0 < b) replaced
    (each_before (λ a b. 0 < b) replaced (preorder_by replaced.nodes (refl, (refl, (refl, (refl, tt))))) (lit< tt, (lit< tt, (lit< tt, tt))))
    (lit< tt, (lit< tt, (lit< tt, tt))))

pub reader_of_replaced : IsRefused replaced (Cycle 1)
reader_of_replaced = record { is = record { below = lit< tt; must = second_before_itself }; least = λ b cycle. after_first b b cycle.must }

-- ---- locks in any order

no_order_in_any : (a b : ℕ) → Must (claiming true fill.Schedule) a b → ⊥
no_order_in_any =
    each_must_alone (λ a b. ⊥) (claiming true fill.Schedule) tt (λ a c b first second. first)
    (each_cause (λ a b. ⊥) (claiming true fill.Schedule) (each_before (λ a b. ⊥) (claiming true fill.Schedule) (in_order true fill.Schedule) tt) tt)

no_stand : (a b : ℕ) → StandParallel (claiming true fill.Schedule) a b → ⊥
no_stand = each_parallel (λ a b. ⊥) (claiming true fill.Schedule) (in_order true fill.Schedule) tt

pub locks_in_any_order : IsUnrefused (claiming true fill.Schedule)
locks_in_any_order = record {
  no_cycle = λ a cycle. no_order_in_any a a cycle.must;
  no_group_clash = no_group_clash (claiming true fill.Schedule) tt (one_lock true fill.Schedule);
  no_parallel_order = λ a b ordered. no_stand a b ordered.parallel;
  no_parallel_clash = λ a b clash. no_stand a b clash.parallel;
}

-- ---- a plan

abbrev locked : Scenario
locked = claiming true fill.Schedule

abbrev IsSet : ℕ → Type 0
IsSet n = n ≢ 0

no_bit : (a b : ℕ) → IsSet 0 ↔ Must locked a b
no_bit a b = ((λ set. absurd (set refl)), (λ must. absurd (no_order_in_any a b must)))

own_group : (a : ℕ) → IsGroupNumber locked a a
own_group a = record { member = Itself; least = λ b together. subst (λ c. a ≤ c) (sym (itself_alone locked tt a b together)) (let same : a ≤ a = omega arith in same) }

same_conflict : (a : ℕ) → IsSet 0 ↔ Conflict locked a a
same_conflict a = ((λ set. absurd (set refl)), (λ conflict. absurd (conflict.0 refl)))

first_conflict : IsSet 2 ↔ Conflict locked 0 1
first_conflict = ((λ set. locks_conflict), (λ conflict. differ 2 0 refl))

second_conflict : IsSet 1 ↔ Conflict locked 1 0
second_conflict = ((λ set. (differ 1 0 refl, Resource 0 0 true true (second_claims true fill.Schedule) (first_claims true fill.Schedule) (inl refl))), (λ conflict. differ 1 0 refl))

pub plan_of_locks : IsPlanOf locked plan
plan_of_locks = record {
  entries = record {
    many = refl;
    group = each_below (λ a. IsGroupNumber locked a (get_or plan.groups a 0)) 2 (own_group 0, (own_group 1, tt));
    must = λ a b a_in b_in. each_below (λ a. Has plan.must a b ↔ Must locked a b) 2
        (each_below (λ b. Has plan.must 0 b ↔ Must locked 0 b) 2 (no_bit 0 0, (no_bit 0 1, tt)) b b_in, (each_below (λ b. Has plan.must 1 b ↔ Must locked 1 b) 2 (no_bit 1 0, (no_bit 1 1, tt)) b b_in, tt)) a a_in;
    conflict = λ a b a_in b_in. each_below (λ a. Has plan.conflict a b ↔ Conflict locked a b) 2
        (each_below (λ b. Has plan.conflict 0 b ↔ Conflict locked 0 b) 2 (same_conflict 0, (first_conflict, tt)) b b_in, (each_below (λ b. Has plan.conflict 1 b ↔ Conflict locked 1 b) 2 (second_conflict, (same_conflict 1, tt)) b b_in, tt)) a a_in;
  };
  parallel = locks_are_legal.parallel;
  alone = locks_are_legal.alone;
  runs = locks_are_legal.runs;
}
