-- The rows of a sweep are its table.
use Rattle.std.proofs.Common.{◌≡◌, ℕ, zero, suc, ◌+◌, ◌<◌, ◌^◌, List, [], ◌∷◌, length, map, Some, Ok, IfOk, slice_get, refl, sym, ap, subst, arith}
use Rattle.std.specs.List.{AllZip, range_with_len}
use Rattle.std.specs.Prelude.{All, Contains, MatchResult, Err}
use Rattle.std.specs.declared.result.Result.{Result}
use Rattle.std.proofs.lemmas.Option.{none-some, same_Some, slice_get-get_or, slice_get_within}
use Rattle.pst_base.specs.declared.memory.NoMemory.{NoMemory}
use Rattle.pst_model.specs.ModelTree.{ModelTree}
use Rattle.pst_scen.specs.declared.act.Act.{Act}
use Rattle.pst_scen.specs.declared.scenario.Scenario.{Scenario}
use Rattle.pst_legal.specs.Shape.{HasShape}
use Rattle.pst_sweep_table.specs.declared.row.SweepRow.{SweepRow}
use Rattle.pst_legal.specs.First.{IsFirst}
use Rattle.pst_built.specs.Laws.{WholeReadingsAreBuilt}
use Rattle.pst_search.specs.declared.first.SearchEnd.{SearchEnd}
use Rattle.pst_search.specs.declared.first.SearchEnd.TheVariants as search_end
use Rattle.pst_search.specs.Searches.{Searches}
use Rattle.pst_sweep_table.specs.declared.row.Outcome.{Outcome}
use Rattle.pst_sweep_table.specs.declared.row.Outcome.TheVariants.{NoScenario, Budget}
use Rattle.pst_sweep_table.specs.Counts.{no_uses}
use Rattle.pst_sweep_table.specs.Rows.{MayCome, IsFound, HasNone, IsSpent, IsRow, IsTable}
use Rattle.pst_sweep.specs.Sweeping.{IsFoundRow, IsEndedRow}

-- ---- the rows that the threads gave

all_at : (IsOf : ℕ → SweepRow → Type 0) (from count : ℕ) (rows : List SweepRow) → AllZip (λ k (r : Result SweepRow NoMemory). IfOk r (IsOf k)) (range_with_len from count) (map Ok rows)
    → (length rows ≡ count) × ((k : ℕ) (row : SweepRow) → slice_get rows k ≡ Some row → IsOf (from + k) row)
all_at IsOf from zero [] h = (refl, λ k row e. absurd (none-some row e))
all_at IsOf from zero (r ∷ rows) h = absurd h
all_at IsOf from (suc count) [] h = absurd h
all_at IsOf from (suc count) (r ∷ rows) h = let rest = all_at IsOf (from + 1) count rows h.1 in (ap suc rest.0, each rest.1)
  where
    each : ((k : ℕ) (row : SweepRow) → slice_get rows k ≡ Some row → IsOf (from + 1 + k) row) → (k : ℕ) (row : SweepRow) → slice_get (r ∷ rows) k ≡ Some row → IsOf (from + k) row
    each more zero row e = let z : from ≡ from + 0 = omega arith in subst (λ n. IsOf n row) z (subst (IsOf from) (same_Some r row e) h.0)
    each more (suc k) row e = let z : from + 1 + k ≡ from + suc k = omega arith in subst (λ n. IsOf n row) z (more k row e)

pub collected : {V : Type 0} (items : V → List SweepRow) (IsOf : ℕ → Result SweepRow NoMemory → Type 0) (ks many : List ℕ) (xs : List (Result SweepRow NoMemory)) (r : Result V NoMemory)
    → ks ≡ many → AllZip IsOf ks xs → MatchResult r (λ v. (ys : List SweepRow) × (xs ≡ map Ok ys) × (items v ≡ ys)) (λ e. Contains xs (Err e)) → IfOk r (λ v. AllZip IsOf many (map Ok (items v)))
collected items IsOf ks many xs (Ok v) e h k =
    subst (λ (ys : List SweepRow). AllZip IsOf many (map Ok ys)) (sym k.2) (subst (λ (zs : List (Result SweepRow NoMemory)). AllZip IsOf many zs) k.1 (subst (λ (ns : List ℕ). AllZip IsOf ns xs) e h))
collected items IsOf ks many xs (Err end) e h k = tt

module _ (m : ModelTree) (root infer budget first count : ℕ) where
  is_table : (rows : List SweepRow) → AllZip (λ k (r : Result SweepRow NoMemory). IfOk r (IsRow m root infer budget (first + k))) (range_with_len 0 count) (map Ok rows) → IsTable m root infer budget first count rows
  is_table rows h =
      let a = all_at (λ k. IsRow m root infer budget (first + k)) 0 count rows h in
      record { many = a.0; each = λ k row is. let z : 0 + k ≡ k = omega arith in subst (λ n. IsRow m root infer budget (first + n) row) z (a.1 k row is) }

  pub of_rows : {V : Type 0} (items : V → List SweepRow) (r : Result V NoMemory)
      → IfOk r (λ v. AllZip (λ k (y : Result SweepRow NoMemory). IfOk y (IsRow m root infer budget (first + k))) (range_with_len 0 count) (map Ok (items v))) → IfOk r (λ v. IsTable m root infer budget first count (items v))
  of_rows items (Ok v) h = is_table (items v) h
  of_rows items (Err e) h = tt

-- ---- the types of a legal scenario's actions are there

pub types_there : (m : ModelTree) (s : Scenario) → HasShape m s → All (λ (act : Act). act.action < length m.actions) s.actions
types_there m s shape k d l =
    let own = shape.acts k _ (slice_get-get_or s.actions k d l) in
    slice_get_within m.actions _ own.type own.is

-- ---- a row of a seed

module _ (m : ModelTree) (root infer budget seed : ℕ) where
  pub found_is_row : (s : Scenario) → IsFirst m root seed infer s → (r : Result SweepRow NoMemory) → IfOk r (IsFoundRow m seed s) → IfOk r (IsRow m root infer budget seed)
  found_is_row s first (Ok row) is = subst (IsRow m root infer budget seed) (sym is) (record { seed_is = refl; comes = IsFound s first })
  found_is_row s first (Err e) is = tt

  ended_is_row : (outcome : Outcome) → MayCome m root infer budget seed outcome (no_uses m) → (row : SweepRow) → IsEndedRow m seed outcome row → IsRow m root infer budget seed row
  ended_is_row outcome comes row is = subst (IsRow m root infer budget seed) (sym is) (record { seed_is = refl; comes = comes })

  pub none_is_row : (end : SearchEnd) → end ≡ search_end.NoScenario → Searches m root seed infer budget (Err end) → (row : SweepRow) → IsEndedRow m seed NoScenario row → IsRow m root infer budget seed row
  none_is_row end is searched = ended_is_row NoScenario (HasNone (subst (λ (e : SearchEnd). Searches m root seed infer budget (Err e)) is searched))

  pub spent_is_row : (end : SearchEnd) (level : ℕ) → end ≡ search_end.Budget level → Searches m root seed infer budget (Err end) → (row : SweepRow) → IsEndedRow m seed (Budget level) row → IsRow m root infer budget seed row
  spent_is_row end level is searched =
      let spent = subst (λ (e : SearchEnd). Searches m root seed infer budget (Err e)) is searched in ended_is_row (Budget level) (IsSpent level spent.0 spent.1)

pub few_acts : WholeReadingsAreBuilt → (m : ModelTree) (root seed infer : ℕ) (s : Scenario) → IsFirst m root seed infer s → length s.actions < 2 ^ 32
few_acts law m root seed infer s first = let small = (law m root seed s.level first.choices s first.reads.reads).0.small.acts in omega (arith, small)
