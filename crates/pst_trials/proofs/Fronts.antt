-- The lists before a list of zeros, in the order of lists of choices: its fronts.
use Rattle.std.proofs.Common.{◌≡◌, ℕ, zero, suc, ◌<◌, List, [], ◌∷◌, inl, inr, Bool, true, false, replicate, refl, sym, ap, ap₂, ◌∙◌, arith, not-suc-le-zero, true≢false}
use Rattle.pst_model.specs.ModelTree.{ModelTree}
use Rattle.pst_scen.specs.declared.scenario.Scenario.{Scenario}
use Rattle.pst_legal.specs.First.{IsBefore}
use Rattle.pst_legal.specs.ValueReading.{Answer, Options, Dead, Whole, read}
use Rattle.pst_trials.proofs.Traces.{EachBelow, each_below}

abbrev pub is_whole : Answer → Bool
is_whole (Options so_far n) = false
is_whole Dead = false
is_whole (Whole scenario) = true

before_zeros : (n : ℕ) (other : List ℕ) → IsBefore other (replicate n 0) → (k : ℕ) × (k < n) × (other ≡ replicate k 0)
before_zeros zero other before = absurd before
before_zeros (suc n) [] before = (0, omega arith, refl)
before_zeros (suc n) (x ∷ xs) (inl less) = absurd (not-suc-le-zero less)
before_zeros (suc n) (x ∷ xs) (inr (is, before)) =
    let tail = before_zeros n xs before in
    (suc tail.0, (let below : tail.0 < n = tail.1 in omega arith), ap₂ (λ y ys. y ∷ ys) is tail.2)

-- where no front of a list of zeros reads whole, no list before it does
pub none_before : (m : ModelTree) (root seed level n : ℕ) → EachBelow (λ k. is_whole (read m root seed level (replicate k 0)) ≡ false) n
    → (other : List ℕ) (s : Scenario) → IsBefore other (replicate n 0) → read m root seed level other ≡ Whole s → ⊥
none_before m root seed level n fronts other s before reads =
    let zeros = before_zeros n other before in
    let not_whole : is_whole (read m root seed level (replicate zeros.0 0)) ≡ false = each_below (λ k. is_whole (read m root seed level (replicate k 0)) ≡ false) n fronts zeros.0 zeros.1 in
    let whole : is_whole (read m root seed level other) ≡ true = ap is_whole reads in
    true≢false (sym whole ∙ (ap (λ l. is_whole (read m root seed level l)) zeros.2 ∙ not_whole))
