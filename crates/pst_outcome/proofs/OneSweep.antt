-- The rows of one sweep are one, but for spent budgets.
use Rattle.std.proofs.Common.{◌≡◌, ◌∙◌, ◌⊎◌, inl, inr, ℕ, suc, ◌+◌, List, [], ◌∷◌, length, refl, ap, sym, arith}
use Rattle.std.specs.Prelude.{Some, slice_get}
use Rattle.std.specs.List.{AllZip}
use Rattle.pst_model.specs.ModelTree.{ModelTree}
use Rattle.pst_sweep_table.specs.declared.row.Outcome.{Outcome}
use Rattle.pst_sweep_table.specs.declared.row.SweepRow.{SweepRow}
use Rattle.pst_sweep_table.specs.Rows.{IsRow, IsTable}
use Rattle.pst_sweep_table.specs.Laws.{IsBudget, RowsAreOne}
use Rattle.pst_sweep_answers.specs.Shown.{ShowsSweep}
use Rattle.pst_sweep_answers.specs.Texts.{sweep_text, found_in}
use Rattle.pst_outcome.specs.declared.answer.Answer.TheVariants.{Swept}
use Rattle.pst_outcome.specs.Laws.{RowsAreAlike, HasSpentRow, AreOfOneSweep}

-- two rows of a seed
alike : RowsAreOne → (m : ModelTree) (root infer budget seed : ℕ) (row other : SweepRow) → IsRow m root infer budget seed row → IsRow m root infer budget seed other → RowsAreAlike row other
alike law m root infer budget seed row other h k =
    record { seeds = seeds; rows = by (law m root infer budget seed row.outcome other.outcome row.uses other.uses h.comes k.comes) }
  where
    seeds : row.seed ≡ other.seed
    seeds = h.seed_is ∙ sym k.seed_is

    by : ((row.outcome ≡ other.outcome) × (row.uses ≡ other.uses)) ⊎ (IsBudget row.outcome ⊎ IsBudget other.outcome) → (row ≡ other) ⊎ (IsBudget row.outcome ⊎ IsBudget other.outcome)
    by (inr spent) = inr spent
    by (inl same) = inl (
        ap (λ (n : ℕ). record { seed = n; outcome = row.outcome; uses = row.uses }) seeds ∙ ap (λ (o : Outcome). record { seed = other.seed; outcome = o; uses = row.uses }) same.0
        ∙ ap (λ (u : List ℕ). record { seed = other.seed; outcome = other.outcome; uses = u }) same.1)

-- each of two lists of as many rows has one for each seed
each_alike : (IsOf : ℕ → SweepRow → Type 0) (rows others : List SweepRow) → length rows ≡ length others
    → ((k : ℕ) (row : SweepRow) → slice_get rows k ≡ Some row → IsOf k row) → ((k : ℕ) (row : SweepRow) → slice_get others k ≡ Some row → IsOf k row)
    → ((k : ℕ) (row other : SweepRow) → IsOf k row → IsOf k other → RowsAreAlike row other) → AllZip RowsAreAlike rows others
each_alike IsOf [] [] e h k like = tt
each_alike IsOf [] (y ∷ ys) e h k like = absurd (omega (arith, e))
each_alike IsOf (x ∷ xs) [] e h k like = absurd (omega (arith, e))
each_alike IsOf (x ∷ xs) (y ∷ ys) e h k like = (
  like 0 x y (h 0 x refl) (k 0 y refl),
  each_alike (λ n. IsOf (suc n)) xs ys (omega (arith, e)) (λ n row is. h (suc n) row is) (λ n row is. k (suc n) row is) (λ n row other. like (suc n) row other),
)

-- rows that are alike are the same, or some of them is a spent budget
same_or_spent : (rows others : List SweepRow) → AllZip RowsAreAlike rows others → (rows ≡ others) ⊎ (HasSpentRow rows ⊎ HasSpentRow others)
same_or_spent [] [] h = inl refl
same_or_spent [] (y ∷ ys) h = absurd h
same_or_spent (x ∷ xs) [] h = absurd h
same_or_spent (x ∷ xs) (y ∷ ys) h = by h.0.rows (same_or_spent xs ys h.1)
  where
    by : (x ≡ y) ⊎ (IsBudget x.outcome ⊎ IsBudget y.outcome) → (xs ≡ ys) ⊎ (HasSpentRow xs ⊎ HasSpentRow ys) → (x ∷ xs ≡ y ∷ ys) ⊎ (HasSpentRow (x ∷ xs) ⊎ HasSpentRow (y ∷ ys))
    by (inl same) (inl rest) = inl (ap (λ (z : SweepRow). z ∷ xs) same ∙ ap (λ (zs : List SweepRow). y ∷ zs) rest)
    by (inl same) (inr (inl spent)) = inr (inl (inr spent))
    by (inl same) (inr (inr spent)) = inr (inr (inr spent))
    by (inr (inl spent)) rest = inr (inl (inl spent))
    by (inr (inr spent)) rest = inr (inr (inl spent))

-- what is told of two tables of the same seeds
pub two_sweeps : RowsAreOne → (names : List (List ℕ)) (m : ModelTree) (root infer budget first count found others_found : ℕ) (rows others : List SweepRow) (t u : List ℕ)
    → IsTable m root infer budget first count rows → IsTable m root infer budget first count others → ShowsSweep names m rows found t → ShowsSweep names m others others_found u
    → ((Swept found ≡ Swept others_found) × (t ≡ u)) ⊎ AreOfOneSweep (Swept found) (Swept others_found) t u
two_sweeps law names m root infer budget first count found others_found rows others t u h k shown other = by (same_or_spent rows others are)
  where
    are : AllZip RowsAreAlike rows others
    are = each_alike (λ n. IsRow m root infer budget (first + n)) rows others (h.many ∙ sym k.many) h.each k.each (λ n row one. alike law m root infer budget (first + n) row one)

    by : (rows ≡ others) ⊎ (HasSpentRow rows ⊎ HasSpentRow others) → ((Swept found ≡ Swept others_found) × (t ≡ u)) ⊎ AreOfOneSweep (Swept found) (Swept others_found) t u
    by (inl same) = inl (
      ap Swept (shown.found_is ∙ ap found_in same ∙ sym other.found_is),
      shown.text_is ∙ ap (λ (z : List SweepRow). sweep_text names m z (found_in z)) same ∙ sym other.text_is,
    )
    by (inr spent) = inr (record {
      names = names;
      model = m;
      rows = rows;
      others = others;
      first = record { found = found; answer = refl; shows = shown };
      second = record { found = others_found; answer = refl; shows = other };
      alike = are;
      spent = spent;
    })
