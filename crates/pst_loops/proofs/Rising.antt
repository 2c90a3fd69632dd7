-- No walk leads back from where each edge leads to a higher level, if none leads to a lower one.
use Rattle.std.proofs.Common.{◌≡◌, ℕ, suc, ◌<◌, ◌≤◌, inl, inr, List, [], ◌∷◌, length, arith}
use Rattle.std.specs.Prelude.{slice_index_or, Bool, Result, Ok, Err, IfOk}
use Rattle.std.specs.Global.{Vec}
use Rattle.pst_loops.specs.Graph.{Graph, IsIn, HasEdge, IsWalk}
use Rattle.pst_loops.specs.Apart.{level, NeverFalls, AreRising, AreApart}

walk_up : (g : Graph) (levels : List ℕ) → NeverFalls g levels → (a : ℕ) (s : List ℕ) (b : ℕ) → IsWalk (HasEdge g) (a ∷ s) b → level levels a ≤ level levels b
walk_up g levels never a [] b e = never a b e
walk_up g levels never a (c ∷ s) b (e, walk) =
    let x = never a c e in
    let y = walk_up g levels never c s b walk in
    omega arith

higher_apart : (g : Graph) (levels : List ℕ) → NeverFalls g levels → (v : ℕ) → ((w : ℕ) → HasEdge g v w → level levels v < level levels w) → (s : List ℕ) → IsWalk (HasEdge g) (v ∷ s) v → ⊥
higher_apart g levels never v rises [] e = let x = rises v e in omega arith
higher_apart g levels never v rises (c ∷ s) (e, walk) =
    let x = rises c e in
    let y = walk_up g levels never c s v walk in
    omega arith

pub rising_apart : (g : Graph) (levels : List ℕ) (marks : List Bool) → NeverFalls g levels → AreRising g levels marks → AreApart g marks
rising_apart g levels marks never rising v marked (s, walk) = higher_apart g levels never v (λ w. rising v w marked) s walk

-- what is in a row stands at an index
pub index_in : (row : List ℕ) (w : ℕ) → IsIn w row → (k : ℕ) × (k < length row) × (slice_index_or row k 0 ≡ w)
index_in [] w i = absurd i
index_in (x ∷ row) w (inl e) = (0, omega arith, e)
index_in (x ∷ row) w (inr i) = let (k, l, e) = index_in row w i in (suc k, omega (arith, l), e)

pub apart_ok : {E : Type 0} (g : Graph) (levels : List ℕ) (r : Result (Vec Bool) E) → NeverFalls g levels → IfOk r (λ marks. AreRising g levels marks.items) → IfOk r (λ marks. AreApart g marks.items)
apart_ok g levels (Ok marks) never rising = rising_apart g levels marks.items never rising
apart_ok g levels (Err e) never rising = tt
