-- How the tables of a run begin.
use Rattle.std.proofs.Common.{◌≡◌, ◌≢◌, ℕ, ◌+◌, ◌<◌, ◌≤◌, List, length, get_or, refl, sym, subst, inl, inr, ⊎_elim, arith}
use Rattle.std.proofs.lemmas.Bool.{cases_eq}
use Rattle.pst_scen.specs.declared.rows.Rows.{Rows}
use Rattle.pst_scen.specs.Rows.{Has}
use Rattle.pst_book.specs.Tables.{AreSoManyOf, IsNext, AreRaised}
use Rattle.pst_book.proofs.Numbers.{none_of_them, the_same, one_more_has, at_most_bound}
use Rattle.pst_book.proofs.Ties.{has_or}

-- the first action of a group from a place on, or the number of actions
pub record IsSeen (groups : List ℕ) (from group seen : ℕ) : Type 0 where
  pub behind : from ≤ seen
  pub inside : seen ≤ length groups
  pub none_before : (b : ℕ) → from ≤ b → b < seen → get_or groups b 0 ≡ group → ⊥
  pub same : seen < length groups → get_or groups seen 0 ≡ group

module _ (groups : List ℕ) (i : ℕ) (l : i < length groups) where
  pub seen_next : (seen : ℕ) → IsSeen groups (i + 1) (get_or groups i 0) seen → IsNext groups i seen
  seen_next seen s =
      record { behind = let b = s.behind in omega (arith, b); inside = s.inside; none_between = λ b x y e. s.none_before b (omega (arith, x)) y e; same = s.same }

  pub seen_here : IsSeen groups i (get_or groups i 0) i
  seen_here = record { behind = omega arith; inside = omega (arith, l); none_before = λ b x y e. omega (arith, x, y); same = λ m. refl }

  pub seen_other : (group seen : ℕ) → group ≢ get_or groups i 0 → IsSeen groups (i + 1) group seen → IsSeen groups i group seen
  seen_other group seen n s =
      record {
        behind = let b = s.behind in omega (arith, b);
        inside = s.inside;
        none_before = λ b x y e. ⊎_elim (λ q. n (sym (subst (λ v. get_or groups v 0 ≡ group) q e))) (λ q. s.none_before b (omega (arith, x, q)) y e) (cases_eq b i);
        same = s.same;
      }

-- one row more
pub raised_more : (rows : Rows) (n act : ℕ) (old new : List ℕ) → length old ≡ n → AreRaised rows act old new → ((m : ℕ) → m < n → AreSoManyOf (λ b. (b < act) × Has rows b m) (get_or old m 0)) → (m : ℕ) → m < n → AreSoManyOf (λ b. (b < act + 1) × Has rows b m) (get_or new m 0)
raised_more rows n act old new many raised each m l =
    ⊎_elim
    (λ h. subst (λ k. AreSoManyOf (λ b. (b < act + 1) × Has rows b m) k) (sym (raised.raised m l' h))
    (one_more_has act (λ q. let x = q.0 in omega (arith, x)) (λ b q. let x = q.0 in (omega (arith, x), q.1)) (omega arith, h)
    (λ b q. let x = q.0 in ⊎_elim (λ e. inl e) (λ e. inr (omega (arith, x, e), q.1)) (cases_eq b act)) (each m l)))
    (λ n. subst (λ k. AreSoManyOf (λ b. (b < act + 1) × Has rows b m) k) (sym (raised.same m l' n))
    (the_same (λ b q. let x = q.0 in (omega (arith, x), q.1))
    (λ b q. let x = q.0 in (⊎_elim (λ e. absurd (n (subst (λ v. Has rows v m) e q.1))) (λ e. omega (arith, x, e)) (cases_eq b act), q.1)) (each m l)))
    (has_or rows act m)
  where
    l' : m < length old
    l' = omega (arith, l, many)

pub raised_room : (rows : Rows) (act m k : ℕ) → AreSoManyOf (λ b. (b < act) × Has rows b m) k → k ≤ act
raised_room rows act m k s = at_most_bound {P = λ b. (b < act) × Has rows b m} act (λ b q. q.0) s

pub none_raised : (rows : Rows) (m : ℕ) → AreSoManyOf (λ b. (b < 0) × Has rows b m) 0
none_raised rows m = none_of_them (λ b q. let x = q.0 in omega (arith, x))
