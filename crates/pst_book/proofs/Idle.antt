-- Idle lanes.
use Rattle.std.proofs.Common.{◌≡◌, ◌⊎◌, ℕ, zero, suc, ◌+◌, ◌<◌, ◌≤◌, List, [], ◌∷◌, ◌++◌, length, Bool, sym, subst, inl, inr, ⊎_elim, arith, length-append}
use Rattle.std.specs.Prelude.{Contains}
use Rattle.std.proofs.lemmas.List.Elements.{Contains-append_left, Contains-push, Contains-push_cases}
use Rattle.std.proofs.lemmas.Bool.{cases_lt, cases_eq}
use Rattle.pst_scen.specs.declared.event.Event.{Event}
use Rattle.pst_scen.specs.declared.event.Event.TheVariants.{Start, End}
use Rattle.pst_scen.specs.Trace.{StartsOn, Ended, IsHeld}
use Rattle.pst_book.specs.Books.{AreIdle, AreSoMany}
use Rattle.pst_book.proofs.Elements.{none_in, cons_cases, cons_first, cons_rest}
use Rattle.pst_book.proofs.Events.{ended_or}
use Rattle.pst_book.proofs.Lists.{ascending_same, ascending_push, ascending_head, ascending_tail}

abbrev Holds : List Event → List Event → ℕ → Type 0
Holds u t lane = (a : ℕ) × StartsOn u a lane × (Ended t a → ⊥)

holds_in : (u t : List Event) (lane : ℕ) → Holds u t lane ⊎ (Holds u t lane → ⊥)
holds_in [] t lane = inr (λ h. none_in (Start h.0 lane h.1.0) h.1.1)
holds_in (End b ∷ es) t lane =
    ⊎_elim (λ h. inl (h.0, (h.1.0, cons_rest (End b) (Start h.0 lane h.1.0) es h.1.1), h.2))
    (λ n. inr (λ h. ⊎_elim (λ e. cc) (λ k. n (h.0, (h.1.0, k), h.2)) (cons_cases (End b) (Start h.0 lane h.1.0) es h.1.1))) (holds_in es t lane)
holds_in (Start b l more ∷ es) t lane =
    ⊎_elim (λ h. inl (h.0, (h.1.0, cons_rest (Start b l more) (Start h.0 lane h.1.0) es h.1.1), h.2))
    (λ n. ⊎_elim
    (λ e. inr (λ h. ⊎_elim (λ q. h.2 (subst (λ v. Ended t v) (same h.0 h.1.0 q) e)) (λ k. n (h.0, (h.1.0, k), h.2)) (cons_cases (Start b l more) (Start h.0 lane h.1.0) es h.1.1)))
    (λ ne. ⊎_elim
    (λ e. inl (b, (more, subst (λ v. Contains (Start b l more ∷ es) (Start b v more)) e (cons_first (Start b l more) es)), ne))
    (λ m. inr (λ h. ⊎_elim (λ q. m (lane_same h.0 h.1.0 q)) (λ k. n (h.0, (h.1.0, k), h.2)) (cons_cases (Start b l more) (Start h.0 lane h.1.0) es h.1.1)))
    (cases_eq l lane))
    (ended_or t b))
    (holds_in es t lane)
  where
    same : (a : ℕ) (o : Bool) → Start b l more ≡ Start a lane o → b ≡ a
    same a o q = cc

    lane_same : (a : ℕ) (o : Bool) → Start b l more ≡ Start a lane o → l ≡ lane
    lane_same a o q = cc

pub held_or : (t : List Event) (lane : ℕ) → IsHeld t lane ⊎ (IsHeld t lane → ⊥)
held_or t lane = holds_in t t lane

pub idle_none : (t : List Event) (from : ℕ) → AreIdle t from from []
idle_none t from =
    record {
      ascending = λ i j l m. absurd (omega (arith, m));
      above = λ l h. absurd (none_in l h);
      below = λ l h. absurd (none_in l h);
      free = λ l h. absurd (none_in l h);
      all = λ l g h. absurd (omega (arith, g, h));
    }

pub idle_push : (t : List Event) (from lane : ℕ) (idle : List ℕ) → from ≤ lane → AreIdle t from lane idle → (IsHeld t lane → ⊥) → AreIdle t from (lane + 1) (idle ++ lane ∷ [])
idle_push t from lane idle f r n =
    record {
      ascending = ascending_push idle lane r.ascending r.below;
      above = λ l h. ⊎_elim (λ k. r.above l k) (λ e. omega (arith, e, f)) (Contains-push_cases idle lane l h);
      below = λ l h. ⊎_elim (λ k. let m = r.below l k in omega (arith, m)) (λ e. omega (arith, e)) (Contains-push_cases idle lane l h);
      free = λ l h. ⊎_elim (λ k. r.free l k) (λ e. subst (λ v. IsHeld t v → ⊥) e n) (Contains-push_cases idle lane l h);
      all = λ l g h k.
          ⊎_elim (λ e. subst (λ v. Contains (idle ++ lane ∷ []) v) (sym e) (Contains-push idle lane))
          (λ ne. Contains-append_left idle (lane ∷ []) l (r.all l g (omega (arith, h, ne)) k)) (cases_eq l lane);
    }

pub idle_same : (t : List Event) (from lane : ℕ) (idle : List ℕ) → AreIdle t from lane idle → IsHeld t lane → AreIdle t from (lane + 1) idle
idle_same t from lane idle r n =
    record {
      ascending = r.ascending;
      above = r.above;
      below = λ l h. let m = r.below l h in omega (arith, m);
      free = r.free;
      all = λ l g h k. ⊎_elim (λ e. absurd (k (subst (λ v. IsHeld t v) (sym e) n))) (λ ne. r.all l g (omega (arith, h, ne)) k) (cases_eq l lane);
    }

pub idle_one : (t : List Event) (from lanes : ℕ) (a b : List ℕ) → AreIdle t from lanes a → AreIdle t from lanes b → a ≡ b
idle_one t from lanes a b r q =
    ascending_same a b r.ascending q.ascending (λ z c. q.all z (r.above z c) (r.below z c) (r.free z c)) (λ z c. r.all z (q.above z c) (q.below z c) (q.free z c))

-- so many lanes are idle below a lane
pub record Counted (t : List Event) (lane count : ℕ) : Type 0 where
  pub are : AreSoMany t lane count
  pub small : count ≤ lane

pub counted_next : (t : List Event) (lane count : ℕ) → Counted t lane count → (IsHeld t lane → ⊥) → Counted t (lane + 1) (count + 1)
counted_next t lane count r n =
    let idle = r.are.idle in
    let e : length (idle ++ lane ∷ []) ≡ length idle + 1 = length-append idle (lane ∷ []) in
    let k = r.are.count_is in
    record { are = record { idle = idle ++ lane ∷ []; are = idle_push t 0 lane idle (omega arith) r.are.are n; count_is = omega (arith, e, k) }; small = omega (arith, r.small) }

pub counted_same : (t : List Event) (lane count : ℕ) → Counted t lane count → IsHeld t lane → Counted t (lane + 1) count
counted_same t lane count r n = record { are = record { idle = r.are.idle; are = idle_same t 0 lane r.are.idle r.are.are n; count_is = r.are.count_is }; small = omega (arith, r.small) }

pub idle_of : (t : List Event) (lanes : ℕ) → (idle : List ℕ) × AreIdle t 0 lanes idle
idle_of t zero = ([], idle_none t 0)
idle_of t (suc n) =
    let r = idle_of t n in
    let e : n + 1 ≡ suc n = omega arith in
    ⊎_elim (λ h. (r.0, subst (λ v. AreIdle t 0 v r.0) e (idle_same t 0 n r.0 r.1 h)))
    (λ f. (r.0 ++ n ∷ [], subst (λ v. AreIdle t 0 v (r.0 ++ n ∷ [])) e (idle_push t 0 n r.0 (omega arith) r.1 f))) (held_or t n)

-- the first of the idle lanes, and those behind it
pub idle_tail : (t : List Event) (from lanes x : ℕ) (xs : List ℕ) → AreIdle t from lanes (x ∷ xs) → AreIdle t (x + 1) lanes xs
idle_tail t from lanes x xs r =
    record {
      ascending = ascending_tail x xs r.ascending;
      above = λ l h. let m = ascending_head x xs r.ascending l h in omega (arith, m);
      below = λ l h. r.below l (cons_rest x l xs h);
      free = λ l h. r.free l (cons_rest x l xs h);
      all = λ l g h k. let f = r.above x (cons_first x xs) in
          ⊎_elim (λ e. absurd (omega (arith, e, g))) (λ q. q) (cons_cases x l xs (r.all l (omega (arith, g, f)) h k));
    }

-- the least idle lane is the first
pub first_is : (t : List Event) (from lanes x next : ℕ) (xs : List ℕ) → AreIdle t from lanes (x ∷ xs) → from ≤ next → next ≤ lanes → ((l : ℕ) → from ≤ l → l < next → IsHeld t l) → (next < lanes → IsHeld t next → ⊥) → next ≡ x
first_is t from lanes x next xs r a b held idle =
    let xb = r.below x (cons_first x xs) in
    let xf = r.above x (cons_first x xs) in
    let low : next ≤ x = ⊎_elim (λ l. absurd (r.free x (cons_first x xs) (held x xf l))) (λ l. l) (cases_lt x next) in
    ⊎_elim (λ e. sym e) (λ k. let m = ascending_head x xs r.ascending next k in omega (arith, m, low))
    (cons_cases x next xs (r.all next a (omega (arith, low, xb)) (idle (omega (arith, low, xb)))))
