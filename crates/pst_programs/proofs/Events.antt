-- The events of blocks.
use Rattle.std.proofs.Common.{◌≡◌, ◌⊎◌, ℕ, List, [], ◌∷◌, ◌++◌, length, min, Bool, true, false, subst, inl, inr, ⊎_elim, arith}
use Rattle.std.specs.Prelude.{Contains}
use Rattle.std.proofs.lemmas.List.Elements.{Contains-append_left, Contains-append_right, Contains-append_cases}
use Rattle.std.proofs.lemmas.Bool.{cases_eq}
use Rattle.pst_scen.specs.declared.event.Event.{Event}
use Rattle.pst_scen.specs.declared.event.Event.TheVariants.{Start, End}
use Rattle.pst_scen.specs.Trace.{StartsOn, Started, Ended, Runs, starts_of}
use Rattle.pst_programs.proofs.Elements.{none_in, cons_cases, cons_first, cons_rest}

-- DECIDED

pub ended_or : (t : List Event) (a : ℕ) → Ended t a ⊎ (Ended t a → ⊥)
ended_or [] a = inr (none_in (End a))
ended_or (Start b l more ∷ es) a =
    ⊎_elim (λ h. inl (cons_rest (Start b l more) (End a) es h)) (λ n. inr (λ h. ⊎_elim (λ e. cc) n (cons_cases (Start b l more) (End a) es h))) (ended_or es a)
ended_or (End b ∷ es) a =
    ⊎_elim (λ e. inl (subst (λ v. Contains (End b ∷ es) (End v)) e (cons_first (End b) es)))
    (λ ne. ⊎_elim (λ h. inl (cons_rest (End b) (End a) es h)) (λ n. inr (λ h. ⊎_elim (λ e. ne (inner b a e)) n (cons_cases (End b) (End a) es h))) (ended_or es a))
    (cases_eq b a)
  where
    inner : (b a : ℕ) → End b ≡ End a → b ≡ a
    inner b a e = cc

pub started_or : (t : List Event) (a : ℕ) → Started t a ⊎ (Started t a → ⊥)
started_or [] a = inr (λ h. none_in (Start a h.0 h.1.0) h.1.1)
started_or (End b ∷ es) a =
    ⊎_elim (λ h. inl (h.0, (h.1.0, cons_rest (End b) (Start a h.0 h.1.0) es h.1.1)))
    (λ n. inr (λ h. ⊎_elim (λ e. cc) (λ k. n (h.0, (h.1.0, k))) (cons_cases (End b) (Start a h.0 h.1.0) es h.1.1))) (started_or es a)
started_or (Start b l more ∷ es) a =
    ⊎_elim (λ e. inl (l, (more, subst (λ v. Contains (Start b l more ∷ es) (Start v l more)) e (cons_first (Start b l more) es))))
    (λ ne. ⊎_elim (λ h. inl (h.0, (h.1.0, cons_rest (Start b l more) (Start a h.0 h.1.0) es h.1.1)))
    (λ n. inr (λ h. ⊎_elim (λ e. ne (inner h.0 h.1.0 e)) (λ k. n (h.0, (h.1.0, k))) (cons_cases (Start b l more) (Start a h.0 h.1.0) es h.1.1))) (started_or es a))
    (cases_eq b a)
  where
    inner : (m : ℕ) (o : Bool) → Start b l more ≡ Start a m o → b ≡ a
    inner m o e = cc

pub runs_or : (t : List Event) (a : ℕ) → Runs t a ⊎ (Runs t a → ⊥)
runs_or t a = ⊎_elim (λ b. ⊎_elim (λ e. inr (λ r. r.1 e)) (λ n. inl (b, n)) (ended_or t a)) (λ n. inr (λ r. n r.0)) (started_or t a)

-- MORE EVENTS

pub ended_cases : (t u : List Event) (a : ℕ) → Ended (t ++ u) a → Ended t a ⊎ Ended u a
ended_cases t u a h = Contains-append_cases t u (End a) h

pub ended_more : (t u : List Event) (a : ℕ) → Ended t a → Ended (t ++ u) a
ended_more t u a h = Contains-append_left t u (End a) h

pub ended_new : (t u : List Event) (a : ℕ) → Ended u a → Ended (t ++ u) a
ended_new t u a h = Contains-append_right t u (End a) h

pub starts_on_cases : (t u : List Event) (a l : ℕ) → StartsOn (t ++ u) a l → StartsOn t a l ⊎ StartsOn u a l
starts_on_cases t u a l h = ⊎_elim (λ k. inl (h.0, k)) (λ k. inr (h.0, k)) (Contains-append_cases t u (Start a l h.0) h.1)

pub starts_on_more : (t u : List Event) (a l : ℕ) → StartsOn t a l → StartsOn (t ++ u) a l
starts_on_more t u a l h = (h.0, Contains-append_left t u (Start a l h.0) h.1)

pub started_cases : (t u : List Event) (a : ℕ) → Started (t ++ u) a → Started t a ⊎ Started u a
started_cases t u a h = ⊎_elim (λ k. inl (h.0, k)) (λ k. inr (h.0, k)) (starts_on_cases t u a h.0 h.1)

pub started_more : (t u : List Event) (a : ℕ) → Started t a → Started (t ++ u) a
started_more t u a h = (h.0, starts_on_more t u a h.0 h.1)

pub started_new : (t u : List Event) (a : ℕ) → Started u a → Started (t ++ u) a
started_new t u a h = (h.0, (h.1.0, Contains-append_right t u (Start a h.0 h.1.0) h.1.1))

-- BLOCKS

pub starts_no_end : (ms ls : List ℕ) (a : ℕ) → Ended (starts_of ms ls) a → ⊥
starts_no_end [] ls a h = none_in (End a) h
starts_no_end (m ∷ ms) [] a h = none_in (End a) h
starts_no_end (m ∷ []) (l ∷ ls) a h = ⊎_elim (λ e. cc) (λ k. none_in (End a) k) (cons_cases (Start m l false) (End a) [] h)
starts_no_end (m ∷ n ∷ ms) (l ∷ ls) a h = ⊎_elim (λ e. cc) (λ k. starts_no_end (n ∷ ms) ls a k) (cons_cases (Start m l true) (End a) (starts_of (n ∷ ms) ls) h)

same_act : (m l a k : ℕ) (p q : Bool) → Start m l p ≡ Start a k q → m ≡ a
same_act m l a k p q e = cc

same_lane : (m l a k : ℕ) (p q : Bool) → Start m l p ≡ Start a k q → l ≡ k
same_lane m l a k p q e = cc

-- what starts in a block is a member, on a lane of it
pub starts_member : (ms ls : List ℕ) (a : ℕ) → Started (starts_of ms ls) a → Contains ms a
starts_member [] ls a h = absurd (none_in (Start a h.0 h.1.0) h.1.1)
starts_member (m ∷ ms) [] a h = absurd (none_in (Start a h.0 h.1.0) h.1.1)
starts_member (m ∷ []) (l ∷ ls) a h =
    ⊎_elim (λ e. subst (λ v. Contains (m ∷ []) v) (same_act m l a h.0 false h.1.0 e) (cons_first m []))
    (λ k. absurd (none_in (Start a h.0 h.1.0) k)) (cons_cases (Start m l false) (Start a h.0 h.1.0) [] h.1.1)
starts_member (m ∷ n ∷ ms) (l ∷ ls) a h =
    ⊎_elim (λ e. subst (λ v. Contains (m ∷ n ∷ ms) v) (same_act m l a h.0 true h.1.0 e) (cons_first m (n ∷ ms)))
    (λ k. cons_rest m a (n ∷ ms) (starts_member (n ∷ ms) ls a (h.0, (h.1.0, k)))) (cons_cases (Start m l true) (Start a h.0 h.1.0) (starts_of (n ∷ ms) ls) h.1.1)

pub starts_lane : (ms ls : List ℕ) (a l : ℕ) → StartsOn (starts_of ms ls) a l → Contains ls l
starts_lane [] ls a k h = absurd (none_in (Start a k h.0) h.1)
starts_lane (m ∷ ms) [] a k h = absurd (none_in (Start a k h.0) h.1)
starts_lane (m ∷ []) (l ∷ ls) a k h =
    ⊎_elim (λ e. subst (λ v. Contains (l ∷ ls) v) (same_lane m l a k false h.0 e) (cons_first l ls))
    (λ q. absurd (none_in (Start a k h.0) q)) (cons_cases (Start m l false) (Start a k h.0) [] h.1)
starts_lane (m ∷ n ∷ ms) (l ∷ ls) a k h =
    ⊎_elim (λ e. subst (λ v. Contains (l ∷ ls) v) (same_lane m l a k true h.0 e) (cons_first l ls))
    (λ q. cons_rest l k ls (starts_lane (n ∷ ms) ls a k (h.0, q))) (cons_cases (Start m l true) (Start a k h.0) (starts_of (n ∷ ms) ls) h.1)

-- each member starts in the block
pub member_starts : (ms ls : List ℕ) (a : ℕ) → length ls ≡ length ms → Contains ms a → Started (starts_of ms ls) a
member_starts [] ls a e h = absurd (none_in a h)
member_starts (m ∷ ms) [] a e h = absurd (omega arith)
member_starts (m ∷ []) (l ∷ ls) a e h =
    ⊎_elim (λ q. (l, (false, subst (λ v. Contains (Start m l false ∷ []) (Start v l false)) q (cons_first (Start m l false) []))))
    (λ k. absurd (none_in a k)) (cons_cases m a [] h)
member_starts (m ∷ n ∷ ms) (l ∷ ls) a e h =
    ⊎_elim (λ q. (l, (true, subst (λ v. Contains (Start m l true ∷ starts_of (n ∷ ms) ls) (Start v l true)) q (cons_first (Start m l true) (starts_of (n ∷ ms) ls)))))
    (λ k. let r = member_starts (n ∷ ms) ls a (omega arith) k in (r.0, (r.1.0, cons_rest (Start m l true) (Start a r.0 r.1.0) (starts_of (n ∷ ms) ls) r.1.1)))
    (cons_cases m a (n ∷ ms) h)

pub length_starts : (ms ls : List ℕ) → length (starts_of ms ls) ≡ min (length ls) (length ms)
length_starts [] ls = omega arith
length_starts (m ∷ ms) [] = omega arith
length_starts (m ∷ []) (x ∷ ls) = omega arith
length_starts (m ∷ n ∷ ms) (x ∷ ls) = let e = length_starts (n ∷ ms) ls in omega (arith, e)

pub end_is : (b a : ℕ) → Ended (End b ∷ []) a → b ≡ a
end_is b a h = ⊎_elim (λ e. inner e) (λ k. absurd (none_in (End a) k)) (cons_cases (End b) (End a) [] h)
  where
    inner : End b ≡ End a → b ≡ a
    inner e = cc

pub end_no_start : (b a : ℕ) → Started (End b ∷ []) a → ⊥
end_no_start b a h = ⊎_elim (λ e. cc) (λ k. none_in (Start a h.0 h.1.0) k) (cons_cases (End b) (Start a h.0 h.1.0) [] h.1.1)
