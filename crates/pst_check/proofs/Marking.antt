-- Marks, behind one more event.
use Rattle.std.proofs.Common.{◌≡◌, ◌≢◌, ◌<◌, ℕ, zero, suc, List, [], ◌∷◌, ◌++◌, Bool, true, false, length, get_or, replicate, refl, sym, ap, ◌∙◌, subst, ⊎_elim, arith}
use Rattle.std.specs.Prelude.{◌↔◌}
use Rattle.std.proofs.lemmas.Bool.{cases_eq}
use Rattle.std.proofs.lemmas.List.Elements.{Contains-append_left, Contains-append_right, Contains-append_cases}
use Rattle.pst_scen.specs.declared.event.Event.{Event}
use Rattle.pst_scen.specs.declared.event.Event.TheVariants.{Start, End}
use Rattle.pst_scen.specs.Trace.{Started, Ended}
use Rattle.pst_check.specs.Marks.{AreMarks, AreUnset, IsMarked}
use Rattle.pst_check.proofs.Elements.{none_in, cons_first, cons_cases}

pub none_set : (n a : ℕ) → get_or (replicate n false) a false ≡ false
none_set zero a = refl
none_set (suc n) zero = refl
none_set (suc n) (suc a) = none_set n a

pub unset_marked : (started ended : List Bool) → AreUnset started → AreUnset ended → AreMarks [] started ended
unset_marked started ended s e = record {
  started_is = λ a l. (λ t. let both : false ≡ true = sym (s a) ∙ t in cc, λ h. absurd (none_in (Start a h.0 h.1.0) h.1.1));
  ended_is = λ a l. (λ t. let both : false ≡ true = sym (e a) ∙ t in cc, λ h. absurd (none_in (End a) h));
}

started_now : (past : List Event) (b l : ℕ) (more : Bool) → Started (past ++ Start b l more ∷ []) b
started_now past b l more = (l, (more, Contains-append_right past (Start b l more ∷ []) (Start b l more) (cons_first (Start b l more) [])))

started_on : (past : List Event) (e : Event) (a : ℕ) → Started past a → Started (past ++ e ∷ []) a
started_on past e a h = (h.0, (h.1.0, Contains-append_left past (e ∷ []) (Start a h.0 h.1.0) h.1.1))

ended_on : (past : List Event) (e : Event) (a : ℕ) → Ended past a → Ended (past ++ e ∷ []) a
ended_on past e a h = Contains-append_left past (e ∷ []) (End a) h

started_before : (past : List Event) (b l : ℕ) (more : Bool) (a : ℕ) → a ≢ b → Started (past ++ Start b l more ∷ []) a → Started past a
started_before past b l more a n h =
    ⊎_elim (λ k. (h.0, (h.1.0, k)))
    (λ k. ⊎_elim (λ e. absurd (n (sym (inner h.0 h.1.0 e)))) (λ q. absurd (none_in (Start a h.0 h.1.0) q)) (cons_cases (Start b l more) (Start a h.0 h.1.0) [] k))
    (Contains-append_cases past (Start b l more ∷ []) (Start a h.0 h.1.0) h.1.1)
  where
    inner : (m : ℕ) (o : Bool) → Start b l more ≡ Start a m o → b ≡ a
    inner m o e = cc

ended_before_start : (past : List Event) (b l : ℕ) (more : Bool) (a : ℕ) → Ended (past ++ Start b l more ∷ []) a → Ended past a
ended_before_start past b l more a h =
    ⊎_elim (λ k. k)
    (λ k. ⊎_elim (λ e. cc) (λ q. absurd (none_in (End a) q)) (cons_cases (Start b l more) (End a) [] k))
    (Contains-append_cases past (Start b l more ∷ []) (End a) h)

started_before_end : (past : List Event) (b a : ℕ) → Started (past ++ End b ∷ []) a → Started past a
started_before_end past b a h =
    ⊎_elim (λ k. (h.0, (h.1.0, k)))
    (λ k. ⊎_elim (λ e. cc) (λ q. absurd (none_in (Start a h.0 h.1.0) q)) (cons_cases (End b) (Start a h.0 h.1.0) [] k))
    (Contains-append_cases past (End b ∷ []) (Start a h.0 h.1.0) h.1.1)

ended_before : (past : List Event) (b a : ℕ) → a ≢ b → Ended (past ++ End b ∷ []) a → Ended past a
ended_before past b a n h =
    ⊎_elim (λ k. k)
    (λ k. ⊎_elim (λ e. absurd (n (sym (inner e)))) (λ q. absurd (none_in (End a) q)) (cons_cases (End b) (End a) [] k))
    (Contains-append_cases past (End b ∷ []) (End a) h)
  where
    inner : End b ≡ End a → b ≡ a
    inner e = cc

-- the mark of a number that is one of the marked or another
set_at : (P Q : ℕ → Type 0) (b : ℕ) (old new : List Bool) → IsMarked b old new → ((a : ℕ) → a < length old → (get_or old a false ≡ true) ↔ P a) → Q b → ((a : ℕ) → P a → Q a) → ((a : ℕ) → a ≢ b → Q a → P a)
    → (a : ℕ) → a < length new → (get_or new a false ≡ true) ↔ Q a
set_at P Q b old new m is at_b more less a l =
    let many = m.many in
    let k : a < length old = omega (arith, l, many) in
    ⊎_elim
    (λ e. let here : get_or new a false ≡ true = ap (λ v. get_or new v false) e ∙ m.here (subst (λ v. v < length old) e k) in
    (λ t. subst Q (sym e) at_b, λ q. here))
    (λ n. let same = m.others a n in
    (λ t. more a ((is a k).0 (sym same ∙ t)), λ q. same ∙ (is a k).1 (less a n q)))
    (cases_eq a b)

pub start_noted : (past : List Event) (b l : ℕ) (more : Bool) (started ended new : List Bool) → IsMarked b started new → AreMarks past started ended → AreMarks (past ++ Start b l more ∷ []) new ended
start_noted past b l more started ended new m are = record {
  started_is = set_at (λ a. Started past a) (λ a. Started (past ++ Start b l more ∷ []) a) b started new m are.started_is
      (started_now past b l more) (λ a h. started_on past (Start b l more) a h) (λ a n h. started_before past b l more a n h);
  ended_is = λ a k. (λ t. ended_on past (Start b l more) a ((are.ended_is a k).0 t), λ h. (are.ended_is a k).1 (ended_before_start past b l more a h));
}

pub end_noted : (past : List Event) (b : ℕ) (started ended new : List Bool) → IsMarked b ended new → AreMarks past started ended → AreMarks (past ++ End b ∷ []) started new
end_noted past b started ended new m are = record {
  started_is = λ a k. (λ t. started_on past (End b) a ((are.started_is a k).0 t), λ h. (are.started_is a k).1 (started_before_end past b a h));
  ended_is = set_at (λ a. Ended past a) (λ a. Ended (past ++ End b ∷ []) a) b ended new m are.ended_is
      (Contains-append_right past (End b ∷ []) (End b) (cons_first (End b) [])) (λ a h. ended_on past (End b) a h) (λ a n h. ended_before past b a n h);
}
