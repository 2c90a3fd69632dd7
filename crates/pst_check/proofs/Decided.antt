-- What a trace says is decided.
use Rattle.std.proofs.Common.{◌≡◌, ◌⊎◌, ℕ, List, [], ◌∷◌, Bool, subst, inl, inr, ⊎_elim, refl, Option, Some, None}
use Rattle.std.specs.Prelude.{Contains}
use Rattle.std.proofs.lemmas.Bool.{cases_eq}
use Rattle.pst_scen.specs.declared.event.Event.{Event}
use Rattle.pst_scen.specs.declared.event.Event.TheVariants.{Start, End}
use Rattle.pst_scen.specs.declared.act.Link.{Link}
use Rattle.pst_scen.specs.declared.act.Link.TheVariants as link
use Rattle.pst_scen.specs.Trace.{Started, Ended, Runs, Names}
use Rattle.pst_check.proofs.Elements.{none_in, cons_cases, cons_first, cons_rest}

pub ended_or : (t : List Event) (a : ℕ) → Ended t a ⊎ (Ended t a → ⊥)
ended_or [] a = inr (none_in (End a))
ended_or (Start b l more ∷ es) a =
    ⊎_elim (λ h. inl (cons_rest (Start b l more) (End a) es h)) (λ n. inr (λ h. ⊎_elim (λ e. cc) n (cons_cases (Start b l more) (End a) es h))) (ended_or es a)
ended_or (End b ∷ es) a =
    ⊎_elim (λ e. inl (subst (λ v. Contains (End b ∷ es) (End v)) e (cons_first (End b) es)))
    (λ ne. ⊎_elim (λ h. inl (cons_rest (End b) (End a) es h)) (λ n. inr (λ h. ⊎_elim (λ e. ne (inner b a e)) n (cons_cases (End b) (End a) es h))) (ended_or es a))
    (cases_eq b a)
  where
    inner : (b a : ℕ) → End b ≡ End a → b ≡ a
    inner b a e = cc

pub started_or : (t : List Event) (a : ℕ) → Started t a ⊎ (Started t a → ⊥)
started_or [] a = inr (λ h. none_in (Start a h.0 h.1.0) h.1.1)
started_or (End b ∷ es) a =
    ⊎_elim (λ h. inl (h.0, (h.1.0, cons_rest (End b) (Start a h.0 h.1.0) es h.1.1)))
    (λ n. inr (λ h. ⊎_elim (λ e. cc) (λ k. n (h.0, (h.1.0, k))) (cons_cases (End b) (Start a h.0 h.1.0) es h.1.1))) (started_or es a)
started_or (Start b l more ∷ es) a =
    ⊎_elim (λ e. inl (l, (more, subst (λ v. Contains (Start b l more ∷ es) (Start v l more)) e (cons_first (Start b l more) es))))
    (λ ne. ⊎_elim (λ h. inl (h.0, (h.1.0, cons_rest (Start b l more) (Start a h.0 h.1.0) es h.1.1)))
    (λ n. inr (λ h. ⊎_elim (λ e. ne (inner h.0 h.1.0 e)) (λ k. n (h.0, (h.1.0, k))) (cons_cases (Start b l more) (Start a h.0 h.1.0) es h.1.1))) (started_or es a))
    (cases_eq b a)
  where
    inner : (m : ℕ) (o : Bool) → Start b l more ≡ Start a m o → b ≡ a
    inner m o e = cc

pub runs_or : (t : List Event) (a : ℕ) → Runs t a ⊎ (Runs t a → ⊥)
runs_or t a = ⊎_elim (λ b. ⊎_elim (λ e. inr (λ r. r.1 e)) (λ n. inl (b, n)) (ended_or t a)) (λ n. inr (λ r. n r.0)) (started_or t a)

pub names_or : (to : Link) (last : Option ℕ) → Names to last ⊎ (Names to last → ⊥)
names_or link.Nothing last = inr (λ h. h)
names_or link.Initial None = inl refl
names_or link.Initial (Some a) = inr (λ h. cc)
names_or (link.Act b r) None = inr (λ h. cc)
names_or (link.Act b r) (Some a) = ⊎_elim (λ e. inl (subst (λ v. Some a ≡ Some v) e refl)) (λ n. inr (λ h. n (inner a b h))) (cases_eq a b)
  where
    inner : (a b : ℕ) → Some a ≡ Some b → a ≡ b
    inner a b e = cc

-- what is not refused holds, where it is decided
pub unrefused : {A : Type 0} → A ⊎ (A → ⊥) → ((A → ⊥) → ⊥) → A
unrefused d n = ⊎_elim (λ h. h) (λ k. absurd (n k)) d
