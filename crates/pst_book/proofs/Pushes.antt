-- A trace with one more start.
use Rattle.std.proofs.Common.{◌≡◌, ◌≢◌, ◌⊎◌, ◌↔◌, ℕ, Bool, List, [], ◌∷◌, ◌++◌, inl, inr, ⊎_elim}
use Rattle.std.proofs.lemmas.List.Elements.{Contains-append_left, Contains-push_cases}
use Rattle.pst_scen.specs.declared.event.Event.{Event}
use Rattle.pst_scen.specs.declared.event.Event.TheVariants.{Start, End}
use Rattle.pst_scen.specs.Trace.{Started, Ended, IsHeld}

module _ (t : List Event) (a l : ℕ) (more : Bool) where
  abbrev new : List Event
  new = t ++ Start a l more ∷ []

  same_act : (b k : ℕ) (o : Bool) → Start a l more ≡ Start b k o → b ≡ a
  same_act b k o e = cc

  same_lane : (b k : ℕ) (o : Bool) → Start a l more ≡ Start b k o → k ≡ l
  same_lane b k o e = cc

  pub started_push : (b : ℕ) → Started new b → Started t b ⊎ (b ≡ a)
  started_push b h = ⊎_elim (λ k. inl (h.0, (h.1.0, k))) (λ e. inr (same_act b h.0 h.1.0 e)) (Contains-push_cases t (Start a l more) (Start b h.0 h.1.0) h.1.1)

  pub ended_push : (b : ℕ) → Ended new b → Ended t b
  ended_push b h = ⊎_elim (λ k. k) (λ e. cc) (Contains-push_cases t (Start a l more) (End b) h)

  pub held_push : (x : ℕ) → x ≢ l → IsHeld new x ↔ IsHeld t x
  held_push x n = (
    λ h. (h.0, (h.1.0, ⊎_elim (λ k. k) (λ e. absurd (n (same_lane h.0 x h.1.0 e))) (Contains-push_cases t (Start a l more) (Start h.0 x h.1.0) h.1.1)), λ e. h.2 (Contains-append_left t (Start a l more ∷ []) (End h.0) e)),
    λ h. (h.0, (h.1.0, Contains-append_left t (Start a l more ∷ []) (Start h.0 x h.1.0) h.1.1), λ e. h.2 (ended_push h.0 e)),
  )
