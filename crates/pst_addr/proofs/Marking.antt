-- Marks of asks, from the last to the first.
use Rattle.std.proofs.Common.{◌≡◌, ◌≢◌, ◌↔◌, ◌⊎◌, ◌∙◌, ℕ, ◌+◌, ◌/◌, ◌<◌, ◌≤◌, List, length, get_or, Some, slice_get, sym, ap, subst, inl, inr, ⊎_elim, arith}
use Rattle.std.specs.Prelude.{Bool, true, false, slice_set}
use Rattle.std.specs.Bool.{OnFalse}
use Rattle.std.proofs.lemmas.Bool.{cases_eq, OnFalse_at}
use Rattle.std.proofs.lemmas.List.{length-set, get_or-set_same, get_or-set_other}
use Rattle.std.proofs.lemmas.Option.{same_Some, get_or_from_slice_get, slice_get_within}
use Rattle.pst_scen.specs.Plan.{Entries}
use Rattle.pst_scen.specs.Rows.{row_words}
use Rattle.pst_square.specs.Marks.{IsMarked}
use Rattle.pst_addr.specs.declared.ask.Ask.{Ask}
use Rattle.pst_addr.specs.Places.{Meet, IsAsk, AreAsks}
use Rattle.pst_addr.specs.Columns.{IsMetNoMore, AreMarked, AreMarkedFrom}

module _ (p : Entries) (asks : List Ask) (all : AreAsks p asks) (at : ℕ) (ask : Ask) (is : slice_get asks at ≡ Some ask) (old_set new_set : List ℕ) (old_marks : List Bool) (needed : Bool) (seen : AreMarkedFrom p asks (at + 1) old_set old_marks)
    (as_long : length new_set ≡ length old_set) (added : (d : ℕ) → IsMarked new_set d ↔ IsMarked old_set d ⊎ (d ≡ ask.action))
    (unless : OnFalse needed ((m : ℕ) → m / 64 < length old_set → IsMarked old_set m → Meet p m ask.action → ⊥)) where
  below : (j : ℕ) (later : Ask) → slice_get asks j ≡ Some later → later.action / 64 < length old_set
  below j later is_later =
      let its : IsAsk p later = subst (IsAsk p) (get_or_from_slice_get asks j later later is_later) (all j later (slice_get_within asks j later is_later)) in
      let many = seen.many_words in
      let l = its.action in
      omega (arith, many, l)

  asked : (j : ℕ) (later : Ask) → at ≤ j → slice_get asks j ≡ Some later → IsMarked new_set later.action
  asked j later l is_later = ⊎_elim
      (λ e. (added later.action).1 (inr (ap (λ (a : Ask). a.action) (same_Some later ask (sym is_later ∙ ap (slice_get asks) e ∙ is)))))
      (λ n. (added later.action).1 (inl (seen.asked j later (omega (arith, l, n)) is_later)))
      (cases_eq j at)

  no_more_here : needed ≡ false → IsMetNoMore p asks at
  no_more_here none j asked_here later l is_here is_later meets =
      let same : asked_here ≡ ask = same_Some asked_here ask (sym is_here ∙ is) in
      OnFalse_at none unless later.action (below j later is_later) (seen.asked j later (omega (arith, l)) is_later) (subst (λ (a : Ask). Meet p later.action a.action) same meets)

  within : at < length old_marks
  within = let l = slice_get_within asks at ask is in let m = seen.many in omega (arith, l, m)

  pub looked_at : AreMarkedFrom p asks at new_set (slice_set old_marks at needed)
  looked_at = record {
    many_words = as_long ∙ seen.many_words;
    many = length-set old_marks at needed ∙ seen.many;
    asked = asked;
    each = λ k l inside none. ⊎_elim
        (λ e. subst (IsMetNoMore p asks) (sym e) (no_more_here (sym (get_or-set_same old_marks at needed true within) ∙ subst (λ n. get_or (slice_set old_marks at needed) n true ≡ false) e none)))
        (λ n. seen.each k (omega (arith, l, n)) inside (sym (get_or-set_other old_marks at k needed true n) ∙ none))
        (cases_eq k at);
  }

pub all_seen : (p : Entries) (asks : List Ask) (at : ℕ) (set : List ℕ) (marks : List Bool) → at ≤ 0 → AreMarkedFrom p asks at set marks → AreMarked p asks marks
all_seen p asks at set marks none seen = record { many = seen.many; each = λ k inside unmarked. seen.each k (omega (arith, none)) inside unmarked }
