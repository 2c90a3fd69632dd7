-- The rule after the seat of a lane is dealt.
use Rattle.std.proofs.Common.{◌≡◌, ◌≢◌, ◌⊎◌, ℕ, ◌<◌, List, [], ◌∷◌, ◌++◌, length, get_or, set, refl, sym, ap, ◌∙◌, subst, ⊎_elim, inl, inr, arith}
use mathlib.Core.Option.{some}
use lib.ListN.{get_elem?}
use Rattle.atomic_table.specs.Seated.{TableId}
use Rattle.atomic_table.specs.Table.{State, Splits}
use Rattle.atomic_table.proofs.Lists.{at_longer, at_last}
use Rattle.pst_post.specs.declared.view.Entry.{Entry}
use Rattle.pst_post.specs.declared.view.LaneView.{LaneView}
use Rattle.pst_post.specs.declared.view.SeatStatus.TheVariants.{Undealt, Out}
use Rattle.pst_post.specs.declared.view.View.{View}
use Rattle.pst_post.specs.declared.view.View.TheVariants.{Book, Lane}
use Rattle.pst_post.specs.Plays.{Seated, dealing}
use Rattle.pst_post.specs.Rule.{LaneRule, IsProgress, Rule}
use Rattle.pst_post.specs.Seats.{IsBookSeat}
use Rattle.pst_post.specs.Steps.{with_seat}
use Rattle.pst_post.specs.Views.{blank_lane, no_progress, entries_of, entry_at}
use Rattle.pst_post.proofs.LaneRules.{same_rule}
use Rattle.pst_post.proofs.Lists.{snoc_at}
use Rattle.pst_post.proofs.SeatSteps.{not_lane, same_lane, old_lane_view, old_holds, book_changed, book_there, book_only, lane_was, lane_stays}

undealt_not_out : Undealt ≡ Out → ⊥
undealt_not_out e = cc

module _ (s : State ℕ View) (r : Rule s) (id : ℕ) (es : List Entry) (at : get_elem? s.views id ≡ some (Book es)) (k : ℕ) (small : k < length es) (fresh : (entry_at es k).seat ≡ Undealt) where
  -- the entries afterwards
  dealt : List Entry
  dealt = set es k (with_seat Out (entry_at es k))

  -- a lane's view is the new one, which is the last, or that of another lane
  had : (j : ℕ) (u : LaneView) → get_elem? (set s.views id (Book dealt) ++ Lane (blank_lane k) ∷ []) j ≡ some (Lane u)
      → ((u.lane ≢ k) × (get_elem? s.views j ≡ some (Lane u))) ⊎ ((j ≡ length (set s.views id (Book dealt))) × (blank_lane k ≡ u))
  had j u there = ⊎_elim
      (λ (t : get_elem? (set s.views id (Book dealt)) j ≡ some (Lane u)).
      let old = lane_was s r id es at dealt j u t in
      inl ((λ is. undealt_not_out (sym fresh ∙ subst (λ i. (entry_at es i).seat ≡ Out) is (old_lane_view s r id es at j u old).1)), old))
      (λ (t : (j ≡ length (set s.views id (Book dealt))) × (Lane (blank_lane k) ≡ Lane u)). inr (t.0, same_lane (blank_lane k) u t.1))
      (snoc_at (set s.views id (Book dealt)) (Lane (blank_lane k)) (Lane u) j there)

  had_other : (j : ℕ) (u : LaneView) → u.lane ≢ k → get_elem? (set s.views id (Book dealt) ++ Lane (blank_lane k) ∷ []) j ≡ some (Lane u) → get_elem? s.views j ≡ some (Lane u)
  had_other j u other there = ⊎_elim
      (λ (t : (u.lane ≢ k) × (get_elem? s.views j ≡ some (Lane u))). t.1)
      (λ (t : (j ≡ length (set s.views id (Book dealt))) × (blank_lane k ≡ u)). absurd (other (ap (λ v. v.lane) (sym t.1))))
      (had j u there)

  had_last : (j : ℕ) (u : LaneView) → u.lane ≡ k → get_elem? (set s.views id (Book dealt) ++ Lane (blank_lane k) ∷ []) j ≡ some (Lane u) → j ≡ length (set s.views id (Book dealt))
  had_last j u is there = ⊎_elim
      (λ (t : (u.lane ≢ k) × (get_elem? s.views j ≡ some (Lane u))). absurd (t.0 is))
      (λ (t : (j ≡ length (set s.views id (Book dealt))) × (blank_lane k ≡ u)). t.0)
      (had j u there)

  pub deals : Rule record { words = s.words; homes = s.homes; views = set s.views id (Book (set es k (with_seat Out (entry_at es k)))) ++ Lane (blank_lane k) ∷ [] }
  unfolding dealt
  deals =
      let views : List View = set s.views id (Book dealt) in
      let held = old_holds s r id es at k small in
      let blank : held.0 ≡ no_progress = subst (λ status. IsProgress s.views k status held.0) fresh held.1 in
      book_changed s r id es at k (with_seat Out (entry_at es k)) s.words (views ++ Lane (blank_lane k) ∷ []) small record {
        count = refl;
        other_words = λ j other. refl;
        here = at_longer views (Lane (blank_lane k) ∷ []) id (Book dealt) (book_there s r id es at dealt);
        one_book = λ j fs there. ⊎_elim
            (λ (t : get_elem? views j ≡ some (Book fs)). book_only s r id es at dealt j fs t)
            (λ (t : (j ≡ length views) × (Lane (blank_lane k) ≡ Book fs)). absurd (not_lane fs (blank_lane k) (sym t.1)))
            (snoc_at views (Lane (blank_lane k)) (Book fs) j there);
        were = had_other;
        stay = λ j u other there. at_longer views (Lane (blank_lane k) ∷ []) j (Lane u) (lane_stays s r id es at dealt j u there);
        out = λ j u is there. refl;
        one_view = λ i j u v is is' there there'. had_last i u is there ∙ sym (had_last j v is' there');
        holds = (
          no_progress,
          record { id = length views; view = blank_lane k; there = at_last views (Lane (blank_lane k)) (length views) refl; lane = refl; progress = refl },
          same_rule (get_or s.words k 0) (entry_at es k) no_progress (subst (LaneRule (get_or s.words k 0) (entry_at es k)) blank held.2) (with_seat Out (entry_at es k)) refl refl,
        );
      }

-- the same, as the table asks for it
pub splits : (table : TableId) (me : Seated) (seat : IsBookSeat table me) (id k : ℕ) → k < table.words → (entry_at (entries_of me.0) k).seat ≡ Undealt → Splits Rule id me.0 (dealing k me.0) (Lane (blank_lane k))
splits table me seat id k small fresh s r at = deals s r id (entries_of me.0) (at ∙ ap (λ (m : Seated). some m.0) seat.view) k (omega (arith, seat.wide)) fresh
