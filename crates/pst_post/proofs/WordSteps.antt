-- Each atomic step on a word keeps the rule.
use Rattle.std.proofs.Common.{◌≡◌, ℕ, ◌+◌, ◌^◌, ◌<◌, eqb, List, [], ◌∷◌, ◌++◌, length, get_or, set, Bool, true, false, Option, None, Some, refl, sym, ap, ◌∙◌, subst, arith}
use mathlib.Core.Option.{none, some}
use lib.ListN.{get_elem?}
use prog.Atomic.{either}
use Rattle.atomic_table.specs.Seated.{TableId}
use Rattle.atomic_table.specs.Table.{step, keeps, Allows}
use Rattle.pst_post.specs.declared.view.Entry.{Entry}
use Rattle.pst_post.specs.declared.view.LaneView.{LaneView}
use Rattle.pst_post.specs.declared.view.Progress.{Progress}
use Rattle.pst_post.specs.declared.view.SeatStatus.{SeatStatus}
use Rattle.pst_post.specs.declared.view.SeatStatus.TheVariants.{Undealt, Out, Gathered}
use Rattle.pst_post.specs.declared.view.View.{View}
use Rattle.pst_post.specs.declared.view.View.TheVariants.{Book, Lane}
use Rattle.pst_post.specs.Gathered.{CollectTells}
use Rattle.pst_post.specs.Plays.{Seated, entry_changed, Posts, Collects, Fetches, HandsBack, fetched_view, finished_view}
use Rattle.pst_post.specs.Rule.{LaneRule, IsProgress, Rule}
use Rattle.pst_post.specs.Seats.{IsBookSeat, IsLaneSeat}
use Rattle.pst_post.specs.Steps.{after_post, after_collect, missed}
use Rattle.pst_post.specs.Views.{IfGathered, entries_of, entry_at, lane_of}
use Rattle.pst_post.proofs.LaneRules.{none_left, posted_rule, collected_rule, same_rule, fetched_rule, handed_back_rule, tells}
use Rattle.pst_post.proofs.Lists.{by_test}
use Rattle.pst_post.proofs.SeatSteps.{lane_holds, lane_step, old_holds, book_step}

after_post-seat : (b : Bool) (e : Entry) (a : ℕ) → (after_post b a e).seat ≡ e.seat
after_post-seat true e a = refl
after_post-seat false e a = refl

after_collect-seat : (b : Bool) (e : Entry) → (after_collect b e).seat ≡ e.seat
after_collect-seat true e = refl
after_collect-seat false e = refl

fetched_view-lane : (v : LaneView) (o : Option ℕ) → (fetched_view v o).lane ≡ v.lane
fetched_view-lane v None = refl
fetched_view-lane v (Some a) = refl

-- the book has an entry for each word
in_range : (table : TableId) (me : Seated) (k : ℕ) → IsBookSeat table me → k < table.words → k < length (entries_of me.0)
in_range table me k seat small = omega (arith, seat.wide)

-- what was collected of a lane that was gathered tells of what was gathered
told : (views : List View) (k : ℕ) (status : SeatStatus) (b : Bool) (e : Entry) (p : Progress) → IsProgress views k status p → CollectTells b e p → IfGathered status (CollectTells b e)
told views k Undealt b e p is t = tt
told views k Out b e p is t = tt
told views k (Gathered q) b e p is t = subst (CollectTells b e) is t

module _ (slots id : ℕ) (me : Seated) (k : ℕ) (table : TableId) (seat : IsBookSeat table me) (small : k < table.words) where
  pub posts : (a : ℕ) → a < 2 ^ 32 → Allows Rule slots id me k (λ n. either (eqb n 0) (a + 1) n) (Posts (step slots k 0 (a + 1) none) me)
  posts a few s r deep at fit =
      let es : List Entry = entries_of me.0 in
      let w : ℕ = get_or s.words k 0 in
      let e : Entry = entry_at es k in
      let at_book : get_elem? s.views id ≡ some (Book es) = at ∙ ap (λ (m : Seated). some m.0) seat.view in
      let held = old_holds s r id es at_book k (in_range table me k seat small) in (
        Book (set es k (after_post (eqb w 0) a e)),
        keeps,
        tt,
        book_step s r id es at_book k (either (eqb w 0) (a + 1) w) (after_post (eqb w 0) a e) (in_range table me k seat small) (after_post-seat (eqb w 0) e a)
            (λ p rule. by_test (λ b. LaneRule (either b (a + 1) w) (after_post b a e) p) w 0 (posted_rule w e p rule a few) (λ _. same_rule w e p rule (missed e) refl refl)),
        ((λ b same. let act : a ≡ b = omega arith in ap (λ c. entry_changed me k (after_post (eqb w 0) c)) act), none_left w e held.0 held.2),
      )

  pub collects : Allows Rule slots id me k (λ n. n) (Collects (step slots k 0 0 none) me)
  collects s r deep at fit =
      let es : List Entry = entries_of me.0 in
      let w : ℕ = get_or s.words k 0 in
      let e : Entry = entry_at es k in
      let at_book : get_elem? s.views id ≡ some (Book es) = at ∙ ap (λ (m : Seated). some m.0) seat.view in
      let held = old_holds s r id es at_book k (in_range table me k seat small) in (
        Book (set es k (after_collect (eqb w 0) e)),
        keeps,
        tt,
        book_step s r id es at_book k w (after_collect (eqb w 0) e) (in_range table me k seat small) (after_collect-seat (eqb w 0) e)
            (λ p rule. by_test (λ b. LaneRule w (after_collect b e) p) w 0 (collected_rule w e p rule) (λ _. same_rule w e p rule (missed e) refl refl)),
        (refl, none_left w e held.0 held.2, told s.views k e.seat (eqb w 0) e held.0 held.1 (tells w e held.0 held.2)),
      )

module _ (slots id : ℕ) (me : Seated) (k : ℕ) (table : TableId) (seat : IsLaneSeat table me k) where
  pub fetches : (lane_of me.0).fetched ≡ (lane_of me.0).finished → Allows Rule slots id me k (λ n. n) (Fetches (step slots k 0 0 none) me)
  fetches idle = subst (λ i. Allows Rule slots id me i (λ n. n) (Fetches (step slots i 0 0 none) me)) (sym seat.lane) (λ s r deep at fit.
      let v : LaneView = lane_of me.0 in
      let w : ℕ = get_or s.words v.lane 0 in
      let at_lane : get_elem? s.views id ≡ some (Lane v) = at ∙ ap (λ (m : Seated). some m.0) seat.view in
      let held = lane_holds s r id v at_lane in (
        Lane (fetched_view v held.outstanding),
        keeps,
        tt,
        lane_step s r id v (fetched_view v held.outstanding) w at_lane (fetched_view-lane v held.outstanding) (λ e rule. fetched_rule w e v rule held.outstanding held.word_is idle),
        (held.outstanding, held.word_is, held.small, refl),
      ))

  pub hands_back : ((a : ℕ) × ((lane_of me.0).fetched ≡ (lane_of me.0).finished ++ a ∷ [])) → Allows Rule slots id me k (λ _. 0) (HandsBack (step slots k 0 0 none) me)
  hands_back busy = subst (λ i. Allows Rule slots id me i (λ _. 0) (HandsBack (step slots i 0 0 none) me)) (sym seat.lane) (λ s r deep at fit.
      let v : LaneView = lane_of me.0 in
      let at_lane : get_elem? s.views id ≡ some (Lane v) = at ∙ ap (λ (m : Seated). some m.0) seat.view in (
        Lane (finished_view v),
        keeps,
        tt,
        lane_step s r id v (finished_view v) 0 at_lane refl (λ e rule. handed_back_rule (get_or s.words v.lane 0) e v rule busy.0 busy.1),
        refl,
      ))
