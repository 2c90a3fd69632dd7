-- The rule after the seat of a lane is gathered.
use Rattle.std.proofs.Common.{◌≡◌, ◌≢◌, ℕ, List, get_or, set, refl, sym, ap, ◌∙◌, subst, ⊎_elim}
use mathlib.Core.Option.{some}
use lib.ListN.{get_elem?}
use Rattle.atomic_table.specs.Seated.{TableId}
use Rattle.atomic_table.specs.Table.{State, Joins}
use Rattle.atomic_table.proofs.Lists.{at_set, set_else}
use Rattle.pst_post.specs.declared.view.Entry.{Entry}
use Rattle.pst_post.specs.declared.view.LaneView.{LaneView}
use Rattle.pst_post.specs.declared.view.SeatStatus.TheVariants.{Gathered}
use Rattle.pst_post.specs.declared.view.View.{View}
use Rattle.pst_post.specs.declared.view.View.TheVariants.{Book, Lane, Spent}
use Rattle.pst_post.specs.Plays.{Seated, gathering}
use Rattle.pst_post.specs.Rule.{LaneRule, Rule}
use Rattle.pst_post.specs.Seats.{IsBookSeat, IsLaneSeat}
use Rattle.pst_post.specs.Steps.{with_seat}
use Rattle.pst_post.specs.Views.{entries_of, entry_at, lane_of, progress_of}
use Rattle.pst_post.proofs.LaneRules.{same_rule}
use Rattle.pst_post.proofs.SeatSteps.{one_lane, apart, lane_holds, old_lane_view, entries_are, book_changed, book_there, book_only, lane_was, lane_stays}

module _ (s : State ℕ View) (r : Rule s) (id : ℕ) (es : List Entry) (at : get_elem? s.views id ≡ some (Book es)) (other : ℕ) (v : LaneView) (there : get_elem? s.views other ≡ some (Lane v)) where
  -- the entry afterwards
  kept : Entry
  kept = with_seat (Gathered (progress_of v)) (entry_at es v.lane)

  -- a lane's view is that of another lane
  left : (j : ℕ) (u : LaneView) → get_elem? (set (set s.views id (Book (set es v.lane kept))) other Spent) j ≡ some (Lane u) → (u.lane ≢ v.lane) × (get_elem? s.views j ≡ some (Lane u))
  left j u at_u = ⊎_elim
      (λ (t : (j ≡ other) × (Spent ≡ Lane u)). absurd (spent_not_lane u t.1))
      (λ (t : (j ≢ other) × (get_elem? (set s.views id (Book (set es v.lane kept))) j ≡ some (Lane u))).
      let old = lane_was s r id es at (set es v.lane kept) j u t.1 in ((λ is. t.0 (r.one_view j other u v old there is)), old))
      (at_set (set s.views id (Book (set es v.lane kept))) other j Spent (Lane u) at_u)
    where
      spent_not_lane : (u : LaneView) → Spent ≡ Lane u → ⊥
      spent_not_lane u e = cc

  pub gathers : Rule record { words = s.words; homes = s.homes; views = set (set s.views id (Book (set es v.lane (with_seat (Gathered (progress_of v)) (entry_at es v.lane))))) other Spent }
  unfolding kept
  gathers =
      let fs : List Entry = set es v.lane kept in
      let views : List View = set s.views id (Book fs) in
      let known = old_lane_view s r id es at other v there in
      book_changed s r id es at v.lane kept s.words (set views other Spent) known.0 record {
        count = refl;
        other_words = λ j ne. refl;
        here = set_else views other id Spent (apart s.views id other es v at there) ∙ book_there s r id es at fs;
        one_book = λ j gs at_j. ⊎_elim
            (λ (t : (j ≡ other) × (Spent ≡ Book gs)). absurd (spent_not_book gs t.1))
            (λ (t : (j ≢ other) × (get_elem? views j ≡ some (Book gs))). book_only s r id es at fs j gs t.1)
            (at_set views other j Spent (Book gs) at_j);
        were = λ j u ne at_u. (left j u at_u).1;
        stay = λ j u ne at_u. set_else views other j Spent (λ same. ne (ap (λ w. w.lane) (one_lane s.views other u v (subst (λ i. get_elem? s.views i ≡ some (Lane u)) same at_u) there))) ∙ lane_stays s r id es at fs j u at_u;
        out = λ j u is at_u. absurd ((left j u at_u).0 is);
        one_view = λ i j u w is is' at_u at_w. absurd ((left i u at_u).0 is);
        holds = (
          progress_of v,
          refl,
          same_rule (get_or s.words v.lane 0) (entry_at es v.lane) (progress_of v) (subst (λ l. LaneRule (get_or s.words v.lane 0) (entry_at l v.lane) (progress_of v)) (sym (entries_are s r id es at)) (lane_holds s r other v there)) kept refl refl,
        );
      }
    where
      spent_not_book : (gs : List Entry) → Spent ≡ Book gs → ⊥
      spent_not_book gs e = cc

-- the same, as the table asks for it
pub joins : (table : TableId) (me : Seated) (seat : IsBookSeat table me) (id : ℕ) (table' : TableId) (me' : Seated) (lane : ℕ) (seat' : IsLaneSeat table' me' lane) (id' : ℕ) → Joins Rule id me.0 id' me'.0 (gathering me.0 me'.0) Spent
joins table me seat id table' me' lane seat' id' s r at other there =
    let at_book : get_elem? s.views id ≡ some (Book (entries_of me.0)) = at ∙ ap (λ (m : Seated). some m.0) seat.view in
    let at_lane : get_elem? s.views id' ≡ some (Lane (lane_of me'.0)) = sym (set_else s.views id id' (gathering me.0 me'.0) other) ∙ (there ∙ ap (λ (m : Seated). some m.0) seat'.view) in
    gathers s r id (entries_of me.0) at_book id' (lane_of me'.0) at_lane
