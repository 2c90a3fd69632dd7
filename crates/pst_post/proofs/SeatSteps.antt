-- The rule after a step of one seat.
use Rattle.std.proofs.Common.{◌≡◌, ◌≢◌, ℕ, ◌<◌, List, length, get_or, set, refl, sym, ap, ◌∙◌, subst, ⊎_elim, arith, length-set, get_or-set_other, get_or-set_same}
use mathlib.Core.Option.{some}
use lib.ListN.{get_elem?}
use Rattle.atomic_table.specs.Table.{State}
use Rattle.atomic_table.proofs.Lists.{at_set, set_here, set_else}
use Rattle.pst_post.specs.declared.view.Entry.{Entry}
use Rattle.pst_post.specs.declared.view.LaneView.{LaneView}
use Rattle.pst_post.specs.declared.view.Progress.{Progress}
use Rattle.pst_post.specs.declared.view.SeatStatus.{SeatStatus}
use Rattle.pst_post.specs.declared.view.SeatStatus.TheVariants.{Undealt, Out, Gathered}
use Rattle.pst_post.specs.declared.view.View.{View}
use Rattle.pst_post.specs.declared.view.View.TheVariants.{Book, Lane}
use Rattle.pst_post.specs.Rule.{LaneRule, HasLaneView, IsProgress, Rule}
use Rattle.pst_post.specs.Views.{blank_entry, entry_at, progress_of}
use Rattle.pst_post.proofs.Lists.{here_or_else, inside, one_value}

pub not_lane : (es : List Entry) (v : LaneView) → Book es ≡ Lane v → ⊥
not_lane es v e = cc

pub same_lane : (v w : LaneView) → Lane v ≡ Lane w → v ≡ w
same_lane v w e = cc

pub same_entries : (es fs : List Entry) → Book es ≡ Book fs → es ≡ fs
same_entries es fs e = cc

pub one_lane : (views : List View) (i : ℕ) (v w : LaneView) → get_elem? views i ≡ some (Lane v) → get_elem? views i ≡ some (Lane w) → v ≡ w
one_lane views i v w e f = same_lane v w (one_value views i (Lane v) (Lane w) e f)

-- no seat has both a book's view and a lane's
pub apart : (views : List View) (i j : ℕ) (es : List Entry) (v : LaneView) → get_elem? views i ≡ some (Book es) → get_elem? views j ≡ some (Lane v) → i ≢ j
apart views i j es v book lane same = not_lane es v (one_value views j (Book es) (Lane v) (subst (λ n. get_elem? views n ≡ some (Book es)) same book) lane)

-- a lane's progress stays, where its view stays
pub progress_stays : (views views' : List View) (k : ℕ) (status : SeatStatus) (p : Progress) → ((j : ℕ) (v : LaneView) → get_elem? views j ≡ some (Lane v) → v.lane ≡ k → get_elem? views' j ≡ some (Lane v)) → IsProgress views k status p → IsProgress views' k status p
progress_stays views views' k Undealt p stays is = is
progress_stays views views' k Out p stays is = record { id = is.id; view = is.view; there = stays is.id is.view is.there is.lane; lane = is.lane; progress = is.progress }
progress_stays views views' k (Gathered q) p stays is = is

-- the rule of one lane, with its progress
abbrev pub LaneHolds : List View → List Entry → List ℕ → ℕ → Type 0
LaneHolds views entries words k = (p : Progress) × IsProgress views k (entry_at entries k).seat p × LaneRule (get_or words k 0) (entry_at entries k) p

module _ (s : State ℕ View) (r : Rule s) (id : ℕ) where
  -- the rule of a lane whose seat is out, at the view of its seat
  pub lane_holds : (v : LaneView) → get_elem? s.views id ≡ some (Lane v) → LaneRule (get_or s.words v.lane 0) (entry_at r.entries v.lane) (progress_of v)
  lane_holds v at =
      let known = r.lane_view id v at in
      let held = r.each_lane v.lane known.0 in
      let out : HasLaneView s.views v.lane held.0 = subst (λ status. IsProgress s.views v.lane status held.0) known.1 held.1 in
      let seat : out.id ≡ id = r.one_view out.id id out.view v out.there at out.lane in
      let view : out.view ≡ v = one_lane s.views id out.view v (subst (λ j. get_elem? s.views j ≡ some (Lane out.view)) seat out.there) at in
      subst (LaneRule (get_or s.words v.lane 0) (entry_at r.entries v.lane)) (out.progress ∙ ap progress_of view) held.2

  module _ (v v' : LaneView) (x : ℕ) (at : get_elem? s.views id ≡ some (Lane v)) (lane : v'.lane ≡ v.lane) where
    -- who has a lane's view had one of that lane
    had : (j : ℕ) (u : LaneView) → get_elem? (set s.views id (Lane v')) j ≡ some (Lane u) → (w : LaneView) × (get_elem? s.views j ≡ some (Lane w)) × (u.lane ≡ w.lane)
    had j u e = ⊎_elim
        (λ (t : (j ≡ id) × (Lane v' ≡ Lane u)). (v, subst (λ i. get_elem? s.views i ≡ some (Lane v)) (sym t.0) at, ap (λ w. w.lane) (sym (same_lane v' u t.1)) ∙ lane))
        (λ (t : (j ≢ id) × (get_elem? s.views j ≡ some (Lane u))). (u, t.1, refl))
        (at_set s.views id j (Lane v') (Lane u) e)

    -- a step of a lane's seat
    pub lane_step : ((e : Entry) → LaneRule (get_or s.words v.lane 0) e (progress_of v) → LaneRule x e (progress_of v')) → Rule record { words = set s.words v.lane x; homes = s.homes; views = set s.views id (Lane v') }
    lane_step ok = record {
      book = r.book;
      entries = r.entries;
      book_view = set_else s.views id r.book (Lane v') (apart s.views r.book id r.entries v r.book_view at) ∙ r.book_view;
      one_book = λ j es e. ⊎_elim
          (λ (t : (j ≡ id) × (Lane v' ≡ Book es)). absurd (not_lane es v' (sym t.1)))
          (λ (t : (j ≢ id) × (get_elem? s.views j ≡ some (Book es))). r.one_book j es t.1)
          (at_set s.views id j (Lane v') (Book es) e);
      wide = r.wide ∙ sym (length-set s.words v.lane x);
      lane_view = λ j u e. let t = had j u e in subst (λ k. (k < length r.entries) × ((entry_at r.entries k).seat ≡ Out)) (sym t.2) (r.lane_view j t.0 t.1);
      one_view = λ i j u w e f same. let t = had i u e in let t' = had j w f in r.one_view i j t.0 t'.0 t.1 t'.1 (sym t.2 ∙ same ∙ t'.2);
      each_lane = λ k small. here_or_else (λ k. k < length r.entries → LaneHolds (set s.views id (Lane v')) r.entries (set s.words v.lane x) k) v.lane k here (else k) small;
    }
      where
        here : v.lane < length r.entries → LaneHolds (set s.views id (Lane v')) r.entries (set s.words v.lane x) v.lane
        here small =
            let there : get_elem? (set s.views id (Lane v')) id ≡ some (Lane v') = set_here s.views id (Lane v') (inside s.views id (Lane v) at) in (
              progress_of v',
              subst (λ status. IsProgress (set s.views id (Lane v')) v.lane status (progress_of v')) (sym (r.lane_view id v at).1) (record { id = id; view = v'; there = there; lane = lane; progress = refl }),
              subst (λ w. LaneRule w (entry_at r.entries v.lane) (progress_of v')) (sym (get_or-set_same s.words v.lane x 0 (omega (arith, r.wide)))) (ok (entry_at r.entries v.lane) (lane_holds v at)),
            )

        else : (k : ℕ) → k ≢ v.lane → k < length r.entries → LaneHolds (set s.views id (Lane v')) r.entries (set s.words v.lane x) k
        else k other small = let held = r.each_lane k small in (
          held.0,
          progress_stays s.views (set s.views id (Lane v')) k (entry_at r.entries k).seat held.0
              (λ j u e is. set_else s.views id j (Lane v') (λ here. other (sym is ∙ ap (λ w. w.lane) (one_lane s.views id u v (subst (λ i. get_elem? s.views i ≡ some (Lane u)) here e) at))) ∙ e)
              held.1,
          subst (λ w. LaneRule w (entry_at r.entries k) held.0) (sym (get_or-set_other s.words v.lane k x 0 other)) held.2,
        )

-- The book's seat has another entry of the lane k, and the words and views of the other lanes stay
pub record BookChange (s : State ℕ View) (id : ℕ) (es : List Entry) (k : ℕ) (e : Entry) (words : List ℕ) (views : List View) : Type 0 where
  pub count : length words ≡ length s.words
  pub other_words : (j : ℕ) → j ≢ k → get_or words j 0 ≡ get_or s.words j 0
  pub here : get_elem? views id ≡ some (Book (set es k e))
  pub one_book : (j : ℕ) (fs : List Entry) → get_elem? views j ≡ some (Book fs) → j ≡ id
  pub were : (j : ℕ) (u : LaneView) → u.lane ≢ k → get_elem? views j ≡ some (Lane u) → get_elem? s.views j ≡ some (Lane u)
  pub stay : (j : ℕ) (u : LaneView) → u.lane ≢ k → get_elem? s.views j ≡ some (Lane u) → get_elem? views j ≡ some (Lane u)
  pub out : (j : ℕ) (u : LaneView) → u.lane ≡ k → get_elem? views j ≡ some (Lane u) → e.seat ≡ Out
  pub one_view : (i j : ℕ) (u v : LaneView) → u.lane ≡ k → v.lane ≡ k → get_elem? views i ≡ some (Lane u) → get_elem? views j ≡ some (Lane v) → i ≡ j
  pub holds : (p : Progress) × IsProgress views k e.seat p × LaneRule (get_or words k 0) e p

module _ (s : State ℕ View) (r : Rule s) (id : ℕ) (es : List Entry) (at : get_elem? s.views id ≡ some (Book es)) where
  pub book_is : id ≡ r.book
  book_is = r.one_book id es at

  pub entries_are : es ≡ r.entries
  entries_are = same_entries es r.entries (one_value s.views r.book (Book es) (Book r.entries) (subst (λ i. get_elem? s.views i ≡ some (Book es)) book_is at) r.book_view)

  pub old_lane_view : (j : ℕ) (v : LaneView) → get_elem? s.views j ≡ some (Lane v) → (v.lane < length es) × ((entry_at es v.lane).seat ≡ Out)
  old_lane_view j v e = subst (λ l. (v.lane < length l) × ((entry_at l v.lane).seat ≡ Out)) (sym entries_are) (r.lane_view j v e)

  pub old_holds : (k : ℕ) → k < length es → LaneHolds s.views es s.words k
  old_holds k small = subst (λ l. k < length l → LaneHolds s.views l s.words k) (sym entries_are) (r.each_lane k) small

  -- the book's view changes, and the lanes' views stay
  module _ (fs : List Entry) where
    pub book_there : get_elem? (set s.views id (Book fs)) id ≡ some (Book fs)
    book_there = set_here s.views id (Book fs) (inside s.views id (Book es) at)

    pub book_only : (j : ℕ) (gs : List Entry) → get_elem? (set s.views id (Book fs)) j ≡ some (Book gs) → j ≡ id
    book_only j gs there = ⊎_elim
        (λ (t : (j ≡ id) × (Book fs ≡ Book gs)). t.0)
        (λ (t : (j ≢ id) × (get_elem? s.views j ≡ some (Book gs))). r.one_book j gs t.1 ∙ sym book_is)
        (at_set s.views id j (Book fs) (Book gs) there)

    pub lane_was : (j : ℕ) (u : LaneView) → get_elem? (set s.views id (Book fs)) j ≡ some (Lane u) → get_elem? s.views j ≡ some (Lane u)
    lane_was j u there = ⊎_elim
        (λ (t : (j ≡ id) × (Book fs ≡ Lane u)). absurd (not_lane fs u t.1))
        (λ (t : (j ≢ id) × (get_elem? s.views j ≡ some (Lane u))). t.1)
        (at_set s.views id j (Book fs) (Lane u) there)

    pub lane_stays : (j : ℕ) (u : LaneView) → get_elem? s.views j ≡ some (Lane u) → get_elem? (set s.views id (Book fs)) j ≡ some (Lane u)
    lane_stays j u there = set_else s.views id j (Book fs) (λ same. apart s.views id j es u at there (sym same)) ∙ there

  pub book_changed : (k : ℕ) (e : Entry) (words : List ℕ) (views : List View) → k < length es → BookChange s id es k e words views → Rule record { words = words; homes = s.homes; views = views }
  book_changed k e words views small c = record {
    book = id;
    entries = set es k e;
    book_view = c.here;
    one_book = c.one_book;
    wide = length-set es k e ∙ (ap length entries_are ∙ (r.wide ∙ sym c.count));
    lane_view = λ j u at_u. here_or_else (λ i. u.lane ≡ i → (i < length (set es k e)) × ((entry_at (set es k e) i).seat ≡ Out)) k u.lane
        (λ is. (subst (λ n. k < n) (sym (length-set es k e)) small, ap (λ f. f.seat) here ∙ c.out j u is at_u))
        (λ other _. let old = old_lane_view j u (c.were j u other at_u) in (subst (λ n. u.lane < n) (sym (length-set es k e)) old.0, ap (λ f. f.seat) (else u.lane other) ∙ old.1))
        refl;
    one_view = λ i j u v at_u at_v same. here_or_else (λ n. u.lane ≡ n → i ≡ j) k u.lane
        (λ is. c.one_view i j u v is (sym same ∙ is) at_u at_v)
        (λ other _. r.one_view i j u v (c.were i u other at_u) (c.were j v (λ is. other (same ∙ is)) at_v) same)
        refl;
    each_lane = λ j few. here_or_else (λ i. i < length (set es k e) → LaneHolds views (set es k e) words i) k j
        (λ _. subst (λ f. (p : Progress) × IsProgress views k f.seat p × LaneRule (get_or words k 0) f p) (sym here) c.holds)
        (λ other few. let held = old_holds j (subst (λ n. j < n) (length-set es k e) few) in (
          held.0,
          subst (λ f. IsProgress views j f.seat held.0) (sym (else j other)) (progress_stays s.views views j (entry_at es j).seat held.0 (λ i u at_u is. c.stay i u (λ is_k. other (sym is ∙ is_k)) at_u) held.1),
          subst (λ (z : ℕ × Entry). LaneRule z.0 z.1 held.0) (λ i. (sym (c.other_words j other) i, sym (else j other) i)) held.2,
        ))
        few;
  }
    where
      here : entry_at (set es k e) k ≡ e
      here = get_or-set_same es k e blank_entry small

      else : (j : ℕ) → j ≢ k → entry_at (set es k e) j ≡ entry_at es j
      else j other = get_or-set_other es k j e blank_entry other

  -- a step of the book's seat on the word k
  pub book_step : (k x : ℕ) (e : Entry) → k < length es → e.seat ≡ (entry_at es k).seat → ((p : Progress) → LaneRule (get_or s.words k 0) (entry_at es k) p → LaneRule x e p)
      → Rule record { words = set s.words k x; homes = s.homes; views = set s.views id (Book (set es k e)) }
  book_step k x e small seat ok = let fs : List Entry = set es k e in book_changed k e (set s.words k x) (set s.views id (Book fs)) small record {
    count = length-set s.words k x;
    other_words = λ j other. get_or-set_other s.words k j x 0 other;
    here = book_there fs;
    one_book = book_only fs;
    were = λ j u other there. lane_was fs j u there;
    stay = λ j u other there. lane_stays fs j u there;
    out = λ j u is there. seat ∙ subst (λ i. (entry_at es i).seat ≡ Out) is (old_lane_view j u (lane_was fs j u there)).1;
    one_view = λ i j u v is is' there there'. r.one_view i j u v (lane_was fs i u there) (lane_was fs j v there') (is ∙ sym is');
    holds = let held = old_holds k small in (
      held.0,
      subst (λ status. IsProgress (set s.views id (Book fs)) k status held.0) (sym seat) (progress_stays s.views (set s.views id (Book fs)) k (entry_at es k).seat held.0 (λ j u there is. lane_stays fs j u there) held.1),
      subst (λ w. LaneRule w e held.0) (sym (get_or-set_same s.words k x 0 (let n = ap length entries_are in omega (arith, r.wide)))) (ok held.0 held.2),
    );
  }
