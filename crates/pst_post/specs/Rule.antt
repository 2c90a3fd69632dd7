-- The mailbox rule: what holds of the words and of all views between any two steps.
use Rattle.std.specs.Prelude.{◌≡◌, ◌⊎◌, ℕ, ◌+◌, ◌^◌, ◌<◌, ◌≤◌, List, ◌++◌, length, slice_index, Option, None, Some, option_to_list}
use mathlib.Core.Option.{some}
use mathlib.Core.List.{IsPrefix}
use lib.ListN.{get_elem?}
use Rattle.atomic_table.specs.Table.{State}
use Rattle.pst_post.specs.declared.view.Entry.{Entry}
use Rattle.pst_post.specs.declared.view.LaneView.{LaneView}
use Rattle.pst_post.specs.declared.view.Progress.{Progress}
use Rattle.pst_post.specs.declared.view.SeatStatus.{SeatStatus}
use Rattle.pst_post.specs.declared.view.SeatStatus.TheVariants.{Undealt, Out, Gathered}
use Rattle.pst_post.specs.declared.view.View.{View}
use Rattle.pst_post.specs.declared.view.View.TheVariants.{Book, Lane}
use Rattle.pst_post.specs.Views.{no_progress, progress_of, entry_at}

-- the word that stands for an action, or for none
abbrev pub word_of : Option ℕ → ℕ
word_of None = 0
word_of (Some a) = a + 1

-- a lane's word, its entry in the book and its progress: what was posted is what was handed back and then the action in the word, if there is one
pub record LaneRule (word : ℕ) (e : Entry) (p : Progress) : Type 0 where
  pub outstanding : Option ℕ
  pub word_is : word ≡ word_of outstanding
  pub small : word ≤ 2 ^ 32
  pub posted : e.posted ≡ p.finished ++ option_to_list outstanding
  pub fetched : (p.fetched ≡ p.finished) ⊎ (p.fetched ≡ e.posted)
  pub ended : IsPrefix e.ended p.finished

-- some view is that of the lane k, with this progress
pub record HasLaneView (views : List View) (k : ℕ) (p : Progress) : Type 0 where
  pub id : ℕ
  pub view : LaneView
  pub there : get_elem? views id ≡ some (Lane view)
  pub lane : view.lane ≡ k
  pub progress : p ≡ progress_of view

-- the progress of the lane k: none before its seat is dealt, that of its view while the seat is out, and what was gathered afterwards
abbrev pub IsProgress : List View → ℕ → SeatStatus → Progress → Type 0
IsProgress views k Undealt p = p ≡ no_progress
IsProgress views k Out p = HasLaneView views k p
IsProgress views k (Gathered q) p = p ≡ q

-- one view is the book's, which has an entry for each word; each lane whose seat is out has exactly one view, and no other lane has one; and the rule holds of each lane
pub record Rule (s : State ℕ View) : Type 0 where
  pub book : ℕ
  pub entries : List Entry
  pub book_view : get_elem? s.views book ≡ some (Book entries)
  pub one_book : (j : ℕ) (es : List Entry) → get_elem? s.views j ≡ some (Book es) → j ≡ book
  pub wide : length entries ≡ length s.words
  pub lane_view : (j : ℕ) (v : LaneView) → get_elem? s.views j ≡ some (Lane v) → (v.lane < length entries) × ((entry_at entries v.lane).seat ≡ Out)
  pub one_view : (i j : ℕ) (v w : LaneView) → get_elem? s.views i ≡ some (Lane v) → get_elem? s.views j ≡ some (Lane w) → v.lane ≡ w.lane → i ≡ j
  pub each_lane : (k : ℕ) → k < length entries → (p : Progress) × IsProgress s.views k (entry_at entries k).seat p × LaneRule (slice_index s.words k) (entry_at entries k) p
