-- What each atomic step tells: of the step, the seat before it, the word that it found, and the seat after it.
use Rattle.std.specs.Prelude.{◌≡◌, ℕ, ◌+◌, ◌^◌, ◌≤◌, ◌==◌, [], ◌∷◌, ◌++◌, Option, None, Some, slice_set}
use Rattle.atomic_table.specs.Table.{Me, Step}
use Rattle.pst_post.specs.declared.view.Entry.{Entry}
use Rattle.pst_post.specs.declared.view.LaneView.{LaneView}
use Rattle.pst_post.specs.declared.view.SeatStatus.TheVariants.{Out, Gathered}
use Rattle.pst_post.specs.declared.view.View.{View}
use Rattle.pst_post.specs.declared.view.View.TheVariants.{Book, Lane}
use Rattle.pst_post.specs.Gathered.{CollectTells}
use Rattle.pst_post.specs.Rule.{word_of}
use Rattle.pst_post.specs.Steps.{IsIdle, after_post, after_collect, with_seat}
use Rattle.pst_post.specs.Views.{IfGathered, entries_of, entry_at, lane_of, progress_of}

-- a seat as a step sees it: its view, and the slots that it holds, of which there are none here
abbrev pub Seated : Type 0
Seated = Me ℕ View

-- the entry of the lane k in the book's seat
abbrev pub entry_of : Seated → ℕ → Entry
entry_of v k = entry_at (entries_of v.0) k

-- the book's seat with the entry of the lane k changed so
abbrev pub entry_changed : Seated → ℕ → (Entry → Entry) → Seated
entry_changed v k change = (Book (slice_set (entries_of v.0) k (change (entry_of v k))), v.1)

-- a post: the entry changes by whether the word was 0, as it was where the lane is idle
abbrev pub Posts : Step ℕ → Seated → ℕ → Seated → Type 0
Posts st v found w =
    ((a : ℕ) → st.second ≡ a + 1 → w ≡ entry_changed v st.word (after_post (found == 0) a))
    × (IsIdle (entry_of v st.word) → found ≡ 0)

-- a collect: the same, and what it tells of a gathered lane
abbrev pub Collects : Step ℕ → Seated → ℕ → Seated → Type 0
Collects st v found w =
    (w ≡ entry_changed v st.word (after_collect (found == 0)))
    × (IsIdle (entry_of v st.word) → found ≡ 0)
    × IfGathered (entry_of v st.word).seat (CollectTells (found == 0) (entry_of v st.word))

-- a lane's view after a fetch that found this action, or none
abbrev pub fetched_view : LaneView → Option ℕ → LaneView
fetched_view v None = record v { misses = v.misses + 1 }
fetched_view v (Some a) = record v { fetched = v.fetched ++ a ∷ [] }

-- a lane's view after it handed back all that it fetched
abbrev pub finished_view : LaneView → LaneView
finished_view v = record v { finished = v.fetched }

-- a fetch: the word stands for an action, which the lane's view has now, or for none, and then it has one miss more
abbrev pub Fetches : Step ℕ → Seated → ℕ → Seated → Type 0
Fetches st v found w = (o : Option ℕ) × (found ≡ word_of o) × (found ≤ 2 ^ 32) × (w ≡ (Lane (fetched_view (lane_of v.0) o), v.1))

-- a hand back: the lane's view has all that was fetched as handed back
abbrev pub HandsBack : Step ℕ → Seated → ℕ → Seated → Type 0
HandsBack st v found w = w ≡ (Lane (finished_view (lane_of v.0)), v.1)

-- the book's view after it dealt the lane k
abbrev pub dealing : ℕ → View → View
dealing k v = Book (slice_set (entries_of v) k (with_seat Out (entry_at (entries_of v) k)))

-- the book's view v after it took in the view w of a lane
abbrev pub gathering : View → View → View
gathering v w = Book (slice_set (entries_of v) (lane_of w).lane (with_seat (Gathered (progress_of (lane_of w))) (entry_at (entries_of v) (lane_of w).lane)))
