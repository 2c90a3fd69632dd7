-- What contracts see of the seats: of which table they are, and what they know.
use Rattle.std.specs.Prelude.{◌≡◌, ℕ, ◌<◌, List, [], length, replicate, slice_set}
use Rattle.atomic_table.specs.Seated.{TableId}
use Rattle.atomic_table.specs.Table.{Me}
use Rattle.pst_post.specs.declared.view.Entry.{Entry}
use Rattle.pst_post.specs.declared.view.LaneView.{LaneView}
use Rattle.pst_post.specs.declared.view.Progress.{Progress}
use Rattle.pst_post.specs.declared.view.View.{View}
use Rattle.pst_post.specs.declared.view.View.TheVariants.{Book, Lane}
use Rattle.pst_post.specs.Views.{blank_entry, entry_at, entries_of, lane_of}

-- the book's seat: its table, and an entry for each lane
pub record BookState : Type 0 where
  pub table : TableId
  pub entries : List Entry

-- a lane's seat: its table, its lane, what it fetched and handed back, and how often it found nothing
pub record LaneState : Type 0 where
  pub table : TableId
  pub lane : ℕ
  pub fetched : List ℕ
  pub finished : List ℕ
  pub misses : ℕ

-- the book's entry of the lane k
abbrev pub lane_entry : BookState → ℕ → Entry
lane_entry b k = entry_at b.entries k

-- the same seat with the entry of the lane k changed so
abbrev pub changed_at : BookState → ℕ → (Entry → Entry) → BookState
changed_at b k change = record { table = b.table; entries = slice_set b.entries k (change (lane_entry b k)) }

-- the book's seat of a table that was just made for so many lanes
abbrev pub fresh_book : TableId → ℕ → BookState
fresh_book table lanes = record { table = table; entries = replicate lanes blank_entry }

-- the seat of a lane when it is dealt
abbrev pub fresh_seat : TableId → ℕ → LaneState
fresh_seat table k = record { table = table; lane = k; fetched = []; finished = []; misses = 0 }

-- how far a lane's seat has come
abbrev pub seat_progress : LaneState → Progress
seat_progress s = record { fetched = s.fetched; finished = s.finished }

-- a lane's seat of this table, with this view
abbrev pub lane_state : TableId → LaneView → LaneState
lane_state table v = record { table = table; lane = v.lane; fetched = v.fetched; finished = v.finished; misses = v.misses }

-- a seat of the table with this view and these slots is the book's: it has an entry for each word, and no slot
pub record IsBookSeat (table : TableId) (me : Me ℕ View) : Type 0 where
  pub view : me ≡ (Book (entries_of me.0), [])
  pub wide : length (entries_of me.0) ≡ table.words

-- a seat of the table with this view and these slots is that of the lane k: it has a view of that lane, and no slot
pub record IsLaneSeat (table : TableId) (me : Me ℕ View) (k : ℕ) : Type 0 where
  pub view : me ≡ (Lane (lane_of me.0), [])
  pub lane : k ≡ (lane_of me.0).lane
  pub small : k < table.words
