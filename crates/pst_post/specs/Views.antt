-- What the seats of a table of mailboxes know.
use Rattle.std.specs.Prelude.{ℕ, List, [], replicate, slice_index_or}
use Rattle.pst_post.specs.declared.view.Entry.{Entry}
use Rattle.pst_post.specs.declared.view.LaneView.{LaneView}
use Rattle.pst_post.specs.declared.view.Progress.{Progress}
use Rattle.pst_post.specs.declared.view.SeatStatus.{SeatStatus}
use Rattle.pst_post.specs.declared.view.SeatStatus.TheVariants.{Undealt, Out, Gathered}
use Rattle.pst_post.specs.declared.view.View.{View}
use Rattle.pst_post.specs.declared.view.View.TheVariants.{Book, Lane, Spent}

-- nothing was fetched and nothing was handed back
abbrev pub no_progress : Progress
no_progress = record { fetched = []; finished = [] }

-- the book's entry of a lane before any step
abbrev pub blank_entry : Entry
blank_entry = record { posted = []; ended = []; seat = Undealt; misses = 0 }

-- what the seat of the lane k knows when it is dealt
abbrev pub blank_lane : ℕ → LaneView
blank_lane k = record { lane = k; fetched = []; finished = []; misses = 0 }

-- what the book's seat knows of so many lanes before any step
abbrev pub first_view : ℕ → View
first_view lanes = Book (replicate lanes blank_entry)

-- the entry of the lane k
abbrev pub entry_at : List Entry → ℕ → Entry
entry_at entries k = slice_index_or entries k blank_entry

-- how far a lane has come, from the view of its seat
abbrev pub progress_of : LaneView → Progress
progress_of v = record { fetched = v.fetched; finished = v.finished }

-- how far a lane had come when its seat was gathered
abbrev pub gathered_progress : SeatStatus → Progress
gathered_progress Undealt = no_progress
gathered_progress Out = no_progress
gathered_progress (Gathered p) = p

-- a fact holds of the gathered progress, where the seat was gathered
abbrev pub IfGathered : SeatStatus → (Progress → Type 0) → Type 0
IfGathered Undealt P = Unit {0}
IfGathered Out P = Unit {0}
IfGathered (Gathered p) P = P p

-- the entries in the book's view
abbrev pub entries_of : View → List Entry
entries_of (Book entries) = entries
entries_of (Lane v) = []
entries_of Spent = []

-- the view of a lane's seat
abbrev pub lane_of : View → LaneView
lane_of (Book entries) = blank_lane 0
lane_of (Lane v) = v
lane_of Spent = blank_lane 0
