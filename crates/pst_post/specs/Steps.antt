-- What each step makes of an entry of the book, or of a lane's seat.
use Rattle.std.specs.Prelude.{◌≡◌, ℕ, ◌+◌, [], ◌∷◌, ◌++◌, Bool, true, false, Option, None, Some}
use Rattle.pst_post.specs.declared.view.Entry.{Entry}
use Rattle.pst_post.specs.declared.view.SeatStatus.{SeatStatus}
use Rattle.pst_post.specs.Seats.{LaneState}

-- all that was posted was collected
abbrev pub IsIdle : Entry → Type 0
IsIdle e = e.posted ≡ e.ended

-- one miss more: the word was not ready
abbrev pub missed : Entry → Entry
missed e = record e { misses = e.misses + 1 }

-- the entry after a post that found the word empty, or did not
abbrev pub after_post : Bool → ℕ → Entry → Entry
after_post true a e = record e { posted = e.posted ++ a ∷ [] }
after_post false a e = missed e

-- the entry after a collect that found the word empty, or did not
abbrev pub after_collect : Bool → Entry → Entry
after_collect true e = record e { ended = e.posted }
after_collect false e = missed e

-- the entry with another status of the lane's seat
abbrev pub with_seat : SeatStatus → Entry → Entry
with_seat status e = record e { seat = status }

-- the lane's seat after a fetch that found this action, or none
abbrev pub after_fetch : LaneState → Option ℕ → LaneState
after_fetch s None = record s { misses = s.misses + 1 }
after_fetch s (Some a) = record s { fetched = s.fetched ++ a ∷ [] }

-- the lane's seat after it handed back all that it fetched
abbrev pub after_hand_back : LaneState → LaneState
after_hand_back s = record s { finished = s.fetched }
