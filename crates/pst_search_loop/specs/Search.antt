-- What the steps of a search say.
use Rattle.std.specs.Prelude.{◌≡◌, ℕ, ◌+◌, ◌-◌, ◌*◌, ◌^◌, ◌<◌, ◌≤◌, ◌⊎◌, List, [], ◌∷◌, length, Bool, true, Option, None, Some}
use Rattle.pst_legal.specs.First.{IsBefore, IsLive, AreLive, NoneBefore, last_of}
use Rattle.pst_list_order.specs.Passed.{IsPassed}
use Rattle.pst_search_loop.specs.declared.frame.Frame.{Frame}
use Rattle.pst_search_loop.specs.declared.walker.Look.{Look}
use Rattle.pst_search_loop.specs.declared.walker.Look.TheVariants as look
use Rattle.pst_search_loop.specs.declared.level.Found.{Found}
use Rattle.pst_search_loop.specs.declared.level.Found.TheVariants as found
use Rattle.pst_search_loop.specs.Kept.{Kept, with_choice, Sought, Shows, IsConflict, SameKept}
use Rattle.pst_search_loop.specs.Stack.{ArePassed, Stands}

abbrev pub IsLiveAt : Kept → Type 0
IsLiveAt k = IsLive k.model k.root k.seed k.level k.choices

abbrev pub last_digit : List ℕ → ℕ
last_digit [] = 0
last_digit (x ∷ []) = x
last_digit (x ∷ y ∷ ys) = last_digit (y ∷ ys)

-- how many lists there may be to go on to, from the last choice up
abbrev pub rank : List ℕ → ℕ
rank choices = length choices * 2 ^ 65 - last_digit choices

-- The search has gone on behind the lists that begin with the old one, to a live list.
pub record GoneOn (old new : Kept) (frames : List Frame) (shown : Look) : Type 0 where
  pub same : SameKept old new
  pub stands : Stands new frames
  pub rises : (other : List ℕ) → IsPassed old.choices other → IsBefore other new.choices
  pub live : IsLiveAt new
  pub shows : Shows new shown

-- It has passed the lists that begin with the old one, to a list that is closed.
pub record Closes (old new : Kept) (frames : List Frame) (shown : Look) : Type 0 where
  pub same : SameKept old new
  pub stands : Stands new frames
  pub keeps : (other : List ℕ) → IsPassed old.choices other → IsPassed new.choices other
  pub shows : Shows new shown

abbrev pub IsClosed : Look → Type 0
IsClosed (look.Options n) = ⊥
IsClosed look.Whole = ⊥
IsClosed (look.Closed c) = Unit {0}

-- one choice more
pub record Took (old new : Kept) (frames : List Frame) (digit : ℕ) : Type 0 where
  pub stands : Stands new frames
  pub is : new ≡ with_choice old digit
  pub small : digit < 2 ^ 64

-- a place of which further options are passed
pub record IsOnward (k : Kept) (old new : Frame) : Type 0 where
  pub count : new.count ≡ old.count
  pub least : old.digit ≤ new.digit
  pub most : new.digit ≤ new.count
  pub passed : ArePassed k new.reasons new.digit

-- from a place on to one of its options, from one of them on, or back out of it
pub record Went (old new : Kept) (frames : List Frame) (from : ℕ) (shown : Look) : Type 0 where
  pub stands : Stands new frames
  pub shows : Shows new shown
  pub how : ((digit : ℕ) × (from ≤ digit) × Took old new frames digit) ⊎ ((new ≡ old) × IsClosed shown)

-- one turn: on to a live list, or nearer to the end
abbrev pub Turns : Look → Kept → Kept → List Frame → Type 0
Turns (look.Options n) old new frames = GoneOn old new frames (look.Options n)
Turns look.Whole old new frames = GoneOn old new frames look.Whole
Turns (look.Closed c) old new frames = Closes old new frames (look.Closed c) × (rank new.choices < rank old.choices)

-- on to a live list, or to the empty one
abbrev pub Leaves : Look → Kept → Kept → List Frame → Type 0
Leaves (look.Options n) old new frames = GoneOn old new frames (look.Options n)
Leaves look.Whole old new frames = GoneOn old new frames look.Whole
Leaves (look.Closed c) old new frames = Closes old new frames (look.Closed c) × (length new.choices ≡ 0)

-- the next live list
pub record Further (old new : Kept) (frames : List Frame) (shown : Look) : Type 0 where
  pub same : SameKept old new
  pub stands : Stands new frames
  pub before : IsBefore old.choices new.choices
  pub live : IsLiveAt new
  pub shows : Shows new shown

pub record IsHere (old new : Kept) (frames : List Frame) : Type 0 where
  pub same : SameKept old new
  pub stands : Stands new frames
  pub sought : Sought new new.level new.choices

-- one step: the list here is sought, the next live list, or a conflict that names no place
abbrev pub Says : Option Look → Kept → Kept → List Frame → Type 0
Says None old new frames = IsHere old new frames
Says (Some (look.Options n)) old new frames = Further old new frames (look.Options n)
Says (Some look.Whole) old new frames = Further old new frames look.Whole
Says (Some (look.Closed c)) old new frames = SameKept old new × IsConflict new c × (length new.choices ≡ 0)

-- ---- a level

-- The list here is the least of the level that reads a legal scenario.
pub record IsLeast (old new : Kept) : Type 0 where
  pub same : SameKept old new
  pub before : NoneBefore new.model new.root new.seed new.level new.choices
  pub sought : Sought new new.level new.choices

-- so many live lists rise strictly
pub record AreCounted (k : Kept) (lists : List (List ℕ)) (count : ℕ) : Type 0 where
  pub live : AreLive k.model k.root k.seed k.level lists
  pub many : length lists ≡ count

-- So many live lists rise strictly, and no list before the last of them reads a legal scenario.
pub record IsSpent (k : Kept) (budget : ℕ) : Type 0 where
  pub lists : List (List ℕ)
  pub counted : AreCounted k lists budget
  pub before : NoneBefore k.model k.root k.seed k.level (last_of [] lists)

-- No list of the level, or of any level, reads a legal scenario; and what is left of the budget.
pub record IsEmpty (k : Kept) (on_level : Bool) (budget left : ℕ) : Type 0 where
  pub none : (level : ℕ) (other : List ℕ) → (on_level ≡ true → level ≡ k.level) → Sought k level other → ⊥
  pub lists : List (List ℕ)
  pub used : ℕ
  pub counted : AreCounted k lists used
  pub sum : used + left ≡ budget
  pub more : 0 < left

-- whether the list here reads a legal scenario, where it is the last that the budget allows
abbrev pub EndsAt : Found → Kept → Type 0
EndsAt found.Here k = Sought k k.level k.choices
EndsAt (found.Nothing on_level left) k = ⊥
EndsAt found.Spent k = Unit {0}

abbrev pub Ends : Found → Kept → Kept → ℕ → Type 0
Ends found.Here old new budget = IsLeast old new
Ends (found.Nothing on_level left) old new budget = SameKept old new × IsEmpty old on_level budget left
Ends found.Spent old new budget = SameKept old new × IsSpent old budget
