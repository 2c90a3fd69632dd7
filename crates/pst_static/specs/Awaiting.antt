-- Tables by which it is found what an action awaits.
use Rattle.std.specs.Prelude.{◌≡◌, ◌≢◌, ◌⊎◌, ◌↔◌, ◌≤◌, ◌<◌, ℕ, suc, List, ◌++◌, length, get_or, map, Bool, true, false, Option, Some, slice_get, MatchOption, Contains}
use Rattle.std.specs.Global.{Vec}
use Rattle.pst_scen.specs.Rows.{Has}
use Rattle.pst_scen.specs.Plan.{Entries}
use Rattle.pst_programs.specs.declared.program.Instruction.{Instruction}
use Rattle.pst_programs.specs.declared.program.Instruction.TheVariants.{Await}
use Rattle.pst_programs.specs.Lanes.{Dealt}

-- the action was dealt to the lane at that place, counted from 1
abbrev pub IsDealtAt : Dealt → ℕ → ℕ → ℕ → Type 0
IsDealtAt dealt place x m = (i : ℕ) × (suc i ≡ place) × (slice_get dealt i ≡ Some (x, m))

-- the greatest place, up to a bound, of an action of lane m that must come before a or conflicts with it, or 0
pub record IsLatest (p : Entries) (dealt : Dealt) (bound m a place : ℕ) : Type 0 where
  pub within : place ≤ bound
  pub is : 0 < place → (x : ℕ) × IsDealtAt dealt place x m × (Has p.must x a ⊎ Has p.conflict x a)
  pub last : (other x : ℕ) → other ≤ bound → IsDealtAt dealt other x m → Has p.must x a ⊎ Has p.conflict x a → other ≤ place

-- these places, for each lane and each action
pub record AreLatest (p : Entries) (lanes : ℕ) (dealt : Dealt) (bound : ℕ) (latest : List (Vec ℕ)) : Type 0 where
  pub many : length latest ≡ lanes
  pub each : (m : ℕ) (row : Vec ℕ) → slice_get latest m ≡ Some row → (length row.items ≡ length p.groups) × ((a : ℕ) → a < length p.groups → IsLatest p dealt bound m a (get_or row.items a 0))

-- the greatest place of an action of lane m that is awaited in what was written, or 0
pub record IsHeard (dealt : Dealt) (before : List Instruction) (m place : ℕ) : Type 0 where
  pub is : 0 < place → (x : ℕ) × IsDealtAt dealt place x m × Contains before (Await x)
  pub last : (other x : ℕ) → IsDealtAt dealt other x m → Contains before (Await x) → other ≤ place

-- these places, for each other lane, of what one lane's program is so far
pub record AreHeard (lanes : ℕ) (dealt : Dealt) (before : List Instruction) (heard : List ℕ) : Type 0 where
  pub many : length heard ≡ lanes
  pub each : (m : ℕ) → m < lanes → IsHeard dealt before m (get_or heard m 0)

-- lane m is another one, its latest place for a is behind all that is awaited of it so far, and x was dealt there
pub record IsNews (dealt : Dealt) (latest : List (Vec ℕ)) (heard : List ℕ) (a l m x : ℕ) : Type 0 where
  pub other : m ≢ l
  pub row : Vec ℕ
  pub is_row : slice_get latest m ≡ Some row
  pub later : get_or heard m 0 < get_or row.items a 0
  pub at : IsDealtAt dealt (get_or row.items a 0) x m

-- the least action that is news of the lanes below a bound, with its lane, or none where there is none
abbrev pub IsFirstNews : Dealt → List (Vec ℕ) → List ℕ → ℕ → ℕ → ℕ → Option (ℕ × ℕ) → Type 0
IsFirstNews dealt latest heard a l bound found =
    MatchOption found ((m x : ℕ) → m < bound → IsNews dealt latest heard a l m x → ⊥)
    (λ w. IsNews dealt latest heard a l w.0 w.1 × ((m x : ℕ) → m < bound → IsNews dealt latest heard a l m x → w.1 ≤ x))

-- the lesser of what was found so far, if anything was, and another action, with its lane
abbrev pub IsLeastOf : Option (ℕ × ℕ) → ℕ → ℕ → Option (ℕ × ℕ) → Type 0
IsLeastOf found m x result = MatchOption found (result ≡ Some (m, x)) (λ w. ((x < w.1) × (result ≡ Some (m, x))) ⊎ ((w.1 ≤ x) × (result ≡ Some w)))

-- the actions that are news were written, ascending, and marked
pub record IsNewsWritten (dealt : Dealt) (latest : List (Vec ℕ)) (heard : List ℕ) (a l : ℕ) (before after : List Instruction) (old new : List Bool) : Type 0 where
  pub written : List ℕ
  pub after_is : after ≡ before ++ map Await written
  pub ascending : (i j : ℕ) → i < j → j < length written → get_or written i 0 < get_or written j 0
  pub those : (x : ℕ) → Contains written x ↔ ((m : ℕ) × IsNews dealt latest heard a l m x)
  pub many : length new ≡ length old
  pub marked : (x : ℕ) → x < length old → (get_or new x false ≡ true) ↔ ((get_or old x false ≡ true) ⊎ Contains written x)

-- each lane has each action once at most, and an action has one lane
pub record AreOnce (dealt : Dealt) (actions : ℕ) : Type 0 where
  pub inside : (x m : ℕ) → Contains dealt (x, m) → x < actions
  pub only : (x m o : ℕ) → Contains dealt (x, m) → Contains dealt (x, o) → m ≡ o
  pub once : (x m one other : ℕ) → IsDealtAt dealt one x m → IsDealtAt dealt other x m → one ≡ other

-- where a lane's table has a place for an action, an action was dealt to the lane there
pub record HavePlaces (dealt : Dealt) (latest : List (Vec ℕ)) (a : ℕ) : Type 0 where
  pub wide : (m : ℕ) (row : Vec ℕ) → slice_get latest m ≡ Some row → a < length row.items
  pub within : (m : ℕ) (row : Vec ℕ) → slice_get latest m ≡ Some row → get_or row.items a 0 ≤ length dealt
  pub is : (m : ℕ) (row : Vec ℕ) → slice_get latest m ≡ Some row → 0 < get_or row.items a 0 → (x : ℕ) × IsDealtAt dealt (get_or row.items a 0) x m
