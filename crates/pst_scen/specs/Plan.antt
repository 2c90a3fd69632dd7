-- What a plan holds.
use Rattle.std.specs.Prelude.{◌≡◌, ◌≤◌, ◌<◌, ℕ, List, [], ◌∷◌, length, get_or, count_by, nat_eq, max, suc, if◌then◌else◌}
use Rattle.pst_scen.specs.declared.rows.Rows.{Rows}
use Rattle.pst_scen.specs.Rows.{IsSquare}

-- the number of each action's group, which pairs of actions are ordered, and which conflict
pub record Entries : Type 0 where
  pub groups : List ℕ
  pub must : Rows
  pub conflict : Rows

-- a group's number is its least member
pub record AreGroupsNumbered (groups : List ℕ) : Type 0 where
  pub least : (a : ℕ) → a < length groups → get_or groups a 0 ≤ a
  pub member : (a : ℕ) → a < length groups → get_or groups (get_or groups a 0) 0 ≡ get_or groups a 0

-- the places at which the number stands in the list, counted from the first number
abbrev pub places_from : List ℕ → ℕ → ℕ → List ℕ
places_from [] first group = []
places_from (other ∷ more) first group = if nat_eq group other then first ∷ places_from more (suc first) group else places_from more (suc first) group

-- the members of a group, ascending
abbrev pub members : List ℕ → ℕ → List ℕ
members groups group = places_from groups 0 group

-- the number of members of a group
abbrev pub member_count : List ℕ → ℕ → ℕ
member_count groups group = count_by (nat_eq group) groups

-- the number of members of the widest of some groups, 0 for none
abbrev pub widest_among : List ℕ → List ℕ → ℕ
widest_among groups [] = 0
widest_among groups (group ∷ more) = max (member_count groups group) (widest_among groups more)

abbrev pub widest : List ℕ → ℕ
widest groups = widest_among groups groups

-- a table of as many counts as are asked for: how often each number stands in the list
pub record AreCounts (groups : List ℕ) (size : ℕ) (counts : List ℕ) : Type 0 where
  pub many : length counts ≡ size
  pub each : (group : ℕ) → group < size → get_or counts group 0 ≡ member_count groups group

-- both squares are of the actions that have a group
pub record AreSized (groups : List ℕ) (must conflict : Rows) : Type 0 where
  pub must_size : must.size ≡ length groups
  pub must_square : IsSquare must
  pub conflict_size : conflict.size ≡ length groups
  pub conflict_square : IsSquare conflict
