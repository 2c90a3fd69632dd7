-- Ways down to handles, as they are looked for.
use Rattle.std.specs.Prelude.{◌≡◌, ℕ, List, ◌++◌, reverse, Bool, true, false, Option, Some, None}
use Rattle.std.specs.Global.{Vec}
use Rattle.std.specs.Option.{option_and_then}
use Rattle.pst_model.specs.ModelTree.{ModelTree}
use Rattle.pst_legal.specs.Types.{action_activity}
use Rattle.pst_legal.specs.Statements.{way_in}

-- a way is found where there is one, and then it stands from its end on behind what stood there before
abbrev pub Leads : Option (List ℕ) → Bool → List ℕ → List ℕ → Type 0
Leads None false old new = new ≡ old
Leads None true old new = ⊥
Leads (Some way) false old new = ⊥
Leads (Some way) true old new = new ≡ old ++ reverse way

abbrev pub items_of : Vec ℕ → List ℕ
items_of v = v.items

-- the way down to the traversal by a handle, in the activity of an action type
abbrev pub way_to : ModelTree → ℕ → ℕ → Option (List ℕ)
way_to m action handle = option_and_then (λ activity. way_in handle 0 activity.steps) (action_activity m action)
