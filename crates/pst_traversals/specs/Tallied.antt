-- How often the activity of each action traverses each handle.
use Rattle.std.specs.Prelude.{ℕ, List, [], ◌∷◌, Bool, false, not, ◌&&◌, nat_eq, nat_lt, if◌then◌else◌, Option, Some, None, slice_get}
use Rattle.std.specs.List.{flat_map, fold}
use Rattle.std.specs.Option.{option_and_then, option_map_or}
use Rattle.pst_base.specs.declared.table.NameId.{NameId}
use Rattle.pst_type_rules.specs.Handles.{traversals}
use Rattle.pst_type_rules.specs.Sites.{DeclaredAction}
use Rattle.pst_traversals.specs.declared.listing.Traversed.{Traversed}
use Rattle.pst_traversals.specs.declared.tally.TallyKey.{TallyKey}
use Rattle.pst_traversals.specs.Own.{own_activity}

abbrev pub same_key : TallyKey → TallyKey → Bool
same_key a b = nat_eq a.action b.action && nat_eq a.handle b.handle

abbrev pub name_in : TallyKey → NameId
name_in key = record { 0 = key.handle }

abbrev pub key_at : ℕ → Traversed → TallyKey
key_at action t = record { action = action; handle = t.handle.0 }

-- after one more traversal: whether it is the only one, and not within something
abbrev pub noted : Option Bool → Bool → Option Bool
noted None within = Some (not within)
noted (Some steady) within = Some false

-- of all its traversals: none where there are none, else whether there is one, and not within something
abbrev pub tally : List Bool → Option Bool
tally withins = fold noted None withins

-- whether those of a key stand within something
abbrev pub within_at : ℕ → TallyKey → Traversed → List Bool
within_at action key t = if same_key key (key_at action t) then t.within ∷ [] else []

abbrev pub withins_at : ℕ → TallyKey → List Traversed → List Bool
withins_at action key ts = flat_map (within_at action key) ts

-- the traversals of a handle in an action's own activity
abbrev pub own_traversals : NameId → DeclaredAction → List Bool
own_traversals handle a = option_map_or (flat_map (traversals handle false)) (own_activity a) []

abbrev pub tally_of : List DeclaredAction → TallyKey → Option Bool
tally_of actions key = option_and_then (λ a. tally (own_traversals (name_in key) a)) (slice_get actions key.action)

-- that of the first n actions
abbrev pub tally_before : ℕ → List DeclaredAction → TallyKey → Option Bool
tally_before n actions key = if nat_lt key.action n then tally_of actions key else None
