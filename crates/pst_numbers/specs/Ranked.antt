-- The numbers of names, counted as they are declared.
use Rattle.std.specs.Prelude.{◌≡◌, ℕ, ◌+◌, Bool, List, length, position, Option, Some, None, if◌then◌else◌}
use Rattle.std.specs.Option.{option_or, option_map, option_map_or}
use Rattle.pst_base.specs.declared.position.Place.{Place}
use Rattle.pst_ast.specs.declared.scope_declaration.Declaration.{Declaration}
use Rattle.pst_ast.specs.Sorts.{same_place}
use Rattle.pst_ast.specs.Scopes.{is_type, names_in}
use Rattle.pst_numbers.specs.declared.keys.PlaceKey.{PlaceKey}
use Rattle.pst_numbers.specs.declared.keys.MemberKey.{MemberKey}
use Rattle.pst_numbers.specs.NumberKeys.{place_key, member_key, same_place_key, same_member_key}

-- the type in whose text a name counts
abbrev pub counts_here : Declaration → Option Place
counts_here d = if is_type d.sort then None else d.inside

-- the number of the name that is declared at a place, among those of a type
abbrev pub rank_at : List Declaration → Place → Place → Option ℕ
rank_at ds type place = option_map (λ k. k + 1) (position (λ e. same_place e.name.place place) (names_in ds type))

abbrev pub HasRanks : List Declaration → (MemberKey → Option ℕ) → Type 0
HasRanks ds ranks = (type place : Place) → ranks (member_key type place) ≡ rank_at ds type place

abbrev pub count_of : (PlaceKey → Option ℕ) → PlaceKey → ℕ
count_of counts type = option_map_or (λ n. n) (counts type) 0

-- what was kept, or else the number that is new at a key
abbrev pub or_new : Option ℕ → Bool → ℕ → Option ℕ
or_new kept here rank = option_or kept (if here then Some rank else None)

-- a further name has been counted in the text of a type; of two at one place the first keeps its number
pub record IsCounted (counts : PlaceKey → Option ℕ) (ranks : MemberKey → Option ℕ) (inside name : Place) (more : PlaceKey → Option ℕ) (others : MemberKey → Option ℕ) : Type 0 where
  pub counted : (q : PlaceKey) → count_of more q ≡ (if same_place_key q (place_key inside) then count_of counts (place_key inside) + 1 else count_of counts q)
  pub ranked : (q : MemberKey) → others q ≡ or_new (ranks q) (same_member_key q (member_key inside name)) (count_of counts (place_key inside) + 1)

-- the counts and numbers of the names that have been declared so far
pub record IsRanked (ds : List Declaration) (counts : PlaceKey → Option ℕ) (ranks : MemberKey → Option ℕ) : Type 0 where
  pub counted : (type : Place) → count_of counts (place_key type) ≡ length (names_in ds type)
  pub ranked : HasRanks ds ranks
