-- Keys of numbers.
use Rattle.std.specs.Prelude.{nat_eq, Bool, ◌&&◌}
use Rattle.pst_base.specs.declared.position.Place.{Place}
use Rattle.pst_numbers.specs.declared.keys.PlaceKey.{PlaceKey}
use Rattle.pst_numbers.specs.declared.keys.MemberKey.{MemberKey}

abbrev pub place_key : Place → PlaceKey
place_key place = record { file = place.file; line = place.line; column = place.column }

abbrev pub member_key : Place → Place → MemberKey
member_key inside name = record { inside = place_key inside; name = place_key name }

abbrev pub same_place_key : PlaceKey → PlaceKey → Bool
same_place_key a b = nat_eq a.file b.file && (nat_eq a.line b.line && nat_eq a.column b.column)

abbrev pub same_member_key : MemberKey → MemberKey → Bool
same_member_key a b = same_place_key a.inside b.inside && same_place_key a.name b.name
