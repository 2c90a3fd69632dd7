-- Keys of ends.
use Rattle.std.specs.Prelude.{Bool, ◌&&◌, nat_eq}
use Rattle.pst_base.specs.declared.position.Place.{Place}
use Rattle.pst_ast.specs.declared.activity.EndNode.{EndNode}
use Rattle.pst_ast.specs.declared.referent.Owner.{Owner}
use Rattle.pst_ast.specs.declared.referent.Owner.TheVariants.{Nobody, OfAction, OfObject}
use Rattle.pst_handle_uses.specs.declared.handle_use.Tied.{Tied}
use Rattle.pst_handle_rules.specs.declared.end_key.Side.{Side}
use Rattle.pst_handle_rules.specs.declared.end_key.Side.TheVariants as side
use Rattle.pst_handle_rules.specs.declared.end_key.EndKey.{EndKey}

abbrev pub owner_place : Owner → Place
owner_place Nobody = record { file = 0; line = 0; column = 0 }
owner_place (OfAction owner) = owner.name.place
owner_place (OfObject owner) = owner.name.place

abbrev pub end_of : Side → Tied → EndNode
end_of side.First tie = tie.first
end_of side.Other tie = tie.other

abbrev pub key_at : Place → EndNode → EndKey
key_at place end = record { file = place.file; line = place.line; column = place.column; handle = end.handle.id.0; reference = end.name.id.0 }

abbrev pub key_of : Side → Tied → EndKey
key_of side tie = key_at (owner_place tie.owner) (end_of side tie)

-- whether two keys are one
abbrev pub same_key : EndKey → EndKey → Bool
same_key a b = nat_eq a.file b.file && (nat_eq a.line b.line && (nat_eq a.column b.column && (nat_eq a.handle b.handle && nat_eq a.reference b.reference)))
