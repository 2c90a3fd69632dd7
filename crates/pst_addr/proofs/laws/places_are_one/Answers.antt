use Rattle.pst_addr.proofs.Placed.{one_list, either, no_room_one}
use Rattle.pst_addr.proofs.laws.places_are_one.Goals as goal

pub returns-clause-one : goal.returns-clause-one
returns-clause-one c = one_list

pub returns-clause-either : goal.returns-clause-either
returns-clause-either c = either

pub returns-clause-no_room : goal.returns-clause-no_room
returns-clause-no_room c = no_room_one
