use Rattle.std.proofs.Common.{subst}
use Rattle.pst_model.specs.ModelView.{view_model}
use Rattle.pst_addr.specs.Places.{EndsPlacing}
use Rattle.pst_place_answers.proofs.Showing.{placed_shown, no_room_shown, number_in, enough}
use Rattle.pst_place_answers.proofs.show.show_asks.Goals as goal

pub show_placed-requires-clause-many : goal.show_placed-requires-clause-many
show_placed-requires-clause-many c =
    rw c.deref.ensures.value (enough c.args.names.now (view_model c.args.model.now) c.args.scenario.now c.args.plan.now c.args.space c.args.asks.now c.in-Ok.places.items c.in-Ok.ensures)

pub returns-in-Ok : goal.returns-in-Ok
returns-in-Ok c =
    placed_shown c.args.names.now (view_model c.args.model.now) c.args.scenario.now c.args.plan.now c.args.space c.args.asks.now c.in-Ok.places.items c.show_placed.result c.in-Ok.ensures
    (rw c.deref.ensures.value at c.show_placed.ensures)

pub bounds-asks-ask : goal.bounds-asks-ask
bounds-asks-ask c =
    number_in c.args.names.now (view_model c.args.model.now) c.args.scenario.now c.args.plan.now c.args.space c.args.asks.now c.in-Err-NoRoom.ask
    (subst (EndsPlacing c.args.plan.now c.args.space c.args.asks.now) c.in-Err-NoRoom.field-0-is c.in-Err-NoRoom.ensures)

pub returns-in-Err-NoRoom : goal.returns-in-Err-NoRoom
returns-in-Err-NoRoom c =
    no_room_shown c.args.names.now (view_model c.args.model.now) c.args.scenario.now c.args.plan.now c.args.space c.args.asks.now c.in-Err-NoRoom.ask _ c.show_no_room.result
    (subst (EndsPlacing c.args.plan.now c.args.space c.args.asks.now) c.in-Err-NoRoom.field-0-is c.in-Err-NoRoom.ensures) c.show_no_room.ensures
