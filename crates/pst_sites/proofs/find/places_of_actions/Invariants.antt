use Rattle.std.proofs.Common.{◌≡◌, ◌++◌, drop, map}
use Rattle.pst_sites.proofs.find.places_of_actions.Given as goal

abbrev pub invariant-loop-action : goal.invariant-loop-action
invariant-loop-action l = l.places.items ++ map (λ a. a.now.name.place) (drop l.action-index l.actions) ≡ map (λ a. a.now.name.place) l.actions
