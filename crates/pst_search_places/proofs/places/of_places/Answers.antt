use Rattle.std.proofs.Common.{refl}
use Rattle.pst_search_places.proofs.Among.{of_named}
use Rattle.pst_search_places.proofs.places.of_places.Goals as goal

pub returns : goal.returns
returns c = of_named _ c.args.front c.in_ok-named.named.items c.add_places.new.named.items c.args.places.now refl refl refl c.in_ok-named.ensures c.in_ok-add_places.ensures
