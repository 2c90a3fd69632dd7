use Rattle.std.proofs.Common.{ℕ, ◌-◌, List, ◌++◌, ◌∷◌, [], ◌∙◌, ap, arith}
use Rattle.pst_search_places.proofs.Among.{no_place, one_place}
use Rattle.pst_search_places.proofs.places.last_place.Goals as goal

pub returns-then-front-eq0 : goal.returns-then-front-eq0
returns-then-front-eq0 c = no_place _ c.args.front c.new-places.ensures.items (omega arith)

pub returns : goal.returns
returns c = one_place _ c.args.front (c.args.front - 1) (c.in_ok-push.ensures.items ∙ ap (λ (xs : List ℕ). xs ++ (c.args.front - 1) ∷ []) c.new-places.ensures.items) (omega arith)
