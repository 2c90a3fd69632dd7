use Rattle.std.proofs.Common.{◌≡◌, ℕ, ◌++◌, drop}
use Rattle.pst_model.specs.ModelView.{view_model}
use Rattle.pst_scen.specs.declared.act.Flow.{Flow}
use Rattle.pst_open_ends.specs.Options.{new_in}
use Rattle.pst_open_ends.specs.Beyond.{wanted, given_at}
use Rattle.pst_open_ends.proofs.beyond.add_each.Given as goal

abbrev pub invariant-loop-kind : goal.invariant-loop-kind
invariant-loop-kind l =
    (l.reference ≡ l.kind-index)
    × ((need : Flow) (p : ℕ) → given_at need p l.pools.items ++ new_in (view_model l.model) (wanted need p) l.action l.instance l.kind-index (drop l.kind-index l.references) ≡ given_at need p l.initial.pools.items ++ new_in (view_model l.model) (wanted need p) l.action l.instance 0 l.references)
