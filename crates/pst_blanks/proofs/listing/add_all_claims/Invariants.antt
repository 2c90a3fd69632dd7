use Rattle.std.proofs.Common.{◌≡◌, ◌++◌, drop}
use Rattle.std.specs.Prelude.{flat_map}
use Rattle.std.specs.List.{enumerate_from}
use Rattle.pst_model.specs.ModelView.{view_model}
use Rattle.pst_blanks.specs.Blanks.{act_claims}
use Rattle.pst_blanks.proofs.listing.add_all_claims.Given as goal

abbrev pub invariant-loop-act : goal.invariant-loop-act
invariant-loop-act l = (l.number ≡ l.act-index) × (l.places.items ++ flat_map (act_claims (view_model l.model)) (enumerate_from l.act-index (drop l.act-index l.acts)) ≡ l.initial.places.items ++ flat_map (act_claims (view_model l.model)) (enumerate_from 0 l.acts))
