-- Needs, without what they are linked to.
use Rattle.std.specs.Prelude.{ℕ, List, map}
use Rattle.std.specs.List.{enumerate_from, filter}
use Rattle.pst_scen.specs.declared.act.Filled.{Filled}
use Rattle.pst_legal.specs.Supplied.{Linking, is_need}
use Rattle.pst_supply.specs.declared.listing.Need.{Need}

abbrev pub need_of : Linking → Need
need_of l = record { act = l.act; reference = l.reference }

-- the needs among the references of an action, from a number on
abbrev pub needs_from : ℕ → ℕ → List Filled → List Need
needs_from act number references = map (λ e. record { act = act; reference = e.0 }) (filter (λ e. is_need e.1.flow) (enumerate_from number references))

abbrev pub needs_in : ℕ → List Filled → List Need
needs_in act references = needs_from act 0 references
