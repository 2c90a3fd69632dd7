-- Pairs that references name.
use Rattle.std.proofs.Common.{◌≡◌, ◌<◌, ◌≤◌, ◌+◌, ℕ, List, length, slice_get, Some, sym, subst, ◌∙◌, arith}
use Rattle.std.proofs.lemmas.Option.{slice_get_within}
use Rattle.pst_scen.specs.declared.rows.Rows.{Rows}
use Rattle.pst_scen.specs.declared.act.Act.{Act}
use Rattle.pst_scen.specs.declared.act.Filled.{Filled}
use Rattle.pst_scen.specs.declared.act.Link.{Link}
use Rattle.pst_scen.specs.declared.scenario.Scenario.{Scenario}
use Rattle.pst_scen.specs.Flows.{IsAct, Refers, LeadsTo}
use Rattle.pst_order.specs.Facts.{IsLinked}
use Rattle.pst_square.specs.Squares.{Adds, IsOneOf}
use Rattle.pst_graph.specs.Named.{IsNaming, IsNamingAt, IsNamingIn}
use Rattle.pst_graph.proofs.Acted.{referred}
use Rattle.pst_square.proofs.Adding.{adds_as, family_more}
use Rattle.pst_nodes.proofs.Climbs.{same_some}

-- what a reference of an action is linked to is an action of the scenario
pub link_inside : (s : Scenario) (x : ℕ) (act : Act) → IsLinked s → IsAct s x act → (i a : ℕ) (filled : Filled) → slice_get act.references i ≡ Some filled → LeadsTo filled.link a → a < length s.actions
link_inside s x act linked is_act i a filled is leads =
    linked.links_in x filled.pool a leads.0 filled.flow
    (subst (λ (to : Link). Refers s x filled.flow filled.pool to) leads.1 (referred s x act is_act i filled is))

pub naming_more : (first middle last : Rows) (references : List Filled) (x i : ℕ) (filled : Filled) → slice_get references i ≡ Some filled → Adds first middle (IsOneOf (IsNamingAt references x) i) → Adds middle last (IsNaming filled x) → Adds first last (IsOneOf (IsNamingAt references x) (i + 1))
naming_more first middle last references x i filled is one two =
    family_more (IsNamingAt references x) first middle last i one
    (adds_as middle last (IsNaming filled x) (IsNamingAt references x i) two
    (λ c d c_in d_in h. record { filled = filled; is = is; naming = h })
    (λ c d c_in d_in h. subst (λ (f : Filled). IsNaming f x c d) (same_some h.filled filled (sym h.is ∙ is)) h.naming))

pub naming_all : (first last : Rows) (references : List Filled) (x n : ℕ) → length references ≤ n → Adds first last (IsOneOf (IsNamingAt references x) n) → Adds first last (IsNamingIn references x)
naming_all first last references x n all added =
    adds_as first last (IsOneOf (IsNamingAt references x) n) (IsNamingIn references x) added
    (λ c d c_in d_in h. record { place = h.index; at = h.has })
    (λ c d c_in d_in h.
    let within : h.place < length references = slice_get_within references h.place h.at.filled h.at.is in
    record { index = h.place; below = omega (arith, within, all); has = h.at })
