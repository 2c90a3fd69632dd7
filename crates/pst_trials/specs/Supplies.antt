-- Sources, first objects, and the numbers of inferred actions.
use Rattle.std.specs.Prelude.{◌≡◌, ℕ, List, [], ◌∷◌, Option, Some, None}
use Rattle.pst_scen.specs.declared.tree.Fill.TheVariants as fill
use Rattle.pst_scen.specs.declared.act.Act.{Act}
use Rattle.pst_scen.specs.declared.act.Filled.{Filled}
use Rattle.pst_scen.specs.declared.act.Flow.TheVariants.{BufferIn, BufferOut, StreamIn, StreamOut, StateIn, StateOut}
use Rattle.pst_scen.specs.declared.act.Link.{Link}
use Rattle.pst_scen.specs.declared.act.Link.TheVariants as link
use Rattle.pst_scen.specs.declared.scenario.First.{First}
use Rattle.pst_scen.specs.declared.scenario.Scenario.{Scenario}
use Rattle.pst_scen.specs.Scenarios.{AreLinked, HasFirsts}
use Rattle.pst_legal.specs.Supplied.{linkings, AreNamedInTurn, IsSource, ArePreviousOnce}
use Rattle.pst_trials.specs.Parts.{act_of, filled, root_node, node, scenario_of}

abbrev pub consumer : ℕ → Act
consumer to = act_of 1 (Some 1) (filled BufferIn [] (link.Act to 0) ∷ [])

abbrev pub producer : Act
producer = act_of 0 None (filled BufferOut [] link.Nothing ∷ [])

-- a producer and two consumers of its stream
abbrev pub shared : List Act
shared =
    act_of 0 (Some 1) (filled StreamOut [] (link.Act 1 0) ∷ []) ∷ act_of 1 (Some 2) (filled StreamIn [] (link.Act 0 0) ∷ [])
    ∷ act_of 1 (Some 3) (filled StreamIn [] (link.Act 0 0) ∷ []) ∷ []

abbrev pub elsewhere : Filled
elsewhere = record { pool = 1; flow = BufferIn; values = []; link = link.Act 1 0 }

-- one reader, with such first objects
abbrev pub reading : List First → Scenario
reading firsts = scenario_of 0 (root_node 1 [] ∷ node 0 (fill.Leaf 0) ∷ []) (act_of 0 (Some 1) (filled StateIn [] link.Initial ∷ []) ∷ []) firsts

abbrev pub first : ℕ → First
first pool = record { pool = pool; values = [] }

-- two writers that both follow the first object
abbrev pub rivals : List Act
rivals = act_of 0 (Some 1) (filled StateOut [] link.Initial ∷ []) ∷ act_of 0 (Some 2) (filled StateOut [] link.Initial ∷ []) ∷ []

pub record SuppliesAreTried : Type 0 where
  -- two consumers, with two producers in this order, in the other, and with one
  pub in_order : AreNamedInTurn (linkings (consumer 2 ∷ consumer 3 ∷ producer ∷ producer ∷ [])) 2 4
  pub other_order : AreNamedInTurn (linkings (consumer 3 ∷ consumer 2 ∷ producer ∷ producer ∷ [])) 2 4 → ⊥
  pub with_one : AreNamedInTurn (linkings (consumer 2 ∷ consumer 2 ∷ producer ∷ [])) 2 3
  -- a producer that nobody needs
  pub not_needed : AreNamedInTurn (linkings (consumer 1 ∷ producer ∷ producer ∷ [])) 1 3 → ⊥
  -- a stream to two
  pub one_to_one : AreLinked shared → ⊥
  -- a source in another pool
  pub other_pool : IsSource (consumer 1 ∷ producer ∷ []) 0 elsewhere 1 0 → ⊥
  pub same_pool : IsSource (consumer 1 ∷ producer ∷ []) 0 (filled BufferIn [] (link.Act 1 0)) 1 0
  -- an input is no source of an input
  pub no_input : IsSource (consumer 1 ∷ consumer 0 ∷ []) 0 (filled BufferIn [] (link.Act 1 0)) 1 0 → ⊥
  -- first objects: one for each pool that is used
  pub its_first : HasFirsts (reading (first 0 ∷ []))
  pub no_first : HasFirsts (reading []) → ⊥
  pub first_too_many : HasFirsts (reading (first 0 ∷ first 1 ∷ [])) → ⊥
  pub first_twice : HasFirsts (reading (first 0 ∷ first 0 ∷ [])) → ⊥
  -- two writers behind the first object
  pub rivals_aren't : ArePreviousOnce rivals → ⊥
