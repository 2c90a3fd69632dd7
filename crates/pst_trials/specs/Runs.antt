-- Traces, and what has none.
use Rattle.std.specs.Prelude.{◌≡◌, ℕ, List, [], ◌∷◌, Some, None}
use Rattle.pst_scen.specs.declared.tree.Fill.TheVariants as fill
use Rattle.pst_scen.specs.declared.act.Flow.TheVariants.{StateIn, StateOut}
use Rattle.pst_scen.specs.declared.act.Link.TheVariants as link
use Rattle.pst_scen.specs.declared.scenario.Scenario.{Scenario}
use Rattle.pst_scen.specs.declared.event.Event.{Event}
use Rattle.pst_scen.specs.declared.event.Event.TheVariants.{End}
use Rattle.pst_scen.specs.Order.{Must}
use Rattle.pst_scen.specs.Trace.{MayCome, Starts, IsLegalTrace, IsWhole, Prefix}
use Rattle.pst_scen.specs.Plans.{CanRun}
use Rattle.pst_trials.specs.Parts.{act_of, filled, root_node, node, scenario_of, start}

-- action W { output s_t o, p; } action X { output s_t o; }   schedule { do W; do X; }: W's first output, X's, and W's second
abbrev pub twice : Scenario
twice = scenario_of 0
    (root_node 2 [] ∷ node 0 fill.Schedule ∷ node 1 (fill.Leaf 0) ∷ node 1 (fill.Leaf 1) ∷ [])
    (act_of 0 (Some 2) (filled StateOut [] link.Initial ∷ filled StateOut [] (link.Act 1 0) ∷ []) ∷ act_of 1 (Some 3) (filled StateOut [] (link.Act 0 0) ∷ []) ∷ [])
    (record { pool = 0; values = [] } ∷ [])

-- action W { input s_t i; output s_t o; }   schedule { do W; do W; }
abbrev pub modify : Scenario
modify = scenario_of 0
    (root_node 1 [] ∷ node 0 fill.Schedule ∷ node 1 (fill.Leaf 0) ∷ node 1 (fill.Leaf 1) ∷ [])
    (act_of 0 (Some 2) (filled StateIn [] link.Initial ∷ filled StateOut [] link.Initial ∷ [])
    ∷ act_of 0 (Some 3) (filled StateIn [] (link.Act 0 1) ∷ filled StateOut [] (link.Act 0 1) ∷ []) ∷ [])
    (record { pool = 0; values = [] } ∷ [])

abbrev pub one_after_another : List Event
one_after_another = start 0 0 ∷ End 0 ∷ start 1 0 ∷ End 1 ∷ []

-- schedule { do W; do R; }, where R reads the first object
abbrev pub replaces : Scenario
replaces = scenario_of 0
    (root_node 2 [] ∷ node 0 fill.Schedule ∷ node 1 (fill.Leaf 0) ∷ node 1 (fill.Leaf 1) ∷ [])
    (act_of 0 (Some 2) (filled StateOut [] link.Initial ∷ []) ∷ act_of 1 (Some 3) (filled StateIn [] link.Initial ∷ []) ∷ [])
    (record { pool = 0; values = [] } ∷ [])

pub record RunsAreTried : Type 0 where
  -- two outputs of one action to one pool
  pub twice_can't_run : CanRun twice → ⊥
  -- one action that reads and replaces
  pub modify_trace : IsLegalTrace modify 1 one_after_another
  pub modify_whole : IsWhole modify one_after_another
  pub modify_order : Must modify 0 1
  pub modify_no_cycle : Must modify 0 0 → ⊥
  -- a block that may come, and begins no whole trace
  pub may_come : MayCome replaces 2 [] (Starts (0 ∷ []) (0 ∷ []))
  pub no_prefix : Prefix replaces 2 (start 0 0 ∷ []) → ⊥
  -- lanes are below their number
  pub lane_too_high : MayCome replaces 1 [] (Starts (0 ∷ []) (1 ∷ [])) → ⊥
