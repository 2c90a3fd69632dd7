use Rattle.pst_tests_scenarios.proofs.built.has_output.Goals as goal
use Rattle.std.proofs.Common.{refl}

pub returns : goal.returns
returns c = λ t.
    let h = c.is_output.ensures t in
    (h.0.link, record { act = c.act_at.result.now; filled = h.0; is_act = c.act_at.ensures; is = h.1; of_flow = h.2; of_pool = h.3; linked = refl })
