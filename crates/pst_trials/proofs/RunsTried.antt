-- Facts: traces and cycles.
use Rattle.std.proofs.Common.{◌≡◌, ◌≢◌, ℕ, zero, suc, ◌<◌, List, [], ◌∷◌, ◌++◌, ◌⊎◌, inl, inr, Option, Some, None, Bool, true, false, length, slice_get, refl, sym, subst, ◌∙◌, lit<, not-suc-le-zero, Contains, arith}
use Rattle.pst_scen.specs.declared.tree.Fill.TheVariants as fill
use Rattle.pst_scen.specs.declared.act.Flow.TheVariants.{StateIn, StateOut}
use Rattle.pst_scen.specs.declared.act.Link.TheVariants as link
use Rattle.pst_scen.specs.declared.scenario.Scenario.{Scenario}
use Rattle.pst_scen.specs.declared.event.Event.{Event}
use Rattle.pst_scen.specs.declared.event.Event.TheVariants.{End}
use Rattle.pst_scen.specs.Flows.{Reads, Writes}
use Rattle.pst_scen.specs.Order.{Must, Previous, Source, Replaced, Directly, Through, Itself}
use Rattle.pst_scen.specs.Trace.{MayCome, Block, Starts, Ends, IsLegalTrace, IsWhole, AreLegal, events, Prefix}
use Rattle.pst_scen.specs.Plans.{CanRun}
use Rattle.pst_scen.specs.Laws.{IsPreorder}
use Rattle.pst_order.specs.Laws.{WholeHasNoCycle, BlocksAreOne, MustEndsBefore}
use Rattle.pst_trials.specs.Parts.{start}
use Rattle.pst_trials.specs.Runs.{twice, modify, one_after_another, replaces}
use Rattle.pst_trials.proofs.Traces.{preorder_by, here, runs_by, starts_next, awaits, whole_by}
use Rattle.pst_trials.proofs.Legality.{differ}

-- ---- two outputs

pub twice_cycle : Must twice 0 0
twice_cycle =
    Through 0 1 0
    (Directly 0 1 1 (differ 0 1 refl, Previous 0 (link.Act 0 0) (record { act = _; reference = 0; filled = _; is_act = refl; is = refl; of_flow = refl; of_pool = refl; linked = refl }) (0, refl)) Itself)
    (Directly 1 0 0 (differ 1 0 refl, Previous 0 (link.Act 1 0) (record { act = _; reference = 1; filled = _; is_act = refl; is = refl; of_flow = refl; of_pool = refl; linked = refl }) (0, refl)) Itself)

-- ---- reading and replacing

modify_in_order : IsPreorder modify.nodes
modify_in_order = preorder_by modify.nodes (refl, (refl, (refl, (refl, tt))))

pub modify_trace : IsLegalTrace modify 1 one_after_another
modify_trace = record {
  blocks = Ends 1 ∷ Starts (1 ∷ []) (0 ∷ []) ∷ Ends 0 ∷ Starts (0 ∷ []) (0 ∷ []) ∷ [];
  are = refl;
  legal = (
    (
      (
        (
          tt,
          starts_next modify 1 [] 0 0 tt (lit< tt) (lit< tt) tt (awaits modify [] 0 modify_in_order tt) (tt, (tt, tt)) (refl, (refl, (tt, (tt, tt)))),
        ),
        runs_by (start 0 0 ∷ []) 0 0 false (0, lit< tt, refl) (tt, tt),
      ),
      starts_next modify 1 (start 0 0 ∷ End 0 ∷ []) 1 0 tt (lit< tt) (lit< tt) ((tt, inl (1, lit< tt, refl)), (tt, tt)) (awaits modify (start 0 0 ∷ End 0 ∷ []) 1 modify_in_order tt)
          ((1, lit< tt, refl), ((1, lit< tt, refl), tt)) (tt, (tt, (refl, (refl, tt)))),
    ),
    runs_by (start 0 0 ∷ End 0 ∷ start 1 0 ∷ []) 1 0 false (2, lit< tt, refl) (tt, (tt, (tt, tt))),
  );
}

pub modify_whole : IsWhole modify one_after_another
modify_whole = whole_by modify one_after_another ((1, lit< tt, refl), ((3, lit< tt, refl), tt))

pub modify_order : Must modify 0 1
modify_order = Directly 0 1 1 (differ 0 1 refl, Source 0 (link.Act 0 1) (record { act = _; reference = 0; filled = _; is_act = refl; is = refl; of_flow = refl; of_pool = refl; linked = refl }) (1, refl)) Itself

pub modify_runs : CanRun modify
modify_runs = record { lanes = 1; trace = one_after_another; legal = modify_trace; whole = modify_whole }

-- ---- what begins no whole trace

replaces_in_order : IsPreorder replaces.nodes
replaces_in_order = preorder_by replaces.nodes (refl, (refl, (refl, (refl, tt))))

pub may_come : MayCome replaces 2 [] (Starts (0 ∷ []) (0 ∷ []))
may_come = starts_next replaces 2 [] 0 0 tt (lit< tt) (lit< tt) tt (awaits replaces [] 0 replaces_in_order tt) tt (refl, (tt, tt))

reader_first : Must replaces 1 0
reader_first =
    Directly 1 0 0 (
      differ 1 0 refl,
      Replaced 0 link.Initial
          (record { act = _; reference = 0; filled = _; is_act = refl; is = refl; of_flow = refl; of_pool = refl; linked = refl })
          (record { act = _; reference = 0; filled = _; is_act = refl; is = refl; of_flow = refl; of_pool = refl; linked = refl }),
    ) Itself

legal_tail : (s : Scenario) (lanes : ℕ) (more blocks : List Block) → AreLegal s lanes (more ++ blocks) → AreLegal s lanes blocks
legal_tail s lanes [] blocks legal = legal
legal_tail s lanes (block ∷ more) blocks legal = legal_tail s lanes more blocks legal.0

alone : AreLegal replaces 2 (Starts (0 ∷ []) (0 ∷ []) ∷ [])
alone = (tt, may_come)

pub no_prefix : BlocksAreOne → MustEndsBefore → Prefix replaces 2 (start 0 0 ∷ []) → ⊥
no_prefix blocks_are_one must_is_kept p =
    let same : p.blocks ≡ Starts (0 ∷ []) (0 ∷ []) ∷ [] = blocks_are_one replaces 2 2 p.blocks (Starts (0 ∷ []) (0 ∷ []) ∷ []) (legal_tail replaces 2 p.more p.blocks p.legal) alone p.are in
    let ended : Contains [] (End 1) = must_is_kept replaces 2 1 0 p.more [] (0 ∷ []) (0 ∷ [])
    (subst (λ b. AreLegal replaces 2 (p.more ++ b)) same p.legal)
    (subst (λ b. IsWhole replaces (events (p.more ++ b))) same p.whole)
    reader_first (here 0 []) in
    not-suc-le-zero ended.1

pub lane_too_high : MayCome replaces 1 [] (Starts (0 ∷ []) (1 ∷ [])) → ⊥
lane_too_high may = let low : 1 < 1 = may.free.below 1 (here 1 []) in absurd (omega (arith, low))
