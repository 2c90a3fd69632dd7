use Rattle.std.proofs.Common.{ℕ, Option, None, get_or, subst, sym, arith}
use Rattle.std.specs.Prelude.{MatchOption}
use Rattle.pst_scen.specs.Trace.{StartsOn, Ended, IsHeld}
use Rattle.pst_book.specs.Tables.{RunView}
use Rattle.pst_book.proofs.Ties.{read, match_map}
use Rattle.pst_book.proofs.run.Run.holder.Goals as goal

pub returns-then-lane-self : goal.returns-then-lane-self
returns-then-lane-self c =
    λ h. let held = subst (λ (v : RunView). IsHeld v.trace c.args.lane) (sym c.self.view_is) h in
    let l = c.self.invariant.inside.on_lanes held.0 c.args.lane held.1 in
    let past = c.if-lane-self.true in
    omega (arith, l, past)

pub returns : goal.returns
returns c =
    let r = c.self.inside in
    let l = c.if-lane-self.false in
    let e = read r.holders.items c.args.lane c.index.result.now None (omega (arith, l, c.self.invariant.many_holders)) c.index.ensures in
    subst (λ (v : RunView). MatchOption c.index.result.now (IsHeld v.trace c.args.lane → ⊥) (λ a. StartsOn v.trace a c.args.lane × (Ended v.trace a → ⊥))) c.self.view_is
    (subst (λ (o : Option ℕ). MatchOption o (IsHeld r.trace.items c.args.lane → ⊥) (λ a. StartsOn r.trace.items a c.args.lane × (Ended r.trace.items a → ⊥))) e
    (match_map (get_or r.holders.items c.args.lane None) (λ n. n) (λ x h. (h.starts, h.running)) (c.self.invariant.holders_are c.args.lane l)))
