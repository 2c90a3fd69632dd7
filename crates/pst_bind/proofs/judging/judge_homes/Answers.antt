use Rattle.std.proofs.Common.{◌<◌, ◌≤◌, ◌+◌, ℕ, List, drop, length, map, sym, subst, ap, ◌∙◌}
use Rattle.std.specs.Prelude.{slice_get}
use Rattle.std.specs.List.{enumerate_from, filter, flat_map}
use Rattle.std.proofs.lemmas.Option.{slice_get-get_or}
use Rattle.pst_ast.specs.declared.instance.Instance.{Instance}
use Rattle.pst_bind.specs.Judging.{choice_for}
use Rattle.pst_bind.specs.ListedNeeds.{needs_at}
use Rattle.pst_bind.specs.Needs.{homes_of, is_home}
use Rattle.pst_bind.specs.Wants.{need_in}
use Rattle.pst_bind.proofs.Judges.{onward, arrived_by, blank_instance, home_step, homes_end}
use Rattle.pst_bind.proofs.judging.judge_homes.Goals as goal

pub loop-at-preserved : goal.loop-at-preserved
loop-at-preserved c =
    let ds = c.args.binds.now.index.now in
    let instances = c.args.binds.now.table.now in
    let choice = choice_for ds c.args.binds.now.explicit.now c.args.binds.now.defaults.now instances in
    let action = c.args.action.now in
    let at = c.loop-at.at in
    let f = needs_at c.args.number action (map need_in c.args.wanted.now) in
    let found = c.as_slice-instances.result.now in
    onward choice _ (flat_map f (map (λ (x : ℕ × Instance). x.0) (filter (λ (x : ℕ × Instance). is_home ds action x.1) (enumerate_from (at + 1) (drop (at + 1) instances)))))
    (flat_map f (map (λ (x : ℕ × Instance). x.0) (filter (λ (x : ℕ × Instance). is_home ds action x.1) (enumerate_from at (drop at instances)))))
    (flat_map f (homes_of ds instances action)) c.loop-at.judged c.judge_at_home.new.judged c.args.judged.now c.in_ok-judge_at_home.ensures
    (home_step f ds action instances at c.in_ok-instance.instance _ (subst (λ (xs : List Instance). at < length xs) c.as_slice-instances.ensures c.loop-at-test.true)
    (ap (λ (xs : List Instance). slice_get xs at) (sym c.as_slice-instances.ensures) ∙ slice_get-get_or found at blank_instance c.loop-at-test.true) c.in_ok-instance.ensures)
    c.loop-at.invariant

pub returns : goal.returns
returns c =
    let ds = c.args.binds.now.index.now in
    let instances = c.args.binds.now.table.now in
    let choice = choice_for ds c.args.binds.now.explicit.now c.args.binds.now.defaults.now instances in
    let action = c.args.action.now in
    let at = c.loop-at.at in
    let f = needs_at c.args.number action (map need_in c.args.wanted.now) in
    arrived_by choice (flat_map f (map (λ (x : ℕ × Instance). x.0) (filter (λ (x : ℕ × Instance). is_home ds action x.1) (enumerate_from at (drop at instances)))))
    (flat_map f (homes_of ds instances action)) c.loop-at.judged c.args.judged.now
    (homes_end f ds action instances at (subst (λ (xs : List Instance). length xs ≤ at) c.as_slice-instances.ensures c.loop-at-test.false)) c.loop-at.invariant
