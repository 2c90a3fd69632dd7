use Rattle.std.proofs.Common.{◌≡◌, ◌++◌, ◌∷◌, [], ◌≤◌, length, sym, subst, ap, arith}
use Rattle.std.proofs.lemmas.List.{length_push}
use Rattle.pst_narrow.proofs.TrailLemmas.{IsPartlyBack, one_back}
use Rattle.pst_narrow.proofs.trail.Trail.undo.Goals as goal

pub loop-self-preserved-in-Some : goal.loop-self-preserved-in-Some
loop-self-preserved-in-Some c =
    let start = c.self.inside.formers.items in
    let before = c.loop-self.self-inside.formers.items in
    let after = c.pop.new.self.items in
    let split : before ≡ after ++ c.in-Some.former ∷ [] = c.in-Some.ensures.items in
    let long = length_push after c.in-Some.former in
    let room : c.args.mark ≤ length after = let more = c.loop-self-test.true in let count = c.len.ensures in let all = ap length split in omega (arith, more, count, all, long) in
    let h : IsPartlyBack c.args.mark start (after ++ c.in-Some.former ∷ []) c.args.bounds.now c.loop-self.bounds = subst (λ x. IsPartlyBack c.args.mark start x c.args.bounds.now c.loop-self.bounds) split c.loop-self.invariant in
    subst (λ b. IsPartlyBack c.args.mark start after c.args.bounds.now b) (sym c.set.ensures) (one_back c.args.mark start after c.in-Some.former c.args.bounds.now c.loop-self.bounds room h)
