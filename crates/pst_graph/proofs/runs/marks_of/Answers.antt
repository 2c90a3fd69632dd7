use Rattle.std.proofs.Common.{◌≡◌, ◌<◌, ◌∙◌, ℕ, List, length, ap, arith}
use Rattle.std.proofs.lemmas.Bool.Decides.{nat_tests}
use Rattle.std.proofs.lemmas.Option.{slice_get-get_or}
use Rattle.pst_scen.specs.Rows.{row_words}
use Rattle.pst_graph.specs.Runs.{no_use, use_at}
use Rattle.pst_graph.proofs.runs.marks_of.Goals as goal

pub mark_use-requires-clause-act_in : goal.mark_use-requires-clause-act_in
mark_use-requires-clause-act_in c =
    let uses = c.args.uses.now in
    let i_in : c.loop-i.i < length uses = grind (arith, nat_tests, c.loop-i-test.true, c.requires.to_in) in
    let act : (use_at uses c.loop-i.i).act < c.args.count = c.requires.inside c.loop-i.i (use_at uses c.loop-i.i) (slice_get-get_or uses c.loop-i.i no_use i_in) in
    let many : length c.deref_mut.result.now ≡ row_words c.args.count = ap (λ (l : List ℕ). length l) c.deref_mut.ensures.value ∙ c.loop-i.invariant.many in
    omega (arith, act, many)
