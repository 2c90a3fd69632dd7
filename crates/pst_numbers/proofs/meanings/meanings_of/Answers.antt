use Rattle.std.proofs.Common.{Some, None, Vec, Global, sym, ap, ◌∙◌}
use Rattle.std.proofs.lemmas.List.{append-nil}
use Rattle.pst_ast.specs.declared.entry.NameMeaning.{NameMeaning}
use Rattle.pst_numbers.specs.Meanings.{meaning_of}
use Rattle.pst_numbers.proofs.Meant.{taken_on}
use Rattle.pst_numbers.proofs.meanings.meanings_of.Goals as goal
use Rattle.pst_numbers.proofs.meanings.meanings_of.Goals.{in-Some+in_ok-push, in_default}

pub loop-name-preserved : goal.loop-name-preserved
loop-name-preserved c = λ ds are.
    let i = c.loop-name.name-index in
    let so_far = c.loop-name.invariant ds are in
    elim c.match-meaning_of.branch [
      | in-Some+in_ok-push w ↦
          taken_on (meaning_of ds) c.args.meant.now i _ (Some w.in-Some.meaning) c.loop-name.found.items c.match-meaning_of.found.items c.loop-name-test.true (w.in-Some.ensures ds are)
          (ap (λ (v : Vec NameMeaning Global). v.items) w.found-is ∙ w.in_ok-push.ensures.items) so_far
      | in_default w ↦
          taken_on (meaning_of ds) c.args.meant.now i _ None c.loop-name.found.items c.match-meaning_of.found.items c.loop-name-test.true (w.in_default.ensures ds are)
          (ap (λ (v : Vec NameMeaning Global). v.items) w.found-is ∙ sym (append-nil c.loop-name.found.items)) so_far
    ]
