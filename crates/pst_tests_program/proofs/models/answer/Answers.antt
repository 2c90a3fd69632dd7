use Rattle.pst_tests_program.proofs.models.answer.Goals as goal

pub of_line-requires : goal.of_line-requires
of_line-requires c = (1, c.in-Ok.ensures.whole)
