use Rattle.pst_tests_bodies.proofs.reading.+read_expression.Given as goal

abbrev pub decreases-read_expression : goal.decreases-read_expression
decreases-read_expression l = l.depth
