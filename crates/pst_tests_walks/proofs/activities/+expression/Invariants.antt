use Rattle.pst_tests_walks.proofs.activities.+expression.Given as goal

abbrev pub decreases-expression : goal.decreases-expression
decreases-expression l = l.depth
