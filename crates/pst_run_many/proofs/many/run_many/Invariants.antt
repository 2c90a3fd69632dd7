use Rattle.pst_run_many.proofs.many.run_many.Given as goal

abbrev pub ghosts-run_on : goal.ghosts-run_on
ghosts-run_on g a = record { scenario = a.job.now.scenario.now; plan = a.book.plan; lanes = a.book.lanes; table = a.post }
