use Rattle.pst_members.proofs.versions.Versions.+put.Given as goal

abbrev pub decreases-put : goal.decreases-put
decreases-put l = l.at
