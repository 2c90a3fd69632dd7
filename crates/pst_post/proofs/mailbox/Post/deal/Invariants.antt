use Rattle.pst_post.proofs.mailbox.Post.deal.Given as goal

abbrev pub ghosts-deal_lane : goal.ghosts-deal_lane
ghosts-deal_lane a = record { lane = a.lane }
