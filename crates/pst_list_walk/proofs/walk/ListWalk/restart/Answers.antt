use Rattle.pst_list_walk.proofs.walk.ListWalk.restart.Goals as goal

pub new-requires : goal.new-requires
new-requires c = c.self.invariant.sound
