use Rattle.std.proofs.lemmas.List.{take-replicate}
use Rattle.pst_post.proofs.Opening.{opens}
use Rattle.pst_post.proofs.mailbox.Post.new.Goals as goal

pub of_words-requires : goal.of_words-requires
of_words-requires c = opens c.args.lanes _ (take-replicate c.args.lanes 16 0 c.requires.1)
