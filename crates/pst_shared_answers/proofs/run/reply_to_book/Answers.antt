use Rattle.pst_shared_answers.proofs.run.reply_to_book.Goals as goal

pub returns : goal.returns
returns c = (c.in_ok-shown.shown, c.in_ok-shown.ensures, c.reply_of.ensures)
