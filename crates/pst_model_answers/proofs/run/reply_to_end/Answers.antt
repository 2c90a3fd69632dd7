use Rattle.pst_model_answers.proofs.run.reply_to_end.Goals as goal

pub returns : goal.returns
returns c = (c.in_ok-shown.shown, c.in_ok-shown.ensures, c.reply_of.ensures)
