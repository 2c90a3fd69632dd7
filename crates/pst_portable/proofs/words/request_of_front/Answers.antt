use Rattle.std.proofs.Common.{map, string_bytes, sym, subst}
use Rattle.pst_outcome.specs.Outcome.{bytes_of}
use Rattle.pst_front.specs.declared.stage.Stage.{Stage}
use Rattle.pst_front.specs.Stages.{front_of, HasSoundModel}
use Rattle.pst_portable.specs.Replies.{IsDone}
use Rattle.pst_outcome.proofs.OneTask.{work_fits, work_asked}
use Rattle.pst_portable.proofs.words.request_of_front.Goals as goal

pub returns-in-Ended-clause-done : goal.returns-in-Ended-clause-done
returns-in-Ended-clause-done c = λ lanes answer text is.
    subst (λ (s : Stage). IsDone c.args.line.now.command (map string_bytes c.args.line.now.arguments.now) (bytes_of c.args.front.trace) lanes (front_of s) answer text) (sym c.in-Ended.is) is

pub returns-in-Elaborated-clause-servable : goal.returns-in-Elaborated-clause-servable
returns-in-Elaborated-clause-servable c = λ lines have words few line.
    let sound = subst HasSoundModel c.in-Elaborated.is c.requires.sound in record {
      sound = sound.0;
      concrete = sound.1;
      small = c.requires.small;
      some = line.lanes;
      few = few;
      fits = work_fits c.args.line.now.command have (map string_bytes c.args.line.now.arguments.now) c.task_of.result.work line.lanes few line.whole.right.each line.whole.right.seeds c.task_of.ensures.work_is;
      asked = work_asked lines c.args.line.now.command (map string_bytes c.args.line.now.arguments.now) c.task_of.result.work line.served c.task_of.ensures.work_is;
    }

pub returns-in-Elaborated-clause-done : goal.returns-in-Elaborated-clause-done
returns-in-Elaborated-clause-done c = λ lanes answer text is.
    subst (λ (s : Stage). IsDone c.args.line.now.command (map string_bytes c.args.line.now.arguments.now) (bytes_of c.args.front.trace) lanes (front_of s) answer text) (sym c.in-Elaborated.is)
    (c.task_of.result, c.task_of.ensures, is)
