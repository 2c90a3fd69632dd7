use Rattle.pst_trace_reader.proofs.Tops.{no_format}
use Rattle.pst_trace_reader.proofs.read.format_of.Goals as goal

pub returns : goal.returns
returns c = λ format f.
    no_format c.args.line.now c.in_ok-rest.rest.now c.in_ok-format.format format c.in_ok-rest.ensures c.in_ok-format.ensures.0 c.in_ok-format.ensures.1 c.if-format-eq1.false c.if-format-eq2.false f
