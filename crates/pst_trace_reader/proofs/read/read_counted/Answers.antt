use Rattle.pst_trace_reader.proofs.Cut.{none_found}
use Rattle.pst_trace_reader.proofs.Tops.{counts_missing, counts_bad}
use Rattle.pst_trace_reader.proofs.read.read_counted.Goals as goal
use Rattle.std.proofs.Common.{◌++◌, ◌∷◌, ◌∙◌, ap, List, ℕ}

pub returns-in_default : goal.returns-in_default
returns-in_default c = λ whole first cuts own is. counts_missing c.args.format c.args.text.now whole first (none_found c.args.text.now c.in_default.ensures) cuts own is

pub returns-in_default-read_counts : goal.returns-in_default-read_counts
returns-in_default-read_counts c = λ whole first cuts own is.
    counts_bad c.args.format c.args.text.now c.in-Some.counts.now c.in-Some.rest.now whole first c.in-Some.ensures.0 c.in-Some.ensures.1 c.in_default-read_counts.ensures cuts own is

pub returns : goal.returns
returns c = λ whole first cuts own is.
    c.read_rest.ensures whole first c.in-Some.counts.now (cuts ∙ ap (λ (t : List ℕ). first ++ 10 ∷ t) c.in-Some.ensures.0) own c.in-Some.ensures.1 is c.in-Some-read_counts.ensures
