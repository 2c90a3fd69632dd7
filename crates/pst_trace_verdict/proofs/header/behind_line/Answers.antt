use Rattle.std.proofs.Common.{◌∙◌, ◌∷◌, ◌++◌, [], ℕ, List, ap, sym, append_assoc}
use Rattle.std.proofs.lemmas.List.{append_cancel_left}
use Rattle.pst_trace_verdict.proofs.header.behind_line.Goals as goal

pub returns-in-None-behind : goal.returns-in-None-behind
returns-in-None-behind c = λ more is. c.in-None-behind.ensures more (append_cancel_left c.args.line.now c.in-Some.rest.now (10 ∷ more) (sym c.in-Some.ensures ∙ is ∙ append_assoc c.args.line.now (10 ∷ []) more) ∙ ap (λ (l : List ℕ). l ++ more) (sym c.as_slice.ensures))
