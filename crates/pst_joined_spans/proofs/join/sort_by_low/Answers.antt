use Rattle.std.proofs.Common.{rules, arith}
use Rattle.std.proofs.lemmas.List.Sorted.{answers_always}
use Rattle.pst_joined_spans.proofs.Joining.{not_less}
use Rattle.pst_joined_spans.proofs.join.sort_by_low.Goals as goal

pub returns-clause-ascending : goal.returns-clause-ascending
returns-clause-ascending c = λ k d within.
    not_less _ _ (c.sort_unstable_by_key.ensures.sorted (λ s. s.low) (answers_always _ _ _ (λ f a r g h. search rules)) k d (omega arith) within)
