use Rattle.std.proofs.Common.{rules, arith}
use Rattle.std.proofs.lemmas.List.Sorted.{answers_always}
use Rattle.pst_typed_uses.proofs.BehindPlaces.{not_before}
use Rattle.pst_typed_uses.proofs.in_order.sort_by_place.Goals as goal

pub returns-clause-sorted : goal.returns-clause-sorted
returns-clause-sorted c = λ k d within before.
    not_before _ _ (c.sort_unstable_by_key.ensures.sorted (λ m. (m.at.file, m.at.line, m.at.column)) (answers_always _ _ _ (λ f a r g h. search rules)) k d (omega arith) within) before
