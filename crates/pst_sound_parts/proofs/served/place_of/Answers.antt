use Rattle.std.proofs.Common.{rules}
use Rattle.std.proofs.lemmas.List.Sorted.{answers_always}
use Rattle.pst_sound_parts.proofs.Searches.{found_at, absent_from}
use Rattle.pst_sound_parts.proofs.served.place_of.Goals as goal

pub returns-clause-found : goal.returns-clause-found
returns-clause-found c =
    let facts = c.binary_search_by_key.ensures in
    let by_key = facts.position (λ s. (s.action, (s.instance, s.reference))) (answers_always _ _ _ (λ f a r g called. search rules)) in
    found_at c.args.action c.args.instance c.args.reference c.args.served.now c.binary_search_by_key.result facts.bound by_key

pub returns-clause-absent : goal.returns-clause-absent
returns-clause-absent c =
    let facts = c.binary_search_by_key.ensures in
    let by_key = facts.position (λ s. (s.action, (s.instance, s.reference))) (answers_always _ _ _ (λ f a r g called. search rules)) in
    absent_from c.args.action c.args.instance c.args.reference c.args.served.now c.binary_search_by_key.result c.requires by_key
