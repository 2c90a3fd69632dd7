use Rattle.std.proofs.Common.{◌≡◌, ◌+◌, ◌-◌, ◌++◌, ℕ, List, take, drop, refl, ap, sym, subst, ◌∙◌, arith, append_assoc, take-append-drop}
use Rattle.std.proofs.Math.Seq.{take-add}
use Rattle.std.proofs.lemmas.Result.{err_from_is_err_and}
use Rattle.pst_lexer.specs.declared.fault.LexFault.{LexFault}
use Rattle.pst_lexer.specs.Fault.{HasFault, AlwaysHasFault}
use Rattle.pst_tests_sources.proofs.lexing.outcome.Goals as goal

-- one piece more of the text
taken_more : (text taken new : List ℕ) (at n : ℕ) → taken ≡ take at text → new ≡ taken ++ take (at + n - at) (drop at text) → new ≡ take (at + n) text
taken_more text taken new at n before more =
    let behind : at + n - at ≡ n = omega arith in
    more ∙ (λ i. before i ++ take (behind i) (drop at text)) ∙ sym (take-add at n text)

-- a fault that is certain is that of the whole text
whole_fault : (text bytes : List ℕ) (end file room r : ℕ) (f : LexFault) → file ≡ 0 → room ≡ r → bytes ≡ take end text → AlwaysHasFault file room bytes f → HasFault 0 r text f
whole_fault text bytes end file room r f file_is room_is is certain =
    subst (λ t. HasFault 0 r t f) (ap (λ t. t ++ drop end text) is ∙ take-append-drop end text)
    (subst (λ m. HasFault 0 m (bytes ++ drop end text) f) room_is (subst (λ n. HasFault n room (bytes ++ drop end text) f) file_is (certain (drop end text))))

pub returns-in_err-feed-clause-fault : goal.returns-in_err-feed-clause-fault
returns-in_err-feed-clause-fault c =
    let p = err_from_is_err_and c.from_residual.result c.from_residual.ensures.1 in
    let end : ℕ = c.pieces.at + c.min.result in
    let taken : c.pieces.lexer.taken ++ take (end - c.pieces.at) (drop c.pieces.at c.args.text.now) ≡ take end c.args.text.now =
    taken_more c.args.text.now c.pieces.lexer.taken (c.pieces.lexer.taken ++ take (end - c.pieces.at) (drop c.pieces.at c.args.text.now)) c.pieces.at c.min.result c.pieces.invariant.taken refl in
    rw (p.1, p.2) (λ other. whole_fault c.args.text.now (c.pieces.lexer.taken ++ take (end - c.pieces.at) (drop c.pieces.at c.args.text.now)) end c.pieces.lexer.file c.pieces.lexer.room c.args.room
    c.in_err-feed.field-0.0 c.pieces.invariant.file c.pieces.invariant.room taken (c.in_err-feed.ensures.certain other))

pub pieces-preserved : goal.pieces-preserved
pieces-preserved c = record {
  within = omega arith;
  file = c.feed.ensures.file ∙ c.pieces.invariant.file;
  room = c.feed.ensures.room ∙ c.pieces.invariant.room;
  taken = taken_more c.args.text.now c.pieces.lexer.taken c.feed.new.self.taken c.pieces.at c.min.result c.pieces.invariant.taken c.in_ok-feed.ensures.ok.0;
  texts = c.feed.ensures.texts;
  few = omega (arith, c.feed.ensures.few, c.feed.ensures.room, c.pieces.invariant.room);
  names = omega (arith, c.feed.ensures.growth, c.pieces.invariant.names);
}
