use Rattle.std.proofs.Common.{◌≡◌, ℕ, List, length, refl, sym, subst, ap, ◌∙◌}
use Rattle.pst_scen.specs.Rows.{row_words}
use Rattle.pst_square.specs.Bits.{IsClosure}
use Rattle.pst_square.proofs.Closes.{written}
use Rattle.pst_square.proofs.closure.stepwise_rows.Goals as goal

pub returns : goal.returns
returns c =
    let size = c.args.direct.now.size in
    let row = row_words size in
    let base = c.args.direct.now.words in
    let same : c.deref_mut.result.now ≡ base = c.deref_mut.ensures.value ∙ c.in_ok-words.ensures.items ∙ c.as_slice.ensures in
    let many : length c.close.new.words ≡ length base = c.close.ensures.many ∙ ap length same in
    let all : c.in_ok-words.words.len ≡ length c.close.new.words = c.in_ok-words.ensures.len ∙ ap length c.as_slice.ensures ∙ sym many in
    let is : c.from_vec.result ≡ c.close.new.words = written c.in_ok-words.words.len c.close.new.words _ c.from_vec.result all c.from_vec.ensures in
    let closed : IsClosure size row base c.from_vec.result =
    subst (λ (words : List ℕ). IsClosure size row base words) (sym is) (subst (λ (words : List ℕ). IsClosure size row words c.close.new.words) same c.close.ensures) in
    (refl, closed.many ∙ c.requires, closed.chains)
