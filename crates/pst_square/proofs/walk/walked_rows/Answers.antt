use Rattle.std.proofs.Common.{◌≡◌, ℕ, List, length, refl, sym, subst, ap, ◌∙◌}
use Rattle.pst_scen.specs.Rows.{row_words}
use Rattle.pst_square.specs.Bits.{IsClosure}
use Rattle.pst_square.proofs.Closes.{written}
use Rattle.pst_square.proofs.walk.walked_rows.Goals as goal

pub returns : goal.returns
returns c =
    let size = c.args.direct.now.size in
    let row = row_words size in
    let base = c.args.direct.now.words in
    let closed : IsClosure size row base c.walk.new.words =
    subst (λ (words : List ℕ). IsClosure size row words c.walk.new.words) c.as_slice-base.ensures (c.in_ok-walk.ensures.closed c.if-not-branch.false) in
    let all : c.in_ok-words.words.len ≡ length c.walk.new.words = c.in_ok-words.ensures.len ∙ ap length c.as_slice-base.ensures ∙ sym closed.many in
    let is : c.from_vec.result ≡ c.walk.new.words = written c.in_ok-words.words.len c.walk.new.words _ c.from_vec.result all c.from_vec.ensures in
    let moved : IsClosure size row base c.from_vec.result = subst (λ (words : List ℕ). IsClosure size row base words) (sym is) closed in
    (refl, moved.many ∙ c.requires, moved.chains)
