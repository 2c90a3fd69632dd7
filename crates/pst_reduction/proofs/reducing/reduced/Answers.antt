use Rattle.std.proofs.Common.{◌≡◌, ◌∙◌, ℕ, List, length, ap, sym, subst}
use Rattle.pst_scen.specs.Rows.{row_words}
use Rattle.pst_reduction.specs.Parts.{AreThinBelow}
use Rattle.pst_reduction.specs.Reduced.{IsReduced}
use Rattle.pst_reduction.proofs.Rows.{written, reduced_of}
use Rattle.pst_reduction.proofs.reducing.reduced.Goals as goal

pub returns : goal.returns
returns c =
    let size = c.args.rows.now.size in
    let row = row_words size in
    let base = c.args.rows.now.words in
    let whole : c.as_slice-whole.result.now ≡ base = c.as_slice-whole.ensures in
    let thin : AreThinBelow row base size c.thin_rows.new.words size = subst (λ (l : List ℕ). AreThinBelow row l size c.thin_rows.new.words size) whole c.thin_rows.ensures in
    let all : c.in_ok-words.words.len ≡ length c.thin_rows.new.words = c.in_ok-words.ensures.len ∙ ap length whole ∙ sym thin.many in
    let is : c.from_vec.result ≡ c.thin_rows.new.words = written c.in_ok-words.words.len c.thin_rows.new.words _ c.from_vec.result all c.from_vec.ensures in
    subst (λ (words : List ℕ). IsReduced c.args.rows.now (record { size = size; words = words })) (sym is) (reduced_of c.args.rows.now c.thin_rows.new.words c.requires thin)
