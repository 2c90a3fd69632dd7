use Rattle.std.proofs.Common.{◌≡◌, ℕ, List, subst, ◌∙◌}
use Rattle.pst_scen.specs.Rows.{row_words}
use Rattle.pst_square.specs.Bits.{HasBit}
use Rattle.pst_square.specs.Chains.{IsChain}
use Rattle.pst_square.proofs.circle.leads_back.Goals as goal

pub returns : goal.returns
returns c = λ is.
    let size = c.args.direct.now.size in
    let same : c.deref_mut.result.now ≡ c.args.direct.now.words = c.deref_mut.ensures.value ∙ c.in_ok-words.ensures.items ∙ c.as_slice.ensures in
    subst (λ (words : List ℕ). IsChain (HasBit (row_words size) words) size c.args.a c.args.a) same (c.lead_back.ensures is)
