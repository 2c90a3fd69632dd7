-- Branches that are left, and their line.
use Rattle.std.proofs.Common.{◌≡◌, ◌∙◌, ℕ, suc, ◌+◌, ◌-◌, ◌<◌, ◌≤◌, List, [], ◌∷◌, ◌++◌, ap, sym, append_assoc, append-nil, arith}
use Rattle.std.specs.Prelude.{codes}
use Rattle.pst_trace_texts.specs.Lines.{line}
use Rattle.pst_trace_texts.specs.Header.{branch_text, branches_text}

-- the text of one more branch, where so many are in all
pub branches_more : (joined branch all : ℕ) (old new whole : List ℕ) → branch < all
    → new ≡ old ++ branch_text joined branch
    → old ++ branches_text joined branch (all - branch) ≡ whole
    → new ++ branches_text joined (branch + 1) (all - (branch + 1)) ≡ whole
branches_more joined branch all old new whole below written so_far =
    let left : all - branch ≡ suc (all - (branch + 1)) = omega (arith, below) in
    ap (λ (t : List ℕ). t ++ branches_text joined (branch + 1) (all - (branch + 1))) written
    ∙ append_assoc old (branch_text joined branch) (branches_text joined (branch + 1) (all - (branch + 1)))
    ∙ ap (λ n. old ++ branches_text joined branch n) (sym left)
    ∙ so_far

pub branches_done : (joined branch all : ℕ) (new whole : List ℕ) → all ≤ branch → new ++ branches_text joined branch (all - branch) ≡ whole → new ≡ whole
branches_done joined branch all new whole end so_far =
    let none : all - branch ≡ 0 = omega (arith, end) in
    sym (append-nil new) ∙ ap (λ n. new ++ branches_text joined branch n) (sym none) ∙ so_far

-- the line of the joined branches
pub join_written : (old wrote branched pushed number branches : List ℕ) → wrote ≡ old ++ (codes "join " ++ number) → branched ≡ wrote ++ branches → pushed ≡ branched ++ 10 ∷ []
    → pushed ≡ old ++ line (codes "join " ++ number ++ branches)
join_written old wrote branched pushed number branches first second third =
    let parts : ((old ++ (codes "join " ++ number)) ++ branches) ++ 10 ∷ [] ≡ old ++ line (codes "join " ++ number ++ branches) = simp append_assoc in
    third ∙ ap (λ (t : List ℕ). t ++ 10 ∷ []) (second ∙ ap (λ (t : List ℕ). t ++ branches) first) ∙ parts
