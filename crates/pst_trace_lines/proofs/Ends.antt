-- A last line says one thing.
use Rattle.std.proofs.Common.{◌≡◌, ◌∙◌, ℕ, List, ◌∷◌, ◌++◌, ap, sym, decimal, arith}
use Rattle.std.specs.Prelude.{codes}
use Rattle.std.proofs.lemmas.List.{append_cancel_left}
use Rattle.std.proofs.lemmas.Fmt.{decimal_injective}
use Rattle.pst_trace_texts.specs.Lines.{line}
use Rattle.pst_trace_lines.specs.declared.last.LastLine.{LastLine}
use Rattle.pst_trace_lines.specs.declared.last.LastLine.TheVariants.{Done, Fault, Trap}
use Rattle.pst_trace_lines.specs.Last.{IsLastLine}
use Rattle.pst_trace_lines.proofs.Cutting.{wide, three_same}
use Rattle.pst_trace_lines.proofs.Lasts.{drop_last, three_text, fault_text, trap_text, fault_three, trap_three}

-- lines that begin with other bytes are others
apart : (text xs ys : List ℕ) (x y : ℕ) → line text ≡ x ∷ xs → line text ≡ y ∷ ys → x ≡ y
apart text xs ys x y one other = heads (sym one ∙ other)
  where
    heads : x ∷ xs ≡ y ∷ ys → x ≡ y
    heads same = cc

pub last_one : (text : List ℕ) (last other : LastLine) → IsLastLine text last → IsLastLine text other → last ≡ other
last_one text (Done a) (Done b) p q =
    let whole : codes "done " ++ decimal a ≡ codes "done " ++ decimal b = drop_last (codes "done " ++ decimal a) (codes "done " ++ decimal b) 10 (sym p.is ∙ q.is) in
    ap Done (decimal_injective a b (wide a p.small) (wide b q.small) (append_cancel_left (codes "done ") (decimal a) (decimal b) whole))
last_one text (Done a) (Fault lane action call) p q = let same = apart text _ _ 100 102 p.is q.is in absurd (omega (arith, same))
last_one text (Done a) (Trap lane action kind) p q = let same = apart text _ _ 100 116 p.is q.is in absurd (omega (arith, same))
last_one text (Fault lane action call) (Done b) p q = let same = apart text _ _ 102 100 p.is q.is in absurd (omega (arith, same))
last_one text (Fault lane action call) (Fault l a c) p q =
    let is : text ≡ codes "fault " ++ three_text lane action call =
    drop_last text (codes "fault " ++ three_text lane action call) 10 (p.is ∙ ap line (fault_text lane action call)) in
    let same = three_same (three_text lane action call) lane action call l a c (fault_three text (three_text lane action call) lane action call is p) (fault_three text (three_text lane action call) l a c is q) in
    ap (λ n. Fault n action call) same.0 ∙ ap (λ n. Fault l n call) same.1 ∙ ap (λ n. Fault l a n) same.2
last_one text (Fault lane action call) (Trap l a k) p q = let same = apart text _ _ 102 116 p.is q.is in absurd (omega (arith, same))
last_one text (Trap lane action kind) (Done b) p q = let same = apart text _ _ 116 100 p.is q.is in absurd (omega (arith, same))
last_one text (Trap lane action kind) (Fault l a c) p q = let same = apart text _ _ 116 102 p.is q.is in absurd (omega (arith, same))
last_one text (Trap lane action kind) (Trap l a k) p q =
    let is : text ≡ codes "trap " ++ three_text lane action kind =
    drop_last text (codes "trap " ++ three_text lane action kind) 10 (p.is ∙ ap line (trap_text lane action kind)) in
    let same = three_same (three_text lane action kind) lane action kind l a k (trap_three text (three_text lane action kind) lane action kind is p) (trap_three text (three_text lane action kind) l a k is q) in
    ap (λ n. Trap n action kind) same.0 ∙ ap (λ n. Trap l n kind) same.1 ∙ ap (λ n. Trap l a n) same.2
