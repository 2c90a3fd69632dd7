-- A trace has one verdict.
use Rattle.std.proofs.Common.{◌≡◌, ◌⊎◌, ◌≤◌, ℕ, List, [], ◌∷◌, ◌++◌, length, refl, sym, ap, ap₂, ◌∙◌, subst, inl, inr, ⊎_elim, arith, append_assoc, append-nil}
use Rattle.pst_scen.specs.declared.scenario.Scenario.{Scenario}
use Rattle.pst_scen.specs.declared.event.Event.{Event}
use Rattle.pst_scen.specs.Trace.{Block, events_of, events, AreLegal, IsWhole}
use Rattle.pst_scen.specs.Judging.{BreaksLeast}
use Rattle.pst_scen.specs.Laws.{WholeTracesArePrefixes}
use Rattle.pst_by_rule.specs.Blocks.{onward, AreBlocks}
use Rattle.pst_check.specs.declared.verdict.Verdict.{Verdict}
use Rattle.pst_check.specs.declared.verdict.Verdict.TheVariants as verdict
use Rattle.pst_check.specs.Verdicts.{IsBegun, IsLegal, IsFirstIllegal, IsVerdict}
use Rattle.pst_check.proofs.Cutting.{one_cut, legal_blocks}

-- blocks, the earliest first, laid upon others, the latest first
abbrev laid_on : List Block → List Block → List Block
laid_on [] h = h
laid_on (b ∷ later) h = laid_on later (b ∷ h)

laid : (later h : List Block) → (m : List Block) × (laid_on later h ≡ m ++ h)
laid [] h = ([], refl)
laid (b ∷ later) h = let r = laid later (b ∷ h) in (r.0 ++ b ∷ [], r.1 ∙ sym (append_assoc r.0 (b ∷ []) h))

laid_events : (later h : List Block) → events (laid_on later h) ≡ events h ++ onward later
laid_events [] h = sym (append-nil (events h))
laid_events (b ∷ later) h = laid_events later (b ∷ h) ∙ append_assoc (events h) (events_of b) (onward later)

laid_blocks : (later h : List Block) → AreBlocks later → AreBlocks h → AreBlocks (laid_on later h)
laid_blocks [] h k l = l
laid_blocks (b ∷ later) h k l = laid_blocks later (b ∷ h) k.1 (k.0, l)

-- of two ends of a list one is an end of the other
ends : (m n x y : List Block) → m ++ x ≡ n ++ y → ((k : List Block) × (y ≡ k ++ x)) ⊎ ((k : List Block) × (x ≡ k ++ y))
ends [] n x y e = inr (n, e)
ends (c ∷ m) [] x y e = inl (c ∷ m, sym e)
ends (c ∷ m) (d ∷ n) x y e = ends m n x y (tails (m ++ x) (n ++ y) e)
  where
    tails : (p q : List Block) → c ∷ p ≡ d ∷ q → p ≡ q
    tails p q e = cc

heads : (b c : Block) (p q : List Block) → b ∷ p ≡ c ∷ q → b ≡ c
heads b c p q e = cc

rests : (b c : Block) (p q : List Block) → b ∷ p ≡ c ∷ q → p ≡ q
rests b c p q e = cc

-- the first blocks of those that begin a whole legal trace begin one
begun_first : (s : Scenario) (k h : List Block) → AreBlocks (k ++ h) → IsBegun s (events (k ++ h)) → IsBegun s (events h)
begun_first s k h are begun =
    let p = begun.prefix in
    let same = one_cut p.blocks (k ++ h) (legal_blocks s begun.lanes p.blocks (older p.more p.blocks p.legal)) are p.are in
    let all : p.more ++ p.blocks ≡ (p.more ++ k) ++ h = ap (λ q. p.more ++ q) same ∙ sym (append_assoc p.more k h) in
    record {
      lanes = begun.lanes;
      prefix = record {
        blocks = h;
        more = p.more ++ k;
        are = refl;
        legal = subst (λ q. AreLegal s begun.lanes q) all p.legal;
        whole = subst (λ q. IsWhole s (events q)) all p.whole;
      };
    }
  where
    older : (more blocks : List Block) → AreLegal s begun.lanes (more ++ blocks) → AreLegal s begun.lanes blocks
    older [] blocks legal = legal
    older (b ∷ more) blocks legal = older more blocks legal.0

module _ (s : Scenario) (es : List Event) where
  not_begun : (number rule : ℕ) → IsFirstIllegal s es number rule → IsBegun s es → ⊥
  not_begun number rule i begun =
      let top = i.block ∷ i.older in
      let r = laid i.later top in
      let at : es ≡ events (r.0 ++ top) = sym i.are ∙ sym (laid_events i.later top) ∙ ap events r.1 in
      i.illegal (begun_first s r.0 top (subst AreBlocks r.1 (laid_blocks i.later top i.others i.blocks)) (subst (λ t. IsBegun s t) at begun))

  one_illegal : (n m q r : ℕ) → IsFirstIllegal s es n q → IsFirstIllegal s es m r → (n ≡ m) × (q ≡ r)
  one_illegal n m q r i j =
      let top = i.block ∷ i.older in
      let other = j.block ∷ j.older in
      let x = laid i.later top in
      let y = laid j.later other in
      let same : laid_on i.later top ≡ laid_on j.later other =
      one_cut (laid_on i.later top) (laid_on j.later other) (laid_blocks i.later top i.others i.blocks) (laid_blocks j.later other j.others j.blocks)
      (laid_events i.later top ∙ i.are ∙ sym j.are ∙ sym (laid_events j.later other)) in
      ⊎_elim
      (λ k. go n m q r i j k.0 k.1)
      (λ k. let b = go m n r q j i k.0 k.1 in (sym b.0, sym b.1))
      (ends x.0 y.0 top other (sym x.1 ∙ same ∙ y.1))
    where
      go : (n m q r : ℕ) (i : IsFirstIllegal s es n q) (j : IsFirstIllegal s es m r) (k : List Block) → j.block ∷ j.older ≡ k ++ i.block ∷ i.older → (n ≡ m) × (q ≡ r)
      go n m q r i j [] e =
          let b = heads j.block i.block j.older i.older e in
          let o = rests j.block i.block j.older i.older e in
          let least = subst (λ t. BreaksLeast s t r i.block) (ap events o) (subst (λ c. BreaksLeast s (events j.older) r c) b j.least) in
          let up : q ≤ r = i.least.least r least.breaks in
          let down : r ≤ q = least.least q i.least.breaks in
          let many = i.many in
          let others = j.many in
          let len : length j.older ≡ length i.older = ap length o in
          (omega (arith, many, others, len), omega (arith, up, down))
      go n m q r i j (c ∷ k) e =
          let o = rests j.block c j.older (k ++ i.block ∷ i.older) e in
          absurd (i.illegal (begun_first s k (i.block ∷ i.older) (subst AreBlocks o j.blocks.1) (subst (λ t. IsBegun s (events t)) o j.begun)))

  whole_begun : WholeTracesArePrefixes → IsLegal s es → IsWhole s es → IsBegun s es
  whole_begun wholes l w = record { lanes = l.lanes; prefix = wholes s l.lanes es l.legal w }

  pub one_verdict : WholeTracesArePrefixes → (v w : Verdict) → IsVerdict s es v → IsVerdict s es w → v ≡ w
  one_verdict wholes verdict.Whole verdict.Whole a b = refl
  one_verdict wholes verdict.Whole verdict.Prefix a b = absurd (b.1 a.1)
  one_verdict wholes verdict.Whole (verdict.Illegal n q) a b = absurd (not_begun n q b (whole_begun wholes a.0 a.1))
  one_verdict wholes verdict.Prefix verdict.Whole a b = absurd (a.1 b.1)
  one_verdict wholes verdict.Prefix verdict.Prefix a b = refl
  one_verdict wholes verdict.Prefix (verdict.Illegal n q) a b = absurd (not_begun n q b a.0)
  one_verdict wholes (verdict.Illegal n q) verdict.Whole a b = absurd (not_begun n q a (whole_begun wholes b.0 b.1))
  one_verdict wholes (verdict.Illegal n q) verdict.Prefix a b = absurd (not_begun n q a b.0)
  one_verdict wholes (verdict.Illegal n q) (verdict.Illegal m r) a b = let e = one_illegal n m q r a b in ap₂ (λ x y. verdict.Illegal x y) e.0 e.1
