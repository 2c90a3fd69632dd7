-- Events are cut into blocks in one way.
use Rattle.std.proofs.Common.{◌≡◌, ℕ, ◌<◌, List, [], ◌∷◌, ◌++◌, length, true, false, refl, sym, ap, ap₂, ◌∙◌, arith, append_assoc, append-nil}
use Rattle.pst_scen.specs.declared.scenario.Scenario.{Scenario}
use Rattle.pst_scen.specs.declared.event.Event.{Event}
use Rattle.pst_scen.specs.declared.event.Event.TheVariants.{Start, End}
use Rattle.pst_scen.specs.Trace.{Block, Starts, Ends, starts_of, events, AreLegal}
use Rattle.pst_order.specs.Rule.{AreByRule}
use Rattle.pst_by_rule.specs.Blocks.{AreBlocks}

-- the blocks of events behind some blocks, where a block has begun with some members on some lanes
abbrev cut : List Block → List ℕ → List ℕ → List Event → List Block
cut blocks ms us [] = blocks
cut blocks ms us (Start a lane true ∷ more) = cut blocks (ms ++ a ∷ []) (us ++ lane ∷ []) more
cut blocks ms us (Start a lane false ∷ more) = cut (Starts (ms ++ a ∷ []) (us ++ lane ∷ []) ∷ blocks) [] [] more
cut blocks ms us (End a ∷ more) = cut (Ends a ∷ blocks) [] [] more

cut_starts : (blocks : List Block) (ms us ns vs : List ℕ) (more : List Event) → 0 < length ns → length vs ≡ length ns → cut blocks ms us (starts_of ns vs ++ more) ≡ cut (Starts (ms ++ ns) (us ++ vs) ∷ blocks) [] [] more
cut_starts blocks ms us [] vs more some e = absurd (omega (arith, some))
cut_starts blocks ms us (n ∷ ns) [] more some e = absurd (omega (arith, e))
cut_starts blocks ms us (n ∷ []) (v ∷ []) more some e = refl
cut_starts blocks ms us (n ∷ []) (v ∷ w ∷ vs) more some e = absurd (omega (arith, e))
cut_starts blocks ms us (n ∷ m ∷ ns) (v ∷ vs) more some e =
    cut_starts blocks (ms ++ n ∷ []) (us ++ v ∷ []) (m ∷ ns) vs more (omega arith) (omega (arith, e))
    ∙ ap₂ (λ xs ys. cut (Starts xs ys ∷ blocks) [] [] more) (append_assoc ms (n ∷ []) (m ∷ ns)) (append_assoc us (v ∷ []) vs)

cut_events : (h : List Block) (blocks : List Block) (more : List Event) → AreBlocks h → cut blocks [] [] (events h ++ more) ≡ cut (h ++ blocks) [] [] more
cut_events [] blocks more k = refl
cut_events (Starts ms us ∷ h) blocks more k =
    ap (λ t. cut blocks [] [] t) (append_assoc (events h) (starts_of ms us) more)
    ∙ cut_events h blocks (starts_of ms us ++ more) k.1
    ∙ cut_starts (h ++ blocks) [] [] ms us more k.0.0 k.0.1
cut_events (Ends a ∷ h) blocks more k =
    ap (λ t. cut blocks [] [] t) (append_assoc (events h) (End a ∷ []) more) ∙ cut_events h blocks (End a ∷ [] ++ more) k.1

cut_is : (h : List Block) → AreBlocks h → cut [] [] [] (events h) ≡ h
cut_is h k = sym (ap (λ t. cut [] [] [] t) (append-nil (events h))) ∙ cut_events h [] [] k ∙ append-nil h

pub one_cut : (a b : List Block) → AreBlocks a → AreBlocks b → events a ≡ events b → a ≡ b
one_cut a b k l e = sym (cut_is a k) ∙ ap (λ t. cut [] [] [] t) e ∙ cut_is b l

pub legal_blocks : (s : Scenario) (lanes : ℕ) (h : List Block) → AreLegal s lanes h → AreBlocks h
legal_blocks s lanes [] k = tt
legal_blocks s lanes (Starts ms us ∷ h) k = ((k.1.group.some, k.1.free.many), legal_blocks s lanes h k.0)
legal_blocks s lanes (Ends a ∷ h) k = (tt, legal_blocks s lanes h k.0)

pub rule_blocks : (s : Scenario) (lanes : ℕ) (h : List Block) → AreByRule s lanes h → AreBlocks h
rule_blocks s lanes [] k = tt
rule_blocks s lanes (Starts ms us ∷ h) k = ((k.1.0.group.some, k.1.1.many), rule_blocks s lanes h k.0)
rule_blocks s lanes (Ends a ∷ h) k = (tt, rule_blocks s lanes h k.0)
