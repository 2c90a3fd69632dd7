-- A block that breaks no rule begins a whole legal trace with those before it, and one that does breaks none.
use Rattle.std.proofs.Common.{◌+◌, ℕ, ◌≤◌, List, ◌∷◌, subst, arith}
use Rattle.pst_scen.specs.declared.scenario.Scenario.{Scenario}
use Rattle.pst_scen.specs.declared.event.Event.{Event}
use Rattle.pst_scen.specs.Trace.{Block, Starts, Ends, events, MayCome, AreLegal, IsLegalTrace, Prefix}
use Rattle.pst_scen.specs.Judging.{Breaks, NoGroup, StartsAgain, LaneIsBusy, LaneIsNamedTwice, StatementIsOpen, ProducerIsOpen, SourceIsAnother, PreviousIsAnother, ConflictsRunning, ConflictsInside, EndsNothing, ReaderIsOpen, IsBlock}
use Rattle.pst_scen.specs.Laws.{WiderTracesAreLegal, PrefixesAreLegal}
use Rattle.pst_scen.specs.Plan.{Entries, widest}
use Rattle.pst_scen.specs.Plans.{IsPlanOf}
use Rattle.pst_order.specs.Facts.{LinksStates}
use Rattle.pst_order.specs.Rule.{KeepsReaders, AllKeepReaders}
use Rattle.pst_order.specs.Laws.{MembersAreThose, PlanGroupsAreWhole, WholeGroupsAreOne, PrefixIsByRule, RuleKeepsReaders, KeptIsPrefix}
use Rattle.pst_by_rule.specs.Blocks.{AreBlocks}
use Rattle.pst_check.specs.Verdicts.{IsBegun}
use Rattle.pst_check.proofs.Elements.{above, below_above}
use Rattle.pst_check.proofs.Decided.{ended_or, runs_or, names_or, unrefused}
use Rattle.pst_check.proofs.Cutting.{one_cut, legal_blocks, rule_blocks}
use Rattle.pst_check.proofs.Grouped.{group_or}

-- what a block may name as lanes
abbrev lanes_in : Block → ℕ
lanes_in (Starts ms us) = above us
lanes_in (Ends a) = 0

abbrev IsUnbroken : Scenario → List Event → Block → Type 0
IsUnbroken s t block = (rule : ℕ) → Breaks s t rule block → ⊥

keeps_readers : (s : Scenario) (t : List Event) (block : Block) → IsUnbroken s t block → KeepsReaders s t block
keeps_readers s t (Ends a) free = tt
keeps_readers s t (Starts ms us) free = λ a b pool to m n r w. unrefused (ended_or t a) (λ k. free 11 (ReaderIsOpen ms us a b pool to m w r n k))

module _ (those : MembersAreThose) (whole : PlanGroupsAreWhole) (one : WholeGroupsAreOne) (s : Scenario) (p : Entries) (plan : IsPlanOf s p) where
  may_come : (lanes : ℕ) (t : List Event) (block : Block) → IsBlock block → lanes_in block ≤ lanes → IsUnbroken s t block → MayCome s lanes t block
  may_come lanes t (Ends a) is wide free = unrefused (runs_or t a) (λ k. free 9 (EndsNothing a k))
  may_come lanes t (Starts ms us) is wide free = record {
    group = unrefused (group_or those whole one s p plan ms) (λ k. free 2 (NoGroup ms us k));
    fresh = λ a m k. free 3 (StartsAgain ms us a m k);
    free = record {
      many = is.1;
      different = λ i j l m e. free 4 (LaneIsNamedTwice ms us i j l m e);
      below = λ l h. let b = below_above us l h in omega (arith, b, wide);
      idle = λ l h k. free 4 (LaneIsBusy ms us l h k);
    };
    sequence = λ a b m d. unrefused (ended_or t a) (λ k. free 5 (StatementIsOpen ms us a b m d k));
    buffer = λ a b m d. unrefused (ended_or t a) (λ k. free 6 (ProducerIsOpen ms us a b m d k));
    source = λ b pool to m r. unrefused (names_or to _) (λ k. free 7 (SourceIsAnother ms us b pool to m r k));
    previous = λ b pool to m w. unrefused (names_or to _) (λ k. free 7 (PreviousIsAnother ms us b pool to m w k));
    clear = λ a b r m c. free 8 (ConflictsRunning ms us a b r m c);
    apart = λ a b m n c. free 8 (ConflictsInside ms us a b m n c);
  }

-- a block that may come and keeps the readers breaks no rule
pub unbroken : (s : Scenario) (lanes : ℕ) (t : List Event) (block : Block) → MayCome s lanes t block → KeepsReaders s t block → IsUnbroken s t block
unbroken s lanes t _ may keeps _ (NoGroup ms us n) = n may.group
unbroken s lanes t _ may keeps _ (StartsAgain ms us a m k) = may.fresh a m k
unbroken s lanes t _ may keeps _ (LaneIsBusy ms us l h k) = may.free.idle l h k
unbroken s lanes t _ may keeps _ (LaneIsNamedTwice ms us i j l m e) = may.free.different i j l m e
unbroken s lanes t _ may keeps _ (StatementIsOpen ms us a b m d k) = k (may.sequence a b m d)
unbroken s lanes t _ may keeps _ (ProducerIsOpen ms us a b m d k) = k (may.buffer a b m d)
unbroken s lanes t _ may keeps _ (SourceIsAnother ms us b pool to m r k) = k (may.source b pool to m r)
unbroken s lanes t _ may keeps _ (PreviousIsAnother ms us b pool to m w k) = k (may.previous b pool to m w)
unbroken s lanes t _ may keeps _ (ConflictsRunning ms us a b r m c) = may.clear a b r m c
unbroken s lanes t _ may keeps _ (ConflictsInside ms us a b m n c) = may.apart a b m n c
unbroken s lanes t _ may keeps _ (EndsNothing a k) = k may
unbroken s lanes t _ may keeps _ (ReaderIsOpen ms us a b pool to m w r n k) = k (keeps a b pool to m n r w)

module _ (prefixes : PrefixesAreLegal) (wider : WiderTracesAreLegal) (by_rule : PrefixIsByRule) (keeps : RuleKeepsReaders) (kept : KeptIsPrefix)
    (those : MembersAreThose) (whole : PlanGroupsAreWhole) (one : WholeGroupsAreOne) where
  -- blocks that begin a whole legal trace are legal and keep the readers
  legal_of : (s : Scenario) (lanes : ℕ) (h : List Block) → AreBlocks h → IsLegalTrace s lanes (events h) → AreLegal s lanes h
  legal_of s lanes h k l = subst (λ g. AreLegal s lanes g) (one_cut l.blocks h (legal_blocks s lanes l.blocks l.legal) k l.are) l.legal

  kept_of : (s : Scenario) (lanes : ℕ) (h : List Block) → AreBlocks h → Prefix s lanes (events h) → AllKeepReaders s h
  kept_of s lanes h k q =
      let r = by_rule s lanes (events h) q in
      subst (λ g. AllKeepReaders s g) (one_cut r.blocks h (rule_blocks s lanes r.blocks r.rule) k r.are) (keeps s lanes r.blocks r.rule)

  pub begun_unbroken : (s : Scenario) (h : List Block) (block : Block) → AreBlocks h → IsBlock block → IsBegun s (events (block ∷ h)) → IsUnbroken s (events h) block
  begun_unbroken s h block k is begun =
      let l = legal_of s begun.lanes (block ∷ h) (is, k) (prefixes s begun.lanes (events (block ∷ h)) begun.prefix) in
      let r = kept_of s begun.lanes (block ∷ h) (is, k) begun.prefix in
      unbroken s begun.lanes (events h) block l.1 r.1

  pub unbroken_begun : (s : Scenario) (p : Entries) (h : List Block) (block : Block) → LinksStates s → IsPlanOf s p → AreBlocks h → IsBlock block → IsBegun s (events h) → IsUnbroken s (events h) block → IsBegun s (events (block ∷ h))
  unbroken_begun s p h block links plan k is begun free =
      let lanes : ℕ = begun.lanes + widest p.groups + lanes_in block in
      let l = legal_of s lanes h k (wider s begun.lanes lanes (events h) (omega arith) (prefixes s begun.lanes (events h) begun.prefix)) in
      record {
        lanes = lanes;
        prefix = kept s p lanes (block ∷ h) links plan (omega arith)
            (l, may_come those whole one s p plan lanes (events h) block is (omega arith) free)
            (kept_of s begun.lanes h k begun.prefix, keeps_readers s (events h) block free);
      }
