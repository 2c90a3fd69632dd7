-- Judging block after block.
use Rattle.std.proofs.Common.{◌≡◌, ◌≤◌, ◌<◌, ◌+◌, ◌-◌, ◌^◌, ℕ, zero, suc, List, [], ◌∷◌, ◌++◌, Bool, length, take, drop, refl, sym, ap, ◌∙◌, subst, arith, append_assoc, length-append}
use Rattle.std.proofs.lemmas.List.{drop-drop, length-drop}
use Rattle.pst_scen.specs.declared.scenario.Scenario.{Scenario}
use Rattle.pst_scen.specs.declared.event.Event.{Event}
use Rattle.pst_scen.specs.Trace.{Block, Starts, Ends, Ended, events_of, events}
use Rattle.pst_scen.specs.Judging.{BreaksLeast}
use Rattle.pst_scen.specs.Laws.{PrefixesAreLegal}
use Rattle.pst_scen.specs.Plan.{Entries, widest}
use Rattle.pst_scen.specs.Plans.{IsPlanOf}
use Rattle.pst_order.specs.Facts.{LinksStates}
use Rattle.pst_order.specs.Rule.{AreByRule}
use Rattle.pst_order.specs.Laws.{PrefixIsByRule, RuleIsPrefix, RuleFits}
use Rattle.pst_by_rule.specs.Followed.{AreFollowed}
use Rattle.pst_by_rule.specs.Blocks.{block_of, onward, AreBlocks, AreOnward, IsFirstBlock}
use Rattle.pst_check.specs.Marks.{AreMarks}
use Rattle.pst_check.specs.declared.verdict.Verdict.{Verdict}
use Rattle.pst_check.specs.declared.verdict.Verdict.TheVariants as verdict
use Rattle.pst_check.specs.Verdicts.{IsBegun, IsLegal, IsFirstIllegal, IsUnbroken, IsVerdict, IsCompleted}
use Rattle.pst_check.specs.Laws.{UnbrokenIsBegun}
use Rattle.pst_by_rule.proofs.Onward.{take_on, some_events}
use Rattle.pst_check.proofs.Cutting.{rule_blocks}

-- the first so many events are so many blocks that begin a whole legal trace, and the others are blocks
pub record IsJudged (s : Scenario) (es : List Event) (first block : ℕ) : Type 0 where
  pub older : List Block
  pub are : events older ≡ take first es
  pub blocks : AreBlocks older
  pub many : length older ≡ block
  pub begun : IsBegun s (events older)
  pub inside : first ≤ length es
  pub rest : AreOnward (drop first es)

take_drop : {X : Type 0} (n : ℕ) (xs : List X) → take n xs ++ drop n xs ≡ xs
take_drop zero xs = refl
take_drop (suc n) [] = refl
take_drop (suc n) (x ∷ xs) = ap (λ ys. x ∷ ys) (take_drop n xs)

take_past : {X : Type 0} (n : ℕ) (xs : List X) → length xs ≤ n → take n xs ≡ xs
take_past zero [] l = refl
take_past zero (x ∷ xs) l = absurd (omega (arith, l))
take_past (suc n) [] l = refl
take_past (suc n) (x ∷ xs) l = ap (λ ys. x ∷ ys) (take_past n xs (omega (arith, l)))

-- what keeps the core's rule on some lanes keeps it on more
wider : (s : Scenario) (lanes more : ℕ) (h : List Block) → lanes ≤ more → AreByRule s lanes h → AreByRule s more h
wider s lanes more [] l k = tt
wider s lanes more (Starts ms us ∷ h) l k = (
  wider s lanes more h l k.0,
  (k.1.0, record { many = k.1.1.many; different = k.1.1.different; below = λ x c. let b = k.1.1.below x c in omega (arith, b, l); idle = k.1.1.idle }),
)
wider s lanes more (Ends a ∷ h) l k = (wider s lanes more h l k.0, k.1)

-- the blocks that were followed are judged
pub judged_first : (s : Scenario) (p : Entries) (es : List Event) (first block : ℕ) → RuleIsPrefix → LinksStates s → IsPlanOf s p → AreFollowed s es first block → IsJudged s es first block
judged_first s p es first block prefix links plan f =
    let lanes : ℕ = 16 + widest p.groups in
    record {
      older = f.older;
      are = f.are;
      blocks = rule_blocks s 16 f.older f.rule;
      many = f.many;
      begun = record {
        lanes = lanes;
        prefix = prefix s p lanes (events f.older) links plan (omega arith) (record { blocks = f.older; are = refl; rule = wider s 16 lanes f.older (omega arith) f.rule });
      };
      inside = f.inside;
      rest = f.rest;
    }

module _ (s : Scenario) (es : List Event) (first block count : ℕ) (j : IsJudged s es first block) (f : IsFirstBlock (drop first es) count) where
  abbrev part : List Event
  part = take count (drop first es)

  pub judged_next : (p : Entries) → UnbrokenIsBegun → LinksStates s → IsPlanOf s p → IsUnbroken s (take first es) (block_of part) → IsJudged s es (first + count) (block + 1)
  judged_next p law links plan free =
      let more : events j.older ++ events_of (block_of part) ≡ take (first + count) es =
      ap (λ t. t ++ events_of (block_of part)) j.are ∙ ap (λ t. take first es ++ t) f.one.are ∙ sym (take_on first count (first + count) es refl) in
      let n = f.inside in
      let i = j.inside in
      let m = j.many in
      record {
        older = block_of part ∷ j.older;
        are = more;
        blocks = (f.one.is, j.blocks);
        many = omega (arith, m);
        begun = (law s p j.older (block_of part) links plan j.blocks f.one.is j.begun).0 (subst (λ t. IsUnbroken s t (block_of part)) (sym j.are) free);
        inside = let l : length (drop first es) ≡ length es - first = length-drop first es in omega (arith, l, n, i);
        rest = subst AreOnward (drop-drop count first es) f.rest;
      }

  pub judged_bad : (p : Entries) → UnbrokenIsBegun → LinksStates s → IsPlanOf s p → (rule : ℕ) → BreaksLeast s (take first es) rule (block_of part) → IsFirstIllegal s es block rule
  judged_bad p law links plan rule least =
      let later = f.rest.blocks in
      let all : (events j.older ++ events_of (block_of part)) ++ onward later ≡ es =
      append_assoc (events j.older) (events_of (block_of part)) (onward later)
      ∙ ap (λ t. t ++ (events_of (block_of part) ++ onward later)) j.are
      ∙ ap (λ t. take first es ++ (t ++ onward later)) f.one.are
      ∙ ap (λ t. take first es ++ (part ++ t)) f.rest.are
      ∙ ap (λ t. take first es ++ t) (take_drop count (drop first es))
      ∙ take_drop first es in
      let here = subst (λ t. BreaksLeast s t rule (block_of part)) (sym j.are) least in
      record {
        older = j.older;
        block = block_of part;
        later = later;
        are = all;
        blocks = (f.one.is, j.blocks);
        others = f.rest.each;
        many = j.many;
        begun = j.begun;
        illegal = λ b. (law s p j.older (block_of part) links plan j.blocks f.one.is j.begun).1 b rule here.breaks;
        least = here;
      }

blocks_few : (h : List Block) → AreBlocks h → length h ≤ length (events h)
blocks_few [] k = omega arith
blocks_few (b ∷ h) k =
    let l = blocks_few h k.1 in
    let m = some_events b k.0 in
    let n : length (events h ++ events_of b) ≡ length (events h) + length (events_of b) = length-append (events h) (events_of b) in
    omega (arith, l, m, n)

-- there are few enough blocks to count
pub judged_few : (s : Scenario) (es : List Event) (first block : ℕ) → PrefixIsByRule → RuleFits → length s.actions < 2 ^ 31 → IsJudged s es first block → block + 1 < 2 ^ 32
judged_few s es first block by_rule fits small j =
    let r = fits s j.begun.lanes (events j.older) (by_rule s j.begun.lanes (events j.older) j.begun.prefix) in
    let l = blocks_few j.older j.blocks in
    let m = j.many in
    let n : length s.actions < 2147483648 = small in
    let k : block + 1 < 4294967296 = omega (arith, r, l, m, n) in
    k

-- where all events are judged, the trace begins a whole legal one
pub judged_all : (s : Scenario) (es : List Event) (first block : ℕ) → length es ≤ first → IsJudged s es first block → IsBegun s es
judged_all s es first block l j = subst (λ t. IsBegun s t) (j.are ∙ take_past first es l) j.begun

pub begun_legal : (s : Scenario) (es : List Event) → PrefixesAreLegal → IsBegun s es → IsLegal s es
begun_legal s es prefixes b = record { lanes = b.lanes; legal = prefixes s b.lanes es b.prefix }

-- THE SAME OF LISTS THAT ARE KNOWN BY EQUATIONS

module _ (s : Scenario) (es : List Event) (first block count : ℕ) (rest past part : List Event) (rest_is : rest ≡ drop first es) (past_is : past ≡ take first es) (part_is : part ≡ take count rest)
    (j : IsJudged s es first block) (f : IsFirstBlock rest count) where
  part_at : part ≡ take count (drop first es)
  part_at = part_is ∙ ap (λ t. take count t) rest_is

  here : IsFirstBlock (drop first es) count
  here = subst (λ t. IsFirstBlock t count) rest_is f

  pub next_at : (p : Entries) → UnbrokenIsBegun → LinksStates s → IsPlanOf s p → IsUnbroken s past (block_of part) → IsJudged s es (first + count) (block + 1)
  next_at p law links plan free =
      judged_next s es first block count j here p law links plan
      (subst (λ t. IsUnbroken s (take first es) (block_of t)) part_at (subst (λ t. IsUnbroken s t (block_of part)) past_is free))

  pub bad_at : (p : Entries) → UnbrokenIsBegun → LinksStates s → IsPlanOf s p → (rule : ℕ) → BreaksLeast s past rule (block_of part) → IsFirstIllegal s es block rule
  bad_at p law links plan rule least =
      judged_bad s es first block count j here p law links plan rule
      (subst (λ t. BreaksLeast s (take first es) rule (block_of t)) part_at (subst (λ t. BreaksLeast s t rule (block_of part)) past_is least))

  pub marks_at : (started ended : List Bool) → AreMarks (take first es ++ part) started ended → AreMarks (take (first + count) es) started ended
  marks_at started ended m =
      subst (λ t. AreMarks t started ended) (ap (λ t. take first es ++ t) part_at ∙ sym (take_on first count (first + count) es refl)) m

pub part_some : (count : ℕ) (rest part : List Event) → part ≡ take count rest → IsFirstBlock rest count → 0 < length part
part_some count rest part is f =
    let l = f.some in
    let m = f.inside in
    subst (λ t. 0 < length t) (sym is) (go count rest l m)
  where
    go : (n : ℕ) (xs : List Event) → 0 < n → n ≤ length xs → 0 < length (take n xs)
    go zero xs l m = absurd (omega (arith, l))
    go (suc n) [] l m = absurd (omega (arith, m))
    go (suc n) (x ∷ xs) l m = omega arith

pub completed_is : (s : Scenario) (p : Entries) (es all : List Event) (v : Verdict) → PrefixesAreLegal → IsPlanOf s p → all ≡ es → IsBegun s es → IsCompleted (length p.groups) all v → IsVerdict s es v
completed_is s p es all verdict.Whole prefixes plan same begun c = (
  begun_legal s es prefixes begun,
  λ a l. let m = plan.entries.many in subst (λ t. Ended t a) same (c a (omega (arith, l, m))),
)
completed_is s p es all verdict.Prefix prefixes plan same begun c = (
  begun,
  λ w. c (λ a l. let m = plan.entries.many in subst (λ t. Ended t a) (sym same) (w a (omega (arith, l, m)))),
)
completed_is s p es all (verdict.Illegal block rule) prefixes plan same begun c = absurd c
