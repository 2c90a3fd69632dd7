-- Following block after block.
use Rattle.std.proofs.Common.{◌≡◌, ◌≤◌, ◌<◌, ◌+◌, ◌-◌, ℕ, List, [], ◌∷◌, ◌++◌, length, take, drop, refl, sym, ap, ◌∙◌, subst, arith, length-drop, drop-drop, length-take-le}
use Rattle.pst_scen.specs.declared.scenario.Scenario.{Scenario}
use Rattle.pst_scen.specs.declared.event.Event.{Event}
use Rattle.pst_scen.specs.Trace.{events_of}
use Rattle.pst_scen.specs.Judging.{AreWholeBlocks}
use Rattle.pst_order.specs.Rule.{FollowsRule}
use Rattle.pst_by_rule.specs.Blocks.{block_of, AreOnward, IsOneBlock, IsFirstBlock}
use Rattle.pst_by_rule.specs.Followed.{AreFollowed}
use Rattle.pst_by_rule.proofs.Onward.{take_on, whole_onward}

pub followed_none : (s : Scenario) (es : List Event) → AreWholeBlocks es → AreFollowed s es 0 0
followed_none s es whole = record { older = []; are = refl; many = refl; rule = tt; inside = omega arith; rest = whole_onward es whole }

module _ (es : List Event) (first count : ℕ) (rest part : List Event) (rest_is : rest ≡ drop first es) (part_is : part ≡ take count rest) (f : IsFirstBlock rest count) where
  pub part_at : part ≡ take count (drop first es)
  part_at = part_is ∙ ap (λ t. take count t) rest_is

  -- the first block of the others
  pub one_block_at : IsOneBlock part
  one_block_at = subst IsOneBlock (sym part_is) f.one

  pub rest_at : AreOnward (drop (first + count) es)
  rest_at = subst AreOnward (drop-drop count first es) (subst (λ t. AreOnward (drop count t)) rest_is f.rest)

  pub trace_at : take first es ++ part ≡ take (first + count) es
  trace_at = ap (λ t. take first es ++ t) part_at ∙ sym (take_on first count (first + count) es refl)

  pub inside_at : first ≤ length es → first + count ≤ length es
  inside_at l =
      let n : length (drop first es) ≡ length es - first = length-drop first es in
      let m : length rest ≡ length (drop first es) = ap length rest_is in
      let k = f.inside in
      omega (arith, l, n, m, k)

  pub some_at : 0 < length part
  some_at =
      let k = f.inside in
      let l = f.some in
      let n : length part ≡ length (take count rest) = ap length part_is in
      let m : length (take count rest) ≡ count = length-take-le count rest k in
      omega (arith, l, n, m)

  pub followed_more : (s : Scenario) (number : ℕ) → AreFollowed s es first number → FollowsRule s 16 (take first es) (block_of part) → AreFollowed s es (first + count) (number + 1)
  followed_more s number a follows =
      let many = a.many in
      record {
        older = block_of part ∷ a.older;
        are = ap (λ t. t ++ events_of (block_of part)) a.are ∙ ap (λ t. take first es ++ t) one_block_at.are ∙ trace_at;
        many = omega (arith, many);
        rule = (a.rule, subst (λ t. FollowsRule s 16 t (block_of part)) (sym a.are) follows);
        inside = inside_at a.inside;
        rest = rest_at;
      }
