-- More claims than a pool has instances.
use Rattle.std.proofs.Common.{◌≡◌, ◌≢◌, ℕ, ◌<◌, ◌≤◌, List, length, map, get_or, All, true, false, Option, Some, refl, sym, ap, ◌∙◌, subst, arith}
use Rattle.std.specs.Prelude.{slice_get}
use Rattle.std.proofs.lemmas.Option.{same_Some, slice_get_within, slice_get-get_or, slice_get-map}
use Rattle.pst_model.specs.ModelTree.{ModelTree}
use Rattle.pst_scen.specs.declared.tree.Node.{Node}
use Rattle.pst_scen.specs.declared.tree.Fill.TheVariants.{Leaf}
use Rattle.pst_scen.specs.declared.scenario.Scenario.{Scenario}
use Rattle.pst_scen.specs.Order.{Together}
use Rattle.pst_scen.specs.Plans.{IsGroupNumber}
use Rattle.pst_claim_rivals.specs.declared.claims.OpenClaim.{OpenClaim}
use Rattle.pst_claim_rivals.specs.Claims.{open_claims}
use Rattle.pst_claim_rivals.specs.Rivals.{ClaimsAreTheirs, ClaimsAreListedOnce}
use Rattle.pst_claim_rivals.proofs.Lists.{by_mapped}
use Rattle.pst_claim_rivals.proofs.Differ.{group_of}
use Rattle.pst_claim_counts.specs.declared.needs.Need.{Need}
use Rattle.pst_claim_counts.specs.Counts.{IsClaimOn, HasSize, AreTooMany}
use Rattle.pst_claim_counts.specs.Needs.{AreNeeded, IsNeed, no_need, AreNeeds, AreOrdered, IsListed, SlotsMeet, IsOwn, AreLeafSlots, AreGroupSlots, IsBelow, AreMore}
use Rattle.pst_claim_counts.proofs.Sets.{all_weaker, weaker_set, empty_need}

-- ---- slots

same_leaf : (a b : ℕ) → Leaf a ≡ Leaf b → a ≡ b
same_leaf a b e = cc

pub leaves_meet : (s : Scenario) (slots : List (Option ℕ)) → AreLeafSlots s.nodes slots → SlotsMeet s slots
leaves_meet s slots leaves a b n one other apart =
    let first = leaves a n one in
    let second = leaves b n other in
    let same : first.node ≡ second.node = same_Some first.node second.node (sym first.is ∙ second.is) in
    absurd (apart (same_leaf a b (sym first.of_act ∙ ap (λ (z : Node). z.fill) same ∙ second.of_act)))

grouped : (groups : List ℕ) (a n : ℕ) → slice_get (map Some groups) a ≡ Some (Some n) → slice_get groups a ≡ Some n
grouped groups a n e = let x = by_mapped Some (slice_get groups a) (Some n) (sym (slice_get-map Some groups a) ∙ e) in x.1 ∙ x.2

pub groups_meet : (s : Scenario) (groups : List ℕ) (slots : List (Option ℕ)) → length groups ≡ length s.actions → ((a : ℕ) → a < length s.actions → IsGroupNumber s a (get_or groups a 0)) → AreGroupSlots groups slots → SlotsMeet s slots
groups_meet s groups slots many numbers are a b n one other apart =
    let first = grouped groups a n (subst (λ xs. slice_get xs a ≡ Some (Some n)) are one) in
    let second = grouped groups b n (subst (λ xs. slice_get xs b ≡ Some (Some n)) are other) in
    let a_in = slice_get_within groups a n first in
    let b_in = slice_get_within groups b n second in
    let a_is : get_or groups a 0 ≡ n = same_Some (get_or groups a 0) n (sym (slice_get-get_or groups a 0 a_in) ∙ first) in
    let b_is : get_or groups b 0 ≡ n = same_Some (get_or groups b 0) n (sym (slice_get-get_or groups b 0 b_in) ∙ second) in
    group_of (subst (Together s a) a_is (numbers a (omega (arith, a_in, many))).member) (subst (Together s b) b_is (numbers b (omega (arith, b_in, many))).member)

-- ---- nothing is needed at first

pub none_needed : (s : Scenario) (P : ℕ → OpenClaim → Type 0) (needs : List Need) → ((n : ℕ) → n < length needs → get_or needs n no_need ≡ no_need) → AreNeeds s P needs
none_needed s P needs none n l = subst (IsNeed s (P n)) (sym (none n l)) (empty_need s (P n))

-- ---- more than there are

pub own_exceeds : (s : Scenario) (slots : List (Option ℕ)) (claims : List OpenClaim) (pool size n : ℕ) (needs : List Need) → AreNeeds s (IsOwn slots claims pool (length claims)) needs → n < length needs → size < (get_or needs n no_need).all
    → AreMore s claims pool size
own_exceeds s slots claims pool size n needs all l more = record {
  count = (get_or needs n no_need).all;
  needed = weaker_set s (IsOwn slots claims pool (length claims) n) (IsListed claims pool (length claims)) false (get_or needs n no_need).all (λ x own. own.listed) (all n l).all;
  more = more;
}

pub below_exceeds : (s : Scenario) (nodes : List Node) (claims : List OpenClaim) (pool size n : ℕ) (needs : List Need) → AreNeeds s (IsBelow nodes claims pool 0) needs → n < length needs → size < (get_or needs n no_need).all → AreMore s claims pool size
below_exceeds s nodes claims pool size n needs all l more = record {
  count = (get_or needs n no_need).all;
  needed = weaker_set s (IsBelow nodes claims pool 0 n) (IsListed claims pool (length claims)) false (get_or needs n no_need).all (λ x below. below.listed) (all n l).all;
  more = more;
}

pub are_ordered : ClaimsAreListedOnce → (m : ModelTree) (s : Scenario) (claims : List OpenClaim) → claims ≡ open_claims m s.actions → AreOrdered claims
are_ordered once m s claims e = subst AreOrdered (sym e) (once m s.actions)

pub too_many : ClaimsAreTheirs → (m : ModelTree) (s : Scenario) (claims : List OpenClaim) (pool size : ℕ) → claims ≡ open_claims m s.actions → HasSize m pool size → AreMore s claims pool size → AreTooMany m s
too_many theirs m s claims pool size e has more = record {
  pool = pool;
  kept = has.kept;
  is = has.is;
  claims = more.needed.claims;
  on_pool = all_weaker (IsListed claims pool (length claims)) (IsClaimOn m s pool) more.needed.claims
      (λ x listed. record { claimed = theirs m s.actions listed.place x (ap (λ cs. slice_get cs listed.place) (sym e) ∙ listed.is); on = listed.on }) more.needed.each;
  rivals = more.needed.rivals;
  many = let a = has.many in let b = more.more in let c = more.needed.many in omega (arith, a, b, c);
}
