-- Which actions are released, as a list that computes; and what earlier statements mean in a legal trace.
use Rattle.std.proofs.Common.{◌≡◌, ℕ, zero, suc, ◌<◌, ◌≤◌, List, [], ◌∷◌, ◌++◌, ◌⊎◌, inl, inr, Option, Some, None, Bool, true, false, nat_eq, if◌then◌else◌, slice_get, length, refl, sym, subst, ap, arith, Contains, flat_map, bit_and, ◌^◌, IsBitSet, lit<, le_of_suc-le-suc, not-suc-le-zero}
use Rattle.pst_scen.specs.declared.tree.Node.{Node}
use Rattle.pst_scen.specs.declared.tree.Fill.{Fill}
use Rattle.pst_scen.specs.declared.tree.Fill.TheVariants.{Joined}
use Rattle.pst_scen.specs.declared.scenario.Scenario.{Scenario}
use Rattle.pst_scen.specs.declared.event.Event.{Event}
use Rattle.pst_scen.specs.declared.event.Event.TheVariants.{Start, End}
use Rattle.pst_scen.specs.Tree.{IsReleased, branch_of}
use Rattle.pst_scen.specs.Order.{Before}
use Rattle.pst_scen.specs.Trace.{Ended, Block, Starts, Ends, starts_of, events, AreLegal, IsLegalTrace}
use Rattle.pst_scen.specs.Laws.{IsPreorder}
use Rattle.pst_trials.proofs.Cases.{EachOf, each_among, Among, among_flat, numbered, among_numbered, some_same, none_some, false_true}
use Rattle.pst_trials.proofs.Branches.{acts_inside, contained_is_inside}
use Rattle.pst_trials.proofs.Legality.{differ}

-- ---- released actions

-- bit k isn't set
abbrev pub is_clear : ℕ → ℕ → Bool
is_clear joined k = nat_eq (bit_and joined (2 ^ k)) 0

abbrev pub released_in : List Node → ℕ → ℕ → Fill → List ℕ
released_in nodes block branch (Joined parallel joined) = if is_clear joined (branch_of nodes block branch) then acts_inside nodes branch else []
released_in nodes block branch _ = []

abbrev pub released_at : List Node → ℕ → ℕ → Option Node → List ℕ
released_at nodes block branch None = []
released_at nodes block branch (Some node) = released_in nodes block branch node.fill

abbrev pub released_under : List Node → ℕ → Option ℕ → List ℕ
released_under nodes branch None = []
released_under nodes branch (Some block) = released_at nodes block branch (slice_get nodes block)

-- the actions in branches that a block doesn't wait for
abbrev pub all_released : List Node → List ℕ
all_released nodes = flat_map (λ e. released_under nodes e.0 e.1.parent) (numbered nodes)

clear_of : (joined k : ℕ) → (IsBitSet joined k → ⊥) → (b : Bool) → nat_eq (bit_and joined (2 ^ k)) 0 ≡ b → b ≡ true
clear_of joined k free true is = refl
clear_of joined k free false is = absurd (free (differ (bit_and joined (2 ^ k)) 0 is))

among_if : (b : Bool) (x : ℕ) (xs : List ℕ) → b ≡ true → Among x xs → Among x (if b then xs else [])
among_if true x xs is among = among
among_if false x xs is among = absurd (false_true is)

pub released_among : (nodes : List Node) → IsPreorder nodes → (sequence act : ℕ) → IsReleased nodes sequence act → Among act (all_released nodes)
released_among nodes preorder sequence act r =
    let inside : Among act (acts_inside nodes r.branch) = contained_is_inside nodes preorder r.branch act r.inside in
    let clear : is_clear r.joined (branch_of nodes r.block r.branch) ≡ true =
    clear_of r.joined (branch_of nodes r.block r.branch) r.free (is_clear r.joined (branch_of nodes r.block r.branch)) refl in
    let in_fill : Among act (released_in nodes r.block r.branch (Joined r.parallel r.joined)) = among_if (is_clear r.joined (branch_of nodes r.block r.branch)) act (acts_inside nodes r.branch) clear inside in
    let in_node : Among act (released_in nodes r.block r.branch r.node.fill) = subst (λ fill. Among act (released_in nodes r.block r.branch fill)) (sym r.join) in_fill in
    let at_node : Among act (released_at nodes r.block r.branch (slice_get nodes r.block)) = subst (λ o. Among act (released_at nodes r.block r.branch o)) (sym r.is) in_node in
    among_flat (λ e. released_under nodes e.0 e.1.parent) (numbered nodes) (r.branch, r.child.node) act (among_numbered nodes r.branch r.child.node r.child.is)
    (subst (λ p. Among act (released_under nodes r.branch p)) (sym r.child.in_parent) at_node)

-- no other action is released
pub not_released : (nodes : List Node) → IsPreorder nodes → (act : ℕ) → EachOf (λ x. nat_eq x act ≡ false) (all_released nodes) → (sequence : ℕ) → IsReleased nodes sequence act → ⊥
not_released nodes preorder act others sequence released =
    differ act act (each_among (λ x. nat_eq x act ≡ false) (all_released nodes) others act (released_among nodes preorder sequence act released)) refl

-- ---- legal traces

-- the events before that number have the end of the action
abbrev EndsBefore : List Event → ℕ → ℕ → Type 0
EndsBefore trace k a = (j : ℕ) × (j < k) × (slice_get trace j ≡ Some (End a))

get_below : {A : Type 0} (xs : List A) (k : ℕ) (x : A) → slice_get xs k ≡ Some x → k < length xs
get_below [] k x is = absurd (none_some x is)
get_below (y ∷ xs) zero x is = omega arith
get_below (y ∷ xs) (suc k) x is = let below : k < length xs = get_below xs k x is in omega arith

get_left : {A : Type 0} (xs ys : List A) (k : ℕ) (x : A) → slice_get xs k ≡ Some x → slice_get (xs ++ ys) k ≡ Some x
get_left [] ys k x is = absurd (none_some x is)
get_left (y ∷ xs) ys zero x is = is
get_left (y ∷ xs) ys (suc k) x is = get_left xs ys k x is

get_either : {A : Type 0} (xs ys : List A) (k : ℕ) (x : A) → slice_get (xs ++ ys) k ≡ Some x → (slice_get xs k ≡ Some x) ⊎ ((i : ℕ) × (length xs ≤ k) × (slice_get ys i ≡ Some x))
get_either [] ys k x is = inr (k, omega arith, is)
get_either (y ∷ xs) ys zero x is = inl is
get_either (y ∷ xs) ys (suc k) x is = either (get_either xs ys k x is)
  where
    either : (slice_get xs k ≡ Some x) ⊎ ((i : ℕ) × (length xs ≤ k) × (slice_get ys i ≡ Some x)) → (slice_get xs k ≡ Some x) ⊎ ((i : ℕ) × (length (y ∷ xs) ≤ suc k) × (slice_get ys i ≡ Some x))
    either (inl left) = inl left
    either (inr right) = inr (right.0, (let below : length xs ≤ k = right.1 in omega arith), right.2)

contained_get : {A : Type 0} (xs : List A) (x : A) → Contains xs x → (j : ℕ) × (slice_get xs j ≡ Some x)
contained_get [] x contained = absurd (not-suc-le-zero contained.1)
contained_get (y ∷ xs) x (zero, below, is) = (0, ap Some is)
contained_get (y ∷ xs) x (suc k, below, is) = let tail = contained_get xs x (k, le_of_suc-le-suc below, is) in (suc tail.0, tail.1)

start_same : (a l b k : ℕ) (m n : Bool) → Start a l m ≡ Start b k n → a ≡ b
start_same a l b k m n is = cc is

started_is_member : (members used : List ℕ) (i b l : ℕ) (m : Bool) → slice_get (starts_of members used) i ≡ Some (Start b l m) → Contains members b
started_is_member [] used i b l m is = absurd (none_some (Start b l m) is)
started_is_member (a ∷ members) [] i b l m is = absurd (none_some (Start b l m) is)
started_is_member (a ∷ []) (k ∷ used) zero b l m is = (0, lit< tt, start_same a k b l false m (some_same (Start a k false) (Start b l m) is))
started_is_member (a ∷ []) (k ∷ used) (suc i) b l m is = absurd (none_some (Start b l m) is)
started_is_member (a ∷ c ∷ members) (k ∷ used) zero b l m is = (0, (let z : 0 < suc (suc (length members)) = omega arith in z), start_same a k b l true m (some_same (Start a k true) (Start b l m) is))
started_is_member (a ∷ c ∷ members) (k ∷ used) (suc i) b l m is =
    let tail : Contains (c ∷ members) b = started_is_member (c ∷ members) used i b l m is in
    (suc tail.0, (let below : tail.0 < length (c ∷ members) = tail.1 in omega arith), tail.2)

end_start : (a b l i : ℕ) (m : Bool) → slice_get (End a ∷ []) i ≡ Some (Start b l m) → ⊥
end_start a b l zero m is = let same : End a ≡ Start b l m = some_same (End a) (Start b l m) is in cc same
end_start a b l (suc i) m is = none_some (Start b l m) is

-- Where an action starts in a legal trace, what stands in an earlier statement has ended before.
pub earlier_ends_first : (s : Scenario) (lanes : ℕ) (blocks : List Block) → AreLegal s lanes blocks → (a b k l : ℕ) (m : Bool) → Before s a b
    → slice_get (events blocks) k ≡ Some (Start b l m) → EndsBefore (events blocks) k a
earlier_ends_first s lanes [] legal a b k l m before is = absurd (none_some (Start b l m) is)
earlier_ends_first s lanes (Ends e ∷ older) legal a b k l m before is = either (earlier_ends_first s lanes older legal.0 a b k l m before) (get_either (events older) (End e ∷ []) k (Start b l m) is)
  where
    either : (slice_get (events older) k ≡ Some (Start b l m) → EndsBefore (events older) k a)
        → (slice_get (events older) k ≡ Some (Start b l m)) ⊎ ((i : ℕ) × (length (events older) ≤ k) × (slice_get (End e ∷ []) i ≡ Some (Start b l m))) → EndsBefore (events older ++ End e ∷ []) k a
    either upper (inl left) = let h = upper left in (h.0, h.1, get_left (events older) (End e ∷ []) h.0 (End a) h.2)
    either upper (inr right) = absurd (end_start e b l right.0 m right.2)
earlier_ends_first s lanes (Starts members used ∷ older) legal a b k l m before is =
    either (earlier_ends_first s lanes older legal.0 a b k l m before) (get_either (events older) (starts_of members used) k (Start b l m) is)
  where
    either : (slice_get (events older) k ≡ Some (Start b l m) → EndsBefore (events older) k a)
        → (slice_get (events older) k ≡ Some (Start b l m)) ⊎ ((i : ℕ) × (length (events older) ≤ k) × (slice_get (starts_of members used) i ≡ Some (Start b l m))) → EndsBefore (events older ++ starts_of members used) k a
    either upper (inl left) = let h = upper left in (h.0, h.1, get_left (events older) (starts_of members used) h.0 (End a) h.2)
    either upper (inr right) =
        let ended : Ended (events older) a = legal.1.sequence a b (started_is_member members used right.0 b l m right.2) before in
        let there = contained_get (events older) (End a) ended in
        let below : there.0 < length (events older) = get_below (events older) there.0 (End a) there.1 in
        let later : length (events older) ≤ k = right.1 in
        (there.0, (let less : there.0 < k = omega arith in less), get_left (events older) (starts_of members used) there.0 (End a) there.1)

-- the same of a trace that is written out
pub earlier_ends : (s : Scenario) (lanes : ℕ) (trace : List Event) → IsLegalTrace s lanes trace → (a b k l : ℕ) (m : Bool) → Before s a b
    → slice_get trace k ≡ Some (Start b l m) → (j : ℕ) × (j < k) × (slice_get trace j ≡ Some (End a))
earlier_ends s lanes trace legal a b k l m before is =
    subst (λ t. (j : ℕ) × (j < k) × (slice_get t j ≡ Some (End a))) legal.are
    (earlier_ends_first s lanes legal.blocks legal.legal a b k l m before (subst (λ t. slice_get t k ≡ Some (Start b l m)) (sym legal.are) is))
