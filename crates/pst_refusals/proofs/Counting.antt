-- Nodes that are counted by their parents give their places.
use Rattle.std.proofs.Common.{◌≡◌, ◌≢◌, ℕ, zero, suc, ◌+◌, ◌^◌, ◌<◌, ◌≤◌, List, [], ◌∷◌, map, Bool, true, false, cond, nat_eq, if◌then◌else◌, Option, Some, None, length, get_or, take, replicate, refl, sym, ap, ◌∙◌, subst, ⊎_elim, arith}
use Rattle.std.specs.Prelude.{slice_get}
use Rattle.std.specs.List.{enumerate_from, filter}
use Rattle.std.specs.Option.{option_map, option_and_then}
use Rattle.std.proofs.lemmas.Option.{none-some, same_Some, option_and_then_some, slice_get-get_or, slice_get_within}
use Rattle.std.proofs.lemmas.Bool.{false≢true, eqb-true, eq-eqb, ne_eqb, cases_eq}
use Rattle.std.proofs.lemmas.List.{get_or-replicate, length-replicate}
use Rattle.std.proofs.lemmas.List.Sums.{sum_by-cons}
use Rattle.pst_scen.specs.declared.tree.Node.{Node}
use Rattle.pst_scen.specs.Tree.{is_parent, branch_of}
use Rattle.pst_slots.specs.Stated.{position_of, parent_of, place_in}
use Rattle.pst_slots.proofs.Children.{kids}
use Rattle.pst_refusals.specs.Answers.{StandEarlier}
use Rattle.pst_refusals.specs.Places.{ArePlaces, between}
use Rattle.pst_refusals.specs.Counted.{AreCounted, IsPlace}

-- ---- how many stand in a parent

turned : (k : ℕ) → k + 0 ≡ 0 + k
turned k = omega arith

none_more : (k : ℕ) → k + 0 ≡ k
none_more k = omega arith

none_before : (k : ℕ) → k ≡ 0 + k
none_before k = omega arith

one_before : (k : ℕ) → suc k ≡ 1 + k
one_before k = omega arith

one_on : (n : ℕ) → n + 1 ≡ suc n
one_on n = omega arith

joined : (x y c r s d : ℕ) → x ≡ c + r → y ≡ c + s → r ≡ s + d → x ≡ y + d
joined x y c r s d a b rest = omega (arith, a, b, rest)

by_first : (x : Node) (xs : List Node) (parent i : ℕ) → branch_of (x ∷ xs) parent (suc i) ≡ cond (is_parent parent x.parent) 1 0 + branch_of xs parent i
by_first x xs parent i = sum_by-cons (λ (node : Node). cond (is_parent parent node.parent) 1 0) x (take i xs)

pub with_next : (nodes : List Node) (parent n : ℕ) (of : Option ℕ) → n < length nodes → parent_of nodes n ≡ of → branch_of nodes parent (suc n) ≡ branch_of nodes parent n + cond (is_parent parent of) 1 0
with_next [] parent n of l e = absurd (omega (arith, l))
with_next (x ∷ xs) parent zero of l e = by_first x xs parent zero ∙ ap (λ (o : Option ℕ). cond (is_parent parent o) 1 0 + 0) e ∙ turned (cond (is_parent parent of) 1 0)
with_next (x ∷ xs) parent (suc n) of l e =
    joined (branch_of (x ∷ xs) parent (suc (suc n))) (branch_of (x ∷ xs) parent (suc n)) (cond (is_parent parent x.parent) 1 0) (branch_of xs parent (suc n)) (branch_of xs parent n) (cond (is_parent parent of) 1 0)
    (by_first x xs parent (suc n)) (by_first x xs parent n) (with_next xs parent n of (omega (arith, l)) e)

next : (nodes : List Node) (parent n : ℕ) (of : Option ℕ) (b : Bool) → n < length nodes → parent_of nodes n ≡ of → is_parent parent of ≡ b → branch_of nodes parent (n + 1) ≡ branch_of nodes parent n + cond b 1 0
next nodes parent n of b l e test = ap (branch_of nodes parent) (one_on n) ∙ with_next nodes parent n of l e ∙ ap (λ (c : Bool). branch_of nodes parent n + cond c 1 0) test

low : (n : ℕ) → 0 ≤ n
low n = omega arith

at_most : (b : Bool) (k n : ℕ) → k ≤ n → cond b 1 0 + k ≤ suc n
at_most true k n l = omega (arith, l)
at_most false k n l = omega (arith, l)

few : (nodes : List Node) (parent n : ℕ) → branch_of nodes parent n ≤ n
few nodes parent zero = low 0
few [] parent (suc n) = low (suc n)
few (x ∷ xs) parent (suc n) = subst (λ (k : ℕ). k ≤ suc n) (sym (by_first x xs parent n)) (at_most (is_parent parent x.parent) (branch_of xs parent n) n (few xs parent n))

one_left : (k n : ℕ) → k ≤ n → n + 1 < 2 ^ 64 → k + 1 < 2 ^ 64
one_left k n l room = omega (arith, l, room)

-- ---- the place of a node is how many stand in its parent before it

first_place : (n k : ℕ) (xs : List ℕ) (b : Bool) → nat_eq k n ≡ b → k ≡ n → (if b then Some 0 else option_map suc (position_of n xs)) ≡ Some 0
first_place n k xs true e same = refl
first_place n k xs false e same = absurd (false≢true (sym e ∙ eq-eqb k n same))

later_place : (n k i : ℕ) (xs : List ℕ) (b : Bool) → nat_eq k n ≡ b → (k ≡ n → ⊥) → position_of n xs ≡ Some i → (if b then Some 0 else option_map suc (position_of n xs)) ≡ Some (suc i)
later_place n k i xs true e other at = absurd (other (eqb-true k n e))
later_place n k i xs false e other at = ap (option_map suc) at

abbrev kids_by : Bool → ℕ → Node → List Node → ℕ → List ℕ
kids_by b k x xs parent = map (λ e. e.0) (cond b ((k, x) ∷ filter (λ e. is_parent parent e.1.parent) (enumerate_from (k + 1) xs)) (filter (λ e. is_parent parent e.1.parent) (enumerate_from (k + 1) xs)))

by_test : (n k i parent : ℕ) (x : Node) (xs : List Node) (b : Bool) → (k ≡ n → ⊥) → position_of n (kids (k + 1) xs parent) ≡ Some i → position_of n (kids_by b k x xs parent) ≡ Some (cond b 1 0 + i)
by_test n k i parent x xs true other at = later_place n k i (kids (k + 1) xs parent) (nat_eq k n) refl other at ∙ ap Some (one_before i)
by_test n k i parent x xs false other at = at ∙ ap Some (none_before i)

counted_place : (k : ℕ) (nodes : List Node) (parent i n : ℕ) → n ≡ k + i → parent_of nodes i ≡ Some parent → position_of n (kids k nodes parent) ≡ Some (branch_of nodes parent i)
counted_place k [] parent i n e is = absurd (none-some parent is)
counted_place k (x ∷ xs) parent zero n e is =
    let test : is_parent parent x.parent ≡ true = ap (is_parent parent) is ∙ eq-eqb parent parent refl in
    ap (λ (b : Bool). position_of n (kids_by b k x xs parent)) test ∙ first_place n k (kids (k + 1) xs parent) (nat_eq k n) refl (omega (arith, e))
counted_place k (x ∷ xs) parent (suc i) n e is =
    by_test n k (branch_of xs parent i) parent x xs (is_parent parent x.parent) (λ same. omega (arith, e, same)) (counted_place (k + 1) xs parent i n (omega (arith, e)) is) ∙ ap Some (sym (by_first x xs parent i))

pub place_is : (nodes : List Node) (n parent : ℕ) → parent_of nodes n ≡ Some parent → place_in nodes parent n ≡ Some (branch_of nodes parent n)
place_is nodes n parent is = counted_place 0 nodes parent n n (none_before n) is

-- ---- the nodes between a parent and another one

pub rising : (nodes : List Node) (parent a b : ℕ) → a ≤ b → branch_of nodes parent a ≤ branch_of nodes parent b
rising nodes parent zero b l = low (branch_of nodes parent b)
rising [] parent (suc a) b l = low (branch_of [] parent b)
rising (x ∷ xs) parent (suc a) zero l = absurd (omega (arith, l))
rising (x ∷ xs) parent (suc a) (suc b) l = omega (arith, by_first x xs parent a, by_first x xs parent b, rising xs parent a b (omega (arith, l)))

none_before_it : (nodes : List Node) (parent k : ℕ) → k ≤ length nodes → ((j : ℕ) → j < k → is_parent parent (parent_of nodes j) ≡ false) → branch_of nodes parent k ≡ 0
none_before_it nodes parent zero l none = refl
none_before_it nodes parent (suc k) l none =
    with_next nodes parent k (parent_of nodes k) (omega (arith, l)) refl
    ∙ ap (λ (b : Bool). branch_of nodes parent k + cond b 1 0) (none k (omega arith))
    ∙ none_more (branch_of nodes parent k)
    ∙ none_before_it nodes parent k (omega (arith, l)) (λ j below. none j (omega (arith, below)))

not_its_own : (nodes : List Node) → StandEarlier nodes → (parent j : ℕ) → j < parent + 1 → is_parent parent (parent_of nodes j) ≡ false
not_its_own nodes earlier parent j l = by (parent_of nodes j) refl
  where
    by : (o : Option ℕ) → parent_of nodes j ≡ o → is_parent parent o ≡ false
    by None e = refl
    by (Some p) e = ne_eqb parent p (λ same.
        option_and_then_some (λ (node : Node). node.parent) (slice_get nodes j) p e (λ node at on. let less = earlier j p node at on in omega (arith, same, less, l)))

-- where each parent stands before its nodes, these are all that stand in it before the node
pub behind_place : (nodes : List Node) (n parent : ℕ) → StandEarlier nodes → parent_of nodes n ≡ Some parent → parent < length nodes → Some (between nodes parent n) ≡ place_in nodes parent n
behind_place nodes n parent earlier is inside =
    let none : branch_of nodes parent (parent + 1) ≡ 0 = none_before_it nodes parent (parent + 1) (omega (arith, inside)) (λ j l. not_its_own nodes earlier parent j l) in
    let all : between nodes parent n ≡ branch_of nodes parent n = omega (arith, none) in
    ap Some all ∙ sym (place_is nodes n parent is)

-- one node more
pub one_between : (nodes : List Node) (parent first k count : ℕ) (node : Node) (b : Bool) → slice_get nodes k ≡ Some node → b ≡ is_parent parent node.parent
    → branch_of nodes parent k ≡ branch_of nodes parent first + count → branch_of nodes parent (k + 1) ≡ branch_of nodes parent first + (count + cond b 1 0)
one_between nodes parent first k count node b at test so_far =
    let more = next nodes parent k node.parent b (slice_get_within nodes k node at) (ap (option_and_then (λ (x : Node). x.parent)) at) (sym test) in
    omega (arith, so_far, more)

-- ---- tables

module _ (nodes : List Node) where
  pub none_counted : (counts : List ℕ) (n : ℕ) → counts ≡ replicate n 0 → n ≡ length nodes → AreCounted nodes 0 counts
  none_counted counts n is e = record {
    many = ap length is ∙ length-replicate n 0 ∙ e;
    each = λ parent l. ap (λ (xs : List ℕ). get_or xs parent 0) is ∙ get_or-replicate n parent 0 0 (omega (arith, l, e));
  }

  -- a node whose parent is none of the nodes
  pub uncounted : (counts : List ℕ) (n : ℕ) (of : Option ℕ) → n < length nodes → parent_of nodes n ≡ of → ((parent : ℕ) → parent < length nodes → is_parent parent of ≡ false) → AreCounted nodes n counts → AreCounted nodes (n + 1) counts
  uncounted counts n of l is none so_far = record {
    many = so_far.many;
    each = λ parent here. so_far.each parent here ∙ sym (next nodes parent n of false l is (none parent here) ∙ none_more (branch_of nodes parent n));
  }

  pub counted : (old new : List ℕ) (n parent : ℕ) → n < length nodes → parent_of nodes n ≡ Some parent → AreCounted nodes n old
      → length new ≡ length old → get_or new parent 0 ≡ get_or old parent 0 + 1 → ((other : ℕ) → other ≢ parent → get_or new other 0 ≡ get_or old other 0) → AreCounted nodes (n + 1) new
  counted old new n parent l is so_far many here others =
      let raised : parent < length nodes → get_or new parent 0 ≡ branch_of nodes parent (n + 1) =
      λ inside. here ∙ ap (λ (k : ℕ). k + 1) (so_far.each parent inside) ∙ sym (next nodes parent n (Some parent) true l is (eq-eqb parent parent refl)) in
      record {
        many = many ∙ so_far.many;
        each = λ p inside. ⊎_elim
            (λ same. subst (λ (q : ℕ). get_or new q 0 ≡ branch_of nodes q (n + 1)) (sym same) (raised (subst (λ (q : ℕ). q < length nodes) same inside)))
            (λ other. others p other ∙ so_far.each p inside ∙ sym (next nodes p n (Some parent) false l is (ne_eqb p parent other) ∙ none_more (branch_of nodes p n)))
            (cases_eq p parent);
      }

  pub room_left : (counts : List ℕ) (n parent : ℕ) → parent < length nodes → AreCounted nodes n counts → n + 1 < 2 ^ 64 → get_or counts parent 0 + 1 < 2 ^ 64
  room_left counts n parent inside so_far room = subst (λ (k : ℕ). k + 1 < 2 ^ 64) (sym (so_far.each parent inside)) (one_left (branch_of nodes parent n) n (few nodes parent n) room)

  -- what is counted so far is the place
  pub place_read : (counts : List ℕ) (n parent : ℕ) → parent_of nodes n ≡ Some parent → AreCounted nodes n counts → IsPlace nodes n (get_or counts parent 0)
  place_read counts n parent is so_far = λ p is_p inside.
      let same : p ≡ parent = same_Some p parent (sym is_p ∙ is) in
      place_is nodes n p is_p ∙ ap Some (sym (so_far.each p inside)) ∙ ap (λ (q : ℕ). Some (get_or counts q 0)) same

  pub with_place : (old new : List ℕ) (n place : ℕ) → IsPlace nodes n place → get_or new n 0 ≡ place → ((other : ℕ) → other ≢ n → get_or new other 0 ≡ get_or old other 0)
      → ((k : ℕ) → k < n → IsPlace nodes k (get_or old k 0)) → (k : ℕ) → k < n + 1 → IsPlace nodes k (get_or new k 0)
  with_place old new n place is here others before k l = ⊎_elim
      (λ same. subst (λ (j : ℕ). IsPlace nodes j (get_or new j 0)) (sym same) (subst (IsPlace nodes n) (sym here) is))
      (λ other. subst (IsPlace nodes k) (sym (others k other)) (before k (omega (arith, l, other))))
      (cases_eq k n)

  pub within : (n parent : ℕ) → parent_of nodes n ≡ Some parent → n < length nodes
  within n parent is = option_and_then_some (λ (node : Node). node.parent) (slice_get nodes n) parent is (λ node at on. slice_get_within nodes n node at)

  pub all_placed : (places : List ℕ) → length places ≡ length nodes → ((k : ℕ) → k < length nodes → IsPlace nodes k (get_or places k 0)) → ArePlaces nodes places
  all_placed places many each = λ n parent is inside.
      let l : n < length nodes = within n parent is in
      slice_get-get_or places n 0 (omega (arith, many, l)) ∙ sym (each n l parent is inside)
