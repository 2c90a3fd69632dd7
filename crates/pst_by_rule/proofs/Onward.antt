-- The first block of events that are blocks.
use Rattle.std.proofs.Common.{◌≡◌, ◌≤◌, ◌<◌, ◌+◌, ℕ, zero, suc, List, [], ◌∷◌, ◌++◌, length, map, take, drop, get_or, Bool, refl, sym, ap, ap₂, ◌∙◌, subst, arith, append_assoc, zero-add}
use Rattle.std.specs.Prelude.{Contains}
use Rattle.pst_scen.specs.declared.event.Event.{Event}
use Rattle.pst_scen.specs.declared.event.Event.TheVariants.{Start, End}
use Rattle.pst_scen.specs.Trace.{Block, Starts, Ends, starts_of, events_of, events}
use Rattle.pst_scen.specs.Judging.{IsBlock, AreWholeBlocks}
use Rattle.pst_by_rule.specs.Blocks.{act_of, lane_of, block_of, starts_in, block_length, onward, AreBlocks, IsOneBlock, AreOnward, IsFirstBlock}
use Rattle.pst_book.proofs.Elements.{cons_first, cons_rest}

pub take_all : {X : Type 0} (xs ys : List X) → take (length xs) (xs ++ ys) ≡ xs
take_all [] ys = refl
take_all (x ∷ xs) ys = ap (λ zs. x ∷ zs) (take_all xs ys)

pub drop_all : {X : Type 0} (xs ys : List X) → drop (length xs) (xs ++ ys) ≡ ys
drop_all [] ys = refl
drop_all (x ∷ xs) ys = drop_all xs ys

take_none : (X : Type 0) (m : ℕ) → take {A = X} m [] ≡ []
take_none X zero = refl
take_none X (suc m) = refl

pub take_on : {X : Type 0} (n m k : ℕ) (xs : List X) → k ≡ n + m → take k xs ≡ take n xs ++ take m (drop n xs)
take_on zero m k xs e = ap (λ j. take j xs) (e ∙ zero-add m)
take_on (suc n) m zero xs e = absurd (omega (arith, e))
take_on {X = X} (suc n) m (suc k) [] e = sym (take_none X m)
take_on (suc n) m (suc k) (x ∷ xs) e = ap (λ zs. x ∷ zs) (take_on n m k xs (omega (arith, e)))

-- THE EVENTS OF A BLOCK

acts_are : (ms us : List ℕ) → length us ≡ length ms → map act_of (starts_of ms us) ≡ ms
acts_are [] us e = refl
acts_are (m ∷ ms) [] e = absurd (omega (arith, e))
acts_are (m ∷ []) (u ∷ []) e = refl
acts_are (m ∷ []) (u ∷ v ∷ us) e = absurd (omega (arith, e))
acts_are (m ∷ n ∷ ms) (u ∷ us) e = ap (λ xs. m ∷ xs) (acts_are (n ∷ ms) us (omega (arith, e)))

lanes_are : (ms us : List ℕ) → length us ≡ length ms → map lane_of (starts_of ms us) ≡ us
lanes_are [] [] e = refl
lanes_are [] (u ∷ us) e = absurd (omega (arith, e))
lanes_are (m ∷ ms) [] e = absurd (omega (arith, e))
lanes_are (m ∷ []) (u ∷ []) e = refl
lanes_are (m ∷ []) (u ∷ v ∷ us) e = absurd (omega (arith, e))
lanes_are (m ∷ n ∷ ms) (u ∷ us) e = ap (λ xs. u ∷ xs) (lanes_are (n ∷ ms) us (omega (arith, e)))

block_is : (block : Block) → IsBlock block → block_of (events_of block) ≡ block
block_is (Ends a) k = refl
block_is (Starts [] us) k = let l = k.0 in absurd (omega (arith, l))
block_is (Starts (m ∷ ms) []) k = let l = k.1 in absurd (omega (arith, l))
block_is (Starts (m ∷ []) (u ∷ us)) k = ap₂ (λ xs ys. Starts xs ys) (acts_are (m ∷ []) (u ∷ us) k.1) (lanes_are (m ∷ []) (u ∷ us) k.1)
block_is (Starts (m ∷ n ∷ ms) (u ∷ us)) k = ap₂ (λ xs ys. Starts xs ys) (acts_are (m ∷ n ∷ ms) (u ∷ us) k.1) (lanes_are (m ∷ n ∷ ms) (u ∷ us) k.1)

starts_length : (ms us : List ℕ) (rest : List Event) → 0 < length ms → length us ≡ length ms → block_length (starts_of ms us ++ rest) ≡ length (starts_of ms us)
starts_length [] us rest some e = absurd (omega (arith, some))
starts_length (m ∷ ms) [] rest some e = absurd (omega (arith, e))
starts_length (m ∷ []) (u ∷ us) rest some e = refl
starts_length (m ∷ n ∷ ms) (u ∷ us) rest some e = let k = starts_length (n ∷ ms) us rest (omega arith) (omega (arith, e)) in omega (arith, k)

length_is : (block : Block) (rest : List Event) → IsBlock block → block_length (events_of block ++ rest) ≡ length (events_of block)
length_is (Ends a) rest k = refl
length_is (Starts ms us) rest k = starts_length ms us rest k.0 k.1

pub some_events : (block : Block) → IsBlock block → 0 < length (events_of block)
some_events (Ends a) k = omega arith
some_events (Starts [] us) k = let l = k.0 in absurd (omega (arith, l))
some_events (Starts (m ∷ ms) []) k = let l = k.1 in absurd (omega (arith, l))
some_events (Starts (m ∷ []) (u ∷ us)) k = omega arith
some_events (Starts (m ∷ n ∷ ms) (u ∷ us)) k = omega arith

pub one_block : (block : Block) → IsBlock block → IsOneBlock (events_of block)
one_block block k =
    let e = block_is block k in record {
      is = subst IsBlock (sym e) k;
      are = ap events_of e;
    }

first_of : (block : Block) (later : List Block) → IsBlock block → AreBlocks later → IsFirstBlock (events_of block ++ onward later) (block_length (events_of block ++ onward later))
first_of block later k each =
    let xs = events_of block in
    let ys = onward later in
    let n = length_is block ys k in
    let front : take (block_length (xs ++ ys)) (xs ++ ys) ≡ xs = ap (λ j. take j (xs ++ ys)) n ∙ take_all xs ys in
    let back : drop (block_length (xs ++ ys)) (xs ++ ys) ≡ ys = ap (λ j. drop j (xs ++ ys)) n ∙ drop_all xs ys in
    record {
      some = subst (λ j. 0 < j) (sym n) (some_events block k);
      inside = subst (λ j. j ≤ length (xs ++ ys)) (sym n) (within xs ys);
      one = subst IsOneBlock (sym front) (one_block block k);
      rest = record { blocks = later; are = sym back; each = each };
    }
  where
    within : (xs ys : List Event) → length xs ≤ length (xs ++ ys)
    within [] ys = omega arith
    within (x ∷ xs) ys = let l = within xs ys in omega (arith, l)

pub first_block_of : (es : List Event) → AreOnward es → 0 < length es → IsFirstBlock es (block_length es)
first_block_of es o some = go o.blocks o.are o.each
  where
    go : (bs : List Block) → onward bs ≡ es → AreBlocks bs → IsFirstBlock es (block_length es)
    go [] e k = let l : 0 ≡ length es = ap length e in absurd (omega (arith, l, some))
    go (b ∷ later) e k = subst (λ t. IsFirstBlock t (block_length t)) e (first_of b later k.0 k.1)

pub block_starts : (part : List Event) (d : Event) (a lane : ℕ) (more : Bool) → 0 < length part → get_or part 0 d ≡ Start a lane more → block_of part ≡ starts_in part
block_starts [] d a lane more some e = absurd (omega (arith, some))
block_starts (Start b l m ∷ rest) d a lane more some e = refl
block_starts (End b ∷ rest) d a lane more some e = cc

pub block_ends : (part : List Event) (d : Event) (a : ℕ) → 0 < length part → get_or part 0 d ≡ End a → block_of part ≡ Ends a
block_ends [] d a some e = absurd (omega (arith, some))
block_ends (Start b l m ∷ rest) d a some e = cc
block_ends (End b ∷ rest) d a some e = ap Ends (inner b a e)
  where
    inner : (b a : ℕ) → End b ≡ End a → b ≡ a
    inner b a e = cc

-- BLOCKS, THE OTHER WAY ROUND

abbrev turned : List Block → List Block → List Block
turned [] later = later
turned (block ∷ older) later = turned older (block ∷ later)

turned_events : (older later : List Block) → onward (turned older later) ≡ events older ++ onward later
turned_events [] later = refl
turned_events (block ∷ older) later = turned_events older (block ∷ later) ∙ sym (append_assoc (events older) (events_of block) (onward later))

turned_blocks : (older later : List Block) → AreBlocks older → AreBlocks later → AreBlocks (turned older later)
turned_blocks [] later k l = l
turned_blocks (block ∷ older) later k l = turned_blocks older (block ∷ later) k.1 (k.0, l)

are_blocks : (blocks : List Block) → ((block : Block) → Contains blocks block → IsBlock block) → AreBlocks blocks
are_blocks [] each = tt
are_blocks (block ∷ others) each = (each block (cons_first block others), are_blocks others (λ b h. each b (cons_rest block b others h)))

append_none : (xs : List Event) → xs ++ [] ≡ xs
append_none [] = refl
append_none (x ∷ xs) = ap (λ ys. x ∷ ys) (append_none xs)

pub whole_onward : (trace : List Event) → AreWholeBlocks trace → AreOnward trace
whole_onward trace w = record {
  blocks = turned w.blocks [];
  are = turned_events w.blocks [] ∙ append_none (events w.blocks) ∙ w.are;
  each = turned_blocks w.blocks [] (are_blocks w.blocks w.whole) tt;
}
