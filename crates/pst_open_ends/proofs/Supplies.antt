-- What linking a need changes.
use Rattle.std.proofs.Common.{◌≡◌, ℕ, zero, suc, ◌<◌, ◌≤◌, List, [], ◌∷◌, ◌++◌, length, take, Bool, true, false, ◌&&◌, nat_lt, if◌then◌else◌, min, None, refl, sym, ap, ◌∙◌, subst, arith, length-append}
use Rattle.std.specs.Prelude.{slice_get}
use Rattle.std.proofs.lemmas.List.{append-nil, take_all}
use Rattle.std.proofs.lemmas.Bool.{ltb-true, ltb-false}
use Rattle.std.proofs.Math.Seq.{take-append_seam}
use Rattle.pst_model.specs.ModelTree.{ModelTree}
use Rattle.pst_scen.specs.declared.act.Act.{Act}
use Rattle.pst_scen.specs.declared.act.Link.{Link}
use Rattle.pst_scen.specs.declared.act.Link.TheVariants as link
use Rattle.pst_legal.specs.Growing.{open_act}
use Rattle.pst_legal.specs.SupplyReading.{Spot, Initially, From, New, is_stream, act_with_link, put_link, linked_to}
use Rattle.pst_open_ends.specs.declared.links.Change.{Change}
use Rattle.pst_open_ends.specs.Changes.{ends_undone, StaysDone, lowest_of, Joins, Supplies}
use Rattle.pst_open_ends.specs.Turns.{AreDone}
use Rattle.pst_open_ends.proofs.Alters.{alter_other, alter_length}

-- as many actions as before are all of them
all_taken : (old mid : List Act) (count : ℕ) → count ≡ length old → old ≡ mid → old ≡ take count mid
all_taken old mid count n e = let w : length old ≡ length mid = ap length e in e ∙ sym (take_all count mid (omega arith))

length_put : (acts : List Act) (a r : ℕ) (to : Link) → length (put_link a r to acts) ≡ length acts
length_put acts a r to = alter_length (act_with_link r to) a acts

-- linking makes no action
length_linked : (acts : List Act) (need : Spot) (b q : ℕ) → length (linked_to need b q acts) ≡ length acts
length_linked acts need b q = go (is_stream need.filled.flow)
  where
    one : List Act
    one = put_link need.act need.reference (link.Act b q) acts

    first : length one ≡ length acts
    first = length_put acts need.act need.reference (link.Act b q)

    go : (s : Bool) → length (if s then put_link b q (link.Act need.act need.reference) one else one) ≡ length acts
    go true = length_put one b q (link.Act need.act need.reference) ∙ first
    go false = first

stays_put : (acts : List Act) (a r : ℕ) (to : Link) (n low : ℕ) → low ≤ a → low ≤ n → StaysDone n low acts (put_link a r to acts)
stays_put acts a r to n low la ln = λ bounds h k act l s.
    h k act (omega arith) (sym (alter_other (act_with_link r to) a k acts (λ e. let bad : ⊥ = omega arith in bad)) ∙ s)

stays_linked : (acts : List Act) (need : Spot) (b q : ℕ) (n low : ℕ) → low ≤ need.act → low ≤ n → (is_stream need.filled.flow ≡ true → low ≤ b) → StaysDone n low acts (linked_to need b q acts)
stays_linked acts need b q n low la ln lb = go (is_stream need.filled.flow) lb
  where
    one : List Act
    one = put_link need.act need.reference (link.Act b q) acts

    first : StaysDone n low acts one
    first = stays_put acts need.act need.reference (link.Act b q) n low la ln

    go : (s : Bool) → (s ≡ true → low ≤ b) → StaysDone n low acts (if s then put_link b q (link.Act need.act need.reference) one else one)
    go false h = first
    go true h = λ bounds d. stays_put one b q (link.Act need.act need.reference) low low (h refl) (omega arith) bounds (first bounds d)

pub first_supplied : (m : ModelTree) (need : Spot) (change : Change) (old new : List Act) → new ≡ put_link need.act need.reference link.Initial old → old ≡ ends_undone change.ends new → change.count ≡ length old → change.lowest ≡ need.act → Supplies m need Initially change old new
first_supplied m need change old new e back n low = record {
  supplied = e;
  back = all_taken old (ends_undone change.ends new) change.count n back;
  count = n;
  before = sym back ∙ sym (append-nil old);
  done = subst (StaysDone need.act change.lowest old) (sym e) (stays_put old need.act need.reference link.Initial need.act change.lowest (omega arith) (omega arith));
  few = let l : length new ≡ length old = ap length e ∙ length_put old need.act need.reference link.Initial in omega arith;
}

lowest_is : (need : Spot) (b : ℕ) → (lowest_of need b ≤ need.act) × (is_stream need.filled.flow ≡ true → lowest_of need b ≤ b)
lowest_is need b = go (is_stream need.filled.flow) (nat_lt b need.act) refl
  where
    go : (s t : Bool) → nat_lt b need.act ≡ t → ((if s && t then b else need.act) ≤ need.act) × (s ≡ true → (if s && t then b else need.act) ≤ b)
    go true true e = let l : b < need.act = ltb-true b need.act e in (omega arith, λ s. omega arith)
    go true false e = let l : need.act ≤ b = ltb-false b need.act e in (omega arith, λ s. l)
    go false t e = (omega arith, λ s. let bad : ⊥ = cc in absurd bad)

pub old_supplied : (m : ModelTree) (need : Spot) (b q : ℕ) (change : Change) (old new : List Act) → Joins need b q change.ends old new → change.count ≡ length old → change.lowest ≡ lowest_of need b → Supplies m need (From b q) change old new
old_supplied m need b q change old new j n low =
    let l = lowest_is need b in
    record {
      supplied = j.linked;
      back = all_taken old (ends_undone change.ends new) change.count n j.back;
      count = n;
      before = sym j.back ∙ sym (append-nil old);
      done = subst (StaysDone need.act change.lowest old) (sym j.linked)
          (subst (λ k. StaysDone need.act k old (linked_to need b q old)) (sym low) (stays_linked old need b q need.act (lowest_of need b) l.0 l.0 l.1));
      few = let k : length new ≡ length old = ap length j.linked ∙ length_linked old need b q in omega arith;
    }

got_before : (xs : List Act) (x : Act) (k : ℕ) → k < length xs → slice_get (xs ++ x ∷ []) k ≡ slice_get xs k
got_before [] x k l = absurd (omega arith)
got_before (y ∷ ys) x zero l = refl
got_before (y ∷ ys) x (suc k) l = got_before ys x k (omega arith)

pub new_supplied : (m : ModelTree) (need : Spot) (action instance q : ℕ) (change : Change) (old new : List Act) (x : Act) → x ≡ open_act m action instance None → Joins need (length old) q change.ends (old ++ x ∷ []) new → change.count ≡ length old → change.lowest ≡ min (length old) need.act → Supplies m need (New action instance q) change old new
new_supplied m need action instance q change old new x e j n low =
    let wide = old ++ x ∷ [] in
    let lower : (change.lowest ≤ length old) × (change.lowest ≤ need.act) = (omega arith, omega arith) in
    record {
      supplied = j.linked ∙ ap (λ y. linked_to need (length old) q (old ++ y ∷ [])) e;
      back = sym (take-append_seam old (x ∷ [])) ∙ ap (λ k. take k wide) (sym n) ∙ ap (take change.count) j.back;
      count = n;
      before = sym j.back ∙ ap (λ y. old ++ y ∷ []) e;
      done = λ bounds h. subst (λ xs. AreDone bounds xs change.lowest) (sym j.linked)
          (stays_linked wide need (length old) q change.lowest change.lowest lower.1 (omega arith) (λ s. lower.0) bounds
          (λ k act l s. h k act (omega arith) (sym (got_before old x k (omega arith)) ∙ s)));
      few = let k : length new ≡ length wide = ap length j.linked ∙ length_linked wide need (length old) q in let w = length-append old (x ∷ []) in omega arith;
    }
