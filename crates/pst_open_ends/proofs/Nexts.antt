-- Actions that have no reference that wants a source.
use Rattle.std.proofs.Common.{◌≡◌, ℕ, zero, suc, ◌+◌, List, [], ◌∷◌, take, Bool, true, false, ◌&&◌, ◌||◌, nat_lt, if◌then◌else◌, Option, Some, None, refl, sym, ap, ◌∙◌}
use Rattle.std.specs.Prelude.{slice_get}
use Rattle.std.specs.List.{find, list_any}
use Rattle.std.specs.Option.{option_map}
use Rattle.std.proofs.lemmas.Bool.{ltb-true, ltb-false, false≢true}
use Rattle.std.proofs.lemmas.Option.{none-some, same_Some}
use Rattle.pst_scen.specs.declared.act.Act.{Act}
use Rattle.pst_scen.specs.declared.act.Filled.{Filled}
use Rattle.pst_scen.specs.declared.act.Link.{Link}
use Rattle.pst_legal.specs.Binds.{Bound}
use Rattle.pst_legal.specs.Supplied.{is_need}
use Rattle.pst_legal.specs.SupplyReading.{Spot, spots_in, with_link, act_with_link, put_link}
use Rattle.pst_open_ends.specs.declared.links.Relinked.{Relinked}
use Rattle.pst_open_ends.specs.declared.links.Ends.{Ends}
use Rattle.pst_open_ends.specs.declared.links.Change.{Change}
use Rattle.pst_open_ends.specs.Spots.{spots_of}
use Rattle.pst_open_ends.specs.Changes.{ends_undone, far_unlinked, undone}
use Rattle.pst_open_ends.specs.Turns.{turns, wants, AreDone, NoneWants, AreNexts}
use Rattle.pst_open_ends.proofs.Alters.{alt, alter_is}

-- ---- no turn is passed over

no_turns : (bounds : List Bound) (k n : ℕ) (fs : List Filled) → list_any (λ f. is_need f.flow) fs ≡ false → find (turns bounds) (spots_of k n fs) ≡ None
no_turns bounds k n [] h = refl
no_turns bounds k n (f ∷ fs) h = go (is_need f.flow) _ _ h (no_turns bounds k (n + 1) fs)
  where
    go : (b r : Bool) (s : Spot) → (b || list_any (λ x. is_need x.flow) fs) ≡ false → (list_any (λ x. is_need x.flow) fs ≡ false → find (turns bounds) (spots_of k (n + 1) fs) ≡ None) → (if b && r then Some s else find (turns bounds) (spots_of k (n + 1) fs)) ≡ None
    go true r s h rest = absurd (false≢true (sym h))
    go false r s h rest = rest h

pub passed_done : (bounds : List Bound) (acts : List Act) (from to : ℕ) → AreDone bounds acts from → NoneWants acts from to → AreDone bounds acts to
passed_done bounds acts from to d h k act l s = go (nat_lt k from) refl
  where
    go : (b : Bool) → nat_lt k from ≡ b → find (turns bounds) (spots_in (k, act)) ≡ None
    go true b = d k act (ltb-true k from b) s
    go false b = no_turns bounds k 0 act.references (same_Some (wants act) false (ap (option_map wants) (sym s) ∙ h k (ltb-false k from b) l))

-- ---- links change nothing of it

any_same : (f : Filled → Filled) → ((x : Filled) → is_need (f x).flow ≡ is_need x.flow) → (n : ℕ) (xs : List Filled) → list_any (λ x. is_need x.flow) (alt f n xs) ≡ list_any (λ x. is_need x.flow) xs
any_same f h n [] = refl
any_same f h zero (x ∷ xs) = ap (λ b. b || list_any (λ y. is_need y.flow) xs) (h x)
any_same f h (suc n) (x ∷ xs) = ap (λ b. is_need x.flow || b) (any_same f h n xs)

linked_same : (reference : ℕ) (to : Link) (act : Act) → wants (act_with_link reference to act) ≡ wants act
linked_same reference to act = ap (list_any (λ x. is_need x.flow)) (alter_is (with_link to) reference act.references) ∙ any_same (with_link to) (λ x. refl) reference act.references

wants_same : (g : Act → Act) → ((x : Act) → wants (g x) ≡ wants x) → (n k : ℕ) (xs : List Act) → option_map wants (slice_get (alt g n xs) k) ≡ option_map wants (slice_get xs k)
wants_same g h n k [] = refl
wants_same g h zero zero (x ∷ xs) = ap Some (h x)
wants_same g h zero (suc k) (x ∷ xs) = refl
wants_same g h (suc n) zero (x ∷ xs) = refl
wants_same g h (suc n) (suc k) (x ∷ xs) = wants_same g h n k xs

put_same : (a r : ℕ) (to : Link) (acts : List Act) (k : ℕ) → option_map wants (slice_get (put_link a r to acts) k) ≡ option_map wants (slice_get acts k)
put_same a r to acts k = ap (λ l. option_map wants (slice_get l k)) (alter_is (act_with_link r to) a acts) ∙ wants_same (act_with_link r to) (linked_same r to) a k acts

far_same : (far : Option Relinked) (acts : List Act) (k : ℕ) → option_map wants (slice_get (far_unlinked far acts) k) ≡ option_map wants (slice_get acts k)
far_same None acts k = refl
far_same (Some end) acts k = put_same end.act end.reference end.was acts k

ends_same : (ends : Ends) (acts : List Act) (k : ℕ) → option_map wants (slice_get (ends_undone ends acts) k) ≡ option_map wants (slice_get acts k)
ends_same ends acts k = put_same ends.need.act ends.need.reference ends.need.was (far_unlinked ends.far acts) k ∙ far_same ends.far acts k

taken : (n k : ℕ) (xs : List Act) (b : Bool) → option_map wants (slice_get (take n xs) k) ≡ Some b → option_map wants (slice_get xs k) ≡ Some b
taken zero k xs b e = absurd (none-some b e)
taken (suc n) k [] b e = e
taken (suc n) zero (x ∷ xs) b e = e
taken (suc n) (suc k) (x ∷ xs) b e = taken n k xs b e

-- behind a choice it still holds
pub nexts_behind : (nexts : List ℕ) (change : Change) (acts : List Act) → AreNexts nexts (undone change acts) → AreNexts nexts acts
nexts_behind nexts change acts h number to e = (
  (h number to e).0,
  λ k a b. sym (ends_same change.ends acts k) ∙ taken change.count k (ends_undone change.ends acts) false ((h number to e).1 k a b),
)
