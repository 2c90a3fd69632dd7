-- The references that may be sources, before a choice and after it.
use Rattle.std.proofs.Common.{◌≡◌, ℕ, ◌≤◌, List, [], ◌∷◌, map, Bool, true, false, ◌&&◌, ◌||◌, nat_eq, if◌then◌else◌, Option, Some, None, refl, sym, ap, ◌∙◌, subst, arith}
use Rattle.std.specs.List.{find, list_any}
use Rattle.std.specs.Option.{option_map}
use Rattle.std.proofs.lemmas.Bool.{eq-eqb, false≢true}
use Rattle.std.proofs.lemmas.Option.{none-some, same_Some}
use Rattle.pst_model.specs.ModelTree.{ModelTree}
use Rattle.pst_scen.specs.declared.act.Act.{Act}
use Rattle.pst_scen.specs.declared.act.Flow.{Flow}
use Rattle.pst_scen.specs.declared.act.Link.{Link}
use Rattle.pst_scen.specs.declared.act.Link.TheVariants as link
use Rattle.pst_legal.specs.Binds.{Bound}
use Rattle.pst_legal.specs.SupplyReading.{Spot as Read, Source, spots, same_link}
use Rattle.pst_ties.specs.Tieds.{same_end}
use Rattle.pst_pool_sources.specs.declared.sources.PoolSources.{PoolSources}
use Rattle.pst_pool_sources.specs.Offers.{end_of, fitting, ends_at, begun_at, room_at, AreSources}
use Rattle.pst_open_ends.specs.declared.spot.Spot.{Spot}
use Rattle.pst_open_ends.specs.declared.links.Change.{Change}
use Rattle.pst_open_ends.specs.Spots.{read_spot, kept_spot, spot_at}
use Rattle.pst_open_ends.specs.Options.{link_of}
use Rattle.pst_open_ends.specs.Changes.{opened, undone, Supplies}
use Rattle.pst_open_ends.specs.Turns.{turns}
use Rattle.pst_open_ends.proofs.Lookups.{Each, Found, each_spot}
use Rattle.pst_free_ends.specs.Steps.{IsTurn, IsStep, NoneAhead, HasRoom}
use Rattle.pst_free_ends.proofs.Grows.{AreLoose, opened_loose, loose_free, loose_previous}
use Rattle.pst_supply.specs.declared.walk.Made.{Made}
use Rattle.pst_supply.specs.Made.{CanLeave}

-- ---- before the first choice

module _ (m : ModelTree) (leaves acts : List Act) (is : acts ≡ map (opened m) leaves) where
  loose : AreLoose acts
  loose = subst AreLoose (sym is) (opened_loose m leaves)

  pub begin_free : (sources : PoolSources) → ((need : Flow) (p : ℕ) → ends_at need p sources ≡ fitting need p acts) → ((p : ℕ) → begun_at p sources ≡ false) → AreSources sources acts
  begin_free sources ends begun = record {
    ends = λ need p. ends need p ∙ loose_free acts loose need p;
    begun = λ p. begun p ∙ sym (loose_previous acts loose p link.Initial refl);
  }

  pub begin_ahead : NoneAhead acts
  begin_ahead p e l = loose_previous acts loose p (link_of (Some e)) refl

-- ---- whose turn it is

found_at : (acts : List Act) (t : Read → Bool) (xs : List Read) (s : Read) → Each (Found acts) xs → find t xs ≡ Some s → spot_at acts (end_of s) ≡ Some s
found_at acts t [] s h e = absurd (none-some s e)
found_at acts t (x ∷ xs) s h e = go (t x) (found_at acts t xs s h.1) e
  where
    go : (b : Bool) → (find t xs ≡ Some s → spot_at acts (end_of s) ≡ Some s) → (if b then Some x else find t xs) ≡ Some s → spot_at acts (end_of s) ≡ Some s
    go true later e = let same : x ≡ s = same_Some x s e in ap (λ y. spot_at acts (end_of y)) (sym same) ∙ h.0 ∙ e
    go false later e = later e

found_among : (t : Read → Bool) (xs : List Read) (s : Read) → find t xs ≡ Some s → list_any (λ x. same_end (end_of s) (end_of x)) xs ≡ true
found_among t [] s e = absurd (none-some s e)
found_among t (x ∷ xs) s e = go (t x) (found_among t xs s) e
  where
    rest : Bool
    rest = list_any (λ x. same_end (end_of s) (end_of x)) xs

    or_true : (b : Bool) → (b || true) ≡ true
    or_true true = refl
    or_true false = refl

    go : (b : Bool) → (find t xs ≡ Some s → rest ≡ true) → (if b then Some x else find t xs) ≡ Some s → (same_end (end_of s) (end_of x) || rest) ≡ true
    go true later e =
        let same : x ≡ s = same_Some x s e in
        ap (λ (y : Read). (nat_eq s.act y.act && nat_eq s.reference y.reference) || rest) same
        ∙ ap (λ b. (b && nat_eq s.reference s.reference) || rest) (eq-eqb s.act s.act refl)
        ∙ ap (λ b. b || rest) (eq-eqb s.reference s.reference refl)
    go false later e = ap (λ b. same_end (end_of s) (end_of x) || b) (later e) ∙ or_true (same_end (end_of s) (end_of x))

pub turn_is : (bounds : List Bound) (acts : List Act) (need : Spot) → Some need ≡ option_map kept_spot (find (turns bounds) (spots acts)) → need.link ≡ link.Nothing → IsTurn need acts
turn_is bounds acts need e free = go (find (turns bounds) (spots acts)) refl e
  where
    go : (o : Option Read) → find (turns bounds) (spots acts) ≡ o → Some need ≡ option_map kept_spot o → IsTurn need acts
    go None f e = absurd (none-some need (sym e))
    go (Some s) f e =
        let same : need ≡ kept_spot s = same_Some need (kept_spot s) e in
        subst (λ n. IsTurn n acts) (sym same) (
        record {
          spot = s;
          is = found_at acts (turns bounds) (spots acts) s (each_spot acts) f;
          among = found_among (turns bounds) (spots acts) s f;
          flow = refl;
          pool = refl;
          free = ap (λ (n : Spot). n.link) (sym same) ∙ free;
        })

pub open_is : (need : Spot) (r : Bool) → r ≡ same_link need.link link.Nothing → r ≡ true → need.link ≡ link.Nothing
open_is need r e n = go need.link (sym e ∙ n)
  where
    go : (to : Link) → same_link to link.Nothing ≡ true → to ≡ link.Nothing
    go link.Nothing n = refl
    go link.Initial n = absurd (false≢true n)
    go (link.Act a r) n = absurd (false≢true n)

-- ---- a choice

pub step_is : (m : ModelTree) (need : Spot) (source : Source) (change : Change) (old new : List Act) → Supplies m (read_spot need) source change old new → IsTurn need old → NoneAhead old → IsStep need source change new
step_is m need source change old new s turn ahead = record {
  model = m;
  supplies = subst (λ l. Supplies m (read_spot need) source change l new) s.back s;
  turn = subst (IsTurn need) s.back turn;
  ahead = subst NoneAhead s.back ahead;
}

-- more memory is memory enough
pub room_more : (among more : PoolSources) (acts : List Act) → ((need : Flow) (p : ℕ) → room_at need p among ≤ room_at need p more) → HasRoom among acts → HasRoom more acts
room_more among more acts r h need p k = omega (arith, r need p, h need p k)

pub still_leaves : (among more : PoolSources) → ((need : Flow) (p : ℕ) → room_at need p among ≤ room_at need p more) → (made : List Made) (acts : List Act) → CanLeave among made acts → CanLeave more made acts
still_leaves among more r [] acts h = tt
still_leaves among more r (x ∷ older) acts h = (h.0, λ need p k. omega (arith, r need p, h.1 need p k), still_leaves among more r older (undone x.change acts) h.2)
