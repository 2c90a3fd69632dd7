-- What is kept before and behind a change.
use Rattle.std.proofs.Common.{◌≡◌, ℕ, ◌≤◌, ◌++◌, List, length, drop, sym, ap, ◌∙◌, arith}
use Rattle.std.specs.Prelude.{Result, Ok, Err, OnErr}
use Rattle.pst_scen.specs.declared.act.Act.{Act}
use Rattle.pst_scen.specs.declared.act.Flow.{Flow}
use Rattle.pst_scen.specs.declared.act.Link.TheVariants as link
use Rattle.pst_legal.specs.SupplyReading.{Source, is_previous}
use Rattle.pst_pool_sources.specs.declared.sources.PoolSources.{PoolSources}
use Rattle.pst_pool_sources.specs.Offers.{free_ends, fitting_from, ends_at, begun_at, room_at, count_from, but_last, AreSources}
use Rattle.pst_open_ends.specs.declared.spot.Spot.{Spot}
use Rattle.pst_open_ends.specs.declared.links.Change.{Change}
use Rattle.pst_open_ends.specs.Changes.{ends_undone, undone}
use Rattle.pst_free_ends.specs.declared.taken.Taken.{Taken}
use Rattle.pst_free_ends.specs.Steps.{restored, unbegun, IsStep, Takes, HasRoom}
use Rattle.pst_free_ends.proofs.Grows.{mid_more, mid_begun, without_more, fits}

pub same_kept : (before sources : PoolSources) (acts : List Act) → AreSources before acts → ((n : Flow) (p : ℕ) → ends_at n p sources ≡ ends_at n p before) → ((p : ℕ) → begun_at p sources ≡ begun_at p before) → AreSources sources acts
same_kept before sources acts h ends begun = record { ends = λ n p. ends n p ∙ h.ends n p; begun = λ p. begun p ∙ h.begun p }

pub in_any_case : {T E : Type 0} (P : Type 0) (r : Result T E) → P → OnErr r P
in_any_case P (Ok x) p = tt
in_any_case P (Err y) p = p

-- the references of a new action are added
pub grown : (need : Spot) (source : Source) (change : Change) (acts : List Act) → IsStep need source change acts → (before sources : PoolSources) → AreSources before (undone change acts)
    → ((n : Flow) (p : ℕ) → ends_at n p sources ≡ ends_at n p before ++ fitting_from n p change.count (drop change.count acts)) → ((p : ℕ) → begun_at p sources ≡ begun_at p before)
    → AreSources sources (ends_undone change.ends acts)
grown need source change acts step before sources h ends begun = record {
  ends = λ n p. ends n p ∙ ap (λ l. l ++ fitting_from n p change.count (drop change.count acts)) (h.ends n p) ∙ sym (mid_more need source change acts step n p);
  begun = λ p. begun p ∙ h.begun p ∙ sym (mid_begun need source change acts step p);
}

-- and taken away again
pub shrunk : (change : Change) (acts : List Act) → ((n : Flow) (p : ℕ) → free_ends n p (ends_undone change.ends acts) ≡ free_ends n p (undone change acts) ++ fitting_from n p change.count (drop change.count acts)) → ((p : ℕ) → is_previous (ends_undone change.ends acts) p link.Initial ≡ is_previous (undone change acts) p link.Initial)
    → (before sources : PoolSources) → AreSources before (ends_undone change.ends acts)
    → ((n : Flow) (p : ℕ) → ends_at n p sources ≡ but_last (count_from n p (drop change.count acts)) (ends_at n p before)) → ((p : ℕ) → begun_at p sources ≡ begun_at p before)
    → AreSources sources (undone change acts)
shrunk change acts more first before sources h ends begun = record {
  ends = λ n p. ends n p ∙ ap (but_last (count_from n p (drop change.count acts))) (h.ends n p ∙ more n p) ∙ without_more n p change acts;
  begun = λ p. begun p ∙ h.begun p ∙ first p;
}

pub with_room : (before sources : PoolSources) (acts : List Act) → AreSources before acts → ((n : Flow) (p : ℕ) → room_at n p before ≤ room_at n p sources) → HasRoom sources acts
with_room before sources acts h more n p k =
    let a = fits before n p k in
    let b = ap (λ l. length l) (h.ends n p) in
    let c = more n p in
    omega arith

-- what was taken is put back
pub given_back : (taken : Taken) (old new : List Act) (before sources : PoolSources) → Takes taken old new → AreSources before new
    → ((n : Flow) (p : ℕ) → ends_at n p sources ≡ restored taken.far n p (restored taken.near n p (ends_at n p before))) → ((p : ℕ) → begun_at p sources ≡ unbegun taken.begun p (begun_at p before))
    → AreSources sources old
given_back taken old new before sources t h ends begun = record {
  ends = λ n p. ends n p ∙ ap (λ l. restored taken.far n p (restored taken.near n p l)) (h.ends n p) ∙ sym (t.ends n p);
  begun = λ p. begun p ∙ ap (unbegun taken.begun p) (h.begun p) ∙ sym (t.begun p);
}
