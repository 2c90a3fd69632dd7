-- References in order, without some.
use Rattle.std.proofs.Common.{ℕ, zero, suc, ◌<◌, List, [], ◌∷◌, length, get_or, Bool, true, false, if◌then◌else◌, sym, subst, arith}
use Rattle.std.specs.List.{filter}
use Rattle.pst_scen.specs.declared.act.Act.{Act}
use Rattle.pst_scen.specs.declared.act.Flow.{Flow}
use Rattle.pst_ties.specs.declared.tied.End.{End}
use Rattle.pst_pool_sources.specs.declared.sources.PoolSources.{PoolSources}
use Rattle.pst_pool_sources.specs.Offers.{ends_at, may_serve, AreSources}
use Rattle.pst_pool_sources.specs.Places.{Before, AreRising}
use Rattle.pst_pool_sources.proofs.Rising.{picked_rise}
use Rattle.pst_open_ends.proofs.Lookups.{Each}

abbrev Rises : List End → Type 0
Rises [] = Unit {0}
Rises (x ∷ xs) = Each (Before x) xs × Rises xs

each_of : (P : End → Type 0) (xs : List End) → ((k : ℕ) (d : End) → k < length xs → P (get_or xs k d)) → Each P xs
each_of P [] h = tt
each_of P (x ∷ xs) h = (h 0 x (omega arith), each_of P xs (λ k d l. h (suc k) d (omega arith)))

each_at : (P : End → Type 0) (xs : List End) (k : ℕ) (d : End) → k < length xs → Each P xs → P (get_or xs k d)
each_at P [] k d l a = absurd (omega arith)
each_at P (x ∷ xs) zero d l a = a.0
each_at P (x ∷ xs) (suc k) d l a = each_at P xs k d (omega arith) a.1

rises_of : (xs : List End) → AreRising xs → Rises xs
rises_of [] h = tt
rises_of (x ∷ xs) h = (each_of (Before x) xs (λ k d l. h 0 (suc k) d (omega arith) (omega arith)), rises_of xs (λ j k d l m. h (suc j) (suc k) d (omega arith) (omega arith)))

rising : (xs : List End) → Rises xs → AreRising xs
rising [] h j k d l m = absurd (omega arith)
rising (x ∷ xs) h zero zero d l m = absurd (omega arith)
rising (x ∷ xs) h zero (suc k) d l m = each_at (Before x) xs k d (omega arith) h.0
rising (x ∷ xs) h (suc j) zero d l m = absurd (omega arith)
rising (x ∷ xs) h (suc j) (suc k) d l m = rising xs h.1 j k d (omega arith) (omega arith)

each_picked : (u : End → Bool) (P : End → Type 0) (xs : List End) → Each P xs → Each P (filter u xs)
each_picked u P [] h = tt
each_picked u P (x ∷ xs) h = go (u x) (each_picked u P xs h.1)
  where
    go : (b : Bool) → Each P (filter u xs) → Each P (if b then x ∷ filter u xs else filter u xs)
    go true k = (h.0, k)
    go false k = k

rises_picked : (u : End → Bool) (xs : List End) → Rises xs → Rises (filter u xs)
rises_picked u [] h = tt
rises_picked u (x ∷ xs) h = go (u x) (rises_picked u xs h.1)
  where
    go : (b : Bool) → Rises (filter u xs) → Rises (if b then x ∷ filter u xs else filter u xs)
    go true k = (each_picked u (Before x) xs h.0, k)
    go false k = k

pub rising_picked : (u : End → Bool) (xs : List End) → AreRising xs → AreRising (filter u xs)
rising_picked u xs h = rising (filter u xs) (rises_picked u xs (rises_of xs h))

pub rising_if : (b : Bool) (u : End → Bool) (xs : List End) → AreRising xs → AreRising (if b then filter u xs else xs)
rising_if true u xs h = rising_picked u xs h
rising_if false u xs h = h

-- what is kept is in order
pub kept_rise : (sources : PoolSources) (acts : List Act) → AreSources sources acts → (need : Flow) (pool : ℕ) → AreRising (ends_at need pool sources)
kept_rise sources acts h need pool = subst AreRising (sym (h.ends need pool)) (picked_rise (may_serve need pool acts) acts)
