-- Where the references of new actions are known.
use Rattle.std.proofs.Common.{◌≡◌, ◌⊎◌, inl, inr, ℕ, List, [], ◌∷◌, ◌++◌, length, map, Option, Some, None, refl, sym, ap, ◌∙◌, subst, arith, length-append}
use Rattle.std.specs.Prelude.{reverse, is_some, IsTrue}
use Rattle.std.proofs.lemmas.Option.{none-some}
use Rattle.pst_open_ends.specs.declared.spot.Spot.{Spot}
use Rattle.pst_open_ends.specs.declared.beyond.NewSources.{NewSources}
use Rattle.pst_open_ends.specs.Beyond.{AreNew}
use Rattle.pst_open_ends.specs.Changes.{opened, undone}
use Rattle.pst_open_ends.specs.Turns.{AreNexts}
use Rattle.pst_open_ends.proofs.Nexts.{nexts_behind}
use Rattle.pst_scen.specs.declared.act.Act.{Act}
use Rattle.pst_supply.specs.declared.walk.Stop.{Stop}
use Rattle.pst_supply.specs.declared.walk.Made.{Made}
use Rattle.pst_supply.specs.Stops.{stop_after}
use Rattle.pst_supply.specs.Made.{AreKnown, Ground, AllStand}

-- where a need is met before the first choice, they are found
pub first_known : (beyond : NewSources) (first need : Option Spot) → first ≡ need → (IsTrue (is_some need) → AreNew beyond) → (first ≡ None) ⊎ AreNew beyond
first_known beyond first None e h = inl e
first_known beyond first (Some need) e h = inr (h refl)

pub begin_known : (beyond : NewSources) (first : Stop) (made : List Made) → made ≡ [] → (first.need ≡ None) ⊎ AreNew beyond → AreKnown beyond first made
begin_known beyond first made e (inl h) = inl (h, e)
begin_known beyond first made e (inr h) = inr h

-- where some need has the turn, they are known
pub turn_known : (beyond : NewSources) (first : Stop) (made : List Made) (need : Spot) → AreKnown beyond first made → (stop_after first (reverse made)).need ≡ Some need → AreNew beyond
turn_known beyond first made need (inl h) e = absurd (none-some need (sym h.0 ∙ ap (λ l. (stop_after first (reverse l)).need) (sym h.1) ∙ e))
turn_known beyond first made need (inr h) e = h

-- behind a choice they are known
pub made_known : (beyond : NewSources) (first : Stop) (made older : List Made) (x : Made) → made ≡ older ++ x ∷ [] → AreKnown beyond first made → AreNew beyond
made_known beyond first made older x e (inl h) =
    let l : length (older ++ x ∷ []) ≡ 0 = ap length (sym e ∙ h.1) in
    let n = length-append older (x ∷ []) in
    absurd (omega arith)
made_known beyond first made older x e (inr h) = h

-- what the leaves' references are known to want stays so behind choices
pub all_nexts : (g : Ground) (first : Stop) (made : List Made) (acts : List Act) (nexts : List ℕ) → AllStand g first made acts → AreNexts nexts (map (opened g.model) g.leaves) → AreNexts nexts acts
all_nexts g first [] acts nexts h s = subst (AreNexts nexts) (sym h.0) s
all_nexts g first (x ∷ older) acts nexts h s = nexts_behind nexts x.change acts (all_nexts g first older (undone x.change acts) nexts h.2 s)
