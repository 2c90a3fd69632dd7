-- What the calls of a desk make of its ties.
use Rattle.std.proofs.Common.{◌≡◌, ℕ, ◌<◌, List, [], ◌∷◌, ◌++◌, length, get_or, set, true, false, Bool, refl, sym, ◌∙◌, subst, ⊎_elim, append-nil, get_or-set_other, get_or-set_same}
use Rattle.std.specs.Prelude.{IsTrue}
use Rattle.std.proofs.lemmas.Bool.{cases_eq}
use Rattle.pst_scen.specs.declared.event.Event.{Event}
use Rattle.pst_scen.specs.declared.event.Event.TheVariants.{End}
use Rattle.pst_scen.specs.Trace.{StartsOn, IsHeld}
use Rattle.pst_post.specs.declared.view.Entry.{Entry}
use Rattle.pst_post.specs.Steps.{after_collect}
use Rattle.pst_post.specs.Views.{blank_entry, entry_at}
use Rattle.pst_lanes.specs.Lanes.{starts_on, ends_on}
use Rattle.pst_lanes.proofs.Laned.{starts_push, ends_here, ends_else}
use Rattle.pst_desk.specs.Desks.{IsTied, AreTied, entries_changed}
use Rattle.pst_desk.specs.Turning.{AreHeld, ArePosted, IsDue}
use Rattle.pst_desk.proofs.Openings.{Keeps}

-- AN ENTRY CHANGES

pub entry_same : (entries : List Entry) (i : ℕ) (e : Entry) → i < length entries → entry_at (set entries i e) i ≡ e
entry_same entries i e l = get_or-set_same entries i e blank_entry l

pub entry_other : (entries : List Entry) (i k : ℕ) (e : Entry) → (k ≡ i → ⊥) → entry_at (set entries i e) k ≡ entry_at entries k
entry_other entries i k e n = get_or-set_other entries i k e blank_entry n

-- the ties of entries of which one changes
pub tied_at : (lanes : ℕ) (t u : List Event) (entries : List Entry) (i : ℕ) (e : Entry) → i < length entries → AreTied lanes t entries
    → ((k : ℕ) → (k ≡ i → ⊥) → IsTied t k (entry_at entries k) → IsTied u k (entry_at entries k)) → (IsTied t i (entry_at entries i) → IsTied u i e) → AreTied lanes u (set entries i e)
tied_at lanes t u entries i e l tied others here k below =
    ⊎_elim
    (λ same. subst (λ v. IsTied u v (entry_at (set entries i e) v)) (sym same)
    (subst (λ v. IsTied u i v) (sym (entry_same entries i e l)) (here (tied i (subst (λ v. v < lanes) same below)))))
    (λ n. subst (λ v. IsTied u k v) (sym (entry_other entries i k e n)) (others k n (tied k below)))
    (cases_eq k i)

-- the same lists
pub same_tie : (lanes : ℕ) (t : List Event) (entries : List Entry) (i : ℕ) (e : Entry) → i < length entries → e.posted ≡ (entry_at entries i).posted → e.ended ≡ (entry_at entries i).ended → AreTied lanes t entries → AreTied lanes t (set entries i e)
same_tie lanes t entries i e l posted ended tied =
    tied_at lanes t t entries i e l tied (λ k n h. h) (λ h. record { posted = posted ∙ h.posted; ended = ended ∙ h.ended })

-- the end of the action that runs on the lane
pub end_tie : (lanes : ℕ) (t : List Event) (entries : List Entry) (i a : ℕ) → i < length entries → ((b l k : ℕ) → StartsOn t b l → StartsOn t b k → l ≡ k)
    → StartsOn t a i → starts_on i t ≡ ends_on i t ++ a ∷ [] → AreTied lanes t entries → AreTied lanes (t ++ End a ∷ []) (entries_changed entries i (after_collect true))
end_tie lanes t entries i a l one on runs tied =
    tied_at lanes t (t ++ End a ∷ []) entries i (after_collect true (entry_at entries i)) l tied
    (λ k n h. record {
      posted = h.posted ∙ sym (starts_push t a k);
      ended = h.ended ∙ sym (ends_else t a k (λ other. n (one a k i other on)));
    })
    (λ h. record {
      posted = h.posted ∙ sym (starts_push t a i);
      ended = h.posted ∙ runs ∙ sym (ends_here t a i on);
    })

-- A TURN

due_at : (before after : List Event) (lane : ℕ) (e : Entry) (held : Bool) → Keeps before after → IsTied before lane e → (IsTrue held → IsHeld before lane) → (IsHeld before lane → IsTrue held)
    → ((IsHeld before lane → ⊥) → starts_on lane before ≡ ends_on lane before ++ []) → IsDue after lane e held
due_at before after lane e true kept tied is so idle = tied.posted ∙ sym (kept.starts lane (is refl))
due_at before after lane e false kept tied is so idle =
    let same = idle (λ h. let both : false ≡ true = so h in absurd cc) ∙ append-nil (ends_on lane before) in
    (tied.posted ∙ same ∙ sym (kept.ends lane), tied.posted ∙ same ∙ sym tied.ended)

-- what is posted to each lane where groups have started
pub due : (lanes : ℕ) (before after : List Event) (entries : List Entry) (held : List Bool) → Keeps before after → AreTied lanes before entries → AreHeld lanes before held
    → ((lane : ℕ) → (IsHeld before lane → ⊥) → starts_on lane before ≡ ends_on lane before ++ []) → (lane : ℕ) → lane < lanes → IsDue after lane (entry_at entries lane) (get_or held lane false)
due lanes before after entries held kept tied are idle lane l =
    let h = are lane l in
    due_at before after lane (entry_at entries lane) (get_or held lane false) kept (tied lane l) h.0 h.1 (idle lane)

-- the ties behind a turn
pub turned_tie : (lanes : ℕ) (before after : List Event) (old new : List Entry) → Keeps before after → AreTied lanes before old → ArePosted lanes after old new → AreTied lanes after new
turned_tie lanes before after old new kept tied posted lane l =
    subst (λ e. IsTied after lane e) (sym (posted lane l)) (record { posted = refl; ended = let h = tied lane l in h.ended ∙ sym (kept.ends lane) })
