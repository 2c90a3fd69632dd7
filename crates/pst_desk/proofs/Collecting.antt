-- What collecting a lane tells.
use Rattle.std.proofs.Common.{◌≡◌, ℕ, List, [], ◌∷◌, ◌++◌, length, set, true, false, Bool, sym, ap, ◌∙◌, arith, append-nil, length-append}
use Rattle.std.specs.Prelude.{Option, None, Some}
use Rattle.std.specs.Option.{option_to_list}
use Rattle.std.proofs.lemmas.List.{same_from_push, set-get_or}
use mathlib.Core.List.{IsPrefix}
use Rattle.pst_scen.specs.declared.event.Event.{Event}
use Rattle.pst_post.specs.declared.view.Entry.{Entry}
use Rattle.pst_post.specs.declared.view.Progress.{Progress}
use Rattle.pst_post.specs.declared.view.SeatStatus.{SeatStatus}
use Rattle.pst_post.specs.declared.view.SeatStatus.TheVariants.{Undealt, Out, Gathered}
use Rattle.pst_post.specs.Gathered.{CollectTells}
use Rattle.pst_post.specs.Steps.{IsIdle, after_collect}
use Rattle.pst_post.specs.Views.{blank_entry, entry_at, IfGathered}
use Rattle.pst_lanes.specs.Lanes.{starts_on, ends_on}
use Rattle.pst_desk.specs.Desks.{IsTied, entries_changed}
use Rattle.pst_desk.specs.Ended.{IsReturned}

-- all that was posted has ended, but for what runs
pub posted_is : (t : List Event) (lane : ℕ) (e : Entry) (o : Option ℕ) → IsTied t lane e → starts_on lane t ≡ ends_on lane t ++ option_to_list o → e.posted ≡ e.ended ++ option_to_list o
posted_is t lane e o tied starts = tied.posted ∙ starts ∙ ap (λ xs. xs ++ option_to_list o) (sym tied.ended)

-- where something is out, it is what runs
pub out_is : (e : Entry) (o : Option ℕ) → e.posted ≡ e.ended ++ option_to_list o → (IsIdle e → ⊥) → (action : ℕ) × (e.posted ≡ e.ended ++ action ∷ [])
out_is e None is n = absurd (n (is ∙ append-nil e.ended))
out_is e (Some a) is n = (a, is)

-- a collect of an idle lane changes nothing
pub idle_stays : (entries : List Entry) (lane : ℕ) → IsIdle (entry_at entries lane) → entries_changed entries lane (after_collect true) ≡ entries
idle_stays entries lane idle =
    let e = entry_at entries lane in
    let same : after_collect true e ≡ e = λ i. record e { ended = idle i } in
    ap (λ v. set entries lane v) same ∙ set-get_or entries lane blank_entry

no_longer : (xs ys rest : List ℕ) (a : ℕ) → xs ≡ ys ++ a ∷ [] → xs ++ rest ≡ ys → ⊥
no_longer xs ys rest a e p =
    let n : length xs ≡ length (ys ++ a ∷ []) = ap (λ (l : List ℕ). length l) e in
    let q : length (xs ++ rest) ≡ length ys = ap (λ (l : List ℕ). length l) p in
    omega (arith, n, q, length-append ys (a ∷ []), length-append xs rest)

-- where an action of a gathered lane is still out, what ended is what was handed back
out_returned : (e : Entry) (o : Option ℕ) (p : Progress) (a : ℕ) → e.posted ≡ e.ended ++ option_to_list o → e.posted ≡ p.finished ++ a ∷ [] → IsPrefix e.ended p.finished → e.ended ≡ p.finished
out_returned e None p a is out before = absurd (no_longer e.ended p.finished before.0 a (sym (append-nil e.ended) ∙ sym is ∙ out) before.1)
out_returned e (Some b) p a is out before = (same_from_push e.ended p.finished b a (sym is ∙ out)).0

pub returned : (answer : Bool) (e : Entry) (o : Option ℕ) (p : Progress) → e.posted ≡ e.ended ++ option_to_list o → CollectTells answer e p → IsReturned (after_collect answer e) p
returned true e o p is told = record { ended = told.posted; fetched = told.fetched }
returned false e o p is told = record { ended = out_returned e o p told.posted.0 is told.posted.1 told.ended; fetched = told.fetched }

pub if_gathered : (s : SeatStatus) {P Q : Progress → Type 0} → ((p : Progress) → P p → Q p) → IfGathered s P → IfGathered s Q
if_gathered Undealt f h = tt
if_gathered Out f h = tt
if_gathered (Gathered p) f h = f p h
