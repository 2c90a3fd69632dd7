-- What posting to a lane makes of its entry.
use Rattle.std.proofs.Common.{◌≡◌, ℕ, ◌+◌, ◌<◌, ◌≤◌, List, [], ◌∷◌, ◌++◌, length, set, true, false, refl, sym, ap, ◌∙◌, subst, ⊎_elim, arith, append-nil, length-set}
use Rattle.std.specs.Prelude.{Option, None}
use Rattle.std.specs.Option.{option_to_list}
use Rattle.std.proofs.lemmas.List.Sums.{sum_by-set}
use Rattle.std.proofs.lemmas.Bool.{cases_eq}
use Rattle.std.proofs.lemmas.List.{set-get_or}
use Rattle.pst_scen.specs.declared.event.Event.{Event}
use Rattle.pst_post.specs.declared.view.Entry.{Entry}
use Rattle.pst_post.specs.Seats.{BookState, changed_at, lane_entry}
use Rattle.pst_post.specs.Steps.{after_post}
use Rattle.pst_post.specs.Views.{blank_entry, entry_at}
use Rattle.pst_lanes.specs.Lanes.{starts_on, ends_on}
use Rattle.pst_desk.specs.Turning.{IsDue, with_posted, posted_total}
use Rattle.pst_desk.proofs.Ties.{entry_same, entry_other}

-- all that started had been posted
pub nothing_due : (seat : BookState) (lane : ℕ) (acts : List ℕ) → (lane_entry seat lane).posted ≡ acts → seat ≡ changed_at seat lane (with_posted acts)
nothing_due seat lane acts e =
    let old = lane_entry seat lane in
    let same : with_posted acts old ≡ old = λ i. record old { posted = sym e i } in
    let entries : set seat.entries lane (with_posted acts old) ≡ seat.entries = ap (λ v. set seat.entries lane v) same ∙ set-get_or seat.entries lane blank_entry in
    λ i. record { table = seat.table; entries = sym entries i }

-- one action more started, and was posted
pub one_due : (seat new : BookState) (lane a : ℕ) (acts : List ℕ) → acts ≡ (lane_entry seat lane).posted ++ a ∷ [] → new ≡ changed_at seat lane (after_post true a) → new ≡ changed_at seat lane (with_posted acts)
one_due seat new lane a acts e is = is ∙ (λ i. changed_at seat lane (with_posted (sym e i)))

pub total_more : (entries : List Entry) (lane : ℕ) (acts : List ℕ) (n : ℕ) → lane < length entries → length acts ≡ length (entry_at entries lane).posted + n → posted_total (set entries lane (with_posted acts (entry_at entries lane))) ≡ posted_total entries + n
total_more entries lane acts n l e =
    let s = sum_by-set (λ (x : Entry). length x.posted) entries lane (with_posted acts (entry_at entries lane)) blank_entry l in
    omega (arith, s, e)

-- the entries of a row of lanes, up to one of them
pub record Posted (trace : List Event) (lanes : ℕ) (old new : BookState) (lane posted : ℕ) : Type 0 where
  pub table : new.table ≡ old.table
  pub wide : length new.entries ≡ length old.entries
  pub done : (k : ℕ) → k < lane → k < lanes → lane_entry new k ≡ with_posted (starts_on k trace) (lane_entry old k)
  pub left : (k : ℕ) → lane ≤ k → lane_entry new k ≡ lane_entry old k
  pub total : posted_total new.entries ≡ posted_total old.entries + posted
  pub few : posted ≤ lane

pub posted_none : (trace : List Event) (lanes : ℕ) (seat : BookState) → Posted trace lanes seat seat 0 0
posted_none trace lanes seat =
    record { table = refl; wide = refl; done = λ k b l. absurd (omega (arith, b)); left = λ k b. refl; total = omega arith; few = omega arith }

-- one lane more
pub posted_next : (trace : List Event) (lanes : ℕ) (old now new : BookState) (lane posted n : ℕ) → Posted trace lanes old now lane posted → new ≡ changed_at now lane (with_posted (starts_on lane trace)) → length (starts_on lane trace) ≡ length (lane_entry now lane).posted + n → n ≤ 1 → lane < length now.entries → Posted trace lanes old new (lane + 1) (posted + n)
posted_next trace lanes old now new lane posted n p is count one l =
    let acts = starts_on lane trace in
    let changed = with_posted acts (lane_entry now lane) in
    let more = total_more now.entries lane acts n l count in
    let whole : posted_total new.entries ≡ posted_total (set now.entries lane changed) = ap (λ (s : BookState). posted_total s.entries) is in
    let before = p.total in
    let few = p.few in
    let here : lane_entry new lane ≡ changed = ap (λ (s : BookState). lane_entry s lane) is ∙ entry_same now.entries lane changed l in
    let other = λ (k : ℕ) (ne : k ≡ lane → ⊥). ap (λ (s : BookState). lane_entry s k) is ∙ entry_other now.entries lane k changed ne in
    record {
      table = ap (λ (s : BookState). s.table) is ∙ p.table;
      wide = ap (λ (s : BookState). length s.entries) is ∙ length-set now.entries lane changed ∙ p.wide;
      done = λ k b m. ⊎_elim
          (λ same. subst (λ v. lane_entry new v ≡ with_posted (starts_on v trace) (lane_entry old v)) (sym same) (here ∙ ap (with_posted acts) (p.left lane (omega arith))))
          (λ ne. other k ne ∙ p.done k (omega (arith, b, ne)) m) (cases_eq k lane);
      left = λ k b. other k (λ e. omega (arith, b, e)) ∙ p.left k (omega (arith, b));
      total = omega (arith, whole, more, before);
      few = omega (arith, few, one);
    }

-- what starts on a lane that was idle is what was posted, and then what runs
pub idle_due : (t : List Event) (lane : ℕ) (e : Entry) (o : Option ℕ) → IsDue t lane e false → starts_on lane t ≡ ends_on lane t ++ option_to_list o → starts_on lane t ≡ e.posted ++ option_to_list o
idle_due t lane e o due starts = starts ∙ ap (λ xs. xs ++ option_to_list o) (sym due.0)

pub none_due : (t : List Event) (lane : ℕ) (e : Entry) → IsDue t lane e false → starts_on lane t ≡ ends_on lane t ++ [] → e.posted ≡ starts_on lane t
none_due t lane e due starts = sym (idle_due t lane e None due starts ∙ append-nil e.posted)
