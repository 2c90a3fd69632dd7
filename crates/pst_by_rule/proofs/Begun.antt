-- The starts of a group, one after another.
use Rattle.std.proofs.Common.{◌≡◌, ℕ, ◌+◌, ◌<◌, ◌≤◌, Bool, List, [], ◌∷◌, ◌++◌, drop, length, get_or, refl, sym, ap, ◌∙◌, subst, ⊎_elim, arith, append_assoc, append-nil, length-append}
use Rattle.std.specs.Prelude.{Contains}
use Rattle.std.proofs.lemmas.Bool.{cases_lt}
use Rattle.std.proofs.lemmas.List.Elements.{Contains-append_left, Contains-get_or, Contains-push, Contains-push_cases}
use Rattle.pst_scen.specs.declared.event.Event.{Event}
use Rattle.pst_scen.specs.declared.event.Event.TheVariants.{Start}
use Rattle.pst_scen.specs.Trace.{StartsOn, Ended, IsHeld}
use Rattle.pst_scen.specs.Plan.{Entries, AreGroupsNumbered, places_from, members}
use Rattle.pst_book.specs.Books.{MayJoin}
use Rattle.pst_book.specs.Tables.{IsNext}
use Rattle.pst_book.proofs.Elements.{none_in}
use Rattle.pst_book.proofs.Lists.{Distinct, at_push, at_end}
use Rattle.pst_book.proofs.Pushes.{ended_push}
use Rattle.pst_book.proofs.Starting.{members_begin, places_next, places_end}

-- So far these members of the group have started on these lanes, and the next one is that of the given number.
pub record Begun (p : Entries) (old now : List Event) (group next : ℕ) (acts lanes : List ℕ) : Type 0 where
  pub members_are : acts ++ places_from (drop next p.groups) next group ≡ members p.groups group
  pub here : next < length p.groups → get_or p.groups next 0 ≡ group
  pub join : (a : ℕ) → Contains acts a → MayJoin p old a
  pub many : length lanes ≡ length acts
  pub different : Distinct lanes
  pub below : (l : ℕ) → Contains lanes l → l < 16
  pub idle : (l : ℕ) → Contains lanes l → IsHeld old l → ⊥
  pub held : (l : ℕ) → Contains lanes l → IsHeld now l
  pub on : (a l : ℕ) → StartsOn old a l → StartsOn now a l
  pub ended : (a : ℕ) → Ended now a → Ended old a

pub begun_none : (p : Entries) (t : List Event) (group : ℕ) → AreGroupsNumbered p.groups → group < length p.groups → get_or p.groups group 0 ≡ group → Begun p t t group group [] []
begun_none p t group numbered l number = record {
  members_are = sym (members_begin p.groups group numbered l);
  here = λ m. number;
  join = λ a c. absurd (none_in a c);
  many = refl;
  different = λ i j m n. absurd (omega (arith, n));
  below = λ x c. absurd (none_in x c);
  idle = λ x c. absurd (none_in x c);
  held = λ x c. absurd (none_in x c);
  on = λ a x h. h;
  ended = λ a h. h;
}

distinct_push : (xs : List ℕ) (x : ℕ) → Distinct xs → (Contains xs x → ⊥) → Distinct (xs ++ x ∷ [])
distinct_push xs x d n i j l m e =
    let long : length (xs ++ x ∷ []) ≡ length xs + 1 = length-append xs (x ∷ []) in
    ⊎_elim
    (λ k. d i j l k (sym (at_push xs x i (omega (arith, l, k))) ∙ e ∙ at_push xs x j k))
    (λ k. let last : length xs ≡ j = omega (arith, k, m, long) in
    let i_in : i < length xs = omega (arith, l, last) in
    let there : get_or (xs ++ x ∷ []) j 0 ≡ x = ap (λ v. get_or (xs ++ x ∷ []) v 0) (sym last) ∙ at_end xs x in
    n (subst (λ v. Contains xs v) (sym (at_push xs x i i_in) ∙ e ∙ there) (Contains-get_or xs i 0 i_in)))
    (cases_lt j (length xs))

module _ (p : Entries) (old now : List Event) (group act next lane : ℕ) (more : Bool) (acts lanes : List ℕ) (b : Begun p old now group act acts lanes)
    (act_in : act < length p.groups) (may : MayJoin p now act) (not_ended : Ended now act → ⊥) (lane_in : lane < 16) (free : IsHeld now lane → ⊥) (n : IsNext p.groups act next) where
  abbrev new : List Event
  new = now ++ Start act lane more ∷ []

  still_held : (l : ℕ) → IsHeld old l → IsHeld now l
  still_held l h = (h.0, b.on h.0 l h.1, λ e. h.2 (b.ended h.0 e))

  joins : MayJoin p old act
  joins = record {
    fresh = λ s. may.fresh (s.0, b.on act s.0 s.1);
    awaited = λ x l h. b.ended x (may.awaited x l h);
    clear = λ x l r h. may.clear x l ((r.0.0, b.on x r.0.0 r.0.1), λ e. r.1 (b.ended x e)) h;
  }

  on_more : (a l : ℕ) → StartsOn now a l → StartsOn new a l
  on_more a l h = (h.0, Contains-append_left now (Start act lane more ∷ []) (Start a l h.0) h.1)

  pub begun_more : (t : List Event) → t ≡ new → Begun p old t group next (acts ++ act ∷ []) (lanes ++ lane ∷ [])
  begun_more t is = subst (λ v. Begun p old v group next (acts ++ act ∷ []) (lanes ++ lane ∷ [])) (sym is) (record {
    members_are = append_assoc acts (act ∷ []) (places_from (drop next p.groups) next group)
        ∙ ap (λ xs. acts ++ xs) (sym (places_next p.groups act next group act_in (b.here act_in) n)) ∙ b.members_are;
    here = λ m. n.same m ∙ b.here act_in;
    join = λ a c. ⊎_elim (λ k. b.join a k) (λ e. subst (λ v. MayJoin p old v) e joins) (Contains-push_cases acts act a c);
    many = let m = b.many in
        let x : length (lanes ++ lane ∷ []) ≡ length lanes + 1 = length-append lanes (lane ∷ []) in
        let y : length (acts ++ act ∷ []) ≡ length acts + 1 = length-append acts (act ∷ []) in
        omega (arith, m, x, y);
    different = distinct_push lanes lane b.different (λ c. free (b.held lane c));
    below = λ l c. ⊎_elim (λ k. b.below l k) (λ e. omega (arith, e, lane_in)) (Contains-push_cases lanes lane l c);
    idle = λ l c h. ⊎_elim (λ k. b.idle l k h) (λ e. free (subst (λ v. IsHeld now v) (sym e) (still_held l h))) (Contains-push_cases lanes lane l c);
    held = λ l c. ⊎_elim
        (λ k. let h = b.held l k in (h.0, on_more h.0 l h.1, λ e. h.2 (ended_push now act lane more h.0 e)))
        (λ e. subst (λ v. IsHeld new v) e (act, (more, Contains-push now (Start act lane more)), λ x. not_ended (ended_push now act lane more act x)))
        (Contains-push_cases lanes lane l c);
    on = λ a l h. on_more a l (b.on a l h);
    ended = λ a h. b.ended a (ended_push now act lane more a h);
  })

-- where no member is left, all have started
pub begun_all : (p : Entries) (old now : List Event) (group next : ℕ) (acts lanes : List ℕ) → length p.groups ≤ next → Begun p old now group next acts lanes → acts ≡ members p.groups group
begun_all p old now group next acts lanes l b =
    sym (append-nil acts) ∙ ap (λ xs. acts ++ xs) (sym (places_end p.groups next group l)) ∙ b.members_are
