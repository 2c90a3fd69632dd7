-- Members of a group that start one after another.
use Rattle.std.proofs.Common.{◌≡◌, ℕ, suc, ◌+◌, ◌<◌, ◌≤◌, List, [], ◌∷◌, ◌++◌, length, get_or, set, drop, Bool, true, false, refl, sym, ap, ◌∙◌, subst, ⊎_elim, arith, length-append, append_assoc, length-set, get_or-set_same, get_or-set_other}
use Rattle.std.proofs.lemmas.Bool.{cases_eq, cases_lt}
use Rattle.pst_scen.specs.declared.event.Event.{Event}
use Rattle.pst_scen.specs.declared.event.Event.TheVariants.{Start}
use Rattle.pst_scen.specs.Trace.{starts_of}
use Rattle.pst_scen.specs.Plan.{Entries, AreGroupsNumbered, places_from, members}
use Rattle.pst_book.specs.Tables.{IsNext}
use Rattle.pst_book.proofs.Starting.{places_next, places_end, places_yes, members_begin}
use Rattle.pst_programs.specs.declared.program.Instruction.TheVariants.{Run}
use Rattle.pst_programs.specs.declared.program.Program.{Program}
use Rattle.pst_programs.specs.Machine.{IsAt, AreAt}
use Rattle.pst_static.specs.Standing.{HasBegun}
use Rattle.pst_static.specs.Taking.{IsTaken}

append_nil : {X : Type 0} (xs : List X) → xs ++ [] ≡ xs
append_nil [] = refl
append_nil (x ∷ xs) = ap (λ v. x ∷ v) (append_nil xs)

are_at_push : (programs : List Program) (places ms us : List ℕ) (a u : ℕ) → AreAt programs places ms us → IsAt programs places u (Run a) → AreAt programs places (ms ++ a ∷ []) (us ++ u ∷ [])
are_at_push programs places [] [] a u h at = (at, tt)
are_at_push programs places [] (v ∷ us) a u h at = absurd h
are_at_push programs places (m ∷ ms) [] a u h at = absurd h
are_at_push programs places (m ∷ ms) (v ∷ us) a u h at = (h.0, are_at_push programs places ms us a u h.1 at)

-- the members that are left
abbrev left : Entries → ℕ → ℕ → List ℕ
left p act group = places_from (drop act p.groups) act group

-- the members below an action have started, each on a lane that stands at its `Run`
pub record Beginning (p : Entries) (programs : List Program) (places : List ℕ) (group act : ℕ) (old now : List Event) (room : ℕ) (before started : List Bool) : Type 0 where
  pub done : List ℕ
  pub used : List ℕ
  pub members_are : members p.groups group ≡ done ++ left p act group
  pub are_at : AreAt programs places done used
  pub now_is : (rest : List ℕ) → now ++ starts_of (left p act group) rest ≡ old ++ starts_of (members p.groups group) (used ++ rest)
  pub enough : length now + length (left p act group) ≤ room
  pub many : length started ≡ length before
  pub marked : (a : ℕ) → a < act → a < length p.groups → get_or p.groups a 0 ≡ group → get_or started a false ≡ true
  pub others : (a : ℕ) → (get_or p.groups a 0 ≡ group → ⊥) → get_or started a false ≡ get_or before a false

pub beginning_first : (p : Entries) (programs : List Program) (places : List ℕ) (group : ℕ) (old : List Event) (room : ℕ) (started : List Bool) → AreGroupsNumbered p.groups → group < length p.groups
    → length old + length (members p.groups group) ≤ room → Beginning p programs places group group old old room started started
beginning_first p programs places group old room started numbered g_in enough =
    let e = members_begin p.groups group numbered g_in in
    record {
      done = [];
      used = [];
      members_are = e;
      are_at = tt;
      now_is = λ rest. ap (λ v. old ++ starts_of v rest) (sym e);
      enough = subst (λ (v : List ℕ). length old + length v ≤ room) e enough;
      many = refl;
      marked = λ a l k q. let n = numbered.least a k in absurd (omega (arith, n, q, l));
      others = λ a n. refl;
    }

module _ (p : Entries) (programs : List Program) (places : List ℕ) (group act next : ℕ) (old now : List Event) (room : ℕ) (before started : List Bool)
    (b : Beginning p programs places group act old now room before started) (act_in : act < length p.groups) (here : get_or p.groups act 0 ≡ group) (is_next : IsNext p.groups act next) where
  step : left p act group ≡ act ∷ left p next group
  step = places_next p.groups act next group act_in here is_next

  pub some_room : length now < room
  some_room = let e = b.enough in let n : length (left p act group) ≡ suc (length (left p next group)) = ap (λ (v : List ℕ). length v) step in omega (arith, e, n)

  -- more start exactly where another member follows
  starts_more : (u : ℕ) (rest : List ℕ) (more : Bool) → (next < length p.groups → more ≡ true) → (length p.groups ≤ next → more ≡ false) → starts_of (act ∷ left p next group) (u ∷ rest) ≡ Start act u more ∷ starts_of (left p next group) rest
  starts_more u rest more yes_ no_ =
      ⊎_elim
      (λ l. let e = places_yes p.groups next group l (is_next.same l ∙ here) in
      subst (λ v. starts_of (act ∷ v) (u ∷ rest) ≡ Start act u more ∷ starts_of v rest) (sym e)
      (subst (λ m. Start act u true ∷ starts_of (next ∷ left p (next + 1) group) rest ≡ Start act u m ∷ starts_of (next ∷ left p (next + 1) group) rest) (sym (yes_ l)) refl))
      (λ l. let e = places_end p.groups next group l in
      subst (λ v. starts_of (act ∷ v) (u ∷ rest) ≡ Start act u more ∷ starts_of v rest) (sym e)
      (subst (λ m. Start act u false ∷ [] ≡ Start act u m ∷ []) (sym (no_ l)) refl))
      (cases_lt next (length p.groups))

  pub beginning_more : (u : ℕ) (more : Bool) (new : List Event) (new_room : ℕ) → (next < length p.groups → more ≡ true) → (length p.groups ≤ next → more ≡ false) → IsAt programs places u (Run act)
      → new ≡ now ++ Start act u more ∷ [] → room ≤ new_room → act < length started → Beginning p programs places group next old new new_room before (set started act true)
  beginning_more u more new new_room yes_ no_ at is up inside =
      record {
        done = b.done ++ act ∷ [];
        used = b.used ++ u ∷ [];
        members_are = b.members_are ∙ ap (λ v. b.done ++ v) step ∙ sym (append_assoc b.done (act ∷ []) (left p next group));
        are_at = are_at_push programs places b.done b.used act u b.are_at at;
        now_is = λ rest.
            ap (λ v. v ++ starts_of (left p next group) rest) is ∙ append_assoc now (Start act u more ∷ []) (starts_of (left p next group) rest)
            ∙ ap (λ v. now ++ v) (sym (starts_more u rest more yes_ no_)) ∙ ap (λ v. now ++ starts_of v (u ∷ rest)) (sym step) ∙ b.now_is (u ∷ rest)
            ∙ ap (λ v. old ++ starts_of (members p.groups group) v) (sym (append_assoc b.used (u ∷ []) rest));
        enough =
            let e = b.enough in
            let n : length (left p act group) ≡ suc (length (left p next group)) = ap (λ (v : List ℕ). length v) step in
            let m : length new ≡ length now + 1 = ap (λ (v : List Event). length v) is ∙ length-append now (Start act u more ∷ []) in
            omega (arith, e, n, m, up);
        many = length-set started act true ∙ b.many;
        marked = λ a l k q. ⊎_elim
            (λ e. subst (λ v. get_or (set started act true) v false ≡ true) (sym e) (get_or-set_same started act true false inside))
            (λ n. get_or-set_other started act a true false n
            ∙ ⊎_elim (λ m. b.marked a m k q) (λ m. absurd (is_next.none_between a (omega (arith, m, n)) l (q ∙ sym here))) (cases_lt a act))
            (cases_eq a act);
        others = λ a n. get_or-set_other started act a true false (λ e. n (subst (λ v. get_or p.groups v 0 ≡ group) (sym e) here)) ∙ b.others a n;
      }

-- all members have started
pub beginning_last : (p : Entries) (programs : List Program) (places : List ℕ) (group act : ℕ) (old now : List Event) (room : ℕ) (before started : List Bool) → length p.groups ≤ act
    → Beginning p programs places group act old now room before started → HasBegun programs places (members p.groups group) old now × IsTaken p group before started
beginning_last p programs places group act old now room before started past b =
    let none = places_end p.groups act group past in
    let e : members p.groups group ≡ b.done = b.members_are ∙ ap (λ v. b.done ++ v) none ∙ append_nil b.done in (
      record {
        used = b.used;
        are_at = subst (λ v. AreAt programs places v b.used) (sym e) b.are_at;
        new_is = sym (append_nil now) ∙ ap (λ v. now ++ starts_of v []) (sym none) ∙ b.now_is [] ∙ ap (λ v. old ++ starts_of (members p.groups group) v) (append_nil b.used);
      },
      record { members = λ a l q. b.marked a (omega (arith, l, past)) l q; others = b.others },
    )
