-- Marks of variables.
use Rattle.std.proofs.Common.{◌≡◌, ◌⊎◌, inl, inr, ℕ, zero, suc, ◌+◌, ◌<◌, ◌≤◌, List, [], ◌∷◌, ◌++◌, length, length-set, set, get_or, Bool, true, false, Some, None, refl, sym, ap, subst, ◌∙◌, arith}
use Rattle.std.specs.Prelude.{slice_get, Contains}
use Rattle.std.proofs.lemmas.List.{get_or_default}
use Rattle.std.proofs.lemmas.List.Elements.{Contains-get_or, Contains-append_left, Contains-append_right}
use Rattle.pst_narrow.specs.declared.trail.Former.{Former}
use Rattle.pst_narrow.specs.declared.watch.Watch.{Watch}
use Rattle.pst_narrow.specs.Watch.{IsRow, Has}
use Rattle.pst_reasons.specs.Firsts.{first_at}
use Rattle.pst_reasons.specs.Marks.{IsMarked, IsHeld, NoneIsMarked, MarksStay, IsMarkedToo, AreMarked, AreUnmarked, IsUnmarked}
use Rattle.pst_reasons.specs.declared.step.Cause.{Cause}
use Rattle.pst_reasons.specs.declared.step.Cause.TheVariants as cause
use Rattle.pst_reasons.specs.Reasons.{IsNamed, IsTaken, IsBack}

pub some_is : {X : Type 0} (x y : X) → Some x ≡ Some y → x ≡ y
some_is x y e = cc

at_set : (xs : List Bool) (t : ℕ) (y : Bool) → t < length xs → slice_get (set xs t y) t ≡ Some y
at_set [] t y l = absurd (omega arith)
at_set (x ∷ xs) zero y l = refl
at_set (x ∷ xs) (suc t) y l = at_set xs t y (omega arith)

beside_set : (xs : List Bool) (t i : ℕ) (y : Bool) → (i ≡ t → ⊥) → slice_get (set xs t y) i ≡ slice_get xs i
beside_set [] t i y n = refl
beside_set (x ∷ xs) zero zero y n = absurd (n refl)
beside_set (x ∷ xs) zero (suc i) y n = refl
beside_set (x ∷ xs) (suc t) zero y n = refl
beside_set (x ∷ xs) (suc t) (suc i) y n = beside_set xs t i y (λ e. n (ap suc e))

same_or : (i k : ℕ) → (i ≡ k) ⊎ (i ≡ k → ⊥)
same_or i k = grind arith

below_or : (i n : ℕ) → i < n + 1 → (i < n) ⊎ (i ≡ n)
below_or i n h = grind arith

-- ---- marking each of a row

pub record AreMarkedUpTo (variables firsts : List ℕ) (mark k : ℕ) (old new : List Bool) : Type 0 where
  pub long : length new ≡ length old
  pub kept : MarksStay old new
  pub marked : (j : ℕ) → j < k → j < length variables → IsHeld firsts mark new (get_or variables j 0)

pub none_yet : (variables firsts : List ℕ) (mark : ℕ) (old : List Bool) → AreMarkedUpTo variables firsts mark 0 old old
none_yet variables firsts mark old = record { long = refl; kept = λ v m. m; marked = λ j small. absurd (omega arith) }

set_keeps : (marks : List Bool) (x : ℕ) → x < length marks → MarksStay marks (set marks x true)
set_keeps marks x below v m = elim (same_or v x) [
  | inl e ↦ subst (λ i. slice_get (set marks x true) i ≡ Some true) (sym e) (at_set marks x true below)
  | inr n ↦ beside_set marks x v true n ∙ m
]

held_still : (firsts : List ℕ) (mark : ℕ) (mid new : List Bool) (v : ℕ) → MarksStay mid new → IsHeld firsts mark mid v → IsHeld firsts mark new v
held_still firsts mark mid new v stay (inl m) = inl (stay v m)
held_still firsts mark mid new v stay (inr late) = inr late

pub one_more : (variables firsts : List ℕ) (mark k : ℕ) (old mid new : List Bool) → IsMarkedToo (get_or variables k 0) firsts mark mid new → AreMarkedUpTo variables firsts mark k old mid → AreMarkedUpTo variables firsts mark (k + 1) old new
one_more variables firsts mark k old mid new too h =
    record {
      long = too.long ∙ h.long;
      kept = λ v m. too.kept v (h.kept v m);
      marked = λ j small within. elim (below_or j k small) [
        | inl less ↦ held_still firsts mark mid new (get_or variables j 0) too.kept (h.marked j less within)
        | inr last ↦ subst (λ i. IsHeld firsts mark new (get_or variables i 0)) (sym last) too.held
      ];
    }

pub marked_by : (x : ℕ) (firsts : List ℕ) (mark : ℕ) (old new : List Bool) → x < length old → new ≡ set old x true → IsMarkedToo x firsts mark old new
marked_by x firsts mark old new below is =
    record {
      long = ap length is ∙ length-set old x true;
      kept = subst (MarksStay old) (sym is) (set_keeps old x below);
      held = inl (subst (λ z. IsMarked z x) (sym is) (at_set old x true below));
    }

pub passed_by : (x : ℕ) (firsts : List ℕ) (mark : ℕ) (old : List Bool) → mark ≤ first_at firsts x → IsMarkedToo x firsts mark old old
passed_by x firsts mark old late = record { long = refl; kept = λ v m. m; held = inr late }

pub all_marked : (variables firsts : List ℕ) (mark k : ℕ) (old new : List Bool) → length variables ≤ k → AreMarkedUpTo variables firsts mark k old new → AreMarked variables firsts mark old new
all_marked variables firsts mark k old new end h =
    record {
      long = h.long;
      kept = h.kept;
      marked = λ v (j, small, at). subst (IsHeld firsts mark new) (get_or_default variables j 0 v small ∙ at) (h.marked j (omega arith) small);
    }

pub in_row : (variables : List ℕ) (k : ℕ) → k < length variables → Contains variables (get_or variables k 0)
in_row variables k below = Contains-get_or variables k 0 below

-- ---- a mark

pub unmarked : (marks : List Bool) (v : ℕ) (b : Bool) → slice_get marks v ≡ Some b → b ≡ false → IsMarked marks v → ⊥
unmarked marks v b at is m = absurd (let e = some_is b true (sym at ∙ m) in cc)

pub no_mark : (marks : List Bool) (v : ℕ) → slice_get marks v ≡ None → IsMarked marks v → ⊥
no_mark marks v at m = absurd cc

abbrev pub NoneMarkedUpTo : List Bool → List Former → ℕ → Type 0
NoneMarkedUpTo marks changes k = (j : ℕ) (d : Former) → j < k → j < length changes → IsMarked marks (get_or changes j d).variable → ⊥

pub none_marked : (marks : List Bool) (changes : List Former) (k : ℕ) → length changes ≤ k → NoneMarkedUpTo marks changes k → NoneIsMarked marks changes
none_marked marks changes k end h j d small = h j d (omega arith) small

pub one_unmarked : (marks : List Bool) (changes : List Former) (k : ℕ) (f : Former) → (d : Former) → f ≡ get_or changes k d → (IsMarked marks f.variable → ⊥) → NoneMarkedUpTo marks changes k → NoneMarkedUpTo marks changes (k + 1)
one_unmarked marks changes k f d is n h j e small within = elim (below_or j k small) [
  | inl less ↦ h j e less within
  | inr last ↦ λ m. n (subst (λ g. IsMarked marks g.variable) (ap (λ i. get_or changes i e) last ∙ (get_or_default changes k e d (omega (arith, within, last)) ∙ sym is)) m)
]

-- ---- a place is named

pub unmarked_set : (x : ℕ) (old : List Bool) → IsUnmarked x old (set old x false)
unmarked_set x old = record { long = length-set old x false; marks = λ v m. elim (same_or v x) [ inl e ↦ inl e | inr n ↦ inr (beside_set old x v false n ∙ m) ] }

pub unmarked_none : (x : ℕ) (old : List Bool) → IsUnmarked x old old
unmarked_none x old = record { long = refl; marks = λ v m. inr m }

pub named_by : (place x : ℕ) (old new : List Bool) (places more : List ℕ) → more ≡ places ++ place ∷ [] → IsUnmarked x old new → IsNamed place x old new places more
named_by place x old new places more is h =
    record {
      kept = λ k c. subst (λ z. Contains z k) (sym is) (Contains-append_left places (place ∷ []) k c);
      named = subst (λ z. Contains z place) (sym is) (Contains-append_right places (place ∷ []) place (0, omega arith, refl));
      unmarked = h;
    }

-- ---- rows of the index

pub has_of_row : (w : Watch) (c v : ℕ) (row : List ℕ) → IsRow w.mentioned.items c row → Contains row v → Has w.mentioned.items c v
has_of_row w c v row is there = (is.0, is.1, subst (λ z. Contains z v) (sym is.2) there)

pub row_of_has : (w : Watch) (c v : ℕ) (row : List ℕ) → IsRow w.mentioned.items c row → Has w.mentioned.items c v → Contains row v
row_of_has w c v row is has = subst (λ z. Contains z v) (ap (λ r. r.items) (some_is has.0 is.0 (sym has.1 ∙ is.1)) ∙ is.2) has.2

pub taken_of : (w : Watch) (c : ℕ) (firsts : List ℕ) (mark : ℕ) (row : List ℕ) (old mid new : List Bool) (places : List ℕ) → IsRow w.mentioned.items c row → AreMarked row firsts mark old mid → AreUnmarked firsts mark mid new → IsTaken w c firsts mark old new places places
taken_of w c firsts mark row old mid new places is h u = record {
  long = u.long ∙ h.long;
  kept = λ v m. u.held v (h.kept v m);
  marked = λ v has. elim (h.marked v (row_of_has w c v row is has)) [ inl m ↦ u.held v m | inr late ↦ inr late ];
  places_same = refl;
}

-- ---- marks are taken off

pub none_off : (firsts : List ℕ) (mark : ℕ) (old : List Bool) → AreUnmarked firsts mark old old
none_off firsts mark old = record { long = refl; held = λ v m. inl m }

pub off_by : (x : ℕ) (firsts : List ℕ) (mark : ℕ) (old new : List Bool) → mark ≤ first_at firsts x → IsUnmarked x old new → AreUnmarked firsts mark old new
off_by x firsts mark old new late u =
    record {
      long = u.long;
      held = λ v m. elim (u.marks v m) [ inl e ↦ inr (subst (λ i. mark ≤ first_at firsts i) (sym e) late) | inr still ↦ inl still ];
    }

pub off_then : (firsts : List ℕ) (mark : ℕ) (old mid new : List Bool) → AreUnmarked firsts mark old mid → AreUnmarked firsts mark mid new → AreUnmarked firsts mark old new
off_then firsts mark old mid new f g =
    record {
      long = g.long ∙ f.long;
      held = λ v m. elim (f.held v m) [ inl marked ↦ g.held v marked | inr late ↦ inr late ];
    }

pub back_taken : (w : Watch) (by : Cause) (c : ℕ) (firsts : List ℕ) (mark : ℕ) (changes : List Former) (row : List ℕ) (old mid new : List Bool) (places : List ℕ) → by ≡ cause.Constraint c → IsRow w.mentioned.items c row → AreMarked row firsts mark old mid → AreUnmarked firsts mark mid new → IsBack w by firsts mark changes old new places places
back_taken w by c firsts mark changes row old mid new places is at m u = subst (λ z. IsBack w z firsts mark changes old new places places) (sym is) (inr (taken_of w c firsts mark row old mid new places at m u))
