-- Appending changes and taking them back.
use Rattle.std.proofs.Common.{◌≡◌, ℕ, ◌<◌, ◌≤◌, List, [], ◌∷◌, ◌++◌, length, take, drop, set, Option, Some, refl, sym, ap, subst, ◌∙◌, append_assoc, append-nil}
use Rattle.std.proofs.lemmas.List.{length-set, set-set, set-get_or, drop-append-le, take-append-le, drop_all, take_all}
use Rattle.std.proofs.lemmas.List.Elements.{All-append, All-nil, All-cons, All-pop}
use Rattle.pst_expr.specs.declared.ranges.Span.{Span}
use Rattle.pst_domain.specs.Bounds.{bound_of}
use Rattle.pst_narrow.specs.declared.trail.Former.{Former}
use Rattle.pst_narrow.specs.Trail.{put_back, AreBelow, Extends}

pub put_back-append : (xs ys : List Former) (b : List (Option Span)) → put_back (xs ++ ys) b ≡ put_back xs (put_back ys b)
put_back-append [] ys b = refl
put_back-append (x ∷ xs) ys b = ap (λ c. set c x.variable x.bound) (put_back-append xs ys b)

pub length-put_back : (xs : List Former) (b : List (Option Span)) → length (put_back xs b) ≡ length b
length-put_back [] b = refl
length-put_back (x ∷ xs) b = length-set (put_back xs b) x.variable x.bound ∙ length-put_back xs b

pub extends_refl : (t : List Former) (b : List (Option Span)) → Extends t t b b
extends_refl t b = record { more = []; appended = sym (append-nil t); below = All-nil (λ former. former.variable < length b); back = refl }

pub extends_then : (t u v : List Former) (a b c : List (Option Span)) → length b ≡ length a → Extends t u a b → Extends u v b c → Extends t v a c
extends_then t u v a b c same e f =
    record {
      more = e.more ++ f.more;
      appended = f.appended ∙ (ap (λ x. x ++ f.more) e.appended ∙ append_assoc t e.more f.more);
      below = All-append (λ former. former.variable < length a) e.more f.more e.below (subst (λ n. AreBelow n f.more) same f.below);
      back = put_back-append e.more f.more c ∙ (ap (put_back e.more) f.back ∙ e.back);
    }

-- one change
pub extends_set : (t : List Former) (b : List (Option Span)) (i : ℕ) (s : Option Span) → i < length b → Extends t (t ++ record { variable = i; bound = bound_of b i } ∷ []) b (set b i s)
extends_set t b i s below =
    record {
      more = record { variable = i; bound = bound_of b i } ∷ [];
      appended = refl;
      below = All-cons (λ former. former.variable < length b) _ [] below (All-nil (λ former. former.variable < length b));
      back = set-set b i s (bound_of b i) ∙ set-get_or b i _;
    }

-- ---- what the loop of `undo` keeps
pub record IsPartlyBack (mark : ℕ) (t u : List Former) (a b : List (Option Span)) : Type 0 where
  pub room : mark ≤ length u
  pub kept : take mark u ≡ take mark t
  pub below : AreBelow (length b) (drop mark u)
  pub back : put_back (drop mark u) b ≡ put_back (drop mark t) a

pub one_back : (mark : ℕ) (t u : List Former) (f : Former) (a b : List (Option Span)) → mark ≤ length u → IsPartlyBack mark t (u ++ f ∷ []) a b → IsPartlyBack mark t u a (set b f.variable f.bound)
one_back mark t u f a b room h =
    let split = drop-append-le mark u (f ∷ []) room in
    let parts = All-pop (λ former. former.variable < length b) (drop mark (u ++ f ∷ [])) (drop mark u) (Some f) split h.below in
    record {
      room = room;
      kept = sym (take-append-le mark u (f ∷ []) room) ∙ h.kept;
      below = subst (λ n. AreBelow n (drop mark u)) (sym (length-set b f.variable f.bound)) parts.0;
      back = sym (put_back-append (drop mark u) (f ∷ []) b) ∙ (ap (λ x. put_back x b) (sym split) ∙ h.back);
    }

pub last_below : (mark : ℕ) (t u : List Former) (f : Former) (a b : List (Option Span)) → mark ≤ length u → IsPartlyBack mark t (u ++ f ∷ []) a b → f.variable < length b
last_below mark t u f a b room h =
    let split = drop-append-le mark u (f ∷ []) room in
    (All-pop (λ former. former.variable < length b) (drop mark (u ++ f ∷ [])) (drop mark u) (Some f) split h.below).1

pub all_back : (mark : ℕ) (t u : List Former) (a b : List (Option Span)) → length u ≤ mark → IsPartlyBack mark t u a b → (b ≡ put_back (drop mark t) a) × (u ≡ take mark t)
all_back mark t u a b end h =
    (ap (λ x. put_back x b) (sym (drop_all mark u end)) ∙ h.back, sym (take_all mark u end) ∙ h.kept)
