-- What is read within the limits, and where a limit is broken.
use Rattle.std.proofs.Common.{◌≡◌, ℕ, zero, suc, ◌+◌, ◌<◌, ◌≤◌, List, [], ◌∷◌, ◌++◌, length, drop, Bool, true, false, Some, None, Option, refl, sym, ap, ◌∙◌, arith}
use Rattle.std.specs.Option.{option_map}
use Rattle.pst_token.specs.declared.token.Token.{Token}
use Rattle.pst_ast.specs.Limits.{Count, is_over, first_over}
use Rattle.pst_reading.specs.Parser.{Parser, Done, Wrong, Spent, Look, Take, Outcome, Took, Refused, TooDeep, Unread, next, run, read, counts_taken}

-- what the limits make of what is read without them
pub record BreaksAt {A : Type 0} (p : Parser A) (ts rest : List Token) : Type 0 where
  pub index : ℕ
  pub first : first_over (counts_taken p ts) ≡ Some index
  pub there : rest ≡ drop index ts
  pub inside : index < length ts

abbrev pub Kept : {A : Type 0} → Parser A → List Token → Outcome A → Type 0
Kept p ts (Took a rest) = (read p ts ≡ Took a rest) × (first_over (counts_taken p ts) ≡ None)
Kept p ts (Refused rest) = (read p ts ≡ Refused rest) × (first_over (counts_taken p ts) ≡ None)
Kept p ts (TooDeep rest) = BreaksAt p ts rest
Kept p ts (Unread rest) = (read p ts ≡ Unread rest) × (first_over (counts_taken p ts) ≡ None)

-- one token more in front, which keeps the limits
later : {A : Type 0} (c : Count) (go_on : Token → Parser A) (t : Token) (ts : List Token) → is_over c ≡ false → (o : Outcome A) → Kept (go_on t) ts o → Kept (Take c go_on) (t ∷ ts) o
later c go_on t ts e (Took a rest) h = (h.0, rw (e, h.1) refl)
later c go_on t ts e (Refused rest) h = (h.0, rw (e, h.1) refl)
later c go_on t ts e (TooDeep rest) h = record { index = suc h.index; first = rw (e, h.first) refl; there = h.there; inside = omega (arith, h.inside) }
later c go_on t ts e (Unread rest) h = (h.0, rw (e, h.1) refl)

token_taken : {A : Type 0} (c : Count) (go_on : Token → Parser A) (t : Token) (ts : List Token) → Kept (go_on t) ts (run is_over (go_on t) ts) → (b : Bool) → is_over c ≡ b → Kept (Take c go_on) (t ∷ ts) (run is_over (Take c go_on) (t ∷ ts))
token_taken c go_on t ts h true e = rw e (record { index = 0; first = rw e refl; there = refl; inside = omega arith })
token_taken c go_on t ts h false e = rw e (later c go_on t ts e (run is_over (go_on t) ts) h)

pub limits_kept : {A : Type 0} (p : Parser A) (ts : List Token) → Kept p ts (run is_over p ts)
limits_kept (Done a) ts = (refl, refl)
limits_kept Wrong ts = (refl, refl)
limits_kept Spent ts = (refl, refl)
limits_kept (Look choose) ts = go (run is_over (choose (next ts)) ts) (limits_kept (choose (next ts)) ts)
  where
    go : (o : Outcome _) → Kept (choose (next ts)) ts o → Kept (Look choose) ts o
    go (Took a rest) h = h
    go (Refused rest) h = h
    go (TooDeep rest) h = record { index = h.index; first = h.first; there = h.there; inside = h.inside }
    go (Unread rest) h = h
limits_kept (Take c go_on) [] = (refl, refl)
limits_kept (Take c go_on) (t ∷ ts) = token_taken c go_on t ts (limits_kept (go_on t) ts) (is_over c) refl
