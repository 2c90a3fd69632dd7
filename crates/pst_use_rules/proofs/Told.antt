-- Findings, and what they are the least of.
use Rattle.std.proofs.Common.{◌≡◌, ◌⊎◌, inl, inr, ⊎_elim, ℕ, ℤ, ◌≤ℤ◌, int_le, Bool, true, false, not, ◌&&◌, ◌||◌, List, [], ◌∷◌, Option, refl, sym, ap, subst, ◌∙◌, arith, true≢false}
use Rattle.std.proofs.lemmas.Int.{ints}
use Rattle.std.proofs.lemmas.List.Elements.{Contains-append_left, Contains-append_right, Contains-append_cases, Contains-push, Contains-push_cases}
use Rattle.std.specs.Prelude.{Some, None, is_some, Contains}
use Rattle.pst_base.specs.declared.position.Place.{Place}
use Rattle.pst_base.specs.Laws.{BeforeGoesOn}
use Rattle.pst_expr.specs.declared.ranges.Span.{Span}
use Rattle.pst_expr.specs.Spans.{IsInSpan}
use Rattle.pst_ast.specs.declared.referent.Finding.{Finding}
use Rattle.pst_ast.specs.NameRules.{unless}
use Rattle.pst_name_rules.specs.Leasts.{NoLater, IsLeastOf, IsIn, least_at}
use Rattle.pst_name_rules.proofs.Leasts.{same_some, some_is_none, told, least_in}
use Rattle.pst_use_rules.specs.Found.{is_inside, keeps_limits}

abbrev pub at : Place → ℕ → Finding
at place rule = record { place = place; rule = rule }

pub no_later : (f g : Finding) → f ≡ g → NoLater f g
no_later f g e = inr (ap (λ (h : Finding). h.place) e, omega (arith, ap (λ (h : Finding). h.rule) e))

-- one place, by one rule
pub of_one : (P : Finding → Type 0) (good : Bool) (place : Place) (rule : ℕ) → (good ≡ false → P (at place rule)) → ((f : Finding) → P f → (good ≡ false) × (f ≡ at place rule)) → IsLeastOf P (unless good place rule)
of_one P true place rule to from = λ f has. true≢false (from f has).0
of_one P false place rule to from = (to refl, λ g has. no_later (at place rule) g (sym (from g has).1))

-- what one place breaks
pub unless_is : (good : Bool) (place : Place) (rule : ℕ) (f : Finding) → unless good place rule ≡ Some f → (good ≡ false) × (f ≡ at place rule)
unless_is true place rule f e = absurd (some_is_none (sym e))
unless_is false place rule f e = (refl, sym (same_some e))

pub is_unless : (good : Bool) (place : Place) (rule : ℕ) → good ≡ false → unless good place rule ≡ Some (at place rule)
is_unless good place rule e = ap (λ (b : Bool). unless b place rule) e

-- ---- lists

pub none_in : {X : Type 0} (x : X) → Contains [] x → ⊥
none_in x h = absurd (omega (arith, h.1))

pub cons_cases : {X : Type 0} (y x : X) (xs : List X) → Contains (y ∷ xs) x → (y ≡ x) ⊎ Contains xs x
cons_cases y x xs h =
    ⊎_elim (λ c. ⊎_elim (λ d. absurd (none_in x d)) (λ e. inl e) (Contains-push_cases [] y x c)) (λ d. inr d) (Contains-append_cases (y ∷ []) xs x h)

cons_first : {X : Type 0} (x : X) (xs : List X) → Contains (x ∷ xs) x
cons_first x xs = Contains-append_left (x ∷ []) xs x (Contains-push [] x)

cons_rest : {X : Type 0} (y x : X) (xs : List X) → Contains xs x → Contains (y ∷ xs) x
cons_rest y x xs h = Contains-append_right (y ∷ []) xs x h

in_found : {X : Type 0} (found : X → Option Finding) (xs : List X) (f : Finding) → IsIn found xs f → (x : X) × Contains xs x × (found x ≡ Some f)
in_found found [] f there = absurd there
in_found found (x ∷ xs) f there = ⊎_elim
    (λ here. (x, cons_first x xs, here))
    (λ later. let more = in_found found xs f later in (more.0, cons_rest x more.0 xs more.1, more.2))
    there

found_in : {X : Type 0} (found : X → Option Finding) (xs : List X) (x : X) (f : Finding) → Contains xs x → found x ≡ Some f → IsIn found xs f
found_in found [] x f among is = absurd (none_in x among)
found_in found (y ∷ ys) x f among is = ⊎_elim
    (λ e. inl (ap found e ∙ is))
    (λ more. inr (found_in found ys x f more is))
    (cons_cases y x ys among)

-- what is found at the elements of a list
pub of_each : BeforeGoesOn → {X : Type 0} (found : X → Option Finding) (xs : List X) (P : Finding → Type 0) → ((x : X) (f : Finding) → Contains xs x → found x ≡ Some f → P f)
    → ((f : Finding) → P f → (x : X) × Contains xs x × (found x ≡ Some f)) → IsLeastOf P (least_at found xs None)
of_each on found xs P to from =
    told on (λ f. ⊥ ⊎ IsIn found xs f) P (least_at found xs None)
    (λ f has. ⊎_elim (λ never. absurd never) (λ there. let e = in_found found xs f there in to e.0 f e.1 e.2) has)
    (λ f has. let e = from f has in inr (found_in found xs e.0 f e.1 e.2))
    (least_in on found xs (λ f. ⊥) None (λ f never. never))

-- ---- tests

pub none_if : {X : Type 0} (o : Option X) → ((x : X) → o ≡ Some x → ⊥) → o ≡ None
none_if None never = refl
none_if (Some x) never = absurd (never x refl)

some_none : {X : Type 0} {x : X} → Some x ≡ None → ⊥
some_none e = true≢false (ap is_some e)

pub none_not : {X : Type 0} (o : Option X) (x : X) → o ≡ None → o ≡ Some x → ⊥
none_not o x none is = some_none (sym is ∙ none)

pub both_off : {X : Type 0} (c : Bool) (o : Option X) → (not c || is_some o) ≡ false → (c ≡ true) × (o ≡ None)
both_off true None e = (refl, refl)
both_off true (Some x) e = absurd (true≢false e)
both_off false o e = absurd (true≢false e)

pub off_both : {X : Type 0} (c : Bool) (o : Option X) → c ≡ true → o ≡ None → (not c || is_some o) ≡ false
off_both true None c o = refl
off_both true (Some x) c o = absurd (some_none o)
off_both false o c none = absurd (true≢false (sym c))

pub and_off : (a b : Bool) → (a && b) ≡ false → (a ≡ false) ⊎ (b ≡ false)
and_off true b e = inr e
and_off false b e = inl refl

pub off_and : (a b : Bool) → (a ≡ false) ⊎ (b ≡ false) → (a && b) ≡ false
off_and true b (inl e) = absurd (true≢false e)
off_and true b (inr e) = e
off_and false b e = refl

pub on_and : (a b : Bool) → (a && b) ≡ true → (a ≡ true) × (b ≡ true)
on_and true b e = (refl, e)
on_and false b e = absurd (true≢false (sym e))

pub and_on : (a b : Bool) → a ≡ true → b ≡ true → (a && b) ≡ true
and_on true b p q = q
and_on false b p q = absurd (true≢false (sym p))

pub not_off : (b : Bool) → not b ≡ false → b ≡ true
not_off true e = refl
not_off false e = absurd (true≢false e)

pub off_not : (b : Bool) → b ≡ true → not b ≡ false
off_not true e = refl
off_not false e = absurd (true≢false (sym e))

inside_on : (s : Span) (v : ℤ) → IsInSpan v s → is_inside s v ≡ true
inside_on s v (low, high) = and_on (int_le s.low v) (int_le v s.high) (grind (arith, ints)) (grind (arith, ints))

pub outside : (s : Span) (v : ℤ) → is_inside s v ≡ false → IsInSpan v s → ⊥
outside s v off within = true≢false (sym (inside_on s v within) ∙ off)

pub off_inside : (s : Span) (v : ℤ) → (IsInSpan v s → ⊥) → is_inside s v ≡ false
off_inside s v never = go (int_le s.low v) (int_le v s.high) refl refl
  where
    go : (a b : Bool) → int_le s.low v ≡ a → int_le v s.high ≡ b → (a && b) ≡ false
    go true true p q = absurd (never (omega (arith, ints, p), omega (arith, ints, q)))
    go true false p q = refl
    go false b p q = refl

pub exceeds : (limits : Option Span) (value : Option ℤ) → keeps_limits limits value ≡ false → (s : Span) × (v : ℤ) × (limits ≡ Some s) × (value ≡ Some v) × (is_inside s v ≡ false)
exceeds None value e = absurd (true≢false e)
exceeds (Some s) None e = absurd (true≢false e)
exceeds (Some s) (Some v) e = (s, v, refl, refl, e)

pub exceeding : (limits : Option Span) (value : Option ℤ) (s : Span) (v : ℤ) → limits ≡ Some s → value ≡ Some v → is_inside s v ≡ false → keeps_limits limits value ≡ false
exceeding limits value s v l w off = ap (λ (o : Option Span). keeps_limits o value) l ∙ ap (keeps_limits (Some s)) w ∙ off
