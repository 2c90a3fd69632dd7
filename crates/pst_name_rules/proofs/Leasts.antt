-- The earlier of two least findings is the least of both.
use Rattle.std.proofs.Common.{◌≡◌, ◌⊎◌, inl, inr, ⊎_elim, ℕ, ◌<◌, ◌≤◌, Bool, true, false, nat_eq, nat_lt, nat_le, List, [], ◌∷◌, Option, refl, sym, ap, subst, ◌∙◌, arith, true≢false}
use Rattle.std.specs.Prelude.{Some, None, is_some, if◌then◌else◌}
use Rattle.std.proofs.lemmas.Bool.{ltb-true, ltb-false, leb-true, leb-false}
use Rattle.std.proofs.lemmas.Bool.Decides.{eqb_tells}
use Rattle.pst_base.specs.declared.position.Place.{Place}
use Rattle.pst_base.specs.Places.{IsBefore}
use Rattle.pst_base.specs.Laws.{BeforeGoesOn}
use Rattle.pst_ast.specs.declared.referent.Finding.{Finding}
use Rattle.pst_name_rules.specs.Earlier.{is_no_later, earlier}
use Rattle.pst_name_rules.specs.Leasts.{NoLater, IsLeastOf, IsIn, least_at}

abbrev place : ℕ → ℕ → ℕ → Place
place file line column = record { file = file; line = line; column = column }

-- what the test of two numbers tells, and of what follows where they are the same
module _ (a b : ℕ) (next : Bool) where
  passed : (if nat_eq a b then next else nat_lt a b) ≡ true → (a < b) ⊎ ((a ≡ b) × (next ≡ true))
  passed e = ⊎_elim
      (λ t. inr (t.1, sym (ap (λ (x : Bool). if x then next else nat_lt a b) t.0) ∙ e))
      (λ f. inl (ltb-true a b (sym (ap (λ (x : Bool). if x then next else nat_lt a b) f.0) ∙ e)))
      (eqb_tells a b)

  failed : (if nat_eq a b then next else nat_lt a b) ≡ false → (b < a) ⊎ ((a ≡ b) × (next ≡ false))
  failed e = ⊎_elim
      (λ t. inr (t.1, sym (ap (λ (x : Bool). if x then next else nat_lt a b) t.0) ∙ e))
      (λ f. let at_least = ltb-false a b (sym (ap (λ (x : Bool). if x then next else nat_lt a b) f.0) ∙ e) in inl (strictly at_least f.1))
      (eqb_tells a b)
    where
      strictly : b ≤ a → (a ≡ b → ⊥) → b < a
      strictly le apart = omega (arith, le, apart)

same_place : (p q : Place) → p.file ≡ q.file → p.line ≡ q.line → p.column ≡ q.column → p ≡ q
same_place p q file line column =
    ap (λ (f : ℕ). place f p.line p.column) file ∙ ap (λ (l : ℕ). place q.file l p.column) line ∙ ap (λ (c : ℕ). place q.file q.line c) column

is_no_later_so : (f g : Finding) → is_no_later f g ≡ true → NoLater f g
is_no_later_so f g e =
    let p = f.place in
    let q = g.place in
    let columns = if nat_eq p.column q.column then nat_le f.rule g.rule else nat_lt p.column q.column in
    let lines = if nat_eq p.line q.line then columns else nat_lt p.line q.line in
    ⊎_elim (λ l. inl (inl l))
    (λ file. ⊎_elim (λ l. inl (inr (file.0, inl l)))
    (λ line. ⊎_elim (λ l. inl (inr (file.0, inr (line.0, l))))
    (λ column. inr (same_place p q file.0 line.0 column.0, leb-true f.rule g.rule column.1))
    (passed p.column q.column (nat_le f.rule g.rule) line.1))
    (passed p.line q.line columns file.1))
    (passed p.file q.file lines e)

is_later : (f g : Finding) → is_no_later f g ≡ false → NoLater g f
is_later f g e =
    let p = f.place in
    let q = g.place in
    let columns = if nat_eq p.column q.column then nat_le f.rule g.rule else nat_lt p.column q.column in
    let lines = if nat_eq p.line q.line then columns else nat_lt p.line q.line in
    ⊎_elim (λ l. inl (inl l))
    (λ file. ⊎_elim (λ l. inl (inr (sym file.0, inl l)))
    (λ line. ⊎_elim (λ l. inl (inr (sym file.0, inr (sym line.0, l))))
    (λ column. inr (sym (same_place p q file.0 line.0 column.0), omega (arith, leb-false f.rule g.rule column.1)))
    (failed p.column q.column (nat_le f.rule g.rule) line.1))
    (failed p.line q.line columns file.1))
    (failed p.file q.file lines e)

pub some_is_none : {f : Finding} → Some f ≡ None → ⊥
some_is_none e = true≢false (ap is_some e)

or_else : Finding → Option Finding → Finding
or_else f None = f
or_else f (Some g) = g

pub same_some : {f g : Finding} → Some f ≡ Some g → f ≡ g
unfolding or_else
same_some {f} e = ap (or_else f) e

module _ (on : BeforeGoesOn) where
  pub goes_on : (f g h : Finding) → NoLater f g → NoLater g h → NoLater f h
  goes_on f g h (inl a) (inl b) = inl (on f.place g.place h.place a b)
  goes_on f g h (inl a) (inr b) = inl (subst (λ (z : Place). IsBefore f.place z) b.0 a)
  goes_on f g h (inr a) (inl b) = inl (subst (λ (z : Place). IsBefore z h.place) (sym a.0) b)
  goes_on f g h (inr a) (inr b) = inr (a.0 ∙ b.0, omega (arith, a.1, b.1))

  module _ (P Q : Finding → Type 0) where
    chosen : (a b : Finding) (first : Bool) → is_no_later a b ≡ first → IsLeastOf P (Some a) → IsLeastOf Q (Some b) → IsLeastOf (λ f. P f ⊎ Q f) (if first then Some a else Some b)
    chosen a b true is p q = (inl p.0, λ g has. ⊎_elim (λ there. p.1 g there) (λ there. goes_on a b g (is_no_later_so a b is) (q.1 g there)) has)
    chosen a b false is p q = (inr q.0, λ g has. ⊎_elim (λ there. goes_on b a g (is_later a b is) (p.1 g there)) (λ there. q.1 g there) has)

    pub least_of_both : (a b : Option Finding) → IsLeastOf P a → IsLeastOf Q b → IsLeastOf (λ f. P f ⊎ Q f) (earlier a b)
    least_of_both None None p q = λ f has. ⊎_elim (p f) (q f) has
    least_of_both None (Some b) p q = (inr q.0, λ g has. ⊎_elim (λ there. absurd (p g there)) (q.1 g) has)
    least_of_both (Some a) None p q = (inl p.0, λ g has. ⊎_elim (p.1 g) (λ there. absurd (q g there)) has)
    least_of_both (Some a) (Some b) p q = chosen a b (is_no_later a b) refl p q

  -- findings told in another way
  pub told : (P Q : Finding → Type 0) (found : Option Finding) → ((f : Finding) → P f → Q f) → ((f : Finding) → Q f → P f) → IsLeastOf P found → IsLeastOf Q found
  told P Q None to from least = λ f has. least f (from f has)
  told P Q (Some a) to from least = (to a least.0, λ g has. least.1 g (from g has))

  module _ {X : Type 0} (finding : X → Option Finding) where
    single : (x : X) (found : Option Finding) → finding x ≡ found → IsLeastOf (λ f. finding x ≡ Some f) found
    single x None is = λ f has. some_is_none (sym has ∙ is)
    single x (Some a) is = (is, λ g has. inr (ap (λ (f : Finding). f.place) (same_some (sym is ∙ has)), omega (arith, ap (λ (f : Finding). f.rule) (same_some (sym is ∙ has)))))

    pub least_in : (xs : List X) (P : Finding → Type 0) (before : Option Finding) → IsLeastOf P before → IsLeastOf (λ f. P f ⊎ IsIn finding xs f) (least_at finding xs before)
    least_in [] P before least = told P (λ f. P f ⊎ IsIn finding [] f) before (λ f has. inl has) (λ f has. ⊎_elim (λ there. there) (λ there. absurd there) has) least
    least_in (x ∷ xs) P before least =
        told (λ f. (P f ⊎ (finding x ≡ Some f)) ⊎ IsIn finding xs f) (λ f. P f ⊎ IsIn finding (x ∷ xs) f) (least_at finding xs (earlier before (finding x)))
        (λ f has. ⊎_elim (λ left. ⊎_elim (λ there. inl there) (λ here. inr (inl here)) left) (λ there. inr (inr there)) has)
        (λ f has. ⊎_elim (λ there. inl (inl there)) (λ more. ⊎_elim (λ here. inl (inr here)) (λ there. inr there) more) has)
        (least_in xs (λ f. P f ⊎ (finding x ≡ Some f)) (earlier before (finding x)) (least_of_both P (λ f. finding x ≡ Some f) before (finding x) least (single x (finding x) refl)))
