-- Findings of uses, declarations and loops, and the breaches of the rules of names.
use Rattle.std.proofs.Common.{◌≡◌, ◌⊎◌, inl, inr, ⊎_elim, ℕ, ◌≤◌, Bool, true, false, ◌||◌, List, [], ◌∷◌, Option, refl, sym, ap, subst, ◌∙◌, arith, true≢false}
use Rattle.std.specs.Prelude.{Some, None, if◌then◌else◌, Contains}
use Rattle.pst_base.specs.declared.position.Place.{Place}
use Rattle.pst_base.specs.Places.{IsBefore}
use Rattle.pst_ast.specs.DeclarationTree.{UnitTree}
use Rattle.pst_ast.specs.declared.scope_declaration.Declaration.{Declaration}
use Rattle.pst_ast.specs.declared.referent.Finding.{Finding}
use Rattle.pst_ast.specs.Declarations.{declarations}
use Rattle.pst_ast.specs.NameRules.{NameBreach, OfDeclaration, OfUse, NoRoot, DeclarationBreaks, Twice, Loops, Inherits, Reserved, finding, is_declared_before, is_in_base, finish_of, use_finding}
use Rattle.pst_ast.specs.Uses.{uses}
use Rattle.pst_loops.specs.First.{IsOnLoop, IsFirstOnLoop, IsNotAfter}
use Rattle.pst_name_rules.specs.Own.{own_finding, is_reserved}
use Rattle.pst_name_rules.specs.Leasts.{NoLater, IsLeastOf, IsIn}
use Rattle.pst_names.specs.Resolved.{IsBreach, IsRootless}
use Rattle.pst_names.proofs.Elements.{none_in, cons_cases, cons_first, cons_rest}
use Rattle.pst_name_rules.proofs.Leasts.{same_some, some_is_none}

-- something found is found at an element
pub in_found : {X : Type 0} (found : X → Option Finding) (xs : List X) (f : Finding) → IsIn found xs f → (x : X) × Contains xs x × (found x ≡ Some f)
in_found found [] f there = absurd there
in_found found (x ∷ xs) f there = ⊎_elim
    (λ here. (x, cons_first x xs, here))
    (λ later. let more = in_found found xs f later in (more.0, cons_rest x more.0 xs more.1, more.2))
    there

pub found_in : {X : Type 0} (found : X → Option Finding) (xs : List X) (x : X) (f : Finding) → Contains xs x → found x ≡ Some f → IsIn found xs f
found_in found [] x f among is = absurd (none_in x among)
found_in found (y ∷ ys) x f among is = ⊎_elim
    (λ e. inl (ap found e ∙ is))
    (λ more. inr (found_in found ys x f more is))
    (cons_cases y x ys among)

abbrev at : Place → ℕ → Finding
at place rule = record { place = place; rule = rule }

no_later : (f g : Finding) → f ≡ g → NoLater f g
no_later f g e = inr (ap (λ (h : Finding). h.place) e, omega (arith, ap (λ (h : Finding). h.rule) e))

-- a breach of rule 5 at the name of a declaration
abbrev pub IsLoop : List Declaration → Finding → Type 0
IsLoop ds f = (d : Declaration) × IsOnLoop ds d × (f.place ≡ d.name.place) × (f.rule ≡ 5)

not_after : (f : Finding) (place : Place) (g : Finding) → IsNotAfter f.place place → g.place ≡ place → f.rule ≡ 5 → g.rule ≡ 5 → NoLater f g
not_after f place g (inl before) there five same = inl (subst (λ (p : Place). IsBefore f.place p) (sym there) before)
not_after f place g (inr e) there five same = inr (e ∙ sym there, omega (arith, five, same))

-- the first on a loop, as the least of what is found
pub least_loop : (ds : List Declaration) (found : Option Finding) → IsFirstOnLoop ds found → IsLeastOf (IsLoop ds) found
least_loop ds None none = λ f has. none has.0 has.1
least_loop ds (Some f) first = ((first.is.0, first.is.1, first.is.2, first.rule), λ g has. not_after f has.0.name.place g (first.first has.0 has.1) has.2 first.rule has.3)

module _ (units : List UnitTree) (names : List (List ℕ)) where
  abbrev ds : List Declaration
  ds = declarations units

  abbrev pub IsFound : Finding → Type 0
  IsFound f = ((IsIn (use_finding ds names) (uses units) f ⊎ IsIn (own_finding ds names) ds f) ⊎ IsLoop ds f) ⊎ IsRootless units names f

  -- ---- what is found is a breach

  use_breaks : (f : Finding) → IsIn (use_finding ds names) (uses units) f → IsBreach units names f
  use_breaks f there = let (u, among, is) = in_found (use_finding ds names) (uses units) f there in OfUse u f.place f.rule among is

  own_breaks_by : (d : Declaration) (f : Finding) → Contains ds d → (twice inherits reserved : Bool) → is_declared_before ds d ≡ twice → is_in_base ds d ≡ inherits → is_reserved ds names d ≡ reserved
      → (if twice then finding d.name.place 1 else (if inherits || reserved then finding d.name.place 7 else None)) ≡ Some f → IsBreach units names f
  own_breaks_by d f among true inherits reserved t i r e = subst (IsBreach units names) (same_some e) (OfDeclaration d 1 among (Twice t))
  own_breaks_by d f among false true reserved t i r e = subst (IsBreach units names) (same_some e) (OfDeclaration d 7 among (Inherits i))
  own_breaks_by d f among false false true t i r e = subst (IsBreach units names) (same_some e) (OfDeclaration d 7 among (Reserved r))
  own_breaks_by d f among false false false t i r e = absurd (some_is_none (sym e))

  own_breaks : (f : Finding) → IsIn (own_finding ds names) ds f → IsBreach units names f
  own_breaks f there =
      let (d, among, is) = in_found (own_finding ds names) ds f there in
      own_breaks_by d f among (is_declared_before ds d) (is_in_base ds d) (is_reserved ds names d) refl refl refl is

  loop_breaks : (f : Finding) → IsLoop ds f → IsBreach units names f
  loop_breaks f (d, (among, back), place, rule) = subst (λ (p : Place). NameBreach units names p f.rule) (sym place) (subst (λ (r : ℕ). NameBreach units names d.name.place r) (sym rule) (OfDeclaration d 5 among (Loops back)))

  rootless_breaks : (f : Finding) → IsRootless units names f → IsBreach units names f
  rootless_breaks f (front, last, split, none, is) = subst (IsBreach units names) (sym is) (NoRoot front last split none)

  pub found_breaks : (f : Finding) → IsFound f → IsBreach units names f
  found_breaks f is = ⊎_elim (λ three. ⊎_elim (λ two. ⊎_elim (use_breaks f) (own_breaks f) two) (loop_breaks f) three) (rootless_breaks f) is

  -- ---- each breach is found, or one that is no later

  abbrev pub IsCovered : Finding → Type 0
  IsCovered g = (h : Finding) × IsFound h × NoLater h g

  twice_found : (d : Declaration) → is_declared_before ds d ≡ true → own_finding ds names d ≡ finding d.name.place 1
  twice_found d t = ap (λ (b : Bool). if b then finding d.name.place 1 else (if is_in_base ds d || is_reserved ds names d then finding d.name.place 7 else None)) t

  own_covers : (d : Declaration) → Contains ds d → (rule : ℕ) → own_finding ds names d ≡ finding d.name.place rule → (later : ℕ) → rule ≤ later → IsCovered (at d.name.place later)
  own_covers d among rule is later le = (at d.name.place rule, inl (inl (inr (found_in (own_finding ds names) ds d (at d.name.place rule) among is))), inr (refl, le))

  seven_found : (d : Declaration) (twice : Bool) → is_declared_before ds d ≡ twice → (is_in_base ds d || is_reserved ds names d) ≡ true → Contains ds d → IsCovered (at d.name.place 7)
  seven_found d true t s among = own_covers d among 1 (twice_found d t) 7 (omega arith)
  seven_found d false t s among = own_covers d among 7
      (ap (λ (b : Bool). if b then finding d.name.place 1 else (if is_in_base ds d || is_reserved ds names d then finding d.name.place 7 else None)) t ∙ ap (λ (b : Bool). if b then finding d.name.place 7 else None) s)
      7 (omega arith)

  right_true : (a b : Bool) → b ≡ true → (a || b) ≡ true
  right_true true b e = refl
  right_true false b e = e

  left_true : (a b : Bool) → a ≡ true → (a || b) ≡ true
  left_true true b e = refl
  left_true false b e = absurd (true≢false (sym e))

  declaration_covered : (d : Declaration) {rule : ℕ} → Contains ds d → DeclarationBreaks ds names d rule → IsCovered (at d.name.place rule)
  declaration_covered d among (Twice t) = own_covers d among 1 (twice_found d t) 1 (omega arith)
  declaration_covered d among (Loops back) = (at d.name.place 5, inl (inr (d, (among, back), refl, refl)), no_later (at d.name.place 5) (at d.name.place 5) refl)
  declaration_covered d among (Inherits i) = seven_found d (is_declared_before ds d) refl (left_true (is_in_base ds d) (is_reserved ds names d) i) among
  declaration_covered d among (Reserved r) = seven_found d (is_declared_before ds d) refl (right_true (is_in_base ds d) (is_reserved ds names d) r) among

  breach_covered : {place : Place} {rule : ℕ} → NameBreach units names place rule → IsCovered (at place rule)
  breach_covered (OfDeclaration d rule among breaks) = declaration_covered d among breaks
  breach_covered (OfUse u place rule among is) = (at place rule, inl (inl (inl (found_in (use_finding ds names) (uses units) u (at place rule) among is))), no_later (at place rule) (at place rule) refl)
  breach_covered (NoRoot front last split none) = (at (finish_of last) 8, inr (front, last, split, none, refl), no_later (at (finish_of last) 8) (at (finish_of last) 8) refl)

  pub breaks_covered : (g : Finding) → IsBreach units names g → IsCovered g
  breaks_covered g breaks = breach_covered breaks
