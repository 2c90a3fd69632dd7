-- What stands behind the word constraint, as functions of the program read it.
use Rattle.pst_ast.specs.ConstraintTree.{ConstraintTree}
use Rattle.pst_ast.specs.Limits.{Count, counted, is_over}
use Rattle.pst_ast.specs.declared.fault.SyntaxFault.TheVariants as the_fault
use Rattle.pst_ast.specs.declared.fault.SyntaxFault.{SyntaxFault}
use Rattle.pst_ast.specs.declared.leaf.Name.{Name}
use Rattle.pst_parse_decl.proofs.Behind.{first_count, content_takes, reads_behind}
use Rattle.pst_parse_decl.specs.Families.{content_family, named_family, set_content_family, whole_set_family}
use Rattle.pst_parse_decl.specs.Objects.{content_by, behind, set_content_by, behind_name_by, named_constraint_by}
use Rattle.pst_parse_expr.specs.ConstraintFamilies.{set_family}
use Rattle.pst_parse_expr.specs.Constraints.{is_at, constraint_at}
use Rattle.pst_reading.proofs.Reaching.{Reaches}
use Rattle.pst_reading.proofs.Tokens.{name_is}
use Rattle.pst_reading.specs.Gives.{SettlesFrom, FailsFrom}
use Rattle.pst_reading.specs.Kinds.{is_name, next_is}
use Rattle.pst_reading.specs.Parser.{Done, Wrong, Take, followed_by, next, run, Outcome, TooDeep}
use Rattle.pst_token.specs.declared.kind.Kind.TheVariants as kind
use Rattle.pst_token.specs.declared.token.Token.{Token}
use Rattle.std.proofs.Common.{refl, sym, ap, subst, ◌∙◌, arith, ℕ, zero, suc, ◌≤◌, ◌+◌, ◌≡◌, Bool, true, false, if◌then◌else◌, List, [], ◌∷◌, Some, drop, ◌&&◌}
use Rattle.std.proofs.lemmas.Bool.{le-ltb, and_parts}

-- one derivation more is no limit's end
pub light : (d : ℕ) → d ≤ 63 → is_over (counted (suc d) 0) ≡ false
light d le = rw (le-ltb 64 (suc d) (omega (arith, le))) refl

module _ (d : ℕ) where
  abbrev c : Count
  c = counted (suc d) 0

  -- a name and a brace
  named_same : (size prefixes : ℕ) (t : Token) (us : List Token) → is_name t ≡ true → is_at kind.LeftBrace (next us) ≡ true → run is_over (content_by size d) (t ∷ us) ≡ run is_over (named_family (suc d) d size prefixes) (t ∷ us)
  named_same size prefixes t us e f = both (is_name t) e
    where
      brace : (k : Bool) → k ≡ true → (if is_over c then TooDeep (t ∷ us) else run is_over (if k then named_constraint_by size d (record { id = t.name; place = t.place }) else behind t (set_content_by size d)) us) ≡ (if is_over c then TooDeep (t ∷ us) else run is_over (named_constraint_by size d (record { id = t.name; place = t.place })) us)
      brace true g = refl
      brace false g = absurd cc

      both : (b : Bool) → b ≡ true → run is_over (if b then Take c (behind_name_by size d) else set_content_by size d) (t ∷ us) ≡ run is_over (followed_by (if b then Take c (λ token. Done (record { id = token.name; place = token.place })) else Wrong) (λ (name : Name). named_constraint_by size d name)) (t ∷ us)
      both true g = brace (is_at kind.LeftBrace (next us)) f
      both false g = absurd cc

  -- anything else
  set_same : is_over c ≡ false → (size : ℕ) (t : Token) (us : List Token) → (is_name t && is_at kind.LeftBrace (next us)) ≡ false → run is_over (content_by size d) (t ∷ us) ≡ run is_over (set_content_by size d) (t ∷ us)
  set_same free size t us e = both (is_name t) refl e
    where
      brace : is_name t ≡ true → (k : Bool) → k ≡ false → (if is_over c then TooDeep (t ∷ us) else run is_over (if k then named_constraint_by size d (record { id = t.name; place = t.place }) else behind t (set_content_by size d)) us) ≡ run is_over (set_content_by size d) (t ∷ us)
      brace g true f = absurd cc
      brace g false f =
          let takes = subst (λ (u : Token). first_count (set_content_by size d) u ≡ Some c) (sym (name_is t g)) (content_takes (record { id = t.name; place = t.place }) size d) in
          ap (λ (b : Bool). if b then TooDeep (t ∷ us) else run is_over (behind t (set_content_by size d)) us) free ∙ sym (reads_behind is_over (set_content_by size d) t c us takes free)

      both : (b : Bool) → is_name t ≡ b → (b && is_at kind.LeftBrace (next us)) ≡ false → run is_over (if b then Take c (behind_name_by size d) else set_content_by size d) (t ∷ us) ≡ run is_over (set_content_by size d) (t ∷ us)
      both false g h = refl
      both true g h = brace g (is_at kind.LeftBrace (next us)) h

  module _ (tokens : List Token) (at : ℕ) where
    named_here : (ts us : List Token) → drop at tokens ≡ ts → drop (at + 1) tokens ≡ us → us ≡ drop 1 ts → (next_is is_name (next ts) && is_at kind.LeftBrace (next us)) ≡ true → (size prefixes : ℕ) → run is_over (content_by size d) ts ≡ run is_over (named_family (suc d) d size prefixes) ts
    named_here [] us e f g h size prefixes = absurd cc
    named_here (t ∷ ts) us e f g h size prefixes =
        let p = and_parts (is_name t) (is_at kind.LeftBrace (next us)) h in
        named_same size prefixes t ts p.0 (subst (λ (u : List Token). is_at kind.LeftBrace (next u) ≡ true) g p.1)

    behind_one : drop (at + 1) tokens ≡ drop 1 (drop at tokens)
    behind_one = go at tokens
      where
        go : (n : ℕ) (ts : List Token) → drop (n + 1) ts ≡ drop 1 (drop n ts)
        go zero ts = refl
        go (suc n) [] = let e : suc n + 1 ≡ suc (n + 1) = omega arith in rw e refl
        go (suc n) (x ∷ ts) = let e : suc n + 1 ≡ suc (n + 1) = omega arith in rw e (go n ts)

    pub reaches_named : (inner : ℕ) → inner ≡ suc d → (next_is is_name (next (drop at tokens)) && is_at kind.LeftBrace (next (drop (at + 1) tokens))) ≡ true → Reaches (content_family d) tokens at at (named_family inner d) at
    reaches_named inner deeper h = subst (λ (i : ℕ). Reaches (content_family d) tokens at at (named_family i d) at) (sym deeper) (record { same = λ size prefixes m n. named_here (drop at tokens) (drop (at + 1) tokens) refl refl behind_one h size prefixes; from = omega arith })

    set_here : is_over c ≡ false → (ts us : List Token) → us ≡ drop 1 ts → (next_is is_name (next ts) && is_at kind.LeftBrace (next us)) ≡ false → (size : ℕ) → run is_over (content_by size d) ts ≡ run is_over (set_content_by size d) ts
    set_here free [] us g h size = refl
    set_here free (t ∷ ts) us g h size = set_same free size t ts (subst (λ (u : List Token). (is_name t && is_at kind.LeftBrace (next u)) ≡ false) g h)

    pub reaches_set : d ≤ 63 → (next_is is_name (next (drop at tokens)) && is_at kind.LeftBrace (next (drop (at + 1) tokens))) ≡ false → Reaches (content_family d) tokens at at (set_content_family d) at
    reaches_set le h = record { same = λ size prefixes m n. set_here (light d le) (drop at tokens) (drop (at + 1) tokens) behind_one h size; from = omega arith }

-- a set as its parser gives it
pub set_settles : (tokens : List Token) (start at d : ℕ) (o : Outcome ConstraintTree) → SettlesFrom (set_family d) tokens start at o → SettlesFrom (whole_set_family d) tokens start at o
unfolding constraint_at
set_settles tokens start at d o h = h

pub set_fails : (tokens : List Token) (start at d : ℕ) (e : SyntaxFault) → FailsFrom (set_family d) tokens start at e → FailsFrom (whole_set_family d) tokens start at e
unfolding constraint_at
set_fails tokens start at d (the_fault.At k) h = h
set_fails tokens start at d (the_fault.Deep k) h = h
set_fails tokens start at d the_fault.NoMemory h = h
