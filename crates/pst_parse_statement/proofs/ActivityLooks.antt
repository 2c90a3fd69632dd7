-- What the next token decides, at a place.
use Rattle.std.proofs.Common.{◌≡◌, ℕ, ◌≤◌, Bool, true, false, if◌then◌else◌, List, drop, refl, ap, ◌∙◌, arith}
use Rattle.pst_base.specs.declared.position.Place.{Place}
use Rattle.pst_token.specs.declared.kind.Kind.TheVariants as kind
use Rattle.pst_token.specs.declared.token.Token.{Token}
use Rattle.pst_ast.specs.Limits.{is_over}
use Rattle.pst_ast.specs.declared.fault.SyntaxFault.{SyntaxFault}
use Rattle.pst_ast.specs.declared.fault.SyntaxFault.TheVariants as the_fault
use Rattle.pst_ast.specs.ActivityTree.{StatementTree, CoreTree, CoreIf}
use Rattle.pst_ast.specs.ActivityProper.{statement_ends_open}
use Rattle.pst_reading.specs.Kinds.{is_mark, is_name, next_is}
use Rattle.pst_ast.specs.ExpressionTree.{ExprTree}
use Rattle.pst_reading.specs.Parser.{Done, Look, Outcome, Refused, TooDeep, run, next}
use Rattle.pst_reading.specs.Gives.{Family, SettlesFrom, FailsFrom}
use Rattle.pst_reading.proofs.Reaching.{Reaches, choose}
use Rattle.pst_parse_statement.specs.Activities.{maybe_else_by, else_by, statement_at}

-- a name, or not
pub name_decides : {A : Type 0} (whole : Family A) (tokens : List Token) (start at : ℕ) (p q : Family A) (place : ℕ) (b : Bool) → next_is is_name (next (drop place tokens)) ≡ b → Reaches whole tokens start at (λ m n. Look (λ next. if next_is is_name next then p m n else q m n)) place → Reaches whole tokens start at (λ m n. if b then p m n else q m n) place
name_decides whole tokens start at p q place b e r = record {
  same = λ size prefixes m n. r.same size prefixes m n ∙ ap (λ (x : Bool). run is_over (if x then p size prefixes else q size prefixes) (drop place tokens)) e;
  from = r.from;
}

-- an `else` behind an `if`, or none
module _ (whole : Family CoreTree) (tokens : List Token) (start at d : ℕ) (i l : Place) (e : ExprTree) (r : Place) (t : StatementTree) (place : ℕ) where
  pub no_else_behind : next_is (is_mark kind.Else) (next (drop place tokens)) ≡ false → Reaches whole tokens start at (λ m n. maybe_else_by (statement_at m) d i l e r t (statement_ends_open t)) place → Reaches whole tokens start at (λ m n. Done (CoreIf i l e r t)) place
  no_else_behind absent = go (statement_ends_open t)
    where
      go : (b : Bool) → Reaches whole tokens start at (λ m n. maybe_else_by (statement_at m) d i l e r t b) place → Reaches whole tokens start at (λ m n. Done (CoreIf i l e r t)) place
      go true h = h
      go false h = choose whole tokens start at kind.Else (λ m n. else_by (statement_at m) d i l e r t) (λ m n. Done (CoreIf i l e r t)) place false absent h

  pub else_behind : (statement_ends_open t ≡ true → next_is (is_mark kind.Else) (next (drop place tokens)) ≡ false) → next_is (is_mark kind.Else) (next (drop place tokens)) ≡ true → Reaches whole tokens start at (λ m n. maybe_else_by (statement_at m) d i l e r t (statement_ends_open t)) place → Reaches whole tokens start at (λ m n. else_by (statement_at m) d i l e r t) place
  else_behind none present = go (statement_ends_open t) refl
    where
      both_ways : next_is (is_mark kind.Else) (next (drop place tokens)) ≡ false → next_is (is_mark kind.Else) (next (drop place tokens)) ≡ true → ⊥
      both_ways x y = cc

      go : (b : Bool) → statement_ends_open t ≡ b → Reaches whole tokens start at (λ m n. maybe_else_by (statement_at m) d i l e r t b) place → Reaches whole tokens start at (λ m n. else_by (statement_at m) d i l e r t) place
      go true opens h = absurd (both_ways (none opens) present)
      go false closed h = choose whole tokens start at kind.Else (λ m n. else_by (statement_at m) d i l e r t) (λ m n. Done (CoreIf i l e r t)) place true present h

-- what suffices from a place on suffices from an earlier one
pub earlier : {A : Type 0} (F : Family A) (tokens : List Token) (start nearer at : ℕ) (o : Outcome A) → start ≤ nearer → SettlesFrom F tokens nearer at o → SettlesFrom F tokens start at o
earlier F tokens start nearer at o le h m n p q = h m n (omega (arith, p, le)) (omega (arith, q, le))

pub earlier_fault : {A : Type 0} (F : Family A) (tokens : List Token) (start nearer at : ℕ) (e : SyntaxFault) → start ≤ nearer → FailsFrom F tokens nearer at e → FailsFrom F tokens start at e
earlier_fault F tokens start nearer at (the_fault.At k) le h = (earlier F tokens start nearer at (Refused (drop k tokens)) le h.0, h.1, h.2)
earlier_fault F tokens start nearer at (the_fault.Deep k) le h = (earlier F tokens start nearer at (TooDeep (drop k tokens)) le h.0, h.1, h.2)
earlier_fault F tokens start nearer at the_fault.NoMemory le h = tt
