-- A parser at a place comes to what is left of it at a later place.
use Rattle.std.proofs.Common.{◌≡◌, ℕ, ◌+◌, ◌≤◌, Bool, if◌then◌else◌, List, length, drop, refl, ap, ◌∙◌, arith, Err, Result, Ok}
use Rattle.pst_base.specs.declared.position.Place.{Place}
use Rattle.pst_token.specs.declared.kind.Kind.{Kind}
use Rattle.pst_token.specs.declared.token.Token.{Token}
use Rattle.pst_ast.specs.Limits.{Count, is_over}
use Rattle.pst_ast.specs.declared.fault.SyntaxFault.{SyntaxFault}
use Rattle.pst_ast.specs.declared.fault.SyntaxFault.TheVariants as the_fault
use Rattle.pst_ast.specs.declared.leaf.Name.{Name}
use Rattle.pst_reading.specs.Kinds.{is_mark, next_is}
use Rattle.pst_reading.specs.Parser.{Parser, Done, followed_by, Outcome, Took, Refused, TooDeep, run, next, if_mark, mark_by, name_by, and_then}
use Rattle.pst_reading.specs.Gives.{Family, SettlesFrom, FailsFrom, Expects}
use Rattle.pst_reading.specs.Reads.{Reads, ReadsOpen}
use Rattle.pst_reading.proofs.Becoming.{run_followed}
use Rattle.pst_reading.proofs.Giving.{token_fails}

-- within the limits, whole gives at the first place what rest gives at the later one
pub record Reaches {A : Type 0} (whole : Family A) (tokens : List Token) (start at : ℕ) (rest : Family A) (place : ℕ) : Type 0 where
  pub same : (size prefixes : ℕ) → length tokens ≤ size + start → length tokens ≤ prefixes + start → run is_over (whole size prefixes) (drop at tokens) ≡ run is_over (rest size prefixes) (drop place tokens)
  pub from : at ≤ place

module _ {A : Type 0} (whole : Family A) (tokens : List Token) (start at : ℕ) where
  pub begin : Reaches whole tokens start at whole at
  begin = record { same = λ size prefixes m n. refl; from = omega arith }

  -- behind a part; what suffices for it from a nearer place on suffices from the start on
  pub step : {B : Type 0} (p : Family B) (f : ℕ → ℕ → B → Parser A) (near place after : ℕ) (b : B) → start ≤ near → place ≤ after → SettlesFrom p tokens near place (Took b (drop after tokens)) → Reaches whole tokens start at (λ m n. followed_by (p m n) (f m n)) place → Reaches whole tokens start at (λ m n. f m n b) after
  step p f near place after b low le h r = record {
    same = λ size prefixes m n. r.same size prefixes m n ∙ run_followed is_over (p size prefixes) (f size prefixes) (drop place tokens) ∙ ap (λ (o : Outcome _). and_then o (λ a rest. run is_over (f size prefixes a) rest)) (h size prefixes (omega (arith, m, low)) (omega (arith, n, low)));
    from = omega (arith, r.from, le);
  }

  -- a token
  pub mark_step : (k : Kind) (c : Count) (f : ℕ → ℕ → Place → Parser A) (place after : ℕ) (x : Place) → place + 1 ≡ after → run is_over (mark_by k c) (drop place tokens) ≡ Took x (drop (place + 1) tokens) → Reaches whole tokens start at (λ m n. followed_by (mark_by k c) (f m n)) place → Reaches whole tokens start at (λ m n. f m n x) after
  mark_step k c f place after x e h r = step (λ m n. mark_by k c) f start place after x (omega arith) (omega (arith, e)) (λ size prefixes m n. h ∙ ap (λ (i : ℕ). Took x (drop i tokens)) e) r

  pub name_step : (c : Count) (f : ℕ → ℕ → Name → Parser A) (place after : ℕ) (x : Name) → place + 1 ≡ after → run is_over (name_by c) (drop place tokens) ≡ Took x (drop (place + 1) tokens) → Reaches whole tokens start at (λ m n. followed_by (name_by c) (f m n)) place → Reaches whole tokens start at (λ m n. f m n x) after
  name_step c f place after x e h r = step (λ m n. name_by c) f start place after x (omega arith) (omega (arith, e)) (λ size prefixes m n. h ∙ ap (λ (i : ℕ). Took x (drop i tokens)) e) r

  -- a choice by the next token
  pub choose : (k : Kind) (p q : Family A) (place : ℕ) (b : Bool) → next_is (is_mark k) (next (drop place tokens)) ≡ b → Reaches whole tokens start at (λ m n. if_mark k (p m n) (q m n)) place → Reaches whole tokens start at (λ m n. if b then p m n else q m n) place
  choose k p q place b e r = record {
    same = λ size prefixes m n. r.same size prefixes m n ∙ ap (λ (x : Bool). run is_over (if x then p size prefixes else q size prefixes) (drop place tokens)) e;
    from = r.from;
  }

  -- what is left decides
  pub settles : (p : Family A) (place : ℕ) (o : Outcome A) → SettlesFrom p tokens start place o → Reaches whole tokens start at p place → SettlesFrom whole tokens start at o
  settles p place o h r size prefixes m n = r.same size prefixes m n ∙ h size prefixes m n

  pub ends : (a : A) (place : ℕ) → Reaches whole tokens start at (λ m n. Done a) place → SettlesFrom whole tokens start at (Took a (drop place tokens))
  ends a place r size prefixes m n = r.same size prefixes m n

  pub falls : (p : Family A) (place : ℕ) (e : SyntaxFault) → FailsFrom p tokens start place e → Reaches whole tokens start at p place → FailsFrom whole tokens start at e
  falls p place (the_fault.At k) h r = (settles p place (Refused (drop k tokens)) h.0 r, omega (arith, h.1, r.from), h.2)
  falls p place (the_fault.Deep k) h r = (settles p place (TooDeep (drop k tokens)) h.0 r, omega (arith, h.1, r.from), h.2)
  falls p place the_fault.NoMemory h r = tt

  -- a part fails
  pub fails : {B : Type 0} (p : Family B) (f : ℕ → ℕ → B → Parser A) (near place : ℕ) (e : SyntaxFault) → start ≤ near → FailsFrom p tokens near place e → Reaches whole tokens start at (λ m n. followed_by (p m n) (f m n)) place → FailsFrom whole tokens start at e
  fails p f near place (the_fault.At k) low h r = falls (λ m n. followed_by (p m n) (f m n)) place (the_fault.At k) (λ size prefixes m n. run_followed is_over (p size prefixes) (f size prefixes) (drop place tokens) ∙ ap (λ (o : Outcome _). and_then o (λ a rest. run is_over (f size prefixes a) rest)) (h.0 size prefixes (omega (arith, m, low)) (omega (arith, n, low))), h.1, h.2) r
  fails p f near place (the_fault.Deep k) low h r = falls (λ m n. followed_by (p m n) (f m n)) place (the_fault.Deep k) (λ size prefixes m n. run_followed is_over (p size prefixes) (f size prefixes) (drop place tokens) ∙ ap (λ (o : Outcome _). and_then o (λ a rest. run is_over (f size prefixes a) rest)) (h.0 size prefixes (omega (arith, m, low)) (omega (arith, n, low))), h.1, h.2) r
  fails p f near place the_fault.NoMemory low h r = tt

  pub mark_fails : (k : Kind) (c : Count) (f : ℕ → ℕ → Place → Parser A) (place : ℕ) (e : SyntaxFault) → place ≤ length tokens → Expects (mark_by k c) tokens place (Err e) → Reaches whole tokens start at (λ m n. followed_by (mark_by k c) (f m n)) place → FailsFrom whole tokens start at e
  mark_fails k c f place e le h r = fails (λ m n. mark_by k c) f start place e (omega arith) (token_fails tokens start (mark_by k c) place e le h) r

  pub name_fails : (c : Count) (f : ℕ → ℕ → Name → Parser A) (place : ℕ) (e : SyntaxFault) → place ≤ length tokens → Expects (name_by c) tokens place (Err e) → Reaches whole tokens start at (λ m n. followed_by (name_by c) (f m n)) place → FailsFrom whole tokens start at e
  name_fails c f place e le h r = fails (λ m n. name_by c) f start place e (omega arith) (token_fails tokens start (name_by c) place e le h) r

  -- what a part gives is what the whole gives, where nothing else is left of it
  pub reads_on : {X : Type 0} (view : X → A) (p : Family A) (place least more : ℕ) (x : Result (X × ℕ) SyntaxFault) → at + least ≤ place + more → Reads view p tokens start place more x → Reaches whole tokens start at p place → Reads view whole tokens start at least x
  reads_on view p place least more (Ok x) le h r = record { settles = settles p place (Took (view x.0) (drop x.1 tokens)) h.settles r; after = omega (arith, h.after, le); inside = h.inside }
  reads_on view p place least more (Err e) le h r = falls p place e h r

  pub reads_open_on : {X : Type 0} (view : X → A) (ends_open : A → Bool) (p : Family A) (x : Result (X × ℕ) SyntaxFault) → ReadsOpen view ends_open p tokens start at x → Reaches whole tokens start at p at → ReadsOpen view ends_open whole tokens start at x
  reads_open_on view ends_open p (Ok x) h r = record { settles = settles p at (Took (view x.0) (drop x.1 tokens)) h.settles r; after = h.after; inside = h.inside; no_else = h.no_else }
  reads_open_on view ends_open p (Err e) h r = falls p at e h r
