-- A look at two tokens is a choice between two parsers.
use Rattle.std.proofs.Common.{◌≡◌, ℕ, zero, suc, ◌+◌, ◌≤◌, Bool, true, false, ◌&&◌, if◌then◌else◌, List, [], ◌∷◌, length, drop, Some, Option, None, refl, sym, ap, subst, ◌∙◌, arith}
use Rattle.pst_token.specs.declared.kind.Kind.{Kind}
use Rattle.pst_token.specs.declared.token.Token.{Token}
use Rattle.pst_ast.specs.Limits.{Count, is_over}
use Rattle.pst_reading.specs.Kinds.{is_mark, is_name, next_is}
use Rattle.pst_reading.specs.Parser.{Parser, Done, Wrong, Spent, Look, Take, followed_by, Outcome, TooDeep, next, run, read, counts_taken}
use Rattle.pst_reading.specs.Peeking.{after, if_name_then, second, name_then}
use Rattle.pst_reading.specs.Gives.{Family}
use Rattle.pst_reading.proofs.Becoming.{Becomes}
use Rattle.pst_reading.proofs.Explaining.{Meaning, Explained, ExplainedAt}
use Rattle.pst_reading.proofs.Reaching.{Reaches}

-- what the first token counts that a parser takes, where it takes this one
abbrev pub takes : {A : Type 0} → Parser A → Token → Option Count
takes (Done a) t = None
takes Wrong t = None
takes Spent t = None
takes (Look choose) t = takes (choose (Some t)) t
takes (Take c go_on) t = Some c

same_count : (c d : Count) → Some c ≡ Some d → c ≡ d
same_count c d e = ap (λ (o : Option Count). or_else o c) e
  where
    or_else : Option Count → Count → Count
    or_else None x = x
    or_else (Some y) x = y

after_runs : {A : Type 0} (over : Count → Bool) (p : Parser A) (t : Token) (ts : List Token) (c : Count) → takes p t ≡ Some c → run over p (t ∷ ts) ≡ (if over c then TooDeep (t ∷ ts) else run over (after p t) ts)
after_runs over (Done a) t ts c e = absurd cc
after_runs over Wrong t ts c e = absurd cc
after_runs over Spent t ts c e = absurd cc
after_runs over (Look choose) t ts c e = after_runs over (choose (Some t)) t ts c e
after_runs over (Take d go_on) t ts c e = ap (λ (x : Count). if over x then TooDeep (t ∷ ts) else run over (go_on t) ts) (same_count d c e)

after_counts : {A : Type 0} (p : Parser A) (t : Token) (ts : List Token) (c : Count) → takes p t ≡ Some c → counts_taken p (t ∷ ts) ≡ c ∷ counts_taken (after p t) ts
after_counts (Done a) t ts c e = absurd cc
after_counts Wrong t ts c e = absurd cc
after_counts Spent t ts c e = absurd cc
after_counts (Look choose) t ts c e = after_counts (choose (Some t)) t ts c e
after_counts (Take d go_on) t ts c e = ap (λ (x : Count). x ∷ counts_taken (go_on t) ts) (same_count d c e)

pub takes_followed : {A B : Type 0} (p : Parser A) (f : A → Parser B) (t : Token) (c : Count) → takes p t ≡ Some c → takes (followed_by p f) t ≡ Some c
takes_followed (Done a) f t c e = absurd cc
takes_followed Wrong f t c e = absurd cc
takes_followed Spent f t c e = absurd cc
takes_followed (Look choose) f t c e = takes_followed (choose (Some t)) f t c e
takes_followed (Take d go_on) f t c e = e

module _ {A : Type 0} (k : Kind) (c : Count) (p q : Parser A) (P : (t : Token) → is_name t ≡ true → takes p t ≡ Some c) (Q : (t : Token) → is_name t ≡ true → takes q t ≡ Some c) where
  pub peek_runs : (over : Count → Bool) (ts : List Token) → run over (if_name_then k c p q) ts ≡ run over (if name_then k ts then p else q) ts
  peek_runs over [] = refl
  peek_runs over (t ∷ ts) = go (is_name t) (next_is (is_mark k) (next ts)) refl refl
    where
      go : (n m : Bool) → is_name t ≡ n → next_is (is_mark k) (next ts) ≡ m → run over (if n then Take c (λ u. Look (λ next. if next_is (is_mark k) next then after p u else after q u)) else q) (t ∷ ts) ≡ run over (if n && m then p else q) (t ∷ ts)
      go false m e f = refl
      go true true e f = ap (λ (b : Bool). if over c then TooDeep (t ∷ ts) else run over (if b then after p t else after q t) ts) f ∙ sym (after_runs over p t ts c (P t e))
      go true false e f = ap (λ (b : Bool). if over c then TooDeep (t ∷ ts) else run over (if b then after p t else after q t) ts) f ∙ sym (after_runs over q t ts c (Q t e))

  peek_counts : (ts : List Token) → counts_taken (if_name_then k c p q) ts ≡ counts_taken (if name_then k ts then p else q) ts
  peek_counts [] = refl
  peek_counts (t ∷ ts) = go (is_name t) (next_is (is_mark k) (next ts)) refl refl
    where
      go : (n m : Bool) → is_name t ≡ n → next_is (is_mark k) (next ts) ≡ m → counts_taken (if n then Take c (λ u. Look (λ next. if next_is (is_mark k) next then after p u else after q u)) else q) (t ∷ ts) ≡ counts_taken (if n && m then p else q) (t ∷ ts)
      go false m e f = refl
      go true true e f = ap (λ (b : Bool). c ∷ counts_taken (if b then after p t else after q t) ts) f ∙ sym (after_counts p t ts c (P t e))
      go true false e f = ap (λ (b : Bool). c ∷ counts_taken (if b then after p t else after q t) ts) f ∙ sym (after_counts q t ts c (Q t e))

  pub peek_explained : (M : Meaning A) (ts : List Token) → ExplainedAt M p ts → ExplainedAt M q ts → ExplainedAt M (if_name_then k c p q) ts
  peek_explained M ts h g =
      subst (λ (cs : List Count). Explained M ts cs (read (if_name_then k c p q) ts)) (sym (peek_counts ts))
      (subst (λ (o : Outcome A). Explained M ts (counts_taken (if name_then k ts then p else q) ts) o) (sym (peek_runs (λ x. false) ts)) (go (name_then k ts)))
    where
      go : (b : Bool) → ExplainedAt M (if b then p else q) ts
      go true = h
      go false = g

  pub peek_becomes : (b : Bool) (r : Parser A) (ts us : List Token) (cs : List Count) → name_then k ts ≡ b → Becomes (if b then p else q) ts cs r us → Becomes (if_name_then k c p q) ts cs r us
  peek_becomes b r ts us cs e h = record {
    outcome = peek_runs (λ x. false) ts ∙ ap (λ (x : Bool). read (if x then p else q) ts) e ∙ h.outcome;
    taken = peek_counts ts ∙ ap (λ (x : Bool). counts_taken (if x then p else q) ts) e ∙ h.taken;
  }

-- ---- within the limits

pub second_there : (n : ℕ) (ts : List Token) → second (drop n ts) ≡ next (drop (n + 1) ts)
second_there zero [] = refl
second_there zero (t ∷ ts) = refl
second_there (suc n) [] = ap (λ (i : ℕ). next (drop i none)) (let e : suc (n + 1) ≡ suc n + 1 = omega arith in e)
  where
    none : List Token
    none = []
second_there (suc n) (t ∷ ts) = second_there n ts ∙ ap (λ (i : ℕ). next (drop i (t ∷ ts))) (let e : suc (n + 1) ≡ suc n + 1 = omega arith in e)

pub name_then_there : (k : Kind) (n : ℕ) (ts : List Token) → next_is is_name (next (drop n ts)) ≡ true → name_then k (drop n ts) ≡ next_is (is_mark k) (next (drop (n + 1) ts))
name_then_there k n ts e = ap (λ (b : Bool). b && next_is (is_mark k) (second (drop n ts))) e ∙ ap (λ (o : Option Token). next_is (is_mark k) o) (second_there n ts)

pub peek_reaches : {A : Type 0} (whole : Family A) (tokens : List Token) (start at : ℕ) (k : Kind) (c : Count) (p q : Family A) (place : ℕ) (b : Bool) → ((m n : ℕ) (t : Token) → is_name t ≡ true → takes (p m n) t ≡ Some c) → ((m n : ℕ) (t : Token) → is_name t ≡ true → takes (q m n) t ≡ Some c) → name_then k (drop place tokens) ≡ b → Reaches whole tokens start at (λ m n. if_name_then k c (p m n) (q m n)) place → Reaches whole tokens start at (λ m n. if b then p m n else q m n) place
peek_reaches whole tokens start at k c p q place b P Q e r = record {
  same = λ size prefixes m n. r.same size prefixes m n ∙ peek_runs k c (p size prefixes) (q size prefixes) (P size prefixes) (Q size prefixes) is_over (drop place tokens) ∙ ap (λ (x : Bool). run is_over (if x then p size prefixes else q size prefixes) (drop place tokens)) e;
  from = r.from;
}
