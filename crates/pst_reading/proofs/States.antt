-- What a parser has become behind a front does not depend on what follows the front.
use Rattle.std.proofs.Common.{◌≡◌, ℕ, zero, suc, ◌+◌, ◌≤◌, List, [], ◌∷◌, ◌++◌, length, Bool, false, Some, refl, sym, ap, ◌∙◌, arith}
use Rattle.pst_token.specs.declared.token.Token.{Token}
use Rattle.pst_ast.specs.Limits.{Count}
use Rattle.pst_reading.specs.Parser.{Parser, Done, Wrong, Spent, Look, Take, Outcome, Took, Refused, TooDeep, Unread, next, run, read, counts_taken}
use Rattle.pst_reading.proofs.Becoming.{Becomes}

pub record State {A : Type 0} (p : Parser A) (front : List Token) : Type 0 where
  pub counts : List Count
  pub parser : Parser A
  pub as_long : length counts ≡ length front
  pub reaches : (rest : List Token) → Becomes p (front ++ rest) counts parser rest

-- a front that was taken once is always taken
pub state : {A : Type 0} (p : Parser A) (front rest : List Token) → length front ≤ length (counts_taken p (front ++ rest)) → State p front
state p [] rest le = record { counts = []; parser = p; as_long = refl; reaches = λ r. record { outcome = refl; taken = refl } }
state (Done a) (t ∷ front) rest le = absurd (omega (arith, le))
state Wrong (t ∷ front) rest le = absurd (omega (arith, le))
state Spent (t ∷ front) rest le = absurd (omega (arith, le))
state (Look choose) (t ∷ front) rest le =
    let s = state (choose (Some t)) (t ∷ front) rest le in
    record { counts = s.counts; parser = s.parser; as_long = s.as_long; reaches = λ r. record { outcome = (s.reaches r).outcome; taken = (s.reaches r).taken } }
state (Take c go_on) (t ∷ front) rest le =
    let s = state (go_on t) front rest (omega (arith, le)) in
    record { counts = c ∷ s.counts; parser = s.parser; as_long = ap suc s.as_long; reaches = λ r. record { outcome = (s.reaches r).outcome; taken = ap (λ (cs : List Count). c ∷ cs) (s.reaches r).taken } }

-- a parser that does not take the next token does the same before any other rest that begins with it
pub record Rests {A : Type 0} (p : Parser A) (t : Token) (outcome : List Token → Outcome A) : Type 0 where
  pub always : (rest : List Token) → read p (t ∷ rest) ≡ outcome (t ∷ rest)
  pub nothing : (rest : List Token) → counts_taken p (t ∷ rest) ≡ []

pub rests_took : {A : Type 0} (p : Parser A) (t : Token) (rest : List Token) (a : A) → counts_taken p (t ∷ rest) ≡ [] → read p (t ∷ rest) ≡ Took a (t ∷ rest) → Rests p t (Took a)
rests_took {A = A} (Done b) t rest a n e = record { always = λ r. (let h : b ≡ a = took_is e in rw h refl); nothing = λ r. refl }
  where
    value_of : Outcome A → A → A
    value_of (Took x r) y = x
    value_of _ y = y

    took_is : Took b (t ∷ rest) ≡ Took a (t ∷ rest) → b ≡ a
    took_is e = ap (λ (o : Outcome A). value_of o b) e
rests_took Wrong t rest a n e = absurd cc
rests_took Spent t rest a n e = absurd cc
rests_took (Look choose) t rest a n e =
    let h = rests_took (choose (Some t)) t rest a n e in
    record { always = h.always; nothing = h.nothing }
rests_took (Take c go_on) t rest a n e = absurd cc

pub rests_refused : {A : Type 0} (p : Parser A) (t : Token) (rest : List Token) → counts_taken p (t ∷ rest) ≡ [] → read p (t ∷ rest) ≡ Refused (t ∷ rest) → Rests p t Refused
rests_refused (Done b) t rest n e = absurd cc
rests_refused Wrong t rest n e = record { always = λ r. refl; nothing = λ r. refl }
rests_refused Spent t rest n e = absurd cc
rests_refused (Look choose) t rest n e =
    let h = rests_refused (choose (Some t)) t rest n e in
    record { always = h.always; nothing = h.nothing }
rests_refused (Take c go_on) t rest n e = absurd cc
