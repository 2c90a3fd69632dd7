-- One parser becomes another as it takes tokens.
use Rattle.std.proofs.Common.{◌≡◌, ℕ, ◌+◌, List, [], ◌∷◌, ◌++◌, length, Bool, true, false, if◌then◌else◌, refl, sym, ap, ◌∙◌, arith, append_assoc, length-append}
use Rattle.pst_token.specs.declared.token.Token.{Token}
use Rattle.pst_ast.specs.Limits.{Count}
use Rattle.pst_reading.specs.Parser.{Parser, Done, Wrong, Spent, Look, Take, followed_by, Outcome, Took, Refused, TooDeep, Unread, next, run, read, counts_taken, and_then}

either : {A B : Type 0} (b : Bool) (x : Outcome A) (y : Outcome B) (f : A → List Token → Outcome B) (ts : List Token) → y ≡ and_then x f → (if b then TooDeep ts else y) ≡ and_then (if b then TooDeep ts else x) f
either true x y f ts e = refl
either false x y f ts e = e

pub run_followed : {A B : Type 0} (over : Count → Bool) (p : Parser A) (f : A → Parser B) (ts : List Token) → run over (followed_by p f) ts ≡ and_then (run over p ts) (λ a rest. run over (f a) rest)
run_followed over (Done a) f ts = refl
run_followed over Wrong f ts = refl
run_followed over Spent f ts = refl
run_followed over (Look choose) f ts = run_followed over (choose (next ts)) f ts
run_followed over (Take c go_on) f [] = refl
run_followed over (Take c go_on) f (t ∷ ts) = either (over c) (run over (go_on t) ts) (run over (followed_by (go_on t) f) ts) (λ a rest. run over (f a) rest) (t ∷ ts) (run_followed over (go_on t) f ts)

-- what is taken behind an outcome
abbrev pub counts_behind : {A : Type 0} → Outcome A → (A → List Token → List Count) → List Count
counts_behind (Took a rest) f = f a rest
counts_behind _ f = []

pub counts_followed : {A B : Type 0} (p : Parser A) (f : A → Parser B) (ts : List Token) → counts_taken (followed_by p f) ts ≡ counts_taken p ts ++ counts_behind (read p ts) (λ a rest. counts_taken (f a) rest)
counts_followed (Done a) f ts = refl
counts_followed Wrong f ts = refl
counts_followed Spent f ts = refl
counts_followed (Look choose) f ts = counts_followed (choose (next ts)) f ts
counts_followed (Take c go_on) f [] = refl
counts_followed (Take c go_on) f (t ∷ ts) = ap (λ (cs : List Count). c ∷ cs) (counts_followed (go_on t) f ts)

-- the first parser takes tokens that count so, and is then the second, before the rest
pub record Becomes {A : Type 0} (p : Parser A) (ts : List Token) (counts : List Count) (q : Parser A) (rest : List Token) : Type 0 where
  pub outcome : read p ts ≡ read q rest
  pub taken : counts_taken p ts ≡ counts ++ counts_taken q rest

pub stays : {A : Type 0} (p : Parser A) (ts : List Token) → Becomes p ts [] p ts
stays p ts = record { outcome = refl; taken = refl }

pub becomes_on : {A : Type 0} (p q r : Parser A) (ts us vs : List Token) (cs ds : List Count) → Becomes p ts cs q us → Becomes q us ds r vs → Becomes p ts (cs ++ ds) r vs
becomes_on p q r ts us vs cs ds h k = record { outcome = h.outcome ∙ k.outcome; taken = h.taken ∙ ap (λ (u : List Count). cs ++ u) k.taken ∙ sym (append_assoc cs ds (counts_taken r vs)) }

pub becomes_followed : {A B : Type 0} (p q : Parser A) (f : A → Parser B) (ts us : List Token) (cs : List Count) → Becomes p ts cs q us → Becomes (followed_by p f) ts cs (followed_by q f) us
becomes_followed p q f ts us cs h = record {
  outcome = run_followed (λ c. false) p f ts ∙ ap (λ (o : Outcome _). and_then o (λ a rest. read (f a) rest)) h.outcome ∙ sym (run_followed (λ c. false) q f us);
  taken = rw (counts_followed p f ts, counts_followed q f us, h.taken, h.outcome) (append_assoc cs (counts_taken q us) (counts_behind (read q us) (λ a rest. counts_taken (f a) rest)));
}

-- one after the other
pub becomes_both : {A B : Type 0} (p : Parser A) (f : A → Parser B) (a : A) (r : Parser B) (ts us vs : List Token) (cs ds : List Count) → Becomes p ts cs (Done a) us → Becomes (f a) us ds r vs → Becomes (followed_by p f) ts (cs ++ ds) r vs
becomes_both p f a r ts us vs cs ds h k = becomes_on (followed_by p f) (f a) r ts us vs cs ds (becomes_followed p (Done a) f ts us cs h) k

-- what is left has not been taken
pub length_left : {A : Type 0} → List Token → Outcome A → ℕ
length_left ts (Took a rest) = length rest
length_left ts (Refused rest) = length rest
length_left ts (TooDeep rest) = length ts
length_left ts (Unread rest) = length rest
