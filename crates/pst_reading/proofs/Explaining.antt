-- What the outcome of a parser says of the tokens that it took.
use Rattle.std.proofs.Common.{◌≡◌, ℕ, zero, suc, ◌+◌, ◌≤◌, List, [], ◌∷◌, ◌++◌, length, Bool, true, false, Some, None, Option, refl, sym, ap, subst, ◌∙◌, arith, append_assoc, append-nil}
use Rattle.pst_token.specs.declared.token.Token.{Token}
use Rattle.pst_ast.specs.Limits.{Count}
use Rattle.pst_reading.specs.Parser.{Parser, Done, Wrong, Spent, Look, Take, followed_by, Outcome, Took, Refused, TooDeep, Unread, next, run, read, counts_taken, and_then, turn, repeat_by}
use Rattle.pst_reading.proofs.Becoming.{run_followed, counts_followed, counts_behind}

-- which values are spelled by which tokens, and what these count
abbrev pub Meaning : Type 0 → Type 1
Meaning A = A → List Token → List Count → Type 0

-- the meaning of a tree by its tokens, what is proper and what counts
pub record Means {A : Type 0} (spell : A → List Token) (IsProper : A → Type 0) (counts_of : A → List Count) (a : A) (text : List Token) (counts : List Count) : Type 0 where
  pub is : text ≡ spell a
  pub proper : IsProper a
  pub counted : counts ≡ counts_of a

-- some value is spelled by a list that begins so
pub record Begins {A : Type 0} (M : Meaning A) (front : List Token) : Type 0 where
  pub value : A
  pub text : List Token
  pub counts : List Count
  pub more : List Token
  pub spelled : M value text counts
  pub is : text ≡ front ++ more

-- the tokens in front of the value's rest spell it
pub record Taken {A : Type 0} (M : Meaning A) (ts : List Token) (counts : List Count) (a : A) (rest : List Token) : Type 0 where
  pub front : List Token
  pub parts : ts ≡ front ++ rest
  pub spelled : M a front counts

-- those in front of a fault begin a value
pub record Begun {A : Type 0} (M : Meaning A) (ts rest : List Token) : Type 0 where
  pub front : List Token
  pub parts : ts ≡ front ++ rest
  pub begins : Begins M front

abbrev pub Explained : {A : Type 0} → Meaning A → List Token → List Count → Outcome A → Type 0
Explained M ts counts (Took a rest) = Taken M ts counts a rest
Explained M ts counts (Refused rest) = Begun M ts rest
Explained M ts counts (TooDeep rest) = Begun M ts rest
Explained M ts counts (Unread rest) = Begun M ts rest

abbrev pub ExplainedAt : {A : Type 0} → Meaning A → Parser A → List Token → Type 0
ExplainedAt M p ts = Explained M ts (counts_taken p ts) (read p ts)

abbrev pub Explains : {A : Type 0} → Meaning A → Parser A → Type 0
Explains M p = (ts : List Token) → ExplainedAt M p ts

-- what is spelled behind a front
abbrev pub Behind : {A : Type 0} → Meaning A → List Token → List Count → Meaning A
Behind M front counts a text more = M a (front ++ text) (counts ++ more)

begins_nothing : {A : Type 0} (M : Meaning A) (rest : List Token) → Begun M [] rest → Begins M []
begins_nothing M rest h = record { value = h.begins.value; text = h.begins.text; counts = h.begins.counts; more = h.begins.text; spelled = h.begins.spelled; is = refl }

-- some value begins with nothing
pub some_begins : {A : Type 0} (M : Meaning A) (p : Parser A) → Explains M p → Begins M []
some_begins {A = A} M p E = go (read p []) (counts_taken p []) (E [])
  where
    go : (o : Outcome A) (cs : List Count) → Explained M [] cs o → Begins M []
    go (Took a rest) cs h = record { value = a; text = h.front; counts = cs; more = h.front; spelled = h.spelled; is = refl }
    go (Refused rest) cs h = begins_nothing M rest h
    go (TooDeep rest) cs h = begins_nothing M rest h
    go (Unread rest) cs h = begins_nothing M rest h

-- what begins behind a front
begins_behind : {B : Type 0} (M : Meaning B) (front : List Token) (counts : List Count) (text : List Token) → Begins (Behind M front counts) text → Begins M (front ++ text)
begins_behind M front counts text b = record { value = b.value; text = front ++ b.text; counts = counts ++ b.counts; more = b.more; spelled = b.spelled; is = ap (λ (u : List Token). front ++ u) b.is ∙ sym (append_assoc front text b.more) }

-- ---- one parser after another

module _ {A B : Type 0} (First : Meaning A) (Second : Meaning B) (p : Parser A) (f : A → Parser B) (F : (a : A) (front : List Token) (counts : List Count) → First a front counts → Explains (Behind Second front counts) (f a)) where
  begins_both : (front : List Token) → Begins First front → Begins Second front
  begins_both front b =
      let s = some_begins (Behind Second b.text b.counts) (f b.value) (F b.value b.text b.counts b.spelled) in
      record { value = s.value; text = b.text ++ s.text; counts = b.counts ++ s.counts; more = b.more ++ s.text; spelled = s.spelled; is = ap (λ (u : List Token). u ++ s.text) b.is ∙ append_assoc front b.more s.text }

  fault_both : (ts rest : List Token) → Begun First ts rest → Begun Second ts rest
  fault_both ts rest h = record { front = h.front; parts = h.parts; begins = begins_both h.front h.begins }

  -- behind the first
  module _ (ts front : List Token) (counts : List Count) (rest : List Token) (parts : ts ≡ front ++ rest) where
    fault_behind : (later : List Token) → Begun (Behind Second front counts) rest later → Begun Second ts later
    fault_behind later k = record {
      front = front ++ k.front;
      parts = parts ∙ ap (λ (u : List Token). front ++ u) k.parts ∙ sym (append_assoc front k.front later);
      begins = begins_behind Second front counts k.front k.begins;
    }

    behind : (o : Outcome B) (ds : List Count) → Explained (Behind Second front counts) rest ds o → Explained Second ts (counts ++ ds) o
    behind (Took b later) ds k = record {
      front = front ++ k.front;
      parts = parts ∙ ap (λ (u : List Token). front ++ u) k.parts ∙ sym (append_assoc front k.front later);
      spelled = k.spelled;
    }
    behind (Refused later) ds k = fault_behind later k
    behind (TooDeep later) ds k = fault_behind later k
    behind (Unread later) ds k = fault_behind later k

  pub explains_both : (ts : List Token) → ExplainedAt First p ts → ExplainedAt Second (followed_by p f) ts
  explains_both ts h = rw (run_followed (λ c. false) p f ts, counts_followed p f ts) (go (read p ts) (counts_taken p ts) h)
    where
      go : (o : Outcome A) (cs : List Count) → Explained First ts cs o → Explained Second ts (cs ++ counts_behind o (λ a rest. counts_taken (f a) rest)) (and_then o (λ a rest. read (f a) rest))
      go (Took a rest) cs h = behind ts h.front cs rest h.parts (read (f a) rest) (counts_taken (f a) rest) (F a h.front cs h.spelled rest)
      go (Refused rest) cs h = fault_both ts rest h
      go (TooDeep rest) cs h = fault_both ts rest h
      go (Unread rest) cs h = fault_both ts rest h

pub explains_then : {A B : Type 0} (First : Meaning A) (Second : Meaning B) (p : Parser A) (f : A → Parser B) → Explains First p → ((a : A) (front : List Token) (counts : List Count) → First a front counts → Explains (Behind Second front counts) (f a)) → Explains Second (followed_by p f)
explains_then First Second p f E F ts = explains_both First Second p f F ts (E ts)

-- ---- a value alone, a fault, one token, another meaning

pub explains_done : {A : Type 0} (M : Meaning A) (a : A) → M a [] [] → Explains M (Done a)
explains_done M a h ts = record { front = []; parts = refl; spelled = h }

pub refused_here : {A : Type 0} (M : Meaning A) (ts : List Token) → Begins M [] → Begun M ts ts
refused_here M ts b = record { front = []; parts = refl; begins = b }

pub wider : {A : Type 0} (M N : Meaning A) (p : Parser A) (ts : List Token) → ((a : A) (text : List Token) (counts : List Count) → M a text counts → N a text counts) → ExplainedAt M p ts → ExplainedAt N p ts
wider {A = A} M N p ts to h = go (read p ts) (counts_taken p ts) h
  where
    fault : (rest : List Token) → Begun M ts rest → Begun N ts rest
    fault rest h = record { front = h.front; parts = h.parts; begins = record { value = h.begins.value; text = h.begins.text; counts = h.begins.counts; more = h.begins.more; spelled = to h.begins.value h.begins.text h.begins.counts h.begins.spelled; is = h.begins.is } }

    go : (o : Outcome A) (cs : List Count) → Explained M ts cs o → Explained N ts cs o
    go (Took a rest) cs h = record { front = h.front; parts = h.parts; spelled = to a h.front cs h.spelled }
    go (Refused rest) cs h = fault rest h
    go (TooDeep rest) cs h = fault rest h
    go (Unread rest) cs h = fault rest h

-- the next token, and what goes on with it
pub explains_take : {A : Type 0} (M : Meaning A) (c : Count) (go_on : Token → Parser A) (t : Token) (ts : List Token) → ExplainedAt (Behind M (t ∷ []) (c ∷ [])) (go_on t) ts → ExplainedAt M (Take c go_on) (t ∷ ts)
explains_take {A = A} M c go_on t ts h = go (read (go_on t) ts) (counts_taken (go_on t) ts) h
  where
    fault : (rest : List Token) → Begun (Behind M (t ∷ []) (c ∷ [])) ts rest → Begun M (t ∷ ts) rest
    fault rest k = record { front = t ∷ k.front; parts = ap (λ (u : List Token). t ∷ u) k.parts; begins = record { value = k.begins.value; text = t ∷ k.begins.text; counts = c ∷ k.begins.counts; more = k.begins.more; spelled = k.begins.spelled; is = ap (λ (u : List Token). t ∷ u) k.begins.is } }

    go : (o : Outcome A) (cs : List Count) → Explained (Behind M (t ∷ []) (c ∷ [])) ts cs o → Explained M (t ∷ ts) (c ∷ cs) o
    go (Took a rest) cs k = record { front = t ∷ k.front; parts = ap (λ (u : List Token). t ∷ u) k.parts; spelled = k.spelled }
    go (Refused rest) cs k = fault rest k
    go (TooDeep rest) cs k = fault rest k
    go (Unread rest) cs k = fault rest k

-- ---- parts in a row

-- a part that begins here, where there is one, leads from what is so far to more of it
abbrev pub LeadsBy : {A : Type 0} → Meaning A → List Token → List Count → List Token → Option (Parser A) → Type 0
LeadsBy M front counts ts None = Unit {0}
LeadsBy M front counts ts (Some part) = ExplainedAt (Behind M front counts) part ts

abbrev pub Leads : {A : Type 0} → Meaning A → (A → Option Token → Option (Parser A)) → Type 0
Leads M step = (a : _) (front : List Token) (counts : List Count) → M a front counts → (ts : List Token) → LeadsBy M front counts ts (step a (next ts))

module _ {A : Type 0} (M : Meaning A) (step : A → Option Token → Option (Parser A)) (L : Leads M step) where
  one_turn : (go_on : A → Parser A) → ((a : A) (front : List Token) (counts : List Count) → M a front counts → Explains (Behind M front counts) (go_on a)) → (a : A) (front : List Token) (counts : List Count) → M a front counts → (ts : List Token) (o : Option (Parser A)) → LeadsBy M front counts ts o → ExplainedAt (Behind M front counts) (turn o a go_on) ts
  one_turn go_on G a front counts h ts None l = explains_done (Behind M front counts) a (rw (append-nil, append-nil) h) ts
  one_turn go_on G a front counts h ts (Some part) l =
      explains_both (Behind M front counts) (Behind M front counts) part go_on
      (λ b text cs s us. wider (Behind M (front ++ text) (counts ++ cs)) (Behind (Behind M front counts) text cs) (go_on b) us (λ x u ds k. rw (← append_assoc front text u, ← append_assoc counts cs ds) k) (G b (front ++ text) (counts ++ cs) s us))
      ts l

  pub explains_row : (turns : ℕ) (a : A) (front : List Token) (counts : List Count) → M a front counts → Explains (Behind M front counts) (repeat_by step turns a)
  explains_row zero a front counts h ts = refused_here (Behind M front counts) ts (record { value = a; text = []; counts = []; more = []; spelled = rw (append-nil, append-nil) h; is = refl })
  explains_row (suc turns) a front counts h ts = one_turn (repeat_by step turns) (explains_row turns) a front counts h ts (step a (next ts)) (L a front counts h ts)
