-- What parsers of single tokens, and choices by the next token, explain and become.
use Rattle.std.proofs.Common.{◌≡◌, ℕ, suc, Bool, true, false, if◌then◌else◌, List, [], ◌∷◌, ◌++◌, Some, Option, None, refl, sym, ap, subst, ◌∙◌}
use Rattle.pst_base.specs.declared.position.Place.{Place}
use Rattle.pst_token.specs.declared.kind.Kind.{Kind}
use Rattle.pst_token.specs.declared.token.Token.{Token}
use Rattle.pst_ast.specs.declared.leaf.Name.{Name}
use Rattle.pst_ast.specs.Marks.{mark, name_token}
use Rattle.pst_ast.specs.Closing.{origin, name_here}
use Rattle.pst_ast.specs.Limits.{Count}
use Rattle.pst_reading.specs.Kinds.{is_mark, is_name, next_is}
use Rattle.pst_reading.specs.Parser.{Parser, followed_by, turn, repeat_by, Done, Wrong, Spent, Look, Take, Outcome, Took, Refused, TooDeep, Unread, next, run, read, counts_taken, mark_by, name_by, if_mark}
use Rattle.pst_reading.proofs.Becoming.{Becomes, stays, becomes_on, becomes_followed}
use Rattle.pst_reading.proofs.Explaining.{Meaning, Begins, Explains, ExplainedAt, Explained, refused_here}
use Rattle.pst_reading.proofs.Tokens.{mark_is, mark_is_so, name_is, name_is_so}

-- ---- what they explain

pub record IsMark (k : Kind) (c : Count) (place : Place) (text : List Token) (counts : List Count) : Type 0 where
  pub is : text ≡ mark k place ∷ []
  pub counted : counts ≡ c ∷ []

some_mark : (k : Kind) (c : Count) → Begins (IsMark k c) []
some_mark k c = record { value = origin; text = mark k origin ∷ []; counts = c ∷ []; more = mark k origin ∷ []; spelled = record { is = refl; counted = refl }; is = refl }

pub mark_explains : (k : Kind) (c : Count) → Explains (IsMark k c) (mark_by k c)
mark_explains k c [] = refused_here (IsMark k c) [] (some_mark k c)
mark_explains k c (t ∷ ts) = go (is_mark k t) refl
  where
    go : (b : Bool) → is_mark k t ≡ b → ExplainedAt (IsMark k c) (if b then Take c (λ token. Done token.place) else Wrong) (t ∷ ts)
    go true e = record { front = t ∷ []; parts = refl; spelled = record { is = ap (λ (u : Token). u ∷ []) (mark_is k t e); counted = refl } }
    go false e = refused_here (IsMark k c) (t ∷ ts) (some_mark k c)

pub record IsName (c : Count) (name : Name) (text : List Token) (counts : List Count) : Type 0 where
  pub is : text ≡ name_token name ∷ []
  pub counted : counts ≡ c ∷ []

some_name : (c : Count) → Begins (IsName c) []
some_name c = record { value = name_here; text = name_token name_here ∷ []; counts = c ∷ []; more = name_token name_here ∷ []; spelled = record { is = refl; counted = refl }; is = refl }

pub name_explains : (c : Count) → Explains (IsName c) (name_by c)
name_explains c [] = refused_here (IsName c) [] (some_name c)
name_explains c (t ∷ ts) = go (is_name t) refl
  where
    go : (b : Bool) → is_name t ≡ b → ExplainedAt (IsName c) (if b then Take c (λ token. Done (record { id = token.name; place = token.place })) else Wrong) (t ∷ ts)
    go true e = record { front = t ∷ []; parts = refl; spelled = record { is = ap (λ (u : Token). u ∷ []) (name_is t e); counted = refl } }
    go false e = refused_here (IsName c) (t ∷ ts) (some_name c)

-- a choice that the next token makes
pub explains_choice : {A : Type 0} (M : Meaning A) (b : Bool) (p q : Parser A) (ts : List Token) → (b ≡ true → ExplainedAt M p ts) → (b ≡ false → ExplainedAt M q ts) → ExplainedAt M (if b then p else q) ts
explains_choice M true p q ts yes_case no_case = yes_case refl
explains_choice M false p q ts yes_case no_case = no_case refl

-- ---- what they become

-- a look at the next token takes nothing
pub look_becomes : {A : Type 0} (choose : Option Token → Parser A) (ts us : List Token) (cs : List Count) (q : Parser A) → Becomes (choose (next ts)) ts cs q us → Becomes (Look choose) ts cs q us
look_becomes choose ts us cs q h = record { outcome = h.outcome; taken = h.taken }

pub take_becomes : {A : Type 0} (c : Count) (go_on : Token → Parser A) (t : Token) (ts us : List Token) (cs : List Count) (q : Parser A) → Becomes (go_on t) ts cs q us → Becomes (Take c go_on) (t ∷ ts) (c ∷ cs) q us
take_becomes c go_on t ts us cs q h = record { outcome = h.outcome; taken = ap (λ (u : List Count). c ∷ u) h.taken }

-- the test is answered
pub test_becomes : {A : Type 0} (x b : Bool) (p q r : Parser A) (ts us : List Token) (cs : List Count) → x ≡ b → Becomes (if b then p else q) ts cs r us → Becomes (if x then p else q) ts cs r us
test_becomes x b p q r ts us cs e h = subst (λ (y : Bool). Becomes (if y then p else q) ts cs r us) (sym e) h

pub choice_becomes : {A : Type 0} (k : Kind) (p q r : Parser A) (ts us : List Token) (cs : List Count) (b : Bool) → next_is (is_mark k) (next ts) ≡ b → Becomes (if b then p else q) ts cs r us → Becomes (if_mark k p q) ts cs r us
choice_becomes k p q r ts us cs b e h = look_becomes (λ next. if next_is (is_mark k) next then p else q) ts us cs r (test_becomes (next_is (is_mark k) (next ts)) b p q r ts us cs e h)

pub mark_becomes : (k : Kind) (c : Count) (place : Place) (ts : List Token) → Becomes (mark_by k c) (mark k place ∷ ts) (c ∷ []) (Done place) ts
mark_becomes k c place ts =
    choice_becomes k (Take c (λ token. Done token.place)) Wrong (Done place) (mark k place ∷ ts) ts (c ∷ []) true (mark_is_so k place)
    (record { outcome = refl; taken = refl })

pub name_becomes : (c : Count) (name : Name) (ts : List Token) → Becomes (name_by c) (name_token name ∷ ts) (c ∷ []) (Done name) ts
name_becomes c name ts =
    look_becomes (λ next. if next_is is_name next then Take c (λ token. Done (record { id = token.name; place = token.place })) else Wrong) (name_token name ∷ ts) ts (c ∷ []) (Done name)
    (test_becomes (is_name (name_token name)) true (Take c (λ token. Done (record { id = token.name; place = token.place }))) Wrong (Done name) (name_token name ∷ ts) ts (c ∷ []) (name_is_so name) (record { outcome = refl; taken = refl }))

-- ---- parts in a row

pub turn_becomes : {A : Type 0} (step : A → Option Token → Option (Parser A)) (turns : ℕ) (a b : A) (part : Parser A) (ts us : List Token) (cs : List Count) → step a (next ts) ≡ Some part → Becomes part ts cs (Done b) us → Becomes (repeat_by step (suc turns) a) ts cs (repeat_by step turns b) us
turn_becomes {A = A} step turns a b part ts us cs is h =
    look_becomes (λ next. turn (step a next) a (repeat_by step turns)) ts us cs (repeat_by step turns b)
    (subst (λ (o : Option (Parser A)). Becomes (turn o a (repeat_by step turns)) ts cs (repeat_by step turns b) us) (sym is)
    (becomes_followed part (Done b) (repeat_by step turns) ts us cs h))

pub row_ends : {A : Type 0} (step : A → Option Token → Option (Parser A)) (turns : ℕ) (a : A) (ts : List Token) → step a (next ts) ≡ None → Becomes (repeat_by step (suc turns) a) ts [] (Done a) ts
row_ends {A = A} step turns a ts is =
    look_becomes (λ next. turn (step a next) a (repeat_by step turns)) ts ts [] (Done a)
    (subst (λ (o : Option (Parser A)). Becomes (turn o a (repeat_by step turns)) ts [] (Done a) ts) (sym is) (stays (Done a) ts))
