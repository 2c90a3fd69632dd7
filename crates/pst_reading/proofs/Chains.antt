-- Chains of parsers: a token or a part, and then the rest.
use Rattle.std.proofs.Common.{◌≡◌, List, [], ◌∷◌, sym, subst}
use Rattle.pst_base.specs.declared.position.Place.{Place}
use Rattle.pst_token.specs.declared.kind.Kind.{Kind}
use Rattle.pst_token.specs.declared.token.Token.{Token}
use Rattle.pst_ast.specs.declared.leaf.Name.{Name}
use Rattle.pst_ast.specs.Limits.{Count}
use Rattle.pst_ast.specs.Marks.{mark, name_token}
use Rattle.pst_reading.specs.Parser.{Parser, followed_by, mark_by, name_by}
use Rattle.pst_reading.proofs.Becoming.{Becomes, becomes_both}
use Rattle.pst_reading.proofs.Explaining.{Meaning, Means, Explains, Behind, explains_then}
use Rattle.pst_reading.proofs.Marks.{IsMark, mark_explains, IsName, name_explains, mark_becomes, name_becomes}

-- ---- what they explain

-- the same text and counts in front
same_front : {A : Type 0} (M : Meaning A) (p : Parser A) (front text : List Token) (counts cs : List Count) → front ≡ text → counts ≡ cs → Explains (Behind M text cs) p → Explains (Behind M front counts) p
same_front M p front text counts cs e f E = subst (λ (u : List Token). Explains (Behind M u counts) p) (sym e) (subst (λ (u : List Count). Explains (Behind M text u) p) (sym f) E)

pub explains_mark : {A : Type 0} (M : Meaning A) (k : Kind) (c : Count) (f : Place → Parser A) → ((place : Place) → Explains (Behind M (mark k place ∷ []) (c ∷ [])) (f place)) → Explains M (followed_by (mark_by k c) f)
explains_mark M k c f F = explains_then (IsMark k c) M (mark_by k c) f (mark_explains k c) (λ place front counts h. same_front M (f place) front (mark k place ∷ []) counts (c ∷ []) h.is h.counted (F place))

pub explains_name : {A : Type 0} (M : Meaning A) (c : Count) (f : Name → Parser A) → ((name : Name) → Explains (Behind M (name_token name ∷ []) (c ∷ [])) (f name)) → Explains M (followed_by (name_by c) f)
explains_name M c f F = explains_then (IsName c) M (name_by c) f (name_explains c) (λ name front counts h. same_front M (f name) front (name_token name ∷ []) counts (c ∷ []) h.is h.counted (F name))

pub explains_part : {A B : Type 0} (M : Meaning B) (spell : A → List Token) (IsProper : A → Type 0) (counts_of : A → List Count) (p : Parser A) (f : A → Parser B) → Explains (Means spell IsProper counts_of) p → ((a : A) → IsProper a → Explains (Behind M (spell a) (counts_of a)) (f a)) → Explains M (followed_by p f)
explains_part M spell IsProper counts_of p f E F = explains_then (Means spell IsProper counts_of) M p f E (λ a front counts h. same_front M (f a) front (spell a) counts (counts_of a) h.is h.counted (F a h.proper))

-- ---- what they become

pub becomes_mark : {A : Type 0} (k : Kind) (c : Count) (f : Place → Parser A) (place : Place) (r : Parser A) (ts rest : List Token) (cs : List Count) → Becomes (f place) ts cs r rest → Becomes (followed_by (mark_by k c) f) (mark k place ∷ ts) (c ∷ cs) r rest
becomes_mark k c f place r ts rest cs h = becomes_both (mark_by k c) f place r (mark k place ∷ ts) ts rest (c ∷ []) cs (mark_becomes k c place ts) h

pub becomes_name : {A : Type 0} (c : Count) (f : Name → Parser A) (name : Name) (r : Parser A) (ts rest : List Token) (cs : List Count) → Becomes (f name) ts cs r rest → Becomes (followed_by (name_by c) f) (name_token name ∷ ts) (c ∷ cs) r rest
becomes_name c f name r ts rest cs h = becomes_both (name_by c) f name r (name_token name ∷ ts) ts rest (c ∷ []) cs (name_becomes c name ts) h
