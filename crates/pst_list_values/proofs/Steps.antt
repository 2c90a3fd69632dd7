-- The walk is the same with one choice more, and what a value more or less does to those that are kept.
use Rattle.std.proofs.Common.{◌≡◌, ℕ, ℤ, List, [], Option, Some, None, refl, sym, ap, subst}
use Rattle.pst_model.specs.ModelView.{view_model}
use Rattle.pst_model.specs.Sound.{IsSound}
use Rattle.pst_link_walk.specs.Walks.{Kept, with_choice}
use Rattle.pst_value_search.specs.Values.{Kept as Given, with_value}
use Rattle.pst_list_values.specs.declared.behind.Behind.{Behind}
use Rattle.pst_list_values.specs.Tied.{IsSameWalk, IsMore, IsWithValue, IsFurther, IsLess, IsRefusal, IsOf, behind_of, IsGivenAt}

pub same_chosen : (k l : Kept) (d : ℕ) → l ≡ with_choice k d → IsSameWalk k l
same_chosen k l d e = subst (IsSameWalk k) (sym e) (record { model = refl; root = refl })

pub same_kept : (k l : Kept) → l ≡ k → IsSameWalk k l
same_kept k l e = subst (IsSameWalk k) (sym e) (record { model = refl; root = refl })

pub sound_chosen : (k l : Kept) (d : ℕ) → l ≡ with_choice k d → IsSound (view_model k.model) → IsSound (view_model l.model)
sound_chosen k l d e sound = subst (λ (x : Kept). IsSound (view_model x.model)) (sym e) sound

pub none_of : (o : Option Given) → ((g : Given) → o ≡ Some g → ⊥) → o ≡ None
none_of None n = refl
none_of (Some g) n = absurd (n g refl)

-- nothing is kept still
pub more_none : (o : Option Given) (value : Option ℤ) → o ≡ None → IsMore o value None
more_none o value e = subst (λ x. IsMore x value None) (sym e) refl

pub more_some : (o : Option Given) (value : Option ℤ) (g h : Given) (v : ℤ) → o ≡ Some g → value ≡ Some v → h ≡ with_value g v → IsMore o value (Some h)
more_some o value g h v e is same = subst (λ x. IsMore x value (Some h)) (sym e) (v, is, ap Some same)

pub less_none : (o : Option Given) → o ≡ None → IsLess o None
less_none o e = subst (λ x. IsLess x None) (sym e) refl

pub less_some : (o : Option Given) (g l : Given) → o ≡ Some g → ((v : ℤ) × (g ≡ with_value l v)) → IsLess o (Some l)
less_some o g l e (v, is) = subst (λ x. IsLess x (Some l)) (sym e) (v, l, is, refl)

pub refusal_none : (o : Option Given) (places : List ℕ) → o ≡ None → places ≡ [] → IsRefusal o places
refusal_none o places e none = subst (λ x. IsRefusal x places) (sym e) none

pub further_with : (old : Behind) (value : Option ℤ) (v : ℤ) (new : Behind) → value ≡ Some v → IsWithValue old v new → IsFurther old value (Some new)
further_with old value v new is with = (with.0, with.1, subst (λ o. IsMore old.valued o new.valued) (sym is) with.2)

-- ---- the values that are kept

given_of : (k : Kept) (b : Behind) (g : Given) → b.valued ≡ Some g → IsOf k b → IsOf k (behind_of b.front b.whole g)
given_of k b g e of = subst (λ o. IsOf k (record { front = b.front; whole = b.whole; valued = o })) e of

pub given_at : (k : Kept) (b : Behind) (g : Given) → IsOf k b → b.valued ≡ Some g → IsGivenAt k b.front g
given_at k b g of e = (b.whole, given_of k b g e of)

pub given_again : (k : Kept) (b : Behind) (g h : Given) → IsOf k b → b.valued ≡ Some g → h ≡ g → IsOf k (behind_of b.front b.whole h)
given_again k b g h of e same = subst (λ x. IsOf k (behind_of b.front b.whole x)) (sym same) (given_of k b g e of)
