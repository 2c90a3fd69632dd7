-- What a logical operator that is wanted in a span says of its operands.
use Rattle.std.proofs.Common.{◌≡◌, ◌≢◌, ℤ, pos, Bool, true, false, not, cond, List, Option, Some, None, option_map, IfSome, refl, sym, ap, subst}
use Rattle.std.proofs.lemmas.Bool.Decides.{Decides-int_eq}
use Rattle.pst_expr.specs.declared.ranges.Span.{Span}
use Rattle.pst_expr.specs.declared.tree.BinaryOp.{BinaryOp}
use Rattle.pst_expr.specs.declared.tree.BinaryOp.TheVariants.{And, Or, Implies}
use Rattle.pst_expr.specs.Spans.{IsInSpan}
use Rattle.pst_expr.specs.Tree.{Expression, Binary}
use Rattle.pst_expr.specs.Value.{value, number_of, is_false, truth_of, by_left}
use Rattle.pst_domain.specs.Bounds.{AreWithin}
use Rattle.pst_domain.specs.Laws.{IsNeverTrue}
use Rattle.pst_narrow.specs.declared.logic.Demand.{Demand}
use Rattle.pst_narrow.specs.declared.logic.Demand.TheVariants.{Unknown, LeftIn, BothIn}
use Rattle.pst_narrow.specs.Solutions.{IsMet, IsTruth}
use Rattle.pst_narrow.specs.Narrowing.{IsIn, GivesIn}
use Rattle.pst_narrow.specs.Logic.{IsSurelyTrue, GivesTruthIn}
use Rattle.pst_narrow.specs.Demands.{GivesFalse, Follows, AndFollows, OrFollows, ImpliesFollows}
use Rattle.pst_narrow.proofs.LogicLemmas.{true_number, and_of, or_right_of, or_left_of, implies_of, implies_false_of, nothing_true, zero_in, not_false}

-- what follows from a property follows from one that tells more
pub follows_from : (P Q : List (Option ℤ) → Type 0) (p q : Expression) (bounds : List (Option Span)) (d : Demand) → Follows Q p q bounds d → ((values : List (Option ℤ)) → AreWithin bounds values → P values → Q values) → Follows P p q bounds d
follows_from P Q p q bounds Unknown h f = tt
follows_from P Q p q bounds (LeftIn s) h f = λ values within given. h values within (f values within given)
follows_from P Q p q bounds (BothIn parts) h f = λ values within given. h values within (f values within given)

-- ---- plain values

lacks_false : (w : Span) (v : Option ℤ) → (IsInSpan (pos 0) w → ⊥) → IsIn w v → IsTruth v
lacks_false w None lack h = absurd h
lacks_false w (Some x) lack h = λ e. lack (subst (λ z. IsInSpan z w) e h)

one_of : (y : ℤ) → y ≢ pos 0 → truth_of y ≡ pos 1
one_of y n = ap (λ b. number_of (not b)) (not_false y n)

zero_number : (x : ℤ) → is_false x ≡ true → x ≡ pos 0
zero_number x t = (Decides-int_eq x (pos 0)).0 t

module _ (w : Span) (lack : IsInSpan (pos 1) w → ⊥) where
  not_one : (b : Option ℤ) → IfSome b (λ v. v ≢ pos 0) → IsIn w (option_map truth_of b) → ⊥
  not_one None sure k = k
  not_one (Some y) sure k = lack (subst (λ z. IsInSpan z w) (one_of y sure) k)

  untrue : (y : ℤ) (c : Bool) → is_false y ≡ c → IsInSpan (number_of (not c)) w → IsInSpan y nothing_true
  untrue y true e k = zero_in y (zero_number y e)
  untrue y false e k = absurd (lack k)

  zero_truth : (b : Option ℤ) → IsIn w (option_map truth_of b) → IsIn nothing_true b
  zero_truth None k = absurd k
  zero_truth (Some y) k = untrue y (is_false y) refl k

  and_left_at : (x : ℤ) (b : Option ℤ) (c : Bool) → is_false x ≡ c → IfSome b (λ v. v ≢ pos 0) → IsIn w (cond c (Some (pos 0)) (option_map truth_of b)) → IsInSpan x nothing_true
  and_left_at x b true e sure k = zero_in x (zero_number x e)
  and_left_at x b false e sure k = absurd (not_one b sure k)

  and_left_false : (a b : Option ℤ) → IfSome b (λ v. v ≢ pos 0) → IsIn w (by_left a (option_map truth_of b) (Some (pos 0))) → IsIn nothing_true a
  and_left_false None b sure h = absurd h
  and_left_false (Some x) b sure h = and_left_at x b (is_false x) refl sure h

  and_right_at : (x : ℤ) (b : Option ℤ) (c : Bool) → is_false x ≡ c → x ≢ pos 0 → IsIn w (cond c (Some (pos 0)) (option_map truth_of b)) → IsTruth (Some x) × IsIn nothing_true b
  and_right_at x b true e sure k = absurd (sure (zero_number x e))
  and_right_at x b false e sure k = (sure, zero_truth b k)

  and_right_false : (a b : Option ℤ) → IfSome a (λ v. v ≢ pos 0) → IsIn w (by_left a (option_map truth_of b) (Some (pos 0))) → IsTruth a × IsIn nothing_true b
  and_right_false None b sure h = absurd h
  and_right_false (Some x) b sure h = and_right_at x b (is_false x) refl sure h

  or_at : (x : ℤ) (b : Option ℤ) (c : Bool) → is_false x ≡ c → IsIn w (cond c (option_map truth_of b) (Some (pos 1))) → IsInSpan x nothing_true × IsIn nothing_true b
  or_at x b true e k = (zero_in x (zero_number x e), zero_truth b k)
  or_at x b false e k = absurd (lack k)

  or_false : (a b : Option ℤ) → IsIn w (by_left a (Some (pos 1)) (option_map truth_of b)) → IsIn nothing_true a × IsIn nothing_true b
  or_false None b h = absurd h
  or_false (Some x) b h = or_at x b (is_false x) refl h

  implies_at : (x : ℤ) (b : Option ℤ) (c : Bool) → is_false x ≡ c → IsIn w (cond c (Some (pos 1)) (option_map truth_of b)) → IsTruth (Some x) × IsIn nothing_true b
  implies_at x b true e k = absurd (lack k)
  implies_at x b false e k = (true_number x e, zero_truth b k)

  implies_false : (a b : Option ℤ) → IsIn w (by_left a (option_map truth_of b) (Some (pos 1))) → IsTruth a × IsIn nothing_true b
  implies_false None b h = absurd h
  implies_false (Some x) b h = implies_at x b (is_false x) refl h

or_second : (a b : Option ℤ) → IfSome a (λ v. v ≡ pos 0) → IsTruth (by_left a (Some (pos 1)) (option_map truth_of b)) → IsIn nothing_true a × IsTruth b
or_second None b z h = absurd h
or_second (Some x) b z h = (zero_in x z, or_right_of (Some x) b z h)

implies_both : (a b : Option ℤ) → IfSome a (λ v. v ≢ pos 0) → IsTruth (by_left a (option_map truth_of b) (Some (pos 1))) → IsTruth a × IsTruth b
implies_both None b s h = absurd h
implies_both (Some x) b s h = (s, implies_of (Some x) b s h)

-- ---- expressions

module _ (p q : Expression) (w : Span) (bounds : List (Option Span)) where
  pub and_wanted : (d : Demand) → (IsInSpan (pos 0) w → ⊥) → Follows (λ values. IsMet p values × IsMet q values) p q bounds d → AndFollows p q w bounds d
  and_wanted d lack h = follows_from (GivesIn (Binary And p q) w) (λ values. IsMet p values × IsMet q values) p q bounds d h (λ values within given. and_of (value p values) (value q values) (lacks_false w (value (Binary And p q) values) lack given))

  pub and_left : (IsInSpan (pos 1) w → ⊥) → IsSurelyTrue q bounds → AndFollows p q w bounds (LeftIn nothing_true)
  and_left lack sure values within given = and_left_false w lack (value p values) (value q values) (sure values within) given

  pub and_right : (d : Demand) → (IsInSpan (pos 1) w → ⊥) → IsSurelyTrue p bounds → Follows (λ values. IsMet p values × GivesFalse q values) p q bounds d → AndFollows p q w bounds d
  and_right d lack sure h = follows_from (GivesIn (Binary And p q) w) (λ values. IsMet p values × GivesFalse q values) p q bounds d h (λ values within given. and_right_false w lack (value p values) (value q values) (sure values within) given)

  pub or_neither : (IsInSpan (pos 1) w → ⊥) → OrFollows p q w bounds (BothIn (record { left = nothing_true; right = nothing_true }))
  or_neither lack values within given = or_false w lack (value p values) (value q values) given

  pub or_first : (d : Demand) → (IsInSpan (pos 0) w → ⊥) → IsNeverTrue q bounds → Follows (IsMet p) p q bounds d → OrFollows p q w bounds d
  or_first d lack never h = follows_from (GivesIn (Binary Or p q) w) (IsMet p) p q bounds d h (λ values within given. or_left_of (value p values) (value q values) (never values within) (lacks_false w (value (Binary Or p q) values) lack given))

  pub or_last : (d : Demand) → (IsInSpan (pos 0) w → ⊥) → IsNeverTrue p bounds → Follows (λ values. GivesFalse p values × IsMet q values) p q bounds d → OrFollows p q w bounds d
  or_last d lack never h = follows_from (GivesIn (Binary Or p q) w) (λ values. GivesFalse p values × IsMet q values) p q bounds d h (λ values within given. or_second (value p values) (value q values) (never values within) (lacks_false w (value (Binary Or p q) values) lack given))

  pub implies_neither : (d : Demand) → (IsInSpan (pos 1) w → ⊥) → Follows (λ values. IsMet p values × GivesFalse q values) p q bounds d → ImpliesFollows p q w bounds d
  implies_neither d lack h = follows_from (GivesIn (Binary Implies p q) w) (λ values. IsMet p values × GivesFalse q values) p q bounds d h (λ values within given. implies_false w lack (value p values) (value q values) given)

  pub implies_first : (IsInSpan (pos 0) w → ⊥) → IsNeverTrue q bounds → ImpliesFollows p q w bounds (LeftIn nothing_true)
  implies_first lack never values within given = implies_false_of (value p values) (value q values) (never values within) (lacks_false w (value (Binary Implies p q) values) lack given)

  pub implies_last : (d : Demand) → (IsInSpan (pos 0) w → ⊥) → IsSurelyTrue p bounds → Follows (λ values. IsMet p values × IsMet q values) p q bounds d → ImpliesFollows p q w bounds d
  implies_last d lack sure h = follows_from (GivesIn (Binary Implies p q) w) (λ values. IsMet p values × IsMet q values) p q bounds d h (λ values within given. implies_both (value p values) (value q values) (sure values within) (lacks_false w (value (Binary Implies p q) values) lack given))

-- ---- spans of truth

pub truth_left : (p q : Expression) (s : Span) (bounds : List (Option Span)) → GivesTruthIn p s bounds → Follows (IsMet p) p q bounds (LeftIn s)
truth_left p q s bounds h values within met = h values within met

pub truth_alone : (p q : Expression) (s : Span) (bounds : List (Option Span)) → GivesTruthIn p s bounds → Follows (λ values. IsMet p values × GivesFalse q values) p q bounds (BothIn (record { left = s; right = nothing_true }))
truth_alone p q s bounds h values within given = (h values within given.0, given.1)

pub truth_last : (p q : Expression) (s : Span) (bounds : List (Option Span)) → GivesTruthIn q s bounds → Follows (λ values. GivesFalse p values × IsMet q values) p q bounds (BothIn (record { left = nothing_true; right = s }))
truth_last p q s bounds h values within given = (given.0, h values within given.1)

pub truth_both : (p q : Expression) (s t : Span) (bounds : List (Option Span)) → GivesTruthIn p s bounds → GivesTruthIn q t bounds → Follows (λ values. IsMet p values × IsMet q values) p q bounds (BothIn (record { left = s; right = t }))
truth_both p q s t bounds h k values within given = (h values within given.0, k values within given.1)

-- the same operator, told otherwise
pub follows_along : (o op : BinaryOp) (p q : Expression) (w : Span) (bounds : List (Option Span)) (d : Demand) → op ≡ o → Follows (GivesIn (Binary o p q) w) p q bounds d → Follows (GivesIn (Binary op p q) w) p q bounds d
follows_along o op p q w bounds d e h = subst (λ r. Follows (GivesIn (Binary r p q) w) p q bounds d) (sym e) h
