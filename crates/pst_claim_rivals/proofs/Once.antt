-- No claim is listed twice.
use Rattle.std.proofs.Common.{◌≡◌, ◌≢◌, ℕ, zero, suc, ◌+◌, ◌<◌, ◌≤◌, List, [], ◌∷◌, ◌++◌, map, Some, refl, sym, ap, ◌∙◌, subst, inl, inr, ⊎_elim, arith}
use Rattle.std.specs.Prelude.{slice_get, flat_map}
use Rattle.std.specs.List.{enumerate_from}
use Rattle.std.proofs.lemmas.Option.{none-some, same_Some}
use Rattle.pst_model.specs.declared.action.Claim.{Claim}
use Rattle.pst_model.specs.ModelTree.{ModelTree}
use Rattle.pst_scen.specs.declared.act.Act.{Act}
use Rattle.pst_legal.specs.Types.{type_of}
use Rattle.pst_legal.specs.Blanks.{claims_of}
use Rattle.pst_built.proofs.Members.{In, in_get, in_append, in_map, in_flat_map}
use Rattle.pst_claim_rivals.specs.declared.claims.OpenClaim.{OpenClaim}
use Rattle.pst_claim_rivals.specs.Claims.{open_claim, claims_in, open_claims}
use Rattle.pst_claim_rivals.specs.Rivals.{ClaimsAreListedOnce}

-- the two aren't one claim of one action
abbrev Differ : OpenClaim → OpenClaim → Type 0
Differ x y = x.act ≡ y.act → x.claim ≢ y.claim

abbrev Once : List OpenClaim → Type 0
Once [] = Unit {0}
Once (x ∷ xs) = ((y : OpenClaim) → In y xs → Differ x y) × Once xs

once_join : (xs ys : List OpenClaim) → Once xs → Once ys → ((x y : OpenClaim) → In x xs → In y ys → Differ x y) → Once (xs ++ ys)
once_join [] ys one other cross = other
once_join (x ∷ xs) ys one other cross =
    (λ y has. ⊎_elim (λ h. one.0 y h) (λ h. cross x y (inl refl) h) (in_append xs ys y has), once_join xs ys one.1 other (λ v w h k. cross v w (inr h) k))

from_on : {A : Type 0} (k : ℕ) (xs : List A) (e : ℕ × A) → In e (enumerate_from k xs) → k ≤ e.0
from_on k [] e has = absurd has
from_on k (x ∷ xs) e (inl same) = let h : k ≡ e.0 = ap (λ (p : ℕ × _). p.0) same in omega (arith, h)
from_on k (x ∷ xs) e (inr has) = let r = from_on (k + 1) xs e has in omega (arith, r)

once_in : (m : ModelTree) (a : ℕ) (act : Act) (n : ℕ) (claims : List Claim) → Once (map (open_claim m a act) (enumerate_from n claims))
once_in m a act n [] = tt
once_in m a act n (claim ∷ more) = (
  λ y has same e.
      let f = in_map (open_claim m a act) (enumerate_from (n + 1) more) y has in
      let late = from_on (n + 1) more f.0 f.1 in
      let own : f.0.0 ≡ y.claim = ap (λ (z : OpenClaim). z.claim) f.2 in
      omega (arith, late, own, e),
  once_in m a act (n + 1) more,
)

act_of : (m : ModelTree) (e : ℕ × Act) (x : OpenClaim) → In x (claims_in m e) → x.act ≡ e.0
act_of m e x has =
    let f = in_map (open_claim m e.0 e.1) (enumerate_from 0 (claims_of (type_of m e.1.action))) x has in
    ap (λ (z : OpenClaim). z.act) (sym f.2)

once_all : (m : ModelTree) (k : ℕ) (acts : List Act) → Once (flat_map (claims_in m) (enumerate_from k acts))
once_all m k [] = tt
once_all m k (act ∷ acts) =
    once_join (claims_in m (k, act)) (flat_map (claims_in m) (enumerate_from (k + 1) acts)) (once_in m k act 0 (claims_of (type_of m act.action))) (once_all m (k + 1) acts)
    (λ x y one other same e.
    let first = act_of m (k, act) x one in
    let r = in_flat_map (claims_in m) (enumerate_from (k + 1) acts) y other in
    let second = act_of m r.0 y r.2 in
    let late = from_on (k + 1) acts r.0 r.1 in
    omega (arith, first, second, late, same))

at_once : (xs : List OpenClaim) → Once xs → (i j : ℕ) (x y : OpenClaim) → i < j → slice_get xs i ≡ Some x → slice_get xs j ≡ Some y → Differ x y
at_once [] one i j x y l is at = absurd (none-some x is)
at_once (z ∷ zs) one i zero x y l is at = absurd (omega (arith, l))
at_once (z ∷ zs) one zero (suc j) x y l is at = subst (λ w. Differ w y) (same_Some z x is) (one.0 y (in_get zs j y at))
at_once (z ∷ zs) one (suc i) (suc j) x y l is at = at_once zs one.1 i j x y (omega (arith, l)) is at

pub once : ClaimsAreListedOnce
once m acts i j x y l is at = at_once (open_claims m acts) (once_all m 0 acts) i j x y l is at
