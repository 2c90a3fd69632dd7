-- First objects are filled and cleared by their numbers, and what is put into a blank can be taken away.
use Rattle.std.proofs.Common.{◌≡◌, ℕ, ℤ, List, Option, sym, ap, ◌∙◌, subst}
use Rattle.std.specs.Prelude.{Result, Ok, Err, OnOk, OnErr}
use Rattle.pst_model.specs.ModelTree.{ModelTree}
use Rattle.pst_scen.specs.declared.scenario.First.{First}
use Rattle.pst_scen.specs.declared.scenario.Scenario.{Scenario}
use Rattle.pst_legal.specs.Blanks.{Blank, OfFirst, option_value}
use Rattle.pst_legal.specs.ValueReading.{with_option}
use Rattle.pst_blanks.specs.Placed.{FoundAt, pools_of, AreRising, Keeps}
use Rattle.pst_blanks.specs.Filling.{first_more, first_less, altered_at, cleared}
use Rattle.pst_blanks.proofs.Firsts.{first_at}
use Rattle.pst_blanks.proofs.Cleared.{keeps_same, keeps_filled}

pub first_filled : (m : ModelTree) (s : Scenario) (b : Blank) (at : Option ℕ) (pool field k : ℕ) (v : ℤ) (new : List First) → b ≡ OfFirst pool field → FoundAt (pools_of s.firsts) b at → AreRising s
    → v ≡ option_value m s.actions b k → new ≡ altered_at (first_more v) at s.firsts → record s { firsts = new } ≡ with_option m k b s
first_filled m s b at pool field k v new e found rising is h =
    let here = subst (λ x. FoundAt (pools_of s.firsts) x at) e found in
    let w = option_value m s.actions (OfFirst pool field) k in
    let same : v ≡ w = is ∙ ap (λ x. option_value m s.actions x k) e in
    ap (λ l. record s { firsts = l })
    (h ∙ ap (λ x. altered_at (first_more x) at s.firsts) same ∙ ap (λ o. altered_at (first_more w) o s.firsts) here.1 ∙ sym (first_at (first_more w) pool here.0 s.firsts rising here.2))
    ∙ ap (λ x. with_option m k x s) (sym e)

pub first_cleared : (s : Scenario) (b : Blank) (at : Option ℕ) (pool field : ℕ) (new : List First) → b ≡ OfFirst pool field → FoundAt (pools_of s.firsts) b at → AreRising s
    → new ≡ altered_at first_less at s.firsts → record s { firsts = new } ≡ cleared b s
first_cleared s b at pool field new e found rising h =
    let here = subst (λ x. FoundAt (pools_of s.firsts) x at) e found in
    ap (λ l. record s { firsts = l }) (h ∙ ap (λ o. altered_at first_less o s.firsts) here.1 ∙ sym (first_at first_less pool here.0 s.firsts rising here.2))
    ∙ ap (λ x. cleared x s) (sym e)

pub keeps_either : {T E : Type 0} (m : ModelTree) (k : ℕ) (b : Blank) (s t : Scenario) (r : Result T E) → OnOk r (t ≡ with_option m k b s) → OnErr r (t ≡ s) → Keeps m s t
keeps_either m k b s t (Ok x) ok err = subst (Keeps m s) (sym ok) (keeps_filled m k b s)
keeps_either m k b s t (Err x) ok err = subst (Keeps m s) (sym err) (keeps_same m s)
