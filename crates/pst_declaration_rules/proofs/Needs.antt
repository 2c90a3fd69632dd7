-- Whether there is one of what is counted.
use Rattle.std.proofs.Common.{◌≡◌, ⊎_elim, ℕ, ◌+◌, ◌≤◌, Bool, true, false, nat_lt, List, [], ◌∷◌, map, Option, refl, sym, ap, ◌∙◌, arith, true≢false}
use Rattle.std.specs.Prelude.{Some, Contains, if◌then◌else◌}
use Rattle.pst_ast.specs.declared.scope_declaration.Declaration.{Declaration}
use Rattle.pst_declaration_rules.specs.declared.counted.Kind.{Kind}
use Rattle.pst_declaration_rules.specs.declared.sources.TypeSources.{TypeSources}
use Rattle.pst_declaration_rules.specs.Counted.{is_of, most_of, one_or_none, plus, total, weight}
use Rattle.pst_declaration_rules.specs.Findings.{is_positive}
use Rattle.pst_declaration_rules.specs.Tallied.{adding}
use Rattle.pst_enum_rules.proofs.LeastOfEach.{cons_cases, cons_first, cons_rest, none_in}
use Rattle.pst_declaration_rules.proofs.Overrun.{lt_is, plus_is}

module _ (kd : Kind) (k : TypeSources) (one : (d : Declaration) → weight kd (adding k d) ≡ one_or_none (is_of kd d.sort)) where
  record IsAtLeast (n : ℕ) (o : Option ℕ) : Type 0 where
    sum : ℕ
    is : o ≡ Some sum
    more : n ≤ sum

  plus_by : (n : ℕ) (b : Bool) → IsAtLeast n (plus (most_of kd) (Some n) (one_or_none b))
  plus_by n b = by b (nat_lt (most_of kd) n) refl
    where
      by : (b t : Bool) → nat_lt (most_of kd) n ≡ t → IsAtLeast n (plus (most_of kd) (Some n) (one_or_none b))
      by true true e = record { sum = n; is = ap (λ (t : Bool). if t then Some n else Some (n + 1)) e; more = omega arith }
      by true false e = record { sum = n + 1; is = ap (λ (t : Bool). if t then Some n else Some (n + 1)) e; more = omega arith }
      by false true e = record { sum = n; is = ap (λ (t : Bool). if t then Some n else Some (n + 0)) e; more = omega arith }
      by false false e = record { sum = n + 0; is = ap (λ (t : Bool). if t then Some n else Some (n + 0)) e; more = omega arith }

  grows : (n : ℕ) (ds : List Declaration) → IsAtLeast n (total kd (Some n) (map (adding k) ds))
  grows n [] = record { sum = n; is = refl; more = omega arith }
  grows n (d ∷ ds) =
      let p = plus_by n (is_of kd d.sort) in
      let r = grows p.sum ds in
      record {
        sum = r.sum;
        is = ap (λ (o : Option ℕ). total kd o (map (adding k) ds)) (ap (λ (w : Option ℕ). plus (most_of kd) (Some n) w) (one d) ∙ p.is) ∙ r.is;
        more = omega (arith, p.more, r.more);
      }

  step : (d : Declaration) (b : Bool) → is_of kd d.sort ≡ b → plus (most_of kd) (Some 0) (weight kd (adding k d)) ≡ Some (0 + (if b then 1 else 0))
  step d true is = ap (λ (w : Option ℕ). plus (most_of kd) (Some 0) w) (one d ∙ ap one_or_none is) ∙ plus_is (most_of kd) 0 1 (omega arith)
  step d false is = ap (λ (w : Option ℕ). plus (most_of kd) (Some 0) w) (one d ∙ ap one_or_none is) ∙ plus_is (most_of kd) 0 0 (omega arith)

  positive_of : (o : Option ℕ) → IsAtLeast 1 o → is_positive o ≡ true
  positive_of o r = ap is_positive r.is ∙ lt_is 0 r.sum (omega (arith, r.more))

  after_step : (d : Declaration) (ds : List Declaration) (b : Bool) → is_of kd d.sort ≡ b → total kd (Some (0 + (if b then 1 else 0))) (map (adding k) ds) ≡ total kd (plus (most_of kd) (Some 0) (weight kd (adding k d))) (map (adding k) ds)
  after_step d ds b is = ap (λ (o : Option ℕ). total kd o (map (adding k) ds)) (sym (step d b is))

  -- where one is among them, there is one
  pub one_there : (ds : List Declaration) (m : Declaration) → Contains ds m → is_of kd m.sort ≡ true → is_positive (total kd (Some 0) (map (adding k) ds)) ≡ true
  one_there [] m among is = absurd (none_in m among)
  one_there (d ∷ ds) m among is = by (λ there. one_there ds m there is) (is_of kd d.sort) refl
    where
      by : (Contains ds m → is_positive (total kd (Some 0) (map (adding k) ds)) ≡ true) → (b : Bool) → is_of kd d.sort ≡ b → is_positive (total kd (plus (most_of kd) (Some 0) (weight kd (adding k d))) (map (adding k) ds)) ≡ true
      by rest true here = ap is_positive (sym (after_step d ds true here)) ∙ positive_of _ (grows 1 ds)
      by rest false here = ap is_positive (sym (after_step d ds false here)) ∙ rest
          (⊎_elim (λ same. absurd (true≢false (sym is ∙ (ap (λ (x : Declaration). is_of kd x.sort) (sym same) ∙ here)))) (λ there. there) (cons_cases d m ds among))

  pub record HasOne (ds : List Declaration) : Type 0 where
    pub m : Declaration
    pub among : Contains ds m
    pub is : is_of kd m.sort ≡ true

  pub has_one : (ds : List Declaration) → is_positive (total kd (Some 0) (map (adding k) ds)) ≡ true → HasOne ds
  has_one [] e = absurd (true≢false (sym e))
  has_one (d ∷ ds) e = by (has_one ds) (is_of kd d.sort) refl
    where
      by : (is_positive (total kd (Some 0) (map (adding k) ds)) ≡ true → HasOne ds) → (b : Bool) → is_of kd d.sort ≡ b → HasOne (d ∷ ds)
      by rest true here = record { m = d; among = cons_first d ds; is = here }
      by rest false here =
          let r = rest (ap is_positive (after_step d ds false here) ∙ e) in
          record { m = r.m; among = cons_rest d r.m ds r.among; is = r.is }
