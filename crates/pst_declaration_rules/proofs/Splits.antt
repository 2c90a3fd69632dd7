-- A list that is split where some of its elements are left out.
use Rattle.std.proofs.Common.{◌≡◌, Bool, true, false, cond, List, [], ◌∷◌, ◌++◌, length, refl, ap, subst, ◌∙◌, arith}
use Rattle.std.specs.List.{filter}
use Rattle.pst_ast.specs.declared.scope_declaration.Declaration.{Declaration}

module _ (test : Declaration → Bool) where
  pub record WasSplit (ds front : List Declaration) (m : Declaration) : Type 0 where
    pub before : List Declaration
    pub behind : List Declaration
    pub split : ds ≡ before ++ m ∷ behind
    pub kept : filter test before ≡ front
    pub passes : test m ≡ true

  head_or : Declaration → List Declaration → Declaration
  head_or d [] = d
  head_or d (x ∷ xs) = x

  tail_of : List Declaration → List Declaration
  tail_of [] = []
  tail_of (x ∷ xs) = xs

  abbrev Back : List Declaration → Type 0
  Back ds = (front more : List Declaration) (m : Declaration) → filter test ds ≡ front ++ m ∷ more → WasSplit ds front m

  was_first : (d : Declaration) (ds : List Declaration) → Back ds → (front more : List Declaration) (m : Declaration) → test d ≡ true → d ∷ filter test ds ≡ front ++ m ∷ more → WasSplit (d ∷ ds) front m
  unfolding head_or tail_of
  was_first d ds back [] more m is e =
      let same : d ≡ m = ap (head_or d) e in
      record { before = []; behind = ds; split = ap (λ x. x ∷ ds) same; kept = refl; passes = subst (λ x. test x ≡ true) same is }
  was_first d ds back (x ∷ front) more m is e =
      let r = back front more m (ap tail_of e) in
      let same : d ≡ x = ap (head_or d) e in
      record {
        before = d ∷ r.before;
        behind = r.behind;
        split = ap (λ xs. d ∷ xs) r.split;
        kept = ap (λ (b : Bool). cond b (d ∷ filter test r.before) (filter test r.before)) is ∙ (ap (λ xs. d ∷ xs) r.kept ∙ ap (λ y. y ∷ front) same);
        passes = r.passes;
      }

  was_by : (d : Declaration) (ds : List Declaration) → Back ds → (front more : List Declaration) (m : Declaration) (b : Bool) → test d ≡ b → cond b (d ∷ filter test ds) (filter test ds) ≡ front ++ m ∷ more → WasSplit (d ∷ ds) front m
  was_by d ds back front more m true is e = was_first d ds back front more m is e
  was_by d ds back front more m false is e =
      let r = back front more m e in
      record {
        before = d ∷ r.before;
        behind = r.behind;
        split = ap (λ xs. d ∷ xs) r.split;
        kept = ap (λ (b : Bool). cond b (d ∷ filter test r.before) (filter test r.before)) is ∙ r.kept;
        passes = r.passes;
      }

  nothing_split : (front more : List Declaration) (m : Declaration) → [] ≡ front ++ m ∷ more → ⊥
  nothing_split [] more m e = absurd (omega (arith, ap length e))
  nothing_split (x ∷ front) more m e = absurd (omega (arith, ap length e))

  -- where one is behind others that pass, it is behind those that become them
  pub was_split : (ds : List Declaration) → Back ds
  was_split [] front more m e = absurd (nothing_split front more m e)
  was_split (d ∷ ds) front more m e = was_by d ds (was_split ds) front more m (test d) refl e

module _ (p q : Declaration → Bool) (so : (d : Declaration) → q d ≡ true → p d ≡ true) where
  again_by : (d : Declaration) (ds : List Declaration) (b : Bool) → q d ≡ b → filter p (filter q ds) ≡ filter q ds → filter p (cond b (d ∷ filter q ds) (filter q ds)) ≡ cond b (d ∷ filter q ds) (filter q ds)
  again_by d ds true is e = ap (λ (b : Bool). cond b (d ∷ filter p (filter q ds)) (filter p (filter q ds))) (so d is) ∙ ap (λ xs. d ∷ xs) e
  again_by d ds false is e = e

  -- those of which each passes another test all pass it
  pub filter_again : (ds : List Declaration) → filter p (filter q ds) ≡ filter q ds
  filter_again [] = refl
  filter_again (d ∷ ds) = again_by d ds (q d) refl (filter_again ds)
