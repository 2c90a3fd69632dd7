-- Constraints that are written one after another.
use Rattle.std.proofs.Common.{◌≡◌, ℕ, zero, suc, ◌+◌, ◌<◌, List, [], ◌∷◌, ◌++◌, map, length, get_or, Contains, Bool, true, false, nat_lt, ltb-true, ltb-false, Some, refl, sym, ap, ◌∙◌, subst, inl, arith}
use Rattle.std.specs.Prelude.{slice_get}
use Rattle.std.proofs.lemmas.Option.{same_Some}
use Rattle.pst_expr.specs.declared.tree.Expr.{Expr}
use Rattle.pst_expr.specs.Tree.{Expression, view}
use Rattle.pst_model.specs.ConstraintTree.{ConstraintTree}
use Rattle.pst_model.specs.ModelTree.{ModelTree}
use Rattle.pst_scen.specs.declared.scenario.Scenario.{Scenario}
use Rattle.pst_legal.specs.Blanks.{Blank}
use Rattle.pst_built.proofs.Members.{to_left, to_right, to_contains, from_contains}
use Rattle.pst_constraint_sites.specs.Sites.{SiteTree}
use Rattle.pst_constraint_sites.specs.Groups.{GroupTree}
use Rattle.pst_written_constraints.specs.Open.{HasWriting, AreWrittenTo, AreAllWritten, AreGroupsWritten, Stay}

mapped : (xs : List Expr) (e : Expr) → map view (xs ++ e ∷ []) ≡ map view xs ++ view e ∷ []
mapped [] e = refl
mapped (x ∷ xs) e = ap (λ l. view x ∷ l) (mapped xs e)

viewed_push : (old new : List Expr) (e : Expr) → new ≡ old ++ e ∷ [] → map view new ≡ map view old ++ view e ∷ []
viewed_push old new e is = ap (map view) is ∙ mapped old e

pub stay_pushed : (old new : List Expr) (e : Expr) → new ≡ old ++ e ∷ [] → Stay (map view old) (map view new)
stay_pushed old new e is x has =
    subst (λ xs. Contains xs x) (sym (viewed_push old new e is))
    (to_contains (map view old ++ view e ∷ []) x (to_left (map view old) (view e ∷ []) x (from_contains (map view old) x has.0 has.1 has.2)))

pub last_pushed : (old new : List Expr) (e : Expr) → new ≡ old ++ e ∷ [] → Contains (map view new) (view e)
last_pushed old new e is = subst (λ xs. Contains xs (view e)) (sym (viewed_push old new e is)) (to_contains (map view old ++ view e ∷ []) (view e) (to_right (map view old) (view e ∷ []) (view e) (inl refl)))

writing_stays : (m : ModelTree) (s : Scenario) (blanks : List Blank) (old new : List Expression) (site : SiteTree) (k : ConstraintTree) → Stay old new → HasWriting m s blanks old site k → HasWriting m s blanks new site k
writing_stays m s blanks old new site k stay has = record { written = has.written; is = stay has.written has.is; writes = has.writes }

-- one more is written
pub one_more : (m : ModelTree) (s : Scenario) (blanks : List Blank) (old new : List Expression) (site : SiteTree) (ks : List ConstraintTree) (n : ℕ) (k : ConstraintTree) → Stay old new → slice_get ks n ≡ Some k
    → HasWriting m s blanks new site k → AreWrittenTo m s blanks old site ks n → AreWrittenTo m s blanks new site ks (n + 1)
one_more m s blanks old new site ks n k stay is here all i other l at = by (nat_lt i n) refl
  where
    by : (b : Bool) → nat_lt i n ≡ b → HasWriting m s blanks new site other
    by true e = writing_stays m s blanks old new site other stay (all i other (ltb-true i n e) at)
    by false e =
        let low = ltb-false i n e in
        let same : i ≡ n = omega (arith, l, low) in
        let own : k ≡ other = same_Some k other (sym is ∙ ap (slice_get ks) (sym same) ∙ at) in
        subst (HasWriting m s blanks new site) own here

pub group_stays : (m : ModelTree) (s : Scenario) (blanks : List Blank) (old new : List Expression) (group : GroupTree) → Stay old new → AreAllWritten m s blanks old group → AreAllWritten m s blanks new group
group_stays m s blanks old new group stay all i k is = writing_stays m s blanks old new group.site k stay (all i k is)

-- one more group is written
pub one_group_more : (m : ModelTree) (s : Scenario) (blanks : List Blank) (old new : List Expression) (gs : List GroupTree) (n : ℕ) (group : GroupTree) → Stay old new → slice_get gs n ≡ Some group
    → AreAllWritten m s blanks new group → AreGroupsWritten m s blanks old gs n → AreGroupsWritten m s blanks new gs (n + 1)
one_group_more m s blanks old new gs n group stay is here all i other l at = by (nat_lt i n) refl
  where
    by : (b : Bool) → nat_lt i n ≡ b → AreAllWritten m s blanks new other
    by true e = group_stays m s blanks old new other stay (all i other (ltb-true i n e) at)
    by false e =
        let low = ltb-false i n e in
        let same : i ≡ n = omega (arith, l, low) in
        let own : group ≡ other = same_Some group other (sym is ∙ ap (slice_get gs) (sym same) ∙ at) in
        subst (AreAllWritten m s blanks new) own here

-- an element by its index, as it is seen
pub seen_at : {A B : Type 0} (f : A → B) (xs : List A) (i : ℕ) (x : A) → i < length xs → x ≡ get_or xs i x → slice_get (map f xs) i ≡ Some (f x)
seen_at f [] i x l e = absurd (omega (arith, l))
seen_at f (y ∷ ys) zero x l e = ap (λ z. Some (f z)) (sym e)
seen_at f (y ∷ ys) (suc i) x l e = seen_at f ys i x (omega (arith, l)) e
