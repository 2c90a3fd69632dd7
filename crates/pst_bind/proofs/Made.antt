-- What candidates come to.
use Rattle.std.proofs.Common.{◌≡◌, ◌<◌, ◌≤◌, arith, refl, sym, subst, ap, ◌∙◌, true≢false}
use Rattle.std.specs.Prelude.{◌&&◌, ℕ, zero, suc, ◌+◌, nat_eq, Bool, true, false, not, List, [], ◌∷◌, ◌++◌, map, length, Option, Some, None, Result, Ok, Err, IfOk, IfSome, OnOk, slice_get, if◌then◌else◌}
use Rattle.std.specs.List.{list_any}
use Rattle.std.specs.Option.{option_map_or, option_and_then}
use Rattle.std.proofs.lemmas.Option.{slice_get_past}
use Rattle.std.proofs.lemmas.Bool.{eqb-true}
use Rattle.pst_base.specs.declared.position.Place.{Place}
use Rattle.pst_ast.specs.declared.instance.Instance.{Instance}
use Rattle.pst_ast.specs.declared.scope_declaration.Declaration.{Declaration}
use Rattle.pst_ast.specs.declared.referent.Finding.{Finding}
use Rattle.pst_ast.specs.Lookups.{type_of}
use Rattle.pst_ast.specs.NameRules.{finding}
use Rattle.pst_ast.specs.Sorts.{same_place}
use Rattle.pst_bind.specs.declared.choices.Choice.{Choice}
use Rattle.pst_bind.specs.declared.choices.Choice.TheVariants as choice
use Rattle.pst_bind.specs.declared.default_choices.TypeChoices.{TypeChoices}
use Rattle.pst_bound_pools.specs.declared.default_rows.DefaultRows.{DefaultRows}
use Rattle.pst_bound_pools.specs.declared.explicit_rows.ExplicitRows.{ExplicitRows}
use Rattle.pst_bind.specs.declared.wants.Wanted.{Wanted}
use Rattle.pst_bind.specs.Choices.{choice_of, pool_of, finding_at, AreBehind, default_choice, AreChoices, AreTypeChoices}
use Rattle.pst_bind.specs.Nearest.{default_row}
use Rattle.pst_bound_pools.specs.Serving.{above_within, with_those_above, first_filled, only_one, parent_of}
use Rattle.pst_bind.specs.Wants.{AreWanted, IsWanted, default_choice_of}
use Rattle.pst_bind.proofs.NearestRows.{none_filled, one_filled, no_items, without_rows}

nothing_at : {x : Choice} → None ≡ Some x → ⊥
nothing_at {x} e = cc

some_at : {x y : Choice} → Some x ≡ Some y → x ≡ y
some_at {x} {y} e = cc

no_type_at : {x : TypeChoices} → None ≡ Some x → ⊥
no_type_at {x} e = cc

some_type_at : {x y : TypeChoices} → Some x ≡ Some y → x ≡ y
some_type_at {x} {y} e = cc

no_wanted_at : {x : Wanted} → None ≡ Some x → ⊥
no_wanted_at {x} e = cc

some_wanted_at : {x y : Wanted} → Some x ≡ Some y → x ≡ y
some_wanted_at {x} {y} e = cc

same_places : (a b : Place) → same_place a b ≡ true → a ≡ b
same_places a b e =
    let one = both (nat_eq a.file b.file) (nat_eq a.line b.line && nat_eq a.column b.column) e in
    let two = both (nat_eq a.line b.line) (nat_eq a.column b.column) one.1 in
    let file = eqb-true a.file b.file one.0 in
    let line = eqb-true a.line b.line two.0 in
    let column = eqb-true a.column b.column two.1 in
    λ i. record { file = file i; line = line i; column = column i }
  where
    both : (x y : Bool) → (x && y) ≡ true → (x ≡ true) × (y ≡ true)
    both true y e = (refl, e)
    both false y e = absurd (true≢false (sym e))

-- ---- choices

pool_by : (b : Bool) (p : ℕ) → pool_of (if b then choice.Several else choice.One p) ≡ (if b then None else Some p)
pool_by true p = refl
pool_by false p = refl

pub pool_made : (ps : List ℕ) → pool_of (choice_of ps) ≡ only_one ps
pool_made [] = refl
pool_made (p ∷ more) = pool_by (list_any (λ q. not (nat_eq q p)) more) p

abbrev pub unserved : Place → Option ℕ → Option Finding
unserved place None = finding place 23
unserved place (Some pool) = None

abbrev pub need_finding : Place → List ℕ → Option Finding
need_finding place [] = finding place 22
need_finding place (p ∷ more) = unserved place (only_one (p ∷ more))

finding_by : (b : Bool) (place : Place) (p : ℕ) → finding_at place (if b then choice.Several else choice.One p) ≡ unserved place (if b then None else Some p)
finding_by true place p = refl
finding_by false place p = refl

pub finding_made : (place : Place) (ps : List ℕ) → finding_at place (choice_of ps) ≡ need_finding place ps
finding_made place [] = refl
finding_made place (p ∷ more) = finding_by (list_any (λ q. not (nat_eq q p)) more) place p

-- ---- the instances above

module _ (instances : List Instance) (behind : AreBehind instances) where
  -- one step more changes nothing where there are enough
  enough_by : (k n : ℕ) (parent : Option ℕ) → parent_of instances n ≡ parent → ((p : ℕ) → p < k → above_within k instances p ≡ above_within (suc k) instances p) → n ≤ k
      → option_map_or (above_within k instances) parent [] ≡ option_map_or (above_within (suc k) instances) parent []
  enough_by k n None is same less = refl
  enough_by k n (Some p) is same less = same p (let lower : p < n = behind n p is in omega (arith, lower, less))

  enough : (k n : ℕ) → n < k → above_within k instances n ≡ above_within (suc k) instances n
  enough zero n less = absurd (omega (arith, less))
  enough (suc k) n less = ap (λ (xs : List ℕ). n ∷ xs) (enough_by k n (parent_of instances n) refl (enough k) (omega (arith, less)))

  pub above_parent : (n p : ℕ) → n < length instances → parent_of instances n ≡ Some p → with_those_above instances n ≡ n ∷ with_those_above instances p
  above_parent n p within is = by_count (length instances) within
    where
      by_count : (k : ℕ) → n < k → above_within k instances n ≡ n ∷ above_within k instances p
      by_count zero less = absurd (omega (arith, less))
      by_count (suc k) less =
          ap (λ (o : Option ℕ). n ∷ option_map_or (above_within k instances) o []) is ∙ ap (λ (xs : List ℕ). n ∷ xs) (enough k p (let lower : p < n = behind n p is in omega (arith, lower, less)))

pub above_alone : (instances : List Instance) (n : ℕ) → n < length instances → parent_of instances n ≡ None → with_those_above instances n ≡ n ∷ []
above_alone instances n within is = by_count (length instances) within
  where
    by_count : (k : ℕ) → n < k → above_within k instances n ≡ n ∷ []
    by_count zero less = absurd (omega (arith, less))
    by_count (suc k) less = ap (λ (o : Option ℕ). n ∷ option_map_or (above_within k instances) o []) is

pub no_parent : (instances : List Instance) (n p : ℕ) → length instances ≤ n → parent_of instances n ≡ Some p → ⊥
no_parent instances n p far is = nothing (sym (ap (λ (o : Option Instance). option_and_then (λ i. i.parent) o) (slice_get_past instances n far)) ∙ is)
  where
    nothing : None ≡ Some p → ⊥
    nothing e = cc

-- ---- default binds

skipped : (xs : List ℕ) (more : List (List ℕ)) → xs ≡ [] → first_filled (xs ∷ more) ≡ first_filled more
skipped xs more e = ap (λ (ys : List ℕ). first_filled (ys ∷ more)) e

module _ (rows : DefaultRows) (instances : List Instance) (place : Place) where
  pub choice_alone : (n : ℕ) → n < length instances → parent_of instances n ≡ None → default_row rows place n ≡ [] → choice.Nothing ≡ default_choice rows instances place n
  choice_alone n within is empty =
      sym (ap (λ (above : List ℕ). choice_of (first_filled (map (default_row rows place) above))) (above_alone instances n within is) ∙ ap choice_of (skipped (default_row rows place n) [] empty))

  pub choice_of_parent : (n p : ℕ) (c : Choice) → AreBehind instances → n < length instances → parent_of instances n ≡ Some p → default_row rows place n ≡ [] → c ≡ default_choice rows instances place p
      → c ≡ default_choice rows instances place n
  choice_of_parent n p c behind within is empty same =
      same
      ∙ sym (ap (λ (above : List ℕ). choice_of (first_filled (map (default_row rows place) above))) (above_parent instances behind n p within is)
      ∙ ap choice_of (skipped (default_row rows place n) (map (default_row rows place) (with_those_above instances p)) empty))

  pub no_choices : AreChoices rows instances place []
  no_choices n c at = absurd (nothing_at at)

  -- one instance more; the first has that number
  added_from : (from : ℕ) (choices : List Choice) (made : Choice) → ((k : ℕ) (c : Choice) → slice_get choices k ≡ Some c → c ≡ default_choice rows instances place (from + k))
      → made ≡ default_choice rows instances place (from + length choices) → (k : ℕ) (c : Choice) → slice_get (choices ++ made ∷ []) k ≡ Some c → c ≡ default_choice rows instances place (from + k)
  added_from from [] made are is zero c at = sym (some_at at) ∙ is
  added_from from [] made are is (suc k) c at = absurd (nothing_at at)
  added_from from (x ∷ xs) made are is zero c at = are zero c at
  added_from from (x ∷ xs) made are is (suc k) c at =
      added_from (from + 1) xs made (λ j d e. are (suc j) d e ∙ ap (default_choice rows instances place) (omega arith)) (is ∙ ap (default_choice rows instances place) (omega arith)) k c at
      ∙ ap (default_choice rows instances place) (omega arith)

  pub one_choice_more : (choices : List Choice) (made : Choice) (n : ℕ) → AreChoices rows instances place choices → length choices ≡ n → made ≡ default_choice rows instances place n → AreChoices rows instances place (choices ++ made ∷ [])
  one_choice_more choices made n are long is k c at =
      added_from 0 choices made (λ j d e. are j d e ∙ ap (default_choice rows instances place) (omega arith)) (is ∙ ap (default_choice rows instances place) (omega (arith, long))) k c at ∙ ap (default_choice rows instances place) (omega arith)

module _ (rows : DefaultRows) (instances : List Instance) where
  pub no_types : AreTypeChoices rows instances []
  no_types k t at = absurd (no_type_at at)

  pub one_type_more : (known : List TypeChoices) (t : TypeChoices) → AreTypeChoices rows instances known → AreChoices rows instances t.place t.choices.items → AreTypeChoices rows instances (known ++ t ∷ [])
  one_type_more [] t are is zero found at = subst (λ (x : TypeChoices). AreChoices rows instances x.place x.choices.items) (some_type_at at) is
  one_type_more [] t are is (suc k) found at = absurd (no_type_at at)
  one_type_more (x ∷ known) t are is zero found at = are zero found at
  one_type_more (x ∷ known) t are is (suc k) found at = one_type_more known t (λ j y e. are (suc j) y e) is k found at

  pub choices_at : (a b : Place) (choices : List Choice) → same_place a b ≡ true → AreChoices rows instances a choices → AreChoices rows instances b choices
  choices_at a b choices same are = subst (λ (p : Place). AreChoices rows instances p choices) (same_places a b same) are

-- ---- references and claims

module _ (ds : List Declaration) (rows : DefaultRows) (instances : List Instance) where
  pub default_of_type : (need t : Declaration) (n : ℕ) → type_of ds need ≡ Some t → default_choice rows instances t.name.place n ≡ default_choice_of ds rows instances need n
  default_of_type need t n is = ap (λ (o : Option Declaration). choice_of (first_filled (map (λ (from : ℕ). option_map_or (λ (x : Declaration). default_row rows x.name.place from) o []) (with_those_above instances n)))) (sym is)

  pub default_without : (need : Declaration) (n : ℕ) → type_of ds need ≡ None → choice.Nothing ≡ default_choice_of ds rows instances need n
  default_without need n is =
      sym (ap (λ (o : Option Declaration). choice_of (first_filled (map (λ (from : ℕ). option_map_or (λ (x : Declaration). default_row rows x.name.place from) o []) (with_those_above instances n)))) is
      ∙ ap choice_of (without_rows (with_those_above instances n)))

  pub wanted_of : (w : Wanted) (t : Declaration) → type_of ds w.need ≡ Some t → AreChoices rows instances t.name.place w.choices.now → IsWanted ds rows instances w
  wanted_of w t is are n c at = are n c at ∙ default_of_type w.need t n is

  pub wanted_none : (w : Wanted) → w.choices.now ≡ [] → IsWanted ds rows instances w
  wanted_none w none n c at = absurd (nothing_at (sym (ap (λ (cs : List Choice). slice_get cs n) none) ∙ at))

  pub none_wanted : AreWanted ds rows instances []
  none_wanted k w at = absurd (no_wanted_at at)

  pub one_wanted_more : (all : List Wanted) (w : Wanted) → AreWanted ds rows instances all → IsWanted ds rows instances w → AreWanted ds rows instances (all ++ w ∷ [])
  one_wanted_more [] w are is zero found at = subst (IsWanted ds rows instances) (some_wanted_at at) is
  one_wanted_more [] w are is (suc k) found at = absurd (no_wanted_at at)
  one_wanted_more (x ∷ all) w are is zero found at = are zero found at
  one_wanted_more (x ∷ all) w are is (suc k) found at = one_wanted_more all w (λ j y e. are (suc j) y e) is k found at

-- ---- explicit binds first

module _ (xs ys : List (List ℕ)) (row : List ℕ) (is : row ≡ first_filled xs) where
  pub explicit_first : (length row ≡ 0 → ⊥) → choice_of row ≡ choice_of (first_filled (xs ++ ys))
  explicit_first some = ap choice_of (is ∙ sym (one_filled xs ys (λ e. some (ap length (is ∙ e)))))

  pub default_next : length row ≡ 0 → (c : Choice) → c ≡ choice_of (first_filled ys) → c ≡ choice_of (first_filled (xs ++ ys))
  default_next none c same = same ∙ ap choice_of (sym (none_filled xs ys (sym is ∙ no_items row none)))

-- no row where nothing is aimed at
pub nothing_aimed : (rows : ExplicitRows) (to : ℕ) (above : List ℕ) (f : ℕ → List ℕ) → ((from : ℕ) → f from ≡ []) → [] ≡ first_filled (map f above)
nothing_aimed rows to [] f none = refl
nothing_aimed rows to (x ∷ above) f none = nothing_aimed rows to above f none ∙ sym (skipped (f x) (map f above) (none x))

pub on_ok : {T E P Q : Type 0} (r : Result T E) → (P → Q) → OnOk r P → OnOk r Q
on_ok (Ok x) f h = f h
on_ok (Err e) f h = tt

pub if_ok : {T E : Type 0} (P Q : T → Type 0) (r : Result T E) → ((x : T) → P x → Q x) → IfOk r P → IfOk r Q
if_ok P Q (Ok x) f h = f x h
if_ok P Q (Err e) f h = tt

pub if_some : (P : Choice → Type 0) (o : Option Choice) → ((c : Choice) → o ≡ Some c → P c) → IfSome o P
if_some P None f = tt
if_some P (Some c) f = f c refl
