-- Where handles stand, and what is kept of them.
use Rattle.std.proofs.Common.{◌≡◌, ◌<◌, ℕ, suc, ◌+◌, List, [], ◌∷◌, ◌++◌, refl, sym, ap, subst, ◌∙◌, Bool, true, false, not, arith, map, length, get_or, drop, true≢false}
use Rattle.std.specs.Prelude.{nat_eq, ◌&&◌, Option, Some, None, IfSome, if◌then◌else◌}
use Rattle.std.specs.List.{flat_map}
use Rattle.std.proofs.lemmas.Bool.{eqb-true}
use Rattle.std.proofs.lemmas.List.{drop_more}
use Rattle.std.specs.Option.{option_map_or}
use Rattle.std.specs.HashMap.{get}
use Rattle.pst_base.specs.declared.position.Place.{Place}
use Rattle.pst_places.specs.Numbers.{number_in, number_from}
use Rattle.pst_ast.specs.declared.scope_declaration.Declaration.{Declaration}
use Rattle.pst_ast.specs.Sorts.{is_handle, same_place}
use Rattle.pst_type_rules.specs.Members.{those_that}
use Rattle.pst_tree.specs.Bases as bases
use Rattle.pst_type_members.specs.declared.among.Among.{Among}
use Rattle.pst_type_members.specs.declared.handles.HandleRow.{HandleRow}
use Rattle.pst_type_members.specs.declared.handles.HandleRows.{HandleRows}
use Rattle.pst_type_members.specs.declared.key.ScopeKey.{ScopeKey}
use Rattle.pst_type_members.specs.Among.{IsAmong}
use Rattle.pst_type_members.specs.Keyed.{members_at, place_of, scope_key, same_key}
use Rattle.pst_type_members.specs.KeptHandles.{IsHandleRow, AreHandleRows, or_row}

abbrev place_in : Declaration → Place
place_in d = d.name.place

abbrev or : Option ℕ → ℕ → ℕ
or found count = option_map_or (λ n. n) found count

step : (b : Bool) (n count rest : ℕ) (found : Option ℕ) → or found (suc n + count) ≡ suc n + rest → or (if b then Some n else found) (n + suc count) ≡ n + (if not b then 1 + rest else 0)
step true n count rest found e = omega arith
step false n count rest found e = ap (or found) (omega arith) ∙ e ∙ omega arith

from : (n : ℕ) (list : List Declaration) (d : Declaration) → or (number_from n (map place_in list) d.name.place) (n + length list) ≡ n + bases.number_in list d
from n [] d = refl
from n (m ∷ more) d = step (same_place m.name.place d.name.place) n (length more) (bases.number_in more d) (number_from (suc n) (map place_in more) d.name.place) (from (suc n) more d)

-- the number of a place in a list, or how many there are
in_list : (list : List Declaration) (d : Declaration) → or (number_in (map place_in list) d.name.place) (length list) ≡ bases.number_in list d
unfolding number_in
in_list list d =
    let counted : length list ≡ 0 + length list = omega arith in
    let numbered : 0 + bases.number_in list d ≡ bases.number_in list d = omega arith in
    ap (or (number_from 0 (map place_in list) d.name.place)) counted ∙ from 0 list d ∙ numbered

-- a handle whose place isn't found stands behind all
pub none_among : (ds : List Declaration) (row : HandleRow) (d : Declaration) (found : Option ℕ) → IsHandleRow ds row → found ≡ number_in row.places d.name.place → found ≡ None
    → IsAmong (those_that is_handle ds) d (record { number = row.count; count = row.count })
none_among ds row d found is right none = record {
  number = ap (λ (o : Option ℕ). or o row.count) (sym none ∙ right) ∙ ((λ i. or (number_in (is.places i) d.name.place) (is.counted i)) ∙ in_list (those_that is_handle ds) d);
  count = is.counted;
}

pub some_among : (ds : List Declaration) (row : HandleRow) (d : Declaration) (found : Option ℕ) (n : ℕ) → IsHandleRow ds row → found ≡ number_in row.places d.name.place → found ≡ Some n
    → IsAmong (those_that is_handle ds) d (record { number = n; count = row.count })
some_among ds row d found n is right some = record {
  number = ap (λ (o : Option ℕ). or o row.count) (sym some ∙ right) ∙ ((λ i. or (number_in (is.places i) d.name.place) (is.counted i)) ∙ in_list (those_that is_handle ds) d);
  count = is.counted;
}

-- ---- behind others

skip : (b : Bool) (n len r t : ℕ) → (if not b then 1 + n else 0) < suc len → (n < len → r ≡ n) → (if not b then 1 + r else 0) ≡ (if not b then 1 + n else 0)
skip true n len r t h e = refl
skip false n len r t h e = ap (λ (k : ℕ). 1 + k) (e (omega (arith, h)))

pub found_before : (xs ys : List Declaration) (d : Declaration) → bases.number_in xs d < length xs → bases.number_in (xs ++ ys) d ≡ bases.number_in xs d
found_before [] ys d h = absurd (omega (arith, h))
found_before (x ∷ xs) ys d h = skip (same_place x.name.place d.name.place) (bases.number_in xs d) (length xs) (bases.number_in (xs ++ ys) d) (bases.number_in ys d) h (found_before xs ys d)

pass : (b : Bool) (n len r t : ℕ) → ((if not b then 1 + n else 0) < suc len → ⊥) → ((n < len → ⊥) → r ≡ n + t) → (if not b then 1 + r else 0) ≡ (if not b then 1 + n else 0) + t
pass true n len r t h e = absurd (h (omega arith))
pass false n len r t h e = let more = e (λ less. h (omega (arith, less))) in omega (arith, more)

pub not_before : (xs ys : List Declaration) (d : Declaration) → (bases.number_in xs d < length xs → ⊥) → bases.number_in (xs ++ ys) d ≡ bases.number_in xs d + bases.number_in ys d
not_before [] ys d h = omega arith
not_before (x ∷ xs) ys d h = pass (same_place x.name.place d.name.place) (bases.number_in xs d) (length xs) (bases.number_in (xs ++ ys) d) (bases.number_in ys d) h (not_before xs ys d)

-- ---- one type after another

module _ (f : Declaration → List Declaration) (types : List Declaration) (k : ℕ) (none : Declaration) (within : k < length types) (d : Declaration) (a : Among) (among : IsAmong (f (get_or types k none)) d a)
    (before number total : ℕ) (sum : number ≡ before + a.number) (known : before + bases.number_in (flat_map f (drop k types)) d ≡ total) where
  abbrev own : List Declaration
  own = f (get_or types k none)

  abbrev rest : List Declaration
  rest = flat_map f (drop (k + 1) types)

  at_next : bases.number_in (flat_map f (drop k types)) d ≡ bases.number_in (own ++ rest) d
  at_next = ap (λ (xs : List Declaration). bases.number_in (flat_map f xs) d) (drop_more types k none within)

  pub found_here : a.number < a.count → number ≡ total
  found_here less =
      let here : bases.number_in (own ++ rest) d ≡ bases.number_in own d = found_before own rest d (omega (arith, less, among.number, among.count)) in
      omega (arith, sum, known, at_next, here, among.number)

  pub found_behind : (a.number < a.count → ⊥) → number + bases.number_in rest d ≡ total
  found_behind isnt =
      let behind : bases.number_in (own ++ rest) d ≡ bases.number_in own d + bases.number_in rest d = not_before own rest d (λ less. isnt (omega (arith, less, among.number, among.count))) in
      omega (arith, sum, known, at_next, behind, among.number)

-- ---- what is kept

kept_by : (o : Option HandleRow) (b : Bool) (row : HandleRow) (P : HandleRow → Type 0) → IfSome o P → (b ≡ true → P row) → IfSome (or_row o b row) P
kept_by None true row P old new = new refl
kept_by None false row P old new = tt
kept_by (Some r) b row P old new = old

both_true : (a b : Bool) → (a && b) ≡ true → (a ≡ true) × (b ≡ true)
both_true true b e = (refl, e)
both_true false b e = absurd (true≢false (sym e))

same_keys : (q : ScopeKey) (p : Place) → same_key q (scope_key p) ≡ true → place_of q ≡ p
same_keys q p e =
    let one = both_true (nat_eq q.file p.file) (nat_eq q.line p.line && nat_eq q.column p.column) e in
    let two = both_true (nat_eq q.line p.line) (nat_eq q.column p.column) one.1 in
    let file = eqb-true q.file p.file one.0 in
    let line = eqb-true q.line p.line two.0 in
    let column = eqb-true q.column p.column two.1 in
    λ i. record { file = file i; line = line i; column = column i }

-- the row of an action is kept with the others
pub kept_next : (ds own : List Declaration) (kept next : HandleRows) (row : HandleRow) (p : Place) → own ≡ members_at ds p → IsHandleRow own row → ((q : ScopeKey) → get same_key next.rows q ≡ or_row (get same_key kept.rows q) (same_key q (scope_key p)) row)
    → AreHandleRows ds kept → AreHandleRows ds next
kept_next ds own kept next row p is right gives are = λ q.
    let P = IsHandleRow (members_at ds (place_of q)) in
    subst (λ (o : Option HandleRow). IfSome o P) (sym (gives q))
    (kept_by (get same_key kept.rows q) (same_key q (scope_key p)) row P (are q)
    (λ same. subst (λ (place : Place). IsHandleRow (members_at ds place) row) (sym (same_keys q p same)) (subst (λ (xs : List Declaration). IsHandleRow xs row) is right)))
