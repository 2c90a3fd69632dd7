-- Sources and values change no node and no leaf.
use Rattle.std.proofs.Common.{◌≡◌, ℕ, zero, suc, ◌+◌, List, [], ◌∷◌, ◌++◌, map, length, take, Bool, true, false, nat_eq, if◌then◌else◌, Some, None, refl, sym, ap, ◌∙◌, subst, arith}
use Rattle.std.specs.Prelude.{slice_get}
use Rattle.std.specs.List.{enumerate_from, AllZip}
use Rattle.std.specs.Option.{option_map}
use Rattle.std.proofs.lemmas.Option.{none-some, same_Some}
use Rattle.pst_model.specs.ModelTree.{ModelTree}
use Rattle.pst_scen.specs.declared.act.Act.{Act}
use Rattle.pst_scen.specs.declared.act.Link.{Link}
use Rattle.pst_scen.specs.declared.act.Link.TheVariants as link
use Rattle.pst_scen.specs.declared.scenario.Scenario.{Scenario}
use Rattle.pst_legal.specs.Growing.{open_act}
use Rattle.pst_legal.specs.Fits.{IsSameLeaf}
use Rattle.pst_legal.specs.Reading.{Reading, Reads}
use Rattle.pst_legal.specs.SupplyReading.{Spot, Source, Initially, From, New, alter, act_with_link, put_link, linked_to, is_stream, supplied_by, read_supply}
use Rattle.pst_legal.specs.Blanks.{Blank, Instance, OfFirst, OfAct, OfOutput, OfClaim, option_value, claim_blanks, value_blanks}
use Rattle.pst_legal.specs.ValueReading.{with_option, with_claim, act_with_value, with_output_value, with_claim_value, with_firsts, read_values}
use Rattle.pst_built.proofs.Parents.{get_more}
use Rattle.pst_built.specs.StepsOf.{BlankSteps}
use Rattle.pst_built.proofs.Goes.{Stands, stands}
use Rattle.pst_built.proofs.Readers.{goes_supply, goes_values}

-- the leaves that there are stay
abbrev pub LeavesStay : List Act → List Act → Type 0
LeavesStay xs ys = (k : ℕ) (x : Act) → slice_get xs k ≡ Some x → (y : Act) × (slice_get ys k ≡ Some y) × IsSameLeaf y x

pub record Keeps (s t : Scenario) : Type 0 where
  pub level : t.level ≡ s.level
  pub nodes : t.nodes ≡ s.nodes
  pub leaves : LeavesStay s.actions t.actions

leaf_same : (x : Act) → IsSameLeaf x x
leaf_same x = record { action = refl; instance = refl; node = refl }

leaves_same : (xs : List Act) → LeavesStay xs xs
leaves_same xs k x is = (x, is, leaf_same x)

leaves_then : (xs ys zs : List Act) → LeavesStay xs ys → LeavesStay ys zs → LeavesStay xs zs
leaves_then xs ys zs one other k x is =
    let a = one k x is in
    let b = other k a.0 a.1 in
    (b.0, b.1, record { action = b.2.action ∙ a.2.action; instance = b.2.instance ∙ a.2.instance; node = b.2.node ∙ a.2.node })

keeps_same : (s : Scenario) → Keeps s s
keeps_same s = record { level = refl; nodes = refl; leaves = leaves_same s.actions }

pub keeps_then : (s t u : Scenario) → Keeps s t → Keeps t u → Keeps s u
keeps_then s t u one other = record { level = other.level ∙ one.level; nodes = other.nodes ∙ one.nodes; leaves = leaves_then s.actions t.actions u.actions one.leaves other.leaves }

get_from : {A B : Type 0} (f : ℕ × A → B) (k : ℕ) (xs : List A) (i : ℕ) → slice_get (map f (enumerate_from k xs)) i ≡ option_map (λ x. f (k + i, x)) (slice_get xs i)
get_from f k [] i = refl
get_from f k (x ∷ xs) zero = let here : k ≡ k + zero = omega arith in ap (λ n. Some (f (n, x))) here
get_from f k (x ∷ xs) (suc i) = let here : (k + 1) + i ≡ k + suc i = omega arith in get_from f (k + 1) xs i ∙ ap (λ n. option_map (λ x. f (n, x)) (slice_get xs i)) here

leaves_alter : (f : Act → Act) (n : ℕ) (xs : List Act) → ((x : Act) → IsSameLeaf (f x) x) → LeavesStay xs (alter f n xs)
leaves_alter f n xs each k x is =
    (if nat_eq (0 + k) n then f x else x, get_from (λ e. if nat_eq e.0 n then f e.1 else e.1) 0 xs k ∙ ap (option_map (λ y. if nat_eq (0 + k) n then f y else y)) is, by (nat_eq (0 + k) n))
  where
    by : (b : Bool) → IsSameLeaf (if b then f x else x) x
    by true = each x
    by false = leaf_same x

leaves_put : (a r : ℕ) (to : Link) (acts : List Act) → LeavesStay acts (put_link a r to acts)
leaves_put a r to acts = leaves_alter (act_with_link r to) a acts (λ x. record { action = refl; instance = refl; node = refl })

leaves_linked : (need : Spot) (b q : ℕ) (acts : List Act) → LeavesStay acts (linked_to need b q acts)
leaves_linked need b q acts = by (is_stream need.filled.flow)
  where
    by : (c : Bool) → LeavesStay acts (if c then put_link b q (link.Act need.act need.reference) (put_link need.act need.reference (link.Act b q) acts) else put_link need.act need.reference (link.Act b q) acts)
    by true = leaves_then acts (put_link need.act need.reference (link.Act b q) acts) _ (leaves_put need.act need.reference (link.Act b q) acts) (leaves_put b q (link.Act need.act need.reference) (put_link need.act need.reference (link.Act b q) acts))
    by false = leaves_put need.act need.reference (link.Act b q) acts

source_keeps : (m : ModelTree) (s : Scenario) (need : Spot) (source : Source) → Keeps s (supplied_by m s need source)
source_keeps m s need Initially = record { level = refl; nodes = refl; leaves = leaves_put need.act need.reference link.Initial s.actions }
source_keeps m s need (From b q) = record { level = refl; nodes = refl; leaves = leaves_linked need b q s.actions }
source_keeps m s need (New action instance q) =
    let wide = s.actions ++ open_act m action instance None ∷ [] in
    record {
      level = refl;
      nodes = refl;
      leaves = leaves_then s.actions wide (linked_to need (length s.actions) q wide) (λ k x is. (x, get_more s.actions (open_act m action instance None ∷ []) k x is, leaf_same x)) (leaves_linked need (length s.actions) q wide);
    }

option_keeps : (m : ModelTree) (k : ℕ) (blank : Blank) (s : Scenario) → Keeps s (with_option m k blank s)
option_keeps m k (Instance act claim) s = record { level = refl; nodes = refl; leaves = leaves_alter (with_claim m claim k) act s.actions (λ x. record { action = refl; instance = refl; node = refl }) }
option_keeps m k (OfFirst pool field) s = record { level = refl; nodes = refl; leaves = leaves_same s.actions }
option_keeps m k (OfAct act field) s = record { level = refl; nodes = refl; leaves = leaves_alter (act_with_value (option_value m s.actions (OfAct act field) k)) act s.actions (λ x. record { action = refl; instance = refl; node = refl }) }
option_keeps m k (OfOutput act reference field) s = record { level = refl; nodes = refl; leaves = leaves_alter (with_output_value reference (option_value m s.actions (OfOutput act reference field) k)) act s.actions (λ x. record { action = refl; instance = refl; node = refl }) }
option_keeps m k (OfClaim act claim field) s = record { level = refl; nodes = refl; leaves = leaves_alter (with_claim_value claim (option_value m s.actions (OfClaim act claim field) k)) act s.actions (λ x. record { action = refl; instance = refl; node = refl }) }

blanks_keep : (m : ModelTree) (blanks : List Blank) (s : Scenario) → BlankSteps Keeps m blanks s
blanks_keep m [] s = tt
blanks_keep m (blank ∷ more) s = λ k l. (option_keeps m k blank s, blanks_keep m more (with_option m k blank s))

read_stands : (s t : Scenario) (r : Reading) (place : ℕ) (left : List ℕ) → Stands Keeps s r → r ≡ Reads t place left → Keeps s t
read_stands s t r place left stands e = subst (Stands Keeps s) e stands

pub supply_keeps : (m : ModelTree) (seed : ℕ) (s t : Scenario) (place : ℕ) (left : List ℕ) (end : ℕ) (rest : List ℕ) → read_supply m seed s place left ≡ Reads t end rest → Keeps s t
supply_keeps m seed s t place left end rest e =
    read_stands s t (read_supply m seed s place left) end rest
    (stands Keeps s (read_supply m seed s place left) (λ more. read_supply m seed s place (left ++ more)) (goes_supply Keeps keeps_same keeps_then m seed (λ u need source k turn is. source_keeps m u need source) left s place)) e

pub values_keep : (m : ModelTree) (seed : ℕ) (s t : Scenario) (place : ℕ) (left : List ℕ) (end : ℕ) (rest : List ℕ) → read_values m seed s place left ≡ Reads t end rest → Keeps s t
values_keep m seed s t place left end rest e =
    read_stands s t (read_values m seed s place left) end rest
    (stands Keeps s (read_values m seed s place left) (λ more. read_values m seed s place (left ++ more))
    (goes_values Keeps keeps_same keeps_then m seed s place left
    (record { firsts = record { level = refl; nodes = refl; leaves = leaves_same s.actions }; claims = blanks_keep m (claim_blanks m s.actions) (with_firsts m s); values = λ u h. blanks_keep m (value_blanks m s.actions) u }))) e

pub zip_each : (xs ys : List Act) → LeavesStay xs ys → AllZip IsSameLeaf (take (length xs) ys) xs
zip_each [] ys stay = tt
zip_each (x ∷ xs) [] stay = let y = stay zero x refl in absurd (none-some y.0 y.1)
zip_each (x ∷ xs) (y ∷ ys) stay =
    let first = stay zero x refl in
    (subst (λ z. IsSameLeaf z x) (sym (same_Some y first.0 first.1)) first.2, zip_each xs ys (λ k z is. stay (suc k) z is))
