-- The values that fields have in whatever longer lists read.
use Rattle.std.proofs.Common.{◌≡◌, ◌⊎◌, ℕ, zero, suc, ◌+◌, ℤ, List, [], ◌∷◌, ◌++◌, take, drop, length, Bool, true, false, nat_lt, if◌then◌else◌, Some, sym, ap, ◌∙◌, subst, ⊎_elim, append-nil}
use Rattle.std.specs.Prelude.{slice_get}
use Rattle.std.proofs.lemmas.Option.{none-some, same_Some}
use Rattle.pst_rng.specs.Words.{start_of}
use Rattle.pst_expr.specs.Spans.{size_of}
use Rattle.pst_model.specs.declared.action.Field.{Field}
use Rattle.pst_model.specs.ModelTree.{ModelTree}
use Rattle.pst_scen.specs.declared.tree.Node.{Node}
use Rattle.pst_scen.specs.declared.tree.Fill.TheVariants as fill
use Rattle.pst_scen.specs.declared.scenario.Scenario.{Scenario}
use Rattle.pst_legal.specs.Reading.{Reading, Wants, Stops, Reader, then_read, option_at, with_value, node_with_value, put_value, value_number, read_fields, read_pieces, read_piece}
use Rattle.pst_legal.specs.SupplyReading.{read_supply}
use Rattle.pst_legal.specs.ValueReading.{Answer, Options, read_values, answer_of, read}
use Rattle.pst_built.specs.SoFar.{HasRead}
use Rattle.pst_built.specs.Onward.{MoreValues, Onward}
use Rattle.pst_field_places.specs.Places.{read_left, IsAtField, HasValues}
use Rattle.pst_field_places.specs.Laws.{FieldsArePlaces, FieldsHaveValues}
use Rattle.pst_field_places.proofs.Onward.{stands_whole, stands_read}

-- ---- the node with one more value

put_there : (nodes : List Node) (n : ℕ) (v : ℤ) (x : Node) → slice_get nodes n ≡ Some x
    → slice_get (take n nodes ++ (node_with_value v (slice_get nodes n) ++ drop (suc n) nodes)) n ≡ Some (record x { fill = with_value v x.fill })
put_there [] n v x is = absurd (none-some x is)
put_there (y ∷ ys) zero v x is = ap (λ (z : Node). Some (record z { fill = with_value v z.fill })) (same_Some y x is)
put_there (y ∷ ys) (suc n) v x is = put_there ys n v x is

module _ (t : Scenario) (n action instance : ℕ) (first : List ℤ) where
  by_node : (x y : Node) → slice_get t.nodes n ≡ Some y → x.fill ≡ fill.Compound action instance first → (y.fill ≡ x.fill) ⊎ MoreValues x.fill y.fill → HasValues t.nodes n action first
  by_node x y at is more = ⊎_elim
      (λ (e : y.fill ≡ x.fill). record { node = y; instance = instance; values = first; is = at; has = e ∙ is; keeps = λ k v h. h })
      (λ (o : MoreValues x.fill y.fill). let both : fill.Compound o.action o.instance o.old ≡ fill.Compound action instance first = sym o.was ∙ is in
      let same : first ≡ o.old = cc in
      let type : o.action ≡ action = cc in
      record { node = y; instance = o.instance; values = o.new; is = at; has = o.is ∙ ap (λ a. fill.Compound a o.instance o.new) type; keeps = λ k v h. o.keeps k v (subst (λ xs. slice_get xs k ≡ Some v) same h) })
      more

-- ---- a place

-- behind it come three readers
abbrev on_with : Reading → Reader → Reader → Reader → Answer
on_with r f g h = answer_of (then_read (then_read (then_read r f) g) h)

options_are : (f g h : Reader) (b : Bool) (s u : Scenario) (n k : ℕ) → on_with (if b then Wants u k else Stops) f g h ≡ Options s n → (s ≡ u) × (n ≡ k)
options_are f g h true s u n k e = let one : s ≡ u = cc in let two : n ≡ k = cc in (one, two)
options_are f g h false s u n k e = absurd cc

read_there : (f g h : Reader) (b : Bool) (r : Reading) (t : Scenario) → HasRead (on_with (if b then r else Stops) f g h) t → HasRead (on_with r f g h) t
read_there f g h true r t has = has
read_there f g h false r t has = absurd has

module _ (m : ModelTree) (root seed level : ℕ) (choices : List ℕ) (node : ℕ) (field : Field) (more : List Field) (at : IsAtField m root seed level choices node (field ∷ more)) where
  abbrev n : ℕ
  n = size_of field.domain

  abbrev go : List ℤ → Reader
  go values = read_pieces (read_piece m seed at.levels) (at.below values) node

  -- whatever choices are left
  read_is : (left : List ℕ) → read m root seed level (choices ++ left)
      ≡ on_with (read_fields seed node (field ∷ more) at.known go at.so_far (length choices) left) (read_left m seed at.above) (read_supply m seed) (read_values m seed)
  read_is left = ap (λ r. answer_of (then_read (then_read r (read_supply m seed)) (read_values m seed))) (at.goes left)

  pub place_is : (s : Scenario) (k : ℕ) → read m root seed level choices ≡ Options s k → (s ≡ at.so_far) × (k ≡ n)
  place_is s k e =
      options_are (read_left m seed at.above) (read_supply m seed) (read_values m seed) (nat_lt 0 n) s at.so_far k n
      (sym (read_is []) ∙ ap (read m root seed level) (append-nil choices) ∙ e)

  pub values_are : (digit : ℕ) (rest : List ℕ) (t : Scenario) → HasRead (read m root seed level (choices ++ digit ∷ rest)) t
      → HasValues t.nodes node at.action (at.known ++ value_number field (option_at (start_of seed (length choices) n) n digit) ∷ [])
  values_are digit rest t has =
      let v = value_number field (option_at (start_of seed (length choices) n) n digit) in
      let u = put_value at.so_far node v in
      let known = at.known ++ v ∷ [] in
      let own = read_fields seed node more known go u (length choices + 1) rest in
      let whole = then_read (then_read (then_read own (read_left m seed at.above)) (read_supply m seed)) (read_values m seed) in
      let there = read_there (read_left m seed at.above) (read_supply m seed) (read_values m seed) (nat_lt digit n) own t (subst (λ a. HasRead a t) (read_is (digit ∷ rest)) has) in
      let on : Onward u t = stands_read u t whole (stands_whole m seed node at.levels more known at.below at.above u (length choices + 1) rest at.firsts) there in
      let x : Node = record at.entry { fill = with_value v at.entry.fill } in
      let y = on.nodes node x (put_there at.so_far.nodes node v at.entry at.is) in
      by_node t node at.action at.instance known x y.0 y.1 (ap (with_value v) at.has) y.2.fill

pub fields_places : FieldsArePlaces
fields_places m root seed level choices node field more s n at e = place_is m root seed level choices node field more at s n e

pub fields_values : FieldsHaveValues
fields_values m root seed level choices node field more digit rest t at has = values_are m root seed level choices node field more at digit rest t has
