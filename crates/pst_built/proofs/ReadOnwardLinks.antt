-- A further source goes on from what is known.
use Rattle.std.proofs.Common.{◌≡◌, ◌⊎◌, ℕ, zero, suc, ◌+◌, List, [], ◌∷◌, ◌++◌, map, length, Bool, true, false, nat_eq, if◌then◌else◌, Option, Some, None, refl, sym, ap, ◌∙◌, subst, arith}
use Rattle.std.specs.Prelude.{slice_get}
use Rattle.std.specs.List.{enumerate_from}
use Rattle.std.specs.Option.{option_map}
use Rattle.std.proofs.lemmas.Option.{same_Some}
use Rattle.std.proofs.lemmas.Bool.{eqb-true}
use Rattle.pst_model.specs.ModelTree.{ModelTree}
use Rattle.pst_scen.specs.declared.act.Act.{Act}
use Rattle.pst_scen.specs.declared.act.Filled.{Filled}
use Rattle.pst_scen.specs.declared.act.Link.{Link}
use Rattle.pst_scen.specs.declared.act.Link.TheVariants as link
use Rattle.pst_scen.specs.declared.scenario.Scenario.{Scenario}
use Rattle.pst_legal.specs.Growing.{open_act}
use Rattle.pst_legal.specs.SupplyReading.{Spot, Source, Initially, From, New, is_stream, next_need, sources, alter, with_link, act_with_link, put_link, linked_to, supplied_by}
use Rattle.pst_built.specs.GoesOn.{GoesOn}
use Rattle.pst_built.proofs.Steps.{goes_supplied}
use Rattle.pst_built.specs.Onward.{Each, Both, Row, MoreFilled, MoreAct, MoreNode, Onward}
use Rattle.pst_built.proofs.Onward.{each_same, each_then, row_then, node_same, claimed_same}
use Rattle.pst_built.proofs.Nodes.{each_more}

-- ---- one element that changes

alter_get : {A : Type 0} (f : A → A) (n first : ℕ) (xs : List A) (i : ℕ)
    → slice_get (map (λ e. if nat_eq e.0 n then f e.1 else e.1) (enumerate_from first xs)) i ≡ option_map (λ x. if nat_eq (first + i) n then f x else x) (slice_get xs i)
alter_get f n first [] i = refl
alter_get f n first (x ∷ xs) zero = let same : first + 0 ≡ first = omega arith in ap (λ k. Some (if nat_eq k n then f x else x)) (sym same)
alter_get f n first (x ∷ xs) (suc i) =
    let same : first + 1 + i ≡ first + suc i = omega arith in
    alter_get f n (first + 1) xs i ∙ ap (λ k. option_map (λ y. if nat_eq k n then f y else y) (slice_get xs i)) same

pub alter_at : {A : Type 0} (f : A → A) (n : ℕ) (xs : List A) (i : ℕ) → slice_get (alter f n xs) i ≡ option_map (λ x. if nat_eq i n then f x else x) (slice_get xs i)
alter_at f n xs i = let same : 0 + i ≡ i = omega arith in alter_get f n 0 xs i ∙ ap (λ k. option_map (λ y. if nat_eq k n then f y else y) (slice_get xs i)) same

-- each element goes on where the altered one does
pub each_alter : {A : Type 0} (G : A → A → Type 0) → ((x : A) → G x x) → (f : A → A) (n : ℕ) (xs : List A) → ((x : A) → slice_get xs n ≡ Some x → G x (f x)) → Each G xs (alter f n xs)
each_alter G same f n xs more k x is =
    ((if nat_eq k n then f x else x), alter_at f n xs k ∙ ap (option_map (λ x. if nat_eq k n then f x else x)) is, by_test (nat_eq k n) refl)
  where
    by_test : (b : Bool) → nat_eq k n ≡ b → G x (if b then f x else x)
    by_test true e = more x (subst (λ i. slice_get xs i ≡ Some x) (eqb-true k n e) is)
    by_test false e = same x

pub row_alter : {A : Type 0} (G : A → A → Type 0) → ((x : A) → G x x) → (f : A → A) (n : ℕ) (xs : List A) → ((x : A) → G x (f x)) → Row G xs (alter f n xs)
row_alter G same f n xs more k = subst (Both G (slice_get xs k)) (sym (alter_at f n xs k)) (by_element (slice_get xs k))
  where
    by_test : (b : Bool) (x : _) → G x (if b then f x else x)
    by_test true x = more x
    by_test false x = same x

    by_element : (o : Option _) → Both G o (option_map (λ x. if nat_eq k n then f x else x) o)
    by_element None = tt
    by_element (Some x) = by_test (nat_eq k n) x

-- ---- all but links stays

record SameFilled (f g : Filled) : Type 0 where
  pool : g.pool ≡ f.pool
  flow : g.flow ≡ f.flow
  values : g.values ≡ f.values

record SameAct (x y : Act) : Type 0 where
  action : y.action ≡ x.action
  instance : y.instance ≡ x.instance
  fields : y.fields ≡ x.fields
  claims : y.claims ≡ x.claims
  references : Row SameFilled x.references y.references

filled_itself : (f : Filled) → SameFilled f f
filled_itself f = record { pool = refl; flow = refl; values = refl }

filled_twice : (f g h : Filled) → SameFilled f g → SameFilled g h → SameFilled f h
filled_twice f g h one other = record { pool = other.pool ∙ one.pool; flow = other.flow ∙ one.flow; values = other.values ∙ one.values }

row_itself : (xs : List Filled) → Row SameFilled xs xs
row_itself xs k = by (slice_get xs k)
  where
    by : (o : Option Filled) → Both SameFilled o o
    by None = tt
    by (Some f) = filled_itself f

act_itself : (x : Act) → SameAct x x
act_itself x = record { action = refl; instance = refl; fields = refl; claims = refl; references = row_itself x.references }

act_twice : (x y z : Act) → SameAct x y → SameAct y z → SameAct x z
act_twice x y z one other = record {
  action = other.action ∙ one.action;
  instance = other.instance ∙ one.instance;
  fields = other.fields ∙ one.fields;
  claims = other.claims ∙ one.claims;
  references = row_then SameFilled filled_twice x.references y.references z.references one.references other.references;
}

same_put : (a r : ℕ) (to : Link) (acts : List Act) → Each SameAct acts (put_link a r to acts)
same_put a r to acts =
    each_alter SameAct act_itself (act_with_link r to) a acts
    (λ x is. record { action = refl; instance = refl; fields = refl; claims = refl; references = row_alter SameFilled filled_itself (with_link to) r x.references (λ f. record { pool = refl; flow = refl; values = refl }) })

same_linked : (need : Spot) (b q : ℕ) (acts : List Act) → Each SameAct acts (linked_to need b q acts)
same_linked need b q acts = by (is_stream need.filled.flow)
  where
    by : (c : Bool) → Each SameAct acts (if c then put_link b q (link.Act need.act need.reference) (put_link need.act need.reference (link.Act b q) acts) else put_link need.act need.reference (link.Act b q) acts)
    by true =
        let mid = put_link need.act need.reference (link.Act b q) acts in
        each_then SameAct act_twice acts mid (put_link b q (link.Act need.act need.reference) mid) (same_put need.act need.reference (link.Act b q) acts) (same_put b q (link.Act need.act need.reference) mid)
    by false = same_put need.act need.reference (link.Act b q) acts

same_supplied : (m : ModelTree) (s : Scenario) (need : Spot) (source : Source) → Each SameAct s.actions (supplied_by m s need source).actions
same_supplied m s need Initially = same_put need.act need.reference link.Initial s.actions
same_supplied m s need (From b q) = same_linked need b q s.actions
same_supplied m s need (New action instance q) =
    let wide = s.actions ++ open_act m action instance None ∷ [] in
    each_then SameAct act_twice s.actions wide (linked_to need (length s.actions) q wide) (each_more SameAct act_itself s.actions (open_act m action instance None ∷ [])) (same_linked need (length s.actions) q wide)

-- ---- and links only come

more_act : (x y : Act) → SameAct x y → ((r : ℕ) (f g : Filled) → slice_get x.references r ≡ Some f → slice_get y.references r ≡ Some g → (f.link ≡ link.Nothing) ⊎ (g.link ≡ f.link)) → MoreAct x y
more_act x y same links = record {
  action = same.action;
  instance = same.instance;
  fields = λ k v e. ap (λ vs. slice_get vs k) same.fields ∙ e;
  references = λ r. by r (slice_get x.references r) (slice_get y.references r) refl refl (same.references r);
  claims = λ c k e. (k, ap (λ cs. slice_get cs c) same.claims ∙ e, claimed_same k);
}
  where
    by : (r : ℕ) (o p : Option Filled) → slice_get x.references r ≡ o → slice_get y.references r ≡ p → Both SameFilled o p → Both MoreFilled o p
    by r None None is at both = tt
    by r None (Some g) is at both = both
    by r (Some f) None is at both = both
    by r (Some f) (Some g) is at both = record { pool = both.pool; flow = both.flow; values = λ k v e. ap (λ vs. slice_get vs k) both.values ∙ e; link = links r f g is at }

pub onward_supplied : (m : ModelTree) (s : Scenario) (need : Spot) (source : Source) (k : ℕ) → next_need m s ≡ Some need → slice_get (sources m s need) k ≡ Some source → Onward s (supplied_by m s need source)
onward_supplied m s need source k turn is =
    let goes = goes_supplied m s need source k turn is in
    onward source goes
  where
    acts : (source : Source) → GoesOn s (supplied_by m s need source) → Each MoreAct s.actions (supplied_by m s need source).actions
    acts source goes a x at =
        let y = same_supplied m s need source a x at in
        let z = goes.acts a x at in
        let one : z.0 ≡ y.0 = same_Some z.0 y.0 (sym z.1 ∙ y.1) in (
          y.0,
          y.1,
          more_act x y.0 y.2
              (λ r f g has there.
              let h = z.2.references r f has in
              let two : h.0 ≡ g = same_Some h.0 g (sym h.1 ∙ ap (λ (w : Act). slice_get w.references r) one ∙ there) in
              subst (λ w. (f.link ≡ link.Nothing) ⊎ (w.link ≡ f.link)) two h.2.link),
        )

    onward : (source : Source) → GoesOn s (supplied_by m s need source) → Onward s (supplied_by m s need source)
    onward Initially goes = record { nodes = each_same MoreNode node_same s.nodes; branches = λ top index n e. e; acts = acts Initially goes; firsts = λ pool i v e. e }
    onward (From b q) goes = record { nodes = each_same MoreNode node_same s.nodes; branches = λ top index n e. e; acts = acts (From b q) goes; firsts = λ pool i v e. e }
    onward (New action instance q) goes = record { nodes = each_same MoreNode node_same s.nodes; branches = λ top index n e. e; acts = acts (New action instance q) goes; firsts = λ pool i v e. e }

pub supplied_firsts : (m : ModelTree) (s : Scenario) (need : Spot) (source : Source) → (supplied_by m s need source).firsts ≡ s.firsts
supplied_firsts m s need Initially = refl
supplied_firsts m s need (From b q) = refl
supplied_firsts m s need (New action instance q) = refl
