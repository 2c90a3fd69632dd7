-- Each step of reading goes on from the scenario before it.
use Rattle.std.proofs.Common.{◌≡◌, ◌≢◌, ℕ, zero, suc, ◌+◌, ◌<◌, ℤ, List, [], ◌∷◌, ◌++◌, map, length, take, drop, Bool, true, false, not, ◌&&◌, ◌||◌, nat_eq, if◌then◌else◌, Option, Some, None, refl, sym, ap, ◌∙◌, subst, arith, inl, inr, ⊎_elim}
use Rattle.std.specs.Prelude.{slice_get}
use Rattle.std.specs.List.{enumerate_from}
use Rattle.std.specs.Option.{option_map, option_and_then}
use Rattle.std.proofs.lemmas.Bool.{and_parts, or_cases, eqb-true, eq-eqb, false≢true, false_from_ne_true, not-true}
use Rattle.std.proofs.lemmas.Option.{none-some, same_Some, slice_get_within, option_and_then_some}
use Rattle.pst_model.specs.ModelTree.{ModelTree, ActionTree}
use Rattle.pst_scen.specs.declared.tree.Node.{Node}
use Rattle.pst_scen.specs.declared.tree.Fill.{Fill}
use Rattle.pst_scen.specs.declared.tree.Fill.TheVariants as fill
use Rattle.pst_scen.specs.declared.act.Act.{Act}
use Rattle.pst_scen.specs.declared.act.Filled.{Filled}
use Rattle.pst_scen.specs.declared.act.Claimed.{Claimed}
use Rattle.pst_scen.specs.declared.act.Link.{Link}
use Rattle.pst_scen.specs.declared.act.Link.TheVariants as link
use Rattle.pst_scen.specs.declared.scenario.Scenario.{Scenario}
use Rattle.pst_scen.specs.Scenarios.{reference_at}
use Rattle.pst_legal.specs.Types.{type_of}
use Rattle.pst_legal.specs.Growing.{Look, Inner, Leaf, open_act, open_reference, open_references, with_look}
use Rattle.pst_legal.specs.Reading.{with_value, node_with_value, put_value}
use Rattle.pst_legal.specs.SupplyReading.{Spot, Source, Initially, From, New, spots, is_open, is_stream, is_writer, is_previous, fixed_for, is_elsewhere, has_turn, next_need, is_free, fits, sources_by, sources, alter, with_link, act_with_link, put_link, linked_to, supplied_by}
use Rattle.pst_legal.specs.Blanks.{Blank, Instance, OfFirst, OfAct, OfOutput, OfClaim, option_value}
use Rattle.pst_legal.specs.ValueReading.{with_option, with_claim, act_with_value, with_output_value, with_claim_value, filled_with_value, claimed_with_value}
use Rattle.pst_built.proofs.Members.{In, in_get, in_if, in_find, in_map}
use Rattle.pst_built.proofs.Parents.{get_more, get_last}
use Rattle.pst_built.proofs.Spots.{spot_is, Suits, suits}
use Rattle.pst_built.proofs.ReachedLinks.{same_is}
use Rattle.pst_built.specs.GoesOn.{bare_fill, SameNode, MoreLinked, SameClaim, Each, MoreAct, GoesOn}

-- ---- nothing more, and more after more

pub each_same : {A : Type 0} (R : A → A → Type 0) → ((x : A) → R x x) → (xs : List A) → Each R xs xs
each_same R same xs k x is = (x, is, same x)

each_then : {A : Type 0} (R : A → A → Type 0) → ((x y z : A) → R x y → R y z → R x z) → (xs ys zs : List A) → Each R xs ys → Each R ys zs → Each R xs zs
each_then R both xs ys zs one other k x is =
    let a = one k x is in
    let b = other k a.0 a.1 in
    (b.0, b.1, both x a.0 b.0 a.2 b.2)

each_more : {A : Type 0} (R : A → A → Type 0) → ((x : A) → R x x) → (xs ys : List A) → Each R xs (xs ++ ys)
each_more R same xs ys k x is = (x, get_more xs ys k x is, same x)

node_same : (x : Node) → SameNode x x
node_same x = record { parent = refl; fill = refl }

linked_same : (f : Filled) → MoreLinked f f
linked_same f = record { pool = refl; flow = refl; link = inr refl }

claim_same : (c : Claimed) → SameClaim c c
claim_same c = record { pool = refl; lock = refl; instance = refl }

act_same : (x : Act) → MoreAct x x
act_same x = record { references = each_same MoreLinked linked_same x.references; claims = each_same SameClaim claim_same x.claims }

linked_then : (f g h : Filled) → MoreLinked f g → MoreLinked g h → MoreLinked f h
linked_then f g h one other = record {
  pool = other.pool ∙ one.pool;
  flow = other.flow ∙ one.flow;
  link = ⊎_elim (λ e. inl e) (λ e. ⊎_elim (λ d. inl (sym e ∙ d)) (λ d. inr (d ∙ e)) other.link) one.link;
}

act_then : (x y z : Act) → MoreAct x y → MoreAct y z → MoreAct x z
act_then x y z one other = record {
  references = each_then MoreLinked linked_then x.references y.references z.references one.references other.references;
  claims = each_then SameClaim (λ c d e p q. record { pool = q.pool ∙ p.pool; lock = q.lock ∙ p.lock; instance = q.instance ∙ p.instance }) x.claims y.claims z.claims one.claims other.claims;
}

pub goes_same : (s : Scenario) → GoesOn s s
goes_same s = record { nodes = each_same SameNode node_same s.nodes; acts = each_same MoreAct act_same s.actions }

pub goes_then : (s t u : Scenario) → GoesOn s t → GoesOn t u → GoesOn s u
goes_then s t u one other = record {
  nodes = each_then SameNode (λ x y z p q. record { parent = q.parent ∙ p.parent; fill = q.fill ∙ p.fill }) s.nodes t.nodes u.nodes one.nodes other.nodes;
  acts = each_then MoreAct act_then s.actions t.actions u.actions one.acts other.acts;
}

-- ---- nodes and their values

pub goes_look : (m : ModelTree) (s : Scenario) (parent : Option ℕ) (look : Look) → GoesOn s (with_look m s parent look)
goes_look m s parent (Inner f) = record { nodes = each_more SameNode node_same s.nodes (record { parent = parent; fill = f } ∷ []); acts = each_same MoreAct act_same s.actions }
goes_look m s parent (Leaf action instance) = record {
  nodes = each_more SameNode node_same s.nodes (record { parent = parent; fill = fill.Leaf (length s.actions) } ∷ []);
  acts = each_more MoreAct act_same s.actions (open_act m action instance (Some (length s.nodes)) ∷ []);
}

value_bare : (v : ℤ) (f : Fill) → bare_fill (with_value v f) ≡ bare_fill f
value_bare v (fill.Compound action instance fields) = refl
value_bare v (fill.Leaf act) = refl
value_bare v fill.Sequence = refl
value_bare v fill.Parallel = refl
value_bare v fill.Schedule = refl
value_bare v (fill.Joined parallel joined) = refl
value_bare v (fill.Select branch) = refl
value_bare v fill.Repeat = refl
value_bare v (fill.Turn index) = refl
value_bare v (fill.If taken) = refl
value_bare v (fill.Match arm) = refl

each_put : (nodes : List Node) (n : ℕ) (v : ℤ) → Each SameNode nodes (take n nodes ++ (node_with_value v (slice_get nodes n) ++ drop (suc n) nodes))
each_put [] n v k x is = absurd (none-some x is)
each_put (y ∷ ys) zero v zero x is =
    let same : y ≡ x = same_Some y x is in
    (record y { fill = with_value v y.fill }, refl, subst (λ z. SameNode z (record y { fill = with_value v y.fill })) same (record { parent = refl; fill = value_bare v y.fill }))
each_put (y ∷ ys) zero v (suc k) x is = (x, is, node_same x)
each_put (y ∷ ys) (suc n) v zero x is = (x, is, node_same x)
each_put (y ∷ ys) (suc n) v (suc k) x is = each_put ys n v k x is

pub goes_put : (s : Scenario) (n : ℕ) (v : ℤ) → GoesOn s (put_value s n v)
goes_put s n v = record { nodes = each_put s.nodes n v; acts = each_same MoreAct act_same s.actions }

-- ---- one element that changes

get_from : {A B : Type 0} (f : ℕ × A → B) (k : ℕ) (xs : List A) (i : ℕ) → slice_get (map f (enumerate_from k xs)) i ≡ option_map (λ x. f (k + i, x)) (slice_get xs i)
get_from f k [] i = refl
get_from f k (x ∷ xs) zero = let here : k ≡ k + zero = omega arith in ap (λ n. Some (f (n, x))) here
get_from f k (x ∷ xs) (suc i) = let here : (k + 1) + i ≡ k + suc i = omega arith in get_from f (k + 1) xs i ∙ ap (λ n. option_map (λ x. f (n, x)) (slice_get xs i)) here

get_alter : {A : Type 0} (f : A → A) (n : ℕ) (xs : List A) (i : ℕ) → slice_get (alter f n xs) i ≡ option_map (λ x. if nat_eq i n then f x else x) (slice_get xs i)
get_alter f n xs i = let here : 0 + i ≡ i = omega arith in get_from (λ e. if nat_eq e.0 n then f e.1 else e.1) 0 xs i ∙ ap (λ k. option_map (λ x. if nat_eq k n then f x else x) (slice_get xs i)) here

each_alter : {A : Type 0} (R : A → A → Type 0) → ((x : A) → R x x) → (f : A → A) (n : ℕ) (xs : List A) → ((x : A) → slice_get xs n ≡ Some x → R x (f x)) → Each R xs (alter f n xs)
each_alter {A = A} R same f n xs each k x is =
    (if nat_eq k n then f x else x, get_alter f n xs k ∙ ap (option_map (λ y. if nat_eq k n then f y else y)) is, by (nat_eq k n) refl)
  where
    by : (b : Bool) → nat_eq k n ≡ b → R x (if b then f x else x)
    by true e = each x (ap (slice_get xs) (sym (eqb-true k n e)) ∙ is)
    by false e = same x

-- a link of a reference that has none
put_on : (acts : List Act) (a r : ℕ) (to : Link) → ((f : Filled) → reference_at acts a r ≡ Some f → f.link ≡ link.Nothing) → Each MoreAct acts (put_link a r to acts)
put_on acts a r to free =
    each_alter MoreAct act_same (act_with_link r to) a acts
    (λ x is. record {
      references = each_alter MoreLinked linked_same (with_link to) r x.references (λ f at. record { pool = refl; flow = refl; link = inl (free f (ap (option_and_then (λ (y : Act). slice_get y.references r)) is ∙ at)) });
      claims = each_same SameClaim claim_same x.claims;
    })

put_other : (acts : List Act) (a r b q : ℕ) (to : Link) → b ≢ a → reference_at (put_link a r to acts) b q ≡ reference_at acts b q
put_other acts a r b q to other =
    let off : nat_eq b a ≡ false = false_from_ne_true (nat_eq b a) (λ e. other (eqb-true b a e)) in
    ap (option_and_then (λ (y : Act). slice_get y.references q))
    (get_alter (act_with_link r to) a acts b ∙ ap (λ c. option_map (λ x. if c then act_with_link r to x else x) (slice_get acts b)) off ∙ map_same (slice_get acts b))
  where
    map_same : (o : Option Act) → option_map (λ x. x) o ≡ o
    map_same None = refl
    map_same (Some x) = refl

-- a need is linked to a free end
linked_on : (need : Spot) (b q : ℕ) (acts : List Act) → ((f : Filled) → reference_at acts need.act need.reference ≡ Some f → f.link ≡ link.Nothing) → b ≢ need.act
    → (is_stream need.filled.flow ≡ true → (f : Filled) → reference_at acts b q ≡ Some f → f.link ≡ link.Nothing) → Each MoreAct acts (linked_to need b q acts)
linked_on need b q acts free other end = by (is_stream need.filled.flow) refl
  where
    one : Each MoreAct acts (put_link need.act need.reference (link.Act b q) acts)
    one = put_on acts need.act need.reference (link.Act b q) free

    by : (c : Bool) → is_stream need.filled.flow ≡ c → Each MoreAct acts (if c then put_link b q (link.Act need.act need.reference) (put_link need.act need.reference (link.Act b q) acts) else put_link need.act need.reference (link.Act b q) acts)
    by true e =
        let mid = put_link need.act need.reference (link.Act b q) acts in
        each_then MoreAct act_then acts mid (put_link b q (link.Act need.act need.reference) mid) one
        (put_on mid b q (link.Act need.act need.reference) (λ f is. end e f (sym (put_other acts need.act need.reference b q (link.Act b q) other) ∙ is)))
    by false e = one

-- ---- sources

need_open : (m : ModelTree) (s : Scenario) (need : Spot) (source : Source) (k : ℕ) → next_need m s ≡ Some need → slice_get (sources m s need) k ≡ Some source → is_open need ≡ true
need_open m s need source k turn is =
    let found = in_find (has_turn m s) (spots s.actions) need turn in
    let p = and_parts _ (is_open need || is_elsewhere (fixed_for m s need) need) found.1 in
    by (fixed_for m s need) p.1 (in_get (sources m s need) k source is)
  where
    by : (o : Option (ℕ × ℕ)) → (is_open need || is_elsewhere o need) ≡ true → In source (sources_by m s need o) → is_open need ≡ true
    by None e has = ⊎_elim (λ (h : is_open need ≡ true). h) (λ h. absurd (false≢true h)) (or_cases (is_open need) false e)
    by (Some x) e has = (in_if (is_open need) _ source has).0

fresh_unlinked : (m : ModelTree) (action instance : ℕ) (type : Option ActionTree) (q : ℕ) (f : Filled) → slice_get (open_references m action instance type) q ≡ Some f → f.link ≡ link.Nothing
fresh_unlinked m action instance None q f is = absurd (none-some f is)
fresh_unlinked m action instance (Some type) q f is =
    let i = in_map (open_reference m action instance) (enumerate_from 0 type.references) f (in_get (map (open_reference m action instance) (enumerate_from 0 type.references)) q f is) in
    ap (λ (g : Filled). g.link) (sym i.2)

pub goes_supplied : (m : ModelTree) (s : Scenario) (need : Spot) (source : Source) (k : ℕ) → next_need m s ≡ Some need → slice_get (sources m s need) k ≡ Some source → GoesOn s (supplied_by m s need source)
goes_supplied m s need source k turn is =
    let found = in_find (has_turn m s) (spots s.actions) need turn in
    let at = spot_is s.actions need found.0 in
    let opens = need_open m s need source k turn is in
    let free : (f : Filled) → reference_at s.actions need.act need.reference ≡ Some f → f.link ≡ link.Nothing = λ f here.
    ap (λ (g : Filled). g.link) (same_Some f need.filled (sym here ∙ at)) ∙ same_is need.filled.link link.Nothing opens in
    by source (suits m s need source (in_get (sources m s need) k source is)) at free
  where
    inside : reference_at s.actions need.act need.reference ≡ Some need.filled → need.act < length s.actions
    inside at = option_and_then_some (λ (y : Act). slice_get y.references need.reference) (slice_get s.actions need.act) need.filled at (λ act there has. slice_get_within s.actions need.act act there)

    by : (source : Source) → Suits m s need source → reference_at s.actions need.act need.reference ≡ Some need.filled → ((f : Filled) → reference_at s.actions need.act need.reference ≡ Some f → f.link ≡ link.Nothing) → GoesOn s (supplied_by m s need source)
    by Initially suit at free = record { nodes = each_same SameNode node_same s.nodes; acts = put_on s.actions need.act need.reference link.Initial free }
    by (From b q) suit at free =
        let spot : Spot = record { act = b; reference = q; filled = suit.0 } in
        let p = and_parts (not (nat_eq b need.act)) (fits need.filled suit.0 && is_free s.actions need.filled spot) suit.2 in
        let f = and_parts (fits need.filled suit.0) (is_free s.actions need.filled spot) p.1 in
        record {
          nodes = each_same SameNode node_same s.nodes;
          acts = linked_on need b q s.actions free (λ e. let off : nat_eq b need.act ≡ false = not-true (nat_eq b need.act) p.0 in false≢true (sym off ∙ eq-eqb b need.act e))
              (λ stream g there.
              let ends : is_open spot ≡ true = sym (ap (λ c. if c then is_open spot else not (is_writer need.filled.flow && is_previous s.actions need.filled.pool (link.Act b q))) stream) ∙ f.1 in
              ap (λ (h : Filled). h.link) (same_Some g suit.0 (sym there ∙ suit.1)) ∙ same_is suit.0.link link.Nothing ends);
        }
    by (New action instance q) suit at free =
        let act = open_act m action instance None in
        let wide = s.actions ++ act ∷ [] in
        let low = inside at in
        record {
          nodes = each_same SameNode node_same s.nodes;
          acts = each_then MoreAct act_then s.actions wide (linked_to need (length s.actions) q wide) (each_more MoreAct act_same s.actions (act ∷ []))
              (linked_on need (length s.actions) q wide
              (λ f there. free f (sym (old_reference f) ∙ there))
              (λ e. omega (arith, low, e))
              (λ stream f there. fresh_unlinked m action instance (type_of m action) q f (sym (ap (option_and_then (λ (y : Act). slice_get y.references q)) (get_last s.actions act)) ∙ there)));
        }
      where
        old_reference : (f : Filled) → reference_at (s.actions ++ open_act m action instance None ∷ []) need.act need.reference ≡ reference_at s.actions need.act need.reference
        old_reference f =
            option_and_then_some (λ (y : Act). slice_get y.references need.reference) (slice_get s.actions need.act) need.filled at
            (λ x there has. ap (option_and_then (λ (y : Act). slice_get y.references need.reference)) (get_more s.actions (open_act m action instance None ∷ []) need.act x there ∙ sym there))

-- ---- claims and values

pub goes_option : (m : ModelTree) (k : ℕ) (blank : Blank) (s : Scenario) → GoesOn s (with_option m k blank s)
goes_option m k (Instance act claim) s = record {
  nodes = each_same SameNode node_same s.nodes;
  acts = each_alter MoreAct act_same (with_claim m claim k) act s.actions (λ x is. record { references = each_same MoreLinked linked_same x.references; claims = each_more SameClaim claim_same x.claims _ });
}
goes_option m k (OfFirst pool field) s = record { nodes = each_same SameNode node_same s.nodes; acts = each_same MoreAct act_same s.actions }
goes_option m k (OfAct act field) s = record {
  nodes = each_same SameNode node_same s.nodes;
  acts = each_alter MoreAct act_same (act_with_value (option_value m s.actions (OfAct act field) k)) act s.actions
      (λ x is. record { references = each_same MoreLinked linked_same x.references; claims = each_same SameClaim claim_same x.claims });
}
goes_option m k (OfOutput act reference field) s =
    let v = option_value m s.actions (OfOutput act reference field) k in
    record {
      nodes = each_same SameNode node_same s.nodes;
      acts = each_alter MoreAct act_same (with_output_value reference v) act s.actions
          (λ x is. record {
            references = each_alter MoreLinked linked_same (filled_with_value v) reference x.references (λ f at. record { pool = refl; flow = refl; link = inr refl });
            claims = each_same SameClaim claim_same x.claims;
          });
    }
goes_option m k (OfClaim act claim field) s =
    let v = option_value m s.actions (OfClaim act claim field) k in
    record {
      nodes = each_same SameNode node_same s.nodes;
      acts = each_alter MoreAct act_same (with_claim_value claim v) act s.actions
          (λ x is. record {
            references = each_same MoreLinked linked_same x.references;
            claims = each_alter SameClaim claim_same (claimed_with_value v) claim x.claims (λ c at. record { pool = refl; lock = refl; instance = refl });
          });
    }
