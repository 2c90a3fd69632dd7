-- Links that are read lead to references in the same pool.
use Rattle.std.proofs.Common.{◌≡◌, ℕ, ◌+◌, List, [], ◌∷◌, ◌++◌, length, not, ◌&&◌, nat_eq, Bool, true, false, if◌then◌else◌, Option, Some, None, refl, sym, ap, ◌∙◌, subst, ⊎_elim}
use Rattle.std.proofs.lemmas.Option.{none-some}
use Rattle.std.proofs.lemmas.Bool.{and_parts, eqb-true}
use Rattle.pst_model.specs.declared.action.Field.{Field}
use Rattle.pst_model.specs.ModelTree.{ModelTree}
use Rattle.pst_scen.specs.declared.act.Act.{Act}
use Rattle.pst_scen.specs.declared.act.Filled.{Filled}
use Rattle.pst_scen.specs.declared.act.Link.{Link}
use Rattle.pst_scen.specs.declared.act.Link.TheVariants as link
use Rattle.pst_scen.specs.declared.scenario.Scenario.{Scenario}
use Rattle.pst_scen.specs.Scenarios.{reference_at}
use Rattle.pst_legal.specs.Growing.{nothing_yet, Look, Inner, Leaf, open_act, with_look}
use Rattle.pst_legal.specs.Blanks.{Blank, Instance, OfFirst, OfAct, OfOutput, OfClaim, claim_blanks, value_blanks, option_value}
use Rattle.pst_legal.specs.Menus.{menu}
use Rattle.pst_legal.specs.Supplied.{is_source_for}
use Rattle.pst_legal.specs.Reading.{Reading, Wants, Stops, Reads, put_value, value_number, read_tree}
use Rattle.pst_legal.specs.SupplyReading.{Spot, spots, has_turn, Source, Initially, From, New, is_stream, is_free, fits, sources, put_link, linked_to, supplied_by, read_supply}
use Rattle.pst_legal.specs.ValueReading.{with_option, with_claim, act_with_value, filled_with_value, with_output_value, with_claim_value, with_firsts, read_values, answer_of, read_all}
use Rattle.pst_built.specs.StepsOf.{FieldSteps, BlankSteps}
use Rattle.pst_built.proofs.Goes.{Stands, Goes, stands, goes_then}
use Rattle.pst_built.proofs.Read.{AnyWay, any_ways}
use Rattle.pst_built.proofs.Readers.{goes_tree, goes_supply, goes_values}
use Rattle.pst_built.proofs.Members.{in_get, in_find}
use Rattle.pst_built.proofs.Bares.{Bare, bare, bares_in, bares, bare_at, bare_from, bare_of, alter_same, put_bare, bares_put}
use Rattle.pst_built.proofs.Opens.{IsOpenRow, act_is_open, bare_cases, bares_push}
use Rattle.pst_built.proofs.Links.{put_cases, put_still, bare_more}
use Rattle.pst_built.proofs.Spots.{spot_is, Suits, suits}
use Rattle.pst_built.proofs.Supply.{reference_more, reference_last}
use Rattle.pst_built.specs.SoFar.{HasRead}
use Rattle.pst_read_domains.specs.ReadActsLaws.{LinksJoinPools}

-- what a reference of a pool is linked to is in that pool
abbrev IsJoined : List (List Bare) → ℕ → Link → Type 0
IsJoined rows pool to = (b q : ℕ) → to ≡ link.Act b q → (y : Bare) × (bare_at rows b q ≡ Some y) × (y.pool ≡ pool)

abbrev AreJoined : List (List Bare) → Type 0
AreJoined rows = (a r : ℕ) (x : Bare) → bare_at rows a r ≡ Some x → IsJoined rows x.pool x.link

-- where links are so, they are behind the step
abbrev Joins : Scenario → Scenario → Type 0
Joins s t = AreJoined (bares s.actions) → AreJoined (bares t.actions)

-- ---- one action more

joined_push : (rows : List (List Bare)) (row : List Bare) → IsOpenRow row → AreJoined rows → AreJoined (rows ++ row ∷ [])
joined_push rows row unlinked all a r x at b q e =
    ⊎_elim
    (λ old. let y = all a r x old b q e in (y.0, bare_more rows row b q y.0 y.1, y.2))
    (λ new. absurd (nothing (sym (unlinked r x new.1) ∙ e))) (bare_cases rows row a r x at)
  where
    nothing : link.Nothing ≡ link.Act b q → ⊥
    nothing none = cc

acts_push : (m : ModelTree) (acts : List Act) (action instance : ℕ) (node : Option ℕ) → AreJoined (bares acts) → AreJoined (bares (acts ++ open_act m action instance node ∷ []))
acts_push m acts action instance node all =
    let x = open_act m action instance node in
    subst AreJoined (sym (bares_push acts x)) (joined_push (bares acts) (bares_in x) (act_is_open m action instance node) all)

look_joins : (m : ModelTree) (s : Scenario) (parent : Option ℕ) (look : Look) → Joins s (with_look m s parent look)
look_joins m s parent (Inner fill) all = all
look_joins m s parent (Leaf action instance) all = acts_push m s.actions action instance (Some (length s.nodes)) all

field_steps : (n : ℕ) (fields : List Field) (s : Scenario) → FieldSteps Joins n fields s
field_steps n [] s = tt
field_steps n (field ∷ fields) s = λ k l. ((λ all. all), field_steps n fields (put_value s n (value_number field k)))

-- ---- one link more

joined_put : (rows : List (List Bare)) (a r : ℕ) (to : Link) (x : Bare) → bare_at rows a r ≡ Some x → IsJoined rows x.pool to → AreJoined rows → AreJoined (put_bare a r to rows)
joined_put rows a r to x is leads all c s z at b q e =
    ⊎_elim
    (λ here. let y = leads b q (ap (λ (v : Bare). v.link) here.2 ∙ e) in
    let still = put_still rows a r to b q y.0 y.1 in
    (still.now, still.is, still.pool ∙ y.2 ∙ ap (λ (v : Bare). v.pool) here.2))
    (λ old. let y = all c s z old.1 b q e in
    let still = put_still rows a r to b q y.0 y.1 in
    (still.now, still.is, still.pool ∙ y.2)) (put_cases rows a r to x c s z is at)

acts_put : (acts : List Act) (a r : ℕ) (to : Link) (x : Bare) → bare_at (bares acts) a r ≡ Some x → IsJoined (bares acts) x.pool to → AreJoined (bares acts) → AreJoined (bares (put_link a r to acts))
acts_put acts a r to x is leads all = subst AreJoined (sym (bares_put a r to acts)) (joined_put (bares acts) a r to x is leads all)

act_named : (a r b q : ℕ) → link.Act a r ≡ link.Act b q → (a ≡ b) × (r ≡ q)
act_named a r b q e = (cc, cc)

-- a link to that reference
leads_to : (rows : List (List Bare)) (pool a r : ℕ) (y : Bare) → bare_at rows a r ≡ Some y → y.pool ≡ pool → IsJoined rows pool (link.Act a r)
leads_to rows pool a r y is same b q e =
    let p = act_named a r b q e in
    (y, subst (λ n. bare_at rows b n ≡ Some y) p.1 (subst (λ n. bare_at rows n r ≡ Some y) p.0 is), same)

linked_joins : (acts : List Act) (need : Spot) (b q : ℕ) (source : Bare) → bare_at (bares acts) need.act need.reference ≡ Some (bare need.filled) → bare_at (bares acts) b q ≡ Some source → source.pool ≡ need.filled.pool
    → AreJoined (bares acts) → AreJoined (bares (linked_to need b q acts))
linked_joins acts need b q source is there same all = by (is_stream need.filled.flow)
  where
    first : AreJoined (bares (put_link need.act need.reference (link.Act b q) acts))
    first = acts_put acts need.act need.reference (link.Act b q) (bare need.filled) is (leads_to (bares acts) need.filled.pool b q source there same) all

    second : AreJoined (bares (put_link b q (link.Act need.act need.reference) (put_link need.act need.reference (link.Act b q) acts)))
    second =
        let to = link.Act b q in
        let next = put_link need.act need.reference to acts in
        let far = put_still (bares acts) need.act need.reference to b q source there in
        let near = put_still (bares acts) need.act need.reference to need.act need.reference (bare need.filled) is in
        let far_is : bare_at (bares next) b q ≡ Some far.now = ap (λ rows. bare_at rows b q) (bares_put need.act need.reference to acts) ∙ far.is in
        let near_is : bare_at (bares next) need.act need.reference ≡ Some near.now = ap (λ rows. bare_at rows need.act need.reference) (bares_put need.act need.reference to acts) ∙ near.is in
        acts_put next b q (link.Act need.act need.reference) far.now far_is
        (leads_to (bares next) far.now.pool need.act need.reference near.now near_is (near.pool ∙ sym same ∙ sym far.pool)) first

    by : (c : Bool) → AreJoined (bares (if c then put_link b q (link.Act need.act need.reference) (put_link need.act need.reference (link.Act b q) acts) else put_link need.act need.reference (link.Act b q) acts))
    by true = second
    by false = first

first_joined : (rows : List (List Bare)) (pool : ℕ) → IsJoined rows pool link.Initial
first_joined rows pool b q e = absurd (first e)
  where
    first : link.Initial ≡ link.Act b q → ⊥
    first none = cc

same_pools : (need source : Filled) → fits need source ≡ true → source.pool ≡ need.pool
same_pools need source e = eqb-true source.pool need.pool (and_parts (is_source_for need.flow source.flow) (nat_eq source.pool need.pool) e).1

source_joins : (m : ModelTree) (s : Scenario) (need : Spot) (source : Source) → reference_at s.actions need.act need.reference ≡ Some need.filled → Suits m s need source → Joins s (supplied_by m s need source)
source_joins m s need Initially at suit all =
    acts_put s.actions need.act need.reference link.Initial (bare need.filled) (bare_from s.actions need.act need.reference need.filled at) (first_joined (bares s.actions) need.filled.pool) all
source_joins m s need (From b q) at suit all =
    let candidate = and_parts (not (nat_eq b need.act)) (fits need.filled suit.0 && is_free s.actions need.filled (record { act = b; reference = q; filled = suit.0 })) suit.2 in
    let fit = (and_parts (fits need.filled suit.0) (is_free s.actions need.filled (record { act = b; reference = q; filled = suit.0 })) candidate.1).0 in
    linked_joins s.actions need b q (bare suit.0) (bare_from s.actions need.act need.reference need.filled at) (bare_from s.actions b q suit.0 suit.1) (same_pools need.filled suit.0 fit) all
source_joins m s need (New action instance q) at suit all =
    let act = open_act m action instance None in
    let acts = s.actions ++ act ∷ [] in
    linked_joins acts need (length s.actions) q (bare suit.filled)
    (bare_from acts need.act need.reference need.filled (reference_more s.actions act need.act need.reference need.filled at))
    (bare_from acts (length s.actions) q suit.filled (reference_last s.actions act q ∙ suit.at)) (same_pools need.filled suit.filled suit.fitting) (acts_push m s.actions action instance None all)

-- ---- claims and values

option_bares : (m : ModelTree) (k : ℕ) (blank : Blank) (s : Scenario) → bares (with_option m k blank s).actions ≡ bares s.actions
option_bares m k (Instance act claim) s = alter_same bares_in (with_claim m claim k) (λ x. refl) act s.actions
option_bares m k (OfFirst pool field) s = refl
option_bares m k (OfAct act field) s = alter_same bares_in (act_with_value (option_value m s.actions (OfAct act field) k)) (λ x. refl) act s.actions
option_bares m k (OfOutput act reference field) s =
    let v = option_value m s.actions (OfOutput act reference field) k in
    alter_same bares_in (with_output_value reference v) (λ x. alter_same bare (filled_with_value v) (λ filled. refl) reference x.references) act s.actions
option_bares m k (OfClaim act claim field) s = alter_same bares_in (with_claim_value claim (option_value m s.actions (OfClaim act claim field) k)) (λ x. refl) act s.actions

blank_steps : (m : ModelTree) (blanks : List Blank) (s : Scenario) → BlankSteps Joins m blanks s
blank_steps m [] s = tt
blank_steps m (blank ∷ more) s = λ k l. ((λ all. subst AreJoined (sym (option_bares m k blank s)) all), blank_steps m more (with_option m k blank s))

-- ---- all parts

joins_same : (s : Scenario) → Joins s s
joins_same s all = all

joins_then : (s t u : Scenario) → Joins s t → Joins t u → Joins s u
joins_then s t u one other all = other (one all)

goes_all : (m : ModelTree) (seed root : ℕ) (s : Scenario) (p : ℕ) (ds : List ℕ) → Goes Joins s (read_all m seed root) p ds
goes_all m seed root s p ds =
    goes_then Joins joins_then s _ (λ more. _) (read_values m seed)
    (goes_then Joins joins_then s (read_tree m seed root s p ds) (λ more. read_tree m seed root s p (ds ++ more)) (read_supply m seed)
    (goes_tree Joins joins_same joins_then m AnyWay (λ piece. any_ways (menu m piece)) (λ t parent look fields is. (look_joins m t parent look, field_steps (length t.nodes) fields (with_look m t parent look))) seed root s p ds)
    (λ t q rest has. goes_supply Joins joins_same joins_then m seed
    (λ u need source k is there. source_joins m u need source (spot_is u.actions need (in_find (has_turn m u) (spots u.actions) need is).0) (suits m u need source (in_get (sources m u need) k source there))) rest t q))
    (λ t q rest has. goes_values Joins joins_same joins_then m seed t q rest
    (record { firsts = λ all. all; claims = blank_steps m (claim_blanks m t.actions) (with_firsts m t); values = λ u h. blank_steps m (value_blanks m t.actions) u }))

has_stood : (s t : Scenario) (r : Reading) → Stands Joins s r → HasRead (answer_of r) t → Joins s t
has_stood s t (Wants u n) on has = subst (Joins s) has on
has_stood s t Stops on has = absurd has
has_stood s t (Reads u p []) on has = subst (Joins s) has on
has_stood s t (Reads u p (d ∷ left)) on has = absurd has

pub links_join : LinksJoinPools
links_join m root seed level choices s has a r b q filled is e =
    let start = nothing_yet level in
    let joins : Joins start s = has_stood start s (read_all m seed root start 0 choices)
    (stands Joins start (read_all m seed root start 0 choices) (λ more. read_all m seed root start 0 (choices ++ more)) (goes_all m seed root start 0 choices)) has in
    let y = joins (λ c p x at. absurd (none-some x at)) a r (bare filled) (bare_from s.actions a r filled is) b q e in
    let g = bare_of s.actions b q y.0 y.1 in
    (g.0, g.1, ap (λ (v : Bare). v.pool) g.2 ∙ y.2)
