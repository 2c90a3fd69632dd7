-- Before claims and values are read, nothing but its links is known of an action, which is concrete.
use Rattle.std.proofs.Common.{◌≡◌, ℕ, zero, suc, ◌+◌, ℤ, List, [], ◌∷◌, ◌++◌, map, length, Bool, true, false, nat_eq, if◌then◌else◌, Option, Some, None, refl, sym, ap, ◌∙◌, subst, arith, ⊎_elim}
use Rattle.std.specs.Prelude.{slice_get}
use Rattle.std.specs.List.{enumerate_from}
use Rattle.std.specs.Option.{option_map}
use Rattle.std.proofs.lemmas.Bool.{not-true, false≢true}
use Rattle.std.proofs.lemmas.Option.{none-some, same_Some}
use Rattle.pst_model.specs.declared.action.Field.{Field}
use Rattle.pst_model.specs.declared.action.Reference.{Reference}
use Rattle.pst_model.specs.ModelTree.{ModelTree, ActionTree, ContentTree, Atomic, Compound}
use Rattle.pst_model.specs.Served.{IsAtomic}
use Rattle.pst_model.specs.Sound.{IsSound}
use Rattle.pst_scen.specs.declared.act.Act.{Act}
use Rattle.pst_scen.specs.declared.act.Filled.{Filled}
use Rattle.pst_scen.specs.declared.act.Link.{Link}
use Rattle.pst_scen.specs.declared.act.Link.TheVariants as link
use Rattle.pst_scen.specs.declared.scenario.Scenario.{Scenario}
use Rattle.pst_legal.specs.Types.{type_of}
use Rattle.pst_legal.specs.Growing.{nothing_yet, Look, Inner, Leaf, open_act, open_reference, open_references, with_look, most_levels, is_within}
use Rattle.pst_legal.specs.Pieces.{Piece, Action}
use Rattle.pst_legal.specs.Menus.{menu}
use Rattle.pst_legal.specs.Reading.{Stops, Reader, read_pieces, read_way, read_piece, read_tree}
use Rattle.pst_legal.specs.SupplyReading.{Spot, Source, Initially, From, New, with_link, act_with_link, put_link, linked_to, is_stream, is_inferable, supplied_by, read_supply}
use Rattle.pst_built.proofs.Gives.{Gives, gives_if, gives_pieces}
use Rattle.pst_built.proofs.Bares.{alter_same}
use Rattle.pst_built.proofs.Parents.{get_cases}
use Rattle.pst_built.proofs.Ways.{gives_menu}
use Rattle.pst_built.proofs.Trees.{gives_fields}
use Rattle.pst_built.proofs.Spots.{Suits}
use Rattle.pst_built.proofs.Supply.{gives_supply}
use Rattle.pst_built.proofs.SoundActs.{IsConcrete}
use Rattle.pst_built.proofs.SoundPieces.{IsSoundPiece, IsSoundLook, IsSoundWay, menu_sound}

-- a reference without its link
abbrev pub unlinked : Filled → Filled
unlinked filled = record filled { link = link.Nothing }

pub record IsFresh (m : ModelTree) (x : Act) : Type 0 where
  pub concrete : IsConcrete m x.action x.instance
  pub references : map unlinked x.references ≡ open_references m x.action x.instance (type_of m x.action)
  pub fields : x.fields ≡ []
  pub claims : x.claims ≡ []

abbrev pub AreFresh : ModelTree → Scenario → Type 0
AreFresh m s = (a : ℕ) (x : Act) → slice_get s.actions a ≡ Some x → IsFresh m x

rows_open : (m : ModelTree) (action instance : ℕ) (rows : List (ℕ × Reference)) → map unlinked (map (open_reference m action instance) rows) ≡ map (open_reference m action instance) rows
rows_open m action instance [] = refl
rows_open m action instance (e ∷ rows) = ap (λ fs. open_reference m action instance e ∷ fs) (rows_open m action instance rows)

open_again : (m : ModelTree) (action instance : ℕ) (type : Option ActionTree) → map unlinked (open_references m action instance type) ≡ open_references m action instance type
open_again m action instance None = refl
open_again m action instance (Some type) = rows_open m action instance (enumerate_from 0 type.references)

open_fresh : (m : ModelTree) (action instance : ℕ) (at : Option ℕ) → IsConcrete m action instance → IsFresh m (open_act m action instance at)
open_fresh m action instance at is = record { concrete = is; references = open_again m action instance (type_of m action); fields = refl; claims = refl }

fresh_push : (m : ModelTree) (acts : List Act) (x : Act) → ((a : ℕ) (y : Act) → slice_get acts a ≡ Some y → IsFresh m y) → IsFresh m x → (a : ℕ) (y : Act) → slice_get (acts ++ x ∷ []) a ≡ Some y → IsFresh m y
fresh_push m acts x all is a y at = ⊎_elim (λ old. all a y old) (λ new. subst (IsFresh m) new.1 is) (get_cases acts x a y at)

-- ---- the activity

fresh_look : (m : ModelTree) (s : Scenario) (parent : Option ℕ) (look : Look) → IsSoundLook m look → AreFresh m s → AreFresh m (with_look m s parent look)
fresh_look m s parent (Inner fill) is all = all
fresh_look m s parent (Leaf action instance) is all = fresh_push m s.actions (open_act m action instance (Some (length s.nodes))) all (open_fresh m action instance (Some (length s.nodes)) is)

fresh_way : (m : ModelTree) → (seed : ℕ) (one : Piece → Option ℕ → Reader)
    → ((piece : Piece) (top : ℕ) (u : Scenario) (next : ℕ) (rest : List ℕ) → IsSoundPiece m piece → AreFresh m u → Gives (AreFresh m) (one piece (Some top) u next rest))
    → (s : Scenario) (parent : Option ℕ) (look : Look) (fields : List Field) (below : List ℤ → List Piece) → IsSoundWay m look fields below → AreFresh m s
    → (next : ℕ) (rest : List ℕ) → Gives (AreFresh m) (read_way m seed one parent look fields below s next rest)
fresh_way m seed one each s parent look fields below way all next rest =
    gives_if (AreFresh m) (is_within (with_look m s parent look)) _ Stops
    (λ test. gives_fields (AreFresh m) seed (length s.nodes) fields [] (λ values. read_pieces one (below values) (length s.nodes)) (with_look m s parent look) next rest
    (fresh_look m s parent look way.0 all) (λ t v holds. holds)
    (λ values t next rest holds. gives_pieces (AreFresh m) one (below values) (length s.nodes) t next rest holds
    (λ piece inside u next rest held. each piece (length s.nodes) u next rest (way.1 values piece inside) held)))
    tt

fresh_piece : (m : ModelTree) → IsSound m → (seed levels : ℕ) (piece : Piece) (parent : Option ℕ) (s : Scenario) (place : ℕ) (left : List ℕ) → IsSoundPiece m piece → AreFresh m s
    → Gives (AreFresh m) (read_piece m seed levels piece parent s place left)
fresh_piece m sound seed zero piece parent s place left is all =
    gives_menu (AreFresh m) (IsSoundWay m) seed (menu m piece) (menu_sound m sound piece is) _ s place left (λ look fields below way next rest. tt)
fresh_piece m sound seed (suc levels) piece parent s place left is all =
    gives_menu (AreFresh m) (IsSoundWay m) seed (menu m piece) (menu_sound m sound piece is) _ s place left
    (λ look fields below way next rest. fresh_way m seed (read_piece m seed levels)
    (λ piece top u next rest is all. fresh_piece m sound seed levels piece (Some top) u next rest is all) s parent look fields below way all next rest)

pub fresh_tree : (m : ModelTree) → IsSound m → (seed root level place : ℕ) (left : List ℕ) → IsSoundPiece m (Action root None) → Gives (AreFresh m) (read_tree m seed root (nothing_yet level) place left)
fresh_tree m sound seed root level place left is = fresh_piece m sound seed most_levels (Action root None) None (nothing_yet level) place left is (λ a x at. absurd (none-some x at))

-- ---- the sources

get_from : {A B : Type 0} (f : ℕ × A → B) (k : ℕ) (xs : List A) (i : ℕ) → slice_get (map f (enumerate_from k xs)) i ≡ option_map (λ x. f (k + i, x)) (slice_get xs i)
get_from f k [] i = refl
get_from f k (x ∷ xs) zero = let here : k ≡ k + zero = omega arith in ap (λ n. Some (f (n, x))) here
get_from f k (x ∷ xs) (suc i) = let here : (k + 1) + i ≡ k + suc i = omega arith in get_from f (k + 1) xs i ∙ ap (λ n. option_map (λ x. f (n, x)) (slice_get xs i)) here

mapped : {A B : Type 0} (f : A → B) (o : Option A) (y : B) → option_map f o ≡ Some y → (x : A) × (o ≡ Some x) × (f x ≡ y)
mapped f None y e = absurd (none-some y e)
mapped f (Some x) y e = (x, refl, same_Some (f x) y e)

fresh_put : (m : ModelTree) (acts : List Act) (a r : ℕ) (to : Link) → ((b : ℕ) (y : Act) → slice_get acts b ≡ Some y → IsFresh m y) → (b : ℕ) (y : Act) → slice_get (put_link a r to acts) b ≡ Some y → IsFresh m y
fresh_put m acts a r to all b y at =
    let f : ℕ × Act → Act = λ e. if nat_eq e.0 a then act_with_link r to e.1 else e.1 in
    let x = mapped (λ z. f (0 + b, z)) (slice_get acts b) y (sym (get_from f 0 acts b) ∙ at) in
    subst (IsFresh m) x.2 (by (nat_eq (0 + b) a) x.0 (all b x.0 x.1))
  where
    by : (c : Bool) (x : Act) → IsFresh m x → IsFresh m (if c then act_with_link r to x else x)
    by true x is = record { concrete = is.concrete; references = alter_same unlinked (with_link to) (λ f. refl) r x.references ∙ is.references; fields = is.fields; claims = is.claims }
    by false x is = is

fresh_linked : (m : ModelTree) (need : Spot) (b q : ℕ) (acts : List Act) → ((a : ℕ) (y : Act) → slice_get acts a ≡ Some y → IsFresh m y) → (a : ℕ) (y : Act) → slice_get (linked_to need b q acts) a ≡ Some y → IsFresh m y
fresh_linked m need b q acts all = by (is_stream need.filled.flow)
  where
    one : (a : ℕ) (y : Act) → slice_get (put_link need.act need.reference (link.Act b q) acts) a ≡ Some y → IsFresh m y
    one = fresh_put m acts need.act need.reference (link.Act b q) all

    by : (c : Bool) (a : ℕ) (y : Act) → slice_get (if c then put_link b q (link.Act need.act need.reference) (put_link need.act need.reference (link.Act b q) acts) else put_link need.act need.reference (link.Act b q) acts) a ≡ Some y → IsFresh m y
    by true = fresh_put m (put_link need.act need.reference (link.Act b q) acts) b q (link.Act need.act need.reference) one
    by false = one

new_atomic : (type : ActionTree) (content : ContentTree) → is_inferable type content ≡ true → IsAtomic content × (type.is_abstract ≡ false)
new_atomic type (Atomic body) e = (tt, not-true type.is_abstract e)
new_atomic type (Compound activity) e = absurd (false≢true e)

fresh_supplied : (m : ModelTree) (s : Scenario) (need : Spot) (source : Source) → AreFresh m s → Suits m s need source → AreFresh m (supplied_by m s need source)
fresh_supplied m s need Initially all suit = fresh_put m s.actions need.act need.reference link.Initial all
fresh_supplied m s need (From b q) all suit = fresh_linked m need b q s.actions all
fresh_supplied m s need (New action instance q) all suit =
    let i = new_atomic suit.type suit.type.content suit.inferable in
    let is : IsConcrete m action instance = record { type = suit.type; is = suit.is; atomic = i.0; concrete = i.1; top = None; inside = suit.inside } in
    fresh_linked m need (length s.actions) q (s.actions ++ open_act m action instance None ∷ []) (fresh_push m s.actions (open_act m action instance None) all (open_fresh m action instance None is))

pub fresh_supply : (m : ModelTree) (seed : ℕ) (s : Scenario) (place : ℕ) (left : List ℕ) → AreFresh m s → Gives (AreFresh m) (read_supply m seed s place left)
fresh_supply m seed s place left all = gives_supply m seed (AreFresh m) (AreFresh m) (λ t need source holds turn suit. fresh_supplied m t need source holds suit) (λ t holds none many. holds) s place left all
