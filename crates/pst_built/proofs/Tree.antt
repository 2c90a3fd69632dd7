-- Each fill of an activity is read by some choices.
use Rattle.std.proofs.Common.{ℕ, zero, suc, ◌+◌, ℤ, List, [], ◌∷◌, ◌++◌, length, if◌then◌else◌, Option, Some, refl, sym, ap, ◌∙◌, subst, arith, append_assoc, append-nil, inl, inr}
use Rattle.std.specs.List.{AllZip}
use Rattle.pst_rng.specs.Words.{start_of}
use Rattle.pst_rng.specs.Weights.{weighted_start_of}
use Rattle.pst_expr.specs.Spans.{size_of}
use Rattle.pst_model.specs.declared.action.Field.{Field}
use Rattle.pst_model.specs.ActivityTree.{StepTree, Traverse, Sequence, Parallel, Schedule, Joined, Select, Repeat, If, Match}
use Rattle.pst_model.specs.ModelTree.{ModelTree, ActionTree, ContentTree, Atomic, Compound}
use Rattle.pst_model.specs.SoundActivity.{EachStep, IsSoundStep}
use Rattle.pst_model.specs.Sound.{IsSound, IsSoundAction, IsSoundContent}
use Rattle.pst_scen.specs.declared.scenario.Scenario.{Scenario}
use Rattle.pst_legal.specs.Growing.{Look, with_look, IsWithin}
use Rattle.pst_legal.specs.Pieces.{Piece, Action, Statement, Turning, IsValueOf, IsContent, IsWay}
use Rattle.pst_legal.specs.Menus.{Menu, Way, Place, Weighted, Closed, menu}
use Rattle.pst_legal.specs.Reading.{Stops, Reads, Reader, then_read, read_place, put_value, value_number, read_fields, read_menu, read_pieces, read_way, read_piece}
use Rattle.pst_legal.specs.Fits.{Filling, FillAll, Fills}
use Rattle.pst_built.proofs.Members.{In, in_map}
use Rattle.pst_built.proofs.Ways.{Ways}
use Rattle.pst_built.proofs.SoundActs.{all_get, all_in}
use Rattle.pst_built.proofs.SoundPieces.{IsSoundBelow, IsSoundPiece, IsSoundWay, menu_sound}
use Rattle.pst_built.specs.Reached.{IsReached}
use Rattle.pst_built.proofs.Led.{led_place, led_same}
use Rattle.pst_built.proofs.Domains.{number_of}
use Rattle.pst_built.proofs.Menus.{look_with, LeadsTo, IsApartStep, IsApartPiece, to_menu}
use Rattle.pst_built.proofs.ReachedNodes.{look_none, put_look, IsAtMost, at_most_same, at_most_trans, look_grows, look_start_small}

-- ---- sound pieces

-- a statement of a sound activity; an action of any type
abbrev IsFair : ModelTree → Piece → Type 0
IsFair m (Action action top) = Unit {0}
IsFair m (Statement c step) = IsSoundBelow m step
IsFair m (Turning c index body) = IsSoundBelow m body

sound_fair : (m : ModelTree) (piece : Piece) → IsSoundPiece m piece → IsFair m piece
sound_fair m (Action action top) is = tt
sound_fair m (Statement c step) is = is
sound_fair m (Turning c index body) is = is

apart_step : (m : ModelTree) (action : ActionTree) (handles : List ℕ) (levels : ℕ) (step : StepTree) → EachStep (IsSoundStep m action handles) levels step → IsApartStep step
apart_step m action handles levels (Match matched arms other) each = each.0.1
apart_step m action handles levels (Traverse traversed handle inline) each = tt
apart_step m action handles levels (Sequence steps) each = tt
apart_step m action handles levels (Parallel steps) each = tt
apart_step m action handles levels (Schedule steps) each = tt
apart_step m action handles levels (Joined parallel join steps) each = tt
apart_step m action handles levels (Select rows) each = tt
apart_step m action handles levels (Repeat count body) each = tt
apart_step m action handles levels (If condition holds fails) each = tt

fair_apart : (m : ModelTree) (piece : Piece) → IsFair m piece → IsApartPiece piece
fair_apart m (Action action top) is = tt
fair_apart m (Statement c step) is = apart_step m is.action is.handles is.levels step is.each
fair_apart m (Turning c index body) is = tt

ways_below : (m : ModelTree) (menu : Menu) (look : Look) (below : List Piece) → Ways (IsSoundWay m) menu → LeadsTo menu look below → (piece : Piece) → In piece below → IsSoundPiece m piece
ways_below m (Way to fields after) look below ways leads piece has = ways.1 leads.0 piece (subst (In piece) leads.3 has)
ways_below m (Place n after) look below ways leads piece has = ways_below m (after leads.0) look below (ways leads.0) leads.2 piece has
ways_below m (Weighted weights after) look below ways leads piece has = ways_below m (after leads.0) look below (ways leads.0) leads.2 piece has
ways_below m Closed look below ways leads piece has = absurd leads

content_fair : (m : ModelTree) (type : ActionTree) (content : ContentTree) (action instance : ℕ) (look : Look) (below : List Piece) → IsSoundContent m type content → IsContent type content action instance look below
    → (piece : Piece) → In piece below → IsFair m piece
content_fair m type (Atomic body) action instance look below sound way piece has = absurd (subst (In piece) way.1 has)
content_fair m type (Compound activity) action instance look below sound way piece has =
    let i = in_map (Statement (record { instance = instance; fields = way.0; indices = [] })) activity.steps piece (subst (In piece) way.3 has) in
    subst (IsFair m) i.2 (record {
      action = type;
      handles = activity.handles;
      levels = 0;
      each = all_in (EachStep (IsSoundStep m type activity.handles) 0) activity.steps i.0 sound.1.steps i.1;
    })

below_fair : (m : ModelTree) → IsSound m → (piece : Piece) (look : Look) (below : List Piece) → IsFair m piece → IsWay m piece look below → (other : Piece) → In other below → IsFair m other
below_fair m sound (Action action top) look below is way other has =
    content_fair m way.type way.type.content action way.instance look below (all_get (IsSoundAction m) m.actions action way.type sound.actions way.is).content way.content other has
below_fair m sound (Statement c step) look below is way other has =
    sound_fair m other (ways_below m (menu m (Statement c step)) look below (menu_sound m sound (Statement c step) is) (to_menu m (Statement c step) look below (fair_apart m (Statement c step) is) way) other has)
below_fair m sound (Turning c index body) look below is way other has =
    sound_fair m other (ways_below m (menu m (Turning c index body)) look below (menu_sound m sound (Turning c index body) is) (to_menu m (Turning c index body) look below tt way) other has)

-- ---- a filling only adds nodes

abbrev Grows : Filling → Type 0
Grows One = (x : Piece) (parent : Option ℕ) (before after : Scenario) → One x parent before after → IsAtMost before after

all_grow : (One : Filling) → Grows One → (xs : List Piece) (parent : ℕ) (before after : Scenario) → FillAll One xs parent before after → IsAtMost before after
all_grow One grows [] parent before after h = at_most_same before after h
all_grow One grows (x ∷ xs) parent before after h = at_most_trans before h.0 after (grows x (Some parent) before h.0 h.1) (all_grow One grows xs parent h.0 after h.2)

piece_grows : (m : ModelTree) (levels : ℕ) → Grows (Fills m levels)
piece_grows m zero x parent before after h = absurd h
piece_grows m (suc levels) x parent before after h =
    at_most_trans before (with_look m before parent h.0) after (look_grows m before parent h.0)
    (all_grow (Fills m levels) (piece_grows m levels) h.1 (length before.nodes) (with_look m before parent h.0) after h.3)

within_at_most : (s t : Scenario) → IsAtMost s t → IsWithin t.nodes t.actions → IsWithin s.nodes s.actions
within_at_most s t most within = record { few_nodes = omega (arith, most.nodes, within.few_nodes); few_acts = omega (arith, most.acts, within.few_acts) }

-- ---- what is filled is read

abbrev Leads : (Piece → Option ℕ → Reader) → Filling → Piece → Type 0
Leads one One x = (parent : Option ℕ) (before after : Scenario) (place : ℕ) → IsWithin after.nodes after.actions → One x parent before after → IsReached (one x parent) before place after

led_pieces : (one : Piece → Option ℕ → Reader) (One : Filling) → Grows One → (xs : List Piece) → ((x : Piece) → In x xs → Leads one One x) → (parent : ℕ) (before after : Scenario) (place : ℕ)
    → IsWithin after.nodes after.actions → FillAll One xs parent before after → IsReached (read_pieces one xs parent) before place after
led_pieces one One grows [] each parent before after place within h = record { choices = []; end = place; reads = λ more. ap (λ t. Reads t place more) (sym h) }
led_pieces one One grows (x ∷ xs) each parent before after place within h =
    let mid = within_at_most h.0 after (all_grow One grows xs parent h.0 after h.2) within in
    let a = each x (inl refl) (Some parent) before h.0 place mid h.1 in
    let b = led_pieces one One grows xs (λ y has. each y (inr has)) parent h.0 after a.end within h.2 in
    record {
      choices = a.choices ++ b.choices;
      end = b.end;
      reads = λ more.
          ap (λ ds. then_read (one x (Some parent) before place ds) (read_pieces one xs parent)) (append_assoc a.choices b.choices more)
          ∙ ap (λ r. then_read r (read_pieces one xs parent)) (a.reads (b.choices ++ more))
          ∙ b.reads more;
    }

led_fields : (m : ModelTree) (seed : ℕ) (s t : Scenario) (parent : Option ℕ) (look : Look) (fields : List Field) (known values : List ℤ) (go : List ℤ → Reader) (place : ℕ) → AllZip IsValueOf fields values
    → ((next : ℕ) → IsReached (go (known ++ values)) (with_look m s parent (look_with look (known ++ values))) next t)
    → IsReached (read_fields seed (length s.nodes) fields known go) (with_look m s parent (look_with look known)) place t
led_fields m seed s t parent look [] known [] go place zip each =
    let same = append-nil known in
    subst (λ ks. IsReached (go ks) (with_look m s parent (look_with look ks)) place t) same (each place)
led_fields m seed s t parent look [] known (v ∷ values) go place zip each = absurd zip
led_fields m seed s t parent look (field ∷ fields) known [] go place zip each = absurd zip
led_fields m seed s t parent look (field ∷ fields) known (v ∷ values) go place zip each =
    let n = length s.nodes in
    let at = with_look m s parent (look_with look known) in
    let k = number_of field.domain v zip.0 in
    let more = known ++ v ∷ [] in
    let next : ℕ → Reader = λ x read. read_fields seed n fields (known ++ value_number field x ∷ []) go (put_value read n (value_number field x)) in
    let rest = led_fields m seed s t parent look fields more values go (place + 1) zip.1
    (λ p. subst (λ ks. IsReached (go ks) (with_look m s parent (look_with look ks)) p t) (sym (append_assoc known (v ∷ []) values)) (each p)) in
    led_same (read_fields seed n (field ∷ fields) known go) (read_place (start_of seed place (size_of field.domain)) (size_of field.domain) next) at t place (λ others. refl)
    (led_place (start_of seed place (size_of field.domain)) (size_of field.domain) k.0 next at t place k.1
    (record {
      choices = rest.choices;
      end = rest.end;
      reads = λ others.
          (λ i. read_fields seed n fields (known ++ k.2 i ∷ []) go (put_value at n (k.2 i)) (place + 1) (rest.choices ++ others))
          ∙ ap (λ u. read_fields seed n fields more go u (place + 1) (rest.choices ++ others)) (put_look m s parent look known v)
          ∙ rest.reads others;
    }))

led_menu : (m : ModelTree) (seed : ℕ) (x : Menu) (parent : Option ℕ) (one : Piece → Option ℕ → Reader) (look : Look) (below : List Piece) (before after : Scenario) (place : ℕ) → LeadsTo x look below
    → IsWithin after.nodes after.actions → IsAtMost (with_look m before parent look) after
    → ((next : ℕ) → IsReached (read_pieces one below (length before.nodes)) (with_look m before parent look) next after)
    → IsReached (read_menu seed x (read_way m seed one parent)) before place after
led_menu m seed (Way to fields f) parent one look below before after place leads within most each =
    let values = leads.0 in
    let n = length before.nodes in
    let start = with_look m before parent to in
    let small = look_start_small m before after parent to values (subst (λ l. IsAtMost (with_look m before parent l) after) leads.2 most) within in
    let led = led_fields m seed before after parent to fields [] values (λ vs. read_pieces one (f vs) n) place leads.1
    (λ p. subst (λ l. IsReached (read_pieces one (f values) n) (with_look m before parent l) p after) leads.2 (subst (λ b. IsReached (read_pieces one b n) (with_look m before parent look) p after) leads.3 (each p))) in
    record {
      choices = led.choices;
      end = led.end;
      reads = λ more.
          ap (λ c. if c then read_fields seed n fields [] (λ vs. read_pieces one (f vs) n) start place (led.choices ++ more) else Stops) small
          ∙ ap (λ l. read_fields seed n fields [] (λ vs. read_pieces one (f vs) n) (with_look m before parent l) place (led.choices ++ more)) (sym (look_none to))
          ∙ led.reads more;
    }
led_menu m seed (Place n f) parent one look below before after place leads within most each =
    let go = read_way m seed one parent in
    let next : ℕ → Reader = λ k. read_menu seed (f k) go in
    led_same (read_menu seed (Place n f) go) (read_place (start_of seed place n) n next) before after place (λ more. refl)
    (led_place (start_of seed place n) n leads.0 next before after place leads.1
    (led_menu m seed (f leads.0) parent one look below before after (place + 1) leads.2 within most each))
led_menu m seed (Weighted weights f) parent one look below before after place leads within most each =
    let go = read_way m seed one parent in
    let next : ℕ → Reader = λ k. read_menu seed (f k) go in
    led_same (read_menu seed (Weighted weights f) go) (read_place (weighted_start_of seed place weights) (length weights) next) before after place (λ more. refl)
    (led_place (weighted_start_of seed place weights) (length weights) leads.0 next before after place leads.1
    (led_menu m seed (f leads.0) parent one look below before after (place + 1) leads.2 within most each))
led_menu m seed Closed parent one look below before after place leads within most each = absurd leads

pub led_piece : (m : ModelTree) → IsSound m → (seed levels : ℕ) (x : Piece) → IsFair m x → Leads (read_piece m seed levels) (Fills m levels) x
led_piece m sound seed zero x is parent before after place within h = absurd h
led_piece m sound seed (suc levels) x is parent before after place within h =
    led_menu m seed (menu m x) parent (read_piece m seed levels) h.0 h.1 before after place (to_menu m x h.0 h.1 (fair_apart m x is) h.2) within
    (all_grow (Fills m levels) (piece_grows m levels) h.1 (length before.nodes) (with_look m before parent h.0) after h.3)
    (λ next. led_pieces (read_piece m seed levels) (Fills m levels) (piece_grows m levels) h.1
    (λ y has. led_piece m sound seed levels y (below_fair m sound x h.0 h.1 is h.2 y has)) (length before.nodes) (with_look m before parent h.0) after next within h.3)
