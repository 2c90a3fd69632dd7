-- Histories cut in two.
use Rattle.std.proofs.Common.{◌≡◌, ℕ, List, [], ◌∷◌, ◌++◌, Some, refl, sym, ap, ◌∙◌, subst, ⊎_elim}
use Rattle.std.specs.Prelude.{Contains}
use Rattle.pst_scen.specs.declared.scenario.Scenario.{Scenario}
use Rattle.pst_scen.specs.declared.event.Event.TheVariants.{End}
use Rattle.pst_scen.specs.declared.act.Link.{Link}
use Rattle.pst_scen.specs.Flows.{Writes}
use Rattle.pst_scen.specs.Trace.{Started, Ended, last_writer, MayStart, AreLegal, Block, Starts, Ends, starts_of, events_of, events}
use Rattle.pst_order.proofs.Elements.{none_in, cons_first}
use Rattle.pst_order.proofs.Events.{ended_cases, ended_more, ended_new, started_cases, started_more, starts_no_end, starts_member, end_is, end_no_start}
use Rattle.pst_order.proofs.Fair.{AreFair}
use Rattle.pst_order.proofs.Last.{Writing, ItDoes, ItDoesNot, writing, last_same, last_it, last_other}

pub legal_cut : (s : Scenario) (lanes : ℕ) (newer older : List Block) → AreLegal s lanes (newer ++ older) → AreLegal s lanes older
legal_cut s lanes [] older k = k
legal_cut s lanes (b ∷ newer) older k = legal_cut s lanes newer older k.0

pub fair_cut : (s : Scenario) (lanes : ℕ) (newer older : List Block) → AreFair s lanes (newer ++ older) → AreFair s lanes older
fair_cut s lanes [] older k = k
fair_cut s lanes (b ∷ newer) older k = fair_cut s lanes newer older k.0

pub ended_later : (newer older : List Block) (a : ℕ) → Ended (events older) a → Ended (events (newer ++ older)) a
ended_later [] older a h = h
ended_later (b ∷ newer) older a h = ended_more (events (newer ++ older)) (events_of b) a (ended_later newer older a h)

pub started_later : (newer older : List Block) (a : ℕ) → Started (events older) a → Started (events (newer ++ older)) a
started_later [] older a h = h
started_later (b ∷ newer) older a h = started_more (events (newer ++ older)) (events_of b) a (started_later newer older a h)

-- the block in which an action starts
pub record Begun (h : List Block) (a : ℕ) : Type 0 where
  pub newer : List Block
  pub members : List ℕ
  pub used : List ℕ
  pub older : List Block
  pub is : h ≡ newer ++ Starts members used ∷ older
  pub has : Contains members a

pub begun : (h : List Block) (a : ℕ) → Started (events h) a → Begun h a
begun [] a e = absurd (none_in _ e.1.1)
begun (Starts ms us ∷ h) a e =
    ⊎_elim
    (λ q. let r = begun h a q in record { newer = Starts ms us ∷ r.newer; members = r.members; used = r.used; older = r.older; is = ap (λ t. Starts ms us ∷ t) r.is; has = r.has })
    (λ q. record { newer = []; members = ms; used = us; older = h; is = refl; has = starts_member ms us a q }) (started_cases (events h) (starts_of ms us) a e)
begun (Ends b ∷ h) a e =
    ⊎_elim
    (λ q. let r = begun h a q in record { newer = Ends b ∷ r.newer; members = r.members; used = r.used; older = r.older; is = ap (λ t. Ends b ∷ t) r.is; has = r.has })
    (λ q. absurd (end_no_start b a q)) (started_cases (events h) (End b ∷ []) a e)

-- it starts after a cut
pub record Later (s : Scenario) (lanes : ℕ) (older : List Block) (a : ℕ) : Type 0 where
  pub newer : List Block
  pub members : List ℕ
  pub used : List ℕ
  pub legal : AreLegal s lanes (newer ++ older)
  pub may : MayStart s lanes (events (newer ++ older)) members used
  pub has : Contains members a

pub later : (s : Scenario) (lanes : ℕ) (newer older : List Block) (a : ℕ) → AreLegal s lanes (newer ++ older) → Started (events (newer ++ older)) a → (Started (events older) a → ⊥) → Later s lanes older a
later s lanes [] older a k e n = absurd (n e)
later s lanes (Starts ms us ∷ newer) older a k e n =
    ⊎_elim (λ q. later s lanes newer older a k.0 q n)
    (λ q. record { newer = newer; members = ms; used = us; legal = k.0; may = k.1; has = starts_member ms us a q })
    (started_cases (events (newer ++ older)) (starts_of ms us) a e)
later s lanes (Ends b ∷ newer) older a k e n =
    ⊎_elim (λ q. later s lanes newer older a k.0 q n) (λ q. absurd (end_no_start b a q)) (started_cases (events (newer ++ older)) (End b ∷ []) a e)

-- the last writer ended after the cut, or no writer did
pub data Moved (s : Scenario) (pool : ℕ) (newer older : List Block) : Type 0 where
  New : (a : ℕ) → last_writer s pool (events (newer ++ older)) ≡ Some a → (Ended (events older) a → ⊥) → Moved s pool newer older
  Same : ((a : ℕ) (link : Link) → Writes s a pool link → Ended (events (newer ++ older)) a → Ended (events older) a) → Moved s pool newer older

pub moved : (s : Scenario) (lanes pool : ℕ) (newer older : List Block) → AreFair s lanes (newer ++ older) → Moved s pool newer older
moved s lanes pool [] older k = Same (λ a link w e. e)
moved s lanes pool (Starts ms us ∷ newer) older k = same (moved s lanes pool newer older k.0)
  where
    same : Moved s pool newer older → Moved s pool (Starts ms us ∷ newer) older
    same (New a e n) = New a (last_same s pool (events (newer ++ older)) ms us ∙ e) n
    same (Same f) = Same (λ a link w e. ⊎_elim (λ q. f a link w q) (λ q. absurd (starts_no_end ms us a q)) (ended_cases (events (newer ++ older)) (starts_of ms us) a e))
moved s lanes pool (Ends b ∷ newer) older k = ends (moved s lanes pool newer older k.0) (writing s b pool)
  where
    ends : Moved s pool newer older → Writing s b pool → Moved s pool (Ends b ∷ newer) older
    ends m (ItDoes link w t) = New b (last_it s pool (events (newer ++ older)) b t) (λ e. k.1.1 (ended_later newer older b e))
    ends (New a e n) (ItDoesNot d f) = New a (last_other s pool (events (newer ++ older)) b f ∙ e) n
    ends (Same g) (ItDoesNot d f) =
        Same (λ a link w e. ⊎_elim (λ q. g a link w q) (λ q. absurd (d link (subst (λ v. Writes s v pool link) (sym (end_is b a q)) w))) (ended_cases (events (newer ++ older)) (End b ∷ []) a e))

ended_by : (s : Scenario) (pool : ℕ) (h : List Block) (b a : ℕ) → last_writer s pool (events h ++ End b ∷ []) ≡ Some a → Writing s b pool → (last_writer s pool (events h) ≡ Some a → Ended (events h) a) → Ended (events h ++ End b ∷ []) a
ended_by s pool h b a e (ItDoes link w t) f =
    let both : Some b ≡ Some a = sym (last_it s pool (events h) b t) ∙ e in
    let same : b ≡ a = cc in
    ended_new (events h) (End b ∷ []) a (subst (λ v. Ended (End b ∷ []) v) same (cons_first (End b) []))
ended_by s pool h b a e (ItDoesNot n t) f = ended_more (events h) (End b ∷ []) a (f (sym (last_other s pool (events h) b t) ∙ e))

pub last_ended : (s : Scenario) (pool : ℕ) (h : List Block) (a : ℕ) → last_writer s pool (events h) ≡ Some a → Ended (events h) a
last_ended s pool [] a e = cc
last_ended s pool (Starts ms us ∷ h) a e = ended_more (events h) (starts_of ms us) a (last_ended s pool h a (sym (last_same s pool (events h) ms us) ∙ e))
last_ended s pool (Ends b ∷ h) a e = ended_by s pool h b a e (writing s b pool) (λ q. last_ended s pool h a q)
