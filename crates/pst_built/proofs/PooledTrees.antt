-- In a sound model the actions of a tree have state pools for their states, and for nothing else.
use Rattle.std.proofs.Common.{ℕ, zero, suc, ℤ, List, [], length, Option, Some, None, sym, subst}
use Rattle.std.proofs.lemmas.Option.{none-some}
use Rattle.pst_model.specs.declared.action.Field.{Field}
use Rattle.pst_model.specs.ModelTree.{ModelTree}
use Rattle.pst_model.specs.Sound.{IsSound}
use Rattle.pst_scen.specs.declared.scenario.Scenario.{Scenario}
use Rattle.pst_legal.specs.Growing.{nothing_yet, Look, Inner, Leaf, open_act, with_look, most_levels, is_within}
use Rattle.pst_legal.specs.Pieces.{Piece, Action}
use Rattle.pst_legal.specs.Menus.{menu}
use Rattle.pst_legal.specs.Reading.{Stops, Reader, read_pieces, read_way, read_piece, read_tree}
use Rattle.pst_built.proofs.Gives.{Gives, gives_if, gives_pieces}
use Rattle.pst_built.proofs.Bares.{bares_in, bares}
use Rattle.pst_built.proofs.Opens.{bares_push}
use Rattle.pst_built.proofs.Ways.{gives_menu}
use Rattle.pst_built.proofs.Trees.{gives_fields}
use Rattle.pst_built.proofs.SoundActs.{ArePooled, act_is_pooled, pooled_push}
use Rattle.pst_built.proofs.SoundPieces.{IsSoundPiece, IsSoundLook, IsSoundWay, menu_sound}

-- each action of the scenario does
abbrev pub HasPools : ModelTree → Scenario → Type 0
HasPools m s = ArePooled m (bares s.actions)

pooled_look : (m : ModelTree) → IsSound m → (s : Scenario) (parent : Option ℕ) (look : Look) → IsSoundLook m look → HasPools m s → HasPools m (with_look m s parent look)
pooled_look m sound s parent (Inner fill) is pooled = pooled
pooled_look m sound s parent (Leaf action instance) is pooled =
    let act = open_act m action instance (Some (length s.nodes)) in
    subst (ArePooled m) (sym (bares_push s.actions act)) (pooled_push m (bares s.actions) (bares_in act) pooled (act_is_pooled m sound action instance is (Some (length s.nodes))))

pooled_way : (m : ModelTree) → IsSound m → (seed : ℕ) (one : Piece → Option ℕ → Reader)
    → ((piece : Piece) (top : ℕ) (u : Scenario) (next : ℕ) (rest : List ℕ) → IsSoundPiece m piece → HasPools m u → Gives (HasPools m) (one piece (Some top) u next rest))
    → (s : Scenario) (parent : Option ℕ) (look : Look) (fields : List Field) (below : List ℤ → List Piece) → IsSoundWay m look fields below → HasPools m s
    → (next : ℕ) (rest : List ℕ) → Gives (HasPools m) (read_way m seed one parent look fields below s next rest)
pooled_way m sound seed one each s parent look fields below way pooled next rest =
    gives_if (HasPools m) (is_within (with_look m s parent look)) _ Stops
    (λ test. gives_fields (HasPools m) seed (length s.nodes) fields [] (λ values. read_pieces one (below values) (length s.nodes)) (with_look m s parent look) next rest
    (pooled_look m sound s parent look way.0 pooled) (λ t v holds. holds)
    (λ values t next rest holds. gives_pieces (HasPools m) one (below values) (length s.nodes) t next rest holds
    (λ piece inside u next rest held. each piece (length s.nodes) u next rest (way.1 values piece inside) held)))
    tt

pooled_piece : (m : ModelTree) → IsSound m → (seed levels : ℕ) (piece : Piece) (parent : Option ℕ) (s : Scenario) (place : ℕ) (left : List ℕ) → IsSoundPiece m piece → HasPools m s
    → Gives (HasPools m) (read_piece m seed levels piece parent s place left)
pooled_piece m sound seed zero piece parent s place left is pooled =
    gives_menu (HasPools m) (IsSoundWay m) seed (menu m piece) (menu_sound m sound piece is) _ s place left (λ look fields below way next rest. tt)
pooled_piece m sound seed (suc levels) piece parent s place left is pooled =
    gives_menu (HasPools m) (IsSoundWay m) seed (menu m piece) (menu_sound m sound piece is) _ s place left
    (λ look fields below way next rest. pooled_way m sound seed (read_piece m seed levels)
    (λ piece top u next rest is pooled. pooled_piece m sound seed levels piece (Some top) u next rest is pooled) s parent look fields below way pooled next rest)

pub pooled_tree : (m : ModelTree) → IsSound m → (seed root level place : ℕ) (left : List ℕ) → IsSoundPiece m (Action root None) → Gives (HasPools m) (read_tree m seed root (nothing_yet level) place left)
pooled_tree m sound seed root level place left is = pooled_piece m sound seed most_levels (Action root None) None (nothing_yet level) place left is (λ a r x at. absurd (none-some x at))
