-- What a list of choices reads: a plain function of the whole list, part after part.
-- The order of choices is this project's own.
use Rattle.std.specs.Prelude.{ℕ, zero, suc, ◌+◌, ◌%◌, ℤ, pos, List, [], ◌∷◌, ◌++◌, length, take, drop, nat_lt, if◌then◌else◌, Option, Some, None, slice_get, get_or}
use Rattle.pst_rng.specs.Words.{start_of}
use Rattle.pst_rng.specs.Weights.{weighted_start_of}
use Rattle.pst_expr.specs.Spans.{values, size_of}
use Rattle.pst_model.specs.declared.action.Field.{Field}
use Rattle.pst_model.specs.ModelTree.{ModelTree}
use Rattle.pst_scen.specs.declared.tree.Node.{Node}
use Rattle.pst_scen.specs.declared.tree.Fill.{Fill}
use Rattle.pst_scen.specs.declared.tree.Fill.TheVariants as fill
use Rattle.pst_scen.specs.declared.scenario.Scenario.{Scenario}
use Rattle.pst_legal.specs.Growing.{Look, with_look, is_within, most_levels}
use Rattle.pst_legal.specs.Pieces.{Piece, Action}
use Rattle.pst_legal.specs.Menus.{Menu, Way, Place, Weighted, Closed, menu}

-- What reading has come to: a place with so many options and no choice left for it, a dead end, or a scenario so far, the
-- number of the next place and the choices that are left.
pub data Reading : Type 0 where
  Wants : (so_far : Scenario) → (options : ℕ) → Reading
  Stops : Reading
  Reads : (so_far : Scenario) → (place : ℕ) → (left : List ℕ) → Reading

-- from a scenario so far, the number of the next place and the choices that are left
abbrev pub Reader : Type 0
Reader = Scenario → ℕ → List ℕ → Reading

abbrev pub then_read : Reading → Reader → Reading
then_read (Wants s n) go = Wants s n
then_read Stops go = Stops
then_read (Reads s place left) go = go s place left

-- the option that a digit names at a place with n options: the one so many after the seed's start, round and round
abbrev pub option_at : ℕ → ℕ → ℕ → ℕ
option_at start n digit = (start + digit) % n

-- A place with so many options, which begins with that one. It is dead without an option, and at a digit that names none.
abbrev pub read_place : ℕ → ℕ → (ℕ → Reader) → Reader
read_place start n go s place [] = if nat_lt 0 n then Wants s n else Stops
read_place start n go s place (digit ∷ left) = if nat_lt digit n then go (option_at start n digit) s (place + 1) left else Stops

-- a place where the seed begins among n options
abbrev pub read_seeded : ℕ → ℕ → (ℕ → Reader) → Reader
read_seeded seed n go s place left = read_place (start_of seed place n) n go s place left

-- a place where the seed begins by weights
abbrev pub read_weighted : ℕ → List ℕ → (ℕ → Reader) → Reader
read_weighted seed weights go s place left = read_place (weighted_start_of seed place weights) (length weights) go s place left

-- ---- part 1: the filled-in activity

-- the values of a compound action's fields, one more
abbrev pub with_value : ℤ → Fill → Fill
with_value v (fill.Compound action instance fields) = fill.Compound action instance (fields ++ v ∷ [])
with_value v other = other

abbrev pub node_with_value : ℤ → Option Node → List Node
node_with_value v None = []
node_with_value v (Some node) = record node { fill = with_value v node.fill } ∷ []

-- the action of that node has one more value
abbrev pub put_value : Scenario → ℕ → ℤ → Scenario
put_value s n v = record s { nodes = take n s.nodes ++ (node_with_value v (slice_get s.nodes n) ++ drop (suc n) s.nodes) }

-- the value of that number in a domain
abbrev pub value_number : Field → ℕ → ℤ
value_number field k = get_or (values field.domain) k (pos 0)

-- the values of the fields of a node's action, each over its domain, and then what follows for these values
abbrev pub read_fields : ℕ → ℕ → List Field → List ℤ → (List ℤ → Reader) → Reader
read_fields seed n [] known go s place left = go known s place left
read_fields seed n (field ∷ fields) known go s place left =
    read_seeded seed (size_of field.domain) (λ k read. read_fields seed n fields (known ++ value_number field k ∷ []) go (put_value read n (value_number field k))) s place left

-- one place after another
abbrev pub read_menu : ℕ → Menu → (Look → List Field → (List ℤ → List Piece) → Reader) → Reader
read_menu seed (Way look fields below) go s place left = go look fields below s place left
read_menu seed (Place n after) go s place left = read_seeded seed n (λ k. read_menu seed (after k) go) s place left
read_menu seed (Weighted weights after) go s place left = read_weighted seed weights (λ k. read_menu seed (after k) go) s place left
read_menu seed Closed go s place left = Stops

-- the pieces in order, below one node
abbrev pub read_pieces : (Piece → Option ℕ → Reader) → List Piece → ℕ → Reader
read_pieces one [] parent s place left = Reads s place left
read_pieces one (x ∷ xs) parent s place left = then_read (one x (Some parent) s place left) (read_pieces one xs parent)

-- from a scenario that has one more node, unless it is too large
abbrev pub if_within : Reader → Reader
if_within go s place left = if is_within s then go s place left else Stops

-- the node of a way, the values of its action, and then what stands below it
abbrev pub read_way : ModelTree → ℕ → (Piece → Option ℕ → Reader) → Option ℕ → Look → List Field → (List ℤ → List Piece) → Reader
read_way m seed one parent look fields below s =
    if_within (read_fields seed (length s.nodes) fields [] (λ values. read_pieces one (below values) (length s.nodes))) (with_look m s parent look)

-- A piece, with so many levels for its node and what stands below it. Where no level is left the node's places are still
-- there, and every choice at the last of them comes to a dead end.
abbrev pub read_piece : ModelTree → ℕ → ℕ → Piece → Option ℕ → Reader
read_piece m seed zero piece parent s place left = read_menu seed (menu m piece) (λ look fields below s place left. Stops) s place left
read_piece m seed (suc levels) piece parent s place left =
    read_menu seed (menu m piece) (read_way m seed (read_piece m seed levels) parent) s place left

abbrev pub read_tree : ModelTree → ℕ → ℕ → Reader
read_tree m seed root = read_piece m seed most_levels (Action root None) None
