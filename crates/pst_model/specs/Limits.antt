-- How large the parts of a model may be.
use Rattle.std.specs.Prelude.{ℕ}

-- fields of an action or object type; each element of an array is one
abbrev pub most_fields : ℕ
most_fields = 64

-- elements of an array
abbrev pub most_elements : ℕ
most_elements = 64

-- references of an action
abbrev pub most_references : ℕ
most_references = 16

-- claims of an action
abbrev pub most_claims : ℕ
most_claims = 16

-- locals of a body
abbrev pub most_locals : ℕ
most_locals = 64

-- parameters of a function
abbrev pub most_parameters : ℕ
most_parameters = 64

-- branches of a block with a join form
abbrev pub most_branches : ℕ
most_branches = 64

-- the weight of a branch
abbrev pub most_weight : ℕ
most_weight = 1000

-- the size of a pool
abbrev pub most_size : ℕ
most_size = 1024

-- component instances
abbrev pub most_instances : ℕ
most_instances = 256
