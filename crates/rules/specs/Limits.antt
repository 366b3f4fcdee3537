-- The limits of a sheet. Assumes nothing.
use Rattle.std.specs.Prelude.{ℕ}

-- the bytes of a sheet
abbrev pub byte_limit : ℕ
byte_limit = 4096

-- the list types of a sheet
abbrev pub type_limit : ℕ
type_limit = 32

-- the functions of a sheet
abbrev pub function_limit : ℕ
function_limit = 32

-- the parameters of a function
abbrev pub parameter_limit : ℕ
parameter_limit = 4

-- the slots of a context
abbrev pub slot_count : ℕ
slot_count = 16

-- the second branches that may wait at one time
abbrev pub waiting_limit : ℕ
waiting_limit = 16

-- the operations of an Arith
abbrev pub op_count : ℕ
op_count = 5

-- what stands in a field for a parameter type or a slot that is not used
abbrev pub unused : ℕ
unused = 255
