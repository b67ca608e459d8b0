-- What an instruction finds: its program and its stack.
use Rattle.std.specs.Prelude.{ℕ, ◌≤◌, List, length}
use Rattle.machine.specs.Limits.{stack_size}

-- a program's length is a field of two bytes
abbrev pub max_code : ℕ
max_code = 65535

-- code and stack have their sizes
pub record Ready (code stack : List ℕ) : Type 0 where
  pub short : length code ≤ max_code
  pub low : length stack ≤ stack_size
