-- What reading a variable needs of the table: each counted one lies in memory and is no longer than a stack.
use Rattle.std.specs.Prelude.{◌+◌, ◌≤◌, Bool, true, ◌&&◌, ◌≡◌, leb}
use Rattle.buffer.specs.Lists.{all}
use Rattle.variable.specs.Limits.{max_variables, memory_size, value_size}
use Rattle.variable.specs.Table.{counted}
use Rattle.variable.specs.declared.Variable.{Variable}
use Rattle.variable.specs.declared.Variables.{Variables}

abbrev pub is_held : Variable → Bool
is_held e = leb (e.address + e.size) memory_size && leb e.size value_size

pub record Readable (v : Variables) : Type 0 where
  pub few : v.count ≤ max_variables
  pub held : all is_held (counted v) ≡ true
