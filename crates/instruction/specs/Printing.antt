-- What printing a value needs of its bytes.
use Rattle.std.specs.Prelude.{ℕ, ◌≤◌, ◌<◌, ◌≡◌, List, length}
use Rattle.machine.specs.Limits.{stack_size}
use Rattle.machine.specs.Stack.{string_kind}

-- a string's fit a turn's output with a newline; a number has at most four
pub record Printable (kind : ℕ) (bytes : List ℕ) : Type 0 where
  pub short : length bytes < stack_size
  pub few : (kind ≡ string_kind → ⊥) → length bytes ≤ 4
