-- The contract of the functions that write a text piece by piece.
use Rattle.std.specs.Prelude.{ℕ, ◌+◌, ◌≡◌, List, length}
use Rattle.buffer.specs.Buffer.{overwrite}

-- what every writer of a text leaves and answers: s laid from place at, and the place behind it
pub record Laid (before : List ℕ) (at : ℕ) (s after : List ℕ) (behind : ℕ) : Type 0 where
  pub bytes : after ≡ overwrite before at s
  pub place : behind ≡ at + length s
