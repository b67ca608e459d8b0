-- A wait as programs write it: MILLIS, INT d, PLUS, DELAYUNTIL.
use Rattle.std.specs.Prelude.{ℕ, ◌+◌, ◌%◌, ◌≤◌, ◌<◌, List, [], ◌≡◌, pos}
use Rattle.number.specs.Clock.{max_ahead}
use Rattle.number.specs.Value.{number_of}
use Rattle.number.specs.declared.Number.{Number}
use Rattle.number.specs.declared.Number.TheVariants.{Int}
use Rattle.operator.specs.Binary.{binary}
use Rattle.std.specs.Prelude.{Ok}
use Rattle.operator.specs.declared.instruction.Types.TheVariants.{CharOrInt}
use Rattle.operator.specs.declared.operators.Arithmetic.TheVariants.{Plus}
use Rattle.operator.specs.declared.operators.Binary.TheVariants.{Arithmetic}
use Rattle.machine.specs.Effect.{Effect, clock_bytes, goes, number}
use Rattle.machine.specs.Exec.{behind, delays, here, onward}
use Rattle.machine.specs.Stack.{Item, pop, popped}

-- the 32-bit clock's reading at a time in milliseconds: after 2^32 it begins again
abbrev pub reading : ℕ → ℕ
reading time = time % 4294967296

-- DELAYUNTIL at a clock, wherever it stands and x is what it pops: it does this
module _ (x : Number) (clock : ℕ) where
  abbrev pub Does : ((prog stack : List ℕ) (loopstart at : ℕ) (rest : List ℕ) → Effect) → Type 0
  Does effect = (prog stack : List ℕ) (loopstart at : ℕ) (item : Item) (rest : List ℕ)
      → pop CharOrInt stack ≡ popped item rest → number item ≡ x
      → delays prog stack loopstart at clock ≡ effect prog stack loopstart at rest

  abbrev pub Stays : Type 0
  Stays = Does λ prog stack loopstart at rest. goes (here prog stack loopstart at at stack) []

  abbrev pub GoesOn : Type 0
  GoesOn = Does λ prog stack loopstart at rest.
      onward prog stack loopstart at (behind prog stack loopstart at) rest []

-- x is what MILLIS, INT d and PLUS leave. DELAYUNTIL stays at each of the d milliseconds that follow MILLIS; it goes on
-- at their end, and in the 32,768 milliseconds after it.
pub record Waits (time d : ℕ) : Type 0 where
  pub x : Number
  pub sum : binary (Arithmetic Plus) (number_of 2 (clock_bytes (reading time))) (Int (pos d)) ≡ Ok x
  pub stays : (e : ℕ) → e < d → Stays x (reading (time + e))
  pub over : (e : ℕ) → e ≤ max_ahead + 1 → GoesOn x (reading (time + d + e))

-- Document 02, Q-4, "Longer waits": from every time on, across the end of the clock and of its low 16 bits
unfoldable pub WaitsKeepTime : Type 0
WaitsKeepTime = (time d : ℕ) → d ≤ max_ahead → Waits time d
