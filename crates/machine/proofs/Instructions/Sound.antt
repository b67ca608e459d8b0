-- What an instruction leaves of a process that fits its record: at most 32 bytes of stack, PC and loop at most the program's length, at
-- most 32 bytes printed, a value of a good size, a fault from 1 to 9; and which bytes of the program ask.
use Prim.Native.Nat.{ℕ, ◌+◌, ◌≤◌}
use mathlib.Core.Path.{◌≡◌}
use mathlib.Core.Bool.{true}
use mathlib.Core.List.{List}
use mathlib.Core.Logic.{◌⊎◌}
use lib.ListN.{length, get_or}
use Rattle.variable.specs.Good.{good_size}
use Rattle.machine.specs.Effect.{Effect, goes, assigns, stops, faults, asks, Request, opens, closes, writes, reads, reads_string}
use Rattle.machine.specs.Effect.{forks, awaits}
use Rattle.machine.specs.Limits.{stack_size, turn_room}
use Rattle.machine.specs.Stack.{top_string}
use Rattle.machine.specs.State.{Local, no_loop}

-- n is the program's length
pub record Within (n : ℕ) (l : Local) : Type 0 where
  pub stack : length l.stack ≤ stack_size
  pub pc : l.pc ≤ n
  pub loop : (l.loopstart ≡ no_loop) ⊎ (l.loopstart ≤ n)

-- what is asked, from a program and the state it is asked in: the byte at PC, and the states to go on in
unfoldable pub Asked : List ℕ → Local → Request → Type 0
Asked prog l (opens name size m) = (get_or prog l.pc 0 ≡ 53) × Within (length prog) m
Asked prog l (closes m) = (get_or prog l.pc 0 ≡ 54) × Within (length prog) m
Asked prog l (writes bytes m) = (get_or prog l.pc 0 ≡ 55) × Within (length prog) m
Asked prog l (reads kind m) = ((get_or prog l.pc 0 ≡ 56) ⊎ ((get_or prog l.pc 0 ≡ 57) ⊎ (get_or prog l.pc 0 ≡ 58)))
    × Within (length prog) m
Asked prog l (reads_string m) = (get_or prog l.pc 0 ≡ 59) × Within (length prog) m
Asked prog l (forks name m) = (get_or prog l.pc 0 ≡ 68) × (name ≡ top_string l.stack) × (length m.stack + 3 ≤ stack_size)
    × Within (length prog) m
Asked prog l (awaits id stay go) = (get_or prog l.pc 0 ≡ 69) × (stay ≡ l) × Within (length prog) go

unfoldable pub Sound : List ℕ → Local → Effect → Type 0
unfolding Asked
Sound prog l (goes m out) = Within (length prog) m × (length out ≤ turn_room)
Sound prog l (assigns name kind bytes m) = Within (length prog) m × (good_size kind (length bytes) ≡ true)
Sound prog l stops = Unit {0}
Sound prog l (faults n) = (1 ≤ n) × (n ≤ 9)
Sound prog l (asks r) = Asked prog l r
