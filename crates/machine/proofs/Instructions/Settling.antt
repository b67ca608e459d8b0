-- The end of an instruction, by its two tests: the stack's size, then the place that it goes on at.
use Rattle.std.specs.Prelude.{None, Option, Some}
use Prim.Native.Nat.{ℕ, ◌≤◌, ◌<◌}
use mathlib.Core.Path.{◌≡◌}
use mathlib.Core.List.{List}
use lib.ListN.{length}
use borrow.Author.Tests.{le-leb, lt-leb}
use Rattle.machine.specs.Effect.{goes, faults, settle}
use Rattle.machine.specs.Limits.{stack_size}

module _ (prog stack : List ℕ) (loopstart : ℕ) (out : List ℕ) where
  pub settle-full : (target : Option ℕ) → stack_size < length stack → settle prog target stack loopstart out ≡ faults 4
  unfolding settle
  settle-full target h = rw (lt-leb _ _ h)

  module _ (h : length stack ≤ stack_size) where
    pub settle-nowhere : settle prog None stack loopstart out ≡ faults 3
    unfolding settle
    settle-nowhere = rw (le-leb _ _ h)

    pub settle-outside : (pc : ℕ) → length prog < pc → settle prog (Some pc) stack loopstart out ≡ faults 3
    unfolding settle
    settle-outside pc g = rw (le-leb _ _ h, lt-leb _ _ g)

    pub settle_goes : (pc : ℕ) → pc ≤ length prog
        → settle prog (Some pc) stack loopstart out ≡ goes (record { stack = stack; pc = pc; loopstart = loopstart }) out
    unfolding settle
    settle_goes pc g = rw (le-leb _ _ h, le-leb _ _ g)
