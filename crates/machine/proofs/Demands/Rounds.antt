-- A turn and a round on good buffers: when they are done, when refused, and by what.
use Prim.Native.Nat.{ℕ}
use mathlib.Core.Path.{◌≡◌, sym, ap, ◌∙◌}
use mathlib.Core.Bool.{true, false}
use lib.Dec.{leb, ltb}
use lib.IntN.{pos}
use lib.ListN.{length}
use Rattle.machine.specs.Answer.{Answer, Buffers, answer, refused, round, turn, turned_answer}
use Rattle.machine.specs.Area.{kernel_of}
use Rattle.machine.specs.Limits.{round_room, slot_count, turn_room}
use Rattle.machine.specs.Operations.{round_of}
use Rattle.machine.specs.Refusals.{Passes}
use Rattle.machine.specs.State.{is_running, process_at}
use Rattle.machine.specs.Turn.{turned}
use Rattle.machine.proofs.Operations.Tests.{done-test, done-tests}

-- a turn of a running slot is done, one of any other is refused by 16
module _ (b : Buffers) (slot clock : ℕ) (passes : Passes b.disc b.area) (room : leb turn_room (length b.out) ≡ true) where
  pub turn-running : ltb slot slot_count ≡ true → is_running (process_at (kernel_of b.area) slot) ≡ true
      → answer (turn slot clock) b ≡ turned_answer (turned (kernel_of b.area) slot clock b.disc) b
  unfolding answer
  turn-running low h = rw (passes.sizes, passes.disc-good, passes.area-good, room, low, h)

  pub turn-not-running : ltb slot slot_count ≡ true → is_running (process_at (kernel_of b.area) slot) ≡ false
      → answer (turn slot clock) b ≡ refused 16 b
  unfolding answer
  turn-not-running low h = rw (passes.sizes, passes.disc-good, passes.area-good, room, low, h)

-- a round lent 2,560 bytes on good buffers is never refused
pub round-done : (b : Buffers) (clock : ℕ) → Passes b.disc b.area → leb round_room (length b.out) ≡ true
    → answer (round clock) b ≡ turned_answer (round_of (kernel_of b.area) clock b.disc) b
unfolding answer
round-done b clock passes room = rw (passes.sizes, passes.disc-good, passes.area-good, room)

-- and one that is done has passed the tests
pub round-passed : (b : Buffers) (clock n : ℕ) → (answer (round clock) b).number ≡ pos n → Passes b.disc b.area
    × (leb round_room (length b.out) ≡ true)
unfolding answer
round-passed b clock n =
    let May : Answer → Type 0 = λ a. Passes b.disc b.area × (leb round_room (length b.out) ≡ true) in
    done-tests May b n _ λ passes. done-test May b n (leb round_room (length b.out)) 3 _ λ room h. (passes, room)

-- what it returns is what its turns print
pub round-returns : (b : Buffers) (clock n : ℕ) → (answer (round clock) b).number ≡ pos n
    → n ≡ length (round_of (kernel_of b.area) clock b.disc).out
round-returns b clock n done =
    let p = round-passed b clock n done in
    let same : pos (length (round_of (kernel_of b.area) clock b.disc).out) ≡ pos n =
    sym (ap (λ (a : Answer). a.number) (round-done b clock p.0 p.1)) ∙ done in
    cc
