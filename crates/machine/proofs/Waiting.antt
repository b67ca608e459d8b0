-- A wait of d milliseconds keeps its time: its target is the time and d more, modulo 65,536. Assumes nothing.
use Prim.Native.Nat.{ℕ, zero, suc, ◌+◌, ◌-◌, ◌*◌, ◌/◌, ◌%◌, ◌≤◌, ◌<◌}
use native.Mathlib.Omega.{arith}
use native.Mathlib.Nat.{add-mod, add-mod-mod}
use mathlib.Core.Bool.{true, false, ◌&&◌}
use mathlib.Core.Path.{◌≡◌, refl, sym, ◌∙◌, ap, ap₂}
use borrow.Author.Tests.{le-leb, lt-leb}
use lib.Dec.{leb}
use lib.IntN.{ℤ, pos, ◌+ℤ◌}
use mir.Syntax.{w16}
use mir.Val.{to_z}
use Rattle.integer.specs.Modular.{residue, wrapped}
use Rattle.integer.proofs.Modular.{residue-add, residue-read, residue-sub, residue-wrapped}
use Rattle.number.specs.Clock.{ahead_by, is_ahead, max_ahead, whole_is_ahead}
use Rattle.number.specs.Value.{number_of}
use Rattle.number.specs.declared.Number.{Number}
use Rattle.number.specs.declared.Number.TheVariants.{Int}
use Rattle.operator.specs.Arithmetic.{whole}
use Rattle.operator.specs.Binary.{binary}
use Rattle.machine.specs.Waiting.{GoesOn, Stays, Waits, reading}

-- ---- DELAYUNTIL by its test
module _ (x : Number) (clock : ℕ) where
  stays-ahead : is_ahead x clock ≡ true → Stays x clock
  stays-ahead h prog stack loopstart at item rest pops is = rw (pops, is, h)

  goes-on-past : is_ahead x clock ≡ false → GoesOn x clock
  goes-on-past h prog stack loopstart at item rest pops is = rw (pops, is, h)

-- ---- the clock's low 16 bits
reading-low : (time : ℕ) → reading time % 65536 ≡ time % 65536
reading-low time = omega arith

two_bytes : (clock : ℕ) → clock % 65536 / 256 * 256 + clock % 256 ≡ clock % 65536
two_bytes clock = omega arith

-- ---- the test
module _ (time d : ℕ) where
  -- MILLIS's two bytes
  abbrev low : ℕ
  low = reading time % 65536 / 256 * 256 + reading time % 256

  abbrev target : ℤ
  target = wrapped w16 (to_z w16 low +ℤ pos d)

  target-residue : residue 65536 target ≡ (time + d) % 65536
  target-residue =
      residue-wrapped w16 (to_z w16 low +ℤ pos d) ∙ residue-add 65536 (omega arith) (to_z w16 low) (pos d)
      ∙ ap (λ (n : ℕ). (n + d % 65536) % 65536)
      (residue-read w16 {n = low} (record { fits = omega (arith, two_bytes (reading time)) })
      ∙ two_bytes (reading time) ∙ reading-low time) ∙ sym (add-mod time d 65536)

  -- r milliseconds before the target, modulo 65,536
  ahead : (now r : ℕ) → r < 65536 → (r + now) % 65536 ≡ (time + d) % 65536 → r ≡ ahead_by target (reading now)
  ahead now r k e =
      residue-sub 65536 (omega arith) target (pos (reading now)) r k
      (ap (λ (n : ℕ). (r + n) % 65536) (reading-low now) ∙ add-mod-mod r now 65536 ∙ e ∙ sym target-residue)

  tested : (now r : ℕ) → r < 65536 → (r + now) % 65536 ≡ (time + d) % 65536
      → whole_is_ahead target (reading now) ≡ (leb 1 r && leb r max_ahead)
  tested now r k e = sym (ap (λ (n : ℕ). leb 1 n && leb n max_ahead) (ahead now r k e))

  module _ (h : d ≤ max_ahead) where
    before : (e : ℕ) → e < d → whole_is_ahead target (reading (time + e)) ≡ true
    before e k =
        tested (time + e) (d - e) (omega arith) (omega arith)
        ∙ ap₂ ◌&&◌ (le-leb 1 (d - e) (omega arith)) (le-leb (d - e) max_ahead (omega arith))

    after : (e : ℕ) → e ≤ max_ahead + 1 → whole_is_ahead target (reading (time + d + e)) ≡ false
    after zero k = tested (time + d + 0) 0 (omega arith) (omega arith)
    after (suc e) k =
        tested (time + d + suc e) (65536 - suc e) (omega arith) (omega arith)
        ∙ ap₂ ◌&&◌ (le-leb 1 (65536 - suc e) (omega arith)) (lt-leb (65536 - suc e) max_ahead (omega arith))

    pub waits : Waits time d
    unfolding binary whole number_of
    waits = record {
      x = Int target;
      sum = refl;
      stays = λ e k. stays-ahead (Int target) (reading (time + e)) (before e (omega arith));
      over = λ e k. goes-on-past (Int target) (reading (time + d + e)) (after e (omega arith));
    }
