-- Boot and format leave good buffers.
use Prim.Native.Nat.{ℕ, zero, suc}
use mathlib.Core.Path.{◌≡◌, refl, ap, ◌∙◌}
use mathlib.Core.Bool.{true, ◌&&◌}
use mathlib.Core.List.{List}
use lib.ListN.{get_or, length, length-replicate, replicate}
use Rattle.buffer.specs.Lists.{all, any, keep, pairs, tab}
use Rattle.buffer.proofs.Bools.{and_both, and_left, and_right}
use Rattle.disc.specs.Directory.{good_disc, good_files, is_disc_length}
use Rattle.variable.specs.Good.{good_variables}
use Rattle.disc.specs.Layout.{count_at}
use Rattle.variable.specs.Bytes.{variables_of}
use Rattle.machine.specs.Answer.{Buffers, boot_answer, booted, format_answer, good_area}
use Rattle.machine.specs.Area.{is_area_length, kernel_of}
use Rattle.machine.specs.GoodArea.{good_header, good_kernel, good_process, other_id}
use Rattle.machine.specs.Refusals.{Passes}

-- no process is live, so nothing of the disc is asked
booted-good : (disc : List ℕ) → good_area disc booted ≡ true
unfolding good_area good_kernel kernel_of variables_of good_variables good_header good_process other_id all any keep pairs tab
booted-good disc = refl

booted-length : is_area_length (length booted) ≡ true
booted-length = refl

pub zeros-at : (n i : ℕ) → get_or {A = ℕ} (replicate n 0) i 0 ≡ 0
zeros-at zero i = refl
zeros-at (suc n) zero = refl
zeros-at (suc n) (suc i) = zeros-at n i

-- zeros of any length hold no file
zeros-good : (n : ℕ) → good_disc (replicate n 0) ≡ true
unfolding good_disc good_files all pairs tab
zeros-good n = rw (zeros-at n count_at)

booted-passes : (disc : List ℕ) → is_disc_length (length disc) ≡ true → good_disc disc ≡ true → Passes disc booted
booted-passes disc long good = record { sizes = and_both long booted-length; disc-good = good; area-good = booted-good disc }

module _ (b : Buffers) (sizes : is_disc_length (length b.disc) && is_area_length (length b.area) ≡ true) where
  long : is_disc_length (length b.disc) ≡ true
  long = and_left (is_disc_length (length b.disc)) _ sizes

  pub boot-good : good_disc b.disc ≡ true → Passes (boot_answer b).disc (boot_answer b).area
  unfolding boot_answer
  boot-good good = rw (and_right (is_disc_length (length b.disc)) (is_area_length (length b.area)) sizes)
      (booted-passes b.disc long good)

  -- Document 01: "Format zeroes the disc, then boots."
  pub format-good : Passes (format_answer b).disc (format_answer b).area
  unfolding format_answer
  format-good =
      let n : ℕ = length b.disc in
      rw sizes (booted-passes (replicate n 0) (ap is_disc_length (length-replicate {A = ℕ} n 0) ∙ long) (zeros-good n))
