-- How far a whole number lies ahead of the clock, by its bits and the clock's low ones. Assumes nothing.
use Rattle.std.proofs.Common.{◌≡◌, ℕ, ◌+◌, ◌%◌, ◌<◌, ℤ, pos, sym, ap, ◌∙◌, arith, to_z-of_z, w16, SFits, to_z, of_z}
use Rattle.integer.proofs.Modular.{residue-bits, residue-sub}
use Rattle.number.specs.Clock.{ahead_by}

-- r is the difference of the two, as the wrapping subtraction gives it
pub ahead-reads : (x : ℤ) (clock : ℕ) {bits r : ℕ} → SFits w16 x → bits ≡ of_z w16 (to_z w16 (of_z w16 x)) → r < 65536
    → (r + clock % 65536) % 65536 ≡ bits → r ≡ ahead_by x clock
ahead-reads x clock {bits} {r} f b k e =
    residue-sub 65536 (omega arith) x (pos clock) r k
    (e ∙ b ∙ ap (of_z w16) (to_z-of_z f) ∙ sym (residue-bits w16 x f))
