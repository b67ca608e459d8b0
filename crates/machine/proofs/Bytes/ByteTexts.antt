-- Texts are bytes: what stands before the first zero, and decimal digits.
use Prim.Native.Nat.{ℕ, suc, zero, ◌+◌, ◌/◌, ◌%◌}
use mathlib.Core.Bool.{Bool, true, false}
use mathlib.Core.List.{List, [], ◌∷◌}
use native.Mathlib.Omega.{arith}
use lib.Dec.{eqb, leb}
use Rattle.buffer.proofs.ByteLists.{Bytes, append-bytes}
use Rattle.buffer.proofs.Each.{Each}
use Rattle.decimal.specs.Decimal.{decimal, if_more, last_digits, max_digits}
use Rattle.disc.specs.Name.{trimmed, unless_zero}

pub trimmed-bytes : (l : List ℕ) → Bytes l → Bytes (trimmed l)
unfolding Each trimmed
trimmed-bytes [] h = tt
trimmed-bytes (b ∷ l) h = go (eqb b 0) (trimmed-bytes l h.1)
  where
    go : (z : Bool) → Bytes (trimmed l) → Bytes (unless_zero z b (trimmed l))
    go true k = tt
    go false k = (h.0, k)

digits-bytes : (f n : ℕ) → Bytes (last_digits f n)
unfolding Each last_digits
digits-bytes zero n = tt
digits-bytes (suc f) n =
    append-bytes (if_more (leb 10 n) (last_digits f (n / 10))) ((48 + n % 10) ∷ []) (go (leb 10 n) (digits-bytes f (n / 10)))
    (omega arith, tt)
  where
    go : (more : Bool) → Bytes (last_digits f (n / 10)) → Bytes (if_more more (last_digits f (n / 10)))
    go true k = k
    go false k = tt

pub decimal-bytes : (n : ℕ) → Bytes (decimal n)
decimal-bytes n = digits-bytes max_digits n
