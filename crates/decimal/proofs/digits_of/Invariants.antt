-- The loop: the digits of n are those of rest less its last, and then those written; before these are zeros.
use Prim.Native.Nat.{◌+◌, ◌/◌, ◌^◌, ◌<◌}
use mathlib.Core.Path.{◌≡◌}
use mathlib.Core.List.{◌++◌}
use lib.Dec.{leb}
use lib.ListN.{length, drop, replicate, take}
use Rattle.decimal.specs.Decimal.{decimal, if_more, last_digits, max_digits}
use Rattle.decimal.proofs.digits_of.Given as goal

abbrev pub invariant-loop-rest : goal.invariant-loop-rest
invariant-loop-rest l = (l.start < max_digits) × (length l.bytes ≡ max_digits) × (l.rest < 10 ^ (l.start + 1))
    × (take l.start l.bytes ≡ replicate l.start 0)
    × (decimal l.n ≡ if_more (leb 10 l.rest) (last_digits l.start (l.rest / 10)) ++ drop l.start l.bytes)

abbrev pub decreases-loop-rest : goal.decreases-loop-rest
decreases-loop-rest l = l.rest
