-- An answer's number goes to C, with the buffers as they are.
use mathlib.Core.Path.{◌≡◌, ap, ◌∙◌}
use mathlib.Core.List.{List}
use Prim.Native.Nat.{ℕ}
use lib.IntN.{ℤ}
use Rattle.machine.specs.Answer.{Answer}
use Rattle.export.specs.Returned.{returned}

pub numbered : {n m : ℤ} (disc area out : List ℕ) {a : Answer} → n ≡ m → returned m disc area out ≡ a → returned n disc area out ≡ a
numbered disc area out e h = ap (λ (k : ℤ). returned k disc area out) e ∙ h
