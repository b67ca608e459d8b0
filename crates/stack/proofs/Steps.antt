-- What lies on a stack after a push, and how many bytes that is.
use Prim.Native.Nat.{ℕ, ◌+◌, ◌≤◌}
use mathlib.Core.Path.{◌≡◌, refl}
use mathlib.Core.List.{List, ◌++◌}
use native.Mathlib.Omega.{arith}
use lib.ListN.{length, take, length-append}
use lib.Seq.{length-take-le}
use Rattle.number.specs.Value.{encoded, type_of, value_bytes}
use Rattle.number.specs.declared.Number.{Number}
use Rattle.number.specs.declared.Number.TheVariants.{Char, Int, Float}
use Rattle.machine.specs.Stack.{push, push_item}

-- ---- what is pushed
pub pushed-length : (stack head tail : List ℕ) (kept : ℕ) → kept ≤ length stack
    → length (take kept stack ++ head ++ tail) ≡ kept + length head + length tail
pushed-length stack head tail kept h = simp (length-append, length-take-le kept stack h)

-- a number's bytes as they are encoded
pub encoded-few : (a : Number) → (encoded a).kind ≤ 4
unfolding encoded
encoded-few (Char x) = omega arith
encoded-few (Int x) = omega arith
encoded-few (Float x) = omega arith

pub number_pushed : (a : Number) (stack : List ℕ)
    → push_item stack (encoded a).kind (take (encoded a).kind (encoded a).bytes) ≡ push stack (type_of a) (value_bytes a)
unfolding encoded
number_pushed (Char x) stack = refl
number_pushed (Int x) stack = refl
number_pushed (Float x) stack = refl
