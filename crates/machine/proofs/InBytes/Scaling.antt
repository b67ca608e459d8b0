-- What CONSTRAIN, MAP and POW answer to numbers that fit their types fits its type.
use Rattle.std.specs.Prelude.{None, Option, Some}
use Prim.Native.Nat.{ℕ, zero, suc}
use lib.Dec.{T}
use lib.Ieee.{Float as Binary32, binary32, fits}
use lib.Ieee.Fits.{add-fits, mul-fits, of_int-fits}
use lib.IntN.{pos, pow, ◌-ℤ◌}
use mir.Syntax.{w8, w16}
use Rattle.integer.proofs.Modular.{wrapped-fits}
use Rattle.number.specs.Promotion.{promoted}
use Rattle.number.specs.declared.Number.{Number}
use Rattle.number.specs.declared.Number.TheVariants.{Char, Int}
use Rattle.number.specs.declared.promotion.Pair.{Pair}
use Rattle.number.specs.declared.promotion.Pair.TheVariants.{Chars, Ints, Floats}
use Rattle.number.proofs.Encoding.{Fits}
use Rattle.operator.specs.Binary.{extremum}
use Rattle.operator.specs.declared.operators.Extremum.TheVariants.{Min, Max}
use Rattle.scaling.specs.Constrain.{constrained}
use Rattle.scaling.specs.Map.{exact, map_exact, map_real, mapped, mapped_as, real, widest}
use Rattle.scaling.specs.Power.{exponent, power, power_real, raised, raised_by}
use Rattle.scaling.specs.declared.map.Kind.{Kind}
use Rattle.scaling.specs.declared.map.Kind.TheVariants as kind
use Rattle.machine.proofs.InBytes.Outcomes.{Answers, divisible-answers, extremum-fits, promoted-fit}

pub constrained-fits : (x a b : Number) → Fits x → Fits a → Fits b → Fits (constrained x a b)
unfolding constrained
constrained-fits x a b f g h =
    let m = extremum Max (promoted x a) in
    let k = extremum-fits Max (promoted x a) (promoted-fit x a f g) in
    extremum-fits Min (promoted m b) (promoted-fit m b k h)

pub map-answers : (a b c d e : Number) → Answers (mapped a b c d e)
unfolding mapped map_real
map-answers a b c d e = go (widest a b c d e)
  where
    go : (k : Kind) → Answers (mapped_as k a b c d e)
    go kind.Chars =
        divisible-answers w8 Char (λ z f. f) (exact c -ℤ exact b) (map_exact (exact a) (exact b) (exact c) (exact d) (exact e))
    go kind.Ints =
        divisible-answers w16 Int (λ z f. f) (exact c -ℤ exact b) (map_exact (exact a) (exact b) (exact c) (exact d) (exact e))
    go kind.Floats = add-fits binary32 _ (real d)

power-fits : (x : Binary32) (n : ℕ) → T (fits binary32 (power_real x n))
unfolding power_real
power-fits x zero = of_int-fits binary32 (pos 1)
power-fits x (suc n) = mul-fits binary32 (power_real x n) x

raised-fits : (p : Pair) (n : ℕ) → Fits (raised p n)
raised-fits (Chars x y) n = wrapped-fits w8 (pow x n)
raised-fits (Ints x y) n = wrapped-fits w16 (pow x n)
raised-fits (Floats x y) n = power-fits x n

pub power-answers : (x y : Number) → Answers (power x y)
unfolding power
power-answers x y = go (exponent y)
  where
    go : (e : Option ℕ) → Answers (raised_by (promoted x y) e)
    go (Some n) = raised-fits (promoted x y) n
    go None = tt
