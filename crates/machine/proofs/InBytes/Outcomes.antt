-- What an operator answers to numbers that fit their types fits its type.
use Rattle.std.specs.Prelude.{None, Option, Some}
use Prim.Native.Nat.{ℕ, zero, suc, ◌*◌, ◌/◌, ◌%◌, ◌<◌, ◌^◌}
use mathlib.Core.Path.{◌≡◌, refl, sym}
use mathlib.Core.Bool.{Bool, true, false, cond, not}
use native.Mathlib.Nat.{le-mul_of_pos_right, lt_of_lt_of_le}
use native.Mathlib.Omega.{arith}
use lib.Dec.{T}
use lib.Ieee.{Float as Binary32, nan, inf, fin, binary32, down, fits, up}
use lib.Ieee.Fits.{add-fits, div-fits, inf-fits, mul-fits, nan-fits, neg-fits, of_int-fits, round-fits, sub-fits}
use lib.IntN.{ℤ, pos, negsuc, nat_abs, neg_ℤ}
use lib.Pow.{pow_pos}
use mir.Syntax.{Width, w8, w16}
use mir.Val.{hbits, of_z, SFits}
use mir.Facts.{Fits-and, Fits-of_z, Fits-or, Fits-xor, sfits_lit, sfits_to_z, sfits_widen}
use Rattle.integer.specs.Modular.{wrapped}
use Rattle.integer.proofs.Modular.{wrapped-fits}
use Rattle.root.proofs.Squares.{root_below, root_is}
use Rattle.float.specs.Sqrt.{root_of_units, sqrt_of}
use Rattle.float.specs.Whole.{whole_of}
use Rattle.float.specs.declared.whole.Rounding.{Rounding}
use Rattle.float.specs.declared.whole.Rounding.TheVariants.{TowardZero, HalfAway, Down, Up}
use Rattle.float.proofs.Sizes.{whole-fits}
use Rattle.operator.specs.Arithmetic.{arithmetic, divisible, real, whole}
use Rattle.operator.specs.Binary.{binary, bitwise, compared, connected, extremum, replaces, whole_bits}
use Rattle.operator.specs.Conversion.{converted, converted_float, converted_whole, value_or}
use Rattle.operator.specs.Outcome.{flag}
use Rattle.number.specs.Promotion.{first, promoted, second}
use Rattle.operator.specs.Unary.{absolute, magnitude, negated, square_root, unary, whole_square_root}
use Rattle.number.specs.Value.{is_zero}
use Rattle.number.specs.declared.Number.{Number}
use Rattle.number.specs.declared.Number.TheVariants.{Char, Int, Float}
use Rattle.operator.specs.Outcome.{Outcome}
use Rattle.std.specs.Prelude.{Ok, Err}
use Rattle.operator.specs.declared.ArithmeticError.TheVariants.{DivisionByZero, OutOfRange}
use Rattle.operator.specs.declared.operators.Arithmetic.{Arithmetic}
use Rattle.operator.specs.declared.operators.Arithmetic.TheVariants.{Plus, Minus, Times, DividedBy, Modulus}
use Rattle.operator.specs.declared.operators.Binary.{Binary}
use Rattle.operator.specs.declared.operators.Binary.TheVariants.{Arithmetic as Calculates, Comparison, Logical, Bitwise}
use Rattle.operator.specs.declared.operators.Binary.TheVariants.{Extremum as Chooses}
use Rattle.operator.specs.declared.operators.Connective.{Connective}
use Rattle.operator.specs.declared.operators.Connective.TheVariants.{And, Or, Xor}
use Rattle.operator.specs.declared.operators.Conversion.{Conversion}
use Rattle.operator.specs.declared.operators.Conversion.TheVariants.{ToChar, ToInt, ToFloat, Round, Floor, Ceil}
use Rattle.operator.specs.declared.operators.Extremum.{Extremum}
use Rattle.operator.specs.declared.operators.Unary.{Unary}
use Rattle.operator.specs.declared.operators.Unary.TheVariants.{Increment, Decrement, UnaryMinus, LogicalNot, BitwiseNot, Convert, Abs, Sq}
use Rattle.operator.specs.declared.operators.Unary.TheVariants.{Sqrt}
use Rattle.number.specs.declared.promotion.Pair.{Pair}
use Rattle.number.specs.declared.promotion.Pair.TheVariants.{Chars, Ints, Floats}
use Rattle.number.proofs.Encoding.{Fits}

-- the value, where there is one
abbrev pub Answers : Outcome → Type 0
Answers (Ok a) = Fits a
Answers (Err DivisionByZero) = Unit {0}
Answers (Err OutOfRange) = Unit {0}

abbrev BothFit : Pair → Type 0
BothFit (Chars x y) = SFits w8 x × SFits w8 y
BothFit (Ints x y) = SFits w16 x × SFits w16 y
BothFit (Floats x y) = T (fits binary32 x) × T (fits binary32 y)

flag-answers : (b : Bool) → Answers (flag b)
flag-answers true = sfits_lit tt
flag-answers false = sfits_lit tt

widened : {x : ℤ} → SFits w8 x → SFits w16 x
widened f = sfits_widen tt f

pub promoted-fit : (a b : Number) → Fits a → Fits b → BothFit (promoted a b)
promoted-fit (Char x) (Char y) f g = (f, g)
promoted-fit (Char x) (Int y) f g = (widened f, g)
promoted-fit (Char x) (Float y) f g = (of_int-fits binary32 x, g)
promoted-fit (Int x) (Char y) f g = (f, widened g)
promoted-fit (Int x) (Int y) f g = (f, g)
promoted-fit (Int x) (Float y) f g = (of_int-fits binary32 x, g)
promoted-fit (Float x) (Char y) f g = (f, of_int-fits binary32 y)
promoted-fit (Float x) (Int y) f g = (f, of_int-fits binary32 y)
promoted-fit (Float x) (Float y) f g = (f, g)

-- ---- whole numbers of the width w, k the type
bits_fit : (w : Width) (o : Connective) (x y : ℤ) → SFits w x → SFits w y → SFits w (whole_bits w o x y)
unfolding whole_bits
bits_fit w And x y f g = sfits_to_z (Fits-and (of_z w y) (Fits-of_z f))
bits_fit w Or x y f g = sfits_to_z (Fits-or (Fits-of_z f) (Fits-of_z g))
bits_fit w Xor x y f g = sfits_to_z (Fits-xor (Fits-of_z f) (Fits-of_z g))

module _ (w : Width) (k : ℤ → Number) (is : (z : ℤ) → SFits w z → Fits (k z)) where
  pub divisible-answers : (y z : ℤ) → Answers (divisible y (Ok (k (wrapped w z))))
  divisible-answers (pos zero) z = tt
  divisible-answers (pos (suc n)) z = is _ (wrapped-fits w z)
  divisible-answers (negsuc n) z = is _ (wrapped-fits w z)

  whole-answers : (o : Arithmetic) (x y : ℤ) → Answers (whole w k o x y)
  unfolding whole
  whole-answers Plus x y = is _ (wrapped-fits w _)
  whole-answers Minus x y = is _ (wrapped-fits w _)
  whole-answers Times x y = is _ (wrapped-fits w _)
  whole-answers DividedBy x y = divisible-answers y _
  whole-answers Modulus x y = divisible-answers y _

  root-answers : (x : ℤ) → SFits w x → Answers (whole_square_root k x)
  root-answers (pos n) f =
      is _ (record {
        sfits = root_below (2 ^ hbits w) (root_is n)
            (lt_of_lt_of_le f.sfits (le-mul_of_pos_right (2 ^ hbits w) (pow_pos (hbits w))));
      })
  root-answers (negsuc n) f = tt

  cut-answers : (r : Rounding) (max : ℕ) (x : Binary32) → max < 2 ^ hbits w → Answers (value_or k (whole_of r max x))
  cut-answers r max x h = go (whole_of r max x) refl
    where
      go : (o : Option ℤ) → whole_of r max x ≡ o → Answers (value_or k o)
      go (Some z) e = is z (whole-fits w r max x h (sym e))
      go None e = tt

-- ---- FLOATs
real-answers : (o : Arithmetic) (x y : Binary32) → Answers (real o x y)
unfolding real
real-answers Plus x y = add-fits binary32 x y
real-answers Minus x y = sub-fits binary32 x y
real-answers Times x y = mul-fits binary32 x y
real-answers DividedBy x y = div-fits binary32 x y
real-answers Modulus x y = tt

magnitude-fits : (x : Binary32) → T (fits binary32 x) → T (fits binary32 (magnitude x))
unfolding magnitude fits
magnitude-fits nan f = tt
magnitude-fits (inf s) f = tt
magnitude-fits (fin s zero e) f = f
magnitude-fits (fin s (suc m) e) f = f

root-fits : (a : ℕ) → T (fits binary32 (root_of_units a))
unfolding root_of_units
root-fits a = round-fits binary32 false _ _

sqrt-fits : (x : Binary32) → T (fits binary32 x) → T (fits binary32 (sqrt_of x))
unfolding sqrt_of
sqrt-fits nan f = nan-fits binary32
sqrt-fits (inf true) f = nan-fits binary32
sqrt-fits (inf false) f = inf-fits binary32 false
sqrt-fits (fin s zero e) f = f
sqrt-fits (fin true (suc m) e) f = nan-fits binary32
sqrt-fits (fin false (suc m) e) f = root-fits (suc m * up e * 2 ^ 149 / down e)

-- ---- two operands
arithmetic-answers : (o : Arithmetic) (p : Pair) → Answers (arithmetic o p)
arithmetic-answers o (Chars x y) = whole-answers w8 Char (λ z f. f) o x y
arithmetic-answers o (Ints x y) = whole-answers w16 Int (λ z f. f) o x y
arithmetic-answers o (Floats x y) = real-answers o x y

bitwise-answers : (o : Connective) (p : Pair) → BothFit p → Answers (bitwise o p)
bitwise-answers o (Chars x y) f = bits_fit w8 o x y f.0 f.1
bitwise-answers o (Ints x y) f = bits_fit w16 o x y f.0 f.1
bitwise-answers o (Floats x y) f = tt

first_fits : (p : Pair) → BothFit p → Fits (first p)
first_fits (Chars x y) f = f.0
first_fits (Ints x y) f = f.0
first_fits (Floats x y) f = f.0

second_fits : (p : Pair) → BothFit p → Fits (second p)
second_fits (Chars x y) f = f.1
second_fits (Ints x y) f = f.1
second_fits (Floats x y) f = f.1

pub extremum-fits : (o : Extremum) (p : Pair) → BothFit p → Fits (extremum o p)
extremum-fits o p f = go (replaces o p)
  where
    go : (b : Bool) → Fits (cond b (second p) (first p))
    go true = second_fits p f
    go false = first_fits p f

pub binary-answers : (o : Binary) (a b : Number) → Fits a → Fits b → Answers (binary o a b)
unfolding binary
binary-answers (Calculates o) a b f g = arithmetic-answers o (promoted a b)
binary-answers (Comparison o) a b f g = flag-answers (compared o (promoted a b))
binary-answers (Logical o) a b f g = flag-answers (connected o (not (is_zero a)) (not (is_zero b)))
binary-answers (Bitwise o) a b f g = bitwise-answers o (promoted a b) (promoted-fit a b f g)
binary-answers (Chooses o) a b f g = extremum-fits o (promoted a b) (promoted-fit a b f g)

-- ---- one operand
whole-converts : (o : Conversion) (x : ℤ) → SFits w16 x → Answers (converted_whole o x)
unfolding converted_whole
whole-converts ToChar x f = sfits_to_z {n = of_z w16 x % 256} (record { fits = omega arith })
whole-converts ToInt x f = f
whole-converts ToFloat x f = of_int-fits binary32 x
whole-converts Round x f = f
whole-converts Floor x f = f
whole-converts Ceil x f = f

float-converts : (o : Conversion) (x : Binary32) → T (fits binary32 x) → Answers (converted_float o x)
unfolding converted_float
float-converts ToChar x f = cut-answers w8 Char (λ z f. f) TowardZero 127 x (omega arith)
float-converts ToInt x f = cut-answers w16 Int (λ z f. f) TowardZero 32767 x (omega arith)
float-converts ToFloat x f = f
float-converts Round x f = cut-answers w16 Int (λ z f. f) HalfAway 32767 x (omega arith)
float-converts Floor x f = cut-answers w16 Int (λ z f. f) Down 32767 x (omega arith)
float-converts Ceil x f = cut-answers w16 Int (λ z f. f) Up 32767 x (omega arith)

converts : (o : Conversion) (a : Number) → Fits a → Answers (converted o a)
converts o (Char x) f = whole-converts o x (widened f)
converts o (Int x) f = whole-converts o x f
converts o (Float x) f = float-converts o x f

negated_fits : (a : Number) → Fits a → Fits (negated a)
negated_fits (Char x) f = wrapped-fits w8 (neg_ℤ x)
negated_fits (Int x) f = wrapped-fits w16 (neg_ℤ x)
negated_fits (Float x) f = neg-fits binary32 x f

absolute-fits : (a : Number) → Fits a → Fits (absolute a)
absolute-fits (Char x) f = wrapped-fits w8 (pos (nat_abs x))
absolute-fits (Int x) f = wrapped-fits w16 (pos (nat_abs x))
absolute-fits (Float x) f = magnitude-fits x f

square-root-answers : (a : Number) → Fits a → Answers (square_root a)
square-root-answers (Char x) f = root-answers w8 Char (λ z f. f) x f
square-root-answers (Int x) f = root-answers w16 Int (λ z f. f) x f
square-root-answers (Float x) f = sqrt-fits x f

pub unary-answers : (o : Unary) (a : Number) → Fits a → Answers (unary o a)
unfolding unary
unary-answers Increment a f = binary-answers (Calculates Plus) a (Char (pos 1)) f (sfits_lit tt)
unary-answers Decrement a f = binary-answers (Calculates Minus) a (Char (pos 1)) f (sfits_lit tt)
unary-answers UnaryMinus a f = negated_fits a f
unary-answers LogicalNot a f = flag-answers (is_zero a)
unary-answers BitwiseNot a f = binary-answers (Bitwise Xor) a (Char (negsuc 0)) f (sfits_lit tt)
unary-answers (Convert o) a f = converts o a f
unary-answers Abs a f = absolute-fits a f
unary-answers Sq a f = binary-answers (Calculates Times) a a f f
unary-answers Sqrt a f = square-root-answers a f
