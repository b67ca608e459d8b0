-- `sqrt_of x` is the binary32 value nearest to the root of x, and no tie occurs. Assumes nothing.
use Rattle.std.proofs.Common.{◌≡◌, ℕ, ◌+◌, ◌*◌, ◌/◌, ◌%◌, ◌^◌, ◌<◌, ◌≤◌, Bool, true, false, T, sym, refl, ap, ◌∙◌, subst, true≢false}
use Rattle.std.proofs.Common.{le_of_eq, lt_of_lt_of_le, lt_of_le_of_lt, mul-le-mul_right, mul_assoc, mul_comm, add-mul}
use Rattle.std.proofs.Common.{lt_of_mul-lt-mul_right, mul-lt-mul_of_pos_right, mul-pos, lt_of_not-le, mul_right_comm, not-le_of_lt}
use Rattle.std.proofs.Common.{mul_left_comm, arith, ltb→lt, pow_pos, pow-add}
use lib.Ieee.{Float, nan, inf, fin, binary32, fits, lt}
use lib.Ieee.Exact.{HasValue}
use lib.Ieee.Order.{transfer}
use lib.Ieee.Positive.{den, den_pos, first_pos, num, positive, positive-finite, positive_of_value, value_pos, value→cross}
use lib.Ieee.Scale.{finite}
use Rattle.root.specs.Root.{IsRoot, whole_root}
use Rattle.root.proofs.Squares.{root_is}
use Rattle.float.specs.Scale.{IsScaled}
use Rattle.float.specs.Sqrt.{CorrectlyRounded, IsNearestRoot, den_squared, not_negative, root_of_units, sqrt_of, sum_squared}
use Rattle.float.proofs.Patterns.{Parts, parts}
use Rattle.float.proofs.RootCases.{root-positive}
use Rattle.float.proofs.RoundedRoot.{half-24, radicand, root-fits, root-value}
use Rattle.float.proofs.Scaling.{scaled}
use Rattle.float.proofs.RootMiddles.{OnGrid, on-grid, units-above, units-below}

-- ---- from units of 1 / u to fractions: n / d is s / u for the sum, and nx / dx is x / u
module _ (n d s nx dx x u : ℕ) (hu : 0 < u) (hd : 0 < d) (hx : 0 < dx) (sum : n * u ≡ s * d) (operand : nx * u ≡ x * dx) where
  left : n * n * dx * (u * u) ≡ s * s * (d * d * dx)
  left = squares n u ∙ ap (λ (a : ℕ). a * a * dx) sum ∙ sym (squares' s d)
    where
      squares : (n u : ℕ) → n * n * dx * (u * u) ≡ n * u * (n * u) * dx
      squares n u = simp (mul_assoc, mul_comm, mul_left_comm)

      squares' : (s d : ℕ) → s * s * (d * d * dx) ≡ s * d * (s * d) * dx
      squares' s d = simp (mul_assoc, mul_comm, mul_left_comm)

  right : 4 * nx * (d * d) * (u * u) ≡ 4 * (x * u) * (d * d * dx)
  right = before 4 ∙ ap (λ (a : ℕ). 4 * (a * u) * (d * d)) operand ∙ after 4
    where
      before : (f : ℕ) → f * nx * (d * d) * (u * u) ≡ f * (nx * u * u) * (d * d)
      before f = simp (mul_assoc, mul_comm, mul_left_comm)

      after : (f : ℕ) → f * (x * dx * u) * (d * d) ≡ f * (x * u) * (d * d * dx)
      after f = simp (mul_assoc, mul_comm, mul_left_comm)

  fraction-under : s * s < 4 * (x * u) → n * n * dx < 4 * nx * (d * d)
  fraction-under h =
      lt_of_mul-lt-mul_right (u * u)
      (lt_of_le_of_lt (le_of_eq left) (lt_of_lt_of_le (mul-lt-mul_of_pos_right h (mul-pos (mul-pos hd hd) hx)) (le_of_eq (sym right))))

  fraction-over : 4 * (x * u) < s * s → 4 * nx * (d * d) < n * n * dx
  fraction-over h =
      lt_of_mul-lt-mul_right (u * u)
      (lt_of_le_of_lt (le_of_eq right) (lt_of_lt_of_le (mul-lt-mul_of_pos_right h (mul-pos (mul-pos hd hd) hx)) (le_of_eq (sym left))))

sum-fraction : (nr dr ny dy r y u : ℕ) → nr * u ≡ r * dr → ny * u ≡ y * dy → (nr * dy + ny * dr) * u ≡ (r + y) * (dr * dy)
sum-fraction nr dr ny dy r y u h k =
    add-mul (nr * dy) (ny * dr) u
    ∙ ap (λ (a : ℕ). a + ny * dr * u) (mul_right_comm nr dy u ∙ ap (λ (a : ℕ). a * dy) h ∙ mul_assoc r dr dy)
    ∙ ap (λ (a : ℕ). r * (dr * dy) + a) (mul_right_comm ny dr u ∙ ap (λ (a : ℕ). a * dr) k ∙ mul_assoc y dy dr
    ∙ ap (λ (a : ℕ). y * a) (mul_comm dy dr))
    ∙ sym (add-mul r y (dr * dy))

-- ---- values that are not negative
lt-cross : (y r : Float) → T (not_negative y) → T (not_negative r) → T (lt y r) → num y * den r < num r * den y
unfolding lt
lt-cross nan r n m l = absurd n
lt-cross (inf s) r n m l = absurd n
lt-cross (fin true a e) r n m l = absurd n
lt-cross (fin false a e) nan n m l = absurd m
lt-cross (fin false a e) (inf t) n m l = absurd m
lt-cross (fin false a e) (fin true b f) n m l = absurd m
lt-cross (fin false a e) (fin false b f) n m l = ltb→lt _ _ l

plus-sign : (y : Float) (s : Bool) (a c : ℕ) → T (not_negative y) → HasValue y s a c → HasValue y false a c
plus-sign nan s a c n v = absurd n
plus-sign (inf t) s a c n v = absurd n
plus-sign (fin true m e) s a c n v = absurd n
plus-sign (fin false m e) s a c n v = (refl, v.1)

not-negative : (r : Float) (a c : ℕ) → HasValue r false a c → T (not_negative r)
not-negative nan a c v = absurd v
not-negative (inf t) a c v = absurd v
not-negative (fin true m e) a c v = absurd (true≢false v.0)
not-negative (fin false m e) a c v = tt

not-negative-finite : (y : Float) → T (not_negative y) → T (finite y)
not-negative-finite nan n = absurd n
not-negative-finite (inf t) n = absurd n
not-negative-finite (fin t m e) n = tt

units_lt : (y r : Float) (a b u : ℕ) → 0 < u → HasValue y false a u → HasValue r false b u → num y * den r < num r * den y → a < b
units_lt y r a b u hu v w l =
    lt_of_not-le (λ (h : b ≤ a).
    not-le_of_lt l (transfer (num r) (num y) (den r) (den y) b a u u hu hu (value→cross r b u w) (value→cross y a u v)
    (mul-le-mul_right u h)))

-- ---- x is a units, a * 2 ^ 149 is m * 4 ^ g, q is the root of m, and r is c * (2 * 2 ^ g) units
module _ (x r : Float) (a m g q c : ℕ) (v : HasValue x false a (2 ^ 149)) (w : HasValue r false (c * (2 * 2 ^ g)) (2 ^ 149))
    (same : m * (2 ^ g * 2 ^ g) ≡ a * 2 ^ 149)
    (i : IsRoot m q) (even : m % 2 ≡ 0) (least : 281474976710656 ≤ m) (near : (q ≤ 2 * c) × (2 * c ≤ q + 1)) (from : 8388608 ≤ c) where
  module _ (y : Float) (b : ℕ) (n : T (not_negative y)) (z : HasValue y false b (2 ^ 149)) (grid : OnGrid b (2 ^ g)) where
    summed : (num r * den y + num y * den r) * 2 ^ 149 ≡ (c * (2 * 2 ^ g) + b) * (den r * den y)
    summed = sum-fraction (num r) (den r) (num y) (den y) (c * (2 * 2 ^ g)) b (2 ^ 149) (value→cross r (c * (2 * 2 ^ g)) (2 ^ 149) w)
        (value→cross y b (2 ^ 149) z)

    dens : 0 < den r * den y
    dens = mul-pos (den_pos r) (den_pos y)

    value-below : T (lt y r) → sum_squared r y * den x < 4 * num x * den_squared r y
    value-below l =
        fraction-under (num r * den y + num y * den r) (den r * den y) (c * (2 * 2 ^ g) + b) (num x) (den x) a (2 ^ 149) (pow_pos 149) dens
        (den_pos x) summed
        (value→cross x a (2 ^ 149) v)
        (subst (λ (e : ℕ). (c * (2 * 2 ^ g) + b) * (c * (2 * 2 ^ g) + b) < 4 * e) same
        (units-below m q c (2 ^ g) b (pow_pos g) i even near from least grid
        (units_lt y r b (c * (2 * 2 ^ g)) (2 ^ 149) (pow_pos 149) z w (lt-cross y r n (not-negative r (c * (2 * 2 ^ g)) (2 ^ 149) w) l))))

    value-above : T (lt r y) → 4 * num x * den_squared r y < sum_squared r y * den x
    value-above l =
        fraction-over (num r * den y + num y * den r) (den r * den y) (c * (2 * 2 ^ g) + b) (num x) (den x) a (2 ^ 149) (pow_pos 149) dens
        (den_pos x) summed
        (value→cross x a (2 ^ 149) v)
        (subst (λ (e : ℕ). 4 * e < (c * (2 * 2 ^ g) + b) * (c * (2 * 2 ^ g) + b)) same
        (units-above m q c (2 ^ g) b (pow_pos g) i even near from least grid
        (units_lt r y (c * (2 * 2 ^ g)) b (2 ^ 149) (pow_pos 149) w z (lt-cross r y (not-negative r (c * (2 * 2 ^ g)) (2 ^ 149) w) n l))))

  nearest : T (fits binary32 r) → IsNearestRoot x r
  nearest f = record {
    representable = f;
    above_zero = positive_of_value r (c * (2 * 2 ^ g)) (2 ^ 149) w
        (mul-pos {m = c} (omega arith) (mul-pos {m = 2} (omega arith) (pow_pos g)));
    middle-below =
        λ y h n l. let p = parts y h (not-negative-finite y n) in
        value-below y (p.1 * 2 ^ p.2) n (size y n p) (on-grid p.1 p.2 g p.3.short) l;
    middle-above =
        λ y h n l. let p = parts y h (not-negative-finite y n) in
        value-above y (p.1 * 2 ^ p.2) n (size y n p) (on-grid p.1 p.2 g p.3.short) l;
  }
    where
      size : (y : Float) → T (not_negative y) → (p : Parts y) → HasValue y false (p.1 * 2 ^ p.2) (2 ^ 149)
      size y n p = plus-sign y p.0 (p.1 * 2 ^ p.2) (2 ^ 149) n p.3.value

-- ---- Document 01: "SQRT of a FLOAT is correctly rounded".
module _ (x : Float) (t k : ℕ) (v : HasValue x false (t * 2 ^ k) (2 ^ 149)) where
  by-scale : (m g : ℕ) → IsScaled t (k + 149) m g → IsNearestRoot x (root_of_units (t * 2 ^ k))
  by-scale m g d =
      let q = whole_root m in
      let i = root_is m in
      nearest x (root_of_units (t * 2 ^ k)) (t * 2 ^ k) m g q ((q + 1) / 2) v
      (subst (λ (n : ℕ). HasValue (root_of_units (t * 2 ^ k)) false ((q + 1) / 2 * n) (2 ^ 149)) (pow-add 2 g 1
      ∙ mul_comm (2 ^ g) 2) (root-value t k m g q d i))
      (radicand t k m g q d i) i d.even d.least (omega arith, omega arith) (half-24 t k m g q d i).0 (root-fits t k m g q d i)

  by_units : 0 < t → t < 16777216 → k < 254 → IsNearestRoot x (sqrt_of x)
  by_units some short near =
      let s = scaled t (k + 149) (some, (short, (omega arith, omega arith))) in
      subst (IsNearestRoot x) (root-positive false (t * 2 ^ k) (mul-pos some (pow_pos k)) x v refl) (by-scale s.0 s.1 s.2)

positive-plus : (x : Float) → T (positive x) → T (not_negative x)
positive-plus nan p = absurd p
positive-plus (inf s) p = absurd p
positive-plus (fin true m e) p = absurd p
positive-plus (fin false m e) p = tt

pub correctly-rounded : CorrectlyRounded
correctly-rounded x f p =
    let d = parts x f (positive-finite x p) in
    let v = plus-sign x d.0 (d.1 * 2 ^ d.2) (2 ^ 149) (positive-plus x p) d.3.value in
    by_units x d.1 d.2 v (first_pos d.1 (2 ^ d.2) (value_pos x (d.1 * 2 ^ d.2) (2 ^ 149) p (pow_pos 149) v)) d.3.short
    d.3.near
