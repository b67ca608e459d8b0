-- How large the number of hundredths can be that PRINT shows: ten digits before the point. Assumes nothing.
use Rattle.std.proofs.Common.{◌≡◌, ℕ, ◌+◌, ◌*◌, ◌<◌, ◌≤◌, Bool, true, false, not, ◌&&◌, eqb, ltb, refl, div-lt_iff_lt-mul, arith, ltb-false}
use lib.Ieee.{Float, nan, inf, fin, down, up}
use lib.Ieee.Fits.{down_pos}
use Rattle.float.specs.Print.{printed_fraction, printed_of}
use Rattle.float.specs.Whole.{half_away}
use Rattle.float.specs.declared.print.Printed.TheVariants.{Hundredths}

at_most : (n d : ℕ) → 0 < d → n ≤ 4294967040 * d → half_away (100 * n) d ≤ 429496704000
at_most n d h l = under ((div-lt_iff_lt-mul {k = 2 * d} {x = 2 * (100 * n) + d} {y = 429496704001} (omega arith)).1 (omega arith))
  where
    under : half_away (100 * n) d < 429496704001 → half_away (100 * n) d ≤ 429496704000
    under z = omega arith

fraction-bound : (below b : Bool) (n d h : ℕ) → 0 < d → Hundredths b h ≡ printed_fraction below n d → h ≤ 429496704000
fraction-bound below b n d h p e = by (ltb (4294967040 * d) n) refl
  where
    by : (t : Bool) → ltb (4294967040 * d) n ≡ t → h ≤ 429496704000
    by true u = let clash : ◌≡◌ {A = ℕ} 0 1 = cc in omega arith
    by false u = let same : h ≡ half_away (100 * n) d = cc in omega (arith, at_most n d p (ltb-false (4294967040 * d) n u))

pub hundredths-bound : (x : Float) {b : Bool} {h : ℕ} → Hundredths b h ≡ printed_of x → h ≤ 429496704000
unfolding printed_of
hundredths-bound nan e = let clash : ◌≡◌ {A = ℕ} 0 1 = cc in omega arith
hundredths-bound (inf s) e = let clash : ◌≡◌ {A = ℕ} 0 1 = cc in omega arith
hundredths-bound (fin s m k) {b} {h} e = fraction-bound (s && not (eqb m 0)) b (m * up k) (down k) h (down_pos k) e
