-- What the definitions of MAP and CONSTRAIN come to on whole numbers.
use Rattle.std.specs.Prelude.{◌≡◌, ℤ, pos, ◌-ℤ◌, ◌≤ℤ◌, ◌<ℤ◌}
use Rattle.number.specs.declared.Number.TheVariants.{Int}
use Rattle.scaling.specs.Constrain.{constrained}
use Rattle.scaling.specs.Map.{exact, map_exact}

-- MAP, before the result is reduced, takes the line through (b, d) and (c, e): both ends go exactly there
unfoldable pub MapsEnds : Type 0
MapsEnds = (b c d e : ℤ) → (c -ℤ b ≡ pos 0 → ⊥) → (map_exact b b c d e ≡ d) × (map_exact c b c d e ≡ e)

-- CONSTRAIN of three INTs x, a, b with a no greater than b: x itself between them, and else the bound that it passes
unfoldable pub ConstrainsBetween : Type 0
ConstrainsBetween = (x a b : ℤ) → a ≤ℤ b → let z = exact (constrained (Int x) (Int a) (Int b)) in
    (a ≤ℤ z) × (z ≤ℤ b) × (a ≤ℤ x → x ≤ℤ b → z ≡ x) × (x <ℤ a → z ≡ a) × (b <ℤ x → z ≡ b)
