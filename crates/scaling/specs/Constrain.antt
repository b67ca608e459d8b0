-- CONSTRAIN.
use Rattle.number.specs.Promotion.{promoted}
use Rattle.number.specs.declared.Number.{Number}
use Rattle.operator.specs.Binary.{extremum}
use Rattle.operator.specs.declared.operators.Extremum.TheVariants.{Min, Max}

-- Document 02, Q-3: "CONSTRAIN of x, a, b is our MIN of (our MAX of x, a) and b." Each converts its own two operands.
unfoldable pub constrained : Number → Number → Number → Number
constrained x a b = extremum Min (promoted (extremum Max (promoted x a)) b)
