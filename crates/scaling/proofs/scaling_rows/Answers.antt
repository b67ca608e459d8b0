-- By computing.
use mathlib.Core.Path.{refl}
use lib.IntN.{one, pow}
use lib.Ieee.{add, div, lt, mul, of_bits, of_int, sub}
use Rattle.integer.specs.Modular.{wrapped}
use Rattle.operator.specs.Binary.{ordered, ordered_floats}
use Rattle.scaling.specs.Constrain.{constrained}
use Rattle.scaling.specs.Map.{map_exact, map_real, mapped}
use Rattle.scaling.specs.Power.{power, power_real}
use Rattle.scaling.specs.Rows.{Rows, ScalingRows, constrain_rows, map_rows, power_rows}
use Rattle.scaling.proofs.scaling_rows.Goals as goal

constrain-rows : Rows constrain_rows
unfolding constrained ordered ordered_floats of_bits of_int lt
constrain-rows = (refl, (refl, (refl, (refl, (refl, (refl, (refl, tt)))))))

map-rows : Rows map_rows
unfolding mapped map_exact map_real wrapped of_bits of_int add sub mul div
map-rows = (refl, (refl, (refl, (refl, (refl, (refl, (refl, (refl, tt))))))))

power-rows : Rows power_rows
unfolding power pow one power_real wrapped of_bits of_int mul
power-rows = (refl, (refl, (refl, (refl, (refl, (refl, (refl, (refl, (refl, tt)))))))))

pub returns : goal.returns
unfolding ScalingRows
returns c = (constrain-rows, map-rows, power-rows)
