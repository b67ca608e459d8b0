-- The rows of rounds with shares hold: by computing the definitions.
use mathlib.Core.Path.{refl}
use Rattle.disc.specs.Directory.{contents}
use Rattle.buffer.specs.Lists.{all, any, flat, index, keep, tab}
use Rattle.decimal.specs.Decimal.{last_digits}
use Rattle.integer.specs.Modular.{wrapped}
use Rattle.operator.specs.Arithmetic.{whole}
use Rattle.operator.specs.Binary.{binary}
use Rattle.operator.specs.Instruction.{lookup as lookup_operator, operator_of, includes}
use Rattle.number.specs.Text.{text_of}
use Rattle.operator.specs.Unary.{unary}
use Rattle.number.specs.Value.{number_of}
use Rattle.place.specs.Place.{apart, begins, fits, free_from, greatest, least, place}
use Rattle.variable.specs.Assign.{added, assigned, place_for, placing}
use Rattle.variable.specs.Bytes.{variables_of}
use Rattle.variable.specs.Table.{freed, owned}
use Rattle.machine.specs.Area.{kernel_of}
use Rattle.machine.specs.Effect.{operates, settle}
use Rattle.machine.specs.Exec.{exec}
use Rattle.machine.specs.Instruction.{instruction_of}
use Rattle.machine.specs.Stack.{pop, well_formed}
use Rattle.machine.specs.Ended.{ended}
use Rattle.machine.specs.Turn.{turned}
use Rattle.machine.specs.Operations.{in_order, share_of_turns, shared, turn_if_running}
use Rattle.machine.specs.State.{slot_of}
use Rattle.rows.specs.Bench.{Every}
use Rattle.rows.specs.ShareRows.{ShareRowHolds, Shares, loading, rounds, share_rows}

rows-hold : Every ShareRowHolds share_rows
unfolding contents loading rounds in_order share_of_turns shared slot_of turn_if_running exec instruction_of
    operator_of lookup_operator includes
    operates settle pop well_formed unary binary whole wrapped number_of text_of last_digits index tab flat all apart begins fits
    free_from greatest least place kernel_of variables_of any keep ended turned owned freed assigned place_for placing added
rows-hold = ((refl, refl), ((refl, refl), ((refl, refl), ((refl, refl), ((refl, refl), tt)))))

pub shares-hold : Shares
unfolding Shares
shares-hold = rows-hold
