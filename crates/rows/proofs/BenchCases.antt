-- The bench cases, the misreadings and the rows of DELAYUNTIL and of scaling hold: by computing the definitions.
use mathlib.Core.Path.{refl}
use lib.Count.{count_trailing_zeros}
use lib.Ieee.{of_bits, of_fields}
use lib.IntN.{one, pow}
use Rattle.buffer.specs.Lists.{all, any, flat, index, keep, pairs, same, tab}
use Rattle.decimal.specs.Decimal.{last_digits}
use Rattle.float.specs.Print.{printed_of}
use Rattle.float.specs.Whole.{whole_of}
use Rattle.integer.specs.Modular.{wrapped}
use Rattle.operator.specs.Arithmetic.{whole}
use Rattle.operator.specs.Binary.{binary, ordered, whole_bits}
use Rattle.operator.specs.Conversion.{converted_float}
use Rattle.operator.specs.Instruction.{lookup as lookup_operator, operator_of, includes}
use Rattle.scaling.specs.Constrain.{constrained}
use Rattle.scaling.specs.Map.{map_exact, mapped}
use Rattle.scaling.specs.Power.{power}
use Rattle.number.specs.Text.{text_of}
use Rattle.operator.specs.Unary.{unary}
use Rattle.number.specs.Value.{number_of}
use Rattle.place.specs.Place.{apart, begins, fits, free_from, greatest, least, place}
use Rattle.disc.specs.Directory.{beside, contents, entry_at, good_disc, good_entry, good_files, is_disc_length, lookup}
use Rattle.disc.specs.Name.{good_field, good_name, trimmed}
use Rattle.store.specs.Answer.{checked, store_answer}
use Rattle.store.specs.File.{admission, entered, erased, place_of, written_at}
use Rattle.variable.specs.Assign.{assigned_cells, added, assigned, place_for, placing}
use Rattle.variable.specs.Bytes.{variables_of}
use Rattle.variable.specs.Good.{good_variables}
use Rattle.variable.specs.Table.{freed, owned}
use Rattle.machine.specs.Answer.{answer, format_answer, good_area, other_answer}
use Rattle.machine.specs.Area.{kernel_of}
use Rattle.machine.specs.Effect.{operates, settle}
use Rattle.machine.specs.Exec.{exec}
use Rattle.machine.specs.GoodArea.{good_header, good_kernel, good_process, other_id}
use Rattle.machine.specs.Instruction.{instruction_of}
use Rattle.machine.specs.Operations.{in_use}
use Rattle.machine.specs.Single.{single}
use Rattle.machine.specs.Stack.{pop, well_formed}
use Rattle.machine.specs.Ended.{ended}
use Rattle.machine.specs.Turn.{turned}
use Rattle.rows.specs.Bench.{Every, RowHolds, after, turns}
use Rattle.rows.specs.Cases.{Bench, Delays, Misreadings, Scalings, cases, delays, misreadings, scalings, waits}

rows-hold : Every RowHolds cases × Every RowHolds misreadings × Every RowHolds waits × Every RowHolds delays × Every RowHolds scalings
unfolding contents turns after single exec instruction_of operator_of
    lookup_operator
    includes operates settle pop well_formed trimmed same unary binary
    constrained ordered mapped map_exact power pow one
    whole wrapped whole_bits converted_float number_of text_of printed_of whole_of last_digits of_bits of_fields count_trailing_zeros answer
    other_answer
    format_answer
    store_answer checked is_disc_length lookup index entry_at tab flat good_disc good_files good_entry good_field good_name beside all pairs
    apart begins fits free_from greatest least place place_of admission entered erased written_at good_area good_kernel good_header
    good_process other_id
    good_variables kernel_of variables_of in_use any
    keep ended turned owned freed assigned place_for placing added assigned_cells
rows-hold = (
  (
    (refl, refl),
    (
      (refl, refl),
      (
        (refl, refl),
        (
          (refl, refl),
          (
            (refl, refl),
            (
              (refl, refl),
              (
                (refl, refl),
                (
                  (refl, refl),
                  ((refl, refl), ((refl, refl), ((refl, refl), ((refl, refl), ((refl, refl), ((refl, refl), ((refl, refl), tt))))))),
                ),
              ),
            ),
          ),
        ),
      ),
    ),
  ),
  (
    (refl, refl),
    (
      (refl, refl),
      ((refl, refl), ((refl, refl), ((refl, refl), (refl, ((refl, refl), ((refl, refl), ((refl, refl), tt))))))),
    ),
  ),
  ((refl, refl), ((refl, refl), ((refl, refl), tt))),
  (
    (refl, refl),
    (
      (refl, refl),
      (
        (refl, refl),
        (
          (refl, refl),
          (
            (refl, refl),
            (
              (refl, refl),
              ((refl, refl), ((refl, refl), ((refl, refl), ((refl, refl), ((refl, refl), ((refl, refl), ((refl, refl), tt))))))),
            ),
          ),
        ),
      ),
    ),
  ),
  (
    (refl, refl),
    (
      (refl, refl),
      (
        (refl, refl),
        (
          (refl, refl),
          (
            (refl, refl),
            ((refl, refl), ((refl, refl), ((refl, refl), ((refl, refl), ((refl, refl), ((refl, refl), tt)))))),
          ),
        ),
      ),
    ),
  ),
)

pub bench-holds : Bench
unfolding Bench
bench-holds = rows-hold.0

pub misreadings-hold : Misreadings
unfolding Misreadings
misreadings-hold = rows-hold.1

pub delays-hold : Delays
unfolding Delays
delays-hold = (rows-hold.2, rows-hold.3)

pub scalings-hold : Scalings
unfolding Scalings
scalings-hold = rows-hold.4
