-- Every row holds, by computing the definitions on its bytes.
use mathlib.Core.Path.{refl}
use lib.Count.{count_trailing_zeros}
use lib.Ieee.{of_bits, of_fields}
use Rattle.buffer.specs.Lists.{all, any, flat, index, keep, pairs, same, tab}
use Rattle.decimal.specs.Decimal.{last_digits}
use Rattle.float.specs.Print.{printed_of}
use Rattle.float.specs.Whole.{whole_of}
use Rattle.integer.specs.Modular.{wrapped}
use Rattle.operator.specs.Arithmetic.{whole}
use Rattle.operator.specs.Binary.{binary, whole_bits}
use Rattle.operator.specs.Conversion.{converted_float}
use Rattle.operator.specs.Instruction.{lookup as lookup_operator, operator_of, includes}
use Rattle.number.specs.Text.{text_of}
use Rattle.operator.specs.Unary.{unary}
use Rattle.number.specs.Value.{number_of}
use Rattle.place.specs.Place.{apart, begins, fits, free_from, greatest, least, place}
use Rattle.disc.specs.Directory.{beside as beside_entry, contents, entry_at, good_disc, good_entry, good_files, is_disc_length}
use Rattle.disc.specs.Directory.{lookup}
use Rattle.disc.specs.Name.{good_field, good_name, trimmed}
use Rattle.store.specs.Answer.{checked, file_line, files_answer, store_answer}
use Rattle.store.specs.File.{admission, entered, erased, place_of, read_at, written_at}
use Rattle.variable.specs.Assign.{added, assigned, place_for, placing}
use Rattle.variable.specs.Good.{beside as beside_variable, good_size, good_variable, good_variables}
use Rattle.variable.specs.Table.{freed, owned}
use Rattle.variable.specs.Bytes.{variables_of}
use Rattle.machine.specs.Answer.{answer, format_answer, good_area, other_answer}
use Rattle.machine.specs.Area.{kernel_bytes, kernel_of}
use Rattle.machine.specs.Beyond.{answered}
use Rattle.machine.specs.Effect.{operates, settle}
use Rattle.machine.specs.Exec.{exec, performs}
use Rattle.machine.specs.GoodArea.{good_file, good_header, good_kernel, good_live, good_process, good_registers, is_program, other_id}
use Rattle.machine.specs.Instruction.{find, instruction_of}
use Rattle.machine.specs.Operations.{commanded, in_use, list_text, process_line}
use Rattle.machine.specs.Stack.{pop, pop_number, pop_string, well_formed}
use Rattle.machine.specs.Start.{starting}
use Rattle.machine.specs.Ended.{ended}
use Rattle.machine.specs.State.{ended_slot, slot_of}
use Rattle.machine.specs.Turn.{carried_out, turned}
use Rattle.rows.specs.Bench.{turns}
use Rattle.literal_rows.specs.Calls.{laid, left_by, numbers}
use Rattle.literal_rows.specs.Goodness.{AreaRows, DiscRows, LongDiscRows}
use Rattle.literal_rows.specs.NewFiles.{NewFilesOnBytes}
use Rattle.literal_rows.specs.Programs.{BenchOnBytes, WaitsOnBytes}
use Rattle.literal_rows.specs.Run.{Listings, RunOnBytes}

rows : RunOnBytes × Listings × AreaRows × DiscRows × LongDiscRows × BenchOnBytes × WaitsOnBytes × NewFilesOnBytes
unfolding contents RunOnBytes Listings AreaRows DiscRows LongDiscRows BenchOnBytes
    WaitsOnBytes NewFilesOnBytes laid left_by numbers turns
    answer other_answer format_answer
    store_answer checked is_disc_length files_answer file_line lookup index entry_at tab good_disc good_files good_entry good_field
    good_name
    beside_entry all pairs apart begins fits free_from greatest least place place_of admission
    entered erased written_at read_at good_area good_kernel good_header good_process good_live
    good_registers good_file is_program other_id good_variables good_variable good_size beside_variable kernel_of kernel_bytes variables_of
    flat any
    keep ended turned carried_out answered owned freed assigned place_for placing added exec performs find instruction_of operator_of
    lookup_operator includes operates settle pop pop_number pop_string well_formed trimmed same unary binary whole wrapped whole_bits
    converted_float number_of text_of printed_of whole_of last_digits of_bits of_fields count_trailing_zeros commanded starting ended_slot
    slot_of list_text
    process_line in_use
rows = (
  (refl, refl, refl),
  (refl, refl, refl, refl),
  (refl, refl),
  (refl, refl),
  (refl, refl),
  (refl, (refl, (refl, (refl, (refl, (refl, (refl, (refl, (refl, (refl, (refl, (refl, (refl, tt))))))))))))),
  (refl, (refl, (refl, tt))),
  (refl, refl),
)

pub run_holds : RunOnBytes
run_holds = rows.0

pub listings-hold : Listings
listings-hold = rows.1

pub area-rows-hold : AreaRows
area-rows-hold = rows.2

pub disc-rows-hold : DiscRows
disc-rows-hold = rows.3

pub long-disc-rows-hold : LongDiscRows
long-disc-rows-hold = rows.4

pub bench-holds : BenchOnBytes
bench-holds = rows.5

pub waits-hold : WaitsOnBytes
waits-hold = rows.6

pub new-files-hold : NewFilesOnBytes
new-files-hold = rows.7
