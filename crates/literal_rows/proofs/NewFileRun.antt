-- The run meets what the law about new files supposes: by computing it. What READSTRING gives then is the law's.
use mathlib.Core.Path.{◌≡◌, refl, ap, ◌∙◌}
use mathlib.Core.Bool.{true}
use mathlib.Core.List.{List, ◌∷◌, ◌++◌}
use lib.Dec.{ltb}
use lib.ListN.{drop, length, take}
use lib.Seq.{split_at}
use borrow.Author.Tests.{ltb-true}
use Rattle.buffer.specs.Lists.{all, any, flat, index, keep, pairs, same, tab}
use Rattle.operator.specs.Instruction.{lookup as lookup_operator, operator_of, includes}
use Rattle.number.specs.Value.{number_of}
use Rattle.place.specs.Place.{apart, begins, fits, free_from, greatest, least, place}
use Rattle.disc.specs.Directory.{beside as beside_entry, contents, entry_at, good_disc, good_entry, good_files, is_disc_length}
use Rattle.disc.specs.Directory.{lookup}
use Rattle.disc.specs.Name.{good_field, good_name, trimmed}
use Rattle.store.specs.Answer.{checked, store_answer}
use Rattle.store.specs.File.{admission, entered, erased, place_of, written_at}
use Rattle.variable.specs.Good.{good_variables}
use Rattle.variable.specs.Table.{owned}
use Rattle.variable.specs.Bytes.{variables_of}
use Rattle.machine.specs.Answer.{answer, format_answer, good_area, other_answer}
use Rattle.machine.specs.Area.{kernel_bytes, kernel_of}
use Rattle.machine.specs.Beyond.{answered}
use Rattle.machine.specs.Effect.{settle}
use Rattle.machine.specs.Exec.{exec, performs}
use Rattle.machine.specs.GoodArea.{good_file, good_header, good_kernel, good_live, good_process, good_registers, is_program, other_id}
use Rattle.machine.specs.Instruction.{find, instruction_of}
use Rattle.machine.specs.Operations.{commanded, in_order, in_use, share_of_turns, shared, turn_if_running}
use Rattle.machine.specs.Stack.{pop, pop_number, pop_string, well_formed}
use Rattle.machine.specs.Start.{starting}
use Rattle.machine.specs.Ended.{ended}
use Rattle.machine.specs.State.{ended_slot, slot_of}
use Rattle.machine.specs.Turn.{carried_out, turned}
use Rattle.machine.specs.NewFile.{Executes, NoneInterferes, NewFileReadsEmpty, OpensNew}
use Rattle.machine.specs.Observation.{place_in}
use Rattle.machine.specs.Refusals.{Passes}
use Rattle.machine.specs.Suppositions.{write_lands}
use Rattle.machine.specs.Trace.{Event, events, last_storage, share_events, total, turn_events}
use Rattle.machine.proofs.NewFiles.Turns.{new-file-reads-empty}
use Rattle.literal_rows.specs.Calls.{formatted}
use Rattle.literal_rows.specs.NewFileExample.{NewFileExample, between, calls, none, opening, reading, trace}

computed : Passes formatted.disc formatted.area × (ltb 6 (length trace) ≡ true) × (ltb 6 (length (drop 7 trace)) ≡ true)
    × OpensNew 1 0 opening × NoneInterferes 1 between × Executes 1 0 59 reading
unfolding contents trace events turn_events share_events last_storage total
    place_in
    write_lands in_order share_of_turns turn_if_running answer
    other_answer format_answer store_answer checked is_disc_length lookup index entry_at tab good_disc good_files good_entry good_field
    good_name beside_entry all pairs apart begins fits free_from greatest least place place_of admission entered erased written_at
    good_area good_kernel good_header good_process good_live good_registers good_file is_program other_id good_variables kernel_of
    kernel_bytes
    variables_of flat any keep ended turned carried_out answered owned exec performs find instruction_of operator_of lookup_operator
    includes settle pop pop_number pop_string well_formed trimmed same number_of commanded shared starting ended_slot slot_of in_use
computed = (
  record { sizes = refl; disc-good = refl; area-good = refl },
  refl,
  refl,
  record { opens = record { clock = 0; call = refl; done = refl; own = refl; found = refl }; more = refl },
  refl,
  record { clock = 0; call = refl; done = refl; own = refl; found = refl },
)

splits : trace ≡ take 6 trace ++ (opening ∷ (between ++ (reading ∷ drop 7 (drop 7 trace))))
splits =
    split_at trace 6 none (ltb-true 6 (length trace) computed.1)
    ∙ ap (λ (l : List Event). take 6 trace ++ (opening ∷ l))
    (split_at (drop 7 trace) 6 none (ltb-true 6 (length (drop 7 trace)) computed.2))

pub example-holds : NewFileExample
unfolding NewFileExample NewFileReadsEmpty trace
example-holds = (
  computed.0,
  splits,
  computed.3,
  computed.4,
  computed.5,
  new-file-reads-empty formatted calls 1 0 (take 6 trace) opening between reading (drop 7 (drop 7 trace)) computed.0 splits
      computed.3 computed.4 computed.5,
)
