-- The example's runs meet what demand 3 supposes: by computing them. What is observed is then alike, by the theorem.
use Prim.Native.Nat.{ℕ, suc}
use mathlib.Core.Path.{◌≡◌, refl, sym, ap, ◌∙◌}
use mathlib.Core.Bool.{true}
use mathlib.Core.List.{List, [], ◌∷◌, ◌++◌, append-nil}
use lib.Dec.{ltb}
use lib.ListN.{drop, get_or, length, take}
use lib.Seq.{split_at}
use lib.Count.{count_trailing_zeros}
use lib.IntN.{negsuc, pos}
use lib.Ieee.{of_bits, of_fields}
use borrow.Author.Tests.{ltb-true}
use Rattle.buffer.specs.Lists.{all, any, flat, index, keep, pairs, same, tab}
use Rattle.decimal.specs.Decimal.{last_digits}
use Rattle.float.specs.Print.{printed_of}
use Rattle.float.specs.Whole.{whole_of}
use Rattle.integer.specs.Modular.{wrapped}
use Rattle.operator.specs.Arithmetic.{whole}
use Rattle.operator.specs.Binary.{binary, whole_bits}
use Rattle.operator.specs.Conversion.{converted_float}
use Rattle.operator.specs.Instruction.{lookup as lookup_operator, operator_of, includes}
use Rattle.number.specs.Text.{text_of}
use Rattle.operator.specs.Unary.{unary}
use Rattle.number.specs.Value.{number_of}
use Rattle.place.specs.Place.{apart, begins, fits, free_from, greatest, least, place}
use Rattle.disc.specs.Directory.{beside as beside_entry, contents, entry_at, good_disc, good_entry, good_files, is_disc_length}
use Rattle.disc.specs.Directory.{lookup}
use Rattle.disc.specs.Name.{good_field, good_name, trimmed}
use Rattle.store.specs.Answer.{checked, store_answer}
use Rattle.store.specs.File.{admission, entered, erased, place_of, read_at, written_at}
use Rattle.variable.specs.Assign.{assigned_cells, added, assigned, place_for, placing}
use Rattle.variable.specs.Good.{beside as beside_variable, good_size, good_variable, good_variables}
use Rattle.variable.specs.Table.{freed, owned}
use Rattle.variable.specs.Bytes.{variables_of}
use Rattle.machine.specs.Answer.{answer, files, good_area, other, other_answer}
use Rattle.machine.specs.Area.{kernel_bytes, kernel_of}
use Rattle.machine.specs.Beyond.{answered}
use Rattle.machine.specs.Effect.{operates, settle}
use Rattle.isolation_example.specs.Example.{Example, alone, beside, empty, fed, hours, printed, rest_alone, rest_beside}
use Rattle.machine.specs.Exec.{exec, performs}
use Rattle.machine.specs.GoodArea.{good_file, good_header, good_kernel, good_live, good_process, good_registers, is_program, other_id}
use Rattle.machine.specs.Instruction.{find, instruction_of}
use Rattle.machine.specs.Isolation.{Isolation, Started, file_named, gives_out, start_name}
use Rattle.machine.specs.Suppositions.{Undisturbed, lacks_space, turn_disturbs, write_lands}
use Rattle.machine.specs.Observation.{place_in, Observation, declined, inputs, not_refused, observations, watch}
use Rattle.machine.specs.Operations.{commanded, in_order, in_use, share_of_turns, shared, turn_if_running}
use Rattle.machine.specs.Single.{single}
use Rattle.machine.specs.Stack.{pop, pop_number, pop_string, well_formed}
use Rattle.machine.specs.Start.{starting}
use Rattle.machine.specs.Ended.{ended}
use Rattle.machine.specs.State.{ended_slot, slot_of}
use Rattle.machine.specs.Trace.{Event, Invocation, event, events, last_storage, share_events, total, turn_events}
use Rattle.machine.specs.Turn.{carried_out, turned}
use Rattle.machine.proofs.Traces.Isolated.{isolated}

-- ---- what is computed of a run: the n-th event starts the process i
none : Event
none = event (other files) empty (record { number = negsuc 0; disc = []; area = []; out = [] }) []

record Computed (i n : ℕ) (calls : List Invocation) (rest : List Event) : Type 0 where
  rest-is : rest ≡ drop (suc n) (events calls empty)
  inside : ltb n (length (events calls empty)) ≡ true
  gives : gives_out i (get_or (events calls empty) n none) ≡ true
  program : file_named (get_or (events calls empty) n none).before.disc
      (start_name (get_or (events calls empty) n none).call (get_or (events calls empty) n none).before) ≡ hours
  undisturbed : Undisturbed i rest
  inputs_are : inputs (not_refused (watch i rest)) ≡ fed

started : (i n : ℕ) (calls : List Invocation) (rest : List Event) → Computed i n calls rest → Started i hours (events calls empty) rest
started i n calls rest c =
    let es : List Event = events calls empty in
    record {
      earlier = take n es;
      start = get_or es n none;
      later = [];
      splits = split_at es n none (ltb-true n (length es) c.inside)
          ∙ ap (λ (l : List Event). take n es ++ (get_or es n none ∷ l)) (sym c.rest-is ∙ sym (append-nil rest));
      gives = c.gives;
      program = c.program;
    }

runs : Computed 1 1 alone rest_alone × Computed 5 21 beside rest_beside × (length (watch 1 rest_alone) ≡ 11)
    × (get_or (observations (not_refused (watch 1 rest_alone))) 7 (declined (pos 0)) ≡ printed)
unfolding contents none rest_alone rest_beside place_in gives_out lacks_space
    turn_disturbs write_lands events turn_events share_events last_storage
    total watch answer other_answer store_answer checked is_disc_length lookup index entry_at tab good_disc good_files good_entry good_field
    good_name beside_entry all pairs apart begins fits free_from greatest least place place_of admission entered erased written_at read_at
    good_area good_kernel good_header good_process good_live good_registers good_file is_program other_id good_variables good_variable
    good_size
    beside_variable kernel_of kernel_bytes variables_of flat in_use any keep ended turned carried_out answered owned freed assigned
    place_for placing added assigned_cells exec performs find instruction_of operator_of lookup_operator includes operates settle pop
    pop_number pop_string well_formed trimmed same unary binary whole wrapped whole_bits converted_float number_of text_of printed_of
    whole_of last_digits of_bits of_fields count_trailing_zeros commanded shared turn_if_running share_of_turns in_order single starting
    ended_slot
    slot_of
runs = (
  record { rest-is = refl; inside = refl; gives = refl; program = refl; undisturbed = refl; inputs_are = refl },
  record { rest-is = refl; inside = refl; gives = refl; program = refl; undisturbed = refl; inputs_are = refl },
  refl,
  refl,
)

-- so the two are alike in all that is observed, by the theorem
alike : observations (not_refused (watch 1 rest_alone)) ≡ observations (not_refused (watch 5 rest_beside))
unfolding Isolation
alike =
    (isolated empty empty alone beside 1 5 hours rest_alone rest_beside (started 1 1 alone rest_alone runs.0)
    (started 5 21 beside rest_beside runs.1) runs.0.undisturbed runs.1.undisturbed
    (runs.0.inputs_are ∙ sym runs.1.inputs_are)).0

pub example-holds : Example
unfolding Example
example-holds = (
  started 1 1 alone rest_alone runs.0,
  started 5 21 beside rest_beside runs.1,
  runs.0.undisturbed,
  runs.1.undisturbed,
  runs.0.inputs_are,
  runs.1.inputs_are,
  alike,
  runs.2,
  ap (λ (l : List Observation). get_or l 7 (declined (pos 0))) (sym alike) ∙ runs.3,
)
