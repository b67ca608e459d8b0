-- A run in which all that the law about new files supposes holds, so that the law is not empty: between OPEN and
-- READSTRING the process is suspended, its share is set, a turn of it is refused, another starts and has its turn in a
-- round, and the process is resumed.
use Rattle.std.specs.Prelude.{◌≡◌, List, [], ◌∷◌, ◌++◌, map, negsuc, drop, get_or, take}
use Rattle.machine.specs.Answer.{Call, command, erase, files as listing, other, round, run, share, turn}
use Rattle.machine.specs.NewFile.{Executes, NoneInterferes, OpensNew, ReadsEmpty}
use Rattle.machine.specs.Operations.{resume, suspend}
use Rattle.machine.specs.Refusals.{Passes}
use Rattle.machine.specs.Trace.{Event, Invocation, event, events}
use Rattle.literal_rows.specs.Calls.{formatted, room}
use Rattle.literal_rows.specs.NewFiles.{files}
use Rattle.literal_rows.specs.Run.{log}

abbrev lent : Call → Invocation
lent c = record { call = c; out = room }

abbrev pub calls : List Invocation
calls =
    map lent
    (files
    ++ (other (erase log) ∷ run (112 ∷ []) ∷ turn 0 0 ∷ turn 0 0 ∷ turn 0 0 ∷
    command suspend 1 ∷ share 1 5 ∷ turn 0 0 ∷ run (112 ∷ []) ∷ round 0 ∷ command resume 1 ∷ turn 0 0 ∷ []))

-- its events: OPEN is the seventh, READSTRING the fourteenth; the round has one turn
unfoldable pub trace : List Event
trace = events calls formatted

-- what lies past the last: nothing done
abbrev pub none : Event
none = event (other listing) formatted (record { number = negsuc 0; disc = []; area = []; out = [] }) []

abbrev pub opening : Event
opening = get_or trace 6 none

abbrev pub between : List Event
between = take 6 (drop 7 trace)

abbrev pub reading : Event
reading = get_or (drop 7 trace) 6 none

unfoldable pub NewFileExample : Type 0
NewFileExample =
    Passes formatted.disc formatted.area
    × (trace ≡ take 6 trace ++ (opening ∷ (between ++ (reading ∷ drop 7 (drop 7 trace)))))
    × OpensNew 1 0 opening
    × NoneInterferes 1 between
    × Executes 1 0 59 reading
    × ReadsEmpty 0 opening reading
