-- Two runs in which all that demand 3 supposes holds, so that the claim is not empty: one process alone, started by
-- run, and the same program under another name, ID and slot, started by another's FORK within a round, beside
-- neighbours with shares of their own that use its variable's name, print, fork and write a file.
use Rattle.std.specs.Prelude.{ℕ, ◌≡◌, List, [], ◌∷◌, pos, drop, get_or, length, replicate}
use Rattle.disc.specs.Layout.{short_disc}
use Rattle.machine.specs.Answer.{Call, turn, round, command, share, run, other, store, booted}
use Rattle.machine.specs.Isolation.{Started}
use Rattle.machine.specs.Limits.{round_room}
use Rattle.machine.specs.Suppositions.{Undisturbed}
use Rattle.machine.specs.Observation.{Observation, declined, seen, inputs, not_refused, observations, watch}
use Rattle.machine.specs.Operations.{suspend, resume, kill}
use Rattle.machine.specs.Single.{Input, tick, given}
use Rattle.machine.specs.Trace.{Event, Invocation, Storage, events}

-- INT 7, SET a, MILLIS, GET a, PLUS, PRINTLN, STOP
abbrev pub hours : List ℕ
hours = 2 ∷ 0 ∷ 7 ∷ 5 ∷ 97 ∷ 45 ∷ 6 ∷ 97 ∷ 9 ∷ 52 ∷ 67 ∷ []

-- LOOP, MILLIS, SET a, GET a, PRINT, ENDLOOP
abbrev pub lamp : List ℕ
lamp = 65 ∷ 45 ∷ 5 ∷ 97 ∷ 6 ∷ 97 ∷ 51 ∷ 66 ∷ []

-- STRING "l", FORK, STRING "l", INT 1, OPEN, CHAR 45, WRITE: a child, then a write over the lamp's program
abbrev pub meddler : List ℕ
meddler = 3 ∷ 108 ∷ 0 ∷ 68 ∷ 3 ∷ 108 ∷ 0 ∷ 2 ∷ 0 ∷ 1 ∷ 53 ∷ 1 ∷ 45 ∷ 55 ∷ []

-- STRING "c", FORK, STOP
abbrev pub starter : List ℕ
starter = 3 ∷ 99 ∷ 0 ∷ 68 ∷ 67 ∷ []

abbrev pub empty : Storage
empty = record { disc = replicate short_disc 0; area = booted }

abbrev pub lend : Call → Invocation
lend c = record { call = c; out = replicate round_room 0 }

abbrev pub storing : List ℕ → List ℕ → Invocation
storing name bytes = lend (other (store name bytes))

-- ID 1 in slot 0, turn by turn, whatever its share; a second suspend and a kill after the end are refused
abbrev pub alone : List Invocation
alone =
    storing (104 ∷ []) hours ∷ lend (run (104 ∷ [])) ∷ lend (share 1 8) ∷
    lend (turn 0 1) ∷ lend (command suspend 1) ∷ lend (command suspend 1) ∷ lend (command resume 1) ∷
    lend (turn 0 2) ∷ lend (turn 0 2) ∷ lend (turn 0 2) ∷ lend (turn 0 2) ∷ lend (turn 0 3) ∷ lend (turn 0 3) ∷
    lend (command kill 1) ∷ []

-- ID 5 in slot 4, by rounds, beside neighbours with shares of 3 and 2. In the first round the meddler forks ID 4, in
-- the second the starter ID 5, which has its first turn in that round. Its share is set while it is paused; then a
-- round gives it four turns, and the next two, up to its end.
abbrev pub beside : List Invocation
beside =
    storing (108 ∷ []) lamp ∷ storing (109 ∷ []) meddler ∷ storing (99 ∷ []) hours ∷ storing (115 ∷ []) starter ∷
    lend (run (108 ∷ [])) ∷ lend (run (109 ∷ [])) ∷ lend (run (115 ∷ [])) ∷ lend (share 1 3) ∷ lend (share 2 2) ∷
    lend (round 50) ∷ lend (round 1) ∷ lend (command suspend 5) ∷ lend (share 5 4) ∷ lend (round 99) ∷
    lend (command resume 5) ∷ lend (round 2) ∷ lend (round 3) ∷ []

-- what follows the start
unfoldable pub rest_alone : List Event
rest_alone = drop 2 (events alone empty)

unfoldable pub rest_beside : List Event
rest_beside = drop 22 (events beside empty)

-- what both are fed and do not refuse
abbrev pub fed : List Input
fed = tick 1 ∷ given suspend ∷ given resume ∷ tick 2 ∷ tick 2 ∷ tick 2 ∷ tick 2 ∷ tick 3 ∷ tick 3 ∷ []

-- the first tick 3: PRINTLN of 7 and the clock of a tick 2; nothing is on the stack, a is 7, PC is at STOP
abbrev pub printed : Observation
printed =
    seen
    (record {
      sp = 0;
      stack = replicate 32 0;
      variables = record { name = 97; kind = 2; bytes = 0 ∷ 7 ∷ [] } ∷ [];
      pc = 10;
      loopstart = 65535;
      state = 114;
      fault = 0;
      text = 57 ∷ 10 ∷ [];
      number = pos 2;
    })

unfoldable pub Example : Type 0
Example =
    Started 1 hours (events alone empty) rest_alone
    × Started 5 hours (events beside empty) rest_beside
    × Undisturbed 1 rest_alone
    × Undisturbed 5 rest_beside
    × (inputs (not_refused (watch 1 rest_alone)) ≡ fed)
    × (inputs (not_refused (watch 5 rest_beside)) ≡ fed)
    × (observations (not_refused (watch 1 rest_alone)) ≡ observations (not_refused (watch 5 rest_beside)))
    × (length (watch 1 rest_alone) ≡ 11)
    × (get_or (observations (not_refused (watch 5 rest_beside))) 7 (declined (pos 0)) ≡ printed)
