-- The rows: document 01's bench cases K1 to K12, its misreadings of the guide, DELAYUNTIL by document 02, Q-4, and the
-- pops of CONSTRAIN, MAP and POW by Q-3.
use Rattle.std.specs.Prelude.{ℕ, List, [], ◌∷◌, ◌++◌, replicate}
use Rattle.buffer.specs.Lists.{flat, tab}
use Rattle.machine.specs.Answer.{Call, other, erase}
use Rattle.rows.specs.Bench.{Every, Row, RowHolds, runs, runs_at, runs_in_kernel, shows, stores, storing}

abbrev pub letters : ℕ → List ℕ
letters n = replicate n 97

-- "files of 100, 100, 100, the second erased"
abbrev pub gap : List Call
gap = storing 97 100 ∷ storing 98 100 ∷ storing 99 100 ∷ other (erase (98 ∷ [])) ∷ []

-- Document 01, 'Bench cases': "Proved together, in one table with one statement (stack bottom first)"
abbrev pub cases : List Row
cases =
    -- K1 INT 1 44
    runs (2 ∷ 1 ∷ 44 ∷ []) 1 (shows (1 ∷ 44 ∷ 2 ∷ []) 0 []) ∷
    -- K2 INT 127 255, INCREMENT
    runs (2 ∷ 127 ∷ 255 ∷ 7 ∷ []) 2 (shows (128 ∷ 0 ∷ 2 ∷ []) 0 []) ∷
    -- K3 CHAR 128, ABS
    runs (1 ∷ 128 ∷ 37 ∷ []) 2 (shows (128 ∷ 1 ∷ []) 0 []) ∷
    -- K4 −7 DIVIDEDBY 2 in INT
    runs (2 ∷ 255 ∷ 249 ∷ 2 ∷ 0 ∷ 2 ∷ 12 ∷ []) 3 (shows (255 ∷ 253 ∷ 2 ∷ []) 0 []) ∷
    -- K5 its MODULUS
    runs (2 ∷ 255 ∷ 249 ∷ 2 ∷ 0 ∷ 2 ∷ 13 ∷ []) 3 (shows (255 ∷ 255 ∷ 2 ∷ []) 0 []) ∷
    -- K6 −32768 by −1
    runs (2 ∷ 128 ∷ 0 ∷ 2 ∷ 255 ∷ 255 ∷ 12 ∷ []) 3 (shows (128 ∷ 0 ∷ 2 ∷ []) 0 []) ∷
    -- K7 FLOAT 66 246 230 102 prints 123.45
    runs (4 ∷ 66 ∷ 246 ∷ 230 ∷ 102 ∷ 51 ∷ []) 2 (shows [] 0 (49 ∷ 50 ∷ 51 ∷ 46 ∷ 52 ∷ 53 ∷ [])) ∷
    -- K8 CHAR 1, WHILE 6 8
    runs (1 ∷ 1 ∷ 63 ∷ 6 ∷ 8 ∷ []) 2 (shows (18 ∷ []) 0 []) ∷
    -- K9 FLOAT 191 0 0 0, ROUND
    runs (4 ∷ 191 ∷ 0 ∷ 0 ∷ 0 ∷ 32 ∷ []) 2 (shows (255 ∷ 255 ∷ 2 ∷ []) 0 []) ∷
    -- K10 FLOAT 71 0 0 0, TOINT: fault 8; 70 255 254 0 gives 127 255 2
    runs (4 ∷ 71 ∷ 0 ∷ 0 ∷ 0 ∷ 30 ∷ []) 2 (shows [] 8 []) ∷
    runs (4 ∷ 70 ∷ 255 ∷ 254 ∷ 0 ∷ 30 ∷ []) 2 (shows (127 ∷ 255 ∷ 2 ∷ []) 0 []) ∷
    -- K11 29 letters and zero fill the stack; 30 fault 4
    runs (3 ∷ letters 29 ++ (0 ∷ [])) 1 (shows (letters 29 ++ (0 ∷ 30 ∷ 3 ∷ [])) 0 []) ∷
    runs (3 ∷ letters 30 ++ (0 ∷ [])) 1 (shows [] 4 []) ∷
    -- K12 files of 100, 100, 100, the second erased: 100 bytes go to 261, 101 to 461
    stores gap 100 261 ∷
    stores gap 101 461 ∷ []

-- Document 01, 'Bench cases', the program `down`, 29 turns
abbrev pub down : List ℕ
down = 2 ∷ 0 ∷ 3 ∷ 5 ∷ 110 ∷ 6 ∷ 110 ∷ 63 ∷ 2 ∷ 8 ∷ 6 ∷ 110 ∷ 52 ∷ 6 ∷ 110 ∷ 8 ∷ 5 ∷ 110 ∷ 64 ∷ 67 ∷ []

-- CHAR 7, SET under each of the names 0 to n − 1
abbrev pub assignments : ℕ → List ℕ
assignments n = flat (λ i. 1 ∷ 7 ∷ 5 ∷ i ∷ []) (tab (λ i. i) n)

-- Document 01, 'Misreadings of the guide'
abbrev pub misreadings : List Row
misreadings =
    -- "INCREMENT adds 1", so DECREMENT subtracts it
    runs (1 ∷ 5 ∷ 7 ∷ []) 2 (shows (6 ∷ 1 ∷ []) 0 []) ∷
    runs (1 ∷ 5 ∷ 8 ∷ []) 2 (shows (4 ∷ 1 ∷ []) 0 []) ∷
    -- "appendix C skips by the first byte": WHILE 1 2 on zero skips CHAR 9 and ENDWHILE
    runs (1 ∷ 0 ∷ 63 ∷ 1 ∷ 2 ∷ 1 ∷ 9 ∷ 64 ∷ 1 ∷ 7 ∷ []) 3 (shows (7 ∷ 1 ∷ []) 0 []) ∷
    -- "A.3.4 adds the condition length twice": ENDWHILE goes back to the condition
    runs down 29 (shows [] 0 (51 ∷ 10 ∷ 50 ∷ 10 ∷ 49 ∷ 10 ∷ [])) ∷
    -- "Testing for a full variable table before freeing the old value (6.8)": one of 25 is set again; "a 26th variable
    -- gives fault 10"
    runs (assignments 25 ++ (1 ∷ 9 ∷ 5 ∷ 0 ∷ 6 ∷ 0 ∷ [])) 53 (shows (9 ∷ 1 ∷ []) 0 []) ∷
    runs_in_kernel (assignments 26) 52 (shows [] 10 []) ∷
    -- "A jump measured from the instruction byte and not past its arguments": IF 2 on zero skips CHAR 9 and leaves what
    -- it looks at; ELSE 2 on a value not zero likewise
    runs (1 ∷ 0 ∷ 60 ∷ 2 ∷ 1 ∷ 9 ∷ 1 ∷ 7 ∷ []) 3 (shows (0 ∷ 1 ∷ 7 ∷ 1 ∷ []) 0 []) ∷
    runs (1 ∷ 1 ∷ 61 ∷ 2 ∷ 1 ∷ 9 ∷ 1 ∷ 7 ∷ []) 3 (shows (1 ∷ 1 ∷ 7 ∷ 1 ∷ []) 0 []) ∷
    -- "Appendix C gives BITWISENOT two operands; it pops one"
    runs (1 ∷ 4 ∷ 1 ∷ 5 ∷ 28 ∷ []) 3 (shows (4 ∷ 1 ∷ 250 ∷ 1 ∷ []) 0 []) ∷ []

-- a number, DELAYUNTIL and CHAR 7; three turns at one clock reading leave the number where DELAYUNTIL stays, and 7
-- where it goes on
abbrev pub delay : List ℕ → ℕ → List ℕ → Row
delay number clock stack = runs_at (number ++ (44 ∷ 1 ∷ 7 ∷ [])) (replicate 3 clock) (shows stack 0 [])

-- MILLIS, INT 500, PLUS, DELAYUNTIL, CHAR 7: three turns at 32,700, as the request has it, the others at these clocks
abbrev pub wait : List ℕ → List ℕ → Row
wait clocks stack =
    runs_at (45 ∷ 2 ∷ 1 ∷ 244 ∷ 9 ∷ 44 ∷ 1 ∷ 7 ∷ []) (replicate 3 32700 ++ clocks) (shows stack 0 [])

-- Document 02, Q-4: "reads the clock at 32,700 and adds 500 gets −32,336". It stays, last at 33,199, and goes on first
-- at 33,200.
abbrev pub waits : List Row
waits =
    wait (32700 ∷ 32700 ∷ []) (129 ∷ 176 ∷ 2 ∷ []) ∷
    wait (33199 ∷ 33199 ∷ []) (129 ∷ 176 ∷ 2 ∷ []) ∷
    wait (33199 ∷ 33200 ∷ 33200 ∷ []) (7 ∷ 1 ∷ []) ∷ []

-- Document 02, Q-4, the rule
abbrev pub delays : List Row
delays =
    -- "x minus the clock, modulo 65,536, is 1 to 32,767": −32,336 less the clock is 0, 1, 32,767, 32,768
    delay (2 ∷ 129 ∷ 176 ∷ []) 33200 (7 ∷ 1 ∷ []) ∷
    delay (2 ∷ 129 ∷ 176 ∷ []) 33199 (129 ∷ 176 ∷ 2 ∷ []) ∷
    delay (2 ∷ 129 ∷ 176 ∷ []) 433 (129 ∷ 176 ∷ 2 ∷ []) ∷
    delay (2 ∷ 129 ∷ 176 ∷ []) 432 (7 ∷ 1 ∷ []) ∷
    -- the clock's upper bits do not matter: 65,536 and 2^32 − 65,536 more
    delay (2 ∷ 129 ∷ 176 ∷ []) 98736 (7 ∷ 1 ∷ []) ∷
    delay (2 ∷ 129 ∷ 176 ∷ []) 4294934959 (129 ∷ 176 ∷ 2 ∷ []) ∷
    -- "CHAR is widened first": −1 is ahead of 65,534, not of 65,535, nor as 255 of 254
    delay (1 ∷ 255 ∷ []) 65534 (255 ∷ 1 ∷ []) ∷
    delay (1 ∷ 255 ∷ []) 65535 (7 ∷ 1 ∷ []) ∷
    delay (1 ∷ 255 ∷ []) 254 (7 ∷ 1 ∷ []) ∷
    -- "FLOAT becomes fault 6", its type byte alone too, which WHILE 0 0 pushes; a STRING stays 6, nothing there 5
    runs (4 ∷ 66 ∷ 200 ∷ 0 ∷ 0 ∷ 44 ∷ []) 2 (shows [] 6 []) ∷
    runs (1 ∷ 1 ∷ 63 ∷ 0 ∷ 0 ∷ 44 ∷ []) 3 (shows [] 6 []) ∷
    runs (3 ∷ 97 ∷ 0 ∷ 44 ∷ []) 2 (shows [] 6 []) ∷
    runs (44 ∷ []) 1 (shows [] 5 []) ∷ []

-- Document 02, Q-3: "Operands stand in appendix C's order, first pushed lowest"; each comes off with document 01's
-- faults before the next is looked at. What the three answer: crates/scaling/specs/Rows.antt.
abbrev pub scalings : List Row
scalings =
    -- CONSTRAIN of CHAR 9, CHAR 5, INT 1; MAP of 1, 0, 3, 10, 31; POW of 2, 5: in another order they give others, but
    -- for x and a changed about, and both ends of MAP's line
    runs (1 ∷ 9 ∷ 1 ∷ 5 ∷ 2 ∷ 0 ∷ 1 ∷ 38 ∷ []) 4 (shows (0 ∷ 1 ∷ 2 ∷ []) 0 []) ∷
    runs (1 ∷ 1 ∷ 1 ∷ 0 ∷ 1 ∷ 3 ∷ 1 ∷ 10 ∷ 1 ∷ 31 ∷ 39 ∷ []) 6 (shows (17 ∷ 1 ∷ []) 0 []) ∷
    runs (1 ∷ 2 ∷ 1 ∷ 5 ∷ 40 ∷ []) 3 (shows (32 ∷ 1 ∷ []) 0 []) ∷
    -- "a FLOAT y is fault 6", nothing below it or not; y = 16 is 8 only where x is there, and else 5
    runs (4 ∷ 0 ∷ 0 ∷ 0 ∷ 0 ∷ 40 ∷ []) 2 (shows [] 6 []) ∷
    runs (1 ∷ 2 ∷ 1 ∷ 16 ∷ 40 ∷ []) 3 (shows [] 8 []) ∷
    runs (1 ∷ 16 ∷ 40 ∷ []) 2 (shows [] 5 []) ∷
    -- "equal b and c give fault 7" once all five are popped: without a it is 5
    runs (1 ∷ 5 ∷ 1 ∷ 1 ∷ 1 ∷ 1 ∷ 1 ∷ 0 ∷ 1 ∷ 9 ∷ 39 ∷ []) 6 (shows [] 7 []) ∷
    runs (1 ∷ 1 ∷ 1 ∷ 1 ∷ 1 ∷ 0 ∷ 1 ∷ 9 ∷ 39 ∷ []) 5 (shows [] 5 []) ∷
    -- a STRING at b or a of CONSTRAIN is 6, at x too
    runs (3 ∷ 97 ∷ 0 ∷ 38 ∷ []) 2 (shows [] 6 []) ∷
    runs (3 ∷ 97 ∷ 0 ∷ 1 ∷ 1 ∷ 38 ∷ []) 3 (shows [] 6 []) ∷
    runs (3 ∷ 97 ∷ 0 ∷ 1 ∷ 1 ∷ 1 ∷ 1 ∷ 38 ∷ []) 4 (shows [] 6 []) ∷ []

-- every row holds of the definitions
unfoldable pub Bench : Type 0
Bench = Every RowHolds cases

unfoldable pub Misreadings : Type 0
Misreadings = Every RowHolds misreadings

unfoldable pub Delays : Type 0
Delays = Every RowHolds waits × Every RowHolds delays

unfoldable pub Scalings : Type 0
Scalings = Every RowHolds scalings
