-- Rows: a program, the clock of each of its turns, and what is seen after them, of the single process and of the
-- kernel's turns. Or calls, and where a file goes.
use Rattle.std.specs.Prelude.{ℕ, ◌≡◌, cond, List, [], ◌∷◌, ◌++◌, length, replicate, None, Option, Some}
use Rattle.disc.specs.Directory.{entry_at, lookup}
use Rattle.disc.specs.Layout.{data_start, long_disc, short_disc}
use Rattle.disc.specs.Name.{padded}
use Rattle.disc.specs.declared.Entry.{Entry}
use Rattle.machine.specs.Answer.{Answer, Buffers, Call, other, store, answer, booted, format_answer}
use Rattle.machine.specs.Area.{kernel_of}
use Rattle.machine.specs.Limits.{area_length}
use Rattle.machine.specs.Single.{Single, Response, refused_by, did, fresh, single, tick}
use Rattle.machine.specs.Start.{started}
use Rattle.machine.specs.State.{is_running, local_of, process_at}
use Rattle.machine.specs.Turn.{Turned, turned}
use Rattle.machine.specs.declared.Process.{Process}

-- ---- turns one after another, each from a clock reading and a state to a state
-- all that they print and the state after the last, or that one was refused
pub data Progress (S : Type 0) : Type 0 where
  reached : (text : List ℕ) → S → Progress S
  stopped : Progress S

module _ {S : Type 0} where
  abbrev pub behind : List ℕ → Progress S → Progress S
  behind text (reached more s) = reached (text ++ more) s
  behind text stopped = stopped

  abbrev pub one_more : (S → Progress S) → Progress S → Progress S
  one_more step (reached text s) = behind text (step s)
  one_more step stopped = stopped

  unfoldable pub turns : (ℕ → S → Progress S) → Progress S → List ℕ → Progress S
  turns step p [] = p
  turns step p (clock ∷ clocks) = turns step (one_more (step clock) p) clocks

-- what is seen then: the stack, bottom first, the fault and what was printed
pub data Result : Type 0 where
  shows : (stack : List ℕ) (fault : ℕ) (text : List ℕ) → Result
  refused : Result

-- ---- of the single process
abbrev pub responded : Response → Progress Single
responded (refused_by n) = stopped
responded (did text s) = reached text s

abbrev pub seen_alone : Progress Single → Result
seen_alone (reached text s) = shows s.loc.stack s.fault text
seen_alone stopped = refused

abbrev pub alone : List ℕ → List ℕ → Result
alone program clocks =
    seen_alone (turns (λ clock s. responded (single program s (tick clock))) (reached [] fresh) clocks)

-- ---- of the kernel: started in slot 0, on a list of as many zeros as stand before the data and then the program. It
-- is no good disc; `turned` reads only the program's part of it.
abbrev pub loaded : List ℕ → Turned
loaded program =
    let file : Entry = record { name = padded (110 ∷ []); start = data_start; len = length program } in
    record { kernel = started (kernel_of booted) 0 file; disc = replicate data_start 0 ++ program; out = [] }

abbrev pub turn_of_first : ℕ → Turned → Progress Turned
turn_of_first clock t = let u = turned t.kernel 0 clock t.disc in
    cond (is_running (process_at t.kernel 0)) (reached u.out u) stopped

abbrev pub shown : Process → List ℕ → Result
shown p text = shows (local_of p).stack p.fault text

abbrev pub seen_in_kernel : Progress Turned → Result
seen_in_kernel (reached text t) = shown (process_at t.kernel 0) text
seen_in_kernel stopped = refused

abbrev pub in_kernel : List ℕ → List ℕ → Result
in_kernel program clocks = seen_in_kernel (turns turn_of_first (reached [] (loaded program)) clocks)

-- ---- calls one after another
abbrev pub buffers_of : Answer → Buffers
buffers_of a = record { disc = a.disc; area = a.area; out = a.out }

unfoldable pub after : List Call → Buffers → Buffers
after [] b = b
after (c ∷ cs) b = after cs (buffers_of (answer c b))

-- from a disc of that length
abbrev pub formatted : ℕ → Buffers
formatted disc = buffers_of
    (format_answer (record { disc = replicate disc 0; area = replicate area_length 0; out = [] }))

-- n bytes under a name of one letter
abbrev pub storing : ℕ → ℕ → Call
storing letter n = other (store (letter ∷ []) (replicate n 0))

-- ---- where a file goes
abbrev pub start_at : List ℕ → Option ℕ → Option ℕ
start_at disc (Some i) = Some (entry_at disc i).start
start_at disc None = None

-- the start of the file of that one-letter name
abbrev pub start_of : List ℕ → ℕ → Option ℕ
start_of disc letter = start_at disc (lookup disc (letter ∷ []))

-- on a disc of that length n bytes stored after these calls go to that start
abbrev pub goes_to : (disc : ℕ) → List Call → (n start : ℕ) → Type 0
goes_to disc calls n start = start_of (after (storing 110 n ∷ []) (after calls (formatted disc))).disc 110 ≡ Some start

-- ---- a row, and when it holds
pub data Row : Type 0 where
  -- a program, the clock of each turn, and what is seen after them
  runs_at : (program clocks : List ℕ) → Result → Row
  -- n turns of the kernel alone: to the single process "fault 10 never comes"
  runs_in_kernel : (program : List ℕ) (n : ℕ) → Result → Row
  -- calls on formatted buffers, once with a short disc and once with a long one; n bytes stored after them go to that
  -- start
  stores : (calls : List Call) (n start : ℕ) → Row

-- n turns of a program that does not look at the clock
abbrev pub runs : List ℕ → ℕ → Result → Row
runs program n seen = runs_at program (replicate n 0) seen

abbrev pub RowHolds : Row → Type 0
RowHolds (runs_at program clocks seen) = (alone program clocks ≡ seen) × (in_kernel program clocks ≡ seen)
RowHolds (runs_in_kernel program n seen) = in_kernel program (replicate n 0) ≡ seen
RowHolds (stores calls n start) = goes_to short_disc calls n start × goes_to long_disc calls n start

abbrev pub Every : {R : Type 0} → (R → Type 0) → List R → Type 0
Every holds [] = Unit
Every holds (row ∷ rows) = holds row × Every holds rows
