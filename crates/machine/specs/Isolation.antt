-- Demand 3, in one piece: nothing but its own turns and commands shifts a process.
use Rattle.std.specs.Prelude.{ℕ, ◌≡◌, Bool, true, false, ◌&&◌, not, List, [], ◌∷◌, ◌++◌, None, Option, Some}
use Rattle.disc.specs.Directory.{contents, entry_at, lookup, run_of}
use Rattle.machine.specs.Answer.{Call, turn, round, command, share, run, other}
use Rattle.machine.specs.Observation.{Watched, inputs, not_refused, observations, place_in, single_run, watch}
use Rattle.machine.specs.Single.{fresh}
use Rattle.machine.specs.Stack.{top_string}
use Rattle.machine.specs.State.{local_of}
use Rattle.machine.specs.Suppositions.{Undisturbed, process_in}
use Rattle.machine.specs.Trace.{Event, Invocation, Storage, events}

-- ---- the start: "the moment run or another's FORK gives out its ID"
abbrev pub is_live_in : Option ℕ → Bool
is_live_in (Some s) = true
is_live_in None = false

-- not live before, live after
unfoldable pub gives_out : ℕ → Event → Bool
gives_out i e = not (is_live_in (place_in e.before i)) && is_live_in (place_in e.after i)

-- the name that is started from: run's, or the string on the stack of the process that does FORK
abbrev pub start_name : Call → Storage → List ℕ
start_name (turn slot clock) s = top_string (local_of (process_in s slot)).stack
start_name (round clock) s = []
start_name (command c id) s = []
start_name (share id turns) s = []
start_name (run name) s = name
start_name (other o) s = []

abbrev pub contents_at : Option ℕ → List ℕ → List ℕ
contents_at (Some i) disc = contents disc (run_of (entry_at disc i))
contents_at None disc = []

-- what the file of that name holds
abbrev pub file_named : List ℕ → List ℕ → List ℕ
file_named disc name = contents_at (lookup disc name) disc

-- "its program bytes, which are the named file's at the moment" of the start; rest is what follows it, up to any event
-- of the run
pub record Started (i : ℕ) (prog : List ℕ) (trace rest : List Event) : Type 0 where
  pub earlier : List Event
  pub start : Event
  pub later : List Event
  pub splits : trace ≡ earlier ++ (start ∷ (rest ++ later))
  pub gives : gives_out i start ≡ true
  pub program : file_named start.before.disc (start_name start.call start.before) ≡ prog

-- ---- the claim
-- what is observed is what the single process shows, fed the same; also which inputs are refused, and by which number
abbrev pub AsSingle : List ℕ → List Watched → Type 0
AsSingle prog l = observations l ≡ single_run prog fresh (inputs l)

-- Buffers, calls, IDs, slots, names and neighbours of the two runs may differ. Where the process is fed the same, what
-- is observed of it is alike in both and as of the single process; the last two parts say it of all inputs, refused
-- ones included.
unfoldable pub Isolation : Type 0
Isolation =
    (s₁ s₂ : Storage) (calls₁ calls₂ : List Invocation) (i₁ i₂ : ℕ) (prog : List ℕ) (rest₁ rest₂ : List Event)
    → Started i₁ prog (events calls₁ s₁) rest₁
    → Started i₂ prog (events calls₂ s₂) rest₂
    → Undisturbed i₁ rest₁
    → Undisturbed i₂ rest₂
    → inputs (not_refused (watch i₁ rest₁)) ≡ inputs (not_refused (watch i₂ rest₂))
    → (observations (not_refused (watch i₁ rest₁)) ≡ observations (not_refused (watch i₂ rest₂)))
    × AsSingle prog (not_refused (watch i₁ rest₁)) × AsSingle prog (not_refused (watch i₂ rest₂))
    × AsSingle prog (watch i₁ rest₁) × AsSingle prog (watch i₂ rest₂)
