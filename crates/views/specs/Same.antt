-- Document 02, Q-13: "from good buffers of the same entries, file bytes and work area (starts aside) and the same
-- demand 3 calls, programs print the same on both until either refuses a place or size."
use Rattle.std.specs.Prelude.{Ok, Err, Result}
use Rattle.std.specs.Prelude.{None, Option, Some}
use Rattle.std.specs.Prelude.{ℕ, ◌≡◌, Bool, true, false, cond, ◌&&◌, ◌||◌, not, List, [], ◌∷◌, map, eqb, length}
use Rattle.buffer.specs.Lists.{index}
use Rattle.place.specs.declared.Run.{Run}
use Rattle.disc.specs.Directory.{contents, files as entries, lookup, run_of}
use Rattle.disc.specs.declared.Entry.{Entry}
use Rattle.store.specs.File.{admission}
use Rattle.store.specs.declared.Refusal.{Refusal}
use Rattle.store.specs.declared.Refusal.TheVariants.{WrongLength, BadDisc, BadArea, ShortOutput, BadName, BadSize}
use Rattle.store.specs.declared.Refusal.TheVariants.{NameExists, DirectoryFull, NoRun, NoSuchFile, FileInUse, NoSlot}
use Rattle.store.specs.declared.Refusal.TheVariants.{NoId, NoProcess, SameState, NotRunning, BadShare}
use Rattle.machine.specs.Answer.{Call, Other, turn, round, command, share, run, other, store, retrieve, erase, files}
use Rattle.machine.specs.Answer.{free_space, list}
use Rattle.machine.specs.Area.{kernel_of}
use Rattle.machine.specs.Beyond.{file_run, new_file_size}
use Rattle.machine.specs.Effect.{Effect, goes, assigns, stops, faults, asks, Request, opens, closes, writes, reads}
use Rattle.machine.specs.Effect.{reads_string, forks}
use Rattle.machine.specs.Effect.{awaits}
use Rattle.machine.specs.Observation.{slot_in}
use Rattle.machine.specs.Refusals.{Passes}
use Rattle.machine.specs.State.{is_live}
use Rattle.machine.specs.Suppositions.{is_done_by}
use Rattle.machine.specs.Trace.{Event, Invocation, Storage, events}
use Rattle.machine.specs.Turn.{effect_at}
use Rattle.machine.specs.declared.Kernel.{Kernel}
use Rattle.machine.specs.declared.OpenFile.{OpenFile}
use Rattle.machine.specs.declared.Process.{Process}

-- ---- what is left of two buffers, starts aside
-- a file without its place
pub record Shown : Type 0 where
  pub name : List ℕ
  pub len : ℕ
  pub bytes : List ℕ

abbrev pub shown : List ℕ → Entry → Shown
shown disc e = record { name = e.name; len = e.len; bytes = contents disc (run_of e) }

abbrev pub is_at_run : Run → Entry → Bool
is_at_run r e = eqb e.start r.start && eqb e.len r.len

-- the place in the directory of the file that a record names: a start stands for it
abbrev pub whose : List ℕ → Run → ℕ
whose disc r = slot_in (index (is_at_run r) (entries disc))

abbrev pub code_aside : List ℕ → Process → Run
code_aside disc p = record { start = cond (is_live p) (whose disc p.code) 0; len = p.code.len }

abbrev pub file_aside : List ℕ → Process → OpenFile
file_aside disc p = record {
  start = cond (is_live p && not (eqb p.file.len 0)) (whose disc (file_run p.file)) 0;
  len = p.file.len;
  offset = p.file.offset;
}

unfoldable pub aside : List ℕ → Process → Process
aside disc p =
    record {
      name = p.name;
      id = p.id;
      state = p.state;
      fault = p.fault;
      code = code_aside disc p;
      pc = p.pc;
      loopstart = p.loopstart;
      file = file_aside disc p;
      sp = p.sp;
      share = p.share;
      stack = p.stack;
    }

-- the kernel's state, starts aside
abbrev pub aside_kernel : List ℕ → Kernel → Kernel
aside_kernel disc k =
    record { variables = k.variables; next = k.next; zeros = k.zeros; processes = map (aside disc) k.processes }

abbrev pub shown_files : List ℕ → List Shown
shown_files disc = map (shown disc) (entries disc)

pub record View : Type 0 where
  pub files : List Shown
  pub kernel : Kernel

abbrev pub view_at : Kernel → List ℕ → View
view_at k disc = record { files = shown_files disc; kernel = aside_kernel disc k }

abbrev pub view_of : Storage → View
view_of s = view_at (kernel_of s.area) s.disc

-- ---- "refuses a place or size": store's 6 and 9, and OPEN's new file by these
abbrev pub is_of_room : Refusal → Bool
is_of_room WrongLength = false
is_of_room BadDisc = false
is_of_room BadArea = false
is_of_room ShortOutput = false
is_of_room BadName = false
is_of_room BadSize = true
is_of_room NameExists = false
is_of_room DirectoryFull = false
is_of_room NoRun = true
is_of_room NoSuchFile = false
is_of_room FileInUse = false
is_of_room NoSlot = false
is_of_room NoId = false
is_of_room NoProcess = false
is_of_room SameState = false
is_of_room NotRunning = false
is_of_room BadShare = false

abbrev pub lacks_room : Result ℕ Refusal → Bool
lacks_room (Ok s) = false
lacks_room (Err r) = is_of_room r

abbrev pub new_lacks : Option ℕ → List ℕ → List ℕ → Bool
new_lacks None disc name = true
new_lacks (Some n) disc name = lacks_room (admission disc name n)

abbrev pub open_lacks : Option ℕ → Option ℕ → List ℕ → List ℕ → Bool
open_lacks (Some i) size disc name = false
open_lacks None size disc name = new_lacks size disc name

abbrev pub request_lacks : Request → List ℕ → Bool
request_lacks (opens name size l) disc = open_lacks (lookup disc name) (new_file_size disc size) disc name
request_lacks (closes l) disc = false
request_lacks (writes bytes l) disc = false
request_lacks (reads kind l) disc = false
request_lacks (reads_string l) disc = false
request_lacks (forks name l) disc = false
request_lacks (awaits id stay go) disc = false

abbrev pub effect_lacks : Effect → List ℕ → Bool
effect_lacks (goes l out) disc = false
effect_lacks (assigns name kind bytes l) disc = false
effect_lacks stops disc = false
effect_lacks (faults n) disc = false
effect_lacks (asks r) disc = request_lacks r disc

abbrev pub other_lacks : Other → List ℕ → Bool
other_lacks (store name bytes) disc = lacks_room (admission disc name (length bytes))
other_lacks (retrieve name) disc = false
other_lacks (erase name) disc = false
other_lacks files disc = false
other_lacks free_space disc = false
other_lacks list disc = false

abbrev pub refuses_room : Call → Storage → Bool
refuses_room (turn slot clock) s = effect_lacks (effect_at (kernel_of s.area) slot clock s.disc) s.disc
refuses_room (round clock) s = false
refuses_room (command c id) s = false
refuses_room (share id turns) s = false
refuses_room (run name) s = false
refuses_room (other o) s = other_lacks o s.disc

-- ---- the claim
-- the same call, done or refused alike, with the same text
pub record Prints (e f : Event) : Type 0 where
  pub call : e.call ≡ f.call
  pub done : is_done_by e.number ≡ is_done_by f.number
  pub text : e.text ≡ f.text

pub data SameUntil : List Event → List Event → Type 0 where
  over : SameUntil [] []
  either : (e f : Event) (es fs : List Event)
      → refuses_room e.call e.before || refuses_room f.call f.before ≡ true → SameUntil (e ∷ es) (f ∷ fs)
  both : (e f : Event) (es fs : List Event) → Prints e f → SameUntil es fs → SameUntil (e ∷ es) (f ∷ fs)

-- no edition is named: it holds of every two good storages that differ in places alone
unfoldable pub SameOnBoth : Type 0
SameOnBoth =
    (s₁ s₂ : Storage) (calls : List Invocation) → Passes s₁.disc s₁.area → Passes s₂.disc s₂.area
    → view_of s₁ ≡ view_of s₂ → SameUntil (events calls s₁) (events calls s₂)
