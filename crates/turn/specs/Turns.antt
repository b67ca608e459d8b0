-- A turn in code: what carrying out a step needs, what it prints, and the buffers that a turn or a round leaves.
use Rattle.std.specs.Prelude.{ℕ, ◌+◌, ◌-◌, ◌≤◌, ◌≡◌, cond, List, [], length}
use Rattle.buffer.specs.Buffer.{overwrite}
use Rattle.machine.specs.Area.{kernel_bytes, kernel_of}
use Rattle.machine.specs.Limits.{id_limit, stack_size}
use Rattle.machine.specs.Operations.{turns_due}
use Rattle.machine.specs.State.{is_running, local_of}
use Rattle.machine.specs.Turn.{Turned}
use Rattle.machine.specs.declared.Process.{Process}
use Rattle.process.specs.Stepping.{Stepping, stack_of}
use Rattle.request.specs.Answers.{Lies}
use Rattle.stack.specs.Steps.{about, placed}
use Rattle.stack.specs.declared.Action.{Action}
use Rattle.stack.specs.declared.Action.TheVariants.{Push, Print, Assign, Stop, Open, Close, Write, Read}
use Rattle.stack.specs.declared.Action.TheVariants.{ReadString, Fork, Await}
use Rattle.stack.specs.declared.Step.{Step}
use Rattle.disc.specs.Directory.{Readable}

-- ---- what carrying out a step needs
-- by what it does: room for what is pushed (FORK's ID is an INT of two bytes and its type), a byte to assign, the
-- state that a wait stays in
abbrev pub Bounds : Action → Process → Step → Type 0
Bounds Push p d = d.kept + d.len ≤ stack_size
Bounds Print p d = Unit {0}
Bounds (Assign name kind) p d = 1 ≤ d.len
Bounds Stop p d = Unit {0}
Bounds (Open size) p d = Unit {0}
Bounds Close p d = Unit {0}
Bounds Write p d = Unit {0}
Bounds (Read kind) p d = Unit {0}
Bounds ReadString p d = Unit {0}
Bounds Fork p d = d.kept + 3 ≤ stack_size
Bounds (Await id) p d = placed (stack_of p) (d.pc - 1) d.loopstart ≡ local_of p

pub record Carries (disc area : List ℕ) (slot : ℕ) (p : Process) (d : Step) : Type 0 where
  pub stepping : Stepping area slot p d
  pub readable : Readable disc
  pub file : Lies disc p.file
  pub next : (kernel_of area).next ≤ id_limit
  pub bounds : Bounds d.action p d

-- ---- what a step prints
abbrev pub printed : Action → List ℕ → List ℕ
printed Push bytes = []
printed Print bytes = bytes
printed (Assign name kind) bytes = []
printed Stop bytes = []
printed (Open size) bytes = []
printed Close bytes = []
printed Write bytes = []
printed (Read kind) bytes = []
printed ReadString bytes = []
printed Fork bytes = []
printed (Await id) bytes = []

abbrev pub printed_by : Step → List ℕ
printed_by d = printed d.action (about d)

-- ---- what a turn or a round leaves: how many bytes it prints, and the three buffers
pub record TurnLeft : Type 0 where
  pub count : ℕ
  pub disc : List ℕ
  pub area : List ℕ
  pub out : List ℕ

abbrev pub turn_left : ℕ → (disc area out : List ℕ) → TurnLeft
turn_left count disc area out = record { count = count; disc = disc; area = area; out = out }

-- Document 01: "the rest of the output is untouched"
abbrev pub turn_left_by : Turned → List ℕ → TurnLeft
turn_left_by t out = turn_left (length t.out) t.disc (kernel_bytes t.kernel) (overwrite out 0 t.out)

-- ---- a share of a round
-- Document 02, Q-9: "that many turns in a row while it stays running"; none of a slot that does not run
abbrev pub due : Process → ℕ
due p = cond (is_running p) (turns_due p) 0
