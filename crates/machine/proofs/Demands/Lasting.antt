-- What the world beyond answers ends the process, or leaves it running in its slot, with its share.
use Rattle.std.specs.Prelude.{Ok, Err, Result}
use Rattle.std.specs.Prelude.{None, Option, Some}
use Prim.Native.Nat.{ℕ, ◌+◌, ◌<◌}
use mathlib.Core.Path.{◌≡◌, refl, subst⁻¹}
use mathlib.Core.Bool.{Bool, true, false, cond}
use mathlib.Core.List.{List}
use lib.Dec.{eqb, leb}
use lib.ListN.{length, get_or, set, length-set}
use lib.Seq.{get_or-set_same}
use Rattle.buffer.specs.Lists.{any}
use Rattle.number.specs.declared.Number.{Number}
use Rattle.place.specs.Place.{run_from}
use Rattle.disc.specs.Directory.{lookup}
use Rattle.store.specs.File.{admission}
use Rattle.store.specs.declared.Refusal.{Refusal}
use Rattle.machine.specs.Beyond.{advanced, Answered, answered, breaks, carries_on, continues, created, created_at, forked, inside}
use Rattle.machine.specs.Beyond.{new_file_size}
use Rattle.machine.specs.Beyond.{is_awaited, opened, opened_at, push_id, pushed, received, unless_breaks, with_open_file}
use Rattle.machine.specs.Effect.{Request, opens, closes, writes, reads, reads_string, forks, awaits}
use Rattle.machine.specs.Ending.{RunsOn}
use Rattle.machine.specs.Limits.{stack_size}
use Rattle.machine.specs.Start.{Starting, starts, refuses, started_process, starting}
use Rattle.machine.specs.State.{Local, is_running, no_process, process_at, with_file, with_local, with_process}
use Rattle.machine.specs.declared.Kernel.{Kernel}
use Rattle.machine.specs.declared.OpenFile.{OpenFile}
use Rattle.machine.specs.declared.Process.{Process}
use Rattle.machine.proofs.Operations.FileAnswers.{number_read, text_ahead, text_read}

abbrev pub LeftRunning : Process → ℕ → Answered → Type 0
LeftRunning p slot (carries_on j after) = RunsOn p (process_at j slot)
LeftRunning p slot (breaks n) = Unit {0}

module _ (k : Kernel) (slot : ℕ) (running : is_running (process_at k slot) ≡ true) (low : slot < length k.processes) where
  abbrev p : Process
  p = process_at k slot

  still : (ps : List Process) (q : Process) → length ps ≡ length k.processes → RunsOn p q
      → RunsOn p (get_or (set ps slot q) slot no_process)
  still ps q e r = subst⁻¹ (RunsOn p) (get_or-set_same ps slot q no_process (subst⁻¹ (λ (n : ℕ). slot < n) e low)) r

  pub moved-running : (l : Local) → RunsOn p (process_at (with_process k slot (with_local p l)) slot)
  moved-running l = still k.processes (with_local p l) refl (record { running = running; share = refl })

  continued-running : (l : Local) (f : OpenFile) → RunsOn p (process_at (with_process k slot (with_file (with_local p l) f)) slot)
  continued-running l f = still k.processes (with_file (with_local p l) f) refl (record { running = running; share = refl })

  module _ (disc : List ℕ) where
    abbrev Left : Answered → Type 0
    Left = LeftRunning p slot

    open-left : (f : Option ℕ) (name : List ℕ) (size : Number) (l : Local) → Left (opened_at k slot disc f name size l)
    open-left (Some i) name size l = continued-running l _
    open-left None name size l = sized (new_file_size disc size)
      where
        admit : (n : ℕ) (a : Result ℕ Refusal) → Left (created_at k slot disc a name n l)
        admit n (Ok s) = continued-running l (opened (run_from s n))
        admit n (Err r) = tt

        sized : (s : Option ℕ) → Left (created k slot disc s name l)
        sized (Some n) = admit n (admission disc name n)
        sized None = tt

    in-file : (n : ℕ) (rest : Answered) → Left rest → Left (with_open_file k slot disc (inside k slot disc n rest))
    in-file n rest left = go (eqb p.file.len 0) (leb (p.file.offset + n) p.file.len)
      where
        go : (closed b : Bool) → Left (cond closed (breaks 11) (unless_breaks b 12 rest))
        go true b = tt
        go false false = tt
        go false true = left

    received-left : (stack : List ℕ) (n : ℕ) (l : Local) → Left (received k slot disc stack n l)
    received-left stack n l = go (leb (length stack) stack_size)
      where
        go : (b : Bool) → Left (unless_breaks b 4 (continues k slot disc (pushed l stack) (advanced p.file n) disc))
        go true = continued-running (pushed l stack) (advanced p.file n)
        go false = tt

    fork-left : (s : Starting) (l : Local) → Left (forked k slot disc s l)
    fork-left (refuses r) l = moved-running (push_id l 0)
    fork-left (starts child e) l =
        still (set k.processes child (started_process e k.next)) (with_local p (push_id l k.next))
        (length-set k.processes child (started_process e k.next)) (record { running = running; share = refl })

    pub answer-left : (r : Request) → Left (answered k slot disc r)
    unfolding answered
    answer-left (opens name size l) = open-left (lookup disc name) name size l
    answer-left (closes l) = moved-running l
    answer-left (writes bytes l) = in-file (length bytes) _ (continued-running l (advanced p.file (length bytes)))
    answer-left (reads kind l) = in-file kind _ (received-left (number_read k slot disc kind l) kind l)
    answer-left (reads_string l) =
        in-file (length (text_ahead k slot disc) + 1) _ (received-left (text_read k slot disc l) (length (text_ahead k slot disc) + 1) l)
    answer-left (forks name l) = fork-left (starting k disc name) l
    answer-left (awaits id stay go) = moved-running (cond (any (is_awaited k slot disc id) k.processes) stay go)
