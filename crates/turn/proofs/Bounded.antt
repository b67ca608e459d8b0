-- What good buffers say of the running process of a slot, and of the step that its instruction takes: enough to carry it out.
use Prim.Native.Nat.{ℕ, ◌+◌, ◌≤◌, ◌<◌}
use mathlib.Core.Path.{◌≡◌, refl, subst⁻¹}
use mathlib.Core.Bool.{true}
use mathlib.Core.List.{List}
use mathlib.Core.Logic.{⊎_elim}
use native.Mathlib.Omega.{arith}
use lib.ListN.{length, take, length-append}
use lib.Seq.{length-take-le}
use borrow.Author.Tests.{le-leb}
use Rattle.buffer.proofs.Bools.{and_both}
use Rattle.buffer.proofs.Lists.{all_weaker}
use Rattle.disc.specs.Directory.{files}
use Rattle.disc.proofs.Locations.{held-inside}
use Rattle.variable.specs.Good.{good_variable}
use Rattle.variable.specs.Limits.{value_size}
use Rattle.variable.specs.Table.{owned}
use Rattle.variable.specs.declared.Variable.{Variable}
use Rattle.variable.proofs.Goodness.{good-size-bounds, good-variable-is}
use Rattle.machine.specs.Area.{kernel_of}
use Rattle.machine.specs.Effect.{Effect, faults}
use Rattle.machine.specs.Exec.{exec}
use Rattle.machine.specs.Limits.{area_length, slot_count, stack_size}
use Rattle.machine.specs.Refusals.{Passes}
use Rattle.machine.specs.State.{is_live, is_running, live_ids, local_of, process_at}
use Rattle.machine.specs.Turn.{effect_at, program_of}
use Rattle.machine.specs.declared.Process.{Process}
use Rattle.machine.proofs.Changes.Change.{GoodState}
use Rattle.machine.proofs.Changes.Directories.{live-record, open_at, program-at}
use Rattle.machine.proofs.Changes.LiveRecords.{running-live, within-local}
use Rattle.machine.proofs.Demands.GoodCalls.{passes-good}
use Rattle.machine.proofs.Goodness.GoodRecords.{Closed, Opened}
use Rattle.machine.proofs.Instructions.Executing.{exec-sound}
use Rattle.machine.proofs.Instructions.Sound.{Asked, Sound}
use Rattle.instruction.specs.Readable.{Readable, is_held}
use Rattle.process.specs.Stepping.{stack_of}
use Rattle.stack.specs.Steps.{Does, about, effect_by, effect_of, keeping}
use Rattle.stack.specs.declared.Action.{Action}
use Rattle.stack.specs.declared.Action.TheVariants.{Push, Print, Assign, Stop, Open, Close, Write, Read, ReadString, Fork, Await}
use Rattle.stack.specs.declared.Step.{Step}
use Rattle.request.specs.Answers.{Lies}
use Rattle.turn.specs.Turns.{Bounds, Carries}
use Rattle.turn.proofs.Passing.{area-size, disc-readable, few-variables, next_low, variables-good}

-- a good area's variables lie in memory and are no longer than a stack
held : (live : List ℕ) (e : Variable) → good_variable live e ≡ true → is_held e ≡ true
held live e t =
    let g = good-variable-is live e t in
    let s = good-size-bounds e.kind e.size g.size in
    let short : e.size ≤ value_size = omega (arith, s.1) in
    and_both (le-leb _ _ g.inside) (le-leb _ _ short)

-- what the code learns of the step that a process takes
abbrev pub Steps : (disc area : List ℕ) (clock : ℕ) → Process → Step → Type 0
Steps disc area clock q d =
    Does (stack_of q) d (exec (program_of disc q) clock (local_of q) (owned (kernel_of area).variables q.id))

module _ (disc area : List ℕ) (passes : Passes disc area) where
  good : GoodState (kernel_of area) disc
  good = passes-good disc area passes

  variables-readable : Readable (kernel_of area).variables
  variables-readable =
      record {
        few = few-variables passes;
        held = all_weaker (good_variable (live_ids (kernel_of area))) is_held _ (held (live_ids (kernel_of area)))
            (variables-good passes).each;
      }

  module _ (slot : ℕ) (low : slot < slot_count) (running : is_running (process_at (kernel_of area) slot) ≡ true) where
    abbrev p : Process
    p = process_at (kernel_of area) slot

    live : is_live p ≡ true
    live = running-live p running

    program-inside : p.code.start + p.code.len ≤ length disc
    program-inside = held-inside (record { sound = good.sound; file = program-at good slot live })

    sp_low : p.sp ≤ stack_size
    sp_low = (live-record good slot live).registers.sp

    file-lies : Lies disc p.file
    file-lies = ⊎_elim closed opened (live-record good slot live).file
      where
        closed : Closed p.file → Lies disc p.file
        closed c = record { offset = omega (arith, c.offset); inside = λ some. absurd (some c.len) }

        opened : Opened (files disc) p.file → Lies disc p.file
        opened o = record { offset = o.offset; inside = λ some. held-inside (record { sound = good.sound; file = open_at o }) }

    module _ (clock : ℕ) (d : Step) (size : length d.bytes ≡ stack_size) (means : Steps disc area clock p d) where
      sound : Sound (program_of disc p) (local_of p) (effect_of (stack_of p) d)
      sound =
          subst⁻¹ (λ (e : Effect). Sound (program_of disc p) (local_of p) e) means.same
          (exec-sound (program_of disc p) clock (local_of p) _ (within-local good slot live))

      stack-size : length (stack_of p) ≡ p.sp
      stack-size = length-take-le p.sp p.stack (omega (arith, sp_low, (good.sized.each slot low).stack))

      bytes-size : length (about d) ≡ d.len
      bytes-size = length-take-le d.len d.bytes (omega (arith, means.len, size))

      kept-size : length (take d.kept (stack_of p)) ≡ d.kept
      kept-size = length-take-le d.kept (stack_of p) means.kept

      bounded : (a : Action) → Sound (program_of disc p) (local_of p) (effect_by a (stack_of p) (about d) (keeping (stack_of p) d))
          → Bounds a p d
      unfolding Sound Asked
      bounded Push s = omega (arith, s.0.stack, length-append (take d.kept (stack_of p)) (about d), kept-size, bytes-size)
      bounded Print s = tt
      bounded (Assign name kind) s = omega (arith, (good-size-bounds kind _ s.1).0, bytes-size)
      bounded Stop s = tt
      bounded (Open x) s = tt
      bounded Close s = tt
      bounded Write s = tt
      bounded (Read kind) s = tt
      bounded ReadString s = tt
      bounded Fork s = omega (arith, s.2, kept-size)
      bounded (Await id) s = s.1

      carries_own : Carries disc area slot p d
      carries_own =
          record {
            stepping = record {
              size = area-size passes;
              low = low;
              own = refl;
              running = running;
              few = few-variables passes;
              sp = sp_low;
              kept = omega (arith, means.kept, stack-size);
              len = means.len;
            };
            readable = disc-readable passes;
            file = file-lies;
            next = next_low passes;
            bounds = bounded d.action sound;
          }

    -- of a process that was copied out
    module _ (q : Process) (copied : q ≡ p) where
      pub may-step : (q.code.start + q.code.len ≤ length disc) × (q.sp ≤ stack_size) × (length area ≡ area_length)
          × Readable (kernel_of area).variables
      may-step =
          subst⁻¹ (λ (r : Process). (r.code.start + r.code.len ≤ length disc) × (r.sp ≤ stack_size) × (length area ≡ area_length)
          × Readable (kernel_of area).variables) copied
          (program-inside, sp_low, area-size passes, variables-readable)

      module _ (clock : ℕ) (d : Step) where
        pub carries : length d.bytes ≡ stack_size → Steps disc area clock q d → Carries disc area slot q d
        carries size =
            subst⁻¹ (λ (r : Process). Steps disc area clock r d → Carries disc area slot r d) copied (λ m. carries_own clock d size m)

        -- the step is the effect of the instruction in that slot
        pub effect_is : Steps disc area clock q d → effect_of (stack_of q) d ≡ effect_at (kernel_of area) slot clock disc
        effect_is =
            subst⁻¹ (λ (r : Process). Steps disc area clock r d → effect_of (stack_of r) d ≡ effect_at (kernel_of area) slot clock disc)
            copied (λ m. m.same)

      -- a fault is that of the instruction in that slot
      pub fault_is : (clock fault : ℕ)
          → faults fault ≡ exec (program_of disc q) clock (local_of q) (owned (kernel_of area).variables q.id)
          → faults fault ≡ effect_at (kernel_of area) slot clock disc
      fault_is clock fault =
          subst⁻¹ (λ (r : Process). faults fault ≡ exec (program_of disc r) clock (local_of r) (owned (kernel_of area).variables r.id)
          → faults fault ≡ effect_at (kernel_of area) slot clock disc) copied (λ e. e)
