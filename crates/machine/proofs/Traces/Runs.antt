-- A run from good buffers: its events form a chain.
use Prim.Native.Nat.{ℕ}
use mathlib.Core.Path.{◌≡◌, refl, subst⁻¹}
use mathlib.Core.Bool.{Bool, true, false}
use mathlib.Core.List.{List, [], ◌∷◌}
use lib.Dec.{leb}
use lib.ListN.{length}
use lib.Seq.{take_at}
use Rattle.buffer.specs.Lists.{all}
use Rattle.machine.specs.Answer.{Answer, Buffers, Call, turn, round, command, share, run, other}
use Rattle.machine.specs.Answer.{answer, turned_answer}
use Rattle.machine.specs.Area.{kernel_of}
use Rattle.machine.specs.Limits.{round_room}
use Rattle.machine.specs.Operations.{round_of}
use Rattle.machine.specs.Refusals.{Passes}
use Rattle.machine.specs.Trace.{Invocation, Storage, answer_of, events, events_by, lending, round_events, storage_of, ten_slots}
use Rattle.machine.specs.Trace.{output_text, share_events}
use Rattle.machine.specs.Turn.{Turned}
use Rattle.machine.specs.declared.Kernel.{Kernel}
use Rattle.machine.proofs.Demands.GoodCalls.{good-back, good-kept, passes-good, round-good}
use Rattle.machine.proofs.Demands.Rounds.{round-done}
use Rattle.machine.proofs.Traces.Chains.{Chain, Leads, leads-on, one-event, short-round, turn-leads}
use Rattle.machine.proofs.Traces.RoundParts.{share-parts}

module _ (s : Storage) (out : List ℕ) (passes : Passes s.disc s.area) where
  -- "A done round stands for its turns in order, each printing its part of the output."
  round-leads : (clock : ℕ)
      → Leads (kernel_of s.area) s.disc
      (round_events (answer (round clock) (lending s out)).number clock s (output_text (answer (round clock) (lending s out))))
      (kernel_of (answer (round clock) (lending s out)).area) (answer (round clock) (lending s out)).disc
  unfolding Leads all
  round-leads clock = go (leb round_room (length out)) refl
    where
      k : Kernel
      k = kernel_of s.area

      u : Turned
      u = round_of k clock s.disc

      b : Buffers
      b = lending s out

      Right : Answer → Type 0
      Right a = Leads k s.disc (round_events a.number clock s (output_text a)) (kernel_of a.area) a.disc

      go : (f : Bool) → leb round_room (length out) ≡ f → Right (answer (round clock) b)
      go true h =
          subst⁻¹ Right (round-done b clock passes h)
          (subst⁻¹ (λ (j : Kernel). Leads k s.disc (share_events ten_slots clock s (output_text (turned_answer u b))) j u.disc)
          (good-back u.kernel u.disc (round-good k clock s.disc (passes-good s.disc s.area passes)))
          (share-parts ten_slots clock s (output_text (turned_answer u b)) refl passes (take_at u.out _ (length u.out) refl)).leads)
      go false h = subst⁻¹ Right (short-round s out passes clock h) (refl, refl)

  call-leads : (c : Call)
      → Leads (kernel_of s.area) s.disc (events_by c out s (answer c (lending s out))) (kernel_of (answer c (lending s out)).area)
      (answer c (lending s out)).disc
  call-leads (turn slot clock) = turn-leads s out passes slot clock
  call-leads (round clock) = round-leads clock
  call-leads (command c id) = one-event s out passes (command c id) [] (record { turns = tt; commands = refl; single = refl })
  call-leads (share id turns) = one-event s out passes (share id turns) [] (record { turns = tt; commands = refl; single = refl })
  call-leads (run name) = one-event s out passes (run name) [] (record { turns = tt; commands = tt; single = refl })
  call-leads (other o) = one-event s out passes (other o) [] (record { turns = tt; commands = tt; single = refl })

-- ---- a run from good buffers
pub chain-of : (calls : List Invocation) (s : Storage) → Passes s.disc s.area → Chain (kernel_of s.area) s.disc (events calls s)
unfolding events Chain
chain-of [] s passes = tt
chain-of (i ∷ calls) s passes =
    let a : Answer = answer_of i s in
    leads-on (kernel_of s.area) s.disc (events_by i.call i.out s a) (events calls (storage_of a)) (kernel_of a.area) a.disc
    (call-leads s i.out passes i.call)
    (chain-of calls (storage_of a) (good-kept (lending s i.out) passes i.call))
