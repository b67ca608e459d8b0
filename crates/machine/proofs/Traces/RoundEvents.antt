-- The events of a done round and `answer` say the same of it.
use Prim.Native.Nat.{ℕ}
use mathlib.Core.Path.{◌≡◌, refl, sym, ap, subst⁻¹}
use mathlib.Core.Bool.{true}
use mathlib.Core.List.{List}
use lib.Dec.{leb}
use lib.IntN.{pos}
use lib.ListN.{length}
use lib.Seq.{take_at}
use Rattle.buffer.specs.Buffer.{overwrite}
use Rattle.buffer.specs.Lists.{all}
use Rattle.machine.specs.Answer.{Answer, Buffers, answer, round, turned_answer}
use Rattle.machine.specs.Area.{Whole, kernel_of}
use Rattle.machine.specs.Limits.{round_room}
use Rattle.machine.specs.Refusals.{Passes}
use Rattle.machine.specs.Operations.{round_of}
use Rattle.machine.specs.Trace.{Event, IsItsEvents, Storage, lending, ten_slots, output_text, share_events}
use Rattle.machine.specs.Turn.{Turned}
use Rattle.machine.proofs.Traces.RoundParts.{Parts, share-parts}
use Rattle.machine.proofs.Demands.Rounds.{round-done, round-passed}

-- "A done round stands for its turns in order, each printing its part of the output."
pub round-events : (s : Storage) (out : List ℕ) (clock n : ℕ) → Whole s.area → (answer (round clock) (lending s out)).number ≡ pos n
    → IsItsEvents s out (answer (round clock) (lending s out))
    (share_events ten_slots clock s (output_text (answer (round clock) (lending s out))))
unfolding all
round-events s out clock n whole done =
    subst⁻¹ (λ (a : Answer). IsItsEvents s out a (share_events ten_slots clock s (output_text a)))
    (round-done b clock passed.0 passed.1) of_turns
  where
    b : Buffers
    b = lending s out

    passed : Passes s.disc s.area × (leb round_room (length out) ≡ true)
    passed = round-passed b clock n done

    u : Turned
    u = round_of (kernel_of s.area) clock s.disc

    es : List Event
    es = share_events ten_slots clock s (output_text (turned_answer u b))

    p : Parts s es u
    p = share-parts ten_slots clock s (output_text (turned_answer u b)) refl passed.0 (take_at u.out _ (length u.out) refl)

    of_turns : IsItsEvents s out (turned_answer u b) es
    of_turns = (
      λ z. record { disc = sym p.disc z; area = sym (p.area whole) z },
      ap pos (sym p.sum),
      ap (overwrite out 0) (sym p.texts),
      p.parts,
    )
