-- READSTRING of a file of zeros, at its first byte: the empty string.
use Prim.Native.Nat.{ℕ}
use mathlib.Core.Path.{◌≡◌, ap, ◌∙◌}
use mathlib.Core.List.{List, [], ◌∷◌, ◌++◌, append_assoc}
use native.Mathlib.Omega.{arith}
use lib.ListN.{length, get_or, length-append}
use borrow.Author.Tests.{le-leb, lt-ltb, ne_eqb}
use Rattle.operator.specs.Instruction.{lookup as lookup_operator, operator_of}
use Rattle.disc.specs.Directory.{contents}
use Rattle.disc.specs.Name.{trimmed}
use Rattle.disc.proofs.Names.{trimmed-zeros}
use Rattle.machine.specs.Asking.{past}
use Rattle.machine.specs.Beyond.{answered, file_run}
use Rattle.machine.specs.Effect.{asks, reads_string}
use Rattle.machine.specs.Exec.{exec, performs}
use Rattle.machine.specs.Instruction.{find, instruction_of}
use Rattle.machine.specs.Limits.{stack_size}
use Rattle.machine.specs.NewFile.{with_empty_string}
use Rattle.machine.specs.State.{Local, local_of, process_at}
use Rattle.machine.specs.Turn.{carried_out, effect_at, moved, program_of, turned}
use Rattle.machine.specs.declared.Kernel.{Kernel}
use Rattle.machine.specs.declared.Process.{Process}
use Rattle.machine.proofs.Fields.Parts.{byte_inside}
use Rattle.machine.proofs.NewFiles.Creating.{Fresh}

module _ (k : Kernel) (slot clock : ℕ) (disc : List ℕ) where
  abbrev p : Process
  p = process_at k slot

  abbrev prog : List ℕ
  prog = program_of disc p

  abbrev stack : List ℕ
  stack = (local_of p).stack

  abbrev l : Local
  l = past prog stack p.loopstart p.pc stack

  asks-string : get_or prog p.pc 0 ≡ 59 → effect_at k slot clock disc ≡ asks (reads_string l)
  unfolding exec performs instruction_of operator_of lookup_operator find
  asks-string found = rw (lt-ltb p.pc (length prog) (byte_inside prog p.pc 58 found), found)

  text-empty : {i : ℕ} → Fresh i p disc → trimmed (contents disc (file_run p.file)) ≡ []
  text-empty f = ap trimmed f.holds ∙ trimmed-zeros p.file.len

  pub read-empty : {i : ℕ} → Fresh i p disc → get_or prog p.pc 0 ≡ 59
      → turned k slot clock disc ≡ moved k slot disc (with_empty_string p) disc []
  unfolding turned carried_out answered
  read-empty f found =
      ap (carried_out k slot disc) (asks-string found)
      ∙ rw (
        f.first,
        text-empty f,
        ne_eqb p.file.len 0 (λ z. omega (arith, f.some)),
        le-leb 1 p.file.len f.some,
        append_assoc stack (0 ∷ []) (1 ∷ 3 ∷ []),
        le-leb (length (stack ++ (0 ∷ 1 ∷ 3 ∷ []))) stack_size (omega (arith, length-append stack (0 ∷ 1 ∷ 3 ∷ []), f.room)),
      )
