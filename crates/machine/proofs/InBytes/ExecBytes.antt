-- Every instruction of a program of bytes, on a stack of bytes, gives bytes.
use Rattle.std.specs.Prelude.{Option, Some}
use Prim.Native.Nat.{ℕ, ◌+◌, ◌-◌}
use mathlib.Core.Path.{◌≡◌, refl}
use mathlib.Core.Bool.{Bool, true}
use mathlib.Core.List.{List, [], ◌∷◌, ◌++◌}
use native.Mathlib.Omega.{arith}
use lib.Dec.{eqb, leb, ltb}
use lib.ListN.{drop, get_or, length, take}
use borrow.Author.Tests.{leb-true, ltb-true}
use Rattle.buffer.specs.Buffer.{part}
use Rattle.buffer.specs.Lists.{all, index}
use Rattle.number.specs.Clock.{is_ahead}
use Rattle.number.specs.Value.{is_zero}
use Rattle.operator.specs.declared.instruction.Types.TheVariants.{AnyNumber, AnyString, AnyValue, CharOrInt}
use Rattle.disc.specs.Name.{trimmed}
use Rattle.variable.specs.Table.{Cell}
use Rattle.machine.specs.Effect.{newline, printed, settle}
use Rattle.machine.specs.Asking.{reaches}
use Rattle.machine.specs.Exec.{behind, exec, first_argument, performs, second_argument}
use Rattle.machine.specs.Instruction.{instruction_of}
use Rattle.machine.specs.Stack.{push_item, push_string}
use Rattle.machine.specs.State.{Local}
use Rattle.machine.specs.declared.instruction.Instruction.{Instruction}
use Rattle.machine.specs.declared.instruction.Instruction.TheVariants.{Literal, StringLiteral, SetVariable, GetVariable, Operate}
use Rattle.machine.specs.declared.instruction.Instruction.TheVariants.{DelayUntil, Millis, Print, JumpIf, EndIf, While, EndWhile}
use Rattle.machine.specs.declared.instruction.Instruction.TheVariants.{Loop, EndLoop, Stop, Beyond, Unknown}
use Rattle.machine.specs.declared.instruction.Reach.{Reach}
use Rattle.machine.specs.declared.instruction.Reach.TheVariants.{OpenFile, CloseFile, WriteFile, ReadNumber, ReadString, Fork}
use Rattle.machine.specs.declared.instruction.Reach.TheVariants.{WaitUntilDone}
use Rattle.buffer.proofs.ByteLists.{Bytes, append-bytes, byte_at, drop-bytes, one_byte, part_bytes, take-bytes}
use Rattle.machine.proofs.Bytes.ByteTexts.{trimmed-bytes}
use Rattle.buffer.proofs.Each.{Each}
use Rattle.machine.proofs.InBytes.EffectBytes.{ByteCell, GivesBytes, either-gives, number-gives, operates-gives, popped-gives}
use Rattle.machine.proofs.InBytes.EffectBytes.{settle-gives, unless-gives, variable-gives}
use Rattle.machine.proofs.InBytes.Stacks.{newline-bytes, printed-bytes, push-bytes, push-item-bytes, push-string-bytes}
use Rattle.machine.proofs.Instructions.InstructionBytes.{instruction-all}

-- the type that an instruction names, if any, is a byte
abbrev reach_names_byte : Reach → Bool
reach_names_byte OpenFile = true
reach_names_byte CloseFile = true
reach_names_byte WriteFile = true
reach_names_byte (ReadNumber kind) = ltb kind 256
reach_names_byte ReadString = true
reach_names_byte Fork = true
reach_names_byte WaitUntilDone = true

abbrev names_byte : Instruction → Bool
names_byte (Literal kind) = ltb kind 256
names_byte StringLiteral = true
names_byte SetVariable = true
names_byte GetVariable = true
names_byte (Operate o) = true
names_byte DelayUntil = true
names_byte Millis = true
names_byte (Print ends) = true
names_byte (JumpIf zero) = true
names_byte EndIf = true
names_byte While = true
names_byte EndWhile = true
names_byte Loop = true
names_byte EndLoop = true
names_byte Stop = true
names_byte (Beyond r) = reach_names_byte r
names_byte Unknown = true

module _ (prog : List ℕ) (code : Bytes prog) (l : Local) (h : Bytes l.stack) where
  abbrev st : List ℕ
  st = l.stack

  abbrev ls : ℕ
  ls = l.loopstart

  abbrev pc : ℕ
  pc = behind prog st ls l.pc

  -- on with a stack of bytes, nothing printed
  on : (target : Option ℕ) (stack : List ℕ) → Bytes stack → GivesBytes (settle prog target stack ls [])
  unfolding Each
  on target stack b = settle-gives prog target stack ls [] (λ fits. b) tt

  reaches-gives : (r : Reach) → reach_names_byte r ≡ true → GivesBytes (reaches prog st ls l.pc r)
  unfolding GivesBytes
  reaches-gives OpenFile t =
      number-gives AnyNumber st h _ λ size rest f b.
      popped-gives AnyString rest b _ λ name below i c. c
  reaches-gives CloseFile t = h
  reaches-gives WriteFile t = popped-gives AnyValue st h _ λ x rest i b. (i.bytes, b)
  reaches-gives (ReadNumber kind) t = (ltb-true kind 256 t, h)
  reaches-gives ReadString t = h
  reaches-gives Fork t = popped-gives AnyString st h _ λ name rest i b. b
  reaches-gives WaitUntilDone t = number-gives AnyNumber st h _ λ x rest f b. (h, b)

  performs-gives : (clock : ℕ) (i : Instruction) (own : List Cell) → Each ByteCell own → names_byte i ≡ true
      → GivesBytes (performs prog st ls l.pc clock i own)
  unfolding GivesBytes performs Each
  performs-gives clock (Literal kind) own o t =
      unless-gives (leb (pc + kind) (length prog)) 2 _ λ a.
      on _ _ (push-bytes st kind (part prog pc kind) h (ltb-true kind 256 t) (part_bytes prog pc kind code))
  performs-gives clock StringLiteral own o t =
      let text : List ℕ = trimmed (drop pc prog) in
      unless-gives (leb (pc + (length text + 1)) (length prog)) 2 _ λ a.
      settle-gives prog (Some (pc + (length text + 1))) (push_string st (text ++ (0 ∷ []))) ls []
      (push-string-bytes st (text ++ (0 ∷ [])) h
      (append-bytes text (0 ∷ []) (trimmed-bytes (drop pc prog) (drop-bytes pc prog code)) (one_byte 0 (omega arith)))) tt
  performs-gives clock SetVariable own o t =
      unless-gives (leb (pc + 1) (length prog)) 2 _ λ a.
      popped-gives AnyValue st h _ λ x rest i b. (byte_at prog pc code, i.kind, i.bytes, b)
  performs-gives clock GetVariable own o t =
      unless-gives (leb (pc + 1) (length prog)) 2 _ λ a.
      variable-gives (index (λ c. eqb c.name (first_argument prog st ls l.pc)) own) own _ o λ c b.
      settle-gives prog (Some (pc + 1)) (push_item st c.kind c.bytes) ls []
      (push-item-bytes st c.kind c.bytes h b.kind b.bytes) tt
  performs-gives clock (Operate p) own o t = operates-gives p st _ h λ s b. on _ s b
  performs-gives clock DelayUntil own o t =
      number-gives CharOrInt st h _ λ x rest f b.
      either-gives (is_ahead x clock) _ _ (h, tt) (on (Some pc) rest b)
  performs-gives clock Millis own o t = on _ _ (push-bytes st 2 _ h (omega arith) (omega arith, (omega arith, tt)))
  performs-gives clock (Print ends) own o t =
      popped-gives AnyValue st h _ λ x rest i b.
      settle-gives prog (Some pc) rest ls (printed x ++ newline ends) (λ fits. b)
      (append-bytes (printed x) (newline ends) (printed-bytes x i) (newline-bytes ends))
  performs-gives clock (JumpIf zero) own o t =
      unless-gives (leb (pc + 1) (length prog)) 2 _ λ a.
      number-gives AnyNumber st h _ λ x rest f b. on _ st h
  performs-gives clock EndIf own o t = number-gives AnyNumber st h _ λ x rest f b. on _ rest b
  performs-gives clock While own o t =
      let c : ℕ = first_argument prog st ls l.pc in
      let d : ℕ = second_argument prog st ls l.pc in
      unless-gives (leb (pc + 2) (length prog)) 2 _ λ a.
      number-gives AnyNumber st h _ λ x rest f b.
      either-gives (is_zero x) _ _ (on (Some (pc + 2 + (d + 1))) rest b)
      (unless-gives (leb (c + d) 251) 8 _ λ low.
      on (Some (pc + 2)) (rest ++ ((c + d + 4) ∷ []))
      (append-bytes rest ((c + d + 4) ∷ []) b (one_byte (c + d + 4) (omega (arith, leb-true (c + d) 251 low)))))
  performs-gives clock EndWhile own o t =
      unless-gives (leb 1 (length st)) 5 _ λ a. on _ (take (length st - 1) st) (take-bytes (length st - 1) st h)
  performs-gives clock Loop own o t = settle-gives prog (Some pc) st pc [] (λ fits. h) tt
  performs-gives clock EndLoop own o t = on _ st h
  performs-gives clock Stop own o t = tt
  performs-gives clock (Beyond r) own o t = reaches-gives r t
  performs-gives clock Unknown own o t = tt

  pub exec-gives : (clock : ℕ) (own : List Cell) → Each ByteCell own → GivesBytes (exec prog clock l own)
  unfolding exec all
  exec-gives clock own o =
      unless-gives (ltb l.pc (length prog)) 2 _ λ a.
      performs-gives clock (instruction_of (get_or prog l.pc 0)) own o
      (instruction-all (λ b i. names_byte i) (get_or prog l.pc 0) (λ p. refl) refl refl)
