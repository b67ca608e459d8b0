-- Every instruction is sound: it leaves of a process that fits its record one that does, and only the bytes of the instructions that reach
-- beyond the process ask.
use Rattle.std.specs.Prelude.{Some}
use Prim.Native.Nat.{ℕ, ◌+◌, ◌≤◌, ◌<◌}
use mathlib.Core.Path.{◌≡◌, refl, sym, ap, subst}
use mathlib.Core.Bool.{Bool, true, false}
use mathlib.Core.List.{List, [], ◌∷◌, ◌++◌}
use mathlib.Core.Logic.{inr}
use native.Mathlib.Omega.{arith}
use lib.Dec.{eqb, leb, ltb}
use lib.ListN.{length, get_or, length-append}
use borrow.Author.Tests.{eqb-true, leb-true, ltb-true}
use Rattle.buffer.specs.Lists.{index}
use Rattle.buffer.proofs.Bools.{and_left, and_right, true-not-false}
use Rattle.number.specs.Clock.{is_ahead}
use Rattle.number.specs.Value.{is_zero}
use Rattle.operator.specs.declared.instruction.Types.TheVariants.{AnyNumber, AnyString, AnyValue, CharOrInt}
use Rattle.variable.specs.Table.{Cell}
use Rattle.machine.specs.Effect.{Effect, goes, assigns, stops, faults, asks, Request, printed, newline}
use Rattle.machine.specs.Asking.{reaches}
use Rattle.machine.specs.Exec.{behind, exec, first_argument, here, performs, second_argument, with_arguments}
use Rattle.machine.specs.Instruction.{instruction_of}
use Rattle.machine.specs.Stack.{string_text}
use Rattle.machine.specs.State.{Local}
use Rattle.machine.specs.Suppositions.{is_barred}
use Rattle.machine.specs.declared.instruction.Instruction.{Instruction}
use Rattle.machine.specs.declared.instruction.Instruction.TheVariants.{Literal, StringLiteral, SetVariable, GetVariable, Operate}
use Rattle.machine.specs.declared.instruction.Instruction.TheVariants.{DelayUntil, Millis, Print, JumpIf, EndIf, While, EndWhile}
use Rattle.machine.specs.declared.instruction.Instruction.TheVariants.{Loop, EndLoop, Stop, Beyond, Unknown}
use Rattle.machine.specs.declared.instruction.Reach.{Reach}
use Rattle.machine.specs.declared.instruction.Reach.TheVariants.{OpenFile, CloseFile, WriteFile, ReadNumber, ReadString, Fork}
use Rattle.machine.specs.declared.instruction.Reach.TheVariants.{WaitUntilDone}
use Rattle.machine.proofs.Instructions.EffectParts.{Does, instruction_byte, unless-does, either-does, popped-does, number-does}
use Rattle.machine.proofs.Instructions.EffectParts.{variable-does, operates-does, settle-does, onward-does}
use Rattle.machine.proofs.Instructions.InstructionBytes.{is_byte_of, asks_by, instruction-asks-by, reads-by}
use Rattle.machine.proofs.Instructions.Popping.{printed-short, string-lay, value-good-size}
use Rattle.machine.proofs.Instructions.Sound.{Asked, Sound, Within}

newline-short : (ends : Bool) → length (newline ends) ≤ 1
newline-short true = omega arith
newline-short false = omega arith

-- ---- instructions of the process l
module _ (prog : List ℕ) (l : Local) (inside : l.pc < length prog) where
  abbrev st : List ℕ
  st = l.stack

  abbrev ls : ℕ
  ls = l.loopstart

  abbrev pc : ℕ
  pc = behind prog st ls l.pc

  -- the process goes on behind its instruction with what is left of its stack
  on-within : (rest : List ℕ) → length rest ≤ length st → Within (length prog) l
      → Within (length prog) (here prog st ls l.pc pc rest)
  on-within rest h w = record { stack = omega (arith, w.stack); pc = omega arith; loop = w.loop }

  arguments : (n : ℕ) (e : Effect) → (pc + n ≤ length prog → Does prog l e) → Does prog l (with_arguments prog st ls l.pc n e)
  arguments n e h = unless-does prog l (leb (pc + n) (length prog)) 2 e (omega arith, omega arith) λ t. h (leb-true _ _ t)

  reaches-does : (r : Reach) → is_barred (instruction_byte prog l) ≡ true → is_byte_of (instruction_byte prog l) r ≡ true
      → Does prog l (reaches prog st ls l.pc r)
  unfolding Does Asked
  reaches-does OpenFile a h =
      number-does prog l AnyNumber st _ λ size rest t.
      popped-does prog l AnyString rest _ λ name below d u.
      (a, λ w. (eqb-true _ _ h, on-within below (omega (arith, t, u.lay)) w))
  reaches-does CloseFile a h = (a, λ w. (eqb-true _ _ h, on-within st (omega arith) w))
  reaches-does WriteFile a h = popped-does prog l AnyValue st _ λ x rest e t.
      (a, λ w. (eqb-true _ _ h, on-within rest (omega (arith, t.lay)) w))
  reaches-does (ReadNumber kind) a h = (a, λ w. (reads-by (instruction_byte prog l) h, on-within st (omega arith) w))
  reaches-does ReadString a h = (a, λ w. (eqb-true _ _ h, on-within st (omega arith) w))
  reaches-does Fork a h =
      popped-does prog l AnyString st _ λ name rest e t. (
        a,
        λ w. (
          eqb-true _ _ h,
          sym (ap string_text e),
          omega (arith, string-lay st name rest t, w.stack),
          on-within rest (omega (arith, t.lay)) w,
        ),
      )
  reaches-does WaitUntilDone a h = number-does prog l AnyNumber st _ λ x rest t. (a, λ w. (eqb-true _ _ h, refl, on-within rest t w))

  performs-does : (clock : ℕ) (i : Instruction) (own : List Cell) → asks_by (instruction_byte prog l) i ≡ true
      → Does prog l (performs prog st ls l.pc clock i own)
  unfolding Does performs
  performs-does clock (Literal kind) own h = arguments kind _ λ a. onward-does prog l _ _
  performs-does clock StringLiteral own h = arguments _ _ λ a. onward-does prog l _ _
  performs-does clock SetVariable own h =
      arguments 1 _ λ a.
      popped-does prog l AnyValue st _ λ x rest e t. (
        eqb-true _ _ h,
        λ w. (record { stack = omega (arith, w.stack, t.lay); pc = a; loop = w.loop }, value-good-size st x rest t w.stack),
      )
  performs-does clock GetVariable own h =
      arguments 1 _ λ a.
      variable-does prog l (index (λ c. eqb c.name (first_argument prog st ls l.pc)) own) own _ λ c. onward-does prog l _ _
  performs-does clock (Operate o) own h = operates-does prog l o st _ λ s. onward-does prog l _ s
  performs-does clock DelayUntil own h =
      number-does prog l CharOrInt st _ λ x rest t.
      either-does prog l (is_ahead x clock) (goes l []) _ (λ w. (w, omega arith)) (onward-does prog l (Some pc) rest)
  performs-does clock Millis own h = onward-does prog l _ _
  performs-does clock (Print ends) own h =
      popped-does prog l AnyValue st _ λ x rest e t.
      settle-does prog l (Some pc) rest ls (printed x ++ newline ends) λ w.
      (w.loop, omega (arith, length-append (printed x) (newline ends), printed-short st x rest t w.stack, newline-short ends))
  performs-does clock (JumpIf zero) own h = arguments 1 _ λ a. number-does prog l AnyNumber st _ λ x rest t. onward-does prog l _ _
  performs-does clock EndIf own h = number-does prog l AnyNumber st _ λ x rest t. onward-does prog l _ _
  performs-does clock While own h =
      let c : ℕ = first_argument prog st ls l.pc in
      let b : ℕ = second_argument prog st ls l.pc in
      arguments 2 _ λ a.
      number-does prog l AnyNumber st _ λ x rest t.
      either-does prog l (is_zero x) _ _ (onward-does prog l (Some (pc + 2 + (b + 1))) rest)
      (unless-does prog l (leb (c + b) 251) 8 _ (omega arith, omega arith) λ f.
      onward-does prog l (Some (pc + 2)) (rest ++ ((c + b + 4) ∷ [])))
  performs-does clock EndWhile own h = unless-does prog l (leb 1 (length st)) 5 _ (omega arith, omega arith) λ a. onward-does prog l _ _
  performs-does clock Loop own h = settle-does prog l (Some pc) st pc [] λ w. (inr (omega arith), omega arith)
  performs-does clock EndLoop own h = onward-does prog l _ _
  performs-does clock Stop own h = tt
  performs-does clock (Beyond r) own h =
      reaches-does r (and_left (is_barred (instruction_byte prog l)) _ h) (and_right (is_barred (instruction_byte prog l)) _ h)
  performs-does clock Unknown own h = (omega arith, omega arith)

exec-does : (prog : List ℕ) (clock : ℕ) (l : Local) (own : List Cell) → Does prog l (exec prog clock l own)
unfolding Does exec
exec-does prog clock l own =
    unless-does prog l (ltb l.pc (length prog)) 2 _ (omega arith, omega arith) λ t.
    let inside : l.pc < length prog = ltb-true _ _ t in
    performs-does prog l inside clock (instruction_of (instruction_byte prog l)) own
    (instruction-asks-by (instruction_byte prog l))

pub exec-sound : (prog : List ℕ) (clock : ℕ) (l : Local) (own : List Cell) → Within (length prog) l → Sound prog l (exec prog clock l own)
unfolding Does Sound
exec-sound prog clock l own w = go (exec prog clock l own) (exec-does prog clock l own)
  where
    go : (e : Effect) → Does prog l e → Sound prog l e
    go (goes m out) d = d w
    go (assigns name kind bytes m) d = d.1 w
    go stops d = tt
    go (faults n) d = d
    go (asks r) d = d.1 w

-- a byte of no such instruction asks nothing
pub exec-quiet : (prog : List ℕ) (clock : ℕ) (l : Local) (own : List Cell) → is_barred (get_or prog l.pc 0) ≡ false → (r : Request)
    → exec prog clock l own ≡ asks r → ⊥
unfolding Does
exec-quiet prog clock l own q r e =
    let d : Does prog l (asks r) = subst (λ (x : Effect). Does prog l x) e (exec-does prog clock l own) in
    true-not-false d.0 q

-- only SET assigns
pub exec-sets-byte : (prog : List ℕ) (clock : ℕ) (l : Local) (own : List Cell) (name kind : ℕ) (bytes : List ℕ) (m : Local)
    → exec prog clock l own ≡ assigns name kind bytes m → get_or prog l.pc 0 ≡ 5
unfolding Does
exec-sets-byte prog clock l own name kind bytes m e =
    let d : Does prog l (assigns name kind bytes m) = subst (λ (x : Effect). Does prog l x) e (exec-does prog clock l own) in
    d.0
