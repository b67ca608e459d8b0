-- Which faults an instruction has, by its byte.
use Prim.Native.Nat.{ℕ, ◌+◌, ◌<◌}
use mathlib.Core.Path.{◌≡◌, refl, sym, ap, subst, subst⁻¹, ◌∙◌}
use mathlib.Core.Bool.{Bool, true, false, cond}
use mathlib.Core.List.{List, [], ◌∷◌}
use mathlib.Core.Logic.{◌⊎◌, inl, inr}
use native.Mathlib.Omega.{arith}
use lib.Dec.{eqb, leb}
use lib.ListN.{get_or, length}
use borrow.Author.Tests.{eq-eqb, eqb-false, eqb-true}
use Rattle.buffer.specs.Lists.{any, tab}
use Rattle.buffer.proofs.Kept.{any_at}
use Rattle.buffer.proofs.Lists.{tab-at}
use Rattle.operator.specs.Instruction.{lookup, operator_of}
use Rattle.number.specs.declared.Number.{Number}
use Rattle.operator.specs.declared.instruction.Types.{Types}
use Rattle.operator.specs.declared.instruction.Types.TheVariants.{AnyNumber, AnyString, AnyValue}
use Rattle.variable.specs.Table.{owned}
use Rattle.machine.specs.Answer.{Buffers}
use Rattle.machine.specs.AtPc.{AtPc, process_in, stack_in}
use Rattle.machine.specs.Effect.{Effect, goes, assigns, stops, faults, asks, Request, opens, closes, writes, reads, reads_string}
use Rattle.machine.specs.Effect.{forks, awaits, unless_faults, with_number, with_popped, number}
use Rattle.machine.specs.Ending.{Ends, stopped, faulted, unplaced, broken}
use Rattle.machine.specs.Exec.{performs}
use Rattle.machine.specs.Instruction.{find, instruction_of}
use Rattle.machine.specs.Faults.{FaultsBounded, faults_of, reaching_faults}
use Rattle.machine.specs.Refusals.{state_of}
use Rattle.machine.specs.Stack.{Item, Popped, popped, cannot, pop}
use Rattle.machine.specs.State.{local_of}
use Rattle.machine.specs.Turn.{effect_at, program_of}
use Rattle.machine.specs.declared.instruction.Instruction.{Instruction}
use Rattle.machine.specs.declared.instruction.Instruction.TheVariants.{SetVariable, Beyond}
use Rattle.machine.specs.declared.instruction.Reach.TheVariants.{OpenFile, CloseFile, WriteFile, ReadNumber, ReadString, Fork}
use Rattle.machine.specs.declared.instruction.Reach.TheVariants.{WaitUntilDone}
use Rattle.machine.proofs.Changes.LiveRecords.{within-local}
use Rattle.machine.proofs.Demands.AnswerFaults.{FaultOf, answer-fault}
use Rattle.machine.proofs.Demands.EndFaults.{EndsBy, ended_by}
use Rattle.machine.proofs.Demands.GoodCalls.{passes-good}
use Rattle.machine.proofs.Instructions.Executing.{exec-sets-byte, exec-sound}
use Rattle.machine.proofs.Instructions.Popping.{Pops, pop-pops}
use Rattle.machine.proofs.Instructions.Sound.{Asked, Sound}
use Rattle.machine.proofs.Reaching.Finding.{at-performs, byte-found, reads_of}
use Rattle.machine.proofs.Reaching.Going.{live}

-- ---- an effect that ends its process by one of these faults, if it does
module _ (ns : List ℕ) where
  abbrev Has : ℕ → Type 0
  Has n = any (eqb n) ns ≡ true

  unfoldable Among : Effect → Type 0
  Among (goes l out) = Unit {0}
  Among (assigns name kind bytes l) = Has 10
  Among stops = Has 0
  Among (faults n) = Has n
  Among (asks r) = (n : ℕ) → FaultOf r n → Has n

  is_one : {n : ℕ} (m : ℕ) → Has m → n ≡ m → Has n
  is_one m h e = subst⁻¹ Has e h

  unless-among : (c : Bool) (n : ℕ) (e : Effect) → Has n → Among e → Among (unless_faults c n e)
  unfolding Among
  unless-among true n e h d = d
  unless-among false n e h d = h

  -- popping has faults 5 and 6
  module _ (five : Has 5) (six : Has 6) where
    popping-fault : (n : ℕ) → (n ≡ 5) ⊎ (n ≡ 6) → Has n
    popping-fault n (inl e) = is_one 5 five e
    popping-fault n (inr e) = is_one 6 six e

    popped-among : (types : Types) (stack : List ℕ) (next : Item → List ℕ → Effect) → ((x : Item) (rest : List ℕ) → Among (next x rest))
        → Among (with_popped (pop types stack) next)
    unfolding Pops Among
    popped-among types stack next h = go (pop types stack) (pop-pops types stack)
      where
        go : (p : Popped) → Pops types stack p → Among (with_popped p next)
        go (popped x rest) t = h x rest
        go (cannot n) t = popping-fault n t

    number-among : (types : Types) (stack : List ℕ) (next : Number → List ℕ → Effect)
        → ((x : Number) (rest : List ℕ) → Among (next x rest))
        → Among (with_number (pop types stack) next)
    unfolding Pops Among
    number-among types stack next h = go (pop types stack) (pop-pops types stack)
      where
        go : (p : Popped) → Pops types stack p → Among (with_number p next)
        go (popped x rest) t = h (number x) rest
        go (cannot n) t = popping-fault n t

-- ---- the faults of each
abbrev of_set : List ℕ
of_set = 2 ∷ 5 ∷ 6 ∷ 10 ∷ []

abbrev of_open : List ℕ
of_open = 5 ∷ 6 ∷ 13 ∷ []

abbrev of_write : List ℕ
of_write = 5 ∷ 6 ∷ 11 ∷ 12 ∷ []

abbrev of_read : List ℕ
of_read = 11 ∷ 12 ∷ 4 ∷ []

abbrev of_popping : List ℕ
of_popping = 5 ∷ 6 ∷ []

-- STOP's 0 and 1 to 9
abbrev of_other : List ℕ
of_other = 0 ∷ 1 ∷ 2 ∷ 3 ∷ 4 ∷ 5 ∷ 6 ∷ 7 ∷ 8 ∷ 9 ∷ []

small : (n : ℕ) → n < 10 → any (eqb n) of_other ≡ true
unfolding tab
small n h = any_at (eqb n) (tab (λ i. i) 10) n 0 h (eq-eqb n _ (sym (tab-at (λ i. i) 10 n 0 h)))

past_end : (ns : List ℕ) → any (eqb 11) ns ≡ true → any (eqb 12) ns ≡ true → (m : ℕ) → (m ≡ 11) ⊎ (m ≡ 12) → any (eqb m) ns ≡ true
past_end ns p q m (inl e) = is_one ns 11 p e
past_end ns p q m (inr e) = is_one ns 12 q e

read-fault : (m : ℕ) → (m ≡ 4) ⊎ ((m ≡ 11) ⊎ (m ≡ 12)) → any (eqb m) of_read ≡ true
unfolding any
read-fault m (inl e) = is_one of_read 4 refl e
read-fault m (inr e) = past_end of_read refl refl m e

-- a row of the table, and the rows below it
row_has : (byte m n : ℕ) (row rest : List ℕ) → (byte ≡ m → any (eqb n) row ≡ true) → ((byte ≡ m → ⊥) → any (eqb n) rest ≡ true)
    → any (eqb n) (cond (eqb byte m) row rest) ≡ true
row_has byte m n row rest here there = go (eqb byte m) refl
  where
    go : (c : Bool) → eqb byte m ≡ c → any (eqb n) (cond c row rest) ≡ true
    go true e = here (eqb-true byte m e)
    go false e = there (eqb-false byte m e)

module _ (b : Buffers) (slot clock : ℕ) where
  ends-among : (ns : List ℕ) (n : ℕ) → Among ns (effect_at (state_of b) slot clock b.disc) → Ends (state_of b) slot clock b.disc n
      → any (eqb n) ns ≡ true
  unfolding Among
  ends-among ns n h (stopped q z) = is_one ns 0 (subst (Among ns) q h) z
  ends-among ns n h (faulted q some few) = subst (Among ns) q h
  ends-among ns n h (unplaced name kind bytes l q p z) = is_one ns 10 (subst (Among ns) q h) z
  ends-among ns n h (broken r q d) = subst (Among ns) q h n (answer-fault (state_of b) slot b.disc r n d)

  module _ {byte : ℕ} (a : AtPc b slot byte) (n : ℕ) (ends : EndsBy b slot clock a.may n) where
    abbrev Performed : Instruction → List ℕ → Type 0
    Performed i ns =
        Among ns (performs (program_of b.disc (process_in b slot)) (stack_in b slot) (process_in b slot).loopstart (process_in b slot).pc
        clock i (owned (state_of b).variables (process_in b slot).id))

    -- that instruction is at PC
    bounded : (ns : List ℕ) (i : Instruction) (m : ℕ) → instruction_of m ≡ i → Performed i ns → byte ≡ m → any (eqb n) ns ≡ true
    bounded ns i m is h same = ends-among ns n (subst⁻¹ (Among ns) (at-performs b slot clock a i (ap instruction_of same ∙ is)) h) ends

    read-bounded : (m kind : ℕ) → instruction_of m ≡ Beyond (ReadNumber kind) → byte ≡ m → any (eqb n) of_read ≡ true
    unfolding Among performs
    read-bounded m kind is = bounded of_read (Beyond (ReadNumber kind)) m is read-fault

    -- an instruction that reaches not beyond its process
    other-bounded : (byte ≡ 5 → ⊥) → (byte ≡ 53 → ⊥) → (byte ≡ 54 → ⊥) → (byte ≡ 55 → ⊥) → (byte ≡ 56 → ⊥) → (byte ≡ 57 → ⊥)
        → (byte ≡ 58 → ⊥) → (byte ≡ 59 → ⊥) → (byte ≡ 68 → ⊥) → (byte ≡ 69 → ⊥)
        → any (eqb n) of_other ≡ true
    unfolding Among Sound Asked any
    other-bounded no5 no53 no54 no55 no56 no57 no58 no59 no68 no69 =
        ends-among of_other n (go (effect_at (state_of b) slot clock b.disc) refl sound) ends
      where
        prog : List ℕ
        prog = program_of b.disc (process_in b slot)

        sound : Sound prog (local_of (process_in b slot)) (effect_at (state_of b) slot clock b.disc)
        sound = exec-sound _ clock _ _
            (within-local (passes-good b.disc b.area a.may.passes) slot (live b slot a.may))

        at-pc : {m : ℕ} → get_or prog (process_in b slot).pc 0 ≡ m → byte ≡ m
        at-pc e = sym (byte-found b slot clock a) ∙ e

        asked : (r : Request) → Asked prog (local_of (process_in b slot)) r → ⊥
        asked (opens name size l) h = no53 (at-pc h.0)
        asked (closes l) h = no54 (at-pc h.0)
        asked (writes bytes l) h = no55 (at-pc h.0)
        asked (reads kind l) (inl q, w) = no56 (at-pc q)
        asked (reads kind l) (inr (inl q), w) = no57 (at-pc q)
        asked (reads kind l) (inr (inr q), w) = no58 (at-pc q)
        asked (reads_string l) h = no59 (at-pc h.0)
        asked (forks name l) h = no68 (at-pc h.0)
        asked (awaits id stay on) h = no69 (at-pc h.0)

        go : (f : Effect) → effect_at (state_of b) slot clock b.disc ≡ f → Sound prog (local_of (process_in b slot)) f → Among of_other f
        go (goes l out) q s = tt
        go (assigns name kind bytes l) q s = absurd (no5 (at-pc (exec-sets-byte prog clock _ _ name kind bytes l q)))
        go stops q s = refl
        go (faults m) q s = small m (omega (arith, s.1))
        go (asks r) q s = absurd (asked r s)

    faults-of-byte : any (eqb n) (faults_of byte reaching_faults) ≡ true
    unfolding Among faults_of any instruction_of operator_of lookup find performs
    faults-of-byte =
        row_has byte 5 n _ _ (bounded of_set SetVariable 5 refl sets) λ no5.
        row_has byte 53 n _ _ (bounded of_open (Beyond OpenFile) 53 refl opening) λ no53.
        row_has byte 54 n _ _ (bounded [] (Beyond CloseFile) 54 refl λ m h. absurd h) λ no54.
        row_has byte 55 n _ _ (bounded of_write (Beyond WriteFile) 55 refl writing) λ no55.
        row_has byte 56 n _ _ (read-bounded 56 2 reads_of.0) λ no56.
        row_has byte 57 n _ _ (read-bounded 57 1 reads_of.1) λ no57.
        row_has byte 58 n _ _ (read-bounded 58 4 reads_of.2) λ no58.
        row_has byte 59 n _ _ (bounded of_read (Beyond ReadString) 59 refl read-fault) λ no59.
        row_has byte 68 n _ _ (bounded of_popping (Beyond Fork) 68 refl forking) λ no68.
        row_has byte 69 n _ _ (bounded of_popping (Beyond WaitUntilDone) 69 refl waiting) λ no69.
        other-bounded no5 no53 no54 no55 no56 no57 no58 no59 no68 no69
      where
        st : List ℕ
        st = stack_in b slot

        sets : Performed SetVariable of_set
        sets =
            unless-among of_set (leb ((process_in b slot).pc + 1 + 1) (length (program_of b.disc (process_in b slot)))) 2 _ refl
            (popped-among of_set refl refl AnyValue st _ λ x rest. refl)

        opening : Performed (Beyond OpenFile) of_open
        opening =
            number-among of_open refl refl AnyNumber st _ λ size below.
            popped-among of_open refl refl AnyString below _ λ name rest m e. is_one of_open 13 refl e

        writing : Performed (Beyond WriteFile) of_write
        writing = popped-among of_write refl refl AnyValue st _ λ x rest. past_end of_write refl refl

        forking : Performed (Beyond Fork) of_popping
        forking = popped-among of_popping refl refl AnyString st _ λ name rest m h. absurd h

        waiting : Performed (Beyond WaitUntilDone) of_popping
        waiting = number-among of_popping refl refl AnyNumber st _ λ x rest m h. absurd h

pub faults-bounded : (b : Buffers) (slot clock : ℕ) → FaultsBounded b slot clock
faults-bounded b slot clock byte n a ends = faults-of-byte b slot clock a n (ended_by b slot clock a.may n ends)
