-- WRITE and the READs: the bytes of the open file from its offset on.
use Prim.Native.Nat.{ℕ, zero, suc, ◌+◌, ◌-◌, ◌≤◌, ◌<◌}
use mathlib.Core.Path.{◌≡◌, refl, sym, ap, subst, ◌∙◌}
use mathlib.Core.Bool.{Bool, true, false}
use mathlib.Core.List.{List, [], ◌∷◌, ◌++◌, append_assoc}
use mathlib.Core.Logic.{◌⊎◌, inl, inr}
use native.Mathlib.Nat.{le_of_suc-le-suc, not-suc-le-zero}
use native.Mathlib.Omega.{arith}
use lib.Dec.{eqb, leb}
use lib.ListN.{drop, get_or, length, length-append, length-drop}
use lib.Seq.{get_or-drop}
use borrow.Author.Tests.{eqb-false, leb-false}
use Rattle.buffer.specs.Buffer.{part}
use Rattle.disc.specs.Directory.{contents, files}
use Rattle.disc.proofs.Locations.{Held, held-inside}
use Rattle.disc.specs.Name.{trimmed, unless_zero}
use Rattle.disc.proofs.Names.{text-ends, text-with-zero}
use Rattle.disc.proofs.InARow.{contents-byte, contents-within}
use Rattle.store.specs.File.{read_at}
use Rattle.store.proofs.Steps.{written-steps}
use Rattle.store.proofs.Contents.{contents-length}
use Rattle.machine.specs.Answer.{Buffers}
use Rattle.machine.specs.AtPc.{Onward, SameDisc, process_in, stack_in}
use Rattle.machine.specs.Beyond.{advanced, answered, continues, file_run, pushed, received, unless_breaks}
use Rattle.machine.specs.Effect.{Request, asks, reads, reads_string, writes}
use Rattle.machine.specs.Fields.{Lowest}
use Rattle.machine.specs.Instruction.{instruction_of}
use Rattle.machine.specs.Limits.{stack_size}
use Rattle.machine.specs.AtPc.{ahead}
use Rattle.machine.specs.Reaching.{Faults, InFile, ReadExactly, ReadStringExactly, Receives, WriteExactly, byte_in, read}
use Rattle.machine.specs.Refusals.{MayTurn, state_of}
use Rattle.machine.specs.Stack.{push_string}
use Rattle.machine.specs.State.{Local}
use Rattle.machine.specs.declared.Kernel.{Kernel}
use Rattle.machine.specs.declared.OpenFile.{OpenFile}
use Rattle.machine.specs.declared.instruction.Instruction.TheVariants.{Beyond}
use Rattle.machine.specs.declared.instruction.Reach.TheVariants.{ReadNumber}
use Rattle.machine.proofs.Changes.Change.{GoodState}
use Rattle.machine.proofs.Changes.Directories.{live-record, open_at}
use Rattle.machine.proofs.Demands.GoodCalls.{passes-good}
use Rattle.machine.proofs.Goodness.GoodRecords.{GoodFile}
use Rattle.machine.proofs.Reaching.Finding.{Does, at, read_found, read-string-found, write-found}
use Rattle.machine.proofs.Reaching.Going.{broken-by, continued, in-file, live}

-- no byte of a text is zero
text-no-zero : (l : List ℕ) (i : ℕ) → i < length (trimmed l) → get_or l i 0 ≡ 0 → ⊥
unfolding trimmed
text-no-zero [] i h e = not-suc-le-zero h
text-no-zero (c ∷ l) i h e = go (eqb c 0) refl (text-no-zero l) i h e
  where
    go : (z : Bool) → eqb c 0 ≡ z → ((j : ℕ) → j < length (trimmed l) → get_or l j 0 ≡ 0 → ⊥) → (i : ℕ)
        → i < length (unless_zero z c (trimmed l)) → get_or (c ∷ l) i 0 ≡ 0 → ⊥
    go true q more i h e = not-suc-le-zero h
    go false q more zero h e = eqb-false c 0 q e
    go false q more (suc i) h e = more i (le_of_suc-le-suc h) e

module _ (b : Buffers) (slot clock : ℕ) where
  abbrev k : Kernel
  k = state_of b

  abbrev pc : ℕ
  pc = (process_in b slot).pc + 1

  abbrev f : OpenFile
  f = (process_in b slot).file

  -- an open file is one of the disc's
  open-held : MayTurn b slot → (f.len ≡ 0 → ⊥) → Held b.disc (file_run f)
  open-held may some = go (live-record good slot (live b slot may)).file
    where
      good : GoodState k b.disc
      good = passes-good b.disc b.area may.passes

      go : GoodFile (files b.disc) f → Held b.disc (file_run f)
      go (inl c) = absurd (some c.len)
      go (inr o) = record { sound = good.sound; file = open_at o }

  -- its bytes lie in a row
  in-a-row : (n : ℕ) → f.offset + n ≤ f.len → part (contents b.disc (file_run f)) f.offset n ≡ read b slot clock n
  in-a-row n fits = contents-within b.disc (file_run f) f.offset n fits

  pub write-exactly : WriteExactly b slot clock
  unfolding answered
  write-exactly rest kind bytes a top =
      let does = write-found b slot clock rest kind bytes a top in
      in-file b slot clock a.may (writes bytes (at b slot pc rest)) does (length bytes) _ _ refl
      (λ fits e.
      let c = continued b slot clock a.may (writes bytes (at b slot pc rest)) does pc rest (advanced f (length bytes)) _ e in
      (c.0, c.1 ∙ sym (written-steps b.disc (file_run f) f.offset bytes)))

  -- n bytes further, with this stack if it can be that long
  receives : MayTurn b slot → (r : Request) → Does b slot clock (asks r) → (stack value : List ℕ) (n : ℕ) → stack ≡ stack_in b slot ++ value
      → answered k slot b.disc r ≡ received k slot b.disc stack n (at b slot pc (stack_in b slot))
      → Receives b slot clock n value
  receives may r does stack value n whole e = go (leb (length stack) stack_size) refl e
    where
      go : (c : Bool) → leb (length stack) stack_size ≡ c
          → answered k slot b.disc r
          ≡ unless_breaks c 4 (continues k slot b.disc (pushed (at b slot pc (stack_in b slot)) stack) (advanced f n) b.disc)
          → Receives b slot clock n value
      go false h e = inl (
        subst (λ (s : List ℕ). stack_size < length s) whole (leb-false (length stack) stack_size h),
        broken-by b slot clock may r does 4 e,
      )
      go true h e =
          inr (subst (λ (s : List ℕ). Onward b slot clock pc s (ahead b slot n) × SameDisc b slot clock) whole
          (continued b slot clock may r does pc stack (advanced f n) b.disc e))

  pub read-exactly : (byte kind : ℕ) → instruction_of byte ≡ Beyond (ReadNumber kind) → ReadExactly b slot clock byte kind
  unfolding answered read_at
  read-exactly byte kind i a =
      let l = at b slot pc (stack_in b slot) in
      let does = read_found b slot clock byte kind i a in
      in-file b slot clock a.may (reads kind l) does kind _ _ refl
      (λ fits e. receives a.may (reads kind l) does _ (read b slot clock kind ++ (kind ∷ [])) kind
      (append_assoc (stack_in b slot) _ (kind ∷ [])
      ∙ ap (λ (v : List ℕ). stack_in b slot ++ (v ++ (kind ∷ []))) (in-a-row kind fits))
      e)

  -- ---- READSTRING
  abbrev bytes_ahead : List ℕ
  bytes_ahead = drop f.offset (contents b.disc (file_run f))

  abbrev text : List ℕ
  text = trimmed bytes_ahead

  byte-ahead : (j : ℕ) → f.offset + j < f.len → get_or bytes_ahead j 0 ≡ byte_in b slot clock j
  byte-ahead j h = get_or-drop f.offset (contents b.disc (file_run f)) j 0 ∙ contents-byte b.disc (file_run f) (f.offset + j) h

  no_zero : (j : ℕ) → j < length text → f.offset + j < f.len → byte_in b slot clock j ≡ 0 → ⊥
  no_zero j low h e = text-no-zero bytes_ahead j low (byte-ahead j h ∙ e)

  -- the text and its zero
  text-read : MayTurn b slot → f.offset + (length text + 1) ≤ f.len → text ++ (0 ∷ []) ≡ read b slot clock (length text + 1)
  text-read may fits =
      let long : length bytes_ahead ≡ f.len - f.offset =
      length-drop f.offset (contents b.disc (file_run f))
      ∙ ap (λ (n : ℕ). n - f.offset) (contents-length b.disc (file_run f) (held-inside (open-held may (λ z. omega arith)))) in
      sym (text-with-zero bytes_ahead (omega arith)) ∙ in-a-row (length text + 1) fits

  pub read-string-exactly : ReadStringExactly b slot clock
  unfolding answered
  read-string-exactly a =
      go (in-file b slot clock a.may (reads_string l) does (length text + 1) _ (Receives b slot clock (length text + 1) value) refl
      (λ fits e. receives a.may (reads_string l) does _ value (length text + 1) (pushes fits) e))
    where
      l : Local
      l = at b slot pc (stack_in b slot)

      does : Does b slot clock (asks (reads_string l))
      does = read-string-found b slot clock a

      value : List ℕ
      value = read b slot clock (length text + 1) ++ ((length text + 1) ∷ 3 ∷ [])

      pushes : f.offset + (length text + 1) ≤ f.len → push_string (stack_in b slot) (text ++ (0 ∷ [])) ≡ stack_in b slot ++ value
      pushes fits =
          append_assoc (stack_in b slot) (text ++ (0 ∷ [])) (length (text ++ (0 ∷ [])) ∷ 3 ∷ [])
          ∙ (λ z. stack_in b slot ++ (text-read a.may fits z ++ (length-append text (0 ∷ []) z ∷ 3 ∷ [])))

      go : InFile b slot clock (length text + 1) (Receives b slot clock (length text + 1) value)
          → ((f.len ≡ 0) × Faults b slot clock 11)
          ⊎ ((0 < f.len)
          × ((((j : ℕ) → f.offset + j < f.len → byte_in b slot clock j ≡ 0 → ⊥) × Faults b slot clock 12)
          ⊎ ((n : ℕ) × (f.offset + n < f.len) × Lowest (λ j. byte_in b slot clock j ≡ 0) n
          × Receives b slot clock (n + 1) (read b slot clock (n + 1) ++ ((n + 1) ∷ 3 ∷ [])))))
      go (inl closed) = inl closed
      go (inr (some, inl past)) = inr (some, inl (λ j h. no_zero j (omega (arith, past.0)) h, past.1))
      go (inr (some, inr (fits, done))) =
          let low : f.offset + length text < f.len = omega arith in
          let zero = sym (byte-ahead (length text) low) ∙ text-ends bytes_ahead in
          inr (some, inr (length text, low, (zero, λ m h. no_zero m h (omega arith)), done))
