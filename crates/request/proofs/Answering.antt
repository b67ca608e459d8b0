-- What an answer leaves: the process goes on, or a fault ends it.
use Prim.Native.Nat.{ℕ, ◌+◌, ◌/◌, ◌%◌, ◌≤◌, ◌<◌}
use mathlib.Core.Path.{◌≡◌, sym, ap, subst⁻¹, ◌∙◌}
use mathlib.Core.Bool.{Bool, cond, false}
use mathlib.Core.List.{List, [], ◌∷◌, append-nil}
use native.Mathlib.Omega.{arith}
use lib.ListN.{length}
use lib.Seq.{get_or-set_other, length-take-le, take-take}
use Rattle.buffer.specs.Lists.{any}
use Rattle.buffer.proofs.Bools.{true-not-false}
use Rattle.machine.specs.Area.{kernel_bytes, kernel_of}
use Rattle.machine.specs.Beyond.{Answered, answered, breaks, carries_on, continues, forked, push_id}
use Rattle.machine.specs.Effect.{awaits}
use Rattle.machine.specs.Limits.{area_length, slot_count, stack_size}
use Rattle.machine.specs.Start.{started, started_process, starts}
use Rattle.machine.specs.Ended.{ended}
use Rattle.machine.specs.State.{Local, is_live, local_of, no_process, process_at, with_file, with_local, with_process}
use Rattle.machine.specs.declared.Kernel.{Kernel}
use Rattle.machine.specs.declared.OpenFile.{OpenFile}
use Rattle.machine.specs.declared.Process.{Process}
use Rattle.machine.proofs.Changes.LiveRecords.{running-live}
use Rattle.number.specs.declared.Number.{Number}
use Rattle.process.specs.Stepping.{Left, Room, Stepping, left, pushing, stack_of, went_on}
use Rattle.process.proofs.Advancing.{own-file, own-pushing}
use Rattle.stack.specs.Steps.{about, keeping, placed}
use Rattle.stack.specs.declared.Step.{Step}
use Rattle.disc.specs.declared.Entry.{Entry}
use Rattle.request.specs.Answers.{after, is_awaited_by}

module _ {area : List ℕ} {slot : ℕ} {p : Process} {d : Step} (s : Stepping area slot p d) (disc : List ℕ) where
  abbrev k : Kernel
  k = kernel_of area

  pub answers : {x : Left} {a b : Answered} → x ≡ after disc area slot a → a ≡ b → x ≡ after disc area slot b
  answers e t = e ∙ ap (after disc area slot) t

  pub breaks-off : {next : List ℕ} {a : Answered} {fault : ℕ} → a ≡ breaks fault → next ≡ kernel_bytes (ended k slot fault)
      → left disc next ≡ after disc area slot a
  breaks-off b e = answers (ap (left disc) e) (sym b)

  -- on in state l with file f, as the code has them
  pub goes_on : {disc' next : List ℕ} {a : Answered} {l m : Local} {f g : OpenFile} → a ≡ continues k slot disc m g disc' → l ≡ m → f ≡ g
      → next ≡ kernel_bytes (with_process k slot (with_file (with_local (process_at k slot) l) f))
      → left disc' next ≡ after disc area slot a
  goes_on {disc'} b h w e =
      answers (ap (left disc') (e ∙ (λ i. kernel_bytes (with_process k slot (with_file (with_local (process_at k slot) (h i)) (w i))))))
      (sym b)

  -- on in state l, with the file that it has
  pub steps_on : {next : List ℕ} {a : Answered} {l : Local} (m : Local)
      → a ≡ carries_on (with_process k slot (with_local (process_at k slot) m)) disc → l ≡ m
      → next ≡ kernel_bytes (with_process k slot (with_file (with_local (process_at k slot) l) p.file))
      → left disc next ≡ after disc area slot a
  steps_on m b h e = goes_on b h (own-file s) e

  -- ---- FORK, to a child in a slot that had ended
  module _ (child : ℕ) (e : Entry) (free : is_live (process_at k child) ≡ false) where
    pub still-own : process_at (started k child e) slot ≡ p
    still-own = get_or-set_other k.processes child slot (started_process e k.next) no_process other ∙ sym s.own
      where
        other : slot ≡ child → ⊥
        other q = true-not-false (running-live p s.running) (ap is_live s.own ∙ ap (λ (i : ℕ). is_live (process_at k i)) q ∙ free)

    pub may-fork-on : (next : List ℕ) → length next ≡ area_length → kernel_of next ≡ started k child e → d.kept + 3 ≤ stack_size
        → (length next ≡ area_length) × (slot < slot_count) × Room (process_at (kernel_of next) slot) d.kept 3
    may-fork-on next size x h = (
      size,
      s.low,
      subst⁻¹ (λ (q : Process). Room q d.kept 3) (ap (λ (q : Kernel). process_at q slot) x ∙ still-own)
          (record { sp = s.sp; kept = s.kept; fits = h }),
    )

    -- on with the child's ID pushed
    pub forks-on : (begun : List ℕ) {next : List ℕ} {high low : ℕ} {file : OpenFile} → kernel_of begun ≡ started k child e
        → high ≡ k.next / 256 → low ≡ k.next % 256 → file ≡ p.file
        → next ≡ kernel_bytes (went_on (kernel_of begun) slot d.kept d.pc d.loopstart (high ∷ low ∷ []) (2 ∷ []) file)
        → left disc next ≡ after disc area slot (forked k slot disc (starts child e) (keeping (stack_of p) d))
    forks-on begun b h l f x =
        let parent : Process → Process = λ q. with_file (with_local q (push_id (keeping (stack_of q) d) k.next)) p.file in
        ap (left disc)
        (x
        ∙ (λ i. kernel_bytes (went_on (b i) slot d.kept d.pc d.loopstart (h i ∷ l i ∷ []) (2 ∷ []) (f i)))
        ∙ ap (λ (q : Process). kernel_bytes (with_process (started k child e) slot (parent q))) still-own
        ∙ ap
        (λ (q : Process). kernel_bytes (with_process (started k child e) slot (with_local q (push_id (keeping (stack_of p) d) k.next))))
        s.own)

-- WAITUNTILDONE, by whether a live process has the ID
pub awaited-by : (area : List ℕ) (slot : ℕ) (disc : List ℕ) (id : Number) (stay go : Local) {b : Bool}
    → any (is_awaited_by id) (kernel_of area).processes ≡ b
    → answered (kernel_of area) slot disc (awaits id stay go)
    ≡ carries_on (with_process (kernel_of area) slot (with_local (process_at (kernel_of area) slot) (cond b stay go))) disc
unfolding answered
awaited-by area slot disc id stay go e =
    let k = kernel_of area in
    ap (λ (b : Bool). carries_on (with_process k slot (with_local (process_at k slot) (cond b stay go))) disc) e

-- ---- what the step keeps and holds
-- all of it, where the process stays
pub own-staying : {area : List ℕ} {slot : ℕ} {p : Process} {d : Step} (s : Stepping area slot p d)
    → pushing (process_at (kernel_of area) slot) p.sp p.pc p.loopstart [] [] ≡ local_of p
own-staying {p = p} s =
    own-pushing s p.sp p.pc p.loopstart [] []
    ∙ ap (λ (l : List ℕ). placed l p.pc p.loopstart) (simp append-nil (take-take p.sp p.sp p.stack (omega arith)))

module _ {area : List ℕ} {slot : ℕ} {p : Process} {d : Step} (s : Stepping area slot p d) (size : length d.bytes ≡ stack_size) where
  pub about-inside : d.len ≤ length d.bytes
  about-inside = omega (arith, s.len)

  pub about-length : length (about d) ≡ d.len
  about-length = length-take-le d.len d.bytes about-inside
