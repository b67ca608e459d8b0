-- A step in place: the few bytes that are written of a record are those of the state with its process gone on.
use Prim.Native.Nat.{ℕ, ◌+◌, ◌-◌, ◌≤◌, ◌<◌}
use mathlib.Core.Path.{◌≡◌, refl, sym, ap, subst, ◌∙◌}
use mathlib.Core.List.{List, [], ◌∷◌, ◌++◌, append_assoc, append-nil}
use native.Mathlib.Nat.{add_assoc}
use native.Mathlib.Omega.{arith}
use lib.ListN.{length, take, drop, drop_of_length-le, length-append, length-replicate}
use lib.Seq.{drop-append-add, length-take-le, set-get_or, take-append-add, take-take}
use Rattle.buffer.specs.Buffer.{overwrite, word_bytes, zeros}
use Rattle.buffer.proofs.Buffer.{overwrite-length}
use Rattle.machine.specs.Area.{Whole, kernel_bytes, kernel_of, process_bytes, register_bytes, stack_at}
use Rattle.machine.specs.Limits.{area_length, record_size, slot_count, stack_size}
use Rattle.machine.specs.State.{no_process, process_at, stack_bytes, with_file, with_local}
use Rattle.machine.specs.declared.Kernel.{Kernel}
use Rattle.machine.specs.declared.OpenFile.{OpenFile}
use Rattle.machine.specs.declared.Process.{Process}
use Rattle.machine.proofs.Bytes.Records.{process-bytes-length}
use Rattle.machine.proofs.Bytes.Sizes.{SizedProcess, decoded-sized, with-local-sized}
use Rattle.area.specs.Parts.{record_at}
use Rattle.buffer.proofs.Runs.{overwrite-front, overwrite-middle}
use Rattle.area.proofs.Writing.{process-written}
use Rattle.stack.proofs.Steps.{pushed-length}
use Rattle.stack.specs.Steps.{keeping}
use Rattle.stack.specs.declared.Step.{Step}
use Rattle.process.specs.Stepping.{Room, Stepping, own_at, pc_at, pushing, registers_from, stack_of, went_on}

-- ---- bytes laid within a run
overwrite-back : (x y s : List ℕ) (i : ℕ) → overwrite (x ++ y) (length x + i) s ≡ x ++ overwrite y i s
overwrite-back x y s i = rw (take-append-add, add_assoc, drop-append-add) (simp append_assoc)

overwrite-inside : (d r s : List ℕ) (at i : ℕ) → at + length r ≤ length d → i + length s ≤ length r
    → overwrite (overwrite d at r) (at + i) s ≡ overwrite d at (overwrite r i s)
overwrite-inside d r s at i h k =
    let n : length (take at d) ≡ at = length-take-le at d (omega arith) in
    let rest = drop (at + length r) d in
    ap (λ (m : ℕ). overwrite (overwrite d at r) (m + i) s) (sym n)
    ∙ overwrite-front (take at d ++ r) rest s (length (take at d) + i) (omega (arith, length-append (take at d) r))
    ∙ ap (λ (l : List ℕ). l ++ rest) (overwrite-back (take at d) r s i)
    ∙ ap (λ (m : ℕ). take at d ++ overwrite r i s ++ drop (at + m) d) (sym (overwrite-length r s i k))

-- ---- one record
module _ (p : Process) (sized : SizedProcess p) (kept : ℕ) (head tail : List ℕ) (room : Room p kept (length head + length tail)) where
  abbrev sp : ℕ
  sp = kept + length head + length tail

  -- what is laid from `kept` on
  abbrev above : List ℕ
  above = head ++ tail ++ zeros (stack_size - sp)

  sp-is : length (take kept (stack_of p) ++ head ++ tail) ≡ sp
  sp-is =
      let low = length-take-le p.sp p.stack (omega (arith, sized.stack, room.sp)) in
      pushed-length (stack_of p) head tail kept (omega (arith, room.kept))

  above-length : kept + length above ≡ stack_size
  above-length = simp (length-append, length-replicate) (omega (arith, room.fits))

  stack-laid : overwrite p.stack kept above ≡ stack_bytes (take kept (stack_of p) ++ head ++ tail)
  stack-laid =
      rw (
        drop_of_length-le p.stack {i = kept + length above} (omega (arith, sized.stack, above-length)),
        sp-is,
        take-take kept p.sp p.stack room.kept,
      )
      (simp (append_assoc, append-nil))

  module _ (pc loopstart : ℕ) (file : OpenFile) where
    abbrev moved : Process
    moved = with_file (with_local p (pushing p kept pc loopstart head tail)) file

    registers-laid : overwrite (process_bytes p) pc_at (registers_from pc loopstart file sp) ≡ p.name ++ register_bytes moved ++ p.stack
    registers-laid =
        let q = p.code in
        let front : List ℕ = p.name ++ (word_bytes p.id ++ (p.state ∷ p.fault ∷ []) ++ word_bytes q.start ++ word_bytes q.len) in
        let old = registers_from p.pc p.loopstart p.file p.sp in
        let parted : process_bytes p ≡ front ++ old ++ (p.share ∷ p.stack) = simp append_assoc in
        ap (λ (l : List ℕ). overwrite l pc_at (registers_from pc loopstart file sp)) parted
        ∙ overwrite-middle front old (registers_from pc loopstart file sp) (p.share ∷ p.stack) pc_at
        (simp length-append (omega (arith, sized.name))) refl
        ∙ rw sp-is (simp append_assoc)

    pub record-laid : overwrite (overwrite (process_bytes p) pc_at (registers_from pc loopstart file sp)) (stack_at + kept) above
        ≡ process_bytes moved
    record-laid =
        let front : List ℕ = p.name ++ register_bytes moved in
        let n : length front ≡ stack_at = simp length-append (omega (arith, sized.name)) in
        ap (λ (l : List ℕ). overwrite l (stack_at + kept) above) registers-laid
        ∙ ap (λ (m : ℕ). overwrite (front ++ p.stack) (m + kept) above) (sym n)
        ∙ overwrite-back front p.stack above kept
        ∙ ap (λ (l : List ℕ). front ++ l) stack-laid

-- ---- the record in its area
module _ (area : List ℕ) (size : length area ≡ area_length) (whole : Whole area) (slot : ℕ) (low : slot < slot_count) where
  abbrev k : Kernel
  k = kernel_of area

  abbrev old : Process
  old = process_at k slot

  old-sized : SizedProcess old
  old-sized = (decoded-sized area size).each slot low

  record-there : overwrite area (record_at slot) (process_bytes old) ≡ area
  record-there =
      sym (process-written area size whole slot old low old-sized)
      ∙ ap (λ (l : List Process). kernel_bytes (record { variables = k.variables; next = k.next; zeros = k.zeros; processes = l }))
      (set-get_or k.processes slot no_process)
      ∙ whole

  pub went-on-bytes : (kept pc loopstart : ℕ) (head tail : List ℕ) (file : OpenFile) {sp : ℕ} {one two : List ℕ}
      → Room old kept (length head + length tail) → sp ≡ kept + length head + length tail
      → one ≡ overwrite area (record_at slot + pc_at) (registers_from pc loopstart file sp)
      → two ≡ overwrite one (record_at slot + stack_at + kept) (head ++ tail ++ zeros (stack_size - (kept + length head + length tail)))
      → two ≡ kernel_bytes (went_on k slot kept pc loopstart head tail file)
  went-on-bytes kept pc loopstart head tail file room e x y =
      let r = process_bytes old in
      let m : length r ≡ record_size = process-bytes-length old old-sized in
      let new = registers_from pc loopstart file (kept + length head + length tail) in
      let top = above old old-sized kept head tail room in
      let after = moved old old-sized kept head tail room pc loopstart file in
      let n : length (overwrite r pc_at new) ≡ record_size = overwrite-length r new pc_at (omega arith) ∙ m in
      let laid = above-length old old-sized kept head tail room in
      let fits = with-local-sized old old-sized (pushing old kept pc loopstart head tail)
      (omega (arith, sp-is old old-sized kept head tail room, room.fits)) in
      let there = sym record-there in
      let first = x ∙ (λ i. overwrite (there i) (record_at slot + pc_at) (registers_from pc loopstart file (e i)))
      ∙ overwrite-inside area r new (record_at slot) pc_at (omega arith) (omega arith) in
      y
      ∙ (λ i. overwrite (first i) (add_assoc (record_at slot) stack_at kept i) top)
      ∙ overwrite-inside area (overwrite r pc_at new) top (record_at slot) (stack_at + kept) (omega arith) (omega arith)
      ∙ ap (overwrite area (record_at slot)) (record-laid old old-sized kept head tail room pc loopstart file)
      ∙ sym (process-written area size whole slot after low (record { name = fits.name; stack = fits.stack }))

-- ---- of the process as it was copied out
module _ {area : List ℕ} {slot : ℕ} {p : Process} {d : Step} (s : Stepping area slot p d) where
  pub own_room : (kept n : ℕ) → kept ≤ p.sp → kept + n ≤ stack_size → Room (process_at (kernel_of area) slot) kept n
  own_room kept n a b = subst (λ (q : Process). Room q kept n) s.own (record { sp = s.sp; kept = a; fits = b })

  pub own-stepping : Stepping area slot (own_at area slot) d
  own-stepping = subst (λ (q : Process). Stepping area slot q d) s.own s

  pub own-file : p.file ≡ (own_at area slot).file
  own-file = ap (λ (q : Process). q.file) s.own

  -- all that going on with what the step keeps asks for
  pub may-go-on : (n : ℕ) → d.kept + n ≤ stack_size
      → (length area ≡ area_length) × (slot < slot_count) × Room (process_at (kernel_of area) slot) d.kept n
  may-go-on n h = (s.size, s.low, own_room d.kept n s.kept h)

  pub may-keep : (length area ≡ area_length) × (slot < slot_count) × Room (process_at (kernel_of area) slot) d.kept 0
  may-keep = may-go-on 0 (omega (arith, s.kept, s.sp))

  pub own-pushing : (kept pc loopstart : ℕ) (head tail : List ℕ)
      → pushing (process_at (kernel_of area) slot) kept pc loopstart head tail ≡ pushing p kept pc loopstart head tail
  own-pushing kept pc loopstart head tail = ap (λ (q : Process). pushing q kept pc loopstart head tail) (sym s.own)

  -- nothing above what the step keeps
  pub own-keeping : pushing (process_at (kernel_of area) slot) d.kept d.pc d.loopstart [] [] ≡ keeping (stack_of p) d
  own-keeping = own-pushing d.kept d.pc d.loopstart [] [] ∙ simp append-nil
