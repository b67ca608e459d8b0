-- Fault 4 where the stack has no room; else the bytes ahead and the tail go onto it.
use Prim.Native.Nat.{ℕ, ◌+◌, ◌≤◌}
use mathlib.Core.Path.{◌≡◌, sym, ap, subst, ◌∙◌}
use mathlib.Core.List.{List, ◌++◌}
use native.Mathlib.Omega.{arith}
use lib.ListN.{length, drop, replicate, take, length-append}
use lib.Seq.{length-take-le, take_at}
use Rattle.machine.specs.Area.{kernel_of}
use Rattle.machine.specs.Beyond.{Answered, advanced, file_run, received}
use Rattle.machine.specs.Limits.{stack_size}
use Rattle.machine.specs.declared.OpenFile.{OpenFile}
use Rattle.machine.specs.declared.Process.{Process}
use Rattle.place.specs.declared.Run.{Run}
use Rattle.process.specs.Stepping.{Stepping, own_at, stack_of}
use Rattle.process.proofs.Advancing.{may-go-on}
use Rattle.stack.specs.declared.Step.{Step}
use Rattle.stack.specs.Steps.{keeping, placed}
use Rattle.store.specs.File.{read_at}
use Rattle.request.specs.Answers.{Ahead}
use Rattle.request.proofs.Accesses.{has_room, no_room, read_length}
use Rattle.request.proofs.Answering.{breaks-off, goes_on}
use Rattle.request.proofs.file.push_read.Goals as goal

-- what is lent: n bytes
abbrev zeros : List ℕ
zeros = replicate stack_size 0

lent-length : (n : ℕ) → n ≤ stack_size → length (take n zeros) ≡ n
lent-length n h = length-take-le n zeros (omega arith)

-- ---- the file is that of the process
module _ {area : List ℕ} {slot : ℕ} {d : Step} (s : Stepping area slot (own_at area slot) d) {disc : List ℕ} {file : OpenFile}
    (is : file ≡ (own_at area slot).file) {n : ℕ} (h : Ahead disc file n) where
  abbrev own : Process
  own = own_at area slot

  own-ahead : Ahead disc own.file n
  own-ahead = subst (λ (f : OpenFile). Ahead disc f n) is h

  abbrev answer : List ℕ → OpenFile → Answered
  answer tail f =
      received (kernel_of area) slot disc (take d.kept (stack_of own) ++ read_at disc (file_run f) f.offset n ++ tail) n
      (keeping (stack_of own) d)

  -- what is read
  module _ {run : Run} {lent : ℕ} {bytes : List ℕ} (r : run ≡ file_run file) (l : lent ≡ n)
      (e : bytes ≡ read_at disc run file.offset lent) where
    read-is : bytes ≡ read_at disc (file_run own.file) own.file.offset n
    read-is = e ∙ (λ i. read_at disc (r i) file.offset (l i)) ∙ ap (λ (f : OpenFile). read_at disc (file_run f) f.offset n) is

    bytes-length : length bytes ≡ n
    bytes-length = ap length read-is ∙ read_length s own-ahead

    -- what is pushed
    filled-is : take n (bytes ++ drop n zeros) ≡ bytes
    filled-is = take_at bytes (drop n zeros) n bytes-length

pub returns-then-d-n-gt-STACK_SIZE : goal.returns-then-d-n-gt-STACK_SIZE
returns-then-d-n-gt-STACK_SIZE c =
    let a = c.args in
    let (s, is, h, _) = c.requires in
    breaks-off s a.disc.now
    (ap (answer s is h a.tail.now) is
    ∙ no_room s (own-ahead s is h) a.tail.now (keeping (stack_of (own_at a.area.now a.slot)) a.d) (omega arith))
    c.fail.ensures

pub slice_bounds-read_at-end : goal.slice_bounds-read_at-end
slice_bounds-read_at-end c = sym (lent-length c.args.n (omega arith))

pub read_at-requires : goal.read_at-requires
read_at-requires c =
    let h = c.requires.2 in
    let n = lent-length c.args.n (omega arith) in
    rw c.file_run.ensures (omega (arith, h.within), h.inside)

pub slice_bounds-bytes-end-2 : goal.slice_bounds-bytes-end-2
slice_bounds-bytes-end-2 c =
    let (s, is, h, _) = c.requires in
    let n = bytes-length s is h c.file_run.ensures (lent-length c.args.n (omega arith)) c.read_at.ensures in
    simp length-append (omega arith)

pub slice_bounds-go_on-end : goal.slice_bounds-go_on-end
slice_bounds-go_on-end c =
    let (s, is, h, _) = c.requires in
    let lent = lent-length c.args.n (omega arith) in
    let n = bytes-length s is h c.file_run.ensures lent c.read_at.ensures in
    sym (ap length (filled-is s is h c.file_run.ensures lent c.read_at.ensures) ∙ n)

pub go_on-requires : goal.go_on-requires
go_on-requires c =
    let (s, is, h, _) = c.requires in
    let lent = lent-length c.args.n (omega arith) in
    let filled = filled-is s is h c.file_run.ensures lent c.read_at.ensures in
    let n = ap length filled ∙ bytes-length s is h c.file_run.ensures lent c.read_at.ensures in
    may-go-on s (length (take c.args.n (c.read_at.new.out ++ drop c.args.n zeros)) + length c.args.tail.now) (omega arith)

pub returns : goal.returns
returns c =
    let a = c.args in
    let (s, is, h, _) = c.requires in
    let own = own_at a.area.now a.slot in
    let lent = lent-length a.n (omega arith) in
    let laid = filled-is s is h c.file_run.ensures lent c.read_at.ensures ∙ read-is s is h c.file_run.ensures lent c.read_at.ensures in
    goes_on s a.disc.now
    (ap (answer s is h a.tail.now) is ∙ has_room s (own-ahead s is h) a.tail.now (keeping (stack_of own) a.d) (omega arith))
    (ap (λ (l : List ℕ). placed (take a.d.kept (stack_of own) ++ l ++ a.tail.now) a.d.pc a.d.loopstart) laid)
    (c.advanced.ensures ∙ ap (λ (f : OpenFile). advanced f a.n) is) c.go_on.ensures
