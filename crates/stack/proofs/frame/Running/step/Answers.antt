-- Head and tail, laid one behind the other over zeros, are the bytes of the step.
use Rattle.std.proofs.Common.{ℕ, ◌+◌, ◌-◌, ◌≤◌, ◌≡◌, List, ◌++◌, length, replicate, sym, ap, ◌∙◌, arith, length-append}
use lib.ListN.{length-replicate}
use native.Mathlib.Nat.{zero-add}
use Rattle.buffer.specs.Buffer.{overwrite}
use Rattle.buffer.proofs.Buffer.{overwrite-joined, overwrite-zeros}
use Rattle.machine.specs.Limits.{stack_size}
use Rattle.stack.proofs.frame.Running.step.Goals as goal

-- two parts laid over the zeros of a whole stack
laid : (head tail : List ℕ) → length head + length tail ≤ stack_size → {first second : List ℕ}
    → first ≡ overwrite (replicate stack_size 0) 0 head → second ≡ overwrite first (length head) tail
    → second ≡ head ++ tail ++ replicate (stack_size - length (head ++ tail)) 0
laid head tail fits x y =
    y
    ∙ ap (λ (l : List ℕ). overwrite l (length head) tail) x
    ∙ overwrite-joined (replicate stack_size 0) head tail 0 (length head) (sym (zero-add (length head)))
    (rw (length-replicate {A = ℕ} stack_size 0) (omega arith))
    ∙ overwrite-zeros (head ++ tail) stack_size

pub returns : goal.returns
returns c =
    let a = c.args in
    let bytes = laid a.head.now a.tail.now c.requires.1 c.overwrite_at.ensures c.overwrite_at-2.ensures in (
      λ t. record {
        action = a.action;
        kept = a.kept;
        bytes = bytes t;
        len = sym (length-append a.head.now a.tail.now) t;
        pc = a.pc;
        loopstart = a.self.now.loopstart;
      },
      omega (arith, c.requires.1),
    )
