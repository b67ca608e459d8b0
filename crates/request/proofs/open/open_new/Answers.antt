-- A file of the size asked for, cut toward zero, or fault 13.
use Rattle.std.specs.Prelude.{Option}
use Prim.Native.Nat.{ℕ}
use mathlib.Core.Path.{◌≡◌, sym, ap, ◌∙◌}
use mathlib.Core.List.{List}
use native.Mathlib.Omega.{arith}
use Rattle.number.specs.Compare.{size_within}
use Rattle.number.specs.declared.Number.{Number}
use Rattle.machine.specs.Area.{kernel_of}
use Rattle.machine.specs.Beyond.{Answered, created, new_file_size}
use Rattle.process.specs.Stepping.{stack_of}
use Rattle.stack.specs.Steps.{about, keeping}
use Rattle.store.specs.File.{size_limit}
use Rattle.store.proofs.Rooms.{size-limit-is}
use Rattle.request.proofs.Answering.{answers, breaks-off}
use Rattle.request.proofs.open.open_new.Goals as goal

-- the size that the test gives is the one that the disc's limit gives
size-is : (disc : List ℕ) (size : Number) {max : ℕ} {s t : Option ℕ} → t ≡ s → t ≡ size_within max size → max ≡ size_limit disc
    → s ≡ new_file_size disc size
size-is disc size e f g = sym e ∙ f ∙ ap (λ (m : ℕ). size_within m size) (g ∙ size-limit-is disc)

pub overflow_cast-max : goal.overflow_cast-max
overflow_cast-max c = omega (arith, c.size_limit-max.ensures, size-limit-is c.args.disc.now, c.requires.1.high)

pub returns-in-Some : goal.returns-in-Some
returns-in-Some c =
    let a = c.args in
    let answer : Option ℕ → Answered =
    λ x. created (kernel_of a.area.now) a.slot a.disc.now x (about a.d) (keeping (stack_of a.p) a.d) in
    answers c.requires.0 a.disc.now c.create_file.ensures
    (ap answer (size-is a.disc.now a.size c.in-Some.is c.size_within.ensures c.size_limit-max.ensures))

pub returns-in-None : goal.returns-in-None
returns-in-None c =
    let a = c.args in
    let answer : Option ℕ → Answered =
    λ x. created (kernel_of a.area.now) a.slot a.disc.now x (about a.d) (keeping (stack_of a.p) a.d) in
    breaks-off c.requires.0 a.disc.now
    (ap answer (sym (size-is a.disc.now a.size c.in-None.is c.size_within.ensures c.size_limit-max.ensures)))
    c.fail.ensures
