-- The lines of list: how long they are, and that those of all processes are the text.
use Prim.Native.Nat.{ℕ, ◌+◌, ◌*◌, ◌≤◌}
use mathlib.Core.Path.{◌≡◌, refl, ap, ◌∙◌}
use mathlib.Core.Bool.{Bool, true, false, cond}
use mathlib.Core.List.{List, [], ◌∷◌, ◌++◌}
use native.Mathlib.Omega.{arith}
use lib.ListN.{length}
use Rattle.buffer.specs.Buffer.{part}
use Rattle.buffer.specs.Lists.{cons_if, flat, keep}
use Rattle.buffer.proofs.Lines.{line-long, lines, lines-short}
use Rattle.decimal.specs.Decimal.{decimal, max_digits}
use Rattle.decimal.proofs.Laws.{digits-few}
use Rattle.disc.specs.Layout.{name_size}
use Rattle.disc.specs.Name.{trimmed}
use Rattle.disc.proofs.Names.{field-short}
use Rattle.machine.specs.Area.{kernel_of}
use Rattle.machine.specs.Limits.{record_size, slot_count}
use Rattle.machine.specs.Operations.{list_text, process_line}
use Rattle.machine.specs.State.{is_live}
use Rattle.machine.specs.declared.Process.{Process}
use Rattle.area.specs.Parts.{process_in, record_at}
use Rattle.operation.specs.Lines.{line_of}

-- ---- how long
pub process-line-long : (p : Process) → length (process_line p) ≡ length (decimal p.id) + length (trimmed p.name) + 4
unfolding process_line
process-line-long p = line-long (decimal p.id) (32 ∷ p.state ∷ 32 ∷ []) (trimmed p.name) (10 ∷ []) ∙ omega arith

-- the digits of a number, a name's field, state, two spaces and newline: the most that a line takes
pub list-short : (area : List ℕ) (n : ℕ) → length (lines line_of (process_in area) n) ≤ n * (max_digits + name_size + 4)
list-short area = lines-short line_of (process_in area) (max_digits + name_size + 4) (λ i.
    let p = process_in area i in
    either p (is_live p) (field-short (part area (record_at i) record_size)))
  where
    either : (p : Process) (live : Bool) → length (trimmed p.name) ≤ name_size
        → length (cond live (process_line p) []) ≤ max_digits + name_size + 4
    either p true h = omega (arith, process-line-long p, digits-few max_digits p.id)
    either p false h = omega arith

-- ---- which
pub ended-line : (p : Process) → is_live p ≡ false → line_of p ≡ []
ended-line p h = rw h

pub live-line : (p : Process) → is_live p ≡ true → line_of p ≡ process_line p
live-line p h = rw h

-- the lines of all are those of the live
flat-live : (l : List Process) → flat line_of l ≡ flat process_line (keep is_live l)
unfolding flat keep
flat-live [] = refl
flat-live (p ∷ l) = ap (λ (t : List ℕ). line_of p ++ t) (flat-live l) ∙ first (is_live p)
  where
    first : (live : Bool) → cond live (process_line p) [] ++ flat process_line (keep is_live l)
        ≡ flat process_line (cons_if live p (keep is_live l))
    first true = refl
    first false = refl

pub live-lines : (area : List ℕ) → lines line_of (process_in area) slot_count ≡ list_text (kernel_of area)
unfolding list_text kernel_of
live-lines area = flat-live (kernel_of area).processes
