-- A variable that the table's lookup finds can be read.
use Rattle.std.specs.Prelude.{Some}
use Prim.Native.Nat.{ℕ, ◌+◌, ◌-◌, ◌≤◌, ◌<◌}
use mathlib.Core.Path.{◌≡◌, sym, ap, ◌∙◌}
use mathlib.Core.Bool.{true}
use mathlib.Core.List.{List}
use native.Mathlib.Omega.{arith}
use lib.Dec.{leb}
use lib.ListN.{get_or, take, drop}
use borrow.Author.Tests.{leb-true}
use Rattle.buffer.specs.Buffer.{part}
use Rattle.buffer.proofs.Bools.{and_left, and_right}
use Rattle.buffer.proofs.Lists.{all-at}
use Rattle.buffer.proofs.Parts.{part-of-take, part-to}
use Rattle.buffer.proofs.Tables.{index_at}
use Rattle.variable.specs.Limits.{max_variables, memory_size, value_size}
use Rattle.variable.specs.Table.{counted, find, is_of, no_variable}
use Rattle.variable.specs.declared.Variable.{Variable}
use Rattle.variable.specs.declared.Variables.{Variables}
use Rattle.variable.proofs.Reading.{find-counted}
use Rattle.variable.specs.Bytes.{variables_of}
use Rattle.machine.specs.Area.{kernel_of}
use Rattle.instruction.specs.Readable.{Readable, is_held}

abbrev entry_at : Variables → ℕ → Variable
entry_at v i = get_or v.entries i no_variable

pub record Held (v : Variables) (i : ℕ) : Type 0 where
  pub low : i < max_variables
  pub inside : (entry_at v i).address + (entry_at v i).size ≤ memory_size
  pub short : (entry_at v i).size ≤ value_size
  pub same : get_or (counted v) i no_variable ≡ entry_at v i

pub found-held : (v : Variables) (name id i : ℕ) → Readable v → find v name id ≡ Some i → Held v i
unfolding find
found-held v name id i h e =
    let n = find-counted v name id i e in
    let d = entry_at v i in
    let g : is_held d ≡ true = ap is_held (sym n.1)
    ∙ all-at is_held (counted v) i no_variable (index_at (is_of name id) no_variable (counted v) i e).inside h.held in
    record {
      low = omega (arith, n.0, h.few);
      inside = leb-true _ _ (and_left (leb (d.address + d.size) memory_size) (leb d.size value_size) g);
      short = leb-true _ _ (and_right (leb (d.address + d.size) memory_size) (leb d.size value_size) g);
      same = n.1;
    }

-- its bytes, as they lie in the work area
pub held_bytes : (area : List ℕ) (i : ℕ) (e : Variable) → let v = (kernel_of area).variables in
    Held v i → e ≡ entry_at v i
    → take (e.address + e.size - e.address) (drop e.address area) ≡ part v.memory (entry_at v i).address (entry_at v i).size
unfolding kernel_of variables_of
held_bytes area i e h q =
    let d = entry_at (kernel_of area).variables i in
    part-to area e.address e.size
    ∙ ap (λ (x : Variable). part area x.address x.size) q
    ∙ sym (part-of-take area memory_size d.address d.size h.inside)
