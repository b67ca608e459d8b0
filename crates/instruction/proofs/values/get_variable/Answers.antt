-- The table's variable of that name and owner is the process's own of that name; its bytes are copied as they lie.
use Rattle.std.proofs.Common.{ℕ, ◌+◌, ◌≤◌, ◌≡◌, [], length, get_or, sym, ap, ◌∙◌, arith, Some}
use lib.Seq.{take-length}
use borrow.Author.Tests.{le-leb}
use Rattle.variable.specs.Table.{Cell, cell_of, find, no_variable}
use Rattle.variable.specs.declared.Variable.{Variable}
use Rattle.variable.specs.declared.Variables.{Variables}
use Rattle.variable.proofs.Reading.{Own, find-own, find-own-none}
use Rattle.machine.specs.Area.{kernel_of}
use Rattle.instruction.proofs.Held.{Held, found-held, held_bytes}
use Rattle.instruction.proofs.values.get_variable.Goals as goal

-- what the machine's GET falls back on
abbrev no_cell : Cell
no_cell = record { name = 0; kind = 0; bytes = [] }

own : (v : Variables) (name id i : ℕ) → Held v i → find v name id ≡ Some i
    → Own v name id no_cell (cell_of v.memory (get_or v.entries i no_variable))
own v name id i held e = rw held.same at (find-own v name id no_cell i e)

pub variable_at-e-requires : goal.variable_at-e-requires
variable_at-e-requires c =
    let a = c.args in
    let table = (kernel_of a.area.now).variables in
    let name = get_or a.frame.now.process.code.now (a.frame.now.at + 1) 0 in
    let held = found-held table name a.owner c.in-Some.i c.requires.1 (sym c.find_in.ensures ∙ c.in-Some.is) in
    (c.requires.0, held.low)

pub returns-in-Some : goal.returns-in-Some
returns-in-Some c =
    let a = c.args in
    let f = a.frame.now in
    let i = c.in-Some.i in
    let e = c.variable_at-e in
    let table = (kernel_of a.area.now).variables in
    let name = get_or f.process.code.now (f.at + 1) 0 in
    let fits : f.at + 1 + 1 ≤ length f.process.code.now = omega arith in
    let lookup = sym c.find_in.ensures ∙ c.in-Some.is in
    let held = found-held table name a.owner i c.requires.1 lookup in
    let o = own table name a.owner i held lookup in
    let kind = ap (λ (d : Variable). d.kind) e.ensures in
    let bytes = held_bytes a.area.now i e.result held e.ensures in
    rw (le-leb _ _ fits, o.found, o.is, ← kind, ← bytes) (rw (take-length f.process.stack.now) at c.push_item.ensures)

pub returns-in-None : goal.returns-in-None
returns-in-None c =
    let a = c.args in
    let f = a.frame.now in
    let table = (kernel_of a.area.now).variables in
    let name = get_or f.process.code.now (f.at + 1) 0 in
    let fits : f.at + 1 + 1 ≤ length f.process.code.now = omega arith in
    rw (le-leb _ _ fits, find-own-none table name a.owner no_cell (sym c.find_in.ensures ∙ c.in-None.is))
