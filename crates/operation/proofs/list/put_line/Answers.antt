-- ID, state, name and newline are laid one behind another; nothing for a process that has ended.
use Prim.Native.Nat.{ℕ, ◌+◌}
use mathlib.Core.Path.{◌≡◌, sym, ap, ◌∙◌}
use mathlib.Core.Bool.{true}
use mathlib.Core.List.{[], ◌∷◌}
use native.Mathlib.Omega.{arith}
use lib.ListN.{length}
use Rattle.buffer.proofs.Lines.{laid-nothing, line-laid}
use Rattle.decimal.specs.Decimal.{decimal}
use Rattle.disc.specs.Name.{trimmed}
use Rattle.machine.specs.Area.{process_of}
use Rattle.machine.specs.Operations.{process_line}
use Rattle.machine.specs.State.{is_live}
use Rattle.machine.specs.declared.Process.{Process}
use Rattle.operation.specs.Lines.{line_of}
use Rattle.operation.proofs.Lines.{ended-line, live-line, process-line-long}
use Rattle.operation.proofs.list.put_line.Goals as goal

-- how long the line of a live process is, by its ID as it was read
line-length : (p : Process) {id : ℕ} → is_live p ≡ true → id ≡ p.id → length (line_of p) ≡ length (decimal id) + length (trimmed p.name) + 4
line-length p h e = omega (arith, ap length (live-line p h), process-line-long p, ap (λ (n : ℕ). length (decimal n)) e)

pub returns-then-not-is_live : goal.returns-then-not-is_live
returns-then-not-is_live c =
    rw (ended-line (process_of c.args.bytes.now) (sym c.is_live.ensures ∙ c.if-not-is_live.true))
    (laid-nothing c.args.out.now c.args.at)

pub put_decimal-counted-requires : goal.put_decimal-counted-requires
put_decimal-counted-requires c =
    let long = line-length (process_of c.args.bytes.now) (sym c.is_live.ensures ∙ c.if-not-is_live.false) c.word_at-id.ensures in
    omega (arith, c.requires.bytes_in_bounds)

pub put_bytes-stated-requires : goal.put_bytes-stated-requires
put_bytes-stated-requires c =
    let long = line-length (process_of c.args.bytes.now) (sym c.is_live.ensures ∙ c.if-not-is_live.false) c.word_at-id.ensures in
    omega (arith, c.requires.bytes_in_bounds, c.put_decimal-counted.ensures.place)

pub put_name-named-requires : goal.put_name-named-requires
put_name-named-requires c =
    let long = line-length (process_of c.args.bytes.now) (sym c.is_live.ensures ∙ c.if-not-is_live.false) c.word_at-id.ensures in
    omega (arith, c.requires.bytes_in_bounds, c.put_decimal-counted.ensures.place, c.put_bytes-stated.ensures.place)

pub put_bytes-requires : goal.put_bytes-requires
put_bytes-requires c =
    let long = line-length (process_of c.args.bytes.now) (sym c.is_live.ensures ∙ c.if-not-is_live.false) c.word_at-id.ensures in
    omega (
      arith,
      c.requires.bytes_in_bounds,
      c.put_decimal-counted.ensures.place,
      c.put_bytes-stated.ensures.place,
      c.put_name-named.ensures.place,
    )

pub returns : goal.returns
unfolding process_line
returns c =
    let p = process_of c.args.bytes.now in
    let live = live-line p (sym c.is_live.ensures ∙ c.if-not-is_live.false) in
    rw live
    (line-laid (decimal p.id) (32 ∷ p.state ∷ 32 ∷ []) (trimmed p.name) (10 ∷ [])
    (omega (arith, ap length live, c.requires.bytes_in_bounds))
    (rw (ap decimal c.word_at-id.ensures) at c.put_decimal-counted.ensures) c.put_bytes-stated.ensures c.put_name-named.ensures
    c.put_bytes.ensures)
