-- The length byte is read, then the text is measured: its zero must be the last of the bytes.
use Rattle.std.proofs.Common.{ℕ, ◌+◌, ◌-◌, ◌≤◌, ◌≡◌, List, length, take, arith, sym, ap, ◌∙◌}
use lib.Seq.{length-take-le}
use borrow.Author.Tests.{le-leb}
use Rattle.buffer.specs.Buffer.{part}
use Rattle.buffer.proofs.Parts.{part_length}
use Rattle.disc.specs.Name.{trimmed}
use Rattle.machine.specs.Stack.{pop_string}
use Rattle.machine.proofs.Instructions.Popping.{is-well-formed, not-well-formed}
use Rattle.stack.proofs.tops.string_on_top.Goals as goal

-- the n bytes of the string, below its length and its type
abbrev string : List ℕ → ℕ → List ℕ
string stack n = part stack (length stack - 2 - n) n

-- they are as many as the length byte says, and t of them are text
record Measured (stack : List ℕ) (n t : ℕ) : Type 0 where
  size : length (string stack n) ≡ n
  text : length (trimmed (string stack n)) ≡ t

-- t bytes of the slice between the code's two ends are its text
abbrev TextOf : List ℕ → ℕ → Type 0
TextOf slice t = (t ≤ length slice) × (take t slice ≡ trimmed slice)

measured : (stack : List ℕ) (n t : ℕ) → n + 2 ≤ length stack
    → TextOf (part stack (length stack - 2 - n) (length stack - 2 - (length stack - 2 - n))) t → Measured stack n t
measured stack n t fits known =
    let width : length stack - 2 - (length stack - 2 - n) ≡ n = omega arith in
    let told : TextOf (string stack n) t = rw width at known in
    record {
      size = part_length stack (length stack - 2 - n) n (omega arith);
      text = sym (ap length told.1) ∙ length-take-le t (string stack n) told.0;
    }

pub returns-then-text_length-len : goal.returns-then-text_length-len
unfolding pop_string
returns-then-text_length-len c =
    let s = c.args.stack.now in
    let n = c.from-len.result in
    let m = measured s n c.text_length.result (omega arith) c.text_length.ensures in (
      rw (
        le-leb 2 (length s) (omega arith),
        ← c.from-len.ensures,
        le-leb (n + 2) (length s) (omega arith),
        not-well-formed (string s n) (λ e. c.if-text_length-len.true (omega (arith, m.size, m.text))),
      ),
      omega arith,
    )

pub returns : goal.returns
unfolding pop_string
returns c =
    let s = c.args.stack.now in
    let n = c.from-len.result in
    let m = measured s n c.text_length.result (omega arith) c.text_length.ensures in (
      rw (
        le-leb 2 (length s) (omega arith),
        ← c.from-len.ensures,
        le-leb (n + 2) (length s) (omega arith),
        is-well-formed (string s n) (omega (arith, m.size, m.text)),
      ),
      omega arith,
    )
