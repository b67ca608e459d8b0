-- The text is measured up to its zero, and pushed with it.
use Rattle.std.proofs.Common.{ℕ, ◌+◌, ◌-◌, ◌≤◌, ◌≡◌, List, [], ◌∷◌, ◌++◌, length, take, drop, sym, ap, ◌∙◌, arith, length-drop}
use lib.Seq.{length-take-le, take_all, take-length}
use borrow.Author.Tests.{le-leb}
use Rattle.buffer.specs.Buffer.{part}
use Rattle.buffer.proofs.Parts.{part-to}
use Rattle.disc.specs.Name.{trimmed}
use Rattle.disc.proofs.Names.{text-with-zero}
use Rattle.instruction.proofs.values.push_text.Goals as goal

-- the code's n bytes from a place are its text there
abbrev TextOf : List ℕ → ℕ → ℕ → Type 0
TextOf code from n =
    let rest = part code from (length code - from) in
    (n ≤ length rest) × (take n rest ≡ trimmed rest)

module _ (code : List ℕ) (from n : ℕ) (known : TextOf code from n) where
  measured : length (trimmed (drop from code)) ≡ n
  measured =
      let whole = take_all (length code - from) (drop from code) (omega (arith, length-drop from code)) in
      let told : (n ≤ length (drop from code)) × (take n (drop from code) ≡ trimmed (drop from code)) = rw whole at known in
      sym (ap length told.1) ∙ length-take-le n (drop from code) told.0

  -- with its zero
  pushed : from + (n + 1) ≤ length code → part code from (n + 1) ≡ trimmed (drop from code) ++ (0 ∷ [])
  pushed fits =
      let m = measured in
      ap (λ (n : ℕ). take (n + 1) (drop from code)) (sym m)
      ∙ text-with-zero (drop from code) (omega (arith, length-drop from code))

pub returns : goal.returns
returns c =
    let f = c.args.frame.now in
    let n = c.text_length.result in
    let text = measured f.process.code.now (f.at + 1) n c.text_length.ensures in
    let h : f.at + 1 + (n + 1) ≤ length f.process.code.now = omega arith in
    let with-zero = pushed f.process.code.now (f.at + 1) n c.text_length.ensures h in
    rw (text, le-leb _ _ h)
    (rw (take-length f.process.stack.now, part-to f.process.code.now (f.at + 1) (n + 1), with-zero) at c.push_item.ensures)
