-- What is left of the file from the offset is a part of the disc, and its text is as long as the search says.
use Prim.Native.Nat.{ℕ, ◌+◌, ◌-◌, ◌≤◌}
use mathlib.Core.Path.{◌≡◌, sym, ap, ◌∙◌}
use mathlib.Core.List.{List}
use native.Mathlib.Omega.{arith}
use lib.ListN.{length, take, drop, length-drop}
use lib.Seq.{length-take-le, take_all}
use Rattle.buffer.specs.Buffer.{part}
use Rattle.buffer.proofs.Parts.{part_length, part-of-part}
use Rattle.place.specs.declared.Run.{Run}
use Rattle.disc.specs.Directory.{contents}
use Rattle.disc.specs.Name.{trimmed}
use Rattle.disc.proofs.Locations.{contents-part}
use Rattle.store.proofs.file.text_ahead.Goals as goal

-- the part of the disc from the offset to the file's end is what is left of the file
ahead : (disc : List ℕ) (run : Run) (offset : ℕ) → offset ≤ run.len → run.start + run.len ≤ length disc
    → take (run.start + run.len - (run.start + offset)) (drop (run.start + offset) disc) ≡ drop offset (contents disc run)
ahead disc run offset within inside =
    let file = part disc run.start run.len in
    let n = part_length disc run.start run.len inside in
    let m : run.start + run.len - (run.start + offset) ≡ run.len - offset = omega arith in
    ap (λ (k : ℕ). part disc (run.start + offset) k) m
    ∙ sym (part-of-part disc run.start run.len offset (run.len - offset) (omega arith))
    ∙ take_all (run.len - offset) (drop offset file) (omega (arith, length-drop offset file))
    ∙ ap (drop offset) (sym (contents-part disc run))

pub returns : goal.returns
returns c =
    let found = c.text_length.ensures in
    sym (length-take-le c.text_length.result _ found.0) ∙ ap length found.1
    ∙ ap (λ (l : List ℕ). length (trimmed l)) (ahead c.args.disc.now c.args.run c.args.offset c.requires.0 c.requires.1)
