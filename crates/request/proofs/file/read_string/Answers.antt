-- READSTRING: no file, no zero before the file's end, or the text with its zero.
use Prim.Native.Nat.{ℕ, ◌+◌}
use mathlib.Core.Path.{◌≡◌, sym, ap, ◌∙◌}
use mathlib.Core.List.{List}
use native.Mathlib.Omega.{arith}
use lib.ListN.{length, drop}
use Rattle.machine.specs.Beyond.{file_run}
use Rattle.machine.specs.declared.OpenFile.{OpenFile}
use Rattle.place.specs.declared.Run.{Run}
use Rattle.disc.specs.Directory.{contents}
use Rattle.disc.specs.Name.{trimmed}
use Rattle.request.specs.Answers.{Ahead}
use Rattle.request.proofs.Accesses.{no-file, past_end, text-granted, text-received, text-short, text_in}
use Rattle.request.proofs.Answering.{answers, breaks-off}
use Rattle.request.proofs.file.read_string.Goals as goal

text-is : (disc : List ℕ) (f : OpenFile) {run : Run} {n : ℕ} → n ≡ length (trimmed (drop f.offset (contents disc run))) → run ≡ file_run f
    → n ≡ length (text_in disc f)
text-is disc f e r = e ∙ ap (λ (x : Run). length (trimmed (drop f.offset (contents disc x)))) r

pub text_ahead-n-requires : goal.text_ahead-n-requires
text_ahead-n-requires c = rw c.file_run.ensures (c.requires.1.offset, c.requires.1.inside c.if-file-eq0.false)

pub overflow_add-n : goal.overflow_add-n
overflow_add-n c =
    let a = c.args in
    let n = text-is a.disc.now a.p.file c.text_ahead-n.ensures c.file_run.ensures in
    omega (arith, n, text-short c.requires.0 a.disc.now)

pub overflow_add-file : goal.overflow_add-file
overflow_add-file c =
    let a = c.args in
    let n = text-is a.disc.now a.p.file c.text_ahead-n.ensures c.file_run.ensures in
    omega (arith, n, text-short c.requires.0 a.disc.now)

pub push_text-requires : goal.push_text-requires
push_text-requires c =
    (c.requires.0, record { within = omega (arith, c.if-file-n.false); inside = c.requires.1.inside c.if-file-eq0.false })

pub returns-then-file-eq0 : goal.returns-then-file-eq0
returns-then-file-eq0 c =
    let a = c.args in
    breaks-off c.requires.0 a.disc.now (text-granted c.requires.0 a.disc.now (no-file a.p.file _ c.if-file-eq0.true))
    c.fail.ensures

pub returns-then-file-n : goal.returns-then-file-n
returns-then-file-n c =
    let a = c.args in
    let n = text-is a.disc.now a.p.file c.text_ahead-n.ensures c.file_run.ensures in
    breaks-off c.requires.0 a.disc.now
    (text-granted c.requires.0 a.disc.now (past_end a.p.file _ c.if-file-eq0.false (omega (arith, n, c.if-file-n.true))))
    c.fail-then-file-n.ensures

pub returns : goal.returns
returns c =
    let a = c.args in
    let n = text-is a.disc.now a.p.file c.text_ahead-n.ensures c.file_run.ensures in
    let ahead : Ahead a.disc.now a.p.file (c.text_ahead-n.result + 1) =
    record { within = omega (arith, c.if-file-n.false); inside = c.requires.1.inside c.if-file-eq0.false } in
    answers c.requires.0 a.disc.now c.push_text.ensures
    (sym (text-received c.requires.0 a.disc.now (omega (arith, n)) c.if-file-eq0.false ahead))
