-- Behind the tests of the disc, the lines of all files, if the output has room.
use mathlib.Core.Path.{sym}
use native.Mathlib.Omega.{arith}
use Rattle.std.proofs.lemmas.Result.{err_from_is_err_and}
use Rattle.buffer.specs.Lists.{flat}
use Rattle.disc.specs.Directory.{file_count, files}
use Rattle.store.specs.Answer.{file_line, files_answer}
use Rattle.disc_operation.proofs.Checks.{usable}
use Rattle.disc_operation.proofs.Lines.{files-short}
use Rattle.disc_operation.proofs.Outputs.{text-done, text-short}
use Rattle.disc_operation.proofs.operations.files.Goals as goal

pub returns-in_err-check : goal.returns-in_err-check
unfolding files_answer
returns-in_err-check c =
    let p = err_from_is_err_and c.from_residual.result c.from_residual.ensures.1 in rw (p.1, p.2, sym c.in_err-check.ensures)

pub files_length-requires : goal.files_length-requires
files_length-requires c = (usable c.args.disc.now (sym c.in_ok-check.ensures)).ready

pub returns-then-out-files_length : goal.returns-then-out-files_length
unfolding files_answer
returns-then-out-files_length c =
    rw (sym c.in_ok-check.ensures)
    (text-short (flat file_line (files c.args.disc.now)) c.args.out.now c.files_length.result (sym c.files_length.ensures)
    c.if-out-files_length.true)

pub put_files-requires : goal.put_files-requires
put_files-requires c = record {
  readable = (usable c.args.disc.now (sym c.in_ok-check.ensures)).ready;
  disc_in_bounds = omega (arith, c.files_length.ensures);
}

pub overflow_cast-result : goal.overflow_cast-result
overflow_cast-result c =
    let d = c.args.disc.now in
    let fit = usable d (sym c.in_ok-check.ensures) in
    omega (arith, c.put_files.ensures.place, files-short d (file_count d), fit.ready.few)

pub returns : goal.returns
unfolding files_answer
returns c =
    rw (sym c.in_ok-check.ensures)
    (text-done (flat file_line (files c.args.disc.now)) c.args.out.now _ c.put_files.result (omega (arith, c.put_files.ensures.place))
    (omega (arith, c.files_length.ensures, c.put_files.ensures.place)) c.put_files.ensures.bytes)
