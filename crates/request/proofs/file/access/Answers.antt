-- No file where the length is 0; else as many bytes as lie ahead.
use mathlib.Core.Path.{sym}
use native.Mathlib.Omega.{arith}
use Rattle.request.proofs.Accesses.{inside, no-file, past_end}
use Rattle.request.proofs.file.access.Goals as goal

pub returns-then-file-eq0 : goal.returns-then-file-eq0
returns-then-file-eq0 c = sym (no-file c.args.file c.args.n c.if-file-eq0.true)

pub returns-then-file-n : goal.returns-then-file-n
returns-then-file-n c = sym (inside c.args.file c.args.n c.if-file-eq0.false (omega arith))

pub returns : goal.returns
returns c = sym (past_end c.args.file c.args.n c.if-file-eq0.false (omega arith))
