-- What is answered where the output has room for a text or a file, and where it has not.
use Rattle.std.specs.Prelude.{Ok, Err}
use Prim.Native.Nat.{ℕ, ◌≤◌, ◌<◌}
use mathlib.Core.Path.{◌≡◌, sym, ap, ap₂}
use mathlib.Core.List.{List}
use native.Mathlib.Omega.{arith}
use borrow.Author.Tests.{le-leb, lt-leb}
use lib.ListN.{length}
use Rattle.buffer.specs.Buffer.{overwrite}
use Rattle.disc.specs.Directory.{contents, run_of}
use Rattle.disc.specs.declared.Entry.{Entry}
use Rattle.store.specs.Answer.{reported, retrieve_file, text_answer}
use Rattle.store.specs.declared.Refusal.TheVariants.{ShortOutput}

-- a text that the output has room for, and one that it has not
pub text-done : (text out after : List ℕ) (n : ℕ) → length text ≡ n → n ≤ length out → after ≡ overwrite out 0 text
    → reported (Ok n) after ≡ text_answer text out
text-done text out after n e h q =
    rw (le-leb (length text) (length out) (omega arith)) (ap₂ (λ (m : ℕ) (l : List ℕ). reported (Ok m) l) (sym e) q)

pub text-short : (text out : List ℕ) (n : ℕ) → length text ≡ n → length out < n → reported (Err ShortOutput) out ≡ text_answer text out
text-short text out n e h = rw (lt-leb (length text) (length out) (omega arith))

-- a file that the output has room for, and one that it has not
pub file-done : (e : Entry) (disc out after : List ℕ) → e.len ≤ length out → after ≡ overwrite out 0 (contents disc (run_of e))
    → reported (Ok e.len) after ≡ retrieve_file e disc out
file-done e disc out after h q = rw (le-leb _ _ h) (ap (λ (l : List ℕ). reported (Ok e.len) l) q)

pub file-short : (e : Entry) (disc out : List ℕ) → length out < e.len → reported (Err ShortOutput) out ≡ retrieve_file e disc out
file-short e disc out h = rw (lt-leb _ _ h)
