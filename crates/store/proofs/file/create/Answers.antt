-- `file::create` meets its contract: the file is entered, and its bytes are zeroed.
use Prim.Native.Nat.{ℕ}
use mathlib.Core.Path.{ap, ◌∙◌}
use mathlib.Core.List.{List}
use Rattle.buffer.specs.Buffer.{overwrite, zeros}
use Rattle.store.proofs.Steps.{created-steps}
use Rattle.store.proofs.file.create.Goals as goal

pub returns : goal.returns
returns c =
    let a = c.args in
    c.zero_at.ensures
    ∙ ap (λ (l : List ℕ). overwrite l a.start (zeros a.n)) c.enter.ensures
    ∙ created-steps a.disc.now a.name.now a.n a.start
