-- `file::size_limit` meets its contract.
use borrow.Author.Rules.{rules}
use Rattle.store.specs.File.{size_limit}
use Rattle.store.proofs.file.size_limit.Goals as goal

pub returns : goal.returns
unfolding size_limit
returns c = search rules
