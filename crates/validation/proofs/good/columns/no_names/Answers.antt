-- The number of each place.
use Rattle.std.proofs.Common.{◌+◌, rules}
use Rattle.area.proofs.Made.{made-all}
use Rattle.validation.specs.Columns.{places}
use Rattle.validation.proofs.good.columns.no_names.Goals as goal

pub returns : goal.returns
returns c = made-all _ (λ i. 256 + i) _ (λ i y q k. search rules) c.from_fn.result places c.from_fn.ensures.items
