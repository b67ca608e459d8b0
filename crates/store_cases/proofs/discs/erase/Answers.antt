-- A disc that was found usable can be read, and a file that was found is there to be erased.
use Rattle.std.proofs.Common.{sym, ◌∙◌}
use Rattle.disc.proofs.Lookups.{lookup-at}
use Rattle.disc_operation.proofs.Checks.{usable}
use Rattle.store_cases.proofs.discs.erase.Goals as goal

pub find-requires : goal.find-requires
find-requires c = (usable _ (sym c.check.ensures ∙ c.in-Ok.is)).ready

pub erase_entry-requires-clause-readable : goal.erase_entry-requires-clause-readable
erase_entry-requires-clause-readable c = (usable _ (sym c.check.ensures ∙ c.in-Ok.is)).ready

pub erase_entry-requires-clause-i_bound : goal.erase_entry-requires-clause-i_bound
erase_entry-requires-clause-i_bound c = (lookup-at _ _ _ (sym c.find.ensures ∙ c.in-Some.is)).inside
