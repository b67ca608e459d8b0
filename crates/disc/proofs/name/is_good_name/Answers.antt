-- The tests are those of `good_name`.
use Prim.Native.Nat.{ℕ, ◌<◌}
use mathlib.Core.Path.{◌≡◌, refl, ap, ◌∙◌}
use mathlib.Core.Bool.{true, false, ◌&&◌, and_assoc}
use native.Mathlib.Omega.{arith}
use lib.Dec.{leb}
use lib.ListN.{length, get_or}
use borrow.Author.Rules.{rules}
use Rattle.std.proofs.Common.{tests}
use Rattle.std.proofs.lemmas.Iterator.{YieldsList-from_range}
use Rattle.std.proofs.lemmas.Iterator.Search.{all_from_yields_List}
use Rattle.buffer.specs.Lists.{all}
use Rattle.disc.specs.Name.{good_name, is_name_byte}
use Rattle.disc.proofs.Names.{all-places}
use Rattle.disc.proofs.name.is_good_name.Goals as goal

pub returns-then-contains : goal.returns-then-contains
unfolding good_name
returns-then-contains c =
    let name = c.args.name.now in
    let tested : c.all.result ≡ all is_name_byte name =
    all_from_yields_List (λ k. is_name_byte (get_or name k 0)) _ _ c.all.result c.all.ensures.ran
    (YieldsList-from_range 0 (length name) (length name) refl (omega arith)) (λ x b q k. search (rules, tests))
    ∙ all-places is_name_byte name in
    let within : leb 1 (length name) && leb (length name) 11 ≡ true = search rules in
    rw (← and_assoc (leb 1 (length name)) (leb (length name) 11) (all is_name_byte name), within) tested

pub returns-else-contains : goal.returns-else-contains
unfolding good_name
returns-else-contains c =
    let name = c.args.name.now in
    let without : leb 1 (length name) && leb (length name) 11 ≡ false = search rules in
    rw (← and_assoc (leb 1 (length name)) (leb (length name) 11) (all is_name_byte name), without) c.if-contains.false
