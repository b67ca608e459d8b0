-- The loop: the first i entries are good and beside each other.
use mathlib.Core.Path.{◌≡◌, refl, sym, ◌∙◌}
use mathlib.Core.Bool.{and-false}
use borrow.Author.Tests.{le-leb, lt-leb}
use lib.Dec.{leb}
use lib.ListN.{length}
use Rattle.buffer.specs.Lists.{all, pairs, tab}
use Rattle.buffer.proofs.Lists.{all-tab-next, all-tab-stop, pairs-tab-next, pairs-tab-stop}
use Rattle.disc.specs.Directory.{beside, entry_at, file_count, good_disc, good_entry, good_files}
use Rattle.disc.specs.Layout.{max_files}
use native.Mathlib.Omega.{arith}
use Rattle.disc.proofs.good.is_good_disc.Goals as goal

pub returns-then-count-gt-MAX_FILES : goal.returns-then-count-gt-MAX_FILES
unfolding good_disc
returns-then-count-gt-MAX_FILES c =
    rw (lt-leb (file_count c.args.disc.now) max_files (omega (arith, c.file_count-count.ensures, c.if-count-gt-MAX_FILES.true)))

pub loop-i-init : goal.loop-i-init
unfolding all pairs tab
loop-i-init c = (omega arith, refl, refl)

pub returns-then-not-is_good_entry : goal.returns-then-not-is_good_entry
unfolding good_disc good_files
returns-then-not-is_good_entry c =
    let d = c.args.disc.now in
    rw (all-tab-stop (entry_at d) (good_entry (length d)) c.loop-i.i (file_count d) (omega arith)
    (sym c.is_good_entry.ensures ∙ c.if-not-is_good_entry.true)) (sym (and-false (leb (file_count d) max_files)))

pub returns-then-not-is_beside_earlier : goal.returns-then-not-is_beside_earlier
unfolding good_disc good_files
returns-then-not-is_beside_earlier c =
    let d = c.args.disc.now in
    rw (
      pairs-tab-stop (entry_at d) beside c.loop-i.i (file_count d) (omega arith)
          (sym c.is_beside_earlier.ensures ∙ c.if-not-is_beside_earlier.true),
      and-false,
    ) (sym (and-false (leb (file_count d) max_files)))

pub loop-i-preserved : goal.loop-i-preserved
loop-i-preserved c =
    let d = c.args.disc.now in (
      omega arith,
      all-tab-next (entry_at d) (good_entry (length d)) c.loop-i.i c.loop-i.invariant.1 (sym c.is_good_entry.ensures
          ∙ c.if-not-is_good_entry.false),
      pairs-tab-next (entry_at d) beside c.loop-i.i c.loop-i.invariant.2 (sym c.is_beside_earlier.ensures
          ∙ c.if-not-is_beside_earlier.false),
    )

pub returns : goal.returns
unfolding good_disc good_files
returns c =
    let n = c.file_count-count in
    let q : c.loop-i.i ≡ file_count c.args.disc.now = omega (arith, n.ensures) in
    rw (
      le-leb (file_count c.args.disc.now) max_files (omega (arith, n.ensures, c.if-count-gt-MAX_FILES.false)),
      ← q,
      c.loop-i.invariant.1,
      c.loop-i.invariant.2,
    )
