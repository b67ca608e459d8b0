-- The loop: none of the first i entries has the name.
use Prim.Native.Nat.{ℕ, ◌*◌, ◌≤◌}
use mathlib.Core.Path.{◌≡◌, sym, ◌∙◌}
use mathlib.Core.Bool.{Bool, true}
use mathlib.Core.List.{List}
use native.Mathlib.Omega.{arith}
use borrow.Author.Count.{below_more}
use borrow.Author.Rules.{rules}
use lib.ListN.{length}
use lib.Seq.{take_all}
use Rattle.buffer.specs.Buffer.{part}
use Rattle.buffer.specs.Lists.{same}
use Rattle.buffer.proofs.Tables.{index-tab-is, index-tab-miss}
use Rattle.disc.specs.Directory.{entry_at, file_count, lookup, named}
use Rattle.disc.specs.Name.{good_name, padded}
use Rattle.disc.specs.Layout.{entry_size, name_size}
use Rattle.disc.proofs.InPlace.{name-in-place}
use Rattle.disc.proofs.Names.{good-name-is}
use Rattle.disc.proofs.directory.find.Goals as goal

-- what a test of the entry's name in place, with the field that the name fills, says of the entry at k
tested : (disc name field : List ℕ) (k : ℕ) (t b : Bool) → field ≡ padded name → length field ≡ name_size
    → t ≡ same (part disc (k * entry_size) name_size) (part field 0 name_size) → t ≡ b → named name (entry_at disc k) ≡ b
tested disc name field k t b filled size is h =
    let whole : length field ≤ name_size = omega arith in
    rw (name-in-place disc k, take_all name_size field, filled) at (sym is ∙ h)

pub returns-then-not-is_good_name : goal.returns-then-not-is_good_name
unfolding lookup
returns-then-not-is_good_name c = rw (sym c.is_good_name.ensures ∙ c.if-not-is_good_name.true)

pub pad-field-requires : goal.pad-field-requires
pad-field-requires c =
    let good : good_name c.args.name.now ≡ true = sym c.is_good_name.ensures ∙ c.if-not-is_good_name.false in
    omega (arith, (good-name-is _ good).short)

pub returns-then-same_name : goal.returns-then-same_name
unfolding lookup
returns-then-same_name c =
    let d = c.args.disc.now in
    let name = c.args.name.now in
    rw (
      sym c.is_good_name.ensures ∙ c.if-not-is_good_name.false,
      index-tab-is (entry_at d) (file_count d) (named name) c.loop-i.i (omega arith)
          (tested d name _ _ _ _ c.pad-field.ensures (search rules) c.same_name.ensures c.if-same_name.true)
          c.loop-i.invariant,
    )

pub loop-i-preserved : goal.loop-i-preserved
loop-i-preserved c =
    below_more _ _ c.loop-i.invariant
    (tested c.args.disc.now c.args.name.now _ _ _ _ c.pad-field.ensures (search rules) c.same_name.ensures c.if-same_name.false)

pub returns : goal.returns
unfolding lookup
returns c =
    let d = c.args.disc.now in
    rw (
      sym c.is_good_name.ensures ∙ c.if-not-is_good_name.false,
      index-tab-miss (entry_at d) (file_count d) (named c.args.name.now) (λ k h. c.loop-i.invariant k (omega arith)),
    )
