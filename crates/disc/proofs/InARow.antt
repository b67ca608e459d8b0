-- What files hold, in the bytes of the disc: they lie one behind the other from the file's start on. The statements about
-- calls say it so.
use Prim.Native.Nat.{ℕ, suc, ◌+◌, ◌≤◌, ◌<◌}
use mathlib.Core.Path.{◌≡◌, refl}
use mathlib.Core.Bool.{Bool, true, false}
use mathlib.Core.List.{List}
use native.Mathlib.Omega.{arith}
use lib.Dec.{ltb}
use lib.ListN.{drop, length, get_or, get_or-eq_default, length-take}
use borrow.Author.Tests.{ltb-false, ltb-true}
use Rattle.buffer.specs.Buffer.{part}
use Rattle.buffer.proofs.Parts.{part-byte, part-of-part}
use Rattle.place.specs.declared.Run.{Run}
use Rattle.disc.specs.Directory.{contents}
use Rattle.disc.proofs.Locations.{location}

module _ (disc : List ℕ) (run : Run) where
  pub location-is : (i : ℕ) → location disc run i ≡ run.start + i
  unfolding location
  location-is i = refl

  pub contents-byte : (i : ℕ) → i < run.len → get_or (contents disc run) i 0 ≡ get_or disc (run.start + i) 0
  unfolding contents
  contents-byte i h = part-byte disc run.start run.len i h

  -- behind its end a file holds zeros
  pub contents-some : (i x : ℕ) → get_or (contents disc run) i 0 ≡ suc x → i < run.len
  unfolding contents
  contents-some i x e = go (ltb i run.len) refl
    where
      go : (c : Bool) → ltb i run.len ≡ c → i < run.len
      go true h = ltb-true i run.len h
      go false h =
          let long : length (contents disc run) ≤ run.len = omega (arith, length-take run.len (drop run.start disc)) in
          let low : run.len ≤ i = ltb-false i run.len h in
          let zero : get_or (contents disc run) i 0 ≡ 0 = get_or-eq_default (contents disc run) 0 (omega arith) in
          absurd (omega (arith, zero, e))

  pub contents-within : (offset n : ℕ) → offset + n ≤ run.len → part (contents disc run) offset n ≡ part disc (run.start + offset) n
  unfolding contents
  contents-within offset n h = part-of-part disc run.start run.len offset n h
