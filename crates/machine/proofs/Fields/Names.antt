-- Names: what a good name is, and where a buffer spells one.
use Prim.Native.Nat.{ℕ, ◌+◌, ◌-◌, ◌≤◌, ◌<◌}
use mathlib.Core.Path.{◌≡◌, refl, sym, ◌∙◌, subst}
use mathlib.Core.Bool.{Bool, true, false}
use mathlib.Core.List.{List}
use native.Mathlib.Omega.{arith}
use lib.Dec.{leb, ltb}
use lib.ListN.{length, get_or, replicate, get_or-replicate, get_or-append, get_or-eq_default}
use lib.Seq.{get_or-append-add}
use borrow.Author.Tests.{le-leb, leb-true, ltb-false, ltb-true}
use Rattle.buffer.specs.Buffer.{part}
use Rattle.buffer.proofs.Bools.{and_both, and_left, and_right}
use Rattle.buffer.proofs.Lists.{all-at, all-each}
use Rattle.disc.specs.Layout.{name_size}
use Rattle.disc.specs.Name.{good_name, is_name_byte, padded}
use Rattle.disc.proofs.Names.{good-name-is, is-good-name, padded-length}
use Rattle.machine.specs.Fields.{IsName, Spells}
use Rattle.machine.proofs.Fields.Parts.{is-part, part-is}

-- ---- good names
pub good-is-name : (name : List ℕ) → good_name name ≡ true → IsName name
good-is-name name t =
    let g = good-name-is name t in
    record { some = g.some; few = g.short; each = λ j h. byte (get_or name j 0) (all-at is_name_byte name j 0 h g.bytes) }
  where
    byte : (b : ℕ) → is_name_byte b ≡ true → (33 ≤ b) × (b ≤ 126)
    byte b e = (leb-true 33 b (and_left (leb 33 b) _ e), leb-true b 126 (and_right (leb 33 b) _ e))

pub is-name-good : (name : List ℕ) → IsName name → good_name name ≡ true
is-name-good name n =
    is-good-name name
    (record {
      some = n.some;
      short = n.few;
      bytes =
          all-each is_name_byte name 0
          (λ j h. let e = n.each j h in and_both (le-leb 33 (get_or name j 0) e.0) (le-leb (get_or name j 0) 126 e.1));
    })

-- ---- names in a buffer
module _ (name : List ℕ) (short : length name ≤ name_size) where
  -- behind a name lie zeros, or nothing
  padded-byte : (j : ℕ) → j < name_size → get_or (padded name) j 0 ≡ get_or name j 0
  padded-byte j h = go (ltb j (length name)) refl
    where
      zeros : List ℕ
      zeros = replicate (name_size - length name) 0

      go : (b : Bool) → ltb j (length name) ≡ b → get_or (padded name) j 0 ≡ get_or name j 0
      go true e = get_or-append name zeros 0 j (ltb-true j (length name) e)
      go false e =
          let l : length name ≤ j = ltb-false j (length name) e in
          let m : length name + (j - length name) ≡ j = omega arith in
          subst (λ (i : ℕ). get_or (padded name) i 0 ≡ 0) m
          (get_or-append-add name zeros (j - length name) 0
          ∙ get_or-replicate (name_size - length name) (j - length name) 0 0 (omega arith))
          ∙ sym (get_or-eq_default name 0 l)

  module _ (buffer : List ℕ) (at : ℕ) where
    pub spells-padded : at + name_size ≤ length buffer → Spells buffer at name → part buffer at name_size ≡ padded name
    spells-padded h s = part-is buffer (padded name) at name_size h (padded-length name short) (λ j m. s j m ∙ sym (padded-byte j m))

    pub padded-spells : part buffer at name_size ≡ padded name → Spells buffer at name
    padded-spells e j h = is-part buffer (padded name) at name_size e j h ∙ padded-byte j h
