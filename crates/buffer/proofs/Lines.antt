-- Pieces of a text written one behind another, and the lines of a table: how long they are, and the loops that count and write them.
use Prim.Native.Nat.{ℕ, zero, suc, ◌+◌, ◌*◌, ◌≤◌, ◌<◌}
use mathlib.Core.Path.{◌≡◌, refl, sym, ap, ◌∙◌}
use mathlib.Core.List.{List, [], ◌++◌}
use mathlib.Core.Logic.{⊎_elim}
use native.Mathlib.Nat.{eq-or-lt_of_le, le_of_suc-le-suc, suc-mul}
use native.Mathlib.Numerals.{add-one}
use native.Mathlib.Omega.{arith}
use lib.ListN.{length, length-append}
use lib.Seq.{paste-zero}
use Rattle.buffer.specs.Buffer.{overwrite}
use Rattle.buffer.specs.Laid.{Laid}
use Rattle.buffer.specs.Lists.{flat, tab}
use Rattle.buffer.proofs.Buffer.{overwrite-joined, overwrite-length}
use Rattle.buffer.proofs.Lists.{flat-snoc, flat-tab-next}

-- ---- pieces
pub laid-nothing : (d : List ℕ) (at : ℕ) → Laid d at [] d at
laid-nothing d at = record { bytes = paste-zero d at []; place = omega arith }

-- a piece right behind a first: one piece
pub laid-joined : {d s e t f : List ℕ} {at b r : ℕ} → at + length s ≤ length d → Laid d at s e b → Laid e b t f r → Laid d at (s ++ t) f r
laid-joined {d} {s} {e} {t} {f} {at} {b} {r} h x y =
    record {
      bytes = y.bytes ∙ ap (λ (l : List ℕ). overwrite l b t) x.bytes ∙ overwrite-joined d s t at b x.place (omega (arith, x.place));
      place = omega (arith, x.place, y.place, length-append s t);
    }

-- a line is four pieces
module _ (a b c d : List ℕ) where
  pub line-long : length (a ++ b ++ c ++ d) ≡ length a + length b + length c + length d
  line-long = simp length-append

  pub line-laid : {l m n o p : List ℕ} {at i j k r : ℕ} → at + length (a ++ b ++ c ++ d) ≤ length l
      → Laid l at a m i → Laid m i b n j → Laid n j c o k → Laid o k d p r → Laid l at (a ++ b ++ c ++ d) p r
  line-laid h w x y z =
      let long = line-long in
      laid-joined (simp length-append (omega arith)) (laid-joined (simp length-append (omega arith)) (laid-joined (omega arith) w x) y) z

-- ---- the lines of a table
module _ {A : Type 0} (line : A → List ℕ) (g : ℕ → A) where
  abbrev pub lines : ℕ → List ℕ
  lines n = flat line (tab g n)

  no_lines : lines 0 ≡ []
  unfolding flat tab
  no_lines = refl

  line-more : (n : ℕ) → length (lines (suc n)) ≡ length (lines n) + length (line (g n))
  unfolding tab
  line-more n = ap length (flat-snoc line (tab g n) (g n)) ∙ length-append (lines n) (line (g n))

  -- where no line is longer than k
  pub lines-short : (k : ℕ) → ((i : ℕ) → length (line (g i)) ≤ k) → (n : ℕ) → length (lines n) ≤ n * k
  lines-short k h zero = omega (arith, ap length no_lines)
  lines-short k h (suc n) = rw suc-mul (omega (arith, line-more n, lines-short k h n, h n))

  -- the lines of the first i, and the next
  lines-within : (i n : ℕ) → i < n → length (lines i) + length (line (g i)) ≤ length (lines n)
  lines-within i zero h = absurd (omega arith)
  lines-within i (suc n) h =
      ⊎_elim (λ (w : i ≡ n). rw w (omega (arith, line-more n)))
      (λ (w : i < n). omega (arith, line-more n, lines-within i n w)) (eq-or-lt_of_le (le_of_suc-le-suc h))

  -- ---- a loop that adds up how long the lines of n elements are
  module _ (n : ℕ) where
    pub record Counted (len i : ℕ) : Type 0 where
      pub few : i ≤ n
      pub sum : len ≡ length (lines i)

    pub counted_none : Counted 0 0
    counted_none = record { few = omega arith; sum = sym (ap length no_lines) }

    pub counted_next : {len i m : ℕ} {x : A} → Counted len i → i < n → x ≡ g i → m ≡ length (line x) → Counted (len + m) (i + 1)
    counted_next {i = i} c h q e =
        record { few = omega arith; sum = rw add-one (omega (arith, c.sum, line-more i, e, ap (λ (x : A). length (line x)) q)) }

    pub counted-all : {len i : ℕ} → Counted len i → n ≤ i → len ≡ length (lines n)
    counted-all {i = i} c h = let q : i ≡ n = omega (arith, c.few) in rw q at c.sum

  -- ---- a loop that writes them, over d from its first byte
  module _ (n : ℕ) (d : List ℕ) where
    pub record Written (e : List ℕ) (at i : ℕ) : Type 0 where
      pub few : i ≤ n
      pub size : length e ≡ length d
      pub laid : Laid d 0 (lines i) e at

    pub written_none : Written d 0 0
    written_none = record { few = omega arith; size = refl; laid = rw no_lines (laid-nothing d 0) }

    -- the next has room
    module _ (room : length (lines n) ≤ length d) {e : List ℕ} {at i : ℕ} {x : A} (w : Written e at i) (h : i < n) (q : x ≡ g i) where
      pub written-room : at + length (line x) ≤ length e
      written-room = rw q (omega (arith, w.size, w.laid.place, lines-within i n h))

      pub written_next : {f : List ℕ} {r : ℕ} → Laid e at (line x) f r → Written f r (i + 1)
      written_next {f} {r} y =
          let z : Laid e at (line (g i)) f r = rw q at y in
          record {
            few = omega arith;
            size = ap length y.bytes ∙ overwrite-length e (line x) at written-room ∙ w.size;
            laid = rw flat-tab-next (laid-joined (omega (arith, lines-within i n h)) w.laid z);
          }

    pub written_all : {e : List ℕ} {at i : ℕ} → Written e at i → n ≤ i → Laid d 0 (lines n) e at
    written_all {i = i} w h = let q : i ≡ n = omega (arith, w.few) in rw q at w.laid
