-- Places on the disc: what the search finds is the place that is due, and what it does not find is not there.
use Rattle.std.specs.Prelude.{None, Option, Some}
use Prim.Native.Nat.{ℕ, ◌+◌, ◌-◌, ◌≤◌, ◌<◌}
use mathlib.Core.Path.{◌≡◌, refl, sym, ap, ◌∙◌, subst₂}
use mathlib.Core.Bool.{Bool, true, false}
use mathlib.Core.List.{List}
use mathlib.Core.Logic.{◌⊎◌}
use native.Mathlib.Omega.{arith}
use lib.ListN.{length}
use Rattle.buffer.specs.Lists.{all}
use Rattle.buffer.proofs.Bools.{true-not-false}
use Rattle.buffer.proofs.Tables.{all_map, all-tab-at, all-tab-each}
use Rattle.place.specs.Place.{apart, fits, is_at, longest, run_from}
use Rattle.place.specs.ShortestFit.{ShortestFit}
use Rattle.place.proofs.Place.{Fits, apart-is, fits-is, is-apart, is-fits, longest-bound, longest-fits, longest-most}
use Rattle.place.proofs.Place.{no-place-none-fits, place-fits}
use Rattle.place.proofs.ShortestFit.{place-shortest-fit, shortest-fit-as}
use Rattle.disc.specs.Directory.{entry_at, file_count, files, is_disc_length, run_of, taken}
use Rattle.disc.specs.Layout.{data_start}
use Rattle.disc.specs.declared.Entry.{Entry}
use Rattle.disc.proofs.Lengths.{disc-bounds}
use Rattle.disc.proofs.Offsets.{entry-size, entry-start}
use Rattle.store.specs.File.{place_of, room_on, size_limit}
use Rattle.store.specs.Room.{Free}

-- ---- bytes that are no file's, as the search tests them
module _ (disc : List ℕ) (n : ℕ) where
  abbrev Clear : ℕ → Entry → Bool
  Clear s e = apart (run_from s n) (run_of e)

  -- before the run of that start and length, or behind it
  abbrev Sides : ℕ → ℕ → ℕ → Type 0
  Sides s start len = (s + n ≤ start) ⊎ (start + len ≤ s)

  fits-free : (s : ℕ) → fits (taken disc) data_start (length disc) n s ≡ true → Free disc n s
  fits-free s t =
      let f = fits-is (taken disc) data_start (length disc) n s t in
      let each : all (Clear s) (files disc) ≡ true = sym (all_map (apart (run_from s n)) run_of (files disc)) ∙ f.free in
      record {
        low = f.low;
        high = f.high;
        clear = λ i h. subst₂ (Sides s) (entry-start disc i) (entry-size disc i)
            (apart-is (run_from s n) (run_of (entry_at disc i)) (all-tab-at (entry_at disc) (file_count disc) (Clear s) i h each)).sides;
      }

  pub free-fits : (s : ℕ) → Free disc n s → fits (taken disc) data_start (length disc) n s ≡ true
  free-fits s f =
      is-fits (taken disc) data_start (length disc) n s
      (record {
        low = f.low;
        high = f.high;
        free =
            all_map (apart (run_from s n)) run_of (files disc)
            ∙ all-tab-each (entry_at disc) (file_count disc) (Clear s)
            (λ i h. is-apart (run_from s n) (run_of (entry_at disc i))
            (record { sides = subst₂ (Sides s) (sym (entry-start disc i)) (sym (entry-size disc i)) (f.clear i h) }));
      })

  pub found-fits : (s : ℕ) → place_of disc n ≡ Some s → Fits (taken disc) data_start (length disc) n s
  unfolding place_of
  found-fits s e = place-fits (taken disc) data_start (length disc) n s e

  -- ---- what the search says
  pub no-place-none-fit : place_of disc n ≡ None → (s : ℕ) → fits (taken disc) data_start (length disc) n s ≡ false
  unfolding place_of
  no-place-none-fit e s = no-place-none-fits (taken disc) data_start (length disc) n e s

  pub no-place-none-free : place_of disc n ≡ None → (s : ℕ) → Free disc n s → ⊥
  no-place-none-free e s f = true-not-false (free-fits s f) (no-place-none-fit e s)

  pub placed-free : (s : ℕ) → place_of disc n ≡ Some s → Free disc n s
  placed-free s e = fits-free s (is-fits (taken disc) data_start (length disc) n s (found-fits s e))

pub placed-shortest : (disc : List ℕ) (n s : ℕ) → 1 ≤ n → place_of disc n ≡ Some s → ShortestFit (Free disc) n s
unfolding place_of
placed-shortest disc n s some e =
    shortest-fit-as (λ m t. fits (taken disc) data_start (length disc) m t ≡ true) (Free disc) (fits-free disc) (free-fits disc) n s
    (place-shortest-fit (taken disc) data_start (length disc) n s some e)

-- ---- free space: a file that long has a place, no longer one has
module _ (disc : List ℕ) where
  pub room-on-is : room_on disc ≡ longest (taken disc) data_start (length disc)
  unfolding room_on
  room-on-is = refl

  pub room-on-small : room_on disc ≤ length disc
  unfolding room_on
  room-on-small = omega (arith, longest-bound (taken disc) data_start (length disc))

  pub room-on-fits : 0 < room_on disc → (s : ℕ) × (place_of disc (room_on disc) ≡ Some s)
  unfolding place_of room_on
  room-on-fits h = go (place_of disc (room_on disc)) refl
    where
      some : is_at (place_of disc (room_on disc)) ≡ true
      some = longest-fits (taken disc) data_start (length disc) h

      go : (f : Option ℕ) → place_of disc (room_on disc) ≡ f → (s : ℕ) × (place_of disc (room_on disc) ≡ Some s)
      go (Some s) q = (s, q)
      go None q = absurd (true-not-false some (ap is_at q))

  pub room-on-most : is_disc_length (length disc) ≡ true → (m : ℕ) → room_on disc < m → place_of disc m ≡ None
  unfolding place_of room_on
  room-on-most long m h = longest-most (taken disc) data_start (length disc) (disc-bounds (length disc) long).low m h

-- ---- the longest file
pub size-limit-is : (disc : List ℕ) → size_limit disc ≡ length disc - data_start
unfolding size_limit
size-limit-is disc = refl

-- on a disc without files the first so many data bytes are free
pub empty-free : (disc : List ℕ) → file_count disc ≡ 0 → (n : ℕ) → 1 ≤ n → n ≤ size_limit disc → Free disc n data_start
empty-free disc none n some small = record {
  low = omega arith;
  high = omega (arith, size-limit-is disc);
  clear = λ i h. absurd (omega (arith, h, none));
}
