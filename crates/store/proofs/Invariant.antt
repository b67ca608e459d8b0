-- Every change keeps a good disc good.
use Prim.Native.Nat.{ℕ, ◌+◌, ◌≤◌, ◌<◌}
use mathlib.Core.Path.{◌≡◌, sym, ◌∙◌}
use mathlib.Core.Bool.{true}
use mathlib.Core.List.{List}
use native.Mathlib.Omega.{arith}
use lib.ListN.{length}
use Rattle.buffer.proofs.Tables.{all_map, all-tab-at, all-tab-each}
use Rattle.place.specs.Place.{apart, run_from}
use Rattle.place.specs.declared.Run.{Run}
use Rattle.place.proofs.Place.{apart-sym}
use Rattle.disc.specs.Directory.{beside, entry_at, file_count, files, good_disc, run_of}
use Rattle.disc.proofs.Goodness.{Beside, GoodEntry, good-disc-is, good-entry-at, good-files-less, good-files-more, is-beside}
use Rattle.disc.proofs.Goodness.{is-good-disc, is-good-entry}
use Rattle.disc.proofs.Lookups.{lookup-none}
use Rattle.disc.proofs.Names.{good-name-is, padded-good}
use Rattle.store.specs.File.{entered, erased, new_entry, written_at}
use Rattle.store.proofs.Admissions.{Admitted}
use Rattle.store.proofs.Changes.{Inside, Present, Room, entered-count, entered-files, entered-length, erased-count, erased-files}
use Rattle.store.proofs.Changes.{erased-length, written_count, written-files, written-length}

-- ---- what enters
module _ {disc name : List ℕ} {n s : ℕ} (a : Admitted disc name n s) where
  -- place and length fit 16 bits
  pub admitted-small : length disc ≤ 65535 → (s < 65536) × (n < 65536)
  admitted-small h = omega (arith, a.placed.high)

  pub room : Room disc name
  room = record {
    low = omega (arith, a.placed.low, a.placed.high);
    few = a.few;
    short = omega (arith, (good-name-is name a.good).short);
  }

  pub new-entry-good : GoodEntry (length disc) (new_entry name n s)
  new-entry-good = record { field = padded-good name a.good; some = a.some; low = a.placed.low; high = a.placed.high }

  pub new-entry-beside : (i : ℕ) → i < file_count disc → Beside (entry_at disc i) (new_entry name n s)
  new-entry-beside i h =
      record {
        differ = λ q. lookup-none a.new (record { good = a.good; inside = h; held = q });
        clear = apart-sym (run_from s n) (run_of (entry_at disc i))
            (all-tab-at (entry_at disc) (file_count disc) (λ e. apart (run_from s n) (run_of e)) i h
            (sym (all_map (apart (run_from s n)) run_of (files disc)) ∙ a.placed.free));
      }

  pub entered-good : good_disc disc ≡ true → good_disc (entered disc name n s) ≡ true
  entered-good good =
      is-good-disc (entered disc name n s)
      (record {
        few = omega (arith, entered-count n s room, a.few);
        entries =
            rw (entered-length n s room, entered-files n s room)
            (good-files-more (length disc) (files disc) (new_entry name n s) (good-disc-is disc good).entries
            (is-good-entry (length disc) (new_entry name n s) new-entry-good)
            (all-tab-each (entry_at disc) (file_count disc) (λ e. beside e (new_entry name n s))
            (λ i h. is-beside (entry_at disc i) (new_entry name n s) (new-entry-beside i h))));
      })

-- ---- what goes
module _ (disc : List ℕ) (good : good_disc disc ≡ true) (i : ℕ) (h : i < file_count disc) where
  pub present : Present disc i
  present =
      let e = good-entry-at disc good i h in
      record { low = omega (arith, e.low, e.high); few = (good-disc-is disc good).few; inside = h }

  pub erased-good : good_disc (erased disc i) ≡ true
  erased-good =
      is-good-disc (erased disc i)
      (record {
        few = omega (arith, erased-count present, present.few);
        entries = rw (erased-length present, erased-files present)
            (good-files-less (length disc) (files disc) i (good-disc-is disc good).entries);
      })

  -- ---- what is written, and read, in a file
  pub file-inside : (offset n : ℕ) → offset + n ≤ (entry_at disc i).len → Inside disc (run_of (entry_at disc i)) offset n
  file-inside offset n k =
      let e = good-entry-at disc good i h in
      record { low = e.low; high = e.high; fits = k }

pub written-good : {disc : List ℕ} {run : Run} {offset : ℕ} (bytes : List ℕ) → Inside disc run offset (length bytes) → good_disc disc ≡ true
    → good_disc (written_at disc run offset bytes) ≡ true
written-good {disc} {run} {offset} bytes inside good =
    let g = good-disc-is disc good in
    is-good-disc (written_at disc run offset bytes)
    (record {
      few = omega (arith, written_count bytes inside, g.few);
      entries = rw (written-length bytes inside, written-files bytes inside g.few) g.entries;
    })
