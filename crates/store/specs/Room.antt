-- Where a new file can go. The demands speak of places on the disc in these words; no answer is made of them.
use Rattle.std.specs.Prelude.{ℕ, ◌+◌, ◌≤◌, ◌<◌, List, ◌⊎◌, length}
use Rattle.disc.specs.Directory.{file_count}
use Rattle.disc.specs.Layout.{data_start}
use Rattle.disc.specs.Offsets.{size_of, start_of}

-- n bytes from start on are data bytes, and no file's
pub record Free (disc : List ℕ) (n start : ℕ) : Type 0 where
  pub low : data_start ≤ start
  pub high : start + n ≤ length disc
  pub clear : (i : ℕ) → i < file_count disc → (start + n ≤ start_of disc i) ⊎ (start_of disc i + size_of disc i ≤ start)
