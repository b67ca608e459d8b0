-- What the directory says, read off at its offsets: "name 12, start 2, length 2". The demands speak of files in these
-- words; no answer is made of them.
use Rattle.std.specs.Prelude.{ℕ, ◌+◌, ◌*◌, List}
use Rattle.buffer.specs.Buffer.{word_at}
use Rattle.disc.specs.Layout.{entry_size}

abbrev pub entry_start : ℕ → ℕ
entry_start i = i * entry_size

abbrev pub start_of : List ℕ → ℕ → ℕ
start_of disc i = word_at disc (entry_start i + 12)

abbrev pub size_of : List ℕ → ℕ → ℕ
size_of disc i = word_at disc (entry_start i + 14)
