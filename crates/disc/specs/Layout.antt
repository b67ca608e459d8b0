-- The disc in numbers.
--
--     0    ten entries of 16 bytes: name 12, start 2, length 2
--     160  the file count
--     161  data, to the disc's end
use Rattle.std.specs.Prelude.{ℕ}

-- Document 01: "Disc, 1,024 bytes."
abbrev pub short_disc : ℕ
short_disc = 1024

-- Document 02, Q-2: "The jib board has 4,096 bytes."
abbrev pub long_disc : ℕ
long_disc = 4096

-- Document 01: "Ten directory entries of 16 bytes from 0: name 12, start 2, length 2."
abbrev pub max_files : ℕ
max_files = 10

abbrev pub entry_size : ℕ
entry_size = 16

abbrev pub name_size : ℕ
name_size = 12

-- Document 01: "A name is 1 to 11 bytes"
abbrev pub max_name : ℕ
max_name = 11

-- Document 01: "Byte 160 is the file count"
abbrev pub count_at : ℕ
count_at = 160

-- Document 01: "Data lie at 161 to 1023"; Q-2: "data ending at 1023 or 4095", which is where the disc ends
abbrev pub data_start : ℕ
data_start = 161
