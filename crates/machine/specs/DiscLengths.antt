-- Document 02, Q-2: a disc of either length.
use Rattle.std.specs.Prelude.{None, Option, Some}
use Rattle.std.specs.Prelude.{ℕ, ◌-◌, ◌*◌, ◌/◌, ◌≤◌, ◌≡◌, false, List, ◌⊎◌, eqb, ℤ, pos, neg_ℤ, length}
use Rattle.std.specs.Float.{fin}
use Rattle.std.specs.Float.Ieee.{up, down}
use Rattle.number.specs.declared.Number.TheVariants.{Int, Float}
use Rattle.disc.specs.Directory.{DiscLength, is_disc_length}
use Rattle.disc.specs.Layout.{data_start, long_disc, short_disc}
use Rattle.machine.specs.Answer.{Buffers, answer, other, store}
use Rattle.machine.specs.Beyond.{new_file_size}
use Rattle.machine.specs.Fields.{IsName, files_on}

abbrev pub data_bytes : ℕ → ℕ
data_bytes n = n - data_start

-- "data ending at 1023 or 4095, so *store* takes up to 863 or 3,935"
abbrev pub BothSizes : Type 0
BothSizes = (data_bytes short_disc ≡ 863) × (data_bytes long_disc ≡ 3935)

abbrev pub Fitting : (disc : List ℕ) (n : ℕ) → Type 0
Fitting disc n = (1 ≤ n) × (n ≤ data_bytes (length disc))

-- a disc without files, whatever its other bytes, takes any file that fits under any good name, and refuses every other
-- by 6
abbrev pub EmptyDiscTakes : Type 0
EmptyDiscTakes =
    (b : Buffers) (name bytes : List ℕ) → DiscLength (length b.disc) → files_on b.disc ≡ 0 → IsName name
    → let a = answer (other (store name bytes)) b in let fitting = Fitting b.disc (length bytes) in
    (fitting × (a.number ≡ pos 0)) ⊎ ((fitting → ⊥) × (a.number ≡ neg_ℤ (pos 6)))

-- OPEN's new file likewise: a size of n, whole or "cut toward zero", is taken just where n bytes fit
abbrev pub Taken : (disc : List ℕ) (n : ℕ) → Option ℕ → Type 0
Taken disc n size = (Fitting disc n × (size ≡ Some n)) ⊎ ((Fitting disc n → ⊥) × (size ≡ None))

abbrev pub OpenTakes : Type 0
OpenTakes =
    (disc : List ℕ) → ((n : ℕ) → Taken disc n (new_file_size disc (Int (pos n))))
    × ((m : ℕ) (e : ℤ) → Taken disc (m * up e / down e) (new_file_size disc (Float (fin false m e))))

-- "Discs already in the field are read unchanged": of every length but the new one the test says what document 01's
-- said
abbrev pub ReadAsBefore : Type 0
ReadAsBefore = (n : ℕ) → (n ≡ long_disc → ⊥) → is_disc_length n ≡ eqb n short_disc

unfoldable pub EitherLength : Type 0
EitherLength = BothSizes × EmptyDiscTakes × OpenTakes × ReadAsBefore
