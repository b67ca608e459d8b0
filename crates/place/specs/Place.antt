-- Places for runs of bytes. Files on the disc and variables in memory are placed by the same definitions.
use Rattle.std.specs.Prelude.{ℕ, zero, suc, ◌+◌, ◌-◌, Bool, true, false, cond, not, ◌&&◌, ◌||◌, List, [], ◌∷◌, ◌++◌}
use Rattle.std.specs.Prelude.{map, eqb, leb, ltb, length, replicate, None, Option, Some}
use Rattle.buffer.specs.Lists.{all}
use Rattle.place.specs.declared.Run.{Run}

-- as many runs as may be taken: ten files, or 25 variables and the ten runs that a later request holds back
abbrev pub max_runs : ℕ
max_runs = 35

abbrev pub run_from : ℕ → ℕ → Run
run_from start n = record { start = start; len = n }

abbrev pub no_run : Run
no_run = run_from 0 0

-- these runs first, and nothing behind them
abbrev pub filled : List Run → List Run
filled runs = runs ++ replicate (max_runs - length runs) no_run

-- one ends before the other starts: they share no byte
unfoldable pub apart : Run → Run → Bool
apart u v = leb (u.start + u.len) v.start || leb (v.start + v.len) u.start

-- n bytes from start on lie between lo and hi and meet no run of the list
unfoldable pub fits : List Run → ℕ → ℕ → ℕ → ℕ → Bool
fits runs lo hi n start = leb lo start && (leb (start + n) hi && all (apart (run_from start n)) runs)

abbrev pub at_or : Bool → ℕ → Option ℕ → Option ℕ
at_or true k f = Some k
at_or false k f = f

-- the lowest of the m numbers from k on that p holds of
unfoldable pub lowest : (ℕ → Bool) → ℕ → ℕ → Option ℕ
lowest p k zero = None
lowest p k (suc m) = at_or (p k) k (lowest p (suc k) m)

-- the lowest start that fits
unfoldable pub lowest_fit : List Run → ℕ → ℕ → ℕ → Option ℕ
lowest_fit runs lo hi n = lowest (fits runs lo hi n) lo (suc hi - lo)

abbrev pub greater_of : Bool → ℕ → ℕ → ℕ
greater_of true n m = n
greater_of false n m = m

-- the greatest number from 1 to n that p holds of, or 0
unfoldable pub greatest : (ℕ → Bool) → ℕ → ℕ
greatest p zero = 0
greatest p (suc n) = greater_of (p (suc n)) (suc n) (greatest p n)

-- ---- free runs
-- how many bytes from start on are free
unfoldable pub free_from : List Run → ℕ → ℕ → ℕ
free_from runs hi start = greatest (λ n. fits runs start hi n start) (hi - start)

-- a free run of n bytes or more begins at start: n bytes fit from there on, and not together with the byte before
unfoldable pub begins : List Run → ℕ → ℕ → ℕ → ℕ → Bool
begins runs lo hi n zero = fits runs lo hi n 0
begins runs lo hi n (suc s) = not (fits runs lo hi (suc n) s) && fits runs lo hi n (suc s)

-- A free run begins at lo or where a taken run ends, nowhere else (law `begins-at-start`). `place` is taken over these
-- numbers alone so that it can be computed; that it is the least over all numbers are the laws `place_at`, `place_is`.
abbrev pub starts : List Run → ℕ → List ℕ
starts runs lo = lo ∷ map (λ v. v.start + v.len) runs

-- k has the smaller size, or the same and is no higher
abbrev pub precedes : (ℕ → ℕ) → ℕ → ℕ → Bool
precedes size k j = ltb (size k) (size j) || (eqb (size k) (size j) && leb k j)

abbrev pub lesser : Bool → (ℕ → ℕ) → ℕ → Option ℕ → Option ℕ
lesser false size k f = f
lesser true size k None = Some k
lesser true size k (Some j) = Some (cond (precedes size k j) k j)

-- of these numbers that p holds of the one of the least size, the lowest of equals
unfoldable pub least : (ℕ → Bool) → (ℕ → ℕ) → List ℕ → Option ℕ
least p size [] = None
least p size (k ∷ ks) = lesser (p k) size k (least p size ks)

-- Document 02, Q-10: "A new file or variable now goes at the start of the shortest free run that fits, the lowest of
-- equals."
unfoldable pub place : List Run → ℕ → ℕ → ℕ → Option ℕ
place runs lo hi n = least (begins runs lo hi n) (free_from runs hi) (starts runs lo)

abbrev pub is_at : Option ℕ → Bool
is_at (Some k) = true
is_at None = false

-- Document 01: "Free space: the longest free run"
unfoldable pub longest : List Run → ℕ → ℕ → ℕ
longest runs lo hi = greatest (λ n. is_at (lowest_fit runs lo hi n)) (hi - lo)
