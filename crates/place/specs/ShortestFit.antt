-- What a place is, by document 02, Q-10: "the start of the shortest free run that fits, the lowest of equals".
-- `Free n s` says that the n bytes from s on are free.
use Rattle.std.specs.Prelude.{ℕ, ◌+◌, ◌≤◌, ◌≡◌}

module _ (Free : ℕ → ℕ → Type 0) where
  -- n free bytes from start on that lie in no longer stretch of free bytes
  pub record FreeRun (n start : ℕ) : Type 0 where
    pub free : Free n start
    pub whole : (m s : ℕ) → Free m s → s ≤ start → start + n ≤ s + m → (s ≡ start) × (m ≡ n)

  -- where n bytes go
  pub record ShortestFit (n start : ℕ) : Type 0 where
    pub len : ℕ
    pub enough : n ≤ len
    pub run : FreeRun len start
    pub shortest : (m s : ℕ) → n ≤ m → FreeRun m s → len ≤ m
    pub lowest : (s : ℕ) → FreeRun len s → start ≤ s
