-- The files that a disc shows, place by place, and the place that a record of a file names.
use Prim.Native.Nat.{ℕ, ◌<◌}
use mathlib.Core.Path.{◌≡◌, sym, ap, ◌∙◌, subst}
use mathlib.Core.Bool.{true}
use mathlib.Core.List.{List}
use lib.ListN.{length, get_or, length-map}
use Rattle.buffer.specs.Lists.{tab}
use Rattle.buffer.proofs.Lists.{map-tab, tab-at, tab-length}
use Rattle.place.specs.declared.Run.{Run}
use Rattle.disc.specs.Directory.{entry_at, file_count, files, good_disc, run_of}
use Rattle.disc.proofs.Locations.{FileAt}
use Rattle.views.specs.Same.{Shown, shown, shown_files, whose}
use Rattle.views.proofs.First.{start-once, whose-entry, whose-inside}

-- ---- what is shown
pub shown-tab : (disc : List ℕ) → shown_files disc ≡ tab (λ (i : ℕ). shown disc (entry_at disc i)) (file_count disc)
shown-tab disc = map-tab (shown disc) (entry_at disc) (file_count disc)

shown-length : (disc : List ℕ) → length (shown_files disc) ≡ file_count disc
shown-length disc = length-map (files disc) (shown disc) ∙ tab-length (entry_at disc) (file_count disc)

shown-at : (disc : List ℕ) (i : ℕ) (d : Shown) → i < file_count disc → get_or (shown_files disc) i d ≡ shown disc (entry_at disc i)
shown-at disc i d h =
    ap (λ (l : List Shown). get_or l i d) (shown-tab disc)
    ∙ tab-at (λ (j : ℕ). shown disc (entry_at disc j)) (file_count disc) i d h

module _ (d₁ d₂ : List ℕ) (same : shown_files d₁ ≡ shown_files d₂) where
  pub shown-count : file_count d₁ ≡ file_count d₂
  shown-count = sym (shown-length d₁) ∙ ap (λ (l : List Shown). length l) same ∙ shown-length d₂

  pub same-shown : (i : ℕ) → i < file_count d₁ → shown d₁ (entry_at d₁ i) ≡ shown d₂ (entry_at d₂ i)
  same-shown i h =
      let d = shown d₁ (entry_at d₁ i) in
      sym (shown-at d₁ i d h)
      ∙ ap (λ (l : List Shown). get_or l i d) same
      ∙ shown-at d₂ i d (subst (λ (n : ℕ). i < n) shown-count h)

-- ---- what a record names
pub whose-run : (disc : List ℕ) (run : Run) → FileAt disc run → run ≡ run_of (entry_at disc (whose disc run))
whose-run disc run f = let w = whose-entry disc run f in λ z. record { start = sym w.0 z; len = sym w.1 z }

pub whose-is : (disc : List ℕ) → good_disc disc ≡ true → (run : Run) (f : FileAt disc run) → whose disc run ≡ f.place
whose-is disc good run f =
    start-once disc good (whose disc run) f.place (whose-inside disc run f) f.inside
    ((whose-entry disc run f).0 ∙ ap (λ (r : Run). r.start) f.run_is)
