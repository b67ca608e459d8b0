-- Runs of bytes that are laid one behind the other, and one in the middle.
use Prim.Native.Nat.{ℕ, ◌+◌, ◌≤◌}
use mathlib.Core.Path.{◌≡◌, sym, ap, ap₂, ◌∙◌}
use mathlib.Core.List.{List, ◌++◌, append_assoc}
use native.Mathlib.Omega.{arith}
use lib.ListN.{length, take, drop, length-append}
use lib.Seq.{drop-append-le, drop_at, take-append-le, take_at}
use Rattle.buffer.specs.Buffer.{overwrite}
use Rattle.buffer.proofs.Buffer.{overwrite-joined}

-- three runs, each right behind the one before: as one run
module _ (d s t u : List ℕ) (at b c : ℕ) (q : b ≡ at + length s) (r : c ≡ b + length t) (h : c ≤ length d) where
  pub three-laid : (e f g : List ℕ) → e ≡ overwrite d at s → f ≡ overwrite e b t → g ≡ overwrite f c u → g ≡ overwrite d at (s ++ t ++ u)
  three-laid e f g x y z =
      z
      ∙ ap (λ (l : List ℕ). overwrite l c u) (y ∙ ap (λ (l : List ℕ). overwrite l b t) x ∙ overwrite-joined d s t at b q (omega arith))
      ∙ overwrite-joined d (s ++ t) u at c (omega (arith, length-append s t)) h

-- a run in the middle, replaced by one as long
pub overwrite-middle : (x s t z : List ℕ) (at : ℕ) → length x ≡ at → length s ≡ length t → overwrite (x ++ s ++ z) at t ≡ x ++ t ++ z
overwrite-middle x s t z at h e =
    let n : length (x ++ s) ≡ at + length t = simp length-append (omega arith) in
    ap₂ (λ (a b : List ℕ). a ++ t ++ b) (ap (take at) (append_assoc x s z) ∙ take_at x (s ++ z) at h) (drop_at (x ++ s) z (at + length t) n)

-- a run within the front
pub overwrite-front : (x y s : List ℕ) (at : ℕ) → at + length s ≤ length x → overwrite (x ++ y) at s ≡ overwrite x at s ++ y
overwrite-front x y s at h =
    rw (take-append-le at x y (omega arith), drop-append-le (at + length s) x y h)
    (sym (append_assoc (take at x ++ s) (drop (at + length s) x) y))
