-- An array made by a closure, place by place.
use Prim.Native.Nat.{ℕ, zero, suc, ◌+◌, ◌≤◌, ◌<◌}
use mathlib.Core.Path.{◌≡◌, subst, ◌∙◌}
use mathlib.Core.List.{List}
use mathlib.Core.Logic.{⊎_elim}
use denote.Param.Members.{Mut}
use native.Mathlib.Nat.{eq-or-lt_of_le}
use native.Mathlib.Omega.{arith}
use lib.ListN.{get_or}
use Rattle.std.proofs.lemmas.List.FromFn.{fill_by_all}
use Rattle.std.specs.Array.{IsFromFnResult, IsFromFnResultFrom}
use Rattle.std.specs.Fn.{Called}
use Rattle.buffer.specs.Lists.{tab}
use Rattle.buffer.proofs.Tables.{tab-range}

-- the closure makes `made i` of i and stays as it is
module _ {F B : Type 0} (g : Mut F (ℕ × Unit {0}) B) (made : ℕ → B) (f : F)
    (says : (i : ℕ) (y : B) (q : F) → Called g f (i, tt) y q → (q ≡ f) × (y ≡ made i)) where
  made-at : (ys : List B) (i n : ℕ) → IsFromFnResultFrom g f ys i n → (k : ℕ) → i ≤ k → k < i + n → (d : B) → get_or ys k d ≡ made k
  made-at ys i zero r k a b d = absurd (omega arith)
  made-at ys i (suc n) (q, y, e, c, rest) k a b d =
      let s = says i y q c in
      ⊎_elim (λ (h : i ≡ k). subst (λ (j : ℕ). get_or ys j d ≡ made j) h (e.1 d ∙ s.1))
      (λ (h : i < k). made-at ys (i + 1) n (subst (λ (p : F). IsFromFnResultFrom g p ys (i + 1) n) s.0 rest) k (omega arith) (omega arith)
      d)
      (eq-or-lt_of_le a)

  pub made-all : (ys : List B) (n : ℕ) → IsFromFnResult g f ys n → ys ≡ tab made n
  made-all ys n r =
      fill_by_all made ys n (made 0) r.long (λ k h. made-at ys 0 n r.each k (omega arith) (omega arith) (made 0)) ∙ tab-range made n
