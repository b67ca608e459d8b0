-- One more digit in front, as the loop of `digits_of` writes it; how many digits there are.
use Prim.Native.Nat.{ℕ, zero, suc, ◌+◌, ◌-◌, ◌/◌, ◌%◌, ◌^◌, ◌≤◌, ◌<◌}
use mathlib.Core.Path.{◌≡◌, sym, ap, ◌∙◌}
use mathlib.Core.Bool.{Bool, true, false}
use mathlib.Core.List.{List, [], ◌∷◌, ◌++◌, append_assoc}
use native.Mathlib.Nat.{not-suc-le-zero, pow-suc, div-lt_iff_lt-mul}
use native.Mathlib.Numerals.{add-one}
use native.Mathlib.Omega.{arith}
use lib.Dec.{leb}
use lib.ListN.{length, replicate, set, take, drop, length-append, length-set}
use lib.Seq.{drop-cons, get_or-set_same, drop-set-lt, take-set-le, take-take}
use borrow.Author.Tests.{le-leb}
use Rattle.buffer.proofs.Lists.{take-replicate}
use Rattle.decimal.specs.Decimal.{if_more, last_digits}

-- a number that needs another digit has room for it
pub room : (s r : ℕ) → 10 ≤ r → r < 10 ^ (s + 1) → 0 < s
room zero r h k = absurd (let x : r < 10 = k in omega arith)
room (suc s) r h k = omega arith

pub shorter : (s r : ℕ) → 0 < s → r < 10 ^ (s + 1) → r / 10 < 10 ^ (s - 1 + 1)
shorter s r h k =
    let e : s - 1 + 1 ≡ s = omega arith in
    rw e ((div-lt_iff_lt-mul {k = 10} {x = r} {y = 10 ^ s} (omega arith)).1 (rw (add-one, pow-suc) at k))

written : (k : ℕ) (b : List ℕ) (d : ℕ) → k < length b → drop k (set b k d) ≡ d ∷ drop (suc k) b
written k b d h =
    drop-cons (set b k d) k 0 (rw length-set h)
    ∙ ap (λ (x : ℕ). x ∷ drop (suc k) (set b k d)) (get_or-set_same b k d 0 h)
    ∙ ap (λ (l : List ℕ). d ∷ l) (drop-set-lt (suc k) b k d (omega arith))

pub digit-next : (s r d : ℕ) (b : List ℕ) → 10 ≤ r → 0 < s → s < length b → d ≡ 48 + r / 10 % 10
    → if_more (leb 10 r) (last_digits s (r / 10))
    ++ drop s b ≡ if_more (leb 10 (r / 10)) (last_digits (s - 1) (r / 10 / 10)) ++ drop (s - 1) (set b (s - 1) d)
unfolding last_digits
digit-next zero r d b h k l e = absurd (not-suc-le-zero k)
digit-next (suc s) r d b h k l e =
    let m : suc s - 1 ≡ s = omega arith in
    rw (m, le-leb _ _ h, written s b d (omega arith), e)
    (append_assoc (if_more (leb 10 (r / 10)) (last_digits s (r / 10 / 10))) ((48 + r / 10 % 10) ∷ []) (drop (suc s) b))

-- ---- what stands before the digits
pub zeros-shorter : (b : List ℕ) (s d : ℕ) → 0 < s → take s b ≡ replicate s 0 → take (s - 1) (set b (s - 1) d) ≡ replicate (s - 1) 0
zeros-shorter b s d h e =
    take-set-le (s - 1) b (s - 1) d (omega arith)
    ∙ sym (take-take (s - 1) s b (omega arith))
    ∙ ap (take (s - 1)) e
    ∙ take-replicate 0 s (s - 1) (omega arith)

-- ---- how many digits
pub digits-few : (f n : ℕ) → length (last_digits f n) ≤ f
unfolding last_digits
digits-few zero n = omega arith
digits-few (suc f) n =
    let rest = if-more-few (leb 10 n) (last_digits f (n / 10)) in
    let few = digits-few f (n / 10) in
    omega (arith, length-append (if_more (leb 10 n) (last_digits f (n / 10))) ((48 + n % 10) ∷ []))
  where
    if-more-few : (more : Bool) (l : List ℕ) → length (if_more more l) ≤ length l
    if-more-few true l = omega arith
    if-more-few false l = omega arith
