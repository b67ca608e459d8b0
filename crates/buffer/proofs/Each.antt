-- A fact of every element of a list, and which lists made from others keep it.
use Prim.Native.Nat.{ℕ, zero, suc}
use mathlib.Core.Path.{◌≡◌}
use mathlib.Core.Bool.{Bool, true, false}
use mathlib.Core.List.{List, [], ◌∷◌, ◌++◌, map}
use lib.ListN.{drop, get_or, replicate, set, take}
use Rattle.buffer.specs.Lists.{all, cons_if, flat, keep, tab}
use Rattle.buffer.proofs.Bools.{and_left, and_right}

module _ {A : Type 0} (P : A → Type 0) where
  unfoldable pub Each : List A → Type 0
  Each [] = Unit {0}
  Each (x ∷ l) = P x × Each l

  pub each_append : (l m : List A) → Each l → Each m → Each (l ++ m)
  unfolding Each
  each_append [] m h k = k
  each_append (x ∷ l) m h k = (h.0, each_append l m h.1 k)

  pub each_take : (n : ℕ) (l : List A) → Each l → Each (take n l)
  unfolding Each
  each_take zero l h = tt
  each_take (suc n) [] h = tt
  each_take (suc n) (x ∷ l) h = (h.0, each_take n l h.1)

  pub each-drop : (n : ℕ) (l : List A) → Each l → Each (drop n l)
  unfolding Each
  each-drop zero l h = h
  each-drop (suc n) [] h = tt
  each-drop (suc n) (x ∷ l) h = each-drop n l h.1

  pub each-replicate : (n : ℕ) (x : A) → P x → Each (replicate n x)
  unfolding Each
  each-replicate zero x h = tt
  each-replicate (suc n) x h = (h, each-replicate n x h)

  pub each_set : (l : List A) (i : ℕ) (x : A) → Each l → P x → Each (set l i x)
  unfolding Each
  each_set [] i x h k = tt
  each_set (y ∷ l) zero x h k = (k, h.1)
  each_set (y ∷ l) (suc i) x h k = (h.0, each_set l i x h.1 k)

  pub each_keep : (p : A → Bool) (l : List A) → Each l → Each (keep p l)
  unfolding Each keep
  each_keep p [] h = tt
  each_keep p (x ∷ l) h = go (p x) (each_keep p l h.1)
    where
      go : (b : Bool) → Each (keep p l) → Each (cons_if b x (keep p l))
      go true k = (h.0, k)
      go false k = k

  -- where a test holds of every element
  pub all-each : (p : A → Bool) (l : List A) → ((x : A) → p x ≡ true → P x) → all p l ≡ true → Each l
  unfolding Each all
  all-each p [] g h = tt
  all-each p (x ∷ l) g h = (g x (and_left (p x) (all p l) h), all-each p l g (and_right (p x) (all p l) h))

  pub each-tab : (f : ℕ → A) (n : ℕ) → ((i : ℕ) → P (f i)) → Each (tab f n)
  unfolding Each tab
  each-tab f zero h = tt
  each-tab f (suc n) h = each_append (tab f n) (f n ∷ []) (each-tab f n h) (h n, tt)

  pub each_at : (l : List A) (i : ℕ) (d : A) → Each l → P d → P (get_or l i d)
  unfolding Each
  each_at [] i d h k = k
  each_at (x ∷ l) zero d h k = h.0
  each_at (x ∷ l) (suc i) d h k = each_at l i d h.1 k

  pub at_each : (l : List A) (d : A) → ((i : ℕ) → P (get_or l i d)) → Each l
  unfolding Each
  at_each [] d h = tt
  at_each (x ∷ l) d h = (h 0, at_each l d (λ i. h (suc i)))

module _ {A : Type 0} (P : A → Type 0) where
  pub each-flat : (Q : ℕ → Type 0) (f : A → List ℕ) → ((x : A) → P x → Each Q (f x)) → (l : List A) → Each P l → Each Q (flat f l)
  unfolding Each flat
  each-flat Q f g [] h = tt
  each-flat Q f g (x ∷ l) h = each_append Q (f x) (flat f l) (g x h.0) (each-flat Q f g l h.1)

  pub each_map : {B : Type 0} (Q : B → Type 0) (f : A → B) → ((x : A) → P x → Q (f x)) → (l : List A) → Each P l → Each Q (map f l)
  unfolding Each
  each_map Q f g [] h = tt
  each_map Q f g (x ∷ l) h = (g x h.0, each_map Q f g l h.1)
