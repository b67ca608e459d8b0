-- Tests on lists, and lists made from others. Everything above is said in these words.
use Rattle.std.specs.Prelude.{None, Option, Some}
use Rattle.std.specs.Prelude.{ℕ, zero, suc, Bool, true, false, ◌&&◌, ◌||◌, List, [], ◌∷◌, ◌++◌, eqb, take, drop}

-- p holds of every element
unfoldable pub all : {A : Type 0} → (A → Bool) → List A → Bool
all p [] = true
all p (x ∷ l) = p x && all p l

-- r holds between every two elements, the earlier one first
unfoldable pub pairs : {A : Type 0} → (A → A → Bool) → List A → Bool
unfolding all
pairs r [] = true
pairs r (x ∷ l) = all (r x) l && pairs r l

-- p holds of some element
unfoldable pub any : {A : Type 0} → (A → Bool) → List A → Bool
any p [] = false
any p (x ∷ l) = p x || any p l

abbrev pub cons_if : {A : Type 0} → Bool → A → List A → List A
cons_if true x l = x ∷ l
cons_if false x l = l

-- the elements that p holds of
unfoldable pub keep : {A : Type 0} → (A → Bool) → List A → List A
keep p [] = []
keep p (x ∷ l) = cons_if (p x) x (keep p l)

-- the same elements in the same order
unfoldable pub same : List ℕ → List ℕ → Bool
same [] [] = true
same [] (y ∷ m) = false
same (x ∷ l) [] = false
same (x ∷ l) (y ∷ m) = eqb x y && same l m

abbrev pub later : Option ℕ → Option ℕ
later (Some i) = Some (suc i)
later None = None

abbrev pub here_or : Bool → Option ℕ → Option ℕ
here_or true f = Some 0
here_or false f = later f

-- the place of the first element that p holds of
unfoldable pub index : {A : Type 0} → (A → Bool) → List A → Option ℕ
index p [] = None
index p (x ∷ l) = here_or (p x) (index p l)

-- f 0, f 1, .. f (n - 1)
unfoldable pub tab : {A : Type 0} → (ℕ → A) → ℕ → List A
tab f zero = []
tab f (suc n) = tab f n ++ (f n ∷ [])

-- what f makes of each element, joined
unfoldable pub flat : {A : Type 0} → (A → List ℕ) → List A → List ℕ
flat f [] = []
flat f (x ∷ l) = f x ++ flat f l

-- the list less its element at place i
abbrev pub without : {A : Type 0} → ℕ → List A → List A
without i l = take i l ++ drop (suc i) l
