-- What `==` of slices says is what `same` does.
use Prim.Native.Nat.{ℕ}
use mathlib.Core.Path.{◌≡◌, refl, ap, ◌∙◌}
use mathlib.Core.Bool.{◌&&◌}
use mathlib.Core.List.{List, [], ◌∷◌}
use lib.Dec.{eqb}
use Rattle.std.specs.Str.{bytes_eq}
use Rattle.buffer.specs.Lists.{same}
use Rattle.buffer.proofs.bytes.same_bytes.Goals as goal

pointwise-same : (l m : List ℕ) → bytes_eq l m ≡ same l m
unfolding same
pointwise-same [] [] = refl
pointwise-same [] (y ∷ m) = refl
pointwise-same (x ∷ l) [] = refl
pointwise-same (x ∷ l) (y ∷ m) = ap (λ b. eqb x y && b) (pointwise-same l m)

pub returns : goal.returns
returns c = c.eq.ensures ∙ pointwise-same c.args.a.now c.args.b.now
