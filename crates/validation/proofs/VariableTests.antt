-- The test of the variables in the parts that the code tests one after the other.
use Prim.Native.Nat.{ℕ, ◌+◌, ◌*◌, ◌≤◌, ◌<◌}
use mathlib.Core.Path.{◌≡◌, sym, ap, ◌∙◌}
use mathlib.Core.Bool.{Bool, true, false, ◌&&◌, and_assoc}
use mathlib.Core.List.{List}
use native.Mathlib.Omega.{arith}
use lib.Dec.{eqb, leb}
use lib.ListN.{length, get_or, replicate, take, drop}
use lib.Seq.{ext_get_or, get_or-take, length-take-le, take_at}
use borrow.Author.Tests.{le-leb, lt-leb}
use Rattle.buffer.specs.Buffer.{word_at}
use Rattle.buffer.specs.Lists.{all, any, pairs, tab}
use Rattle.buffer.proofs.Equivalence.{all_both, all-tab-same}
use Rattle.buffer.proofs.Lists.{tab-at, tab-length}
use Rattle.variable.specs.Good.{beside, good_size, good_variable, good_variables}
use Rattle.variable.specs.Limits.{count_at, entries_at, entry_size, max_variables, memory_size}
use Rattle.validation.specs.Columns.{places, sized, words_of}
use Rattle.validation.proofs.Clashes.{owner_column, word_of_part}
use Rattle.variable.specs.Bytes.{variable_in, variables_of}

take-of-tab : {A : Type 0} (f : ℕ → A) (n m : ℕ) → m ≤ n → take m (tab f n) ≡ tab f m
take-of-tab f n m h =
    let p = tab-length f n in
    let q = tab-length f m in
    let r = length-take-le m (tab f n) (omega arith) in
    ext_get_or (f 0) (take m (tab f n)) (tab f m) (omega arith)
    (λ i k.
    let l : i < m = omega arith in
    get_or-take m (tab f n) i (f 0) l ∙ tab-at f n i (f 0) (omega arith) ∙ sym (tab-at f m i (f 0) l))

-- who owns
abbrev pub is_owner : List ℕ → ℕ → Bool
is_owner live id = any (eqb id) live

abbrev pub variable_count : List ℕ → ℕ
variable_count area = get_or area count_at 0

module _ (live area : List ℕ) where
  pub too_many : max_variables < variable_count area → good_variables live (variables_of area) ≡ false
  unfolding good_variables variables_of
  too_many h = rw (lt-leb (variable_count area) max_variables h)

  pub no-variables : variable_count area ≡ 0 → good_variables live (variables_of area) ≡ true
  unfolding good_variables variables_of all pairs
  no-variables z = rw z

  module _ (few : variable_count area ≤ max_variables) where
    -- the owners in their column
    column-head : take (variable_count area) (owner_column area (variable_count area)) ≡ words_of area 4 (variable_count area)
    column-head =
        let words = words_of area 4 (variable_count area) in
        take_at words (drop (0 + length words) (replicate places 0)) (variable_count area)
        (tab-length (λ i. word_at area (entries_at + i * entry_size + 4)) (variable_count area))

    owned : all (is_owner live) (take (variable_count area) (owner_column area (variable_count area)))
        ≡ all (λ e. is_owner live e.owner) (tab (variable_in area) (variable_count area))
    owned =
        ap (all (is_owner live)) column-head
        ∙ all-tab-same (is_owner live) (λ e. is_owner live e.owner) (λ i. word_at area (entries_at + i * entry_size + 4)) (variable_in area)
        (variable_count area) (λ i h. ap (is_owner live) (sym (word_of_part area (entries_at + i * entry_size) entry_size 4 (omega arith))))

    each : all (good_variable live) (tab (variable_in area) (variable_count area))
        ≡ all sized (tab (variable_in area) (variable_count area))
        && all (is_owner live) (take (variable_count area) (owner_column area (variable_count area)))
    unfolding good_variable sized
    each =
        all-tab-same (good_variable live) (λ e. sized e && is_owner live e.owner) (variable_in area) (variable_in area)
        (variable_count area)
        (λ i h. sym (and_assoc (good_size (variable_in area i).kind (variable_in area i).size)
        (leb ((variable_in area i).address + (variable_in area i).size) memory_size) (is_owner live (variable_in area i).owner)))
        ∙ all_both sized (λ e. is_owner live e.owner) (tab (variable_in area) (variable_count area))
        ∙ ap (λ (b : Bool). all sized (tab (variable_in area) (variable_count area)) && b) (sym owned)

    pub in_parts : good_variables live (variables_of area)
        ≡ all sized (tab (variable_in area) (variable_count area))
        && (all (is_owner live) (take (variable_count area) (owner_column area (variable_count area)))
        && pairs beside (tab (variable_in area) (variable_count area)))
    unfolding good_variables variables_of
    in_parts = rw
        (le-leb (variable_count area) max_variables few, take-of-tab (variable_in area) max_variables (variable_count area) few, each)
        (and_assoc (all sized (tab (variable_in area) (variable_count area)))
        (all (is_owner live) (take (variable_count area) (owner_column area (variable_count area))))
        (pairs beside (tab (variable_in area) (variable_count area))))

  pub column-owners : (r : Bool) (o : List ℕ) → o ≡ owner_column area (variable_count area)
      → r ≡ all (is_owner live) (take (variable_count area) o)
      → r ≡ all (is_owner live) (take (variable_count area) (owner_column area (variable_count area)))
  column-owners r o e h = rw (← e) h
