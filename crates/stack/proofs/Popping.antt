-- Popping, from what the code answers: the value or the number on top, or the fault.
use Prim.Native.Nat.{ℕ, ◌+◌, ◌-◌, ◌≤◌}
use mathlib.Core.Path.{◌≡◌, refl, sym, ap, ◌∙◌, subst, subst⁻¹}
use mathlib.Core.Bool.{true, ◌||◌}
use mathlib.Core.List.{List, [], ◌∷◌}
use mathlib.Core.Logic.{⊎_elim}
use native.Mathlib.Omega.{arith}
use lib.Dec.{eqb}
use lib.ListN.{length, take, drop, length-append}
use lib.Seq.{length-take-le, take_at, take-take}
use borrow.Author.Tests.{eqb-true}
use Rattle.buffer.specs.Buffer.{part}
use Rattle.buffer.proofs.Bools.{true-not-false}
use Rattle.buffer.proofs.Disjunctions.{or_cases}
use Rattle.buffer.proofs.Parts.{part_length}
use Rattle.operator.specs.Instruction.{includes}
use Rattle.operator.specs.declared.instruction.Types.{Types}
use Rattle.operator.specs.declared.instruction.Types.TheVariants.{AnyNumber, CharOrInt, IntOrFloat, CharOrFloat, AnyString, AnyValue}
use Rattle.disc.specs.Name.{trimmed}
use Rattle.machine.specs.Stack.{Item, popped, pop, string_kind}
use Rattle.machine.proofs.Instructions.Popping.{Pops, TakenOff, number-kinds, pop-pops}
use Rattle.stack.specs.Tops.{is_numeric}
use Rattle.stack.specs.declared.TopValue.{TopValue}

-- ---- values
abbrev item_at : List ℕ → ℕ → ℕ → ℕ → Item
item_at stack kind at len = record { kind = kind; bytes = part stack at len }

-- a value that lies on top
pub record OnTop (types : Types) (stack : List ℕ) (kind at len : ℕ) : Type 0 where
  pub pops : pop types stack ≡ popped (item_at stack kind at len) (take at stack)
  pub size : length (part stack at len) ≡ len
  pub inside : at + len + 1 ≤ length stack
  pub off : TakenOff types stack (item_at stack kind at len) (take at stack)

module _ (types : Types) (stack : List ℕ) (v : TopValue) where
  pub value-on-top : (popped (item_at stack v.kind v.at v.len) (take v.at stack) ≡ pop types stack) × (v.at + v.len ≤ length stack)
      → OnTop types stack v.kind v.at v.len
  unfolding Pops
  value-on-top known =
      let e = sym known.0 in
      let i : v.at + v.len ≤ length stack = known.1 in
      let z = part_length stack v.at v.len i in
      let o : TakenOff types stack (item_at stack v.kind v.at v.len) (take v.at stack) =
      subst (Pops types stack) e (pop-pops types stack) in
      let b = length-take-le v.at stack (omega arith) in
      record { pops = e; size = z; inside = omega (arith, o.lay); off = o }

-- a string less its zero
pub string-text : (stack : List ℕ) (kind at len : ℕ) → OnTop AnyString stack kind at len
    → (1 ≤ len) × (part stack at (len - 1) ≡ trimmed (part stack at len))
unfolding includes
string-text stack kind at len t =
    let b = part stack at len in
    let s = t.off.string (eqb-true kind string_kind t.off.taken) in
    let n : length (trimmed b) + 1 ≡ len = sym (length-append (trimmed b) (0 ∷ [])) ∙ sym (ap length s.zero-last) ∙ t.size in (
      omega arith,
      sym (take-take (len - 1) len (drop at stack) (omega arith))
          ∙ ap (take (len - 1)) s.zero-last
          ∙ take_at (trimmed b) (0 ∷ []) (len - 1) (omega arith),
    )

-- ---- numbers
-- ---- sets of types of numbers
is_number : (kind n : ℕ) → includes AnyNumber n ≡ true → eqb kind n ≡ true → includes AnyNumber kind ≡ true
is_number kind n h e = subst⁻¹ (λ (k : ℕ). includes AnyNumber k ≡ true) (eqb-true kind n e) h

either_number : (kind m n : ℕ) → includes AnyNumber m ≡ true → includes AnyNumber n ≡ true → eqb kind m || eqb kind n ≡ true
    → includes AnyNumber kind ≡ true
either_number kind m n h k t = ⊎_elim (is_number kind m h) (is_number kind n k) (or_cases (eqb kind m) (eqb kind n) t)

pub numeric-number : (types : Types) (kind : ℕ) → is_numeric types ≡ true → includes types kind ≡ true → includes AnyNumber kind ≡ true
unfolding includes
numeric-number AnyNumber kind n h = h
numeric-number CharOrInt kind n h = either_number kind 1 2 refl refl h
numeric-number IntOrFloat kind n h = either_number kind 2 4 refl refl h
numeric-number CharOrFloat kind n h = either_number kind 1 4 refl refl h
numeric-number AnyString kind n h = absurd (true-not-false n refl)
numeric-number AnyValue kind n h = absurd (true-not-false n refl)

pub number_small : (kind : ℕ) → includes AnyNumber kind ≡ true → kind ≤ 4
number_small kind h = ⊎_elim (λ e. omega arith) (λ o. ⊎_elim (λ e. omega arith) (λ e. omega arith) o) (number-kinds kind h)

-- a value that is no string is a number
pub value-small : (stack : List ℕ) (kind at len : ℕ) → OnTop AnyValue stack kind at len → (kind ≡ string_kind → ⊥) → len ≤ 4
unfolding includes
value-small stack kind at len t n =
    let z = sym t.size ∙ t.off.number n in
    ⊎_elim (λ e. absurd (n (eqb-true kind string_kind e))) (λ h. omega (arith, number_small kind h))
    (or_cases (eqb kind string_kind) (includes AnyNumber kind) t.off.taken)
