-- What popping a value gives: a value of a good size that lay on the stack, the stack below it, or fault 5 or 6.
use Prim.Native.Nat.{ℕ, ◌+◌, ◌-◌, ◌≤◌}
use mathlib.Core.Path.{◌≡◌, refl, sym, ap, subst, subst⁻¹, ◌∙◌}
use mathlib.Core.Bool.{Bool, true, false, ◌||◌, cond}
use mathlib.Core.List.{List, [], ◌∷◌, ◌++◌}
use mathlib.Core.Logic.{◌⊎◌, inl, inr, ⊎_elim}
use native.Mathlib.Omega.{arith}
use lib.Dec.{eqb, leb}
use lib.ListN.{length, get_or, take, length-append}
use lib.Seq.{length-take-le, take_all}
use borrow.Author.Tests.{eqb-false, eqb-true, le-leb, leb-true}
use Rattle.buffer.specs.Buffer.{part}
use Rattle.buffer.specs.Lists.{same}
use Rattle.buffer.proofs.Bools.{and_both, true-not-false}
use Rattle.buffer.proofs.Lists.{same-differ, same-eq, same_refl}
use Rattle.buffer.proofs.Parts.{part_length}
use Rattle.operator.specs.Instruction.{includes}
use Rattle.number.specs.Text.{text_of}
use Rattle.operator.specs.declared.instruction.Types.{Types}
use Rattle.operator.specs.declared.instruction.Types.TheVariants.{AnyNumber, AnyString, AnyValue}
use Rattle.number.proofs.Texts.{text-short}
use Rattle.disc.specs.Name.{trimmed}
use Rattle.disc.proofs.Names.{text-with-zero, trimmed-short}
use Rattle.variable.specs.Good.{good_size}
use Rattle.variable.specs.Limits.{max_string}
use Rattle.machine.specs.Effect.{number, printed}
use Rattle.machine.specs.Limits.{stack_size}
use Rattle.machine.specs.Stack.{Item, Popped, popped, cannot, pop, pop_number, pop_string, string_kind}
use Rattle.machine.specs.Stack.{unless_fault, well_formed}
use Rattle.buffer.proofs.Disjunctions.{or_cases}

-- ---- the value taken off a stack, and what is left
pub record IsString (stack : List ℕ) (item : Item) (rest : List ℕ) : Type 0 where
  pub zero-last : item.bytes ≡ trimmed item.bytes ++ (0 ∷ [])
  pub lay : length rest + length item.bytes + 2 ≤ length stack

pub record TakenOff (types : Types) (stack : List ℕ) (item : Item) (rest : List ℕ) : Type 0 where
  pub taken : includes types item.kind ≡ true
  pub lay : length rest + length item.bytes + 1 ≤ length stack
  pub string : item.kind ≡ string_kind → IsString stack item rest
  pub number : (item.kind ≡ string_kind → ⊥) → length item.bytes ≡ item.kind

unfoldable pub Pops : Types → List ℕ → Popped → Type 0
Pops types stack (popped item rest) = TakenOff types stack item rest
Pops types stack (cannot fault) = (fault ≡ 5) ⊎ (fault ≡ 6)

unless-pops : (types : Types) (stack : List ℕ) (b : Bool) (fault : ℕ) (p : Popped) → (fault ≡ 5) ⊎ (fault ≡ 6)
    → (b ≡ true → Pops types stack p) → Pops types stack (unless_fault b fault p)
unfolding Pops
unless-pops types stack true fault p f h = h refl
unless-pops types stack false fault p f h = f

-- Document 01: "A popped string must have length 1 or more and its only zero last."
pub well-formed-is : (bytes : List ℕ) → well_formed bytes ≡ true → bytes ≡ trimmed bytes ++ (0 ∷ [])
unfolding well_formed
well-formed-is bytes t = same-eq bytes (trimmed bytes ++ (0 ∷ [])) t

-- the text ends just before the last byte
pub is-well-formed : (bytes : List ℕ) → length (trimmed bytes) + 1 ≡ length bytes → well_formed bytes ≡ true
unfolding well_formed
is-well-formed bytes h =
    let e : bytes ≡ trimmed bytes ++ (0 ∷ []) =
    sym (take_all (length (trimmed bytes) + 1) bytes (omega arith)) ∙ text-with-zero bytes (omega arith) in
    subst (λ (l : List ℕ). same bytes l ≡ true) e (same_refl bytes)

pub not-well-formed : (bytes : List ℕ) → (length (trimmed bytes) + 1 ≡ length bytes → ⊥) → well_formed bytes ≡ false
unfolding well_formed
not-well-formed bytes h = same-differ bytes (trimmed bytes ++ (0 ∷ []))
    (λ e. h (sym (ap length e ∙ length-append (trimmed bytes) (0 ∷ []))))

module _ (types : Types) (stack : List ℕ) where
  string-pops : includes types string_kind ≡ true → Pops types stack (pop_string stack (length stack))
  unfolding Pops pop_string
  string-pops t =
      unless-pops types stack (leb 2 n) 5 _ (inl refl) λ two.
      unless-pops types stack (leb (len + 2) n) 5 _ (inl refl) λ enough.
      unless-pops types stack (well_formed (part stack (n - 2 - len) len)) 6 _ (inr refl) λ formed.
      let k : len + 2 ≤ n = leb-true _ _ enough in
      let bytes : length (part stack (n - 2 - len) len) ≡ len = part_length stack (n - 2 - len) len (omega arith) in
      let rest : length (take (n - 2 - len) stack) ≡ n - 2 - len = length-take-le (n - 2 - len) stack (omega arith) in
      record {
        taken = t;
        lay = omega arith;
        string = λ e. record { zero-last = well-formed-is _ formed; lay = omega arith };
        number = λ other. absurd (other refl);
      }
    where
      n : ℕ
      n = length stack

      len : ℕ
      len = get_or stack (n - 2) 0

  number-pops : (kind : ℕ) → includes types kind ≡ true → (kind ≡ string_kind → ⊥) → Pops types stack (pop_number stack (length stack) kind)
  unfolding Pops pop_number
  number-pops kind t other =
      unless-pops types stack (leb (kind + 1) n) 5 _ (inl refl) λ enough.
      let k : kind + 1 ≤ n = leb-true _ _ enough in
      let bytes : length (part stack (n - 1 - kind) kind) ≡ kind = part_length stack (n - 1 - kind) kind (omega arith) in
      let rest : length (take (n - 1 - kind) stack) ≡ n - 1 - kind = length-take-le (n - 1 - kind) stack (omega arith) in
      record { taken = t; lay = omega arith; string = λ e. absurd (other e); number = λ o. bytes }
    where
      n : ℕ
      n = length stack

  pub pop-pops : Pops types stack (pop types stack)
  unfolding Pops pop
  pop-pops = unless-pops types stack (leb 1 n) 5 _ (inl refl)
      (λ some. unless-pops types stack (includes types kind) 6 _ (inr refl) (λ t. by_kind t (eqb kind string_kind) refl))
    where
      n : ℕ
      n = length stack

      kind : ℕ
      kind = get_or stack (n - 1) 0

      by_kind : includes types kind ≡ true → (b : Bool) → eqb kind string_kind ≡ b
          → Pops types stack (cond b (pop_string stack n) (pop_number stack n kind))
      by_kind t true e = string-pops (rw (sym (eqb-true kind string_kind e)) t)
      by_kind t false e = number-pops kind t (eqb-false kind string_kind e)

-- ---- types of numbers
pub number-no-string : (kind : ℕ) → includes AnyNumber kind ≡ true → kind ≡ string_kind → ⊥
unfolding includes
number-no-string kind t e = true-not-false (subst (λ (k : ℕ). includes AnyNumber k ≡ true) e t) refl

-- CHAR, INT or FLOAT
pub number-kinds : (kind : ℕ) → includes AnyNumber kind ≡ true → (kind ≡ 1) ⊎ (kind ≡ 2) ⊎ (kind ≡ 4)
unfolding includes
number-kinds kind t =
    ⊎_elim
    (λ u. ⊎_elim (λ e. inl (eqb-true kind 1 e)) (λ e. inr (inl (eqb-true kind 2 e))) (or_cases (eqb kind 1) (eqb kind 2) u))
    (λ e. inr (inr (eqb-true kind 4 e)))
    (or_cases (eqb kind 1 || eqb kind 2) (eqb kind 4) t)

number-good-size : (kind : ℕ) → includes AnyNumber kind ≡ true → good_size kind kind ≡ true
unfolding good_size
number-good-size kind t = ⊎_elim (is 1 refl) (λ u. ⊎_elim (is 2 refl) (is 4 refl) u) (number-kinds kind t)
  where
    is : (n : ℕ) → good_size n n ≡ true → kind ≡ n → good_size kind kind ≡ true
    is n h e = subst⁻¹ (λ (k : ℕ). good_size k k ≡ true) e h

pub string-not-empty : (stack : List ℕ) (item : Item) (rest : List ℕ) → IsString stack item rest → 1 ≤ length item.bytes
string-not-empty stack item rest s = omega (arith, ap length s.zero-last, length-append (trimmed item.bytes) (0 ∷ []))

-- a popped string lay as three bytes or more: its zero, its length, its type
pub string-lay : (stack : List ℕ) (item : Item) (rest : List ℕ) → TakenOff AnyString stack item rest → length rest + 3 ≤ length stack
unfolding includes
string-lay stack item rest t =
    let s : IsString stack item rest = t.string (eqb-true _ _ t.taken) in
    omega (arith, s.lay, string-not-empty stack item rest s)

-- ---- a popped value of a stack that fits
module _ (stack : List ℕ) (item : Item) (rest : List ℕ) (t : TakenOff AnyValue stack item rest) (fits : length stack ≤ stack_size) where
  string-short : item.kind ≡ string_kind → length item.bytes ≤ max_string
  string-short e = omega (arith, (t.string e).lay)

  -- Document 01: "size 1, 2, 4 for types 1, 2, 4, or 1 to 30 for type 3"
  pub value-good-size : good_size item.kind (length item.bytes) ≡ true
  unfolding good_size includes
  value-good-size = ⊎_elim of-string of_number (or_cases (eqb item.kind string_kind) (includes AnyNumber item.kind) t.taken)
    where
      of-string : eqb item.kind string_kind ≡ true → good_size item.kind (length item.bytes) ≡ true
      of-string e =
          let kind : item.kind ≡ string_kind = eqb-true item.kind string_kind e in
          subst⁻¹ (λ (k : ℕ). good_size k (length item.bytes) ≡ true) kind
          (and_both (le-leb _ _ (string-not-empty stack item rest (t.string kind))) (le-leb _ _ (string-short kind)))

      of_number : includes AnyNumber item.kind ≡ true → good_size item.kind (length item.bytes) ≡ true
      of_number e = subst⁻¹ (λ (n : ℕ). good_size item.kind n ≡ true) (t.number (number-no-string item.kind e))
          (number-good-size item.kind e)

  pub printed-short : length (printed item) ≤ max_string
  printed-short = go (eqb item.kind string_kind) refl
    where
      go : (b : Bool) → eqb item.kind string_kind ≡ b → length (cond b (trimmed item.bytes) (text_of (number item))) ≤ max_string
      go true e = omega (arith, trimmed-short item.bytes, string-short (eqb-true _ _ e))
      go false e = omega (arith, text-short (number item))
