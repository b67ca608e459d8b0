-- What popping makes of a value that lies on top of a stack.
use Prim.Native.Nat.{ℕ, ◌+◌, ◌-◌, ◌<◌}
use mathlib.Core.Path.{◌≡◌, refl, sym, ap, subst⁻¹, ◌∙◌}
use mathlib.Core.Bool.{true}
use mathlib.Core.List.{List, [], ◌∷◌, ◌++◌, append_assoc}
use mathlib.Core.Logic.{◌⊎◌, inl, inr}
use native.Mathlib.Omega.{arith}
use lib.Dec.{eqb}
use lib.ListN.{length, get_or, take, length-append, get_or-append}
use lib.Seq.{drop_at, get_or-append-add, get_or_at, take_at}
use borrow.Author.Tests.{le-leb, ne_eqb}
use Rattle.buffer.specs.Buffer.{part}
use Rattle.buffer.proofs.Disjunctions.{or-second}
use Rattle.operator.specs.Instruction.{includes}
use Rattle.operator.specs.declared.instruction.Types.{Types}
use Rattle.operator.specs.declared.instruction.Types.TheVariants.{AnyNumber, AnyString, AnyValue}
use Rattle.disc.specs.Name.{trimmed}
use Rattle.disc.proofs.Names.{trimmed-at}
use Rattle.machine.specs.AtPc.{NumberOnTop, StringOnTop, ValueOnTop}
use Rattle.machine.specs.Stack.{popped, pop, pop_number, pop_string, string_kind}
use Rattle.machine.proofs.Instructions.Popping.{is-well-formed, number-no-string}

-- the bytes between what lies below and what lies above them
module _ (rest bytes above : List ℕ) where
  abbrev whole : List ℕ
  whole = rest ++ bytes ++ above

  whole_length : length whole ≡ length rest + length bytes + length above
  whole_length = length-append (rest ++ bytes) above ∙ ap (λ (n : ℕ). n + length above) (length-append rest bytes)

  below-is : (n : ℕ) → length rest ≡ n → take n whole ≡ rest
  below-is n e = ap (take n) (append_assoc rest bytes above) ∙ take_at rest (bytes ++ above) n e

  bytes-are : (at n : ℕ) → length rest ≡ at → length bytes ≡ n → part whole at n ≡ bytes
  bytes-are at n e f =
      ap (λ (l : List ℕ). part l at n) (append_assoc rest bytes above)
      ∙ ap (take n) (drop_at rest (bytes ++ above) at e) ∙ take_at bytes above n f

-- Document 01: "A value lies as its bytes, high byte first, then its type 1, 2 or 4"
number-pops : (types : Types) (rest : List ℕ) (kind : ℕ) (bytes : List ℕ) → includes types kind ≡ true → (kind ≡ string_kind → ⊥)
    → length bytes ≡ kind
    → pop types (rest ++ bytes ++ (kind ∷ [])) ≡ popped (record { kind = kind; bytes = bytes }) rest
unfolding pop pop_number
number-pops types rest kind bytes taken other size =
    let long : n ≡ length rest + length bytes + 1 = whole_length rest bytes (kind ∷ []) in
    rw (
      le-leb 1 n (omega arith),
      get_or_at (rest ++ bytes) kind [] 0 (n - 1) (omega (arith, length-append rest bytes)),
      taken,
      ne_eqb kind string_kind other,
      le-leb (kind + 1) n (omega arith),
      bytes-are rest bytes (kind ∷ []) (n - 1 - kind) kind (omega arith) size,
      below-is rest bytes (kind ∷ []) (n - 1 - kind) (omega arith),
    )
  where
    n : ℕ
    n = length (rest ++ bytes ++ (kind ∷ []))

module _ {stack rest : List ℕ} {kind : ℕ} {bytes : List ℕ} (t : NumberOnTop stack rest kind bytes) where
  number-kind : includes AnyNumber kind ≡ true
  unfolding includes
  number-kind = go t.typed
    where
      is : (n : ℕ) → includes AnyNumber n ≡ true → kind ≡ n → includes AnyNumber kind ≡ true
      is n h e = subst⁻¹ (λ (k : ℕ). includes AnyNumber k ≡ true) e h

      go : (kind ≡ 1) ⊎ ((kind ≡ 2) ⊎ (kind ≡ 4)) → includes AnyNumber kind ≡ true
      go (inl e) = is 1 refl e
      go (inr (inl e)) = is 2 refl e
      go (inr (inr e)) = is 4 refl e

  number-taken : (types : Types) → includes types kind ≡ true → pop types stack ≡ popped (record { kind = kind; bytes = bytes }) rest
  number-taken types taken =
      ap (pop types) t.lay ∙ number-pops types rest kind bytes taken (number-no-string kind number-kind) t.size

  pub number-top : pop AnyNumber stack ≡ popped (record { kind = kind; bytes = bytes }) rest
  number-top = number-taken AnyNumber number-kind

-- Document 01: "a string as bytes, length, 3"
text-trimmed : (text : List ℕ) → ((j : ℕ) → j < length text → get_or text j 0 ≡ 0 → ⊥) → trimmed (text ++ (0 ∷ [])) ≡ text
text-trimmed text no_zero =
    trimmed-at (text ++ (0 ∷ [])) (length text) (omega (arith, length-append text (0 ∷ []))) (get_or_at text 0 [] 0 (length text) refl)
    (λ k h e. no_zero k h (sym (get_or-append text (0 ∷ []) 0 k h) ∙ e))
    ∙ take_at text (0 ∷ []) (length text) refl

string-pops : (types : Types) (rest text : List ℕ) → includes types string_kind ≡ true → trimmed (text ++ (0 ∷ [])) ≡ text
    → pop types (rest ++ (text ++ (0 ∷ [])) ++ ((length text + 1) ∷ 3 ∷ []))
    ≡ popped (record { kind = string_kind; bytes = text ++ (0 ∷ []) }) rest
unfolding pop pop_string
string-pops types rest text taken trims =
    let size : length (text ++ (0 ∷ [])) ≡ length text + 1 = length-append text (0 ∷ []) in
    let inner : length (rest ++ (text ++ (0 ∷ []))) ≡ length rest + length (text ++ (0 ∷ [])) = length-append rest (text ++ (0 ∷ [])) in
    let long : n ≡ length rest + length (text ++ (0 ∷ [])) + 2 = whole_length rest (text ++ (0 ∷ [])) ((length text + 1) ∷ 3 ∷ []) in
    let last : get_or stack (n - 1) 0 ≡ 3 = ap (λ (i : ℕ). get_or stack i 0) (omega arith)
    ∙ get_or-append-add (rest ++ (text ++ (0 ∷ []))) ((length text + 1) ∷ 3 ∷ []) 1 0 in
    rw (
      le-leb 1 n (omega arith),
      last,
      taken,
      le-leb 2 n (omega arith),
      get_or_at (rest ++ (text ++ (0 ∷ []))) (length text + 1) (3 ∷ []) 0 (n - 2) (omega arith),
      le-leb (length text + 1 + 2) n (omega arith),
      bytes-are rest (text ++ (0 ∷ [])) ((length text + 1) ∷ 3 ∷ []) (n - 2 - (length text + 1)) (length text + 1) (omega arith) size,
      is-well-formed (text ++ (0 ∷ [])) (ap (λ (l : List ℕ). length l + 1) trims ∙ sym size),
      below-is rest (text ++ (0 ∷ [])) ((length text + 1) ∷ 3 ∷ []) (n - 2 - (length text + 1)) (omega arith),
    )
  where
    stack : List ℕ
    stack = rest ++ (text ++ (0 ∷ [])) ++ ((length text + 1) ∷ 3 ∷ [])

    n : ℕ
    n = length stack

module _ {stack rest text : List ℕ} (t : StringOnTop stack rest text) where
  pub top-trimmed : trimmed (text ++ (0 ∷ [])) ≡ text
  top-trimmed = text-trimmed text t.no_zero

  string-taken : (types : Types) → includes types string_kind ≡ true
      → pop types stack ≡ popped (record { kind = string_kind; bytes = text ++ (0 ∷ []) }) rest
  string-taken types taken = ap (pop types) t.lay ∙ string-pops types rest text taken top-trimmed

  pub string-top : pop AnyString stack ≡ popped (record { kind = string_kind; bytes = text ++ (0 ∷ []) }) rest
  unfolding includes
  string-top = string-taken AnyString refl

pub value-top : {stack rest : List ℕ} {kind : ℕ} {bytes : List ℕ} → ValueOnTop stack rest kind bytes
    → pop AnyValue stack ≡ popped (record { kind = kind; bytes = bytes }) rest
unfolding includes
value-top {stack} {rest} {kind} {bytes} (inl t) = number-taken t AnyValue (or-second (eqb kind string_kind) (number-kind t))
value-top {stack} {rest} {kind} {bytes} (inr v) =
    string-taken v.top AnyValue refl
    ∙ sym (λ z. popped (record { kind = v.typed z; bytes = v.whole z }) rest)
