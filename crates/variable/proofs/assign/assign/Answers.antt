-- The place is that of the table without the old variable; only where there is one are the bytes written.
use Prim.Native.Nat.{ℕ, ◌+◌, ◌<◌, ◌≤◌}
use mathlib.Core.Path.{◌≡◌, sym, ◌∙◌}
use mathlib.Core.List.{List}
use native.Mathlib.Omega.{arith}
use lib.Seq.{length-take-le}
use borrow.Author.Rules.{rules}
use Rattle.std.proofs.lemmas.Result.{err_from_is_err_and}
use lib.ListN.{get_or, length, take}
use Rattle.variable.specs.Assign.{added, assigned, entry_limit, high_end, low_end, new_variable, place_for, placing, taken_runs, value_of}
use Rattle.variable.specs.Bytes.{variables_bytes, variables_of}
use Rattle.variable.specs.Closing.{Lists, SetLeaves}
use Rattle.variable.specs.Limits.{max_variables, memory_size, variables_size}
use Rattle.variable.specs.Table.{Shaped, freed, is_of}
use Rattle.variable.specs.Assign.{Placing}
use Rattle.std.specs.Prelude.{Ok}
use Rattle.variable.specs.declared.Taken.{Taken}
use Rattle.variable.specs.declared.Variables.{Variables}
use Rattle.variable.proofs.Bytes.{decoded-shaped, variables-said, variables-whole}
use Rattle.variable.proofs.Freeing.{freed-shaped}
use Rattle.variable.proofs.Listing.{listed-few, placed-beside}
use Rattle.variable.proofs.Setting.{NotPlaced, set-done, set-refused, set_room}
use Rattle.variable.proofs.assign.assign.Goals as goal

-- ---- the bytes of the variables and of the value, the runs listed and the place found among them
module _ (bytes : List ℕ) (size : length bytes ≡ variables_size) (few : (variables_of bytes).count ≤ max_variables)
    (name owner kind : ℕ) (value : List ℕ) {t : Taken} {p : Placing}
    (listed : Lists t (taken_runs (freed (variables_of bytes) (is_of name owner))))
    (found : p ≡ placing (take t.count t.runs) low_end high_end t.count entry_limit (length value)) where
  -- the variables without the old one
  abbrev rest : Variables
  rest = freed (variables_of bytes) (is_of name owner)

  shaped : Shaped (variables_of bytes)
  shaped = decoded-shaped bytes (omega arith)

  searched : p ≡ place_for rest (length value)
  searched = placed-beside (variables_of bytes) (is_of name owner) listed (length value) few found

  -- nothing is written
  refused : ((i : ℕ) → get_or bytes i 0 < 256) → {q : Placing} → p ≡ q → NotPlaced q
      → SetLeaves q bytes (assigned (variables_of bytes) name owner (value_of kind value))
  refused known {q} e none =
      set-refused (variables_of bytes) shaped few name owner kind value q none (sym searched ∙ e) (sym (variables-whole bytes known size))

  module _ {a : ℕ} (placed : p ≡ Ok a) where
    -- the new variable has an entry and lies inside memory
    room : (rest.count < max_variables) × (a + length value ≤ memory_size)
    room = set_room (variables_of bytes) shaped few name owner kind value a (sym searched ∙ placed)

    -- once the old one is freed
    room-freed : {left : List ℕ} → left ≡ variables_bytes rest
        → ((variables_of left).count < max_variables) × (a + length value ≤ memory_size)
    room-freed x =
        let said = variables-said rest (freed-shaped (variables_of bytes) (is_of name owner) few shaped) x in
        rw said room

    done : {one two : List ℕ} → one ≡ variables_bytes rest
        → two ≡ variables_bytes (added (variables_of one) (new_variable name owner (value_of kind value) a) value)
        → SetLeaves (Ok a) two (assigned (variables_of bytes) name owner (value_of kind value))
    done x y = set-done (variables_of bytes) shaped few name owner kind value a (sym searched ∙ placed) x y

pub place_for-requires : goal.place_for-requires
place_for-requires c =
    let a = c.args in
    let few = listed-few (variables_of a.variables.now) (is_of a.name a.owner) c.runs_beside-taken.ensures c.requires.1 in
    let taken = c.runs_beside-taken.result in
    (omega (arith, few, length-take-le taken.count taken.runs), omega arith, c.requires.2)

pub overflow_cast-e : goal.overflow_cast-e
overflow_cast-e c =
    let a = c.args in
    let r = room a.variables.now c.requires.0 c.requires.1 a.name a.owner a.kind a.bytes.now c.runs_beside-taken.ensures
    c.place_for.ensures c.in_ok-a.was in
    omega (arith, r.1, c.requires.2)

pub add-requires : goal.add-requires
add-requires c =
    let a = c.args in
    let r = room-freed a.variables.now c.requires.0 c.requires.1 a.name a.owner a.kind a.bytes.now c.runs_beside-taken.ensures
    c.place_for.ensures c.in_ok-a.was (c.free.ensures (is_of a.name a.owner) (λ e b k. search rules)) in
    (search rules, r.0, r.1)

pub returns : goal.returns
returns c =
    let a = c.args in
    done a.variables.now c.requires.0 c.requires.1 a.name a.owner a.kind a.bytes.now c.runs_beside-taken.ensures
    c.place_for.ensures c.in_ok-a.was (c.free.ensures (is_of a.name a.owner) (λ e b k. search rules)) c.add.ensures

pub returns-in_err-a : goal.returns-in_err-a
returns-in_err-a c =
    let a = c.args in
    let p = err_from_is_err_and c.from_residual.result c.from_residual.ensures.1 in
    rw (p.1, p.2) (refused a.variables.now c.requires.0 c.requires.1 a.name a.owner a.kind a.bytes.now c.runs_beside-taken.ensures
    c.place_for.ensures (λ i. search rules) c.in_err-a.was tt)
