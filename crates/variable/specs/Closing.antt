-- What the inner functions of freeing and SET leave.
use Rattle.std.specs.Prelude.{ℕ, ◌-◌, ◌≤◌, ◌≡◌, Bool, not, List, ◌++◌, length, replicate, take, drop}
use Rattle.buffer.specs.Lists.{keep}
use Rattle.place.specs.Place.{filled}
use Rattle.place.specs.declared.Run.{Run}
use Rattle.variable.specs.Bytes.{variables_bytes, with_entries}
use Rattle.variable.specs.Limits.{max_variables}
use Rattle.variable.specs.Table.{no_variable}
use Rattle.variable.specs.declared.Assigned.{Assigned}
use Rattle.variable.specs.Assign.{Placing}
use Rattle.variable.specs.declared.Taken.{Taken}
use Rattle.variable.specs.declared.Variable.{Variable}
use Rattle.variable.specs.declared.Variables.{Variables}

-- of the first n entries the kept ones that stay stand in front; those from n on are as they were
pub record ClosedUp (v : Variables) (n : ℕ) (gone : Variable → Bool) (bytes : List ℕ) (kept : ℕ) : Type 0 where
  pub entries : List Variable
  pub size : length entries ≡ max_variables
  pub says : bytes ≡ variables_bytes (with_entries v entries)
  pub bound : kept ≤ n
  pub first : take kept entries ≡ keep (λ e. not (gone e)) (take n v.entries)
  pub behind : drop n entries ≡ drop n v.entries

-- whatever the closure answers for a variable is this test's answer
abbrev pub AnswersAs : (Variable → Bool → Type 0) → (Variable → Bool) → Type 0
AnswersAs answers test = (e : Variable) (b : Bool) → answers e b → b ≡ test e

-- nothing from one place up to another
abbrev pub blanked : List Variable → ℕ → ℕ → List Variable
blanked l from end = take from l ++ replicate (end - from) no_variable ++ drop end l

-- these runs and no other
pub record Lists (t : Taken) (runs : List Run) : Type 0 where
  pub count : t.count ≡ length runs
  pub all : t.runs ≡ filled runs

-- what a SET answers, and the bytes that it leaves
pub record SetLeaves (answer : Placing) (bytes : List ℕ) (a : Assigned) : Type 0 where
  pub placing : answer ≡ a.placing
  pub variables : bytes ≡ variables_bytes a.variables
