-- What a good work area says of its variables.
use Rattle.std.specs.Prelude.{ℕ, ◌+◌, Bool, ◌&&◌, ◌||◌, not, List, eqb, leb}
use Rattle.buffer.specs.Lists.{all, any, pairs}
use Rattle.place.specs.Place.{apart}
use Rattle.variable.specs.Limits.{max_string, max_variables, memory_size}
use Rattle.variable.specs.Table.{counted, is_of, run_of}
use Rattle.variable.specs.declared.Variable.{Variable}
use Rattle.variable.specs.declared.Variables.{Variables}

-- Document 01: "size 1, 2, 4 for types 1, 2, 4, or 1 to 30 for type 3"
unfoldable pub good_size : ℕ → ℕ → Bool
good_size kind size =
    (eqb kind 1 && eqb size 1)
    || ((eqb kind 2 && eqb size 2)
    || ((eqb kind 4 && eqb size 4) || (eqb kind 3 && (leb 1 size && leb size max_string))))

-- Document 01: "Its counted variables belong to live processes, are [..] inside memory"
unfoldable pub good_variable : List ℕ → Variable → Bool
good_variable live e = good_size e.kind e.size
    && (leb (e.address + e.size) memory_size && any (eqb e.owner) live)

-- Document 01: "are disjoint [..], have distinct (name, ID)"
unfoldable pub beside : Variable → Variable → Bool
beside d e = apart (run_of d) (run_of e) && not (is_of e.name e.owner d)

-- Document 01: "A good area has at most 25 variables"
unfoldable pub good_variables : List ℕ → Variables → Bool
good_variables live v = leb v.count max_variables && (all (good_variable live) (counted v) && pairs beside (counted v))
