-- `file::admit` meets its contract: its tests are those of `admission`, in their order.
use Rattle.std.specs.Prelude.{None, Option, Some, Err, Result, is_some}
use Rattle.std.specs.Option.{ok_or}
use Prim.Native.Nat.{ℕ, ◌-◌, ◌<◌, ◌≤◌}
use mathlib.Core.Path.{◌≡◌, refl, sym, ap, ◌∙◌}
use mathlib.Core.Bool.{true, false}
use mathlib.Core.List.{List}
use native.Mathlib.Omega.{arith}
use borrow.Author.Tests.{le-leb, lt-leb, le-ltb, lt-ltb}
use lib.ListN.{length}
use Rattle.disc.specs.Directory.{file_count, lookup}
use Rattle.disc.specs.Layout.{data_start, max_files}
use Rattle.disc.specs.Name.{good_name}
use Rattle.disc.proofs.Entries.{taken-first}
use Rattle.store.specs.File.{admission, deny_if_found, place_of, size_limit, start_or}
use Rattle.store.specs.declared.Refusal.{Refusal}
use Rattle.store.specs.declared.Refusal.TheVariants.{NameExists, NoRun}
use Rattle.store.proofs.Rooms.{size-limit-is}
use Rattle.store.proofs.file.admit.Goals as goal
use Rattle.store.proofs.file.admit.Goals.{then-n-lt1-via-then-n-lt1, then-n-lt1-via-else-n-lt1+then-size_limit-n}

denies : (f : Option ℕ) (rest : Result ℕ Refusal) → is_some f ≡ true → Err NameExists ≡ deny_if_found f rest
denies (Some i) rest e = refl
denies None rest e = cc

lets-in : (f : Option ℕ) (rest : Result ℕ Refusal) → is_some f ≡ false → rest ≡ deny_if_found f rest
lets-in (Some i) rest e = cc
lets-in None rest e = refl

starts : (f : Option ℕ) → ok_or f NoRun ≡ start_or f
starts (Some s) = refl
starts None = refl

-- what is left of the definition behind the first tests
module _ (d name : List ℕ) (n count : ℕ) (good : good_name name ≡ true) (some : 1 ≤ n) (fits : n ≤ size_limit d)
    (few : count < max_files) (counted : count ≡ file_count d) where
  rest : admission d name n ≡ deny_if_found (lookup d name) (start_or (place_of d n))
  unfolding admission
  rest =
      let small : n ≤ length d - data_start = omega (arith, fits, size-limit-is d) in
      rw (good, le-leb _ _ some, le-leb _ _ small, lt-ltb (file_count d) max_files (omega arith))

pub returns-then-not-is_good_name : goal.returns-then-not-is_good_name
unfolding admission
returns-then-not-is_good_name c = rw (sym c.is_good_name.ensures ∙ c.if-not-is_good_name.true)

pub returns-then-n-lt1 : goal.returns-then-n-lt1
unfolding admission
returns-then-n-lt1 c =
    let good = sym c.is_good_name.ensures ∙ c.if-not-is_good_name.false in
    elim c.then-n-lt1.branch [
      | then-n-lt1-via-then-n-lt1 w ↦ rw (good, lt-leb _ _ w.if-n-lt1.true)
      | then-n-lt1-via-else-n-lt1+then-size_limit-n w ↦
          rw (
            good,
            le-leb _ _ w.if-n-lt1.false,
            lt-leb _ _ (rw (w.size_limit.ensures, size-limit-is c.args.disc.now) at w.if-size_limit-n.true),
          )
    ]

pub returns-then-count-ge-MAX_FILES : goal.returns-then-count-ge-MAX_FILES
unfolding admission
returns-then-count-ge-MAX_FILES c =
    rw (
      sym c.is_good_name.ensures ∙ c.if-not-is_good_name.false,
      le-leb _ _ c.if-n-lt1.false,
      le-leb _ _ (rw (c.size_limit.ensures, size-limit-is c.args.disc.now) at c.if-size_limit-n.false),
      le-ltb (file_count c.args.disc.now) max_files (omega arith),
    )

pub returns-then-is_some : goal.returns-then-is_some
returns-then-is_some c =
    let a = c.args in
    denies (lookup a.disc.now a.name.now) _ (ap is_some (sym c.find.ensures) ∙ sym c.is_some.ensures ∙ c.if-is_some.true)
    ∙ sym (rest a.disc.now a.name.now a.n c.file_count-count.result (sym c.is_good_name.ensures ∙ c.if-not-is_good_name.false)
    c.if-n-lt1.false (rw c.size_limit.ensures at c.if-size_limit-n.false) c.if-count-ge-MAX_FILES.false c.file_count-count.ensures)

pub returns : goal.returns
unfolding place_of
returns c =
    let a = c.args in
    let runs = taken-first a.disc.now c.taken_runs-runs.result c.file_count-count.result (omega arith) c.file_count-count.ensures
    c.taken_runs-runs.ensures in
    let placed : c.find_place.result ≡ place_of a.disc.now a.n = rw (← runs) c.find_place.ensures in
    c.ok_or.ensures.value ∙ starts c.find_place.result ∙ ap start_or placed
    ∙ lets-in (lookup a.disc.now a.name.now) _ (ap is_some (sym c.find.ensures) ∙ sym c.is_some.ensures ∙ c.if-is_some.false)
    ∙ sym (rest a.disc.now a.name.now a.n c.file_count-count.result (sym c.is_good_name.ensures ∙ c.if-not-is_good_name.false)
    c.if-n-lt1.false (rw c.size_limit.ensures at c.if-size_limit-n.false) c.if-count-ge-MAX_FILES.false c.file_count-count.ensures)
