-- `operations::retrieve` meets its contract: behind the tests of the disc, the file found is copied, if the output has room.
use Rattle.std.specs.Prelude.{Ok}
use Rattle.std.specs.Prelude.{None, Option, Some, Err}
use Prim.Native.Nat.{ℕ, ◌≤◌, ◌<◌}
use mathlib.Core.Path.{◌≡◌, sym, ap, subst⁻¹, ◌∙◌}
use mathlib.Core.List.{List, ◌++◌}
use native.Mathlib.Nat.{zero-add}
use native.Mathlib.Omega.{arith}
use lib.ListN.{drop, length, take}
use lib.Seq.{length-take-le}
use Rattle.buffer.specs.Buffer.{overwrite}
use Rattle.disc.specs.Directory.{contents, entry_at, file_count, lookup, run_of}
use Rattle.disc.proofs.Locations.{Held, file-held, held-inside}
use Rattle.disc.specs.declared.Entry.{Entry}
use Rattle.disc.proofs.Lookups.{lookup-at}
use Rattle.std.proofs.lemmas.Result.{err_from_is_err_and}
use Rattle.std.specs.Option.{ok_or}
use Rattle.store.specs.declared.Refusal.{Refusal}
use Rattle.store.specs.declared.Refusal.TheVariants.{NoSuchFile}
use Rattle.store.specs.Answer.{checked, reported, retrieve_answer, retrieve_at, retrieve_file}
use Rattle.store.specs.File.{read_at}
use Rattle.store.proofs.Contents.{contents-length, read_all}
use Rattle.disc_operation.proofs.Checks.{usable}
use Rattle.disc_operation.proofs.Outputs.{file-done, file-short}
use Rattle.disc_operation.proofs.operations.retrieve.Goals as goal

-- a disc that has passed the tests, and the place that the search has found in it
module _ (disc name : List ℕ) {u : Unit {0}} (passed : checked disc ≡ Ok u) {i : ℕ} (found : lookup disc name ≡ Some i) where
  inside : i < file_count disc
  inside = (lookup-at disc name i found).inside

  file : {e : Entry} → e ≡ entry_at disc i → Held disc (run_of e)
  file x = subst⁻¹ (λ (e : Entry). Held disc (run_of e)) x (file-held disc (usable disc passed).sound i inside)

  chosen : (out : List ℕ) {e : Entry} → e ≡ entry_at disc i → retrieve_file e disc out ≡ retrieve_answer disc name out
  unfolding retrieve_answer
  chosen out x = rw (passed, found) (ap (λ (e : Entry). retrieve_file e disc out) x)

-- what is answered where no file has the name
missing : (disc out : List ℕ) (f : Option ℕ) (r : Refusal) → Err r ≡ ok_or f NoSuchFile → reported (Err r) out ≡ retrieve_at f disc out
missing disc out None r e = let same : r ≡ NoSuchFile = cc in ap (λ (x : Refusal). reported (Err x) out) same
missing disc out (Some i) r e = absurd (let z : ◌≡◌ {A = ℕ} 0 1 = cc in omega arith)

-- read whole into as many bytes as the file has
read-whole : (disc : List ℕ) (e : Entry) (out got : List ℕ) → Held disc (run_of e) → e.len ≤ length out
    → got ≡ read_at disc (run_of e) 0 (length (take e.len out)) → got ++ drop e.len out ≡ overwrite out 0 (contents disc (run_of e))
read-whole disc e out got h room read =
    let file = contents disc (run_of e) in
    let long : length file ≡ e.len = contents-length disc (run_of e) (held-inside h) in
    let whole : got ≡ file = read ∙ ap (read_at disc (run_of e) 0) (length-take-le e.len out room) ∙ read_all disc (run_of e) in
    rw (whole, zero-add, long)

pub returns-in_err-check : goal.returns-in_err-check
unfolding retrieve_answer
returns-in_err-check c =
    let p = err_from_is_err_and c.from_residual.result c.from_residual.ensures.1 in rw (p.1, p.2, sym c.in_err-check.ensures)

pub find-requires : goal.find-requires
find-requires c = (usable c.args.disc.now (sym c.in_ok-check.ensures)).ready

pub returns-in_err-i : goal.returns-in_err-i
unfolding retrieve_answer
returns-in_err-i c =
    let p = err_from_is_err_and c.from_residual-in_err-i.result c.from_residual-in_err-i.ensures.1 in
    rw (p.1, p.2, sym c.in_ok-check.ensures, sym c.find.ensures)
    (missing c.args.disc.now c.args.out.now c.find.result c.in_err-i.field-0.0 c.in_err-i.ensures.value)

pub entry_at-entry-requires : goal.entry_at-entry-requires
entry_at-entry-requires c =
    let passed = sym c.in_ok-check.ensures in
    let r = (usable c.args.disc.now passed).ready in
    (r.low, omega (arith, inside c.args.disc.now c.args.name.now passed (sym c.find.ensures ∙ c.in_ok-i.ensures.ok_part), r.few))

pub returns-then-out-len : goal.returns-then-out-len
returns-then-out-len c =
    let a = c.args in
    file-short c.entry_at-entry.result a.disc.now a.out.now c.if-out-len.true
    ∙ chosen a.disc.now a.name.now (sym c.in_ok-check.ensures) (sym c.find.ensures
    ∙ c.in_ok-i.ensures.ok_part) a.out.now c.entry_at-entry.ensures

pub slice_bounds-read_at-end-2 : goal.slice_bounds-read_at-end-2
slice_bounds-read_at-end-2 c = sym (length-take-le c.entry_at-entry.result.len c.args.out.now c.if-out-len.false)

pub read_at-requires : goal.read_at-requires
read_at-requires c =
    let a = c.args in (
      omega (arith, length-take-le c.entry_at-entry.result.len a.out.now c.if-out-len.false),
      held-inside (file a.disc.now a.name.now (sym c.in_ok-check.ensures) (sym c.find.ensures
          ∙ c.in_ok-i.ensures.ok_part) c.entry_at-entry.ensures),
    )

pub returns : goal.returns
returns c =
    let a = c.args in
    let e = c.entry_at-entry.result in
    let passed = sym c.in_ok-check.ensures in
    let found = sym c.find.ensures ∙ c.in_ok-i.ensures.ok_part in
    let held = file a.disc.now a.name.now passed found c.entry_at-entry.ensures in
    file-done e a.disc.now a.out.now _ c.if-out-len.false
    (read-whole a.disc.now e a.out.now c.read_at.new.out held c.if-out-len.false c.read_at.ensures)
    ∙ chosen a.disc.now a.name.now passed found a.out.now c.entry_at-entry.ensures
