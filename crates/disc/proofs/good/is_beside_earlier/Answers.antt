-- The loop: the entry is beside each of the first j; a name or a byte shared with one of them ends it.
use Prim.Native.Nat.{ℕ, ◌*◌}
use mathlib.Core.Path.{◌≡◌, refl, sym, ap₂, subst, ◌∙◌}
use mathlib.Core.Bool.{Bool, true, and-false}
use mathlib.Core.List.{List}
use native.Mathlib.Omega.{arith}
use Rattle.buffer.specs.Buffer.{part}
use Rattle.buffer.specs.Lists.{all, same, tab}
use Rattle.buffer.proofs.Lists.{all-tab-next, all-tab-stop}
use Rattle.place.specs.Place.{apart}
use Rattle.disc.specs.Directory.{beside, entry_at}
use Rattle.disc.specs.Layout.{entry_size, name_size}
use Rattle.disc.proofs.InPlace.{name-in-place}
use Rattle.disc.proofs.good.is_beside_earlier.Invariants.{beside_first}
use Rattle.disc.proofs.good.is_beside_earlier.Goals as goal

-- what a test of two names in place says of the entries'
same_names : (disc : List ℕ) (j i : ℕ) (t b : Bool)
    → t ≡ same (part disc (j * entry_size) name_size) (part disc (i * entry_size) name_size) → t ≡ b
    → same (entry_at disc j).name (entry_at disc i).name ≡ b
same_names disc j i t b e h = cc (name-in-place disc j, name-in-place disc i)

pub loop-j-init : goal.loop-j-init
unfolding all tab
loop-j-init c = (omega arith, refl)

pub returns-then-same_name : goal.returns-then-same_name
unfolding beside
returns-then-same_name c =
    let a = c.args in
    sym (all-tab-stop (entry_at a.disc.now) (λ e. beside e (entry_at a.disc.now a.i)) c.loop-j.j a.i (omega arith)
    (rw (same_names a.disc.now c.loop-j.j a.i _ _ c.same_name.ensures c.if-same_name.true)))

pub returns-then-not-is_apart : goal.returns-then-not-is_apart
unfolding beside
returns-then-not-is_apart c =
    let a = c.args in
    sym (all-tab-stop (entry_at a.disc.now) (λ e. beside e (entry_at a.disc.now a.i)) c.loop-j.j a.i (omega arith)
    (rw (
      sym (rw (c.from.ensures, c.from-in-loop-j.ensures) at c.is_apart.ensures ∙ ap₂ apart c.run_at-earlier.ensures c.run_at-run.ensures)
          ∙ c.if-not-is_apart.true,
      and-false,
    )))

pub loop-j-preserved : goal.loop-j-preserved
unfolding beside
loop-j-preserved c =
    let a = c.args in (
      omega arith,
      all-tab-next (entry_at a.disc.now) (λ e. beside e (entry_at a.disc.now a.i)) c.loop-j.j c.loop-j.invariant.1
          (rw (
            same_names a.disc.now c.loop-j.j a.i _ _ c.same_name.ensures c.if-same_name.false,
            sym (rw (c.from.ensures, c.from-in-loop-j.ensures) at c.is_apart.ensures
                ∙ ap₂ apart c.run_at-earlier.ensures c.run_at-run.ensures) ∙ c.if-not-is_apart.false,
          )),
    )

pub returns : goal.returns
returns c =
    let a = c.args in
    let q : c.loop-j.j ≡ a.i = omega arith in
    sym (subst (λ (n : ℕ). beside_first a.disc.now a.i n ≡ true) q c.loop-j.invariant.1)
