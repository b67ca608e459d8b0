-- Together: OPEN leaves a fresh process, it waits, and READSTRING finds the file's first zero.
use Prim.Native.Nat.{ℕ, ◌+◌}
use mathlib.Core.Path.{◌≡◌, refl, sym, ap, subst, subst⁻¹, ◌∙◌}
use mathlib.Core.Bool.{true}
use mathlib.Core.List.{List, [], ◌∷◌, ◌++◌}
use lib.IntN.{ℤ, pos, negsuc}
use lib.ListN.{length}
use borrow.Author.Tests.{eqb-true}
use Rattle.buffer.specs.Buffer.{zeros}
use Rattle.buffer.proofs.Bools.{true-not-false}
use Rattle.disc.specs.Directory.{contents, file_count}
use Rattle.machine.specs.Answer.{Answer, Buffers, Call, turn, answer, turned_answer}
use Rattle.machine.specs.Area.{kernel_of}
use Rattle.machine.specs.Beyond.{file_run}
use Rattle.machine.specs.NewFile.{Executes, NewFileReadsEmpty, OpensNew, ReadsEmpty, with_empty_string}
use Rattle.machine.specs.Refusals.{MayTurn}
use Rattle.machine.specs.State.{process_at, running, with_share, with_state}
use Rattle.machine.specs.Suppositions.{is_done_by, process_in}
use Rattle.machine.specs.Trace.{Event, event, lending}
use Rattle.machine.specs.Turn.{Turned, turned}
use Rattle.machine.specs.declared.Kernel.{Kernel}
use Rattle.machine.specs.declared.Process.{Process}
use Rattle.machine.proofs.Changes.Replaced.{put-at}
use Rattle.machine.proofs.Changes.LiveRecords.{running-live}
use Rattle.machine.proofs.Changes.Slots.{place-is-slot, slot_at}
use Rattle.machine.proofs.Demands.GoodCalls.{passes-good}
use Rattle.machine.proofs.Demands.TurnCalls.{state-after, turn-done, turn-passed}
use Rattle.machine.proofs.Kept.ChangeKept.{no_place}
use Rattle.machine.proofs.NewFiles.Between.{Waits, off, on, waits-until}
use Rattle.machine.proofs.NewFiles.Creating.{Fresh, created-fresh}
use Rattle.machine.proofs.NewFiles.EmptyReading.{read-empty}
use Rattle.machine.proofs.Traces.Chains.{Chain, Genuine}
use Rattle.machine.proofs.Traces.Runs.{chain-of}

-- ---- a done turn, as an event
done-number : (z : ℤ) → is_done_by z ≡ true → (n : ℕ) × (z ≡ pos n)
done-number (pos n) h = (n, refl)
done-number (negsuc n) h = absurd (true-not-false h refl)

-- what the turn of the process in that slot does is what the event leaves
pub record Took (e : Event) (slot clock : ℕ) : Type 0 where
  pub out : List ℕ
  pub may : MayTurn (lending e.before out) slot
  pub kernel : kernel_of e.after.area ≡ (turned (kernel_of e.before.area) slot clock e.before.disc).kernel
  pub disc : e.after.disc ≡ (turned (kernel_of e.before.area) slot clock e.before.disc).disc
  pub number : e.number ≡ pos (length (turned (kernel_of e.before.area) slot clock e.before.disc).out)

took : {i slot byte : ℕ} {e : Event} → Genuine e → (x : Executes i slot byte e) → Took e slot x.clock
took {i} {slot} {byte} {e} g x =
    record {
      out = g.out;
      may = may;
      kernel = ap (λ (y : Event). kernel_of y.after.area) same ∙ state-after b slot x.clock may;
      disc = ap (λ (y : Event). y.after.disc) same ∙ ap (λ (a : Answer). a.disc) whole;
      number = ap (λ (y : Event). y.number) same ∙ ap (λ (a : Answer). a.number) whole;
    }
  where
    b : Buffers
    b = lending e.before g.out

    same : e ≡ event (turn slot x.clock) e.before (answer (turn slot x.clock) b) e.text
    same = g.same ∙ ap (λ (c : Call). event c e.before (answer c b) e.text) x.call

    may : MayTurn b slot
    may = let d = done-number e.number x.done in
        turn-passed b slot x.clock d.0 (sym (ap (λ (y : Event). y.number) same) ∙ d.1)

    whole : answer (turn slot x.clock) b ≡ turned_answer (turned (kernel_of e.before.area) slot x.clock e.before.disc) b
    whole = turn-done b slot x.clock may

-- ---- the two turns
opened-fresh : {i slot : ℕ} {e : Event} → Genuine e → OpensNew i slot e → Fresh i (process_in e.after slot) e.after.disc
opened-fresh {i} {slot} {e} g x =
    subst (λ (n : ℕ). Fresh n (process_in e.after slot) e.after.disc)
    (slot_at k i slot (sym (place-is-slot e.before i) ∙ x.opens.own)).2
    (subst⁻¹ (λ (j : Kernel). Fresh (process_at k slot).id (process_at j slot) e.after.disc) t.kernel
    (subst⁻¹ (λ (d : List ℕ). Fresh (process_at k slot).id (process_at u.kernel slot) d) t.disc
    (created-fresh (passes-good e.before.disc e.before.area t.may.passes) slot x.opens.clock t.may.running
    x.opens.found (subst (λ (d : List ℕ). file_count d ≡ file_count e.before.disc + 1) t.disc x.more))))
  where
    k : Kernel
    k = kernel_of e.before.area

    t : Took e slot x.opens.clock
    t = took g x.opens

    u : Turned
    u = turned k slot x.opens.clock e.before.disc

module _ {i slot : ℕ} (opening reading : Event) (g : Genuine reading) (x : Executes i slot 59 reading)
    (f : Fresh i (process_in opening.after slot) opening.after.disc) where
  abbrev p : Process
  p = process_in opening.after slot

  abbrev k : Kernel
  k = kernel_of reading.before.area

  t : Took reading slot x.clock
  t = took g x

  reads : (share : ℕ) → process_at k slot ≡ with_share p share → contents reading.before.disc (file_run p.file) ≡ zeros p.file.len
      → ReadsEmpty slot opening reading
  reads share same held =
      let fresh : Fresh i (process_at k slot) reading.before.disc =
      subst⁻¹ (λ (q : Process). Fresh i q reading.before.disc) same
      (record { named = f.named; runs = f.runs; some = f.some; first = f.first; holds = held; room = f.room }) in
      let q = read-empty k slot x.clock reading.before.disc fresh x.found in
      record {
        share = share;
        before = same;
        after = ap (λ (j : Kernel). process_at j slot) (t.kernel ∙ ap (λ (u : Turned). u.kernel) q)
            ∙ put-at k slot (with_empty_string (process_at k slot)) (running-live (process_at k slot) t.may.running);
        number = t.number ∙ ap (λ (u : Turned). pos (length u.out)) q;
        disc = t.disc ∙ ap (λ (u : Turned). u.disc) q;
      }

  -- a process that has waited is running when READSTRING comes, as it was after OPEN
  pub waited-reads : Waits i slot p (zeros p.file.len) k reading.before.disc → ReadsEmpty slot opening reading
  waited-reads (off gone) = absurd (no_place (sym (sym (place-is-slot reading.before i) ∙ x.own) ∙ gone.none))
  waited-reads (on state share here live held) =
      let now : state ≡ running =
      sym (ap (λ (q : Process). q.state) here) ∙ eqb-true _ running t.may.running in
      let state-same : state ≡ p.state = now ∙ sym (eqb-true _ running f.runs) in
      reads share (here ∙ ap (λ (n : ℕ). with_share (with_state p n) share) state-same) held

-- ---- the theorem
-- an event of a run is reached on good buffers, and the rest follows on what it leaves
chain-at : (k : Kernel) (disc : List ℕ) (earlier : List Event) (e : Event) (es : List Event) → Chain k disc (earlier ++ (e ∷ es))
    → Genuine e × Chain (kernel_of e.after.area) e.after.disc es
unfolding Chain
chain-at k disc [] e es c = (c.3, c.4)
chain-at k disc (y ∷ ys) e es c = chain-at (kernel_of y.after.area) y.after.disc ys e es c.4

pub new-file-reads-empty : NewFileReadsEmpty
unfolding NewFileReadsEmpty
new-file-reads-empty s calls i slot earlier opening between reading later passes splits creates none reads =
    let c = chain-at (kernel_of s.area) s.disc earlier opening (between ++ (reading ∷ later))
    (subst (Chain (kernel_of s.area) s.disc) splits (chain-of calls s passes)) in
    let p : Process = process_in opening.after slot in
    let f = opened-fresh c.0 creates in
    let w = waits-until i slot p (zeros p.file.len) f.named f.some (kernel_of opening.after.area) opening.after.disc
    between reading later c.1 none (on p.state p.share refl (running-live p f.runs) f.holds) in
    waited-reads opening reading w.1 reads f w.0
