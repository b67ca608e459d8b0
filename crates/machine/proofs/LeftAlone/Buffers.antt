-- Which of disc, area and output a call never touches, and that it writes no byte of the output behind those its number counts.
use Rattle.std.specs.Prelude.{Ok, Err}
use Rattle.std.specs.Prelude.{None, Option, Some}
use Prim.Native.Nat.{ℕ, ◌+◌, ◌-◌, ◌≤◌}
use mathlib.Core.Path.{◌≡◌, refl, sym, ap, ◌∙◌}
use mathlib.Core.Bool.{Bool, true, false, ◌&&◌, not}
use mathlib.Core.List.{List}
use native.Mathlib.Nat.{le_refl}
use native.Mathlib.Omega.{arith}
use lib.Dec.{leb, ltb}
use lib.IntN.{ℤ, pos}
use lib.ListN.{length, get_or, drop}
use lib.Seq.{get_or-append-add, get_or-drop}
use Rattle.buffer.specs.Buffer.{overwrite}
use Rattle.buffer.specs.Lists.{flat}
use Rattle.disc.specs.Directory.{contents, entry_at, files as entries, is_disc_length, lookup, run_of}
use Rattle.store.specs.Answer.{Reported, file_line, files_answer, reported, retrieve_answer, retrieve_at}
use Rattle.store.specs.File.{unless}
use Rattle.store.specs.declared.Refusal.TheVariants.{ShortOutput}
use Rattle.store.proofs.Checks.{by-checks}
use Rattle.store.proofs.Contents.{contents-short}
use Rattle.machine.specs.Answer.{Answer, Buffers, Other, store, retrieve, erase, files, free_space, list, Call, turn, round}
use Rattle.machine.specs.Answer.{command, share, run, other, answer, boot_answer, command_answer, erase_at, format_answer, on_good}
use Rattle.machine.specs.Answer.{other_answer, refused, run_at}
use Rattle.machine.specs.Area.{is_area_length, kernel_of}
use Rattle.machine.specs.LeftAlone.{Keeps, SameArea, SameDisc, SameOut}
use Rattle.machine.specs.Limits.{round_room, slot_count, turn_room}
use Rattle.machine.specs.Operations.{Commanded, becomes, refused as declined, commanded, in_use, list_text, round_of, shared}
use Rattle.machine.specs.Start.{Starting, starts, refuses, starting}
use Rattle.machine.specs.State.{is_running, process_at}
use Rattle.machine.specs.Turn.{turned}
use Rattle.machine.specs.declared.Kernel.{Kernel}
use Rattle.machine.proofs.Operations.Tests.{on-tests, tried}

-- bytes laid from the first on leave every byte behind them
laid-behind : (d s : List ℕ) (j : ℕ) → length s ≤ j → get_or (overwrite d 0 s) j 0 ≡ get_or d j 0
laid-behind d s j h =
    let m : length s + (j - length s) ≡ j = omega arith in
    let n : 0 + length s + (j - length s) ≡ j = omega arith in
    ap (λ (i : ℕ). get_or (overwrite d 0 s) i 0) (sym m)
    ∙ get_or-append-add s (drop (0 + length s) d) (j - length s) 0
    ∙ get_or-drop (0 + length s) d (j - length s) 0
    ∙ ap (λ (i : ℕ). get_or d i 0) n

module _ (b : Buffers) where
  -- Document 01: "the rest of the output is untouched"
  abbrev Behind : ℤ → List ℕ → Type 0
  Behind number out = (n : ℕ) → number ≡ pos n → (j : ℕ) → n ≤ j → get_or out j 0 ≡ get_or b.out j 0

  abbrev Leaves : Call → Answer → Type 0
  Leaves c a = Keeps c a b × Behind a.number a.out

  k : Kernel
  k = kernel_of b.area

  still : (number : ℤ) → Behind number b.out
  still number n e j h = refl

  wrote : (n : ℕ) (text : List ℕ) → length text ≤ n → Behind (pos n) (overwrite b.out 0 text)
  wrote n text h m e j l = laid-behind b.out text j (let q : n ≡ m = cc in omega arith)

  -- "4: output shorter than needed"
  reports : (fit : Bool) (n : ℕ) (text : List ℕ) → length text ≤ n
      → let r = unless fit (reported (Err ShortOutput) b.out) (reported (Ok n) (overwrite b.out 0 text)) in
      Behind r.number r.out
  reports true n text h = wrote n text h
  reports false n text h = still _

  -- ---- operations on the disc alone
  abbrev Reports : Reported → Type 0
  Reports r = Behind r.number r.out

  retrieve-behind : (name : List ℕ) → Reports (retrieve_answer b.disc name b.out)
  unfolding retrieve_answer
  retrieve-behind name = by-checks b.disc Reports _ _ (λ e. still _) (λ e. still _) (λ l g. found (lookup b.disc name))
    where
      found : (f : Option ℕ) → Reports (retrieve_at f b.disc b.out)
      found None = still _
      found (Some i) =
          let e = entry_at b.disc i in
          reports (leb e.len (length b.out)) e.len (contents b.disc (run_of e)) (contents-short b.disc (run_of e))

  files-behind : Reports (files_answer b.disc b.out)
  unfolding files_answer
  files-behind =
      let text : List ℕ = flat file_line (entries b.disc) in
      by-checks b.disc Reports _ _ (λ e. still _) (λ e. still _)
      (λ l g. reports (leb (length text) (length b.out)) (length text) text (le_refl (length text)))

  -- ---- operations on both buffers: what holds of a refused answer, and of one that passed, holds
  both : (c : Call) (rest : Answer) → ((n : ℕ) → Keeps c (refused n b) b) → Leaves c rest → Leaves c (on_good b rest)
  both c rest same h = on-tests (Leaves c) b rest (same 1, still _) (same 2, still _) (same 3, still _) λ p. h

  other-leaves : (o : Other) → Leaves (other o) (answer (other o) b)
  unfolding answer other_answer k
  other-leaves (store name bytes) = ((refl, refl), still _)
  other-leaves (retrieve name) = ((refl, refl), retrieve-behind name)
  other-leaves (erase name) = both (other (erase name)) _ (λ n. (refl, refl)) (found (lookup b.disc name))
    where
      found : (f : Option ℕ) → Leaves (other (erase name)) (erase_at f k b)
      found None = ((refl, refl), still _)
      found (Some i) =
          tried (Leaves (other (erase name))) b (not (in_use k (entry_at b.disc i))) 11 _ ((refl, refl), still _) λ free.
          ((refl, refl), still _)
  other-leaves files = ((refl, refl), files-behind)
  other-leaves free_space = ((refl, refl, refl), still _)
  other-leaves list =
      both (other list) _ (λ n. (refl, refl))
      (tried (Leaves (other list)) b (leb (length (list_text k)) (length b.out)) 4 _ ((refl, refl), still _) λ fit.
      ((refl, refl), wrote (length (list_text k)) (list_text k) (le_refl (length (list_text k)))))

  commanded-leaves : (r : Commanded) → let a = command_answer r b in (SameDisc a b × SameOut a b) × Behind a.number a.out
  commanded-leaves (declined n) = ((refl, refl), still _)
  commanded-leaves (becomes j) = ((refl, refl), still _)

  pub call-leaves : (c : Call) → Leaves c (answer c b)
  unfolding answer k
  call-leaves (turn slot clock) =
      let text : List ℕ = (turned k slot clock b.disc).out in
      both (turn slot clock) _ (λ n. tt)
      (tried (Leaves (turn slot clock)) b (leb turn_room (length b.out)) 4 _ (tt, still _) λ fit.
      tried (Leaves (turn slot clock)) b (ltb slot slot_count && is_running (process_at k slot)) 16 _ (tt, still _) λ may.
      (tt, wrote (length text) text (le_refl (length text))))
  call-leaves (round clock) =
      let text : List ℕ = (round_of k clock b.disc).out in
      both (round clock) _ (λ n. tt)
      (tried (Leaves (round clock)) b (leb round_room (length b.out)) 4 _ (tt, still _) λ fit.
      (tt, wrote (length text) text (le_refl (length text))))
  call-leaves (command c id) = both (command c id) _ (λ n. (refl, refl)) (commanded-leaves (commanded c id k))
  call-leaves (share id turns) = both (share id turns) _ (λ n. (refl, refl)) (commanded-leaves (shared id turns k))
  call-leaves (run name) = both (run name) _ (λ n. (refl, refl)) (placed (starting k b.disc name))
    where
      placed : (s : Starting) → Leaves (run name) (run_at s k b)
      placed (refuses n) = ((refl, refl), still _)
      placed (starts slot e) = ((refl, refl), still _)
  call-leaves (other o) = other-leaves o

  -- no operation but a turn, a round, a command, share and run touches the area
  pub other-area : (o : Other) → SameArea (answer (other o) b) b
  other-area (store name bytes) = (call-leaves (other (store name bytes))).0.0
  other-area (retrieve name) = (call-leaves (other (retrieve name))).0.1
  other-area (erase name) = (call-leaves (other (erase name))).0.0
  other-area files = (call-leaves (other files)).0.1
  other-area free_space = (call-leaves (other free_space)).0.1
  other-area list = (call-leaves (other list)).0.1

  -- ---- format and boot
  pub boot-keeps : SameDisc (boot_answer b) b × SameOut (boot_answer b) b
  unfolding boot_answer
  boot-keeps = tried (λ a. SameDisc a b × SameOut a b) b (is_area_length (length b.area)) 1 _ (refl, refl) λ e. (refl, refl)

  pub format-keeps : SameOut (format_answer b) b
  unfolding format_answer
  format-keeps = tried (λ a. SameOut a b) b (is_disc_length (length b.disc) && is_area_length (length b.area)) 1 _ refl λ e. refl
