-- Which faults disc and table answer, by what is asked.
use Rattle.std.specs.Prelude.{Ok, Err, Result}
use Rattle.std.specs.Prelude.{None, Option, Some}
use Prim.Native.Nat.{ℕ, ◌+◌}
use mathlib.Core.Path.{◌≡◌, refl, subst}
use mathlib.Core.Bool.{Bool, true, false, cond}
use mathlib.Core.List.{List}
use mathlib.Core.Logic.{◌⊎◌, inl, inr}
use native.Mathlib.Omega.{arith}
use lib.Dec.{eqb, leb}
use lib.ListN.{length}
use Rattle.number.specs.declared.Number.{Number}
use Rattle.disc.specs.Directory.{lookup}
use Rattle.store.specs.File.{admission}
use Rattle.store.specs.declared.Refusal.{Refusal}
use Rattle.machine.specs.Beyond.{advanced, Answered, answered, breaks, carries_on, continues, created, created_at, forked, inside}
use Rattle.machine.specs.Beyond.{new_file_size}
use Rattle.machine.specs.Beyond.{opened_at, own_file, pushed, received, unless_breaks, with_open_file}
use Rattle.machine.specs.Effect.{Request, opens, closes, writes, reads, reads_string, forks, awaits}
use Rattle.machine.specs.Limits.{stack_size}
use Rattle.machine.specs.Start.{Starting, starts, refuses, starting}
use Rattle.machine.specs.State.{Local}
use Rattle.machine.specs.declared.Kernel.{Kernel}
use Rattle.machine.proofs.Operations.FileAnswers.{number_read, text_ahead, text_read}

-- Document 01: "4 stack above 32", "11 no open file; 12 past the file's end", and 13, "OPEN's new file refused by name, size or store's 8
-- or 9"
abbrev pub FaultOf : Request → ℕ → Type 0
FaultOf (opens name size l) n = n ≡ 13
FaultOf (closes l) n = ⊥
FaultOf (writes bytes l) n = (n ≡ 11) ⊎ (n ≡ 12)
FaultOf (reads kind l) n = (n ≡ 4) ⊎ ((n ≡ 11) ⊎ (n ≡ 12))
FaultOf (reads_string l) n = (n ≡ 4) ⊎ ((n ≡ 11) ⊎ (n ≡ 12))
FaultOf (forks name l) n = ⊥
FaultOf (awaits id stay go) n = ⊥

module _ (k : Kernel) (slot : ℕ) (disc : List ℕ) where
  -- an answer that goes on, or breaks with such a fault
  abbrev Breaks : (ℕ → Type 0) → Answered → Type 0
  Breaks P (carries_on j after) = Unit {0}
  Breaks P (breaks n) = P n

  open-breaks : (f : Option ℕ) (name : List ℕ) (size : Number) (l : Local) → Breaks (λ n. n ≡ 13) (opened_at k slot disc f name size l)
  open-breaks (Some i) name size l = tt
  open-breaks None name size l = sized (new_file_size disc size)
    where
      admit : (n : ℕ) (a : Result ℕ Refusal) → Breaks (λ m. m ≡ 13) (created_at k slot disc a name n l)
      admit n (Ok s) = tt
      admit n (Err r) = refl

      sized : (s : Option ℕ) → Breaks (λ m. m ≡ 13) (created k slot disc s name l)
      sized (Some n) = admit n (admission disc name n)
      sized None = refl

  in-file : (P : ℕ → Type 0) (n : ℕ) (rest : Answered) → P 11 → P 12 → Breaks P rest
      → Breaks P (with_open_file k slot disc (inside k slot disc n rest))
  in-file P n rest p q h = go (eqb (own_file k slot disc).len 0) (leb ((own_file k slot disc).offset + n) (own_file k slot disc).len)
    where
      go : (closed b : Bool) → Breaks P (cond closed (breaks 11) (unless_breaks b 12 rest))
      go true b = p
      go false false = q
      go false true = h

  read-breaks : (stack : List ℕ) (n : ℕ) (l : Local)
      → Breaks (λ m. (m ≡ 4) ⊎ ((m ≡ 11) ⊎ (m ≡ 12))) (with_open_file k slot disc (inside k slot disc n (received k slot disc stack n l)))
  read-breaks stack n l =
      in-file (λ m. (m ≡ 4) ⊎ ((m ≡ 11) ⊎ (m ≡ 12))) n (received k slot disc stack n l) (inr (inl refl)) (inr (inr refl))
      (go (leb (length stack) stack_size))
    where
      go : (b : Bool) → Breaks (λ m. (m ≡ 4)
          ⊎ ((m ≡ 11) ⊎ (m ≡ 12))) (unless_breaks b 4 (continues k slot disc (pushed l stack) (advanced (own_file k slot disc) n) disc))
      go true = tt
      go false = inl refl

  fork-breaks : (s : Starting) (l : Local) → Breaks (λ n. ⊥) (forked k slot disc s l)
  fork-breaks (refuses r) l = tt
  fork-breaks (starts child e) l = tt

  answer-breaks : (r : Request) → Breaks (FaultOf r) (answered k slot disc r)
  unfolding answered
  answer-breaks (opens name size l) = open-breaks (lookup disc name) name size l
  answer-breaks (closes l) = tt
  answer-breaks (writes bytes l) = in-file (λ n. (n ≡ 11) ⊎ (n ≡ 12)) (length bytes) _ (inl refl) (inr refl) tt
  answer-breaks (reads kind l) = read-breaks (number_read k slot disc kind l) kind l
  answer-breaks (reads_string l) = read-breaks (text_read k slot disc l) (length (text_ahead k slot disc) + 1) l
  answer-breaks (forks name l) = fork-breaks (starting k disc name) l
  answer-breaks (awaits id stay go) = tt

  pub answer-fault : (r : Request) (n : ℕ) → answered k slot disc r ≡ breaks n → FaultOf r n
  answer-fault r n e = subst (Breaks (FaultOf r)) e (answer-breaks r)

-- ---- by the fault
pub fault-number : (r : Request) (n : ℕ) → FaultOf r n → (n ≡ 13) ⊎ ((n ≡ 4) ⊎ ((n ≡ 11) ⊎ (n ≡ 12)))
fault-number (opens name size l) n h = inl h
fault-number (closes l) n h = absurd h
fault-number (writes bytes l) n h = inr (inr h)
fault-number (reads kind l) n h = inr h
fault-number (reads_string l) n h = inr h
fault-number (forks name l) n h = absurd h
fault-number (awaits id stay go) n h = absurd h

-- 13 is OPEN's alone
pub thirteen-opens : (r : Request) (n : ℕ) → n ≡ 13 → FaultOf r n → (name : List ℕ) × (size : Number) × (l : Local)
    × (r ≡ opens name size l)
thirteen-opens r n thirteen h = go r h
  where
    past_end : (n ≡ 11) ⊎ (n ≡ 12) → ⊥
    past_end (inl e) = omega arith
    past_end (inr e) = omega arith

    read : (n ≡ 4) ⊎ ((n ≡ 11) ⊎ (n ≡ 12)) → ⊥
    read (inl e) = omega arith
    read (inr e) = past_end e

    go : (q : Request) → FaultOf q n → (name : List ℕ) × (size : Number) × (l : Local) × (q ≡ opens name size l)
    go (opens name size l) h = (name, size, l, refl)
    go (closes l) h = absurd h
    go (writes bytes l) h = absurd (past_end h)
    go (reads kind l) h = absurd (read h)
    go (reads_string l) h = absurd (read h)
    go (forks name l) h = absurd h
    go (awaits id stay on) h = absurd h
