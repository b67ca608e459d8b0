-- WRITE and the READs: which accesses an open file grants, and what is answered to each.
use Rattle.std.specs.Prelude.{Result, Ok, Err}
use Prim.Native.Nat.{ℕ, ◌+◌, ◌≤◌, ◌<◌}
use mathlib.Core.Path.{◌≡◌, refl, sym, ap, ◌∙◌}
use mathlib.Core.Bool.{Bool, true, false, cond}
use mathlib.Core.List.{List, [], ◌∷◌, ◌++◌}
use native.Mathlib.Omega.{arith}
use lib.Dec.{eqb, leb}
use lib.ListN.{length, take, drop, length-append, length-drop}
use lib.Seq.{length-take-le}
use borrow.Author.Tests.{eq-eqb, eqb-false, le-leb, leb-true, lt-leb, ne_eqb}
use Rattle.buffer.proofs.Parts.{part_length}
use Rattle.machine.specs.Area.{kernel_of}
use Rattle.machine.specs.Beyond.{Answered, advanced, answered, breaks, continues, file_run, inside as inside_file, own_file, pushed}
use Rattle.machine.specs.Beyond.{received, unless_breaks, with_open_file}
use Rattle.machine.specs.Effect.{reads, reads_string, writes}
use Rattle.machine.specs.Fault.{fault_number}
use Rattle.machine.specs.declared.fault.Fault.{Fault}
use Rattle.machine.specs.declared.fault.Fault.TheVariants.{NoOpenFile, PastEnd}
use Rattle.machine.specs.Limits.{stack_size}
use Rattle.machine.specs.Stack.{push, push_string, string_kind}
use Rattle.machine.specs.State.{Local}
use Rattle.machine.specs.declared.Kernel.{Kernel}
use Rattle.machine.specs.declared.OpenFile.{OpenFile}
use Rattle.machine.specs.declared.Process.{Process}
use Rattle.machine.proofs.Bytes.Sizes.{decoded-sized}
use Rattle.process.specs.Stepping.{Stepping, own_at, stack_of}
use Rattle.stack.specs.Steps.{about, keeping}
use Rattle.stack.specs.declared.Step.{Step}
use Rattle.stack.proofs.Steps.{pushed-length}
use Rattle.disc.specs.Directory.{contents}
use Rattle.disc.specs.Name.{trimmed}
use Rattle.disc.proofs.Names.{text-with-zero, trimmed-short}
use Rattle.store.specs.File.{read_at, written_at}
use Rattle.store.proofs.Contents.{contents-length, contents-short}
use Rattle.request.specs.Answers.{Ahead, Lies, access_to, text_read}
use Rattle.request.proofs.Answering.{about-length}

-- ---- the access
module _ (f : OpenFile) (n : ℕ) where
  pub no-file : f.len ≡ 0 → access_to f n ≡ Err NoOpenFile
  unfolding access_to
  no-file h = rw (eq-eqb f.len 0 h)

  pub inside : (f.len ≡ 0 → ⊥) → f.offset + n ≤ f.len → access_to f n ≡ Ok tt
  unfolding access_to
  inside h g = rw (ne_eqb f.len 0 h, le-leb (f.offset + n) f.len g)

  pub past_end : (f.len ≡ 0 → ⊥) → f.len < f.offset + n → access_to f n ≡ Err PastEnd
  unfolding access_to
  past_end h g = rw (ne_eqb f.len 0 h, lt-leb (f.offset + n) f.len g)

  pub ahead : {disc : List ℕ} → Lies disc f → access_to f n ≡ Ok tt → Ahead disc f n
  unfolding access_to
  ahead {disc} l e = go (eqb f.len 0) refl (leb (f.offset + n) f.len) refl e
    where
      go : (a : Bool) → eqb f.len 0 ≡ a → (b : Bool) → leb (f.offset + n) f.len ≡ b
          → cond a (Err NoOpenFile) (cond b (Ok (tt {0})) (Err PastEnd)) ≡ Ok (tt {0})
          → Ahead disc f n
      go true p b q e = absurd (let z : ◌≡◌ {A = ℕ} 0 1 = cc in omega arith)
      go false p false q e = absurd (let z : ◌≡◌ {A = ℕ} 0 1 = cc in omega arith)
      go false p true q e = record { within = leb-true _ _ q; inside = l.inside (eqb-false _ _ p) }

-- ---- the answer to an access: the fault, or the rest
abbrev pub Access : Type 0
Access = Result (Unit {0}) Fault

abbrev pub granted : Access → Answered → Answered
granted (Ok done) rest = rest
granted (Err fault) rest = breaks (fault_number fault)

granted-by : (f : OpenFile) (n : ℕ) (rest : Answered)
    → cond (eqb f.len 0) (breaks 11) (unless_breaks (leb (f.offset + n) f.len) 12 rest) ≡ granted (access_to f n) rest
unfolding access_to
granted-by f n rest = go (eqb f.len 0) (leb (f.offset + n) f.len)
  where
    go : (a b : Bool) → cond a (breaks 11) (unless_breaks b 12 rest) ≡ granted (cond a (Err NoOpenFile) (cond b (Ok (tt {0})) (Err
        PastEnd))) rest
    go true b = refl
    go false true = refl
    go false false = refl

-- the text ahead, less its zero
abbrev pub text_in : List ℕ → OpenFile → List ℕ
text_in disc f = trimmed (drop f.offset (contents disc (file_run f)))

module _ {area : List ℕ} {slot : ℕ} {p : Process} {d : Step} (s : Stepping area slot p d) (disc : List ℕ) where
  abbrev k : Kernel
  k = kernel_of area

  abbrev on : Local
  on = keeping (stack_of p) d

  -- by the file of the process
  granted-own : (n : OpenFile → ℕ) (rest : OpenFile → Answered)
      → with_open_file k slot disc (inside_file k slot disc (n (own_file k slot disc)) (rest (own_file k slot disc)))
      ≡ granted (access_to p.file (n p.file)) (rest p.file)
  granted-own n rest =
      let f = own_file k slot disc in
      granted-by f (n f) (rest f)
      ∙ ap (λ (q : Process). granted (access_to q.file (n q.file)) (rest q.file)) (sym s.own)

  abbrev writing : OpenFile → ℕ → Answered
  writing f n = continues k slot disc on (advanced f n) (written_at disc (file_run f) f.offset (about d))

  pub write_granted : {x : Access} → length d.bytes ≡ stack_size → access_to p.file d.len ≡ x
      → answered k slot disc (writes (about d) on) ≡ granted x (writing p.file d.len)
  unfolding answered
  write_granted h e =
      let n = about-length s h in
      granted-own (λ f. length (about d)) (λ f. writing f (length (about d)))
      ∙ (λ i. granted (access_to p.file (n i)) (writing p.file (n i)))
      ∙ ap (λ (a : Access). granted a (writing p.file d.len)) e

  abbrev reading : ℕ → OpenFile → Answered
  reading kind f = received k slot disc (push on.stack kind (read_at disc (file_run f) f.offset kind)) kind on

  pub read-granted : {x : Access} (kind : ℕ) → access_to p.file kind ≡ x
      → answered k slot disc (reads kind on) ≡ granted x (reading kind p.file)
  unfolding answered
  read-granted kind e =
      granted-own (λ f. kind) (reading kind) ∙ ap (λ (a : Access). granted a (reading kind p.file)) e

  -- how long a text is ahead, its zero with it
  abbrev pub text_length : OpenFile → ℕ
  text_length f = length (text_in disc f) + 1

  abbrev reading_text : OpenFile → Answered
  reading_text f = received k slot disc (push_string on.stack (text_in disc f ++ (0 ∷ []))) (text_length f) on

  pub text-granted : {x : Access} → access_to p.file (text_length p.file) ≡ x
      → answered k slot disc (reads_string on) ≡ granted x (reading_text p.file)
  unfolding answered
  text-granted e = granted-own text_length reading_text ∙ ap (λ (a : Access). granted a (reading_text p.file)) e

-- ---- what is read onto the stack
module _ {area : List ℕ} {slot : ℕ} {p : Process} {d : Step} (s : Stepping area slot p d) {disc : List ℕ} {n : ℕ}
    (h : Ahead disc p.file n) where
  pub read_length : length (read_at disc (file_run p.file) p.file.offset n) ≡ n
  unfolding read_at
  read_length =
      part_length (contents disc (file_run p.file)) p.file.offset n
      (omega (arith, contents-length disc (file_run p.file) h.inside, h.within))

  -- with a tail behind what is read
  abbrev pub read_onto : List ℕ → List ℕ
  read_onto tail = take d.kept (stack_of p) ++ read_at disc (file_run p.file) p.file.offset n ++ tail

  onto-length : (tail : List ℕ) → length (read_onto tail) ≡ d.kept + n + length tail
  onto-length tail =
      let size : length p.stack ≡ stack_size = rw s.own ((decoded-sized area s.size).each slot s.low).stack in
      let below = length-take-le p.sp p.stack (omega (arith, s.sp)) in
      pushed-length (stack_of p) (read_at disc (file_run p.file) p.file.offset n) tail d.kept (omega (arith, s.kept))
      ∙ ap (λ (m : ℕ). d.kept + m + length tail) read_length

  pub no_room : (tail : List ℕ) (l : Local) → stack_size < d.kept + n + length tail
      → received (kernel_of area) slot disc (read_onto tail) n l ≡ breaks 4
  no_room tail l g = rw (lt-leb (length (read_onto tail)) stack_size (omega (arith, onto-length tail)))

  pub has_room : (tail : List ℕ) (l : Local) → d.kept + n + length tail ≤ stack_size
      → received (kernel_of area) slot disc (read_onto tail) n l
      ≡ continues (kernel_of area) slot disc (pushed l (read_onto tail)) (advanced p.file n) disc
  has_room tail l g =
      rw (le-leb (length (read_onto tail)) stack_size (omega (arith, onto-length tail)))
      (ap (λ (q : Process). continues (kernel_of area) slot disc (pushed l (read_onto tail)) (advanced q.file n) disc) (sym s.own))

-- bytes read onto the stack of the process as it was copied out
pub own-received : {area : List ℕ} {slot : ℕ} {p : Process} {d : Step} (s : Stepping area slot p d) (disc bytes tail : List ℕ) (n : ℕ)
    → received (kernel_of area) slot disc (take d.kept (stack_of (own_at area slot)) ++ bytes ++ tail) n
    (keeping (stack_of (own_at area slot)) d)
    ≡ received (kernel_of area) slot disc (take d.kept (stack_of p) ++ bytes ++ tail) n (keeping (stack_of p) d)
own-received {area} {slot} {d = d} s disc bytes tail n =
    ap (λ (q : Process). received (kernel_of area) slot disc (take d.kept (stack_of q) ++ bytes ++ tail) n (keeping (stack_of q) d))
    (sym s.own)

-- ---- a text that is read
module _ {area : List ℕ} {slot : ℕ} {p : Process} {d : Step} (s : Stepping area slot p d) (disc : List ℕ) where
  abbrev f : OpenFile
  f = p.file

  abbrev text : List ℕ
  text = text_in disc f

  pub text-short : length text ≤ f.len
  text-short =
      let n = contents-short disc (file_run f) in
      omega (arith, trimmed-short (drop f.offset (contents disc (file_run f))), length-drop f.offset (contents disc (file_run f)))

  -- with its zero, as the bytes of the file
  with-zero : Ahead disc f (length text + 1) → read_at disc (file_run f) f.offset (length text + 1) ≡ text ++ (0 ∷ [])
  unfolding read_at
  with-zero h =
      let rest = drop f.offset (contents disc (file_run f)) in
      text-with-zero rest (simp length-drop (omega (arith, contents-length disc (file_run f) h.inside, h.within)))

  pub text-received : {n : ℕ} → n ≡ length text + 1 → (f.len ≡ 0 → ⊥) → Ahead disc f n
      → answered (kernel_of area) slot disc (reads_string (keeping (stack_of p) d))
      ≡ received (kernel_of area) slot disc (text_read disc p d n) n (keeping (stack_of p) d)
  text-received {n} e o h =
      let a : Ahead disc f (length text + 1) = rw e at h in
      let z = length-append text (0 ∷ []) in
      text-granted s disc (inside f (length text + 1) o a.within)
      ∙ (λ i. received (kernel_of area) slot disc
      (take d.kept (stack_of p) ++ sym (with-zero a) i ++ (z i ∷ string_kind ∷ [])) (length text + 1) (keeping (stack_of p) d))
      ∙ ap (λ (m : ℕ). received (kernel_of area) slot disc (text_read disc p d m) m (keeping (stack_of p) d)) (sym e)
