-- What a disc shows after a file has entered: one more file, the last, and every record as before.
use Prim.Native.Nat.{ℕ, suc, ◌<◌}
use mathlib.Core.Path.{◌≡◌, refl, sym, ap, ◌∙◌}
use mathlib.Core.Bool.{Bool, true, false, cond, ◌&&◌, not}
use mathlib.Core.List.{List, [], ◌∷◌, ◌++◌, map}
use mathlib.Core.Logic.{inl, inr}
use native.Mathlib.Omega.{arith}
use lib.Dec.{eqb}
use lib.ListN.{get_or, length}
use borrow.Author.Tests.{eq-eqb}
use Rattle.buffer.specs.Lists.{tab}
use Rattle.buffer.proofs.Bools.{and_left, and_right, true-not-false}
use Rattle.buffer.proofs.Lists.{map-tab, tab-more, tab-same}
use Rattle.place.specs.Place.{run_from}
use Rattle.place.specs.declared.Run.{Run}
use Rattle.disc.specs.Directory.{entry_at, file_count, files, good_disc, run_of}
use Rattle.disc.proofs.Locations.{FileAt}
use Rattle.disc.specs.Name.{padded}
use Rattle.store.specs.File.{stored}
use Rattle.store.proofs.Admissions.{Admitted}
use Rattle.store.proofs.Effects.{stored-contents, stored-count, stored-data, stored-good, stored-new, stored-old}
use Rattle.machine.specs.Beyond.{file_run}
use Rattle.machine.specs.State.{is_live, no_process, process_at}
use Rattle.machine.specs.declared.Kernel.{Kernel}
use Rattle.machine.proofs.Changes.Change.{GoodState}
use Rattle.machine.proofs.Changes.Directories.{live-record, open_at, program-at}
use Rattle.machine.proofs.Goodness.GoodRecords.{GoodFile}
use Rattle.views.specs.Same.{Shown, aside, aside_kernel, shown, shown_files, whose}
use Rattle.views.proofs.First.{start-once, whose-entry, whose-inside}

-- on a good disc a record names the one place at which its file stands
pub whose-is : (disc : List ℕ) → good_disc disc ≡ true → (run : Run) (f : FileAt disc run) → whose disc run ≡ f.place
whose-is disc good run f =
    start-once disc good (whose disc run) f.place (whose-inside disc run f) f.inside
    ((whose-entry disc run f).0 ∙ ap (λ (r : Run). r.start) f.run_is)

-- two functions that agree on each element
pub map-alike : {A B : Type 0} (f g : A → B) (d : A) (l : List A) → ((i : ℕ) → f (get_or l i d) ≡ g (get_or l i d)) → map f l ≡ map g l
map-alike f g d [] h = refl
map-alike f g d (x ∷ l) h = λ z. h 0 z ∷ map-alike f g d l (λ i. h (suc i)) z

pub cond-alike : {A : Type 0} (b : Bool) (x y d : A) → (b ≡ true → x ≡ y) → cond b x d ≡ cond b y d
cond-alike true x y d h = h refl
cond-alike false x y d h = refl

-- records show the same on two discs where each file of the first keeps its place
pub kept-kernel : {k : Kernel} {disc : List ℕ} (after : List ℕ) → GoodState k disc
    → ((run : Run) → FileAt disc run → whose after run ≡ whose disc run) → aside_kernel after k ≡ aside_kernel disc k
unfolding aside
kept-kernel {k} {disc} after g kept =
    λ z. record {
      variables = k.variables;
      next = k.next;
      zeros = k.zeros;
      processes = map-alike (aside after) (aside disc) no_process k.processes each z;
    }
  where
    code : (slot : ℕ) → cond (is_live (process_at k slot)) (whose after (process_at k slot).code) 0
        ≡ cond (is_live (process_at k slot)) (whose disc (process_at k slot).code) 0
    code slot = cond-alike (is_live (process_at k slot)) _ _ 0 (λ live. kept (process_at k slot).code (program-at g slot live))

    opened : (slot : ℕ) → GoodFile (files disc) (process_at k slot).file → not (eqb (process_at k slot).file.len 0) ≡ true
        → whose after (file_run (process_at k slot).file) ≡ whose disc (file_run (process_at k slot).file)
    opened slot (inl c) t = absurd (true-not-false t (ap not (eq-eqb (process_at k slot).file.len 0 c.len)))
    opened slot (inr o) t = kept (file_run (process_at k slot).file) (open_at o)

    file : (slot : ℕ) → (let b : Bool = is_live (process_at k slot) && not (eqb (process_at k slot).file.len 0) in
        cond b (whose after (file_run (process_at k slot).file)) 0 ≡ cond b (whose disc (file_run (process_at k slot).file)) 0)
    file slot =
        let live = is_live (process_at k slot) in
        let some = not (eqb (process_at k slot).file.len 0) in
        cond-alike (live && some) _ _ 0
        (λ t. opened slot (live-record g slot (and_left live some t)).file (and_right live some t))

    each : (slot : ℕ) → aside after (process_at k slot) ≡ aside disc (process_at k slot)
    each slot =
        let p = process_at k slot in
        λ z. record {
          name = p.name;
          id = p.id;
          state = p.state;
          fault = p.fault;
          code = record { start = code slot z; len = p.code.len };
          pc = p.pc;
          loopstart = p.loopstart;
          file = record { start = file slot z; len = p.file.len; offset = p.file.offset };
          sp = p.sp;
          share = p.share;
          stack = p.stack;
        }

module _ {disc name : List ℕ} {s : ℕ} (bytes : List ℕ) (good : good_disc disc ≡ true) (a : Admitted disc name (length bytes) s) where
  old-shown : (i : ℕ) → i < file_count disc
      → shown (stored disc name bytes s) (entry_at (stored disc name bytes s) i) ≡ shown disc (entry_at disc i)
  old-shown i h =
      ap (shown (stored disc name bytes s)) (stored-old bytes good a i h)
      ∙ (λ z. record { name = (entry_at disc i).name; len = (entry_at disc i).len; bytes = stored-contents bytes good a i h z })

  new-shown : shown (stored disc name bytes s) (entry_at (stored disc name bytes s) (file_count disc))
      ≡ record { name = padded name; len = length bytes; bytes = bytes }
  new-shown =
      ap (shown (stored disc name bytes s)) (stored-new bytes good a)
      ∙ (λ z. record { name = padded name; len = length bytes; bytes = stored-data bytes good a z })

  -- what the disc shows after a file has entered: one more, the last
  pub appended-files : shown_files (stored disc name bytes s)
      ≡ shown_files disc ++ (record { name = padded name; len = length bytes; bytes = bytes } ∷ [])
  appended-files =
      let after = stored disc name bytes s in
      map-tab (shown after) (entry_at after) (file_count after)
      ∙ ap (tab (λ i. shown after (entry_at after i))) (stored-count bytes good a)
      ∙ tab-more (λ i. shown after (entry_at after i)) (file_count disc)
      ∙ (λ z. tab-same (λ i. shown after (entry_at after i)) (λ i. shown disc (entry_at disc i)) (file_count disc) old-shown z
      ++ (new-shown z ∷ []))
      ∙ ap (λ (l : List Shown). l ++ (record { name = padded name; len = length bytes; bytes = bytes } ∷ []))
      (sym (map-tab (shown disc) (entry_at disc) (file_count disc)))

  -- a file that was there keeps its place in the directory
  pub appended-whose : (run : Run) → FileAt disc run → whose (stored disc name bytes s) run ≡ whose disc run
  appended-whose run f =
      whose-is (stored disc name bytes s) (stored-good bytes good a) run
      (record {
        place = f.place;
        inside = omega (arith, stored-count bytes good a);
        run_is = f.run_is ∙ ap run_of (sym (stored-old bytes good a f.place f.inside));
      })
      ∙ sym (whose-is disc good run f)

  -- the new one has the last
  pub appended-new : whose (stored disc name bytes s) (run_from s (length bytes)) ≡ file_count disc
  appended-new =
      whose-is (stored disc name bytes s) (stored-good bytes good a) (run_from s (length bytes))
      (record {
        place = file_count disc;
        inside = omega (arith, stored-count bytes good a);
        run_is = sym (ap run_of (stored-new bytes good a));
      })

  -- so every record shows as before
  pub appended-kernel : (k : Kernel) → GoodState k disc → aside_kernel (stored disc name bytes s) k ≡ aside_kernel disc k
  appended-kernel k g = kept-kernel (stored disc name bytes s) g appended-whose
