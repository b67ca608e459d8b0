-- A live process shows what the single process shows, and its own turn is the single process's. Nothing is supposed of its neighbours, nor
-- of its program: what a turn does is said for each effect that its instruction may have.
use Prim.Native.Nat.{ℕ, ◌-◌, ◌<◌}
use mathlib.Core.Path.{◌≡◌, refl, ap, subst, subst⁻¹, ◌∙◌}
use mathlib.Core.Bool.{true}
use mathlib.Core.List.{List, [], ◌++◌}
use lib.IntN.{pos}
use lib.ListN.{length, replicate, take}
use lib.Seq.{take_at}
use Rattle.variable.specs.Limits.{value_size}
use Rattle.variable.specs.Assign.{assigned, assigned_cells, new_cell, value_bytes, value_of}
use Rattle.variable.specs.Table.{Cell, owned}
use Rattle.variable.specs.Assign.{Placing}
use Rattle.std.specs.Prelude.{Ok}
use Rattle.machine.specs.Effect.{goes, assigns}
use Rattle.machine.specs.Exec.{exec}
use Rattle.machine.specs.Limits.{stack_size}
use Rattle.machine.specs.Observation.{seen, next, observed_of, seen_in, seen_of}
use Rattle.machine.specs.Single.{Response, did, Single, advanced_to, in_state, over, single_effect}
use Rattle.machine.specs.Ended.{ended, ended_process}
use Rattle.machine.specs.State.{Local, is_live, local_of, process_at, with_local, with_process, with_share, with_state}
use Rattle.machine.specs.Turn.{Turned, carried_out, finished, program_of, setting, turned}
use Rattle.machine.specs.declared.Kernel.{Kernel}
use Rattle.machine.specs.declared.Process.{Process}
use Rattle.machine.proofs.Changes.Change.{GoodState}
use Rattle.machine.proofs.Changes.Directories.{live-record}
use Rattle.machine.proofs.Kept.OwnEnd.{ended-gone, ended-process, ended-variables, set-variables}
use Rattle.machine.proofs.Kept.Gone.{Gone}
use Rattle.machine.proofs.Changes.Replaced.{put-at}

-- ---- a record and variables that show the single process's state
pub record Holds (p : Process) (variables : List Cell) (s : Single) : Type 0 where
  pub sp : p.sp ≡ length s.loc.stack
  pub stack : p.stack ≡ s.loc.stack ++ replicate (stack_size - length s.loc.stack) 0
  pub pc : p.pc ≡ s.loc.pc
  pub loop : p.loopstart ≡ s.loc.loopstart
  pub state : p.state ≡ s.state
  pub fault : p.fault ≡ s.fault
  pub cells : variables ≡ s.cells

pub held-seen : {p : Process} {variables : List Cell} {s : Single} → Holds p variables s → (text : List ℕ)
    → seen_in p variables text (pos (length text)) ≡ seen_of s text
held-seen h text =
    λ t. record {
      sp = h.sp t;
      stack = h.stack t;
      variables = h.cells t;
      pc = h.pc t;
      loopstart = h.loop t;
      state = h.state t;
      fault = h.fault t;
      text = text;
      number = pos (length text);
    }

held-local : {p : Process} {variables : List Cell} {s : Single} → Holds p variables s → local_of p ≡ s.loc
held-local {p} {variables} {s} h = λ t. record { stack = bytes t; pc = h.pc t; loopstart = h.loop t }
  where
    bytes : take p.sp p.stack ≡ s.loc.stack
    bytes =
        (λ t. take (h.sp t) (h.stack t))
        ∙ take_at s.loc.stack (replicate (stack_size - length s.loc.stack) 0) (length s.loc.stack) refl

-- ---- following
pub record Follows (i : ℕ) (prog : List ℕ) (k : Kernel) (disc : List ℕ) (s : Single) : Type 0 where
  pub slot : ℕ
  pub live : is_live (process_at k slot) ≡ true
  pub named : (process_at k slot).id ≡ i
  pub runs : program_of disc (process_at k slot) ≡ prog
  pub holds : Holds (process_at k slot) (owned k.variables i) s

pub data Tracks (i : ℕ) (prog : List ℕ) (k : Kernel) (disc : List ℕ) (s : Single) : Type 0 where
  on : Follows i prog k disc s → Tracks i prog k disc s
  off : Gone i k → s.state ≡ 0 → Tracks i prog k disc s

-- what is seen after a turn of that slot is what the single process answers, and it is followed on
pub record Agrees (i : ℕ) (prog : List ℕ) (slot : ℕ) (s : Single) (t : Turned) (r : Response) : Type 0 where
  pub observed : seen (seen_in (process_at t.kernel slot) (owned t.kernel.variables i) t.out (pos (length t.out))) ≡ observed_of r
  pub tracked : Tracks i prog t.kernel t.disc (next r s)

-- ---- its own turn
module _ (i : ℕ) (prog : List ℕ) (k : Kernel) (disc : List ℕ) (s : Single) (good : GoodState k disc) (x : Follows i prog k disc s) where
  abbrev p : Process
  p = process_at k x.slot

  own-cells : owned k.variables p.id ≡ s.cells
  own-cells = ap (owned k.variables) x.named ∙ x.holds.cells

  -- the instruction is the single process's: same bytes, same state, same variables
  pub own-exec : (clock : ℕ) → exec (program_of disc p) clock (local_of p) (owned k.variables i) ≡ exec prog clock s.loc s.cells
  own-exec clock = λ t. exec (x.runs t) clock (held-local x.holds t) (x.holds.cells t)

  pub own-effect : (clock : ℕ) → turned k x.slot clock disc ≡ carried_out k x.slot disc (exec prog clock s.loc s.cells)
  unfolding turned
  own-effect clock = ap (carried_out k x.slot disc) (λ t. exec (x.runs t) clock (held-local x.holds t) (own-cells t))

  -- the record goes on with this state, the variables are these
  moved_holds : (q : Process) (l : Local) (cells : List Cell) (variables : List Cell) → q ≡ with_local p l → variables ≡ cells
      → Holds q variables (advanced_to s l cells)
  moved_holds q l cells variables e v =
      record {
        sp = ap (λ (r : Process). r.sp) e;
        stack = ap (λ (r : Process). r.stack) e;
        pc = ap (λ (r : Process). r.pc) e;
        loop = ap (λ (r : Process). r.loopstart) e;
        state = ap (λ (r : Process). r.state) e ∙ x.holds.state;
        fault = ap (λ (r : Process). r.fault) e ∙ x.holds.fault;
        cells = v;
      }

  moved-follows : (j : Kernel) (l : Local) (cells : List Cell) → process_at j x.slot ≡ with_local p l → owned j.variables i ≡ cells
      → Follows i prog j disc (advanced_to s l cells)
  moved-follows j l cells e v =
      record {
        slot = x.slot;
        live = ap is_live e ∙ x.live;
        named = ap (λ (r : Process). r.id) e ∙ x.named;
        runs = ap (program_of disc) e ∙ x.runs;
        holds = moved_holds (process_at j x.slot) l cells (owned j.variables i) e v;
      }

  moved-agrees : (j : Kernel) (l : Local) (cells : List Cell) (out : List ℕ) → process_at j x.slot ≡ with_local p l
      → owned j.variables i ≡ cells
      → Agrees i prog x.slot s (record { kernel = j; disc = disc; out = out }) (did out (advanced_to s l cells))
  moved-agrees j l cells out e v =
      let f = moved-follows j l cells e v in
      record {
        observed = ap seen (held-seen (moved_holds (process_at j x.slot) l cells (owned j.variables i) e v) out);
        tracked = on f;
      }

  pub own-goes : (l : Local) (out : List ℕ)
      → Agrees i prog x.slot s (carried_out k x.slot disc (goes l out)) (single_effect s (goes l out))
  unfolding carried_out
  own-goes l out =
      moved-agrees (with_process k x.slot (with_local p l)) l s.cells out (put-at k x.slot (with_local p l) x.live)
      x.holds.cells

  -- Document 01: "STOP, or a fault, ends it."
  pub own-ends : (fault : ℕ) → Agrees i prog x.slot s (finished k x.slot disc fault) (did [] (over fault))
  unfolding ended
  own-ends fault =
      record {
        observed = ap seen
            ((λ t. seen_in (ended-process k x.slot fault x.live t) (owned (ended k x.slot fault).variables i) [] (pos 0))
            ∙ ap (λ (v : List Cell). seen_in (ended_process p fault) v [] (pos 0)) none);
        tracked = off (subst (λ (id : ℕ). Gone id (ended k x.slot fault)) x.named
            (record { given = below; none = ended-gone k x.slot fault disc good x.live })) refl;
      }
    where
      below : p.id < k.next
      below = (live-record good x.slot x.live).given

      none : owned (ended k x.slot fault).variables i ≡ []
      none = subst (λ (id : ℕ). owned (ended k x.slot fault).variables id ≡ []) x.named (ended-variables k x.slot fault)

  -- ---- SET
  module _ (name kind : ℕ) (bytes : List ℕ) (l : Local) where
    abbrev cell : List ℕ → Cell
    cell value = record { name = name; kind = kind; bytes = value }

    value-bytes : value_bytes (value_of kind bytes) ≡ bytes
    value-bytes = take_at bytes (replicate (value_size - length bytes) 0) (length bytes) refl

    set-cells : (a : ℕ) → (assigned k.variables name p.id (value_of kind bytes)).placing ≡ Ok a
        → owned (assigned k.variables name p.id (value_of kind bytes)).variables i ≡ assigned_cells s.cells (cell bytes)
    unfolding assigned_cells
    set-cells a e =
        subst (λ (id : ℕ). owned (assigned k.variables name p.id (value_of kind bytes)).variables id ≡ assigned_cells
        (owned k.variables p.id) (new_cell name (value_of kind bytes)))
        x.named (set-variables k disc good name p.id (value_of kind bytes) a (ap length value-bytes) e)
        ∙ (λ t. assigned_cells (own-cells t) (cell (value-bytes t)))

    -- "A SET without fault drops the old variable, then adds the new one"
    pub own-sets : (a : ℕ) → (assigned k.variables name p.id (value_of kind bytes)).placing ≡ Ok a
        → Agrees i prog x.slot s (carried_out k x.slot disc (assigns name kind bytes l)) (single_effect s (assigns name kind bytes l))
    unfolding carried_out
    own-sets a e =
        subst⁻¹ (λ (q : Placing).
        Agrees i prog x.slot s (setting k x.slot disc q (assigned k.variables name p.id (value_of kind bytes)).variables l)
        (single_effect s (assigns name kind bytes l)))
        e (moved-agrees _ l (assigned_cells s.cells (cell bytes)) [] (put-at k x.slot (with_local p l) x.live) (set-cells a e))

  -- ---- its share, which the single process does not have
  pub share-follows : (turns : ℕ) → Follows i prog (with_process k x.slot (with_share p turns)) disc s
  share-follows turns =
      let put = put-at k x.slot (with_share p turns) x.live in
      let h = x.holds in
      record {
        slot = x.slot;
        live = ap is_live put ∙ x.live;
        named = ap (λ (r : Process). r.id) put ∙ x.named;
        runs = ap (program_of disc) put ∙ x.runs;
        holds = subst⁻¹ (λ (r : Process). Holds r (owned k.variables i) s) put
            (record { sp = h.sp; stack = h.stack; pc = h.pc; loop = h.loop; state = h.state; fault = h.fault; cells = h.cells });
      }

  -- ---- suspend and resume
  pub own-state : (state : ℕ) → is_live (with_state p state) ≡ true
      → Agrees i prog x.slot s (record { kernel = with_process k x.slot (with_state p state); disc = disc; out = [] }) (in_state s state)
  own-state state live =
      let f = held in
      record {
        observed = ap seen (held-seen f []);
        tracked = on
            (record {
              slot = x.slot;
              live = ap is_live put ∙ live;
              named = ap (λ (r : Process). r.id) put ∙ x.named;
              runs = ap (program_of disc) put ∙ x.runs;
              holds = f;
            });
      }
    where
      put : process_at (with_process k x.slot (with_state p state)) x.slot ≡ with_state p state
      put = put-at k x.slot (with_state p state) x.live

      held : Holds (process_at (with_process k x.slot (with_state p state)) x.slot) (owned k.variables i)
          (record { state = state; fault = s.fault; loc = s.loc; cells = s.cells })
      held =
          let h = x.holds in
          subst⁻¹ (λ (r : Process).
          Holds r (owned k.variables i) (record { state = state; fault = s.fault; loc = s.loc; cells = s.cells })) put
          (record { sp = h.sp; stack = h.stack; pc = h.pc; loop = h.loop; state = refl; fault = h.fault; cells = h.cells })
