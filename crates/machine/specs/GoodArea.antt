-- Document 01's good area, clause by clause, against the directory's entries.
use Rattle.std.specs.Prelude.{ℕ, Bool, cond, ◌&&◌, ◌||◌, not, List, eqb, leb, ltb}
use Rattle.buffer.specs.Lists.{all, any, pairs, same}
use Rattle.disc.specs.declared.Entry.{Entry}
use Rattle.variable.specs.Good.{good_variables}
use Rattle.machine.specs.Limits.{id_limit, max_share, stack_size}
use Rattle.machine.specs.State.{is_live, live_ids, no_loop}
use Rattle.machine.specs.declared.Kernel.{Kernel}
use Rattle.machine.specs.declared.OpenFile.{OpenFile}
use Rattle.machine.specs.declared.Process.{Process}

-- "its seven zeros [..] next ID 1 to 32768"
unfoldable pub good_header : Kernel → Bool
good_header k = all (eqb 0) k.zeros && (leb 1 k.next && leb k.next id_limit)

-- Document 02, Q-9: a live record's spare byte is at most 8; "SP at most 32, PC, loop (unless none) [..] at most their
-- lengths"
unfoldable pub good_registers : Process → Bool
good_registers p = leb p.share max_share
    && (leb p.sp stack_size && (leb p.pc p.code.len
    && (eqb p.loopstart no_loop || leb p.loopstart p.code.len)))

-- "code equal to the directory's file of that name"
unfoldable pub is_program : Process → Entry → Bool
is_program p e = same p.name e.name && (eqb p.code.start e.start && eqb p.code.len e.len)

abbrev pub is_open_in : OpenFile → Entry → Bool
is_open_in f e = eqb f.start e.start && eqb f.len e.len

-- "file offset at most [its] length", "an open file equal to some directory file"; with none open the offset is 0
unfoldable pub good_file : List Entry → OpenFile → Bool
good_file entries f = cond (eqb f.len 0) (eqb f.offset 0) (leb f.offset f.len && any (is_open_in f) entries)

-- "live IDs from 1 to next ID − 1"
abbrev pub good_id : ℕ → Process → Bool
good_id next p = leb 1 p.id && ltb p.id next

unfoldable pub good_live : List Entry → ℕ → Process → Bool
good_live entries next p = good_id next p
    && (good_registers p && (any (is_program p) entries && good_file entries p.file))

-- "known states"; "all of an ended record but its state [is] not read"
unfoldable pub good_process : List Entry → ℕ → Process → Bool
good_process entries next p = eqb p.state 0 || (is_live p && good_live entries next p)

-- "distinct live IDs"
unfoldable pub other_id : Process → Process → Bool
other_id p q = not (is_live p && (is_live q && eqb p.id q.id))

unfoldable pub good_kernel : List Entry → Kernel → Bool
good_kernel entries k = good_variables (live_ids k) k.variables
    && (good_header k && (all (good_process entries k.next) k.processes && pairs other_id k.processes))
