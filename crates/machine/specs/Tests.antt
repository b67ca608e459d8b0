-- The tests of every call, in document 01's order: the first that fails refuses it by its number, and a call that none
-- fails is done.
use Rattle.std.specs.Prelude.{ℕ, ◌+◌, ◌≤◌, ◌<◌, ◌≡◌, true, List, ◌⊎◌, pos, neg_ℤ, length}
use Rattle.disc.specs.Directory.{DiscLength, good_disc}
use Rattle.disc.specs.Layout.{data_start, max_files}
use Rattle.disc.specs.Offsets.{size_of}
use Rattle.store.specs.Room.{Free}
use Rattle.machine.specs.Answer.{Answer, Buffers, Call, Other, turn, round, command, share, run, other, store}
use Rattle.machine.specs.Answer.{retrieve, erase, files, free_space, list, answer, boot_answer, format_answer}
use Rattle.machine.specs.Answer.{good_area}
use Rattle.machine.specs.Fields.{Ended, HasId, IsName, Named, NoFile, Uses, files_on, files_text, next_id}
use Rattle.machine.specs.Fields.{processes_text, state_byte}
use Rattle.machine.specs.Limits.{area_length, id_limit, max_share, round_room, slot_count, turn_room}
use Rattle.machine.specs.Operations.{Command, suspend, resume, kill}
use Rattle.machine.specs.State.{paused, running}

-- tests in the order they are tried, each with its refusal
pub data Tests : Type 1 where
  passed : Tests
  test : (number : ℕ) → (holds : Type 0) → Tests → Tests

-- ---- document 01's 1 to 3, which come first
abbrev pub on_disc : Buffers → Tests → Tests
on_disc b rest =
    test 1 (DiscLength (length b.disc))
    (test 2 (good_disc b.disc ≡ true)
    rest)

abbrev pub on_both : Buffers → Tests → Tests
on_both b rest =
    test 1 (DiscLength (length b.disc) × (length b.area ≡ area_length))
    (test 2 (good_disc b.disc ≡ true)
    (test 3 (good_area b.disc b.area ≡ true)
    rest))

-- ---- the operations
abbrev pub some_file : Buffers → List ℕ → Type 0
some_file b name = (i : ℕ) × Named b.disc name i

abbrev pub some_ended : Buffers → Type 0
some_ended b = (i : ℕ) × Ended b.area i

abbrev pub id_left : Buffers → Type 0
id_left b = next_id b.area ≡ id_limit → ⊥

abbrev pub not_already : Buffers → (id state : ℕ) → Type 0
not_already b id state = (i : ℕ) → HasId b.area id i → state_byte b.area i ≡ state → ⊥

abbrev pub command_tests : Command → ℕ → Buffers → Tests
command_tests suspend id b = test 14 ((i : ℕ) × HasId b.area id i) (test 15 (not_already b id paused) passed)
command_tests resume id b = test 14 ((i : ℕ) × HasId b.area id i) (test 15 (not_already b id running) passed)
command_tests kill id b = test 14 ((i : ℕ) × HasId b.area id i) passed

abbrev pub other_tests : Other → Buffers → Tests
other_tests (store name bytes) b =
    on_disc b
    (test 5 (IsName name)
    (test 6 ((1 ≤ length bytes) × (data_start + length bytes ≤ length b.disc))
    (test 8 (files_on b.disc < max_files)
    (test 7 (NoFile b.disc name)
    (test 9 ((start : ℕ) × Free b.disc (length bytes) start)
    passed)))))
other_tests (retrieve name) b =
    on_disc b
    (test 10 (some_file b name)
    (test 4 ((i : ℕ) → Named b.disc name i → size_of b.disc i ≤ length b.out)
    passed))
other_tests (erase name) b =
    on_both b
    (test 10 (some_file b name)
    (test 11 ((file i : ℕ) → Named b.disc name file → Uses b.disc b.area file i → ⊥)
    passed))
other_tests files b = on_disc b (test 4 (length (files_text b.disc) ≤ length b.out) passed)
other_tests free_space b = on_disc b passed
other_tests list b = on_both b (test 4 (length (processes_text b.area) ≤ length b.out) passed)

abbrev pub tests : Call → Buffers → Tests
tests (turn slot clock) b =
    on_both b
    (test 4 (turn_room ≤ length b.out)
    (test 16 ((slot < slot_count) × (state_byte b.area slot ≡ running))
    passed))
tests (round clock) b = on_both b (test 4 (round_room ≤ length b.out) passed)
tests (command c id) b = on_both b (command_tests c id b)
tests (share id turns) b =
    on_both b (test 14 ((i : ℕ) × HasId b.area id i) (test 22 ((1 ≤ turns) × (turns ≤ max_share)) passed))
tests (run name) b = on_both b (test 12 (some_ended b) (test 10 (some_file b name) (test 13 (id_left b) passed)))
tests (other o) b = other_tests o b

-- Document 01: "format and boot try only 1"
abbrev pub format_tests : Buffers → Tests
format_tests b = test 1 (DiscLength (length b.disc) × (length b.area ≡ area_length)) passed

abbrev pub boot_tests : Buffers → Tests
boot_tests b = test 1 (length b.area ≡ area_length) passed

-- ---- what they decide
abbrev pub Unchanged : Answer → Buffers → Type 0
Unchanged a b = (a.disc ≡ b.disc) × (a.area ≡ b.area) × (a.out ≡ b.out)

-- Document 01: "0 or more is done [..], −n is refusal n with both buffers and the output unchanged"
abbrev pub Decides : Tests → Buffers → Answer → Type 0
Decides passed b a = (n : ℕ) × (a.number ≡ pos n)
Decides (test n holds rest) b a = (holds × Decides rest b a)
    ⊎ ((holds → ⊥) × (a.number ≡ neg_ℤ (pos n)) × Unchanged a b)

unfoldable pub RefusedExactly : Type 0
RefusedExactly = ((c : Call) (b : Buffers) → Decides (tests c b) b (answer c b))
    × ((b : Buffers) → Decides (format_tests b) b (format_answer b))
    × ((b : Buffers) → Decides (boot_tests b) b (boot_answer b))
