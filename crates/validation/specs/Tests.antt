-- The tests that every operation on both buffers makes first, as one answer.
use Rattle.std.specs.Prelude.{◌&&◌, List, ℕ, Ok, Err, Result, length}
use Rattle.disc.specs.Directory.{good_disc, is_disc_length}
use Rattle.store.specs.File.{unless}
use Rattle.machine.specs.Answer.{good_area}
use Rattle.machine.specs.Area.{is_area_length}
use Rattle.store.specs.declared.Refusal.{Refusal}
use Rattle.store.specs.declared.Refusal.TheVariants.{WrongLength, BadDisc, BadArea}

-- Document 01: "Every operation tries 1, 2, 3, 4 first, in that order": "1: a buffer has the wrong length. 2: disc not
-- good. 3: work area not good."
unfoldable pub tested : List ℕ → List ℕ → Result (Unit {0}) Refusal
tested disc area =
    unless (is_disc_length (length disc) && is_area_length (length area)) (Err WrongLength)
    (unless (good_disc disc) (Err BadDisc)
    (unless (good_area disc area) (Err BadArea)
    (Ok tt)))
