-- Boot and format that are done: the zeros that they leave, and next ID 1.
use mathlib.Core.Path.{◌≡◌, refl, ◌∙◌}
use mathlib.Core.Bool.{◌&&◌}
use lib.ListN.{length, replicate}
use lib.Seq.{get_or-set_other}
use Rattle.disc.specs.Directory.{is_disc_length}
use Rattle.machine.specs.Answer.{boot_answer, booted, format_answer}
use Rattle.machine.specs.Area.{is_area_length}
use Rattle.machine.specs.Done.{BootDone, Booted, FormatDone, Zeroed}
use Rattle.machine.specs.Limits.{area_length, next_at}
use Rattle.machine.proofs.Demands.Booted.{zeros-at}
use Rattle.machine.proofs.Operations.Tests.{done-test}

booted-is : Booted booted
booted-is =
    record {
      long = refl;
      next = refl;
      zeros = λ j other. get_or-set_other (replicate area_length 0) next_at j 1 0 other ∙ zeros-at area_length j;
    }

pub boot-done : BootDone
unfolding boot_answer
boot-done b n = done-test (λ a. (n ≡ 0) × Booted a.area) b n (is_area_length (length b.area)) 0 _ λ long h. (cc, booted-is)

pub format-done : FormatDone
unfolding format_answer
format-done b n =
    done-test (λ a. (n ≡ 0) × Zeroed a.disc × Booted a.area) b n
    (is_disc_length (length b.disc) && is_area_length (length b.area)) 0 _ λ long h. (cc, zeros-at (length b.disc), booted-is)
