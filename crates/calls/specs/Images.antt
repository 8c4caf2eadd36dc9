-- The image of a timer or of a DPC in an output of bytes: the answer, and the output after the call. 2 unknown.
use Rattle.std.specs.Prelude.{cond, List, ℕ, eqb}
use Rattle.answers.specs.declared.Answer.{Answer}
use Rattle.answers.specs.declared.Answer.TheVariants.{Refused, Count}
use Rattle.objects.specs.Objects.{place_of}
use Rattle.images.specs.Image.{timer_image, dpc_image}
use Rattle.timers.specs.Record.{timer_at, size_at, dpc_size_at}
use Rattle.dpcs.specs.Record.{number_of, place_at, dpc_at}

pub record Imaged : Type 0 where
  pub answer : Answer
  pub output : List ℕ

abbrev pub imaged : Answer → List ℕ → Imaged
imaged a out = record { answer = a; output = out }

-- the size that the image has, and the output with the image at its start
unfoldable pub timer_imaged : List ℕ → ℕ → List ℕ → Imaged
timer_imaged w address out =
    let place = place_of w 2 address in
    cond (eqb place 0) (imaged (Refused 2) out) (imaged (Count (size_at w place)) (timer_image (timer_at w place) out))

unfoldable pub dpc_imaged : List ℕ → ℕ → List ℕ → Imaged
dpc_imaged w address out =
    let n = number_of w address in
    cond (eqb n 0) (imaged (Refused 2) out) (imaged (Count (dpc_size_at w (place_at w n))) (dpc_image (dpc_at w (place_at w n)) out))
