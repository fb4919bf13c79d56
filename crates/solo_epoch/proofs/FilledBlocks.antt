-- A block that was filled, as the lane sees it, is one as it is filled for a new object.
use Rattle.std.proofs.Common.{◌≡◌, ℕ, ◌+◌, ◌*◌, ◌/◌, ◌≤◌, slice_index, ap, ◌∙◌, subst, arith}
use Rattle.pm_layout.specs.Sizes.{class_of, lines_for}
use Rattle.pm_objects.specs.Pool.{block_lines}
use Rattle.pm_image.specs.Contents.{data_words}
use Rattle.pm_image.proofs.Rooms.{lines_needed, words_fit}
use Rattle.solo_view.specs.View.{View}
use Rattle.solo_fresh.specs.Filled.{IsFilled}
use Rattle.solo_crash.specs.NewObjects.{IsFreshBlock}

pub filled_is_fresh : (v w : View) (line lines kind size : ℕ) → IsFilled v line lines kind size w → 1 ≤ size → size ≤ 262080 → block_lines (class_of size) ≡ lines → IsFreshBlock (slice_index w.words) (record { place = 64 * line; lines = lines }) kind size
filled_is_fresh v w line lines kind size filled some most of_size =
    let fits : 8 + data_words size ≤ 8 * lines = words_fit size lines (subst (λ (n : ℕ). lines_for size ≤ n) of_size (lines_needed size)) in
    record {
      some = some;
      most = most;
      of_size = of_size;
      words = λ place near.
          let at : 64 * line / 8 + place ≡ 8 * line + place = omega arith in
          ap (slice_index w.words) at ∙ filled.there place (omega (arith, near, fits));
    }
