use Rattle.std.specs.Prelude.{ℕ, List}
use Rattle.std.specs.Borrow.{Lends, MutBor, Fml, Array, u64}
use Rattle.pm_raw.specs.contracts.RawImage.{the_row}
use Rattle.pm_raw.specs.Line.{with_line}

-- r lends line i of the image: what is last left in r is that line, and the other words stay
abbrev pub LendsLine : MutBor (List ℕ) → ℕ → MutBor (List ℕ) → Fml
LendsLine image i r = Lends the_row (Array u64 0) image r (with_line image.now i)
