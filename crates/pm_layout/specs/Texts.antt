-- What is refused, as people read it.
use Rattle.std.specs.Prelude.{ℕ, List, codes}

-- a number of lanes or of zones is outside 1 to 32
abbrev pub bad_shape_text : List ℕ
bad_shape_text = codes "BadShape"
