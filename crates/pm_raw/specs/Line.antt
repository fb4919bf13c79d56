use Rattle.std.specs.Prelude.{ℕ, ◌+◌, ◌*◌, List, ◌++◌, length, take, drop}

-- the image with these words written over it from line i on, at its own length: eight words replace line i alone
unfoldable pub with_line : List ℕ → ℕ → List ℕ → List ℕ
with_line image i words = take (length image) (take (8 * i) image ++ words ++ drop (8 * i + length words) image)
