use Rattle.std.specs.Prelude.{ℕ}
use Rattle.pm_shelf.specs.declared.file_shelf.FileShelf.{FileShelf}

-- how often a call of the file system failed
abbrev pub shelf_faults : {R : Type 0} → FileShelf R → ℕ
shelf_faults shelf = shelf.faults
