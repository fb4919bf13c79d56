use Rattle.std.specs.Prelude.{ℕ, Option, Some, option_map, vec_items}
use Rattle.std.specs.BTreeMap.{get_by_text, btree_map_len}
use Rattle.pm_shelf.specs.Outside.{Held}
use Rattle.pm_shelf.specs.declared.map_shelf.MapShelf.{MapShelf}

-- the bytes of each name
abbrev pub held_by : MapShelf → Held
held_by shelf name = option_map vec_items (get_by_text shelf.files name)

-- the same, as what the shelf tells
abbrev pub map_content : MapShelf → Option Held
map_content shelf = Some (held_by shelf)

-- how many names there are
abbrev pub name_count : MapShelf → ℕ
name_count shelf = btree_map_len shelf.files
