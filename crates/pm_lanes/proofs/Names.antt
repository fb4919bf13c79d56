-- The layout name of a pool that an image means is a text.
use Rattle.std.proofs.Common.{ℕ, ◌<◌, ◌≤◌, ⊎_elim, List, length, sym, ap, subst, arith}
use Rattle.std.proofs.lemmas.Bool.{cases_lt}
use Rattle.std.proofs.lemmas.List.{get_or_past}
use Rattle.std.proofs.lemmas.List.Elements.{All-get_or}
use Rattle.std.proofs.lemmas.Str.{IsUtf8-from_ascii}
use Rattle.std.specs.Str.{IsAscii, IsUtf8}
use Rattle.pm_header.specs.Name.{IsName, IsNameByte}
use Rattle.pm_image.specs.Means.{IsMeaning}
use Rattle.pm_objects.specs.declared.pool.PoolView.{PoolView}

ascii : (name : List ℕ) → IsName name → IsAscii name
ascii name is i =
    ⊎_elim
    (λ (l : i < length name). let b : IsNameByte _ = All-get_or IsNameByte name i 0 l is.bytes in
    let most = b.1 in omega (arith, most))
    (λ (l : length name ≤ i). let e = get_or_past name i 0 l in omega (arith, e))
    (cases_lt i (length name))

pub name_is_text : (image : List ℕ) (pool : PoolView) → IsMeaning image pool → IsUtf8 pool.name
name_is_text image pool is =
    subst IsUtf8 (sym (ap (λ (p : PoolView). p.name) is.is_pool))
    (IsUtf8-from_ascii is.header.name (ascii is.header.name is.has_header.header_in.main.is_name))
