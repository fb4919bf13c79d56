-- The pair of lines, and where it stands in the page.
use Rattle.std.proofs.Common.{get_or, ◌≡◌, ℕ, ◌+◌, List, [], ◌∷◌, ◌++◌, length, take, drop, set, refl, sym, ◌∙◌, ap, arith, append_assoc}
use Rattle.std.proofs.Math.Seq.{take-append-add, drop-append-add}
use Rattle.std.proofs.lemmas.List.{drop-drop}
use Rattle.std.proofs.lemmas.List.FromFn.{fill_by_all}
use borrow.Rule.Slice.PartMut.{put_mid}
use Rattle.pm_words.specs.Words.{words_of}
use Rattle.pm_words.specs.Sums.{sum64}
use Rattle.pm_header.specs.Name.{name_bytes}
use Rattle.pm_header.specs.Spelling.{magic, name_line, header_line, pair, with_pairs}
use Rattle.pm_header.specs.declared.header.Header.{Header}

-- seven words, their sum put behind them, and the name's line
pub pair_spelled : (h : Header) (first second line : List ℕ) (name_sum front_sum : ℕ) → line ≡ name_bytes h.name → second ≡ words_of line → name_sum ≡ sum64 second
    → first ≡ magic ∷ h.version ∷ h.id ∷ h.lanes ∷ h.zones ∷ h.bytes ∷ name_sum ∷ 0 ∷ [] → front_sum ≡ sum64 (take 7 first) → set first 7 front_sum ++ second ≡ pair h
unfolding pair
pair_spelled h first second line name_sum front_sum line_is second_is name_is first_is front_is =
    let named : second ≡ name_line h.name = second_is ∙ ap words_of line_is in
    let summed : name_sum ≡ sum64 (name_line h.name) = name_is ∙ ap sum64 named in
    let front : List ℕ = magic ∷ h.version ∷ h.id ∷ h.lanes ∷ h.zones ∷ h.bytes ∷ sum64 (name_line h.name) ∷ [] in
    let whole : first ≡ front ++ 0 ∷ [] = first_is ∙ ap (λ (n : ℕ). magic ∷ h.version ∷ h.id ∷ h.lanes ∷ h.zones ∷ h.bytes ∷ n ∷ 0 ∷ []) summed in
    let closed : front_sum ≡ sum64 front = front_is ∙ ap (λ (ws : List ℕ). sum64 (take 7 ws)) whole in
    (λ i. set (whole i) 7 (closed i) ++ named i)

-- the pair and its copy written over the page
pub with_pairs_written : (h : Header) (page first second : List ℕ) → length first ≡ 16 → first ≡ pair h → second ≡ pair h → put_mid 256 16 (first ++ drop 16 page) second ≡ with_pairs page h
with_pairs_written h page first second count first_is second_is =
    let rest : List ℕ = drop 16 page in
    let far : 256 ≡ length first + 240 = omega arith in
    let front : take 256 (first ++ rest) ≡ first ++ take 240 rest = ap (λ (n : ℕ). take n (first ++ rest)) far ∙ take-append-add first rest 240 in
    let behind : drop 256 (first ++ rest) ≡ drop 240 rest = ap (λ (n : ℕ). drop n (first ++ rest)) far ∙ drop-append-add first rest 240 in
    let end : drop 16 (drop 256 (first ++ rest)) ≡ drop 272 page = ap (drop 16) behind ∙ ap (drop 16) (drop-drop 240 16 page) ∙ drop-drop 16 256 page in
    (λ i. front i ++ (second ++ end i)) ∙ (λ i. (first_is i ++ take 240 rest) ++ (second_is i ++ drop 272 page)) ∙ sym (append_assoc (pair h ++ take 240 rest) (pair h) (drop 272 page))

-- a front with the magic and both sums, and a name's line behind it, are the pair of the header that they give
pub pair_read : (h : Header) (front line : List ℕ) → length front ≡ 8 → get_or front 0 0 ≡ magic → get_or front 1 0 ≡ h.version → get_or front 2 0 ≡ h.id → get_or front 3 0 ≡ h.lanes
    → get_or front 4 0 ≡ h.zones → get_or front 5 0 ≡ h.bytes → line ≡ name_line h.name → get_or front 6 0 ≡ sum64 line → get_or front 7 0 ≡ sum64 (take 7 front) → front ++ line ≡ pair h
unfolding pair
pair_read h front line long has_magic version id lanes zones bytes named name_is front_is =
    let words : front ≡ get_or front 0 0 ∷ get_or front 1 0 ∷ get_or front 2 0 ∷ get_or front 3 0 ∷ get_or front 4 0 ∷ get_or front 5 0 ∷ get_or front 6 0 ∷ get_or front 7 0 ∷ [] =
    fill_by_all (λ k. get_or front k 0) front 8 0 long (λ k h. refl) in
    let name_sum : get_or front 6 0 ≡ sum64 (name_line h.name) = name_is ∙ ap sum64 named in
    let seven : take 7 front ≡ magic ∷ h.version ∷ h.id ∷ h.lanes ∷ h.zones ∷ h.bytes ∷ sum64 (name_line h.name) ∷ [] =
    ap (take 7) words ∙ (λ i. has_magic i ∷ version i ∷ id i ∷ lanes i ∷ zones i ∷ bytes i ∷ name_sum i ∷ []) in
    let front_sum : get_or front 7 0 ≡ sum64 (magic ∷ h.version ∷ h.id ∷ h.lanes ∷ h.zones ∷ h.bytes ∷ sum64 (name_line h.name) ∷ []) = front_is ∙ ap sum64 seven in
    let whole : front ≡ header_line h = words ∙ (λ i. has_magic i ∷ version i ∷ id i ∷ lanes i ∷ zones i ∷ bytes i ∷ name_sum i ∷ front_sum i ∷ []) in
    (λ i. whole i ++ named i)
