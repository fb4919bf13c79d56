-- What loads of words that the view knows find, and that they change no word.
use Rattle.std.proofs.Common.{◌≡◌, ℕ, zero, suc, ◌+◌, ◌-◌, ◌<◌, IsTrue, List, [], ◌∷◌, ◌++◌, map, replicate, set, slice_index, refl, sym, ap, ◌∙◌, arith}
use Rattle.std.specs.List.{range_with_len}
use Rattle.std.proofs.lemmas.List.{set-get_or, set-append_right, append_assoc}
use Rattle.std.proofs.lemmas.List.FromFn.{map-range_with_len_more, length-map-range_with_len}
use Rattle.solo_view.proofs.Sequences.{after_all-append}
use Rattle.solo_view.specs.Founds.{FindsKnown}
use Rattle.solo_view.specs.Held.{is_known}
use Rattle.solo_view.specs.View.{View}
use Rattle.solo_view.specs.Views.{after_all}
use Rattle.solo_world.specs.Sequences.{Sequence, counted, in_turn, looks, nothing, Ready, IsMade, Runs}
use Rattle.solo_world.proofs.Sequencing.{counted_ready}
use Rattle.solo_undo.specs.Sequences.{looks_from}

abbrev pub all_looks : ℕ → ℕ → Sequence
all_looks word = counted (λ i. looks (word + i))

-- a load of a known word changes none
pub foreseen : (v : View) (w : ℕ) → Ready v (looks w v) → IsTrue (is_known v w)
unfolding looks Ready
foreseen v w r = r.1.0

look_keeps : (v : View) (w : ℕ) → (after_all v (looks w v)).words ≡ v.words
unfolding looks after_all
look_keeps v w = set-get_or v.words w 0

looks_keep : (word n : ℕ) (v : View) → (after_all v (all_looks word n v)).words ≡ v.words
unfolding counted in_turn nothing after_all
looks_keep word zero v = refl
looks_keep word (suc n) v =
    ap (λ (u : View). u.words) (after_all-append v (all_looks word n v) (looks (word + n) (after_all v (all_looks word n v))))
    ∙ (look_keeps (after_all v (all_looks word n v)) (word + n) ∙ looks_keep word n v)

known_there : (word k n : ℕ) (v : View) → k < n → Ready v (all_looks word n v) → IsTrue (is_known (after_all v (all_looks word k v)) (word + k))
known_there word k n v below r = foreseen (after_all v (all_looks word k v)) (word + k) (counted_ready (λ i. looks (word + i)) v n k below r).1

-- so the load finds what the view had
pub look_found : (old mid : View → Type 0) (word k n x : ℕ) → k < n → IsMade old mid (all_looks word k) → ((w : View) → mid w → FindsKnown w (word + k) x)
    → (v : View) → old v → Ready v (looks_from word n v) → x ≡ slice_index v.words (word + k)
unfolding Runs looks_from
look_found old mid word k n x below made found v seen r =
    let front = (counted_ready (λ i. looks (word + i)) v n k below r).0 in
    found (after_all v (all_looks word k v)) (made v seen front) (known_there word k n v below r) ∙ ap (λ (words : List ℕ). slice_index words (word + k)) (looks_keep word k v)

-- one word more of those that are found
pub found_more : (words values : List ℕ) (word k x : ℕ) → k < 4 → words ≡ map (slice_index values) (range_with_len word k) ++ replicate (4 - k) 0 → x ≡ slice_index values (word + k)
    → set words k x ≡ map (slice_index values) (range_with_len word (k + 1)) ++ replicate (4 - (k + 1)) 0
found_more words values word k x below so_far is =
    let f : ℕ → ℕ = slice_index values in
    let front : List ℕ = map f (range_with_len word k) in
    let rest : List ℕ = replicate (4 - (k + 1)) 0 in
    let split : replicate (4 - k) 0 ≡ 0 ∷ rest = ap (λ n. replicate n 0) (let e : 4 - k ≡ suc (4 - (k + 1)) = omega (arith, below) in e) in
    let here : set words k x ≡ front ++ set (0 ∷ rest) (k - k) x =
    ap (λ l. set l k x) (so_far ∙ ap (λ l. front ++ l) split) ∙ set-append_right front (0 ∷ rest) k k x (length-map-range_with_len f word k) (omega arith) in
    let first : set (0 ∷ rest) (k - k) x ≡ x ∷ rest = ap (λ n. set (0 ∷ rest) n x) (let e : k - k ≡ 0 = omega arith in e) in
    here ∙ (ap (λ l. front ++ l) first ∙ (sym (append_assoc front (x ∷ []) rest)
    ∙ ap (λ l. l ++ rest) (ap (λ y. front ++ y ∷ []) is ∙ sym (map-range_with_len_more f word k (word + k) refl))))
