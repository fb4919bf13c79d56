-- A word made by entries, one entry or one lane more.
use Rattle.std.proofs.Common.{◌≡◌, ℕ, zero, suc, ◌+◌, ◌≤◌, ◌&&◌, Bool, true, false, cond, eqb, leb, List, [], ◌∷◌, ◌++◌, Option, Some, None, refl, sym, ◌∙◌, ap, arith, append-nil}
use Rattle.std.specs.List.{filter, filter_map, cons_option, flat_map, range_with_len}
use Rattle.std.specs.Option.{unwrap_or}
use Rattle.std.proofs.lemmas.Bool.{false≢true, leb-true}
use Rattle.std.proofs.lemmas.List.Elements.{filter-append, filter_map-append}
use Rattle.std.proofs.lemmas.Grind.{flat_map-append}
use Rattle.pm_record.specs.Redo.{applied, redo_of}
use Rattle.pm_record.specs.declared.redo.Redo.{Redo}
use Rattle.pm_image.specs.Logs.{entries, entries_for, entry_pair, is_sealed, seal_word, all_applied}
use Rattle.pm_image.specs.Steps.{made, entry_for}

pub made-append : (so_far : Option ℕ) (xs ys : List Redo) (word : ℕ) → made so_far (xs ++ ys) word ≡ made (made so_far xs word) ys word
unfolding made
made-append so_far [] ys word = refl
made-append so_far (x ∷ xs) ys word = made-append (Some (applied x (unwrap_or so_far word))) xs ys word

pub made_none : (so_far : Option ℕ) (word : ℕ) → made so_far [] word ≡ so_far
unfolding made
made_none so_far word = refl

pub made_one : (so_far : Option ℕ) (e : Redo) (word : ℕ) → made so_far (e ∷ []) word ≡ Some (applied e (unwrap_or so_far word))
unfolding made
made_one so_far e word = refl

pub range_more : (a n : ℕ) → range_with_len a (n + 1) ≡ range_with_len a n ++ (a + n) ∷ []
range_more a zero = let here : a ≡ a + 0 = omega arith in ap (λ (k : ℕ). k ∷ []) here
range_more a (suc n) =
    let next : suc n + 1 ≡ suc (n + 1) = omega arith in
    let place : a + 1 + n ≡ a + suc n = omega arith in
    ap (range_with_len a) next ∙ ap (λ (ks : List ℕ). a ∷ ks) (range_more (a + 1) n ∙ ap (λ (k : ℕ). range_with_len (a + 1) n ++ k ∷ []) place)

is_for : ℕ → Redo → Bool
is_for place e = eqb e.place place

-- one entry more of a sealed lane
pub entry_more : (image : List ℕ) (lane i place : ℕ) (so_far : Option ℕ) (word : ℕ)
    → made so_far (filter (λ e. eqb e.place place) (filter_map (λ k. redo_of (entry_pair image lane k)) (range_with_len 0 (i + 1)))) word
    ≡ made (made so_far (filter (λ e. eqb e.place place) (filter_map (λ k. redo_of (entry_pair image lane k)) (range_with_len 0 i))) word) (entry_for image lane i place) word
entry_more image lane i place so_far word =
    let at : 0 + i ≡ i = omega arith in
    let more : range_with_len 0 (i + 1) ≡ range_with_len 0 i ++ i ∷ [] = range_more 0 i ∙ ap (λ (k : ℕ). range_with_len 0 i ++ k ∷ []) at in
    let read : List ℕ → List Redo = λ (ks : List ℕ). filter_map (λ k. redo_of (entry_pair image lane k)) ks in
    ap (λ (ks : List ℕ). made so_far (filter (λ e. eqb e.place place) (read ks)) word) more
    ∙ ap (λ (es : List Redo). made so_far (filter (λ e. eqb e.place place) es) word) (filter_map-append (λ k. redo_of (entry_pair image lane k)) (range_with_len 0 i) (i ∷ []))
    ∙ ap (λ (es : List Redo). made so_far es word) (filter-append (λ e. eqb e.place place) (read (range_with_len 0 i)) (read (i ∷ [])))
    ∙ made-append so_far (filter (λ e. eqb e.place place) (read (range_with_len 0 i))) (entry_for image lane i place) word

-- one lane more
pub lane_more : (image : List ℕ) (lane place : ℕ) (word : ℕ)
    → made None (entries_for image (lane + 1) place) word ≡ made (made None (entries_for image lane place) word) (filter (λ e. eqb e.place place) (entries image lane)) word
unfolding entries_for
lane_more image lane place word =
    let at : 0 + lane ≡ lane = omega arith in
    let more : range_with_len 0 (lane + 1) ≡ range_with_len 0 lane ++ lane ∷ [] = range_more 0 lane ∙ ap (λ (k : ℕ). range_with_len 0 lane ++ k ∷ []) at in
    let alone : entries image lane ++ [] ≡ entries image lane = append-nil (entries image lane) in
    ap (λ (ks : List ℕ). made None (filter (λ e. eqb e.place place) (flat_map (entries image) ks)) word) more
    ∙ ap (λ (es : List Redo). made None (filter (λ e. eqb e.place place) es) word) (flat_map-append (entries image) (range_with_len 0 lane) (lane ∷ []) ∙ ap (λ (es : List Redo). flat_map (entries image) (range_with_len 0 lane) ++ es) alone)
    ∙ ap (λ (es : List Redo). made None es word) (filter-append (λ e. eqb e.place place) (flat_map (entries image) (range_with_len 0 lane)) (entries image lane))
    ∙ made-append None (filter (λ e. eqb e.place place) (flat_map (entries image) (range_with_len 0 lane))) (filter (λ e. eqb e.place place) (entries image lane)) word

pub entries_sealed : (image : List ℕ) (lane : ℕ) → is_sealed image lane ≡ true → filter_map (λ k. redo_of (entry_pair image lane k)) (range_with_len 0 (seal_word image lane)) ≡ entries image lane
unfolding entries
entries_sealed image lane sealed = ap (λ (b : Bool). cond b (filter_map (λ k. redo_of (entry_pair image lane k)) (range_with_len 0 (seal_word image lane))) []) (sym sealed)

pub entries_unsealed : (image : List ℕ) (lane : ℕ) → is_sealed image lane ≡ false → entries image lane ≡ []
unfolding entries
entries_unsealed image lane unsealed = ap (λ (b : Bool). cond b (filter_map (λ k. redo_of (entry_pair image lane k)) (range_with_len 0 (seal_word image lane))) []) unsealed

-- what entries make of a word, from the first on
made_applied : (es : List Redo) (value word : ℕ) → made (Some value) es word ≡ Some (all_applied es value)
unfolding made
made_applied [] value word = refl
made_applied (e ∷ es) value word = made_applied es (applied e value) word

pub made_all : (e : Redo) (es : List Redo) (word : ℕ) → made None (e ∷ es) word ≡ Some (all_applied (e ∷ es) word)
unfolding made
made_all e es word = made_applied es (applied e word) word

-- an entry that is for the word, one that is for another, and none
pub once : (so_far : Option ℕ) (r : Option Redo) (e : Redo) (place word : ℕ) → r ≡ Some e → eqb e.place place ≡ true
    → made so_far (filter (λ x. eqb x.place place) (cons_option r [])) word ≡ Some (applied e (unwrap_or so_far word))
unfolding made
once so_far r e place word is here =
    ap (λ (o : Option Redo). made so_far (filter (λ x. eqb x.place place) (cons_option o [])) word) is
    ∙ ap (λ (b : Bool). made so_far (cond b (e ∷ []) []) word) here

pub once_elsewhere : (so_far : Option ℕ) (r : Option Redo) (e : Redo) (place word : ℕ) → r ≡ Some e → eqb e.place place ≡ false
    → made so_far (filter (λ x. eqb x.place place) (cons_option r [])) word ≡ so_far
unfolding made
once_elsewhere so_far r e place word is other =
    ap (λ (o : Option Redo). made so_far (filter (λ x. eqb x.place place) (cons_option o [])) word) is
    ∙ ap (λ (b : Bool). made so_far (cond b (e ∷ []) []) word) other

pub once_nothing : (so_far : Option ℕ) (r : Option Redo) (place word : ℕ) → r ≡ None → made so_far (filter (λ x. eqb x.place place) (cons_option r [])) word ≡ so_far
unfolding made
once_nothing so_far r place word is = ap (λ (o : Option Redo). made so_far (filter (λ x. eqb x.place place) (cons_option o [])) word) is

and_parts : (s t : Bool) → (s && t) ≡ true → (s ≡ true) × (t ≡ true)
and_parts true t h = (refl, h)
and_parts false t h = absurd (false≢true h)

-- a sealed lane has 64 entries at most
pub sealed_few : (image : List ℕ) (lane : ℕ) → is_sealed image lane ≡ true → seal_word image lane ≤ 64
sealed_few image lane sealed = leb-true (seal_word image lane) 64 (and_parts (leb 1 (seal_word image lane)) (leb (seal_word image lane) 64) sealed).1
