-- What a lane's view is as its next call begins, of which the view before is at rest behind a draw, or its call is open and told nothing: it knows what it knew, and no word changed.
use Rattle.std.proofs.Common.{◌≡◌, ⊎_elim, ℕ, ◌||◌, Bool, true, false, cond, eqb, Contains, List, [], ◌∷◌, ◌++◌, length, map, set, slice_index, None, refl, sym, ap, ◌∙◌}
use Rattle.std.specs.List.{list_any}
use Rattle.std.proofs.lemmas.Bool.{or_cases, or_left, or_right}
use Rattle.std.proofs.lemmas.List.{set-get_or}
use Rattle.pm_image.proofs.Members.{later_member}
use Rattle.solo_view.specs.Area.{area_word, is_in_area}
use Rattle.solo_view.specs.Held.{is_held}
use Rattle.solo_view.specs.Log.{Log, no_log}
use Rattle.solo_view.specs.Log.Phase.{Idle, Open}
use Rattle.solo_view.specs.Steps.Step.{Draw, Load, NumberSeen}
use Rattle.solo_view.specs.View.{Lock, Numbered, View}
use Rattle.solo_view.specs.Views.{after, with_block}
use Rattle.solo_epoch.specs.Reserving.{with_next_call}

-- ---- what the lane knows once it looked at its generation

-- the words with one more, or not
abbrev with_one : Bool → ℕ → List ℕ → List ℕ
with_one more g known = cond more (g ∷ known) known

abbrev pub known_then : View → List ℕ
known_then v = with_one (is_held v (area_word v.lane)) (area_word v.lane) v.known

one_more : (more : Bool) (g : ℕ) (known : List ℕ) (i : ℕ) → Contains known i → Contains (with_one more g known) i
one_more true g known i there = later_member g known i there
one_more false g known i there = there

pub known_there : (v : View) (i : ℕ) → Contains v.known i → Contains (known_then v) i
known_there v = one_more (is_held v (area_word v.lane)) (area_word v.lane) v.known

any_more : (more : Bool) (g : ℕ) (known : List ℕ) (i : ℕ) → list_any (λ other. eqb other i) known ≡ true → list_any (λ other. eqb other i) (with_one more g known) ≡ true
any_more true g known i there = or_right (eqb g i) (list_any (λ other. eqb other i) known) there
any_more false g known i there = there

pub known_still : (v : View) (i : ℕ) → (is_in_area v.lane i || list_any (λ other. eqb other i) v.known) ≡ true → (is_in_area v.lane i || list_any (λ other. eqb other i) (known_then v)) ≡ true
known_still v i known = ⊎_elim
    (λ (area : is_in_area v.lane i ≡ true). or_left (is_in_area v.lane i) (list_any (λ other. eqb other i) (known_then v)) area)
    (λ (learned : list_any (λ other. eqb other i) v.known ≡ true).
    or_right (is_in_area v.lane i) (list_any (λ other. eqb other i) (known_then v)) (any_more (is_held v (area_word v.lane)) (area_word v.lane) v.known i learned))
    (or_cases (is_in_area v.lane i) (list_any (λ other. eqb other i) v.known) known)

-- ---- the view

module _ (v : View) (free : v.locks ≡ []) where
  abbrev g : ℕ
  g = area_word v.lane

  abbrev words_set : List ℕ
  words_set = set v.words g (slice_index v.words g)

  abbrev locks_set : List Lock
  locks_set = map (with_block v.lanes words_set g) v.locks

  -- what a look finds it has
  words_same : words_set ≡ v.words
  words_same = set-get_or v.words g 0

  locks_same : locks_set ≡ v.locks
  locks_same = ap (map (with_block v.lanes words_set g)) free ∙ sym free

  abbrev with_log : Log → View
  with_log log = record v { log = log }

  -- of an open call
  abbrev pub open_then : View
  open_then = record v { known = known_then v; seen = (v.seen ++ Load g (slice_index v.words g) ∷ []) ++ NumberSeen (length v.entries) ∷ [] }

  abbrev open_with : List ℕ → List Lock → Log → View
  open_with words locks log = record v { words = words; locks = locks; log = log; known = known_then v; seen = (v.seen ++ Load g (slice_index v.words g) ∷ []) ++ NumberSeen (length v.entries) ∷ [] }

  pub open_next : v.log ≡ no_log (Open [] []) → with_next_call v ≡ open_then
  open_next log_is =
      let stands : with_next_call (with_log (no_log (Open [] []))) ≡ open_with words_set locks_set (no_log (Open [] [])) = refl in
      ap (λ (log : Log). with_next_call (with_log log)) log_is ∙ stands ∙ (λ j. open_with (words_same j) (locks_same j) (sym log_is j))

  -- of none
  abbrev pub idle_then : View
  idle_then = record v { known = known_then v; log = no_log (Open [] []); call = []; seen = NumberSeen (length v.entries) ∷ []; number = None }

  abbrev idle_with : List ℕ → List Lock → View
  idle_with words locks = record v { words = words; locks = locks; log = no_log (Open [] []); known = known_then v; call = []; seen = NumberSeen (length v.entries) ∷ []; number = None }

  pub idle_next : v.log ≡ no_log Idle → with_next_call v ≡ idle_then
  idle_next log_is =
      let stands : with_next_call (with_log (no_log Idle)) ≡ idle_with words_set locks_set = refl in
      ap (λ (log : Log). with_next_call (with_log log)) log_is ∙ stands ∙ (λ j. idle_with (words_same j) (locks_same j))

  -- behind a draw
  module _ (n : ℕ) where
    abbrev mine : Numbered
    mine = record { number = n; call = v.call }

    abbrev all : List Numbered
    all = v.entries ++ mine ∷ []

    abbrev pub drawn_then : View
    drawn_then = record v { known = known_then v; call = []; seen = NumberSeen (length all) ∷ []; number = None; entries = all }

    abbrev drawn_with : List ℕ → List Lock → Log → View
    drawn_with words locks log = record v { words = words; locks = locks; log = log; known = known_then v; call = []; seen = NumberSeen (length all) ∷ []; number = None; entries = all }

    pub drawn_next : v.log ≡ no_log (Open [] []) → with_next_call (after v (Draw n)) ≡ drawn_then
    drawn_next log_is =
        let stands : with_next_call (after (with_log (no_log (Open [] []))) (Draw n)) ≡ drawn_with words_set locks_set (no_log (Open [] [])) = refl in
        ap (λ (log : Log). with_next_call (after (with_log log) (Draw n))) log_is ∙ stands ∙ (λ j. drawn_with (words_same j) (locks_same j) (sym log_is j))
