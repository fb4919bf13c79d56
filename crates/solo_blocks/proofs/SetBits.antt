-- A search clears no bit of a zone, sets those of the chunks that it reserves, and reserves blocks of runs alone.
use Rattle.std.proofs.Common.{◌≡◌, ◌≢◌, ◌⊎◌, inl, inr, ⊎_elim, ℕ, ◌/◌, ◌<◌, ◌≤◌, ◌||◌, eqb, true, false, IsTrue, All, List, [], ◌∷◌, length, set, slice_index, bit_or, refl, sym, ap, ◌∙◌, subst}
use Rattle.std.specs.Int.{bit_at}
use Rattle.std.proofs.lemmas.Bool.{and_parts, cases_eq, cases_lt, eqb-true, false≢true, or_cases}
use Rattle.std.proofs.lemmas.List.{get_or-set_other, get_or-set_same, set_past}
use Rattle.std.proofs.lemmas.List.Folds.{list_any-append}
use Rattle.solo_view.specs.declared.occ.Occ.{Occ}
use Rattle.solo_view.specs.declared.occ.Occ.TheVariants.{Run, Zone}
use Rattle.solo_view.specs.Blocks.{descriptor_word, is_run}
use Rattle.solo_view.specs.Founds.{FoundAlone, IsAlone}
use Rattle.solo_view.specs.Steps.{Step}
use Rattle.solo_view.specs.Steps.Step.{Load, Store, Or, And, Flush, Drain, TakeWrite, TakeRead, Raise, Give, ZoneTry, ZoneGive, Occupied, Occupy, Vacate, Draw, NumberSeen, StopSeen, SetStop, Tell}
use Rattle.solo_view.specs.View.{Taken, View}
use Rattle.solo_view.specs.Views.{after, has_bit, is_same_occ, occ_in, reserves}
use Rattle.solo_world.proofs.Reserved.{occ_same}
use Rattle.solo_world.proofs.Searched.{kept_one, still_alone}
use Rattle.solo_world.proofs.Vacated.{or_bit_left, or_bit_right}
use Rattle.solo_world.specs.Lawful.{Allowed, IsSeenRun}
use Rattle.solo_world.specs.Searches.{Searches, is_search}
use Rattle.solo_blocks.proofs.Again.{HasPictures, pictures_one}
use Rattle.solo_blocks.proofs.Searching.{IsLeft, left_one}
use Rattle.solo_blocks.specs.NewRuns.{IsThere}

-- ---- a search clears no bit, and sets those that it reserves

abbrev IsSet : View → Occ → ℕ → Type 0
IsSet v o bit = bit_at (occ_in v o) bit ≡ 1

-- a zone's word with more bits
set_still : (words : List ℕ) (at zone bits bit : ℕ) → bit_at (slice_index words zone) bit ≡ 1 → bit_at (slice_index (set words at (bit_or (slice_index words at) bits)) zone) bit ≡ 1
set_still words at zone bits bit before =
    let x : ℕ = bit_or (slice_index words at) bits in
    ⊎_elim
    (λ (inside : at < length words). ⊎_elim
    (λ (here : zone ≡ at).
    subst (λ z. bit_at (slice_index (set words at x) z) bit ≡ 1) (sym here)
    (ap (λ n. bit_at n bit) (get_or-set_same words at x 0 inside) ∙ or_bit_left (slice_index words at) bits bit (subst (λ z. bit_at (slice_index words z) bit ≡ 1) here before)))
    (λ (other : zone ≢ at). ap (λ n. bit_at n bit) (get_or-set_other words at zone x 0 other) ∙ before)
    (cases_eq zone at))
    (λ (past : length words ≤ at). ap (λ (ws : List ℕ). bit_at (slice_index ws zone) bit) (set_past words at x past) ∙ before)
    (cases_lt at (length words))

set_now : (words : List ℕ) (at bits bit : ℕ) → at < length words → bit_at bits bit ≡ 1 → bit_at (slice_index (set words at (bit_or (slice_index words at) bits)) at) bit ≡ 1
set_now words at bits bit inside set_bit = let x : ℕ = bit_or (slice_index words at) bits in ap (λ n. bit_at n bit) (get_or-set_same words at x 0 inside) ∙ or_bit_right (slice_index words at) bits bit set_bit

same_set : (v w : View) (o : Occ) (bit : ℕ) → HasPictures v w → IsSet v o bit → IsSet w o bit
same_set v w (Run place) bit same is = ap (λ (ws : List ℕ). bit_at (slice_index ws (place / 4096)) bit) same.runs ∙ is
same_set v w (Zone zone) bit same is = ap (λ (ws : List ℕ). bit_at (slice_index ws zone) bit) same.zones ∙ is

one_set : (v : View) (s : Step) → IsTrue (is_search s) → FoundAlone v s → IsAlone v → (o : Occ) (bit : ℕ) → IsSet v o bit → IsSet (after v s) o bit
one_set v (Occupy (Run place) bits true) is found_so alone (Run other) bit before = set_still v.run_words (place / 4096) (other / 4096) bits bit before
one_set v (Occupy (Run place) bits true) is found_so alone (Zone zone) bit before = before
one_set v (Occupy (Zone at) bits true) is found_so alone (Run other) bit before = before
one_set v (Occupy (Zone at) bits true) is found_so alone (Zone zone) bit before = set_still v.zone_words at zone bits bit before
one_set v (Occupy at bits false) is found_so alone o bit before = same_set v (after v (Occupy at bits false)) o bit (pictures_one v (Occupy at bits false) is found_so alone refl) before
one_set v (Occupied at found) is found_so alone o bit before = same_set v (after v (Occupied at found)) o bit (pictures_one v (Occupied at found) is found_so alone refl) before
one_set v (Load w x) is found_so alone o bit before = before
one_set v (ZoneTry other won) is found_so alone o bit before = before
one_set v (ZoneGive other) is found_so alone o bit before = before
one_set v (Store w x) is found_so alone o bit before = absurd (false≢true is)
one_set v (Or w bits found) is found_so alone o bit before = absurd (false≢true is)
one_set v (And w bits found) is found_so alone o bit before = absurd (false≢true is)
one_set v (Flush line) is found_so alone o bit before = absurd (false≢true is)
one_set v Drain is found_so alone o bit before = absurd (false≢true is)
one_set v (TakeWrite line won) is found_so alone o bit before = absurd (false≢true is)
one_set v (TakeRead line won) is found_so alone o bit before = absurd (false≢true is)
one_set v (Raise line won) is found_so alone o bit before = absurd (false≢true is)
one_set v (Give line) is found_so alone o bit before = absurd (false≢true is)
one_set v (Vacate at bits) is found_so alone o bit before = absurd (false≢true is)
one_set v (Draw n) is found_so alone o bit before = absurd (false≢true is)
one_set v (NumberSeen n) is found_so alone o bit before = absurd (false≢true is)
one_set v (StopSeen set) is found_so alone o bit before = absurd (false≢true is)
one_set v SetStop is found_so alone o bit before = absurd (false≢true is)
one_set v (Tell operation reply) is found_so alone o bit before = absurd (false≢true is)

pub all_set : (v w : View) (steps : List Step) → Searches v steps w → IsAlone v → (o : Occ) (bit : ℕ) → IsSet v o bit → IsSet w o bit
unfolding Searches
all_set v w [] searches alone o bit before = subst (λ z. IsSet z o bit) (sym searches) before
all_set v w (s ∷ steps) searches alone o bit before =
    all_set (after v s) w steps searches.4 (still_alone v (after v s) (kept_one v s searches.0 searches.2) alone) o bit (one_set v s searches.0 searches.3 alone o bit before)

-- what one step reserves it sets
abbrev WasOr : View → View → ℕ → ℕ → Type 0
WasOr v w zone bit = (reserves v (Zone zone) bit ≡ true) ⊎ IsSet w (Zone zone) bit

one_taken : (v : View) (s : Step) → IsTrue (is_search s) → (zone bit : ℕ) → zone < length v.zone_words → reserves (after v s) (Zone zone) bit ≡ true → WasOr v (after v s) zone bit
one_taken v (Occupy at bits true) is zone bit inside has =
    let t : Taken = record { at = at; bits = bits } in
    ⊎_elim
    (λ (before : reserves v (Zone zone) bit ≡ true). inl before)
    (λ (now : (has_bit (Zone zone) bit t || false) ≡ true). inr (⊎_elim
    (λ (it : has_bit (Zone zone) bit t ≡ true).
    let both = and_parts (is_same_occ (Zone zone) at) (eqb (bit_at bits bit) 1) it in
    subst (λ o. IsSet (after v (Occupy o bits true)) (Zone zone) bit) (occ_same (Zone zone) at both.0)
    (set_now v.zone_words zone bits bit inside (eqb-true (bit_at bits bit) 1 both.1)))
    (λ (none : false ≡ true). absurd (false≢true none))
    (or_cases (has_bit (Zone zone) bit t) false now)))
    (or_cases (reserves v (Zone zone) bit) (has_bit (Zone zone) bit t || false) (sym (list_any-append (has_bit (Zone zone) bit) v.reserved (t ∷ [])) ∙ has))
one_taken v (Occupy at bits false) is zone bit inside has = inl has
one_taken v (Occupied at found) is zone bit inside has = inl has
one_taken v (Load w x) is zone bit inside has = inl has
one_taken v (ZoneTry other won) is zone bit inside has = inl has
one_taken v (ZoneGive other) is zone bit inside has = inl has
one_taken v (Store w x) is zone bit inside has = absurd (false≢true is)
one_taken v (Or w bits found) is zone bit inside has = absurd (false≢true is)
one_taken v (And w bits found) is zone bit inside has = absurd (false≢true is)
one_taken v (Flush line) is zone bit inside has = absurd (false≢true is)
one_taken v Drain is zone bit inside has = absurd (false≢true is)
one_taken v (TakeWrite line won) is zone bit inside has = absurd (false≢true is)
one_taken v (TakeRead line won) is zone bit inside has = absurd (false≢true is)
one_taken v (Raise line won) is zone bit inside has = absurd (false≢true is)
one_taken v (Give line) is zone bit inside has = absurd (false≢true is)
one_taken v (Vacate at bits) is zone bit inside has = absurd (false≢true is)
one_taken v (Draw n) is zone bit inside has = absurd (false≢true is)
one_taken v (NumberSeen n) is zone bit inside has = absurd (false≢true is)
one_taken v (StopSeen set) is zone bit inside has = absurd (false≢true is)
one_taken v SetStop is zone bit inside has = absurd (false≢true is)
one_taken v (Tell operation reply) is zone bit inside has = absurd (false≢true is)

pub all_taken : (v w : View) (steps : List Step) → Searches v steps w → IsAlone v → (zone bit : ℕ) → zone < length v.zone_words → reserves w (Zone zone) bit ≡ true → WasOr v w zone bit
unfolding Searches
all_taken v w [] searches alone zone bit inside has = inl (ap (λ (z : View). reserves z (Zone zone) bit) (sym searches) ∙ has)
all_taken v w (s ∷ steps) searches alone zone bit inside has =
    let kept = kept_one v s searches.0 searches.2 in
    let alone_still : IsAlone (after v s) = still_alone v (after v s) kept alone in
    ⊎_elim
    (λ (mid : reserves (after v s) (Zone zone) bit ≡ true). ⊎_elim
    (λ (before : reserves v (Zone zone) bit ≡ true). inl before)
    (λ (now : IsSet (after v s) (Zone zone) bit). inr (all_set (after v s) w steps searches.4 alone_still (Zone zone) bit now))
    (one_taken v s searches.0 zone bit inside mid))
    (λ (end : IsSet w (Zone zone) bit). inr end)
    (all_taken (after v s) w steps searches.4 alone_still zone bit (subst (λ n. zone < n) (sym kept.zone_words) inside) has)

-- ---- what it reserves of a run is of what the words say is a run

abbrev pub IsOfRun : View → ℕ → Type 0
IsOfRun v place = is_run (slice_index v.words (descriptor_word v.lanes (place / 4096))) ≡ true

one_of_run : (v : View) (s : Step) → IsTrue (is_search s) → Allowed v s → (place bit : ℕ) → reserves (after v s) (Run place) bit ≡ true → (reserves v (Run place) bit ≡ true) ⊎ IsOfRun v place
one_of_run v (Occupy at bits true) is may place bit has =
    let t : Taken = record { at = at; bits = bits } in
    ⊎_elim
    (λ (before : reserves v (Run place) bit ≡ true). inl before)
    (λ (now : (has_bit (Run place) bit t || false) ≡ true). inr (⊎_elim
    (λ (it : has_bit (Run place) bit t ≡ true).
    subst (IsSeenRun v) (sym (occ_same (Run place) at (and_parts (is_same_occ (Run place) at) (eqb (bit_at bits bit) 1) it).0)) may.run)
    (λ (none : false ≡ true). absurd (false≢true none))
    (or_cases (has_bit (Run place) bit t) false now)))
    (or_cases (reserves v (Run place) bit) (has_bit (Run place) bit t || false) (sym (list_any-append (has_bit (Run place) bit) v.reserved (t ∷ [])) ∙ has))
one_of_run v (Occupy at bits false) is may place bit has = inl has
one_of_run v (Occupied at found) is may place bit has = inl has
one_of_run v (Load w x) is may place bit has = inl has
one_of_run v (ZoneTry other won) is may place bit has = inl has
one_of_run v (ZoneGive other) is may place bit has = inl has
one_of_run v (Store w x) is may place bit has = absurd (false≢true is)
one_of_run v (Or w bits found) is may place bit has = absurd (false≢true is)
one_of_run v (And w bits found) is may place bit has = absurd (false≢true is)
one_of_run v (Flush line) is may place bit has = absurd (false≢true is)
one_of_run v Drain is may place bit has = absurd (false≢true is)
one_of_run v (TakeWrite line won) is may place bit has = absurd (false≢true is)
one_of_run v (TakeRead line won) is may place bit has = absurd (false≢true is)
one_of_run v (Raise line won) is may place bit has = absurd (false≢true is)
one_of_run v (Give line) is may place bit has = absurd (false≢true is)
one_of_run v (Vacate at bits) is may place bit has = absurd (false≢true is)
one_of_run v (Draw n) is may place bit has = absurd (false≢true is)
one_of_run v (NumberSeen n) is may place bit has = absurd (false≢true is)
one_of_run v (StopSeen set) is may place bit has = absurd (false≢true is)
one_of_run v SetStop is may place bit has = absurd (false≢true is)
one_of_run v (Tell operation reply) is may place bit has = absurd (false≢true is)

pub all_of_runs : (v w : View) (steps : List Step) → Searches v steps w → IsAlone v → All (IsThere v) v.locks → (place bit : ℕ) → reserves w (Run place) bit ≡ true → (reserves v (Run place) bit ≡ true) ⊎ IsOfRun v place
unfolding Searches
all_of_runs v w [] searches alone there place bit has = inl (ap (λ (z : View). reserves z (Run place) bit) (sym searches) ∙ has)
all_of_runs v w (s ∷ steps) searches alone there place bit has =
    let kept = kept_one v s searches.0 searches.2 in
    let left : IsLeft v (after v s) = left_one v s searches.0 searches.3 alone there in
    let lanes : (after v s).lanes ≡ v.lanes = ap (λ (z : View). z.lanes) kept.same in
    ⊎_elim
    (λ (mid : reserves (after v s) (Run place) bit ≡ true). one_of_run v s searches.0 searches.1 place bit mid)
    (λ (run : IsOfRun (after v s) place). inr (sym (λ i. is_run (slice_index (left.words i) (descriptor_word (lanes i) (place / 4096)))) ∙ run))
    (all_of_runs (after v s) w steps searches.4 (still_alone v (after v s) kept alone) left.locked place bit has)
