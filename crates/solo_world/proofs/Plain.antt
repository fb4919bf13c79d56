-- Lanes whose log has no entry of the heap: each but one whose log may grow.
use Rattle.std.proofs.Common.{◌≡◌, ℕ, ⊎_elim, true, false, not, IsTrue, All, [], ◌∷◌, get_or, Some, refl, sym, ap, ◌∙◌, subst, arith, ◌+◌, ◌⊎◌, Option}
use Rattle.std.specs.List.{list_any}
use Rattle.std.proofs.lemmas.Bool.{and_from, le-leb, lt-ltb, or_left, or_right}
use Rattle.std.proofs.lemmas.List.Elements.{All-append, All-cons, All-nil, All-weaker}
use Rattle.std.proofs.lemmas.List.Folds.{list_any_none}
use Rattle.std.proofs.lemmas.Option.{slice_get-get_or}
use Rattle.pm_record.specs.declared.redo.Op.TheVariants.{Set}
use Rattle.solo_view.specs.Area.{area_word, is_in_area}
use Rattle.solo_view.specs.Log.{Phase, Final}
use Rattle.solo_view.specs.Log.Phase.{Idle, Open, Drawn, Sealing, Applying, Clearing, Retiring}
use Rattle.solo_view.specs.Rights.{is_written}
use Rattle.solo_view.specs.View.{View}
use Rattle.solo_view.specs.Views.{changes_heap, is_of_heap}
use Rattle.solo_world.specs.Course.{flight_in}
use Rattle.solo_world.specs.Entries.{AreWhole, EntersAlone, IsGrowing, ends_with, is_redoing}
use Rattle.solo_world.specs.Fits.{EntriesFit}
use Rattle.std.proofs.lemmas.Option.{none-some}
use Rattle.std.proofs.lemmas.Bool.{false≢true}

-- the first word of an area is in it
pub own_area : (lane : ℕ) → is_in_area lane (area_word lane) ≡ true
own_area lane = and_from _ _ (le-leb (area_word lane) (area_word lane) (omega arith)) (lt-ltb (area_word lane) (area_word lane + 1024) (omega arith))

-- an entry of a word that the lane wrote under a lock is none of the heap, nor one of its generation
pub written_plain : (v : View) (f : Final) → IsTrue (is_written v f.word) → is_of_heap v f ≡ false
written_plain v f own = ap not (or_right (is_in_area v.lane f.word) (is_written v f.word) own)

pub own_plain : (v : View) (f : Final) → f.word ≡ area_word v.lane → is_of_heap v f ≡ false
own_plain v f here = ap not (or_left (is_in_area v.lane f.word) (is_written v f.word) (ap (is_in_area v.lane) here ∙ own_area v.lane))

-- nor has a log such an entry of which each is of these
pub whole_plain : (v : View) (generation : ℕ) → AreWhole v generation → changes_heap v ≡ false
whole_plain v generation whole = list_any_none (is_of_heap v) v.log.entries
    (subst (All (λ (f : Final). is_of_heap v f ≡ false)) (sym whole.are) (All-append (λ (f : Final). is_of_heap v f ≡ false) whole.front (ends_with v generation ∷ [])
    (All-weaker (λ (f : Final). IsTrue (is_written v f.word)) (λ (f : Final). is_of_heap v f ≡ false) (written_plain v) whole.front whole.owned)
    (All-cons (λ (f : Final). is_of_heap v f ≡ false) (ends_with v generation) [] (own_plain v (ends_with v generation) refl) (All-nil (λ (f : Final). is_of_heap v f ≡ false)))))

pub empty_plain : (v : View) → v.log.entries ≡ [] → changes_heap v ≡ false
empty_plain v none = ap (list_any (is_of_heap v)) none

-- a log that may not grow has none
pub plain_still : (v : View) → EntriesFit v → (IsGrowing v.log.phase → ⊥) → changes_heap v ≡ false
plain_still v fits still = list_any_none (is_of_heap v) v.log.entries (λ i d low.
    let f : Final = get_or v.log.entries i d in
    let stands = fits.each i f (slice_get-get_or v.log.entries i d low) in
    ⊎_elim (λ (own : IsTrue (is_written v f.word)). written_plain v f own)
    (λ (other : ((f.word ≡ area_word v.lane) × (stands.op ≡ Set)) ⊎ EntersAlone v f.word). ⊎_elim (λ (generation : (f.word ≡ area_word v.lane) × (stands.op ≡ Set)). own_plain v f generation.0) (λ (alone : EntersAlone v f.word). absurd (still alone.1)) other)
    stands.may.of)

-- which logs may not grow
pub flying_still : (phase : Phase) (number : ℕ) (drawn : Option ℕ) → flight_in phase drawn ≡ Some number → IsGrowing phase → ⊥
flying_still (Open slot pair) number drawn flies grows = none-some number flies
flying_still Idle number drawn flies grows = grows
flying_still Drawn number drawn flies grows = grows
flying_still Sealing number drawn flies grows = grows
flying_still (Applying applied) number drawn flies grows = grows
flying_still Clearing number drawn flies grows = grows
flying_still Retiring number drawn flies grows = grows

pub redoing_still : (phase : Phase) → is_redoing phase ≡ true → IsGrowing phase → ⊥
redoing_still (Open slot pair) redoing grows = false≢true redoing
redoing_still Idle redoing grows = grows
redoing_still Drawn redoing grows = grows
redoing_still Sealing redoing grows = grows
redoing_still (Applying applied) redoing grows = grows
redoing_still Clearing redoing grows = grows
redoing_still Retiring redoing grows = grows

pub phase_still : (phase other : Phase) → phase ≡ other → (IsGrowing other → ⊥) → IsGrowing phase → ⊥
phase_still phase other is still grows = still (subst IsGrowing is grows)
