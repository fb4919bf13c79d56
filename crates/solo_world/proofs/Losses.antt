-- Which calls an image loses: each is of a lane in flight with it, so none that has ended.
use Rattle.std.proofs.Common.{◌≡◌, ◌≢◌, ℕ, zero, suc, ◌+◌, ◌<◌, ◌≤◌, ⊎_elim, Bool, true, not, List, Option, Some, None, unwrap_or, sym, ap, ◌∙◌, subst, arith}
use Rattle.std.specs.List.{list_any, range_with_len}
use Rattle.std.proofs.lemmas.Option.{none-some}
use Rattle.std.proofs.lemmas.Bool.{and_parts, or_cases, eqb-true, false≢true, not_from_false, false_from_ne_true}
use Rattle.solo_view.specs.Log.{Phase, Final}
use Rattle.solo_view.specs.Log.Phase.{Idle, Open, Drawn, Sealing, Applying, Clearing, Retiring}
use Rattle.solo_view.specs.View.{View}
use Rattle.solo_world.specs.Course.{flight_in, is_number}
use Rattle.solo_world.specs.Crash.{loses, is_deciding_in, is_lost}
use Rattle.solo_world.specs.Fits.{PhaseFits, EndFits}
use Rattle.solo_world.specs.History.{Entry, Flies}
use Rattle.solo_world.specs.Laws.{AcknowledgedLaw}
use Rattle.solo_world.specs.Records.{difference_of}
use Rattle.solo_world.proofs.Histories.{one_entry}

some-same : (m n : ℕ) → Some m ≡ Some n → m ≡ n
some-same m n e = ap (λ o. unwrap_or o m) e

-- some lane passes the test
pub some_lane : (p : ℕ → Bool) (from n : ℕ) → list_any p (range_with_len from n) ≡ true → (k : ℕ) × (from ≤ k) × (k < from + n) × (p k ≡ true)
some_lane p from zero e = absurd (false≢true e)
some_lane p from (suc n) e =
    ⊎_elim (λ (here : p from ≡ true). (from, omega arith, omega arith, here))
    (λ (later : list_any p (range_with_len (from + 1) n) ≡ true). let t = some_lane p (from + 1) n later in let low = t.1 in let high = t.2 in (t.0, omega arith, omega arith, t.3))
    (or_cases (p from) (list_any p (range_with_len (from + 1) n)) e)

is_number-some : (number : Option ℕ) (n : ℕ) → is_number number n ≡ true → number ≡ Some n
is_number-some None n e = absurd (false≢true e)
is_number-some (Some m) n e = ap Some (eqb-true m n e)

-- a call that is lost is in flight, and flies
in_flight : (image : List ℕ) (flies : ℕ → List Final → Type 0) (v : View) (n : ℕ) (phase : Phase) → PhaseFits flies v phase → v.number ≡ Some n → not (is_deciding_in image v phase) ≡ true
    → flies n (difference_of v) × (flight_in phase v.number ≡ Some n)
in_flight image flies v n Idle fits number e = absurd (false≢true e)
in_flight image flies v n (Open slot pair) fits number e = absurd (false≢true e)
in_flight image flies v n Drawn fits number e = (subst (λ m. flies m (difference_of v)) (some-same fits.number n (sym fits.drawn ∙ number)) fits.flying, number)
in_flight image flies v n Sealing fits number e = (subst (λ m. flies m (difference_of v)) (some-same fits.number n (sym fits.drawn ∙ number)) fits.flying, number)
in_flight image flies v n (Applying applied) fits number e = absurd (false≢true e)
in_flight image flies v n Clearing fits number e = absurd (false≢true e)
in_flight image flies v n Retiring fits number e = (subst (EndFits flies v) number fits.ends, number)

pub loses-flight : (image : List ℕ) (flies : ℕ → List Final → Type 0) (v : View) (n : ℕ) → PhaseFits flies v v.log.phase → loses image v n ≡ true → flies n (difference_of v) × (flight_in v.log.phase v.number ≡ Some n)
loses-flight image flies v n fits e =
    let t = and_parts (is_number v.number n) (not (is_deciding_in image v v.log.phase)) e in
    in_flight image flies v n v.log.phase fits (is_number-some v.number n t.0) t.1

flight-idle : (phase : Phase) (number : Option ℕ) (n : ℕ) → phase ≡ Idle → flight_in phase number ≡ Some n → ⊥
flight-idle phase number n idle e = none-some n (sym (ap (λ p. flight_in p number) idle) ∙ e)

flight-number : (phase : Phase) (number : Option ℕ) (n : ℕ) → flight_in phase number ≡ Some n → number ≡ Some n
flight-number Idle number n e = absurd (none-some n e)
flight-number (Open slot pair) number n e = absurd (none-some n e)
flight-number Drawn number n e = e
flight-number Sealing number n e = e
flight-number (Applying applied) number n e = absurd (none-some n e)
flight-number Clearing number n e = absurd (none-some n e)
flight-number Retiring number n e = e

pub acknowledged : AcknowledgedLaw
acknowledged o mem views log decided image e world there ended =
    not_from_false (is_lost o views image e.number) (false_from_ne_true (is_lost o views image e.number) (λ lost.
    let t = some_lane (λ k. loses image (views k) e.number) 0 o.lanes lost in
    let k : ℕ = t.0 in
    let inside : k < o.lanes = omega (arith, t.2) in
    let f = loses-flight image (Flies log decided k) (views k) e.number (world.each_lane k inside).phase t.3 in
    let same : f.0.entry ≡ e = one_entry 1 log f.0.entry e world.numbered f.0.there there f.0.has_number in
    let who : k ≡ e.lane = sym f.0.has_lane ∙ ap (λ (x : Entry). x.lane) same in
    let flight : flight_in (views e.lane).log.phase (views e.lane).number ≡ Some e.number = subst (λ j. flight_in (views j).log.phase (views j).number ≡ Some e.number) who f.1 in
    ⊎_elim (λ (idle : (views e.lane).log.phase ≡ Idle). flight-idle (views e.lane).log.phase (views e.lane).number e.number idle flight)
    (λ (other : (views e.lane).number ≢ Some e.number). other (flight-number (views e.lane).log.phase (views e.lane).number e.number flight)) ended))
