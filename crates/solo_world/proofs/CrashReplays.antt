-- What the history without the lost entries makes of a word.
use Rattle.std.proofs.Common.{◌≡◌, ℕ, ◌+◌, ◌<◌, ⊎_elim, Bool, true, false, not, List, slice_index, Some, sym, ap, ◌∙◌, subst, arith}
use Rattle.std.specs.List.{list_any, range_with_len}
use Rattle.std.proofs.lemmas.Bool.{cases_Bool, and_parts, false≢true, not_from_false, not_from_true, false_from_ne_true}
use Rattle.std.proofs.lemmas.Option.{none-some, same_Some}
use Rattle.std.proofs.lemmas.List.Folds.{list_any_at}
use Rattle.std.proofs.lemmas.List.FromFn.{length-range_with_len, get_or-range_with_len}
use Rattle.solo_view.specs.Log.{Phase, Final}
use Rattle.solo_view.specs.Log.Phase.{Idle, Open, Drawn, Sealing, Applying, Clearing, Retiring}
use Rattle.solo_view.specs.View.{View}
use Rattle.solo_world.specs.Course.{flight_in, flight, is_number}
use Rattle.solo_world.specs.Crash.{loses, is_deciding_in, is_lost, is_kept}
use Rattle.solo_world.specs.Fits.{PhaseFits, EndFits}
use Rattle.solo_world.specs.History.{Entry, Flies, is_final, made_final, replayed, settled}
use Rattle.solo_world.specs.Memory.{Memory}
use Rattle.solo_world.specs.Opening.{Opening}
use Rattle.solo_world.specs.Records.{difference_of}
use Rattle.solo_world.specs.World.{Views, World}
use Rattle.solo_world.proofs.Histories.{one_entry}
use Rattle.solo_world.proofs.Losses.{some_lane, loses-flight}
use Rattle.solo_world.proofs.Replays.{replayed-added, replayed-same}

-- a lane passes the test, so some does
pub lane_some : (p : ℕ → Bool) (n k : ℕ) → k < n → p k ≡ true → list_any p (range_with_len 0 n) ≡ true
lane_some p n k inside holds =
    let long = length-range_with_len 0 n in
    let at : 0 + k ≡ k = omega arith in
    list_any_at p (range_with_len 0 n) k 0 (omega arith) (ap p (get_or-range_with_len 0 n k 0 inside ∙ at) ∙ holds)

-- a call in flight flies
pub flies_of : (flies : ℕ → List Final → Type 0) (v : View) (n : ℕ) (phase : Phase) → PhaseFits flies v phase → flight_in phase v.number ≡ Some n → flies n (difference_of v)
flies_of flies v n Idle fits flight = absurd (none-some n flight)
flies_of flies v n (Open slot pair) fits flight = absurd (none-some n flight)
flies_of flies v n Drawn fits flight = subst (λ m. flies m (difference_of v)) (same_Some fits.number n (sym fits.drawn ∙ flight)) fits.flying
flies_of flies v n Sealing fits flight = subst (λ m. flies m (difference_of v)) (same_Some fits.number n (sym fits.drawn ∙ flight)) fits.flying
flies_of flies v n (Applying applied) fits flight = absurd (none-some n flight)
flies_of flies v n Clearing fits flight = absurd (none-some n flight)
flies_of flies v n Retiring fits flight = subst (EndFits flies v) flight fits.ends

module _ (o : Opening) (mem : Memory) (views : Views) (log : List Entry) (decided : ℕ → Bool) (x : World o mem views log decided) (image : List ℕ) where
  -- the lane that loses an entry
  record Loser (n : ℕ) : Type 0 where
    lane : ℕ
    of_lane : lane < o.lanes
    losing : loses image (views lane) n ≡ true
    flies : Flies log decided lane n (difference_of (views lane))

  loser : (n : ℕ) → is_lost o views image n ≡ true → Loser n
  loser n lost =
      let t = some_lane (λ k. loses image (views k) n) 0 o.lanes lost in
      let inside : t.0 < o.lanes = omega (arith, t.2) in
      record { lane = t.0; of_lane = inside; losing = t.3; flies = (loses-flight image (Flies log decided t.0) (views t.0) n (x.each_lane t.0 inside).phase t.3).0 }

  kept_from : (n : ℕ) → (is_lost o views image n ≡ true → ⊥) → is_kept o views image n ≡ true
  kept_from n never = not_from_false (is_lost o views image n) (false_from_ne_true (is_lost o views image n) never)

  -- where each lane whose call in flight is of the word loses it, the word is as it was settled
  pub kept_settled : (w : ℕ) → ((k n : ℕ) → k < o.lanes → is_final (difference_of (views k)) w ≡ true → flight (views k) ≡ Some n → loses image (views k) n ≡ true)
      → replayed (is_kept o views image) log w (slice_index o.words w) ≡ settled o log decided w
  kept_settled w lost =
      replayed-same (is_kept o views image) decided log w (slice_index o.words w)
      (λ e there of. ⊎_elim
      (λ (is_decided : decided e.number ≡ true). kept_from e.number (λ is_lost_. let l = loser e.number is_lost_ in false≢true (sym l.flies.undecided ∙ is_decided)) ∙ sym is_decided)
      (λ (undecided : decided e.number ≡ false).
      let fit = x.each_entry e there in
      let in_flight = fit.in_flight undecided in
      let f = flies_of (Flies log decided e.lane) (views e.lane) e.number (views e.lane).log.phase (x.each_lane e.lane fit.of_lane).phase in_flight in
      let same : f.entry ≡ e = one_entry 1 log f.entry e x.numbered f.there there f.has_number in
      let final : is_final (difference_of (views e.lane)) w ≡ true = ap (λ d. is_final d w) (sym f.has_difference) ∙ (ap (λ (d : Entry). is_final d.difference w) same ∙ of) in
      not_from_true (is_lost o views image e.number) (lane_some (λ k. loses image (views k) e.number) o.lanes e.lane fit.of_lane (lost e.lane e.number fit.of_lane final in_flight)) ∙ sym undecided)
      (cases_Bool (decided e.number)))

  -- where the image has the deciding store of the lane's call, a word of the call is what the call makes of the settled one
  pub kept_new : (k n w : ℕ) → k < o.lanes → is_deciding_in image (views k) (views k).log.phase ≡ true → Flies log decided k n (difference_of (views k)) → is_final (difference_of (views k)) w ≡ true
      → replayed (is_kept o views image) log w (slice_index o.words w) ≡ made_final (difference_of (views k)) w (settled o log decided w)
  kept_new k n w inside deciding f final =
      let kept : is_kept o views image n ≡ true = kept_from n (λ is_lost_.
      let l = loser n is_lost_ in
      let same : l.flies.entry ≡ f.entry = one_entry 1 log l.flies.entry f.entry x.numbered l.flies.there f.there (l.flies.has_number ∙ sym f.has_number) in
      let who : l.lane ≡ k = sym l.flies.has_lane ∙ (ap (λ (e : Entry). e.lane) same ∙ f.has_lane) in
      let losing = subst (λ j. loses image (views j) n ≡ true) who l.losing in
      let t = and_parts (is_number (views k).number n) (not (is_deciding_in image (views k) (views k).log.phase)) losing in
      false≢true (sym (not_from_true (is_deciding_in image (views k) (views k).log.phase) deciding) ∙ t.1)) in
      replayed-added (is_kept o views image) decided 1 log w (slice_index o.words w) f.entry x.numbered f.there
      (ap (is_kept o views image) f.has_number ∙ kept) (ap decided f.has_number ∙ f.undecided)
      (λ d there before of. ⊎_elim
      (λ (is_decided : decided d.number ≡ true). kept_from d.number (λ is_lost_. let l = loser d.number is_lost_ in false≢true (sym l.flies.undecided ∙ is_decided)) ∙ sym is_decided)
      (λ (undecided : decided d.number ≡ false).
      -- an earlier call of the word that is in flight would be the last one of it
      let fit = x.each_entry d there in
      let g = flies_of (Flies log decided d.lane) (views d.lane) d.number (views d.lane).log.phase (x.each_lane d.lane fit.of_lane).phase (fit.in_flight undecided) in
      let same : g.entry ≡ d = one_entry 1 log g.entry d x.numbered g.there there g.has_number in
      let earlier : is_final (difference_of (views d.lane)) w ≡ true = ap (λ fs. is_final fs w) (sym g.has_difference) ∙ (ap (λ (c : Entry). is_final c.difference w) same ∙ of) in
      absurd (false≢true (sym (g.last f.entry w f.there before earlier) ∙ (ap (λ fs. is_final fs w) f.has_difference ∙ final))))
      (cases_Bool (decided d.number)))
      (λ later there after. f.last later w there (subst (λ m. m < later.number) f.has_number after) final)
      ∙ ap (λ fs. made_final fs w (settled o log decided w)) f.has_difference
