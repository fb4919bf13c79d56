-- While a lane's first generation lasts, and as it ends, its log and its records are of the opening's.
use Rattle.std.proofs.Common.{◌≡◌, inl, inr, ℕ, ◌+◌, ◌-◌, false, List, [], ◌∷◌, length, take, None, refl, sym, ap, ◌∙◌, subst, arith}
use Rattle.std.proofs.lemmas.Bool.{false≢true}
use Rattle.std.proofs.lemmas.Option.{none-some}
use Rattle.solo_crash.specs.Alone.{GrowsFirst, IsUnsealed, raises}
use Rattle.pm_image.specs.Logs.{generation_word}
use Rattle.pm_record.specs.declared.redo.Redo.{Redo}
use Rattle.solo_view.specs.Log.{Final, Log, Phase, Recorded, no_log, phase_drawn}
use Rattle.solo_view.specs.Log.Phase.{Idle, Open, Drawn, Sealing, Applying, Clearing, Retiring}
use Rattle.solo_view.specs.Steps.{Step}
use Rattle.solo_view.specs.View.{View}
use Rattle.solo_view.specs.Views.{after_all}
use Rattle.solo_world.specs.Entries.{is_redoing}
use Rattle.solo_world.specs.Opening.{Opening}
use Rattle.solo_world.specs.Records.{generation_of, records_generation}
use Rattle.solo_world.specs.Sequences.{Ready}
use Rattle.solo_tx.proofs.ReadyGenerations.{applies_none, applies_none_first, looks_generation, raised_when_ready, ready_first_of, unraised_when_ready}
use Rattle.solo_tx.proofs.Unended.{unended_along}
use Rattle.solo_tx.specs.Generations.{AppliesNone, is_ending, IsApplied, IsCommitting, IsGivingUp, IsLogging, IsOfOpening, IsPublishing, IsUnapplied}
use Rattle.solo_tx.specs.Learning.{Looks}

logging_unended : (p : Phase) → IsLogging p → is_ending p ≡ false
logging_unended (Open slot pair) logging = refl
logging_unended p logging = absurd logging

unapplied_unended : (count : ℕ) (p : Phase) → IsUnapplied count p → is_ending p ≡ false
unapplied_unended count Drawn unapplied = refl
unapplied_unended count Sealing unapplied = refl
unapplied_unended count (Applying applied) unapplied = refl
unapplied_unended count p unapplied = absurd unapplied

module _ (o : Opening) (w : View) where
  grows_in : (p : Phase) → generation_of w ≡ generation_word o.words 0 → GrowsFirst o w p
  grows_in Idle first = tt
  grows_in (Open slot pair) first = inl first
  grows_in Drawn first = tt
  grows_in Sealing first = tt
  grows_in (Applying applied) first = tt
  grows_in Clearing first = tt
  grows_in Retiring first = tt

  grows_as : (p : Phase) → w.log.phase ≡ p → GrowsFirst o w p → GrowsFirst o w w.log.phase
  grows_as p is grows = subst (GrowsFirst o w) (sym is) grows

  drawn_generation : (records : List Recorded) (entries : List Final) → records_generation (phase_drawn records entries) w ≡ generation_of w
  drawn_generation [] [] = refl
  drawn_generation [] (e ∷ entries) = refl
  drawn_generation (r ∷ records) entries = refl

  unended_generation : (p : Phase) → IsUnsealed p → is_ending p ≡ false → records_generation p w ≡ generation_of w
  unended_generation Idle flies unended = absurd flies
  unended_generation (Open slot pair) flies unended = absurd flies
  unended_generation Drawn flies unended = refl
  unended_generation Sealing flies unended = absurd flies
  unended_generation (Applying applied) flies unended = absurd flies
  unended_generation Clearing flies unended = absurd flies
  unended_generation Retiring flies unended = absurd (false≢true (sym unended))

  -- while the generation is the opening's, and not ended
  unended_first : is_ending w.log.phase ≡ false → generation_of w ≡ generation_word o.words 0 → IsOfOpening o w
  unended_first unended first = record { grows = grows_in w.log.phase first; in_flight = λ n drawn flies. unended_generation w.log.phase flies unended ∙ first }

  phase_first : (p : Phase) → w.log.phase ≡ p → records_generation p w ≡ generation_of w → generation_of w ≡ generation_word o.words 0 → IsOfOpening o w
  phase_first p is same first = record {
    grows = grows_in w.log.phase first;
    in_flight = λ n drawn flies. ap (λ (q : Phase). records_generation q w) is ∙ (same ∙ first);
  }

  idle_first : w.log.phase ≡ Idle → IsOfOpening o w
  idle_first is = record { grows = grows_as Idle is tt; in_flight = λ n drawn flies. absurd (subst IsUnsealed is flies) }

  retiring_first : w.log.phase ≡ Retiring → generation_of w ≡ generation_word o.words 0 + 1 → IsOfOpening o w
  retiring_first is next = record {
    grows = grows_as Retiring is tt;
    in_flight = λ n drawn flies. ap (λ (q : Phase). records_generation q w) is ∙ (let e : generation_of w - 1 ≡ generation_word o.words 0 = omega (arith, next) in e);
  }

  emptied_first : w.log ≡ no_log (Open [] []) → w.number ≡ None → IsOfOpening o w
  emptied_first is none = record {
    grows = grows_as (Open [] []) (ap (λ (l : Log). l.phase) is) (inr (refl, ap (λ (l : Log). l.records) is));
    in_flight = λ n drawn flies. absurd (none-some n (sym none ∙ drawn));
  }

  -- once the entry of the generation is applied, no more is asked
  applied_first : (all : ℕ) (p : Phase) → w.log.phase ≡ p → IsApplied all p → IsOfOpening o w
  applied_first all Idle is applied = idle_first is
  applied_first all (Applying k) is applied = record { grows = grows_as (Applying k) is tt; in_flight = λ n drawn flies. absurd (subst IsUnsealed is flies) }
  applied_first all Clearing is applied = record { grows = grows_as Clearing is tt; in_flight = λ n drawn flies. absurd (subst IsUnsealed is flies) }
  applied_first all p is applied = absurd applied

  publishing_first : (count r : ℕ) → (r ≡ 0 → generation_of w ≡ generation_word o.words 0) → IsPublishing count r w → IsOfOpening o w
  publishing_first count r first (inl (none, inl (number, logging))) = unended_first (logging_unended w.log.phase logging) (first none)
  publishing_first count r first (inl (none, inr (number, unapplied))) = unended_first (unapplied_unended count w.log.phase unapplied) (first none)
  publishing_first count r first (inr (one, number, applied)) = applied_first (count + 1) w.log.phase refl applied

  module _ (v : View) (r : ℕ) (first : generation_of w ≡ generation_word o.words 0 + r) where
    none_yet : r ≡ 0 → generation_of w ≡ generation_word o.words 0
    none_yet none = omega (arith, first, none)

    once : r ≡ 1 → generation_of w ≡ generation_word o.words 0 + 1
    once one = omega (arith, first, one)

    pub committing_first : IsCommitting v [] r w → IsOfOpening o w
    committing_first (inl (none, inl is)) = phase_first (Open [] []) is refl (none_yet none)
    committing_first (inl (none, inr is)) = phase_first (phase_drawn v.log.records v.log.entries) is (drawn_generation v.log.records v.log.entries) (none_yet none)
    committing_first (inr (one, number, inl is)) = retiring_first is (once one)
    committing_first (inr (one, number, inr is)) = idle_first is

    pub giving_up_first : IsGivingUp v r w → IsOfOpening o w
    giving_up_first (inl (none, inl (is, records))) = phase_first (Open [] []) is refl (none_yet none)
    giving_up_first (inl (none, inr (is, records))) = idle_first is
    giving_up_first (inr (one, inl (is, number))) = retiring_first is (once one)
    giving_up_first (inr (one, inr (inl (is, number)))) = emptied_first is number
    giving_up_first (inr (one, inr (inr is))) = idle_first is

-- in these phases no entry is applied
drawn_still : (records : List Recorded) (entries : List Final) → is_redoing (phase_drawn records entries) ≡ false
drawn_still [] [] = refl
drawn_still [] (e ∷ entries) = refl
drawn_still (r ∷ records) entries = refl

committing_still : (v : View) (r : ℕ) (w : View) → IsCommitting v [] r w → is_redoing w.log.phase ≡ false
committing_still v r w (inl (none, inl is)) = ap is_redoing is
committing_still v r w (inl (none, inr is)) = ap is_redoing is ∙ drawn_still v.log.records v.log.entries
committing_still v r w (inr (one, number, inl is)) = ap is_redoing is
committing_still v r w (inr (one, number, inr is)) = ap is_redoing is

giving_up_still : (v : View) (r : ℕ) (w : View) → IsGivingUp v r w → is_redoing w.log.phase ≡ false
giving_up_still v r w (inl (none, inl (is, records))) = ap is_redoing is
giving_up_still v r w (inl (none, inr (is, records))) = ap is_redoing is
giving_up_still v r w (inr (one, inl (is, number))) = ap is_redoing is
giving_up_still v r w (inr (one, inr (inl (is, number)))) = ap (λ (l : Log). is_redoing l.phase) is
giving_up_still v r w (inr (one, inr (inr is))) = ap is_redoing is

module _ (o : Opening) (v : View) (steps : List Step) (k : ℕ) (lane : v.lane ≡ 0) (ready : Ready v steps) (first : generation_of v ≡ generation_word o.words 0) where
  raised_first : AppliesNone v steps → generation_of (after_all v (take k steps)) ≡ generation_word o.words 0 + raises (take k steps)
  raised_first none = let e = raised_when_ready v (take k steps) lane (ready_first_of k v steps ready) (applies_none_first k v steps none) in omega (arith, e, first)

  -- wherever it stops
  pub publish_first : (count : ℕ) → IsPublishing count (raises (take k steps)) (after_all v (take k steps)) → IsOfOpening o (after_all v (take k steps))
  publish_first count is = publishing_first o (after_all v (take k steps)) count (raises (take k steps))
      (λ none. unraised_when_ready v (take k steps) lane (ready_first_of k v steps ready) none ∙ first) is

  pub commit_first : (entries : List Redo) → ((i : ℕ) → IsCommitting v entries (raises (take i steps)) (after_all v (take i steps))) → IsOfOpening o (after_all v (take k steps))
  commit_first [] is = committing_first o (after_all v (take k steps)) v (raises (take k steps))
      (raised_first (applies_none v steps (λ i. committing_still v (raises (take i steps)) (after_all v (take i steps)) (is i)))) (is k)
  commit_first (e ∷ entries) is = publish_first (length (e ∷ entries)) (is k)

  pub give_up_first : ((i : ℕ) → IsGivingUp v (raises (take i steps)) (after_all v (take i steps))) → IsOfOpening o (after_all v (take k steps))
  give_up_first is = giving_up_first o (after_all v (take k steps)) v (raises (take k steps))
      (raised_first (applies_none v steps (λ i. giving_up_still v (raises (take i steps)) (after_all v (take i steps)) (is i)))) (is k)

  pub unraised_first : is_ending v.log.phase ≡ false → raises (take k steps) ≡ 0 → IsOfOpening o (after_all v (take k steps))
  unraised_first unended none = unended_first o (after_all v (take k steps))
      (unended_along v (take k steps) lane unended (ready_first_of k v steps ready) none)
      (unraised_when_ready v (take k steps) lane (ready_first_of k v steps ready) none ∙ first)

-- looks go on so
pub looks_first : (o : Opening) (n : ℕ) (v w : View) → Looks n v w → is_ending v.log.phase ≡ false → generation_of v ≡ generation_word o.words 0 → IsOfOpening o w
looks_first o n v w looks unended first =
    let same = looks_generation n v w looks in
    unended_first o w (ap (λ (log : Log). is_ending log.phase) same.1 ∙ unended) (same.0 ∙ first)
