-- What a call did may be taken back, and what that leaves of the view.
use Rattle.std.proofs.Common.{◌≡◌, ℕ, ◌+◌, ◌<◌, ⊎_elim, inl, false, true, leb, ltb, eqb, Contains, List, [], ◌∷◌, is_some, map, length, slice_index, Some, slice_get, refl, sym, ap, ◌∙◌, subst, arith}
use Rattle.std.specs.List.{list_any}
use Rattle.std.proofs.lemmas.Bool.{and_from, eqb-true, false≢true, le-leb, lt-ltb, or_cases}
use Rattle.std.proofs.lemmas.List.Folds.{Any-from_list_any}
use Rattle.std.proofs.lemmas.Option.{none-some}
use Rattle.solo_undo.proofs.Areas.{generation_in_area}
use Rattle.solo_undo.proofs.Restored.{restore_lawful}
use Rattle.solo_undo.proofs.Retired.{retire_given_up}
use Rattle.solo_undo.proofs.Settled.{settle_lawful}
use Rattle.solo_undo.proofs.Staying.{same_call-then, same_settled}
use Rattle.solo_undo.specs.Sequences.{restores, retires}
use Rattle.solo_undo.specs.Working.{IsPutBack, IsRetired, IsSettled, IsUserWord, IsWorking, log_settled}
use Rattle.solo_view.proofs.Sequences.{after_all-append}
use Rattle.solo_view.specs.declared.change.Change.{Change}
use Rattle.solo_view.specs.Area.{area_word, is_in_area}
use Rattle.solo_view.specs.Held.{is_known}
use Rattle.solo_view.specs.Log.{Log, Recorded, log_drained, no_log}
use Rattle.solo_view.specs.Log.Phase.{Open}
use Rattle.solo_view.specs.View.{View}
use Rattle.solo_view.specs.Views.{after_all}
use Rattle.solo_world.proofs.Sequencing.{ready_both}
use Rattle.solo_world.specs.Lanes.{span_of}
use Rattle.solo_world.specs.Records.{IsRecordAt, covers}
use Rattle.solo_world.specs.Sequences.{Ready, in_turn, settles}
use Rattle.solo_world.specs.declared.lane.Span.{Span}
use Rattle.solo_tx.specs.Ending.{IsTakenBack}
use Rattle.solo_tx.specs.Sequences.{takes_back, undoes}

-- a word that is known and not of the lane's area is in the list
listed : (v : View) (u : ℕ) → is_in_area v.lane u ≡ false → is_known v u ≡ true → Contains v.known u
listed v u outside known =
    ⊎_elim (λ (area : is_in_area v.lane u ≡ true). absurd (false≢true (sym outside ∙ area)))
    (λ (there : list_any (λ other. eqb other u) v.known ≡ true).
    let t = Any-from_list_any (λ other. eqb other u) v.known there in
    subst (Contains v.known) (eqb-true t.1 u t.4) (t.0, t.2, t.3))
    (or_cases (is_in_area v.lane u) (list_any (λ other. eqb other u) v.known) known)

-- a word outside of an area is not the area's first
not_first : (lane u : ℕ) → is_in_area lane u ≡ false → u ≡ area_word lane → ⊥
not_first lane u outside same = false≢true (sym outside ∙ (ap (is_in_area lane) same ∙ generation_in_area lane))

covered : (r : Recorded) (i : ℕ) → i < length r.old → covers r (r.word + i) ≡ true
covered r i low = and_from (leb r.word (r.word + i)) (ltb (r.word + i) (r.word + length r.old)) (le-leb r.word (r.word + i) (omega arith)) (lt-ltb (r.word + i) (r.word + length r.old) (omega (arith, low)))

module _ (v : View) (working : IsWorking v) where
  user : (slot : ℕ) (r : Recorded) (i : ℕ) → IsRecordAt v slot r → i < length r.old → IsUserWord v (r.word + i)
  user slot r i there low = working.records.each slot r (r.word + i) there (covered r i low)

  remembered : (slot : ℕ) (r : Recorded) (i : ℕ) → IsRecordAt v slot r → i < length r.old → Contains v.known (r.word + i)
  remembered slot r i there low = let word = user slot r i there low in listed v (r.word + i) word.outside word.known

  module _ (m w : View) (back : IsPutBack v m) (gone : IsRetired (Open [] []) m w) where
    kept : (u : ℕ) → is_in_area v.lane u ≡ false → slice_index w.words u ≡ slice_index m.words u
    kept u outside = gone.others u (not_first m.lane u (ap (λ n. is_in_area n u) back.call.lane.lane ∙ outside))

    retired_is_taken_back : IsTakenBack v w
    retired_is_taken_back =
        let call = same_call-then v m w back.call gone.call in
        record {
          call = call;
          log = gone.log;
          drained = gone.drained;
          takes_back = record {
            restored = λ slot r i there low.
                kept (r.word + i) (user slot r i there low).outside
                ∙ back.restored slot r i (subst (λ (log : Log). slice_get log.records slot ≡ Some r) (sym back.log) there) low;
            known = λ slot r i there low. call.remembers (r.word + i) (remembered slot r i there low);
            others = λ i outside unrecorded. kept i outside ∙ back.others i unrecorded;
            records = inl (ap (λ (log : Log). log.records) gone.log);
          };
        }

  undo_lawful : v.log.entries ≡ [] → Ready v (undoes (map span_of v.log.records) v) × IsTakenBack v (after_all v (undoes (map span_of v.log.records) v))
  unfolding undoes in_turn
  undo_lawful unentered =
      let spans : List Span = map span_of v.log.records in
      let back = restore_lawful v working in
      let m : View = after_all v (restores spans v) in
      let gone = retire_given_up m back.1.working back.1.drained (ap (λ (l : Log). l.entries) back.1.log ∙ unentered) back.1.restored in
      (ready_both v (restores spans v) (retires m) back.0 gone.0, subst (IsTakenBack v) (sym (after_all-append v (restores spans v) (retires m))) (retired_is_taken_back m (after_all m (retires m)) back.1 gone.1))

  log_stays : (changes : List Change) → log_settled changes v ≡ v.log
  log_stays [] = refl
  log_stays (c ∷ changes) = ap (λ phase. log_drained phase (is_some v.number) v.log) working.is_open

  module _ (no_records : v.log.records ≡ []) (no_entries : v.log.entries ≡ []) where
    no_log_open : v.log ≡ no_log (Open [] [])
    no_log_open =
        ap (λ phase. record v.log { phase = phase }) working.is_open
        ∙ (ap (λ records. record v.log { phase = Open [] []; records = records }) no_records
        ∙ ap (λ entries. record v.log { phase = Open [] []; records = []; entries = entries }) no_entries)

    none_recorded : (slot : ℕ) (r : Recorded) → IsRecordAt v slot r → ⊥
    none_recorded slot r there = none-some r (subst (λ (records : List Recorded). slice_get records slot ≡ Some r) no_records there)

    settled_is_taken_back : (w : View) → IsSettled v w → IsTakenBack v w
    settled_is_taken_back w is =
        let log : w.log ≡ no_log (Open [] []) = ap (λ (u : View). u.log) is ∙ (log_stays v.changes ∙ no_log_open) in
        record {
          call = same_settled v w is;
          log = log;
          drained = ap (λ (u : View). u.changes) is;
          takes_back = record {
            restored = λ slot r i there low. absurd (none_recorded slot r there);
            known = λ slot r i there low. absurd (none_recorded slot r there);
            others = λ i outside unrecorded. ap (λ (u : View). slice_index u.words i) is;
            records = inl (ap (λ (l : Log). l.records) log);
          };
        }

no_spans : (records : List Recorded) → map span_of records ≡ [] → records ≡ []
no_spans [] none = refl
no_spans (r ∷ records) none = absurd (let many = ap length none in omega (arith, many))

pub take_back_lawful : (v : View) → IsWorking v → v.log.entries ≡ [] → Ready v (takes_back (map span_of v.log.records) v) × IsTakenBack v (after_all v (takes_back (map span_of v.log.records) v))
unfolding takes_back
take_back_lawful v working no_entries = at (map span_of v.log.records) refl where
  at : (spans : List Span) → map span_of v.log.records ≡ spans → Ready v (takes_back spans v) × IsTakenBack v (after_all v (takes_back spans v))
  at [] none = let s = settle_lawful v in (s.0, settled_is_taken_back v working (no_spans v.log.records none) no_entries (after_all v (settles v)) s.1)
  at (s ∷ spans) are = subst (λ spans. Ready v (undoes spans v) × IsTakenBack v (after_all v (undoes spans v))) are (undo_lawful v working no_entries)
