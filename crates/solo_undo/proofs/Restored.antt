-- Every recorded word may be put back, and what that leaves.
use Rattle.std.proofs.Common.{◌≡◌, inl, ◌≢◌, ℕ, ◌+◌, ◌-◌, ◌*◌, ◌<◌, ◌≤◌, ⊎_elim, true, false, not, List, [], ◌∷◌, ◌++◌, map, length, replicate, set, slice_index, slice_get, is_some, refl, sym, ap, ◌∙◌, subst, arith, length-append, get_or-set_same, get_or-set_other}
use Rattle.std.specs.List.{list_any}
use Rattle.std.proofs.Math.Nat.{eq-or-lt_of_le}
use Rattle.std.proofs.lemmas.Bool.{cases_eq, false≢true}
use Rattle.std.proofs.lemmas.List.{length-map, get_or-drop, get_or-map, get_or_append_left}
use Rattle.std.proofs.lemmas.Option.{same_Some, get_or_from_slice_get, slice_get_within}
use Rattle.pm_image.specs.Logs.{slot_line}
use Rattle.solo_view.specs.declared.change.Change.{Change}
use Rattle.solo_view.specs.Area.{area_word, is_in_area, part_of}
use Rattle.solo_view.specs.Area.Part.{OtherWord}
use Rattle.solo_view.specs.Changes.{is_in_line, store_change}
use Rattle.solo_view.specs.Counts.{HasRoom}
use Rattle.solo_view.specs.Log.{Log, Recorded, log_stored, log_drained}
use Rattle.solo_view.specs.Log.Phase.{Open}
use Rattle.solo_view.specs.Steps.Step.{Store}
use Rattle.solo_view.specs.View.{View}
use Rattle.solo_view.specs.Views.{after, after_all}
use Rattle.solo_world.specs.Lanes.{span_of}
use Rattle.solo_world.specs.Lawful.{MayStore, StoreFits}
use Rattle.solo_world.specs.Records.{IsRecordAt, generation_of, covers, is_recorded, is_drained_slot, slot_word, spelled}
use Rattle.solo_world.specs.Sequences.{by_lane, by_view, counted, in_turn, looks, settles, stores, with_word, Ready}
use Rattle.solo_world.specs.declared.lane.Span.{Span}
use Rattle.solo_world.proofs.Going.{Goes, goes_by_view, goes_counted, goes_then, goes_weaker}
use Rattle.solo_world.proofs.StoreWord.{drained_more}
use Rattle.solo_undo.specs.Sequences.{no_span, puts_back, restores, restores_all, restores_record, restores_word, span_at}
use Rattle.solo_undo.specs.Working.{HasMadeRoom, IsPutBack, IsSameCall, IsSettled, IsUserWord, IsWorking, log_settled}
use Rattle.solo_undo.proofs.Areas.{generation_in_area, in_area, other_part, slot_part}
use Rattle.solo_undo.proofs.Kept.{area_kept, area_unrecorded, covers_own, logged_at, recorded_at, records_kept, stands_at, word_in_range, written_kept}
use Rattle.solo_undo.proofs.Retired.{area_look}
use Rattle.solo_undo.proofs.Settled.{settle_lawful}
use Rattle.solo_undo.proofs.Staying.{looked, same_call, same_call-then, same_changed, same_looked, same_settled}
use Rattle.solo_undo.proofs.Storing.{Is, goes_stores}

-- an open call's log goes on as it is
pub open_settled : (changes : List Change) (v : View) (slot pair : List ℕ) → v.log.phase ≡ Open slot pair → log_settled changes v ≡ v.log
open_settled [] v slot pair e = refl
open_settled (c ∷ changes) v slot pair e = ap (λ p. log_drained p (is_some v.number) v.log) e

-- the old word that a slot has
pub spelled_old : (generation : ℕ) (r : Recorded) (i : ℕ) → i < length r.old → slice_index (spelled generation r) (3 + i) ≡ slice_index r.old i
spelled_old generation r i low =
    sym (get_or-drop 3 (spelled generation r) i 0) ∙ get_or_append_left (r.old ++ replicate (4 - length r.old) 0) _ 0 i (let more = length-append r.old (replicate (4 - length r.old) 0) in omega (arith, low, more)) ∙ get_or_append_left r.old (replicate (4 - length r.old) 0) 0 i low

-- so many records, and of the next one so many words, are put back
record IsPuttingBack (v : View) (slot i : ℕ) (u : View) : Type 0 where
  call : IsSameCall v u
  log : u.log ≡ v.log
  drained : (s : ℕ) → s < length v.log.records → not (list_any (is_in_line (slot_line v.lane s)) u.changes) ≡ true
  others : (w : ℕ) → is_recorded v.log.records w ≡ false → slice_index u.words w ≡ slice_index v.words w
  before : (s : ℕ) (r : Recorded) (j : ℕ) → s < slot → IsRecordAt v s r → j < length r.old → slice_index u.words (r.word + j) ≡ slice_index r.old j
  front : (r : Recorded) (j : ℕ) → IsRecordAt v slot r → j < length r.old → j < i → slice_index u.words (r.word + j) ≡ slice_index r.old j

module _ (v : View) (working : IsWorking v) where
  -- only changes, counts and what is known and seen are others
  quiet : (slot i : ℕ) (u m : View) → IsSameCall u m → m.log ≡ u.log → m.words ≡ u.words → ((s : ℕ) → not (list_any (is_in_line (slot_line v.lane s)) u.changes) ≡ true → not (list_any (is_in_line (slot_line v.lane s)) m.changes) ≡ true)
      → IsPuttingBack v slot i u → IsPuttingBack v slot i m
  quiet slot i u m call log words drained p = record {
    call = same_call-then v u m p.call call;
    log = log ∙ p.log;
    drained = λ s low. drained s (p.drained s low);
    others = λ w e. ap (λ ws. slice_index ws w) words ∙ p.others w e;
    before = λ s r j low there small. ap (λ ws. slice_index ws (r.word + j)) words ∙ p.before s r j low there small;
    front = λ r j there small low. ap (λ ws. slice_index ws (r.word + j)) words ∙ p.front r j there small low;
  }

  settled_quiet : (slot i : ℕ) (u m : View) → IsSettled u m → IsPuttingBack v slot i u → IsPuttingBack v slot i m
  settled_quiet slot i u m e p =
      quiet slot i u m (same_settled u m e)
      (ap (λ (w : View). w.log) e ∙ open_settled u.changes u [] [] (ap (λ (l : Log). l.phase) p.log ∙ working.is_open))
      (ap (λ (w : View). w.words) e) (λ s drained. ap (λ (w : View). not (list_any (is_in_line (slot_line v.lane s)) w.changes)) e) p

  roomy : (slot i : ℕ) (u m : View) → HasMadeRoom u m → IsPuttingBack v slot i u → IsPuttingBack v slot i m
  roomy slot i u m made p =
      ⊎_elim (λ (same : m ≡ u). subst (IsPuttingBack v slot i) (sym same) p) (λ (full : (512 ≤ length u.changes) × IsSettled u m). settled_quiet slot i u m full.1 p) made.1

  generation_kept : (slot i : ℕ) (u : View) → IsPuttingBack v slot i u → generation_of u ≡ generation_of v
  generation_kept slot i u p =
      ap (λ n. slice_index u.words (area_word n)) p.call.lane.lane ∙ p.others (area_word v.lane) (area_unrecorded v working.records (area_word v.lane) (generation_in_area v.lane))

  module _ (slot i : ℕ) (r : Recorded) (there : IsRecordAt v slot r) (low : i < length r.old) where
    abbrev w : ℕ
    w = r.word + i

    abbrev from : ℕ
    from = slot_word v.lane slot + 3 + i

    few : slot < 64
    few = let most = working.records.most in let within = slice_get_within v.log.records slot r there in omega (arith, most, within)

    short : length r.old ≤ 4
    short = working.records.few slot r there

    user : IsUserWord v w
    user = working.records.each slot r w there (covers_own r i low)

    in_slot : is_in_area v.lane from ≡ true
    in_slot = (slot_part v.lane slot (3 + i) from few (omega (arith, low, short)) (omega arith)).1

    -- what the slot says
    found : (u : View) → IsPuttingBack v slot i u → slice_index u.words from ≡ slice_index r.old i
    found u p =
        p.others from (area_unrecorded v working.records from in_slot)
        ∙ (ap (slice_index v.words) (let e : from ≡ 8 * slot_line v.lane slot + (3 + i) = omega arith in e)
        ∙ (sym (word_in_range v.words (8 * slot_line v.lane slot) (3 + i) (omega (arith, low, short)))
        ∙ (ap (λ ws. slice_index ws (3 + i)) (working.records.stored slot r there) ∙ spelled_old (generation_of v) r i low)))

    may : (m : View) (x : ℕ) → HasRoom m.changes → IsPuttingBack v slot i m → MayStore m w x
    may m x room p = record {
      inside = (let inside = user.inside in let size = p.call.lane.size in omega (arith, inside, size));
      room = room;
      fits = subst (λ part. StoreFits m w x m.log.phase part) (sym (ap (λ n. part_of n w) p.call.lane.lane ∙ other_part v.lane w user.outside))
          (subst (λ phase. StoreFits m w x phase OtherWord) (sym (ap (λ (l : Log). l.phase) p.log ∙ working.is_open))
          (inl (record {
            own = written_kept v m p.call w user.own;
            logged = logged_at m 0 slot m.log.records r w (ap (λ (l : Log). slice_get l.records slot) p.log ∙ there) (covers_own r i low)
                (ap (is_drained_slot m) (let e : 0 + slot ≡ slot = omega arith in e) ∙ ap (λ n. not (list_any (is_in_line (slot_line n slot)) m.changes)) p.call.lane.lane ∙ p.drained slot (slice_get_within v.log.records slot r there));
          })));
    }

    -- each word of a record is of that record alone
    apart : (s : ℕ) (q : Recorded) (j : ℕ) → IsRecordAt v s q → j < length q.old → (s ≡ slot → j ≢ i) → q.word + j ≢ w
    apart s q j at small other same =
        let one : s ≡ slot = working.records.once s slot q r w at there (ap (covers q) (sym same) ∙ covers_own q j small) (covers_own r i low) in
        let one_record : q ≡ r = same_Some q r (sym at ∙ ap (slice_get v.log.records) one ∙ there) in
        let place = ap (λ (x : Recorded). x.word) one_record in
        other one (omega (arith, same, place))

    stored : (m : View) (x : ℕ) → IsPuttingBack v slot i m → x ≡ slice_index r.old i → IsPuttingBack v slot (i + 1) (after m (Store w x))
    stored m x p is = record {
      call = same_call-then v m (after m (Store w x)) p.call (same_changed m w x _ _);
      log = ap (λ part. log_stored m.log.phase part x m.log) (ap (λ n. part_of n w) p.call.lane.lane ∙ other_part v.lane w user.outside)
          ∙ ap (λ phase. log_stored phase OtherWord x m.log) (ap (λ (l : Log). l.phase) p.log ∙ working.is_open) ∙ p.log;
      drained = λ s small. drained_more v.lane s m.changes (store_change w (slice_index m.words w) x)
          (λ same. false≢true (sym user.outside ∙ (slot_part v.lane s (w - 8 * slot_line v.lane s) w (let most = working.records.most in omega (arith, small, most)) (omega (arith, same)) (omega (arith, same))).1)) (p.drained s small);
      others = λ u e. get_or-set_other m.words w u x 0 (λ same. false≢true (sym e ∙ ap (is_recorded v.log.records) same ∙ recorded_at v.log.records slot w r there (covers_own r i low))) ∙ p.others u e;
      before = λ s q j lower at small. get_or-set_other m.words w (q.word + j) x 0 (apart s q j at small (λ same. absurd (omega (arith, same, lower)))) ∙ p.before s q j lower at small;
      front = λ q j at small upto. ⊎_elim
          (λ (this : j ≡ i).
          let one_record : q ≡ r = same_Some q r (sym at ∙ there) in
          ap (λ n. slice_index (set m.words w x) n) (let place = ap (λ (y : Recorded). y.word) one_record in let e : q.word + j ≡ w = omega (arith, place, this) in e)
          ∙ (get_or-set_same m.words w x 0 (let inside = user.inside in let size = p.call.lane.size in omega (arith, inside, size)) ∙ (is ∙ (ap (λ (y : Recorded). slice_index y.old i) (sym one_record) ∙ ap (slice_index q.old) (sym this)))))
          (λ (other : j ≢ i). get_or-set_other m.words w (q.word + j) x 0 (apart slot q j at small (λ same. other)) ∙ p.front q j at small (omega (arith, upto, other)))
          (cases_eq j i);
    }

    word_back : Goes (IsPuttingBack v slot i) (restores_word v.lane slot r.word i) (IsPuttingBack v slot (i + 1))
    unfolding restores_word with_word
    word_back = goes_by_view (IsPuttingBack v slot i) (IsPuttingBack v slot (i + 1)) (λ u. in_turn (looks from) (stores w (slice_index u.words from)))
        (λ u p. goes_then (Is u) (Is (looked u from)) (IsPuttingBack v slot (i + 1)) (looks from) (stores w (slice_index u.words from))
        (area_look u (area_kept v u p.call (generation_kept slot i u p) working.area) from (ap (λ n. is_in_area n from) p.call.lane.lane ∙ in_slot)
        (let size = p.call.lane.size in let most = working.area.inside in omega (arith, size, most, few, short, low)))
        (goes_stores (Is (looked u from)) (IsPuttingBack v slot (i + 1)) w (slice_index u.words from)
        (λ u' m is made.
        let before = quiet slot i u (looked u from) (same_looked u from) refl refl (λ s e. e) p in
        let here = roomy slot i (looked u from) m (subst (λ z. HasMadeRoom z m) is made) before in
        (may m (slice_index u.words from) made.0 here, stored m (slice_index u.words from) here (found u p))))
        u refl)

  record_back : (slot : ℕ) (r : Recorded) → IsRecordAt v slot r → Goes (IsPuttingBack v slot 0) (restores_record v.lane slot (span_of r)) (IsPuttingBack v (slot + 1) 0)
  unfolding restores_record
  record_back slot r there =
      goes_weaker (IsPuttingBack v slot 0) (IsPuttingBack v slot 0) (IsPuttingBack v slot (length r.old)) (IsPuttingBack v (slot + 1) 0) (counted (restores_word v.lane slot r.word) (length r.old))
      (λ u p. p)
      (λ u p. record {
        call = p.call;
        log = p.log;
        drained = p.drained;
        others = p.others;
        before = λ s q j low at small. ⊎_elim
            (λ (this : s ≡ slot). let here = ap (slice_get v.log.records) (sym this) ∙ at in p.front q j here small (let one = ap (λ (y : Recorded). length y.old) (same_Some q r (sym here ∙ there)) in omega (arith, small, one)))
            (λ (lower : s < slot). p.before s q j lower at small)
            (eq-or-lt_of_le (let e : s ≤ slot = omega (arith, low) in e));
        front = λ q j at small low. absurd (omega (arith, low));
      })
      (goes_counted (IsPuttingBack v slot) (restores_word v.lane slot r.word) (length r.old) (λ i low. word_back slot i r there low))

  abbrev spans : List Span
  spans = map span_of v.log.records

  all_back : Goes (IsPuttingBack v 0 0) (puts_back spans v.lane) (IsPuttingBack v (length spans) 0)
  unfolding puts_back
  all_back = goes_counted (λ slot. IsPuttingBack v slot 0) (λ slot. restores_record v.lane slot (span_at spans slot)) (length spans)
      (λ slot low.
      let t = stands_at v.log.records slot (let many = length-map v.log.records span_of in omega (arith, low, many)) in
      subst (λ s. Goes (IsPuttingBack v slot 0) (restores_record v.lane slot s) (IsPuttingBack v (slot + 1) 0))
      (sym (get_or-map span_of v.log.records slot t.0 no_span (slice_get_within v.log.records slot t.0 t.1) ∙ ap span_of (get_or_from_slice_get v.log.records slot t.0 t.0 t.1)))
      (record_back slot t.0 t.1))

  begun : IsPuttingBack v 0 0 v
  begun = record {
    call = same_call v;
    log = refl;
    drained = working.drained;
    others = λ w e. refl;
    before = λ s r j low there small. absurd (omega (arith, low));
    front = λ r j there small low. absurd (omega (arith, low));
  }

  put_back : (u w : View) → IsPuttingBack v (length spans) 0 u → IsSettled u w → IsPutBack v w
  put_back u w q e =
      let p = settled_quiet (length spans) 0 u w e q in
      let generation = generation_kept (length spans) 0 w p in
      let none : w.changes ≡ [] = ap (λ (z : View). z.changes) e in
      record {
        call = p.call;
        working = record {
          is_open = ap (λ (l : Log). l.phase) p.log ∙ working.is_open;
          undrawn = p.call.number ∙ working.undrawn;
          area = area_kept v w p.call generation working.area;
          records = records_kept v w p.call working.area working.records (ap (λ (l : Log). l.records) p.log) generation
              (λ z from to. p.others z (area_unrecorded v working.records z (in_area v.lane z (omega (arith, from)) (let most = working.records.most in omega (arith, to, most)))));
          drained = λ slot low. ap (λ cs. not (list_any (is_in_line (slot_line w.lane slot)) cs)) none;
        };
        log = p.log;
        drained = none;
        restored = λ slot r i there low.
            let at = ap (λ (l : Log). slice_get l.records slot) (sym p.log) ∙ there in
            p.before slot r i (let within = slice_get_within v.log.records slot r at in let many = length-map v.log.records span_of in omega (arith, within, many)) at low;
        others = p.others;
      }

  pub restore_lawful : Ready v (restores spans v) × IsPutBack v (after_all v (restores spans v))
  unfolding restores by_lane by_view restores_all
  restore_lawful =
      goes_then (IsPuttingBack v 0 0) (IsPuttingBack v (length spans) 0) (IsPutBack v) (puts_back spans v.lane) settles all_back
      (λ u p. let s = settle_lawful u in (s.0, put_back u (after_all u (settles u)) p s.1)) v begun
