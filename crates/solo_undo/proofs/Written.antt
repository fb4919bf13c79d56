-- A recorded word may be written, and a lane at work stays so, also once all is persistent.
use Rattle.std.proofs.Common.{◌≡◌, inl, ℕ, ◌+◌, ◌-◌, ◌*◌, ◌<◌, ◌≤◌, ⊎_elim, true, false, not, [], length, slice_index, refl, sym, ap, ◌∙◌, subst, arith, get_or-set_same, get_or-set_other}
use Rattle.std.specs.List.{list_any}
use Rattle.std.proofs.lemmas.Bool.{false≢true}
use Rattle.std.proofs.lemmas.Option.{slice_get_within}
use Rattle.pm_image.specs.Logs.{slot_line}
use Rattle.solo_view.specs.Area.{area_word, is_in_area, part_of}
use Rattle.solo_view.specs.Area.Part.{OtherWord}
use Rattle.solo_view.specs.Changes.{is_in_line, store_change}
use Rattle.solo_view.specs.Log.{Log, log_stored}
use Rattle.solo_view.specs.Steps.Step.{Store}
use Rattle.solo_view.specs.View.{View}
use Rattle.solo_view.specs.Views.{after, after_all}
use Rattle.solo_world.specs.Lawful.{MayStore, StoreFits}
use Rattle.solo_world.specs.Records.{generation_of, is_drained_slot, is_recorded}
use Rattle.solo_world.specs.Sequences.{stores, Ready}
use Rattle.solo_world.proofs.StoreWord.{drained_more}
use Rattle.solo_undo.specs.Working.{HasMadeRoom, IsSameCall, IsSettled, IsUserWord, IsWorking, IsWrittenWord}
use Rattle.solo_undo.proofs.Areas.{generation_in_area, in_area, other_part, slot_part}
use Rattle.solo_undo.proofs.Kept.{area_kept, is_of, logged_at, records_kept}
use Rattle.solo_undo.proofs.Restored.{open_settled}
use Rattle.solo_undo.proofs.Staying.{same_call, same_call-then, same_changed, same_settled}
use Rattle.solo_undo.proofs.Storing.{Is, goes_stores}

-- a view whose log and words in the lane's area are the same is at work too, where its slots are drained
pub work_goes_on : (v w : View) → IsWorking v → IsSameCall v w → w.log ≡ v.log → ((u : ℕ) → is_in_area v.lane u ≡ true → slice_index w.words u ≡ slice_index v.words u)
    → ((slot : ℕ) → slot < length v.log.records → not (list_any (is_in_line (slot_line v.lane slot)) w.changes) ≡ true) → IsWorking w
work_goes_on v w working call log same drained =
    let generation : generation_of w ≡ generation_of v = ap (λ n. slice_index w.words (area_word n)) call.lane.lane ∙ same (area_word v.lane) (generation_in_area v.lane) in
    record {
      is_open = ap (λ (l : Log). l.phase) log ∙ working.is_open;
      undrawn = call.number ∙ working.undrawn;
      area = area_kept v w call generation working.area;
      records = records_kept v w call working.area working.records (ap (λ (l : Log). l.records) log) generation
          (λ u from to. same u (in_area v.lane u (omega (arith, from)) (let most = working.records.most in omega (arith, to, most))));
      drained = λ slot low. ap (λ n. not (list_any (is_in_line (slot_line n slot)) w.changes)) call.lane.lane ∙ drained slot (let n = ap (λ (l : Log). length l.records) log in omega (arith, low, n));
    }

pub settled_works : (v w : View) → IsWorking v → IsSettled v w → IsWorking w
settled_works v w working e =
    work_goes_on v w working (same_settled v w e) (ap (λ (z : View). z.log) e ∙ open_settled v.changes v [] [] working.is_open) (λ u inside. ap (λ (z : View). slice_index z.words u) e)
    (λ slot low. ap (λ (z : View). not (list_any (is_in_line (slot_line v.lane slot)) z.changes)) e)

module _ (v : View) (working : IsWorking v) (word x : ℕ) (recorded : is_recorded v.log.records word ≡ true) where
  user : IsUserWord v word
  user = let t = is_of v.log.records word recorded in working.records.each t.slot t.recorded word t.there t.covering

  module _ (m : View) (made : HasMadeRoom v m) where
    -- room is all that was made
    abbrev IsRoomy : View → Type 0
    IsRoomy m = IsWorking m × IsSameCall v m × (m.log ≡ v.log) × (m.words ≡ v.words)

    roomy : IsRoomy m
    roomy = ⊎_elim (λ (same : m ≡ v). subst IsRoomy (sym same) (working, same_call v, refl, refl))
        (λ (full : (512 ≤ length v.changes) × IsSettled v m).
        (settled_works v m working full.1, same_settled v m full.1, ap (λ (z : View). z.log) full.1 ∙ open_settled v.changes v [] [] working.is_open, ap (λ (z : View). z.words) full.1)) made.1

    lane : m.lane ≡ v.lane
    lane = roomy.1.lane.lane

    part : part_of m.lane word ≡ OtherWord
    part = ap (λ n. part_of n word) lane ∙ other_part v.lane word user.outside

    at_work : IsWorking m
    at_work = roomy.0

    inside : word < length m.words
    inside = let size = roomy.1.lane.size in let low = user.inside in omega (arith, size, low)

    again : is_recorded m.log.records word ≡ true
    again = ap (λ (l : Log). is_recorded l.records word) roomy.2 ∙ recorded

    may : MayStore m word x
    may =
        let t = is_of m.log.records word again in
        let written = (at_work.records.each t.slot t.recorded word t.there t.covering).own in
        record {
          inside = inside;
          room = made.0;
          fits = subst (λ p. StoreFits m word x m.log.phase p) (sym part)
              (subst (λ phase. StoreFits m word x phase OtherWord) (sym at_work.is_open)
              (inl (record {
                own = written;
                logged = logged_at m 0 t.slot m.log.records t.recorded word t.there t.covering
                    (ap (is_drained_slot m) (let e : 0 + t.slot ≡ t.slot = omega arith in e) ∙ at_work.drained t.slot (slice_get_within m.log.records t.slot t.recorded t.there));
              })));
        }

    written : IsWrittenWord v word x (after m (Store word x))
    written =
        let w : View = after m (Store word x) in
        let call : IsSameCall m w = same_changed m word x _ _ in
        let log : w.log ≡ m.log = ap (λ p. log_stored m.log.phase p x m.log) part ∙ ap (λ phase. log_stored phase OtherWord x m.log) at_work.is_open in
        let outside : is_in_area m.lane word ≡ false = ap (λ n. is_in_area n word) lane ∙ user.outside in
        record {
          call = same_call-then v m w roomy.1 call;
          working = work_goes_on m w at_work call log
              (λ u area. get_or-set_other m.words word u x 0 (λ same. false≢true (sym outside ∙ (ap (is_in_area m.lane) (sym same) ∙ area))))
              (λ slot low. drained_more m.lane slot m.changes (store_change word (slice_index m.words word) x)
              (λ same. false≢true (sym outside ∙ (slot_part m.lane slot (word - 8 * slot_line m.lane slot) word (let most = at_work.records.most in omega (arith, low, most)) (omega (arith, same)) (omega (arith, same))).1)) (at_work.drained slot low));
          log = log ∙ roomy.2;
          there = get_or-set_same m.words word x 0 inside;
          others = λ u other. get_or-set_other m.words word u x 0 other ∙ ap (λ ws. slice_index ws u) roomy.3;
        }

  pub write_lawful : Ready v (stores word x v) × IsWrittenWord v word x (after_all v (stores word x v))
  write_lawful = goes_stores (Is v) (IsWrittenWord v word x) word x
      (λ u m is made. let made_of : HasMadeRoom v m = subst (λ z. HasMadeRoom z m) is made in (may m made_of, written m made_of)) v refl
