-- Words that stay while operations are told, and what was before the call.
use Rattle.std.proofs.Common.{◌≡◌, ⊎_elim, ℕ, arith, true, false, cond, List, slice_get, slice_index, Some, refl, sym, ◌∙◌, ap, subst}
use Rattle.std.specs.List.{Contains}
use Rattle.std.proofs.lemmas.Bool.{cases_Bool, cond-true, cond-false}
use Rattle.pm_image.specs.Blocks.{blocks}
use Rattle.solo_view.specs.Area.{is_in_area}
use Rattle.solo_view.specs.Log.{Recorded}
use Rattle.solo_view.specs.View.{View, Lock}
use Rattle.solo_world.specs.Records.{is_recorded}
use Rattle.solo_crash.specs.OpenCall.{IsBefore, IsUnderBlock, RecordsUnder, call_words, block_at_line}
use Rattle.solo_crash.specs.Operations.{IsFoundUnder, KeepsFound, KeepsKnown, KeepsLane, KeepsLog, KeepsWords}
use Rattle.solo_crash.proofs.Continued.{two_same, GoesBack}

-- the same locks are of the same lines
pub same_found : (v next : View) → next.locks ≡ v.locks → KeepsFound v next
same_found v next locks l lines held block = record { lock = l; held = subst (λ (ls : List Lock). Contains ls l) (sym locks) held; of_line = refl; block = block }

-- the blocks that were found are there for the view before too
pub found_back : (v next : View) → KeepsLane v next → KeepsFound v next → (w : ℕ → ℕ) → IsBefore next w
    → (l : Lock) (lines : ℕ) → Contains v.locks l → l.block ≡ Some lines → Contains (blocks w v.lanes v.zones) (block_at_line l.line lines)
found_back v next lane finds w before l lines held block =
    let found : IsFoundUnder next l.line lines = finds l lines held block in
    subst (λ (line : ℕ). Contains (blocks w v.lanes v.zones) (block_at_line line lines)) found.of_line
    (two_same (λ (n m : ℕ). Contains (blocks w n m) (block_at_line found.lock.line lines)) next.lanes v.lanes next.zones v.zones lane.lanes lane.zones
    (before.found found.lock lines found.held found.block))

-- a word of a block that was found is of one for the view after
pub under_further : (v next : View) → KeepsFound v next → (i : ℕ) → IsUnderBlock v i → IsUnderBlock next i
under_further v next finds i under =
    let found : IsFoundUnder next under.lock.line under.lines = finds under.lock under.lines under.held under.found in
    let line = found.of_line in
    let from = under.from in
    let to = under.to in
    record { lock = found.lock; lines = under.lines; held = found.held; found = found.block; from = omega arith; to = omega arith }

pub under_kept : (v next : View) → KeepsFound v next → next.log.records ≡ v.log.records → RecordsUnder v → RecordsUnder next
under_kept v next finds logs under i is = under_further v next finds i (under i (sym (ap (λ (records : List Recorded). is_recorded records i) logs) ∙ is))

-- where no word is newly recorded, and those that are known and are not recorded stay
pub known_back : (v next : View) → KeepsLane v next → KeepsFound v next → next.log.records ≡ v.log.records
    → ((i : ℕ) → Contains v.known i → is_in_area v.lane i ≡ false → is_recorded v.log.records i ≡ false → slice_index next.words i ≡ slice_index v.words i)
    → (w : ℕ → ℕ) → IsBefore next w → IsBefore v w
known_back v next lane finds logs stay w before =
    record {
      recorded = λ slot r i at inside. before.recorded slot r i (ap (λ (records : List Recorded). slice_get records slot) logs ∙ at) inside;
      known = λ i known outside none under.
          before.known i (lane.known i known) (ap (λ (n : ℕ). is_in_area n i) lane.lane ∙ outside) (ap (λ (records : List Recorded). is_recorded records i) logs ∙ none) (under_further v next finds i under)
          ∙ stay i known outside none;
      found = found_back v next lane finds w before;
    }

pub before_back : (v next : View) → KeepsLane v next → KeepsFound v next → next.log.records ≡ v.log.records
    → ((i : ℕ) → is_in_area v.lane i ≡ false → is_recorded v.log.records i ≡ false → slice_index next.words i ≡ slice_index v.words i)
    → (w : ℕ → ℕ) → IsBefore next w → IsBefore v w
before_back v next lane finds logs stay = known_back v next lane finds logs (λ i known. stay i)

-- nor is a word of the lane's own area recorded
pub outside_kept : (v next : View) → KeepsLane v next → next.log.records ≡ v.log.records → ((i : ℕ) → is_recorded v.log.records i ≡ true → is_in_area v.lane i ≡ false)
    → (i : ℕ) → is_recorded next.log.records i ≡ true → is_in_area next.lane i ≡ false
outside_kept v next lane logs outside i is =
    ap (λ (n : ℕ). is_in_area n i) lane.lane ∙ outside i (sym (ap (λ (records : List Recorded). is_recorded records i) logs) ∙ is)

pub goes_back : (v next : View) → KeepsLane v next → KeepsFound v next → KeepsLog v next
    → ((i : ℕ) → is_in_area v.lane i ≡ false → is_recorded v.log.records i ≡ false → slice_index next.words i ≡ slice_index v.words i)
    → ((i : ℕ) → is_recorded v.log.records i ≡ true → is_in_area v.lane i ≡ false) → RecordsUnder v → GoesBack v next
goes_back v next lane finds logs stay outside under = record {
  under = under_kept v next finds logs.records under;
  outside = λ i is. outside i (sym (ap (λ (records : List Recorded). is_recorded records i) logs.records) ∙ is);
  before = λ w header pool holds room. before_back v next lane finds logs.records stay w;
  entries = logs.entries;
}

-- so it is where the lane looked at words for the first time
pub known_goes_back : (v next : View) → KeepsLane v next → KeepsFound v next → KeepsLog v next → KeepsKnown v next → ((i : ℕ) → is_recorded v.log.records i ≡ true → is_in_area v.lane i ≡ false) → RecordsUnder v
    → GoesBack v next
known_goes_back v next lane finds logs keeps outside under = record {
  under = under_kept v next finds logs.records under;
  outside = λ i is. outside i (sym (ap (λ (records : List Recorded). is_recorded records i) logs.records) ∙ is);
  before = λ w header pool holds may. known_back v next lane finds logs.records (λ i known out none. keeps.known i out known) w;
  entries = logs.entries;
}

-- the words of the call after, by the records before
pub same_records : (v next : View) (w : ℕ → ℕ) (i : ℕ) → next.log.records ≡ v.log.records → call_words next w i ≡ cond (is_recorded v.log.records i) (slice_index next.words i) (w i)
same_records v next w i logs = ap (λ (records : List Recorded). cond (is_recorded records i) (slice_index next.words i) (w i)) logs

-- where the recorded words and the log stay, the words of the call do
same_call_word : (v next : View) → next.log.records ≡ v.log.records → KeepsKnown v next → ((i : ℕ) → is_recorded v.log.records i ≡ true → is_in_area v.lane i ≡ false)
    → (w : ℕ → ℕ) (i : ℕ) → call_words next w i ≡ call_words v w i
same_call_word v next logs keeps outside w i =
    same_records v next w i logs
    ∙ ⊎_elim
    (λ (is : is_recorded v.log.records i ≡ true).
    cond-true (is_recorded v.log.records i) (slice_index next.words i) (w i) is ∙ keeps.recorded i (outside i is) is
    ∙ sym (cond-true (is_recorded v.log.records i) (slice_index v.words i) (w i) is))
    (λ (is : is_recorded v.log.records i ≡ false).
    cond-false (is_recorded v.log.records i) (slice_index next.words i) (w i) is ∙ sym (cond-false (is_recorded v.log.records i) (slice_index v.words i) (w i) is))
    (cases_Bool (is_recorded v.log.records i))

pub same_known_words : (v next : View) → next.log.records ≡ v.log.records → KeepsKnown v next → ((i : ℕ) → is_recorded v.log.records i ≡ true → is_in_area v.lane i ≡ false)
    → (w : ℕ → ℕ) → call_words next w ≡ call_words v w
same_known_words v next logs keeps outside w = (λ j i. same_call_word v next logs keeps outside w i j)

pub keeps_known : (v next : View) → KeepsWords v next → KeepsKnown v next
keeps_known v next keeps = record { known = λ i outside known. keeps.words i outside; recorded = λ i outside is. keeps.words i outside }

pub same_call_words : (v next : View) → next.log.records ≡ v.log.records → KeepsWords v next → ((i : ℕ) → is_recorded v.log.records i ≡ true → is_in_area v.lane i ≡ false)
    → (w : ℕ → ℕ) → call_words next w ≡ call_words v w
same_call_words v next logs keeps = same_known_words v next logs (keeps_known v next keeps)
