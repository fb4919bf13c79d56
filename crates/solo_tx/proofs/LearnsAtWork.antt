-- A lane at work that looks at words under its locks stays at work, and knows them then.
use Rattle.std.proofs.Common.{◌≡◌, ℕ, zero, suc, ◌+◌, ◌-◌, ◌*◌, ◌/◌, ◌<◌, ◌≤◌, ⊎_elim, All, Contains, List, length, map, Bool, true, false, eqb, refl, sym, ap, ◌∙◌, subst, arith}
use Rattle.std.specs.List.{list_any}
use Rattle.std.proofs.lemmas.Bool.{eqb-true, false≢true, or_cases}
use Rattle.std.proofs.lemmas.List.Folds.{Any-from_list_any}
use Rattle.std.proofs.Math.Nat.{eq-or-lt_of_le}
use Rattle.solo_crash.proofs.RecordedWords.{among_recorded}
use Rattle.solo_crash.proofs.Staying.{goes_on_learning}
use Rattle.solo_model.specs.Bytes.{is_among}
use Rattle.solo_undo.specs.Spans.{words_in}
use Rattle.solo_world.specs.Records.{is_recorded}
use Rattle.solo_lock.specs.Finding.{FindsObject}
use Rattle.solo_tx.proofs.PlannedRecords.{words_same}
use Rattle.solo_crash.specs.Operations.{HasRange, IsHeld, PassesEnd}
use Rattle.pm_objects.specs.declared.ids.Oid.{Oid}
use Rattle.solo_view.specs.Area.{is_in_area}
use Rattle.solo_view.specs.Founds.{FindsKnown}
use Rattle.solo_view.specs.Held.{is_held, is_known, is_under}
use Rattle.solo_view.specs.Log.{Log}
use Rattle.solo_view.specs.Steps.Step.{Load}
use Rattle.solo_view.specs.View.{View, Lock}
use Rattle.solo_view.specs.Views.{after}
use Rattle.solo_undo.proofs.Kept.{is_of}
use Rattle.solo_undo.proofs.Learned.{learns_at_work, opening_learned}
use Rattle.solo_undo.proofs.Lockings.{locked_is_plain}
use Rattle.solo_undo.specs.Spans.{IsSpan}
use Rattle.solo_undo.specs.Working.{HasLearned, IsPlain}
use Rattle.solo_world.specs.Lanes.{span_of}
use Rattle.solo_world.specs.Opening.{Opening}
use Rattle.solo_world.specs.declared.lane.Lane.{Lane}
use Rattle.solo_view.proofs.SameLane.{same_lane, same_lane-then}
use Rattle.solo_tx.proofs.AddsAtWork.{listed_is_known}
use Rattle.solo_tx.proofs.GoingOn.{HasSameFields, KeepsObjects, goes_on, objects_kept}
use Rattle.solo_tx.proofs.NoneMade.{made_none_same}
use Rattle.solo_tx.proofs.Objects.{covered_under, is_found}
use Rattle.solo_tx.specs.AtWork.{IsAtWork}
use Rattle.solo_tx.specs.Learning.{Finds, HasChecked, Learns, Looks}
use Rattle.solo_tx.specs.Ranges.{KnowsRange}
use Rattle.solo_tx.specs.Sequences.{word_count}
use Rattle.solo_tx.proofs.WrittenBytes.{counted_covered, covered_counted}
use Rattle.solo_crash.proofs.PendingOn.{published_same}

-- a word that is known and not of the lane's area is in the list
pub known_is_listed : (v : View) (u : ℕ) → is_in_area v.lane u ≡ false → is_known v u ≡ true → Contains v.known u
known_is_listed v u outside known =
    ⊎_elim (λ (area : is_in_area v.lane u ≡ true). absurd (false≢true (sym outside ∙ area)))
    (λ (there : list_any (λ other. eqb other u) v.known ≡ true).
    let t = Any-from_list_any (λ other. eqb other u) v.known there in
    subst (Contains v.known) (eqb-true t.1 u t.4) (t.0, t.2, t.3))
    (or_cases (is_in_area v.lane u) (list_any (λ other. eqb other u) v.known) known)

-- whatever the memory is seen as
abbrev pub Anywhere : {M : Type 0} → M → View → Type 0
Anywhere m v = Unit {0}

pub forget : {M : Type 0} (o : Opening) (at other : M → View → Type 0) (lane : Lane M) (v : View) → IsAtWork o at lane v → other lane.memory v → IsAtWork o other lane v
forget o at other lane v work there = record {
  seen = record { memory = there; pool = work.seen.pool; shape = work.seen.shape; locks = work.seen.locks; records = work.seen.records; drawn = work.seen.drawn; last = work.seen.last };
  level = work.level;
  works = work.works;
  unharmed = work.unharmed;
  unstopped = work.unstopped;
  spans = work.spans;
  sound = work.sound;
  zones = work.zones;
  opening = work.opening;
  working = work.working;
  no_entries = work.no_entries;
  published = work.published;
  under_way = work.under_way;
  may_come = work.may_come;
  lines = work.lines;
  objects = work.objects;
}

pub same_fields : {M : Type 0} (lane : Lane M) → HasSameFields lane lane
same_fields lane = record { pool = refl; shape = refl; locks = refl; entries = refl; level = refl; stage = refl; error = refl; drawn = refl; last = refl; stopped = refl }

module _ {M : Type 0} (o : Opening) (lane : Lane M) (m : View) (work : IsAtWork o Anywhere lane m) (l : Lock) (held : Contains m.locks l) (word x : ℕ) (under : is_under word l ≡ true) (finds : FindsKnown m word x) where
  plain : IsPlain m word × (word < length m.words) × (is_in_area m.lane word ≡ false) × (is_held m word ≡ true)
  plain = locked_is_plain o work.sound m work.opening l word held (is_found m work.objects l held) under

  learned : HasLearned m word (after m (Load word x))
  learned = learns_at_work m word x plain.0 finds work.working

  size_known : (k : Lock) → Contains m.locks k → is_known m (8 * k.line + 1) ≡ true
  size_known k there = let object : FindsObject m k = work.objects k there in listed_is_known m (8 * k.line + 1) object.known

  pub objects_learned : KeepsObjects m (after m (Load word x))
  objects_learned = objects_kept m (after m (Load word x)) learned.call (λ k there. learned.same (8 * k.line + 1) (size_known k there))

  pub look_in_pool : word < length m.words
  look_in_pool = plain.1

  pub look_learns : Contains (after m (Load word x)).known word
  look_learns = known_is_listed (after m (Load word x)) word (ap (λ n. is_in_area n word) learned.call.lane.lane ∙ plain.2) (learned.learned plain.3)

  pub look_at_work : IsAtWork o Anywhere lane (after m (Load word x))
  look_at_work =
      let call = learned.call in
      goes_on o Anywhere lane lane m (after m (Load word x)) work (same_fields lane) objects_learned tt
      (work.seen.records ∙ ap (λ (l : Log). map span_of l.records) (sym learned.log)) work.spans
      (opening_learned m word x plain.0 o work.opening) learned.working (ap (λ (l : Log). l.entries) learned.log ∙ work.no_entries) (published_same m (after m (Load word x)) call.entries call.call)
      (made_none_same m (after m (Load word x)) call.entries call.call)
      (goes_on_learning m (after m (Load word x)) lane.level _ _ work.under_way
      (record { keeps = record { lanes = call.lane.lanes; zones = call.lane.zones; pool = call.lane.pool; lane = call.lane.lane; entries = call.entries; known = call.remembers }; locks = call.locks; call = call.call })
      (record { records = ap (λ (l : Log). l.records) learned.log; entries = ap (λ (l : Log). l.entries) learned.log })
      (record {
        known = λ i outside there. learned.same i (listed_is_known m i there);
        recorded = λ i outside is. let t = is_of m.log.records i is in learned.same i (work.working.records.each t.slot t.recorded i t.there t.covering).known;
      }))

-- from one view to another with the same objects
pub objects_then : (u v w : View) → KeepsObjects u v → KeepsObjects v w → KeepsObjects u w
objects_then u v w first second = record {
  lane = same_lane-then u v w first.lane second.lane;
  locks = second.locks ∙ first.locks;
  number = second.number ∙ first.number;
  entries = second.entries ∙ first.entries;
  remembers = λ i there. second.remembers i (first.remembers i there);
  seen = λ s there. second.seen s (first.seen s there);
  sizes = λ l held. second.sizes l (subst (λ locks. Contains locks l) (sym first.locks) held) ∙ first.sizes l held;
}

pub same_objects : (v : View) → KeepsObjects v v
same_objects v = record { lane = same_lane v; locks = refl; number = refl; entries = refl; remembers = λ i there. there; seen = λ s there. there; sizes = λ l held. refl }

-- what loads of so many words under a lock leave
pub record HasLearnedWords {M : Type 0} (o : Opening) (lane : Lane M) (v : View) (first n : ℕ) (w : View) : Type 0 where
  pub works : IsAtWork o Anywhere lane w
  pub objects : KeepsObjects v w
  pub learned : (i : ℕ) → i < n → Contains w.known (first + i)
  pub looks : Looks n v w

pub words_learned : {M : Type 0} (o : Opening) (lane : Lane M) (v : View) (l : Lock) → Contains v.locks l → (first n : ℕ) (w : View) → IsAtWork o Anywhere lane v → ((i : ℕ) → i < n → is_under (first + i) l ≡ true) → Learns first n v w
    → HasLearnedWords o lane v first n w
unfolding Learns Looks
words_learned o lane v l held first zero w work under is = subst (HasLearnedWords o lane v first 0) (sym is) (record { works = work; objects = same_objects v; learned = λ i low. absurd (omega (arith, low)); looks = refl })
words_learned o lane v l held first (suc n) w work under t =
    let m : View = t.0 in
    let before : HasLearnedWords o lane v first n m = words_learned o lane v l held first n m work (λ i low. under i (omega (arith, low))) t.2 in
    let there : Contains m.locks l = subst (λ locks. Contains locks l) (sym before.objects.locks) held in
    let last : is_under (first + n) l ≡ true = under n (omega arith) in
    let more : KeepsObjects m (after m (Load (first + n) t.1)) = objects_learned o lane m before.works l there (first + n) t.1 last t.3.0 in
    subst (HasLearnedWords o lane v first (suc n)) (sym t.4)
    (record {
      works = look_at_work o lane m before.works l there (first + n) t.1 last t.3.0;
      objects = objects_then v m (after m (Load (first + n) t.1)) before.objects more;
      learned = λ i low. ⊎_elim
          (λ (this : i ≡ n). subst (λ j. Contains (after m (Load (first + n) t.1)).known (first + j)) (sym this) (look_learns o lane m before.works l there (first + n) t.1 last t.3.0))
          (λ (front : i < n). more.remembers (first + i) (before.learned i front))
          (eq-or-lt_of_le (let e : i ≤ n = omega (arith, low) in e));
      looks = (m, first + n, t.1, before.looks, look_in_pool o lane m before.works l there (first + n) t.1 last t.3.0, t.3, refl, more.locks);
    })

-- the object stays held
pub held_kept : (v w : View) (id : Oid) (write : Bool) → KeepsObjects v w → IsHeld v id write → IsHeld w id write
held_kept v w id write keeps object = record {
  lock = object.lock;
  lines = object.lines;
  held = subst (λ locks. Contains locks object.lock) (sym keeps.locks) object.held;
  block = object.block;
  allows = object.allows;
  of_pool = object.of_pool ∙ sym keeps.lane.pool;
  place = object.place;
}

-- the range stays one of the object
pub range_kept : (v w : View) (id : Oid) (off len : ℕ) (write : Bool) → KeepsObjects v w → HasRange v id off len write → HasRange w id off len write
unfolding held_kept
range_kept v w id off len write keeps range = record {
  object = held_kept v w id write keeps range.object;
  size_known = keeps.remembers (8 * range.object.lock.line + 1) range.size_known;
  inside = (let same = keeps.sizes range.object.lock range.object.held in let low = range.inside in omega (arith, same, low));
}

pub end_kept : (v w : View) (id : Oid) (off len : ℕ) (write : Bool) → KeepsObjects v w → PassesEnd v id off len write → PassesEnd w id off len write
unfolding held_kept
end_kept v w id off len write keeps passes = record {
  object = held_kept v w id write keeps passes.object;
  size_known = keeps.remembers (8 * passes.object.lock.line + 1) passes.size_known;
  outside = (let same = keeps.sizes passes.object.lock passes.object.held in let high = passes.outside in omega (arith, same, high));
}

-- some loads and then some more
pub looks_then : (n k : ℕ) (u v w : View) → Looks n u v → Looks k v w → (j : ℕ) × Looks j u w
unfolding Looks
looks_then n zero u v w first is = (n, subst (Looks n u) (sym is) first)
looks_then n (suc k) u v w first t = let r = looks_then n k u v t.0 first t.3 in (suc r.0, (t.0, t.1, t.2, r.1, t.4, t.5, t.6, t.7))

pub looks_none : (v : View) → Looks 0 v v
unfolding Looks
looks_none v = refl

pub looks_once : (v : View) (word x : ℕ) → word < length v.words → Finds v word x → (after v (Load word x)).locks ≡ v.locks → Looks 1 v (after v (Load word x))
unfolding Looks
looks_once v word x low finds locks = (v, word, x, refl, low, finds, refl, locks)

-- a lane whose memory is another stands so, where that may be seen as the view
pub moved : {M : Type 0} (o : Opening) (at : M → View → Type 0) (lane next : Lane M) (w : View) → IsAtWork o Anywhere lane w → HasSameFields lane next → next.records ≡ lane.records → at next.memory w → IsAtWork o at next w
moved o at lane next w work fields records seen =
    forget o Anywhere at next w
    (goes_on o Anywhere lane next w w work fields (same_objects w) tt (ap (λ rs. rs.items) records ∙ work.seen.records) (subst (λ rs. All IsSpan rs.items) (sym records) work.spans) work.opening work.working work.no_entries refl (λ none. none) work.under_way) seen

-- a check after a check
pub checked_then : {M : Type 0} (o : Opening) (at : M → View → Type 0) (lane next : Lane M) (v : View) (P Q : View → Type 0) → (first : HasChecked o at lane v P) → HasChecked o at next first.view Q → HasChecked o at next v Q
checked_then o at lane next v P Q first second =
    let all = looks_then first.loads second.loads v first.view second.view first.looks second.looks in
    record { loads = all.0; view = second.view; looks = all.1; works = second.works; holds = second.holds }

-- and what follows from it
pub checked_so : {M : Type 0} (o : Opening) (at : M → View → Type 0) (lane : Lane M) (v : View) (P Q : View → Type 0) → ((w : View) → IsAtWork o at lane w → P w → Q w) → HasChecked o at lane v P → HasChecked o at lane v Q
checked_so o at lane v P Q so first = record { loads = first.loads; view = first.view; looks = first.looks; works = first.works; holds = so first.view first.works first.holds }

-- the lane's records are the view's
pub recorded_so : {M : Type 0} (o : Opening) (at : M → View → Type 0) (lane : Lane M) (w : View) → IsAtWork o at lane w → (i : ℕ) → is_among (words_in lane.records.items) i ≡ is_recorded w.log.records i
recorded_so o at lane w work i =
    ap (λ s. is_among (words_in s) i) work.seen.records ∙ (ap (λ (ws : List ℕ). is_among ws i) (words_same w.log.records) ∙ among_recorded w.log.records i)

-- the words of the range are known
pub range_learned : {M : Type 0} (o : Opening) (at : M → View → Type 0) (lane next : Lane M) (v w : View) (id : Oid) (off len : ℕ) (write : Bool) → IsAtWork o at lane v → HasRange v id off len write
    → Learns ((id.off + off) / 8) (word_count (id.off + off) len) v w → HasSameFields lane next → next.records ≡ lane.records → at next.memory w → HasChecked o at next v (λ w. KnowsRange w id off len write)
range_learned o at lane next v w id off len write work range learns fields records seen =
    let all : HasLearnedWords o lane v ((id.off + off) / 8) (word_count (id.off + off) len) w =
    words_learned o lane v range.object.lock range.object.held ((id.off + off) / 8) (word_count (id.off + off) len) w (forget o at Anywhere lane v work tt)
    (λ i low. covered_under v work.objects id off len write range ((id.off + off) / 8 + i) (counted_covered (id.off + off) len i low)) learns in
    record {
      loads = word_count (id.off + off) len;
      view = w;
      looks = all.looks;
      works = moved o at lane next w all.works fields records seen;
      holds = record {
        range = range_kept v w id off len write all.objects range;
        known = λ i there.
            let t = covered_counted (id.off + off) len i there in
            let from = t.0 in
            subst (Contains w.known) (let e : (id.off + off) / 8 + (i - (id.off + off) / 8) ≡ i = omega (arith, from) in e) (all.learned (i - (id.off + off) / 8) t.1);
      };
    }
