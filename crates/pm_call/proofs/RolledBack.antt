-- A lane whose transaction is taken back: it holds what it held, knows its words without their records, and its call has its fact.
use Rattle.pm_crash.proofs.SimFacts.{was_recorded}
use Rattle.pm_crash.proofs.KnownWords.{none_of}
use Rattle.std.proofs.Common.{◌≡◌, ◌≢◌, ℕ, inr, ⊎_elim, Bool, true, false, cond, ◌==◌, List, [], refl, sym, ap, ◌∙◌, arith, Option, None, Some, subst, ◌-◌, ◌/◌, ◌<◌}
use Rattle.std.specs.Int.{bit_at}
use Rattle.std.specs.Option.{option_map}
use Rattle.std.proofs.lemmas.Bool.{both_ways, cases_Bool, cond-false, false_from_ne_true}
use Rattle.pm_layout.specs.declared.shape.Shape.{Shape}
use Rattle.pm_layout.specs.Areas.{word_of_generation}
use Rattle.pm_objects.specs.declared.calls.Operation.{Operation}
use Rattle.pm_objects.specs.declared.history.Value.{Value}
use Rattle.pm_model.specs.Inside.{is_kept_by}
use Rattle.pm_view.specs.Claims.{Claim, making, pictured}
use Rattle.pm_view.specs.Entries.{first_of_two, turn}
use Rattle.pm_view.specs.Log.{Open, Recorded, new_log, old_of}
use Rattle.pm_view.specs.Places.{Place, Big, word_of, Block, Root, Small}
use Rattle.pm_view.specs.Steps.{Step}
use Rattle.pm_view.specs.Steps.Step.{Tell}
use Rattle.pm_view.specs.View.{View}
use Rattle.pm_view.specs.Views.{after, value_in}
use Rattle.pm_world.specs.InWorld.{IsSound}
use Rattle.pm_world.specs.Logs.{AreRestored}
use Rattle.pm_world.specs.Memory.{bit}
use Rattle.pm_world.specs.Sights.{is_pictured, is_recorded, picture}
use Rattle.pm_world.specs.States.{given}
use Rattle.pm_crash.specs.Footprints.{bit_before, has_found}
use Rattle.pm_crash.specs.Looked.{size_seen, IsChanged, word_place, KnowsSize, words_in}
use Rattle.pm_crash.specs.Sim.{Grows, sees_at, change_so_far}
use Rattle.pm_crash.specs.SimOps.{KnowsWithoutRecords, RollsBack, with_records}
use Rattle.pm_crash.proofs.Telling.{tells_grow}
use Rattle.pm_plan.specs.Notes.{AreNotes, Note, noted}
use Rattle.pm_crash.proofs.Composing.{growths_compose}
use Rattle.pm_call.specs.At.{IsDataOf}
use Rattle.pm_call.proofs.Frames.{noting, noting_grows}
use Rattle.pm_call.proofs.Noting.{found_so, place_so, size_so, words_so}
use Rattle.pm_call.proofs.RecordedWords.{one_use, size_pictured, header_apart, size_word}

-- what is recorded has an old value
old_some : (rs : List Recorded) (p : Place) → is_recorded rs p ≡ true → (x : ℕ) × (old_of rs p ≡ Some x)
old_some rs p e = at (old_of rs p) refl where
  at : (o : Option ℕ) → old_of rs p ≡ o → (x : ℕ) × (old_of rs p ≡ Some x)
  at None is = absurd (both_ways false refl (ap given (sym is) ∙ e))
  at (Some x) is = (x, is)

-- a view that tells an operation knows what it knew
grows_told : (v u : View) (op : Operation) (reply : Option Value) (kept : Bool) → Grows v (is_kept_by op kept) u (is_kept_by op kept) → Grows v (is_kept_by op kept) (after u (Tell op reply)) kept
grows_told v u op reply kept g =
    let was : Bool = is_kept_by op kept in
    growths_compose v u (after u (Tell op reply)) was was kept g (tells_grow u op reply kept)

-- where the lane knows the size of an object of which no header word is recorded, it saw the size
pub size_bit : (v : View) (off : ℕ) (k : KnowsSize v [] off) → is_recorded v.log.records (word_place v k.block 1) ≡ false → (b : ℕ) → b < 64
    → (has_found v k.block ≡ true) × (sees_at v (word_place v k.block 1) b ≡ true) × (picture v.fixed.shape v.claims (word_place v k.block 1) b ≡ Some (bit k.size b))
size_bit v off k new b few = ⊎_elim
    (λ (e : change_so_far v [] p b ≡ Some (bit k.size b)). absurd (both_ways (is_recorded v.log.records p) new (was_recorded v p b (ap given e))))
    (λ (e : (change_so_far v [] p b ≡ None) × (has_found v k.block ≡ true) × (given (turn (change_so_far v []) k.block) ≡ false) × (sees_at v p b ≡ true) × (bit_before v p b ≡ Some (bit k.size b))).
    (e.1, e.3, sym (ap (λ o. first_of_two (option_map (λ n. bit n b) o) (picture v.fixed.shape v.claims p b)) (none_of (old_of v.log.records p) new)) ∙ e.4))
    (k.knows.bits b few)
  where
    p : Place
    p = word_place v k.block 1

pub some_words : (v : View) (B : Block) (k : ℕ) → k < words_in v B → 1 < words_in v B
some_words v (Small c i) k low = omega arith
some_words v (Big f) k low = omega arith
some_words v Root k low = absurd (omega (arith, low))

-- no header word of an object is recorded
pub header_new : (v : View) → IsSound v → (records : List Recorded) → ((p : Place) → is_recorded records p ≡ true → IsDataOf v p)
    → (B : Block) → has_found v B ≡ true → is_recorded records (word_place v B 1) ≡ false
header_new v sound records recorded B found = false_from_ne_true (is_recorded records (word_place v B 1))
    (λ e. let q = recorded (word_place v B 1) e in header_apart v sound B q.object.block 1 q.index found q.found (omega arith) q.data_ q.within q.at)

module _ (v : View) (ns : List Note) (calls : List Step) (g : ℕ) (are : AreNotes v.fixed.shape v.claims ns) (unmaking : (c : ℕ) → making v.fixed.shape v.claims c ≡ false) where
  abbrev sh : Shape
  sh = v.fixed.shape

  abbrev t : List Claim
  t = noted ns v.claims

  abbrev pub back : View
  back = noting v ns [] calls (new_log Open g)

  -- ---- what it knows of words
  module _ (sound : IsSound v)
      (recorded : (p : Place) → is_recorded v.log.records p ≡ true → IsDataOf v p)
      (restored : AreRestored (picture sh t) v.log.records)
      (others : (u : ℕ) → ((p : Place) → is_recorded v.log.records p ≡ true → u ≢ word_of sh p) → u ≢ word_of_generation sh v.fixed.lane → pictured sh t u ≡ value_in v u)
      (far : (p : Place) → is_pictured p ≡ true → word_of sh p ≢ word_of_generation sh v.fixed.lane) where
    -- a word that it sees, and did not record, is as it was
    value_stays : (p : Place) (b : ℕ) → sees_at v p b ≡ true → is_pictured p ≡ true → is_recorded v.log.records p ≡ false → pictured sh t (word_of sh p) ≡ value_in v (word_of sh p)
    value_stays p b sees in_picture new = others (word_of sh p) (λ q r e.
        let d = recorded q r in
        let same : p ≡ q = one_use v sound p b d.object.block d.index sees in_picture d.found d.within (e ∙ ap (word_of sh) d.at) ∙ sym d.at in
        both_ways (is_recorded v.log.records p) new (ap (is_recorded v.log.records) same ∙ r)) (far p in_picture)

    picture_stays : (p : Place) (b : ℕ) → sees_at v p b ≡ true → is_recorded v.log.records p ≡ false → picture sh t p b ≡ picture sh v.claims p b
    picture_stays p b sees new = at (is_pictured p) refl where
      at : (c : Bool) → is_pictured p ≡ c → picture sh t p b ≡ picture sh v.claims p b
      at true e = ap (λ x. cond (is_pictured p) (option_map (λ n. bit_at n b == 1) x) None) (value_stays p b sees e new)
      at false e = cond-false (is_pictured p) (option_map (λ n. bit_at n b == 1) (pictured sh t (word_of sh p))) None e ∙ sym (cond-false (is_pictured p) (option_map (λ n. bit_at n b == 1) (pictured sh v.claims (word_of sh p))) None e)

    -- with its records it knows the bits before its call as it did
    knows_before : (p : Place) (b : ℕ) (y : Bool) → sees_at v p b ≡ true → bit_before v p b ≡ Some y → bit_before (with_records v.log.records back) p b ≡ Some y
    knows_before p b y sees e = ⊎_elim
        (λ (r : is_recorded v.log.records p ≡ true).
        let x = old_some v.log.records p r in
        let at : (z : Option Bool) → first_of_two (option_map (λ n. bit n b) (old_of v.log.records p)) z ≡ Some (bit x.0 b) = λ z. ap (λ o. first_of_two (option_map (λ n. bit n b) o) z) x.1 in
        at (picture sh t p b) ∙ (sym (at (picture sh v.claims p b)) ∙ e))
        (λ (n : is_recorded v.log.records p ≡ false).
        ap (λ z. first_of_two (option_map (λ k. bit k b) (old_of v.log.records p)) z) (picture_stays p b sees n) ∙ e)
        (cases_Bool (is_recorded v.log.records p))

    pub grows : (op : Operation) (reply : Option Value) (kept : Bool) → Grows v (is_kept_by op kept) (with_records v.log.records (after back (Tell op reply))) kept
    grows op reply kept = let g_ = grows_told v (with_records v.log.records back) op reply kept
        (noting_grows v ns [] calls (record (new_log Open g) { records = v.log.records }) are unmaking (is_kept_by op kept) (λ p e. e) knows_before) in record {
          found = g_.found;
          roots = g_.roots;
          spans = g_.spans;
          class = g_.class;
          own = g_.own;
          lines = g_.lines;
          sees = g_.sees;
          recorded = g_.recorded;
          knows = g_.knows;
        }

    -- ---- of each recorded word it knows the object's size still
    module _ (p : Place) (r : is_recorded v.log.records p ≡ true) (op : Operation) (reply : Option Value) where
      d : IsDataOf v p
      d = recorded p r

      size_new : is_recorded v.log.records (word_place v d.object.block 1) ≡ false
      size_new = header_new v sound v.log.records recorded d.object.block d.found

      value_new : pictured sh t (word_of sh (word_place v d.object.block 1)) ≡ value_in v (word_of sh (word_place v d.object.block 1))
      value_new = value_stays (word_place v d.object.block 1) 0 (size_bit v d.off d.object size_new 0 (omega arith)).1 (size_pictured v sound d.object.block d.found (some_words v d.object.block d.index d.within)) size_new

      at_size : d.off / 8 - 7 ≡ word_of sh (word_place v d.object.block 1)
      at_size = ap (λ n. n / 8 - 7) (sym d.object.at) ∙ sym (size_word v sound d.object.block (some_words v d.object.block d.index d.within))

      size_back : size_seen back d.off ≡ Some d.object.size
      size_back = ap (pictured sh t) at_size ∙ (value_new ∙ (ap (value_in v) (sym at_size) ∙ d.object.seen))

      abbrev still : KnowsSize back [] d.off
      still = size_so v ns [] calls (new_log Open g) are unmaking sound d.off d.object d.found size_back

      pub without_records : KnowsWithoutRecords (after back (Tell op reply)) v.log.records p
      without_records = record {
        off = d.off;
        object = record {
          block = still.block;
          at = still.at;
          object = record { inside = still.object.inside; stands = still.object.stands; whole = still.object.whole };
          size = still.size;
          knows = record { small = still.knows.small; bits = still.knows.bits };
          seen = still.seen;
        };
        found = found_so v ns [] calls (new_log Open g) are unmaking d.object.block ∙ d.found;
        index = d.index;
        at = d.at ∙ sym (place_so v ns [] calls (new_log Open g) are unmaking d.object.block d.index);
        within = subst (λ n. d.index < n) (sym (words_so v ns [] calls (new_log Open g) are unmaking d.object.block)) d.within;
        alive = d.alive;
        old = λ b y e.
            let x = old_some v.log.records p r in
            restored p x.0 b x.1 ∙ (sym (ap (λ o. first_of_two (option_map (λ n. bit n b) o) (picture sh t p b)) x.1) ∙ e);
      }

    -- SO IT IS ROLLED BACK
    pub rolls_back : (op : Operation) (reply : Option Value) → RollsBack v (after back (Tell op reply)) op
    rolls_back op reply = record {
      grows = λ kept. grows op reply kept;
      put_back = λ p r. without_records p r op reply;
      retired = refl;
    }

    -- what is recorded is of a block that it found
    pub is_changed : (p : Place) → is_recorded v.log.records p ≡ true → IsChanged v p
    is_changed p r = let d = recorded p r in (d.object.block, d.index, d.at, d.within, inr (d.found, d.object.object.inside, d.data_))
