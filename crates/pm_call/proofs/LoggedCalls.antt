-- A CALL WHOSE PUBLISHED WORDS ARE LOGGED, and that told its commit, has its fact.
use Rattle.std.specs.Prelude.{unwrap_or}
use Rattle.std.proofs.Common.{All, ◌≡◌, ◌≢◌, ℕ, zero, suc, ◌+◌, ◌-◌, ◌*◌, ◌/◌, ◌%◌, ◌^◌, ◌<◌, ◌≤◌, inl, inr, ⊎_elim, nat_le, nat_lt, Bool, true, false, cond, ◌==◌, ◌&&◌, ◌||◌, Contains, List, [], ◌∷◌, map, length, slice_index_or, refl, sym, ap, ◌∙◌, subst, arith, Option, None, Some}
use Rattle.std.specs.List.{AllByRecursion, range_with_len}
use Rattle.std.specs.Int.{bit_at}
use Rattle.std.specs.Option.{option_map}
use Rattle.std.proofs.lemmas.Bool.{and_parts, both_ways, cond-false, false_from_ne_true, leb-true, ltb-true}
use Rattle.pm_layout.specs.declared.shape.Shape.{Shape}
use Rattle.pm_words.specs.Words.{AreBytes}
use Rattle.pm_model.specs.Items.{number_bytes}
use Rattle.pm_model.specs.Pending.{SetWord}
use Rattle.pm_objects.specs.declared.calls.Operation.TheVariants.{Commit}
use Rattle.pm_record.specs.declared.redo.Op.TheVariants as op
use Rattle.pm_record.specs.declared.redo.Redo.{Redo}
use Rattle.pm_view.specs.Claims.{class, geometry, header_in, pictured}
use Rattle.pm_view.specs.Entries.{Entry, delta, first_of_two, given_bit, latest, redos, turn}
use Rattle.pm_view.specs.Log.{old_of}
use Rattle.pm_view.specs.Parts.{is_entry_word}
use Rattle.pm_view.specs.Places.{Place, InRun, InHuge, Descr, RootWord, Block, Small, Big, Root, block_of, is_data, same_place, word_of}
use Rattle.pm_view.specs.Steps.Step.{Draw, Tell}
use Rattle.pm_view.specs.View.{View}
use Rattle.pm_view.specs.Views.{after, value_in}
use Rattle.pm_world.specs.InWorld.{block_bytes}
use Rattle.pm_world.specs.LaneFields.{Standing}
use Rattle.pm_world.specs.Lanes.{is_occupancy}
use Rattle.pm_world.specs.Lawful.{KeepsRoot, MayDraw}
use Rattle.pm_world.specs.Logs.{AreWhole}
use Rattle.pm_world.specs.Memory.{bit}
use Rattle.pm_world.specs.Sights.{fresh, is_made, is_pictured, is_recorded, picture}
use Rattle.pm_world.specs.States.{given}
use Rattle.pm_world.proofs.Basics.{given_cases}
use Rattle.pm_world.proofs.BlockLines.{run_fits}
use Rattle.pm_world.proofs.PlacesAt.{same_place_true}
use Rattle.pm_world.proofs.SizesKept.{plain_turn}
use Rattle.pm_crash.specs.Calls.{Fact}
use Rattle.pm_crash.specs.Facts.{HaveFacts}
use Rattle.pm_crash.specs.Footprints.{has_found}
use Rattle.pm_crash.specs.Looked as looked
use Rattle.pm_crash.specs.Looked.{ChangesAt, Enters, IsChanged, KnowsSize, word_place, words_in}
use Rattle.pm_crash.specs.Sim.{Grows, Sim, change_so_far, lists_of}
use Rattle.pm_crash.specs.SimCommits.{CanSet, IsSetIn, SetsWords, Setting, Settles, index_of, is_word_set, set_all, set_one, sets_at}
use Rattle.pm_crash.specs.SimFacts.{IsOver}
use Rattle.pm_crash.specs.Writes.{written_word}
use Rattle.pm_crash.proofs.Composing.{growths_compose}
use Rattle.pm_crash.proofs.SimCommits.{sim_commits}
use Rattle.pm_crash.proofs.EntryFacts.{draws_keep_facts, records_no_miss, told_plainly}
use Rattle.pm_crash.proofs.SimFacts.{sims_are_facts, transactions_end, was_recorded}
use Rattle.pm_crash.proofs.SimWrites.{not_descriptor}
use Rattle.pm_crash.proofs.Telling.{tells_grow}
use Rattle.pm_plan.specs.Notes.{Note, noted}
use Rattle.pm_plan.proofs.Notes as notes
use Rattle.pm_redo.specs.Stages.{IsLogged, all_logged}
use Rattle.pm_call.specs.At.{IsAt, MaySet, set_entry}
use Rattle.pm_call.specs.Held.{HasObject, line_of}
use Rattle.pm_call.specs.Ranges.{KnowsWord}
use Rattle.pm_call.proofs.Frames.{noting, noting_grows}
use Rattle.pm_call.proofs.InnerLevels.{commit_unrefused_at, ran_commit}
use Rattle.pm_call.proofs.KnownObjects.{fresh_is, held_object, object_stands, size_known, word_known}
use Rattle.pm_call.proofs.RangeReads.{begun_more}
use Rattle.pm_call.proofs.SetChanges.{IsLocated, IsMember, all_words, are_sets, located, member, no_turn_of, none_at, place_set, redos_are, set_redo, set_redos, setting, settings_of, spot}
use Rattle.pm_call.proofs.SetEntries.{set_at}
use Rattle.pm_call.proofs.SmallWords.{written_small}

-- ---- bytes of a number
mapped_bytes : (f : ℕ → ℕ) (xs : List ℕ) → ((x : ℕ) → f x < 256) → AreBytes (map f xs)
mapped_bytes f [] low i = omega arith
mapped_bytes f (x ∷ xs) low zero = low x
mapped_bytes f (x ∷ xs) low (suc i) = mapped_bytes f xs low i

pub number_small : (value : ℕ) → AreBytes (number_bytes value)
number_small value = mapped_bytes (λ j. value / 256 ^ j % 256) (range_with_len 0 8) (λ j. let d : ℕ = value / 256 ^ j in omega arith)

cond_small : (b : Bool) (x y : ℕ) → x < 2 ^ 64 → y < 2 ^ 64 → cond b x y < 2 ^ 64
cond_small true x y hx hy = hx
cond_small false x y hx hy = hy

-- words of the pool are no words of entries
pub not_entry : (sh : Shape) (lane : ℕ) (p : Place) → lane < sh.lanes → sh.lanes ≤ 32 → is_pictured p ≡ true → is_entry_word sh lane (word_of sh p) ≡ false
not_entry sh lane p low lanes seen = false_from_ne_true (is_entry_word sh lane (word_of sh p)) (λ e.
    let t = and_parts (nat_le (Rattle.pm_layout.specs.Areas.word_of_entry sh lane 0) (word_of sh p)) (nat_lt (word_of sh p) (Rattle.pm_layout.specs.Areas.word_of_entry sh lane (Rattle.pm_layout.specs.Areas.redo_entries sh))) e in
    far p seen (leb-true (Rattle.pm_layout.specs.Areas.word_of_entry sh lane 0) (word_of sh p) t.0) (ltb-true (word_of sh p) (Rattle.pm_layout.specs.Areas.word_of_entry sh lane (Rattle.pm_layout.specs.Areas.redo_entries sh)) t.1))
  where
    far : (p : Place) → is_pictured p ≡ true → Rattle.pm_layout.specs.Areas.word_of_entry sh lane 0 ≤ word_of sh p → word_of sh p < Rattle.pm_layout.specs.Areas.word_of_entry sh lane (Rattle.pm_layout.specs.Areas.redo_entries sh) → ⊥
    far (InRun c k) seen from to = omega (arith, from, to, low)
    far (InHuge c k) seen from to = omega (arith, from, to, low)
    far (Descr c) seen from to = both_ways false refl seen
    far RootWord seen from to = omega (arith, from, to, low)

module _ (s : Standing) (level : ℕ) (at : IsAt s level) where
  abbrev v : View
  v = s.view

  abbrev sh : Shape
  sh = s.view.fixed.shape

  abbrev sets : List SetWord
  sets = (lists_of s.view).sets

  abbrev pub all : AllByRecursion (MaySet s) (lists_of s.view).sets
  all = at.lists.may_set

  abbrev settings : List Setting
  settings = settings_of s level at (lists_of s.view).sets all

  -- ---- each is of an object whose size is known
  pub size_small : (B : Block) (n : ℕ) → has_found s.view B ≡ true → 64 + n ≤ block_bytes s.view B → n < 2 ^ 64
  size_small (Small c i) n f fits = let r = run_fits (class s.view.claims c) i (at.sound.small c i f).1 in omega (arith, r, fits)
  size_small (Big h) n f fits = let z = at.sound.zone h f in omega (arith, z, fits)
  size_small Root n f fits = absurd (omega (arith, fits))

  pub can_set : (a : SetWord) (may : MaySet s a) → CanSet s.view [] a (set_at s level at a may).block
  can_set a may =
      let b = set_at s level at a may in
      let here = b.at in
      let o : HasObject s.view (line_of a.id.off) = record { block = b.block; found = b.word.found; at = omega (arith, here); inside = b.word.inside } in
      let seen : value_in s.view (8 * header_in s.view.fixed.shape s.view.claims b.block + 1) ≡ Some may.size = ap (value_in s.view) (let e : 8 * header_in s.view.fixed.shape s.view.claims b.block + 1 ≡ a.id.off / 8 - 7 = omega (arith, here) in e) ∙ may.sized in
      let small : may.size < 2 ^ 64 = size_small b.block may.size b.word.found (at.sizes b.block may.size b.word.found b.word.inside seen) in
      let k : KnowsSize s.view [] a.id.off = size_known s.view at.sound a.id.off may.size (held_object s.view s.locks at.held a.id.off true may.locked).0 o may.sized small in record {
        at = here;
        object = object_stands s.view at.sound (line_of a.id.off) o;
        size = may.size;
        sized = k.knows;
        inside = may.inside;
      }

  module _ (known : AllByRecursion (λ (e : Redo). KnowsWord s.view (e.place / 8)) s.entries) where
    known_sets : AllByRecursion (λ (e : Redo). KnowsWord s.view (e.place / 8)) (map set_entry (lists_of s.view).sets)
    known_sets = subst (AllByRecursion (λ (e : Redo). KnowsWord s.view (e.place / 8))) at.lists.sets known

    known_at : (xs : List SetWord) (ms : AllByRecursion (MaySet s) xs) → AllByRecursion (λ (e : Redo). KnowsWord s.view (e.place / 8)) (map set_entry xs) → (k : ℕ) (d : Setting) → k < length (settings_of s level at xs ms)
        → let y = slice_index_or (settings_of s level at xs ms) k d in KnowsWord s.view ((y.set.id.off + y.set.off) / 8)
    known_at [] ms ks k d low = absurd (omega (arith, low))
    known_at (a ∷ xs) ms ks zero d low = ks.0
    known_at (a ∷ xs) ms ks (suc k) d low = known_at xs ms.1 ks.1 k d (omega (arith, low))

    known_in : (y : Setting) → Contains (settings_of s level at (lists_of s.view).sets all) y → KnowsWord s.view ((y.set.id.off + y.set.off) / 8)
    known_in y c = subst (λ (z : Setting). KnowsWord s.view ((z.set.id.off + z.set.off) / 8)) c.2 (known_at (lists_of s.view).sets all known_sets c.0 y c.1)

    abbrev word_of_set : ℕ → ℕ
    word_of_set i = unwrap_or (value_in s.view i) 0

    -- the word of a setting, as it is before
    pub known_word_at : (B : Block) (i : ℕ) → IsSetIn (settings_of s level at (lists_of s.view).sets all) B i → KnowsWord s.view i
    known_word_at B i is =
        let m = member s level at (lists_of s.view).sets all is.setting is.among in
        let l = located s level at (lists_of s.view).sets all B i is in
        subst (KnowsWord s.view) (is_number is m) (known_in is.setting is.among)
      where
        is_number : (is : IsSetIn (settings_of s level at (lists_of s.view).sets all) B i) → IsMember s level at (lists_of s.view).sets all is.setting → (is.setting.set.id.off + is.setting.set.off) / 8 ≡ i
        is_number is m = ap (λ (y : Setting). (y.set.id.off + y.set.off) / 8) m.is ∙ Rattle.pm_call.proofs.SetChanges.set_by s level at m.set m.may i (sym (ap (is_word_set i) m.is) ∙ is.covers)

    pub known_small : (i : ℕ) (k : KnowsWord s.view i) → word_of_set i ≡ k.value
    known_small i k = ap (λ o. unwrap_or o 0) k.known

    pub all_small : (xs : List SetWord) (ms : AllByRecursion (MaySet s) xs) (i x : ℕ) → x < 2 ^ 64 → set_all i (settings_of s level at xs ms) x < 2 ^ 64
    unfolding set_all
    all_small [] ms i x low = low
    all_small (a ∷ xs) ms i x low = all_small xs ms.1 i (set_one i (setting s level at a ms.0) x) (cond_small (is_word_set i (setting s level at a ms.0)) (written_word (a.id.off + a.off) (number_bytes a.value) i x) x (written_small (a.id.off + a.off) (number_bytes a.value) i x (number_small a.value)) low)

    -- ---- THE LOG IS WRITTEN
    module _ (w : View) (is : IsLogged s.view s.entries w) where
      abbrev pub logged : List Entry
      logged = all_logged s.view s.entries

      abbrev ns : List Note
      ns = is.noted.notes

      abbrev pub written : View
      written = noting s.view is.noted.notes [] w.calls (record s.view.log { entries = all_logged s.view s.entries })

      pub written_same : w ≡ written
      written_same = is.same ∙ ap (λ c. record s.view { claims = c; changes = []; calls = w.calls; log = record s.view.log { entries = all_logged s.view s.entries } }) is.noted.are

      abbrev pub told : View
      told = after written (Tell Commit None)

      redos_logged : redos (all_logged s.view s.entries) ≡ set_redos s level at (lists_of s.view).sets all
      redos_logged = ap (λ (es : List Redo). redos (all_logged s.view es)) at.lists.sets ∙ redos_are s level at s.view.fixed.lane s.view.log.generation (lists_of s.view).sets all

      pub no_turn_logged : (B : Block) → turn (latest (redos (all_logged s.view s.entries))) B ≡ None
      no_turn_logged B = ap (λ rs. turn (latest rs) B) redos_logged ∙ no_turn_of s level at (lists_of s.view).sets all B

      seen_same : (y : ℕ) → is_entry_word s.view.fixed.shape s.view.fixed.lane y ≡ false → pictured s.view.fixed.shape (noted ns s.view.claims) y ≡ value_in s.view y
      seen_same y far = sym (ap (λ (z : View). value_in z y) written_same) ∙ (is.known y far).1

      picture_so : (p : Place) (b : ℕ) → picture s.view.fixed.shape (noted ns s.view.claims) p b ≡ picture s.view.fixed.shape s.view.claims p b
      picture_so p b = by (is_pictured p) refl
        where
          by : (c : Bool) → is_pictured p ≡ c → picture s.view.fixed.shape (noted ns s.view.claims) p b ≡ picture s.view.fixed.shape s.view.claims p b
          by true e = ap (λ x. cond (is_pictured p) (option_map (λ n. bit_at n b == 1) x) None) (seen_same (word_of s.view.fixed.shape p) (not_entry s.view.fixed.shape s.view.fixed.lane p at.working.lane at.working.lanes e))
          by false e = cond-false (is_pictured p) _ None e ∙ sym (cond-false (is_pictured p) _ None e)

      pub told_grows : (kept : Bool) → Grows s.view kept told kept
      told_grows kept = growths_compose s.view written told kept kept kept
          (noting_grows s.view is.noted.notes [] w.calls (record s.view.log { entries = all_logged s.view s.entries }) is.noted.each at.working.unmaking kept (λ p e. e)
          (λ p b y _ e. (λ i. first_of_two (option_map (λ x. bit x b) (old_of s.view.log.records p)) (picture_so p b i)) ∙ e))
          (tells_grow written Commit None kept)

      -- ---- what it changes
      abbrev changes : Place → ℕ → Option Bool
      changes q b = change_so_far told (all_logged s.view s.entries) q b

      pub change_is : (q : Place) (b : ℕ) → change_so_far told (all_logged s.view s.entries) q b ≡ first_of_two (latest (set_redos s level at (lists_of s.view).sets all) q b) (change_so_far s.view [] q b)
      change_is q b = (λ i. first_of_two (latest (redos_logged i) q b) (fresh_so i))
        where
          made : is_made (turn (latest (redos (all_logged s.view s.entries))) (block_of (geometry told.fixed.shape told.claims) q b)) ≡ false
          made = ap is_made (no_turn_logged (block_of (geometry told.fixed.shape told.claims) q b))

          fresh_so : fresh s.view.fixed.shape (noted ns s.view.claims) (record s.view.log { entries = all_logged s.view s.entries }) q b ≡ change_so_far s.view [] q b
          fresh_so = (λ i. cond (is_data q && (made i || is_recorded s.view.log.records q)) (picture_so q b i) None) ∙ sym (fresh_is s.view.fixed.shape s.view.claims s.view.log q b)

      abbrev pub set_words : SetsWords s.view [] told (all_logged s.view s.entries) (settings_of s level at (lists_of s.view).sets all)
      set_words = record {
        each = λ y among. let m = member s level at (lists_of s.view).sets all y among in subst (λ (z : Setting). Settles s.view [] z.set z.block) (sym m.is) (can_set m.set m.may);
        are_bytes = λ y among. number_small y.set.value;
        words = word_of_set;
        knows = knows;
        small = λ B i is. all_small (lists_of s.view).sets all i (word_of_set i) (let k = known_word_at B i is in subst (λ n. n < 2 ^ 64) (sym (known_small i k)) k.small);
        puts = puts;
        others = others;
      }
        where
          knows : (B : Block) (i : ℕ) → IsSetIn (settings_of s level at (lists_of s.view).sets all) B i → looked.KnowsWord s.view [] B (index_of s.view B i) (word_of_set i)
          knows B i is =
              let l = located s level at (lists_of s.view).sets all B i is in
              let b = set_at s level at l.set l.may in
              let k = known_word_at B i is in
              subst (λ (C : Block). looked.KnowsWord s.view [] C (index_of s.view B i) (word_of_set i)) (sym l.block)
              (subst (λ n. looked.KnowsWord s.view [] b.block n (word_of_set i)) (sym l.index)
              (subst (λ n. looked.KnowsWord s.view [] b.block (8 + l.set.off / 8) n) (sym (known_small i k))
              (word_known s.view at.sound b.block (8 + l.set.off / 8) k.value b.word (ap (value_in s.view) (b.number ∙ l.number) ∙ k.known) k.small)))

          puts : (B : Block) (i b : ℕ) → IsSetIn (settings_of s level at (lists_of s.view).sets all) B i → b < 64
              → change_so_far told (all_logged s.view s.entries) (word_place s.view B (index_of s.view B i)) b ≡ Some (bit (set_all i (settings_of s level at (lists_of s.view).sets all) (word_of_set i)) b)
          puts B i b is few =
              let l = located s level at (lists_of s.view).sets all B i is in
              let t = set_at s level at l.set l.may in
              let same : word_place s.view B (index_of s.view B i) ≡ place_set s level at l.set l.may = (λ j. word_place s.view (l.block j) (l.index j)) in
              ap (λ q. change_so_far told (all_logged s.view s.entries) q b) same
              ∙ (change_is (place_set s level at l.set l.may) b
              ∙ Rattle.pm_call.proofs.SetChanges.first_alone (latest (set_redos s level at (lists_of s.view).sets all) (place_set s level at l.set l.may) b) (Some (bit (word_of_set i) b)) (change_so_far s.view [] (place_set s level at l.set l.may) b) (Some (bit (set_all i (settings_of s level at (lists_of s.view).sets all) (word_of_set i)) b)) (l.gives b few)
              (all_words s level at (lists_of s.view).sets all (place_set s level at l.set l.may) i b (word_of_set i) (ap (Rattle.pm_world.specs.Lawful.place_in s.view) (sym l.number) ∙ t.use_) (t.number ∙ l.number) few))

          others : (q : Place) (b : ℕ) → ((B : Block) (i : ℕ) → IsSetIn (settings_of s level at (lists_of s.view).sets all) B i → q ≢ word_place s.view B (index_of s.view B i))
              → change_so_far told (all_logged s.view s.entries) q b ≡ change_so_far s.view [] q b
          others q b far = change_is q b ∙ ap (λ o. first_of_two o (change_so_far s.view [] q b)) (none_at s level at (lists_of s.view).sets all q b (λ y among e.
              let m = member s level at (lists_of s.view).sets all y among in
              let t = set_at s level at m.set m.may in
              let here = t.at in let even = m.may.aligned in
              let i : ℕ = (m.set.id.off + m.set.off) / 8 in
              let set_in : IsSetIn (settings_of s level at (lists_of s.view).sets all) t.block ((m.set.id.off + m.set.off) / 8) = record { setting = y; among = among; block = ap (λ (z : Setting). z.block) m.is; covers = ap (is_word_set ((m.set.id.off + m.set.off) / 8)) m.is ∙ Rattle.pm_call.proofs.SetChanges.is_set_by s level at m.set m.may ((m.set.id.off + m.set.off) / 8) refl } in
              let index : index_of s.view t.block ((m.set.id.off + m.set.off) / 8) ≡ 8 + m.set.off / 8 = omega (arith, here, even) in
              far t.block ((m.set.id.off + m.set.off) / 8) set_in (sym e ∙ (ap (spot s level at) m.is ∙ ap (word_place s.view t.block) (sym index)))))

      -- ---- and so the call came to what the model has
      module _ (one_ : level ≡ 1) where
        level_is : (lists_of s.view).level ≡ 1
        level_is = at.lists.level_is ∙ one_

        sim : Sim told (all_logged s.view s.entries)
        sim = sim_commits s.view told [] (all_logged s.view s.entries) None (ran_commit s level at) at.sim
            (record { keeps = record { fixed = refl; entries = refl }; call = refl })
            (inr at.lists.works)
            told_grows
            (record {
              commits = refl;
              replied = refl;
              looks = (commit_unrefused_at s level at).looks;
              unrefused = (commit_unrefused_at s level at).none;
              settings = settings_of s level at (lists_of s.view).sets all;
              are = are_sets s level at (lists_of s.view).sets all ∙ sym (ap (λ l. sets_at l (lists_of s.view).sets) level_is);
              sets = set_words;
            })

        -- ---- what its log changes is of blocks that the lane found
        pub changed_place : (xs : List SetWord) (ms : AllByRecursion (MaySet s) xs) (q : Place) (b : ℕ) → given (latest (set_redos s level at xs ms) q b) ≡ true → (a : SetWord) × (may : MaySet s a) × (place_set s level at a may ≡ q)
        changed_place [] ms q b e = absurd (both_ways false refl e)
        changed_place (a ∷ xs) ms q b e = ⊎_elim
            (λ (y : given (latest (set_redos s level at xs ms.1) q b) ≡ true). changed_place xs ms.1 q b y)
            (λ (y : given (delta (set_redo s level at a ms.0) q b) ≡ true). (a, ms.0, here a ms.0 y))
            (given_cases (latest (set_redos s level at xs ms.1) q b) (delta (set_redo s level at a ms.0) q b) e)
          where
            here : (a : SetWord) (may : MaySet s a) → given (delta (set_redo s level at a may) q b) ≡ true → place_set s level at a may ≡ q
            here a may y = by (same_place (place_set s level at a may) q) refl where
              by : (c : Bool) → same_place (place_set s level at a may) q ≡ c → place_set s level at a may ≡ q
              by true t = same_place_true (place_set s level at a may) q t
              by false t = absurd (both_ways (given (delta (set_redo s level at a may) q b)) (ap given (cond-false (same_place (place_set s level at a may) q) (given_bit op.Set a.value b) None t)) y)

        place_told : (B : Block) (k : ℕ) → word_place told B k ≡ word_place s.view B k
        place_told (Small c i) k = λ j. InRun c (8 * (1 + notes.class_same ns s.view.claims j c * i) + k)
        place_told (Big f) k = refl
        place_told Root k = refl

        words_told : (B : Block) → words_in told B ≡ words_in s.view B
        words_told (Small c i) = λ j. 8 * notes.class_same ns s.view.claims j c
        words_told (Big f) = λ j. 512 * notes.span_same s.view.fixed.shape ns s.view.claims j f
        words_told Root = refl

        is_changed : (B : Block) (k : ℕ) (q : Place) → q ≡ word_place s.view B k → k < words_in s.view B → has_found s.view B ≡ true → is_occupancy s.view.fixed.shape B ≡ true → 8 ≤ k → IsChanged told q
        is_changed B k q e within found inside high = (B, k, e ∙ sym (place_told B k), subst (λ n. k < n) (sym (words_told B)) within, inr (notes.found_same s.view.fixed.shape ns s.view.claims is.noted.each B ∙ found, inside, high))

        changed : (q : Place) (b : ℕ) → given (change_so_far told (all_logged s.view s.entries) q b) ≡ true → IsChanged told q
        changed q b e = ⊎_elim
            (λ (y : given (latest (set_redos s level at (lists_of s.view).sets all) q b) ≡ true).
            let c = changed_place (lists_of s.view).sets all q b y in
            let t = set_at s level at c.0 c.1 in
            is_changed t.block (8 + c.0.off / 8) q (sym c.2) t.word.within t.word.found t.word.inside (omega arith))
            (λ (y : given (change_so_far s.view [] q b) ≡ true).
            let d = at.recorded q (was_recorded s.view q b y) in
            is_changed d.object.block d.index q d.at d.within d.found d.object.object.inside d.data_)
            (given_cases (latest (set_redos s level at (lists_of s.view).sets all) q b) (change_so_far s.view [] q b) (sym (ap given (change_is q b)) ∙ e))

        changes_at : (q : Place) → IsChanged told q → ChangesAt told (change_so_far told (all_logged s.view s.entries)) q
        changes_at (InRun c zero) y = tt
        changes_at (InRun c (suc k)) y = y
        changes_at (InHuge c k) y = y
        changes_at (Descr c) y = absurd (not_descriptor told y.0 c y.1 y.2)
        changes_at RootWord y = absurd (by y.0 y.1 y.2 y.3)
          where
            by : (B : Block) (k : ℕ) → RootWord ≡ word_place told B k → k < words_in told B → ⊥
            by (Small c i) k e low = both_ways false refl (ap is_run_word e)
              where
                is_run_word : Place → Bool
                is_run_word (InRun c w) = true
                is_run_word p = false
            by (Big f) k e low = both_ways false refl (ap is_huge_word e)
              where
                is_huge_word : Place → Bool
                is_huge_word (InHuge c w) = true
                is_huge_word p = false
            by Root k e low = omega (arith, low)

        pub turn_told : (B : Block) → turn (change_so_far told (all_logged s.view s.entries)) B ≡ None
        turn_told B = plain_turn told B ∙ no_turn_logged B

        none_made : {P : Type 0} (B : Block) (y : Bool) → turn (change_so_far told (all_logged s.view s.entries)) B ≡ Some y → P
        none_made B y e = absurd (let z : Some y ≡ None = sym e ∙ turn_told B in cc)

        enters : Enters told (all_logged s.view s.entries)
        enters = record {
          makes = λ B m. none_made B true m;
          frees = λ B m. none_made B false m;
          of_run = λ c i m. none_made (Small c i) true m;
          of_zone = λ f m. none_made (Big f) true m;
          says = λ f b m few. none_made (Big f) true m;
          no_run = λ f c i m t n. none_made (Big f) true m;
          no_other = λ f c m t n. none_made (Big f) true m;
          changes = λ q b e. changes_at q (changed q b e);
        }

        over : IsOver told
        over = record {
          begun = begun_more s.view.call (record { operation = Commit; reply = None }) at.begun;
          over = transactions_end told s.view.call (ran_commit s level at) (record { begun = begun_more s.view.call (record { operation = Commit; reply = None }) at.begun; call = refl; ends = inr (refl, refl, level_is) });
          enters = enters;
          sized = λ B m. none_made B true m;
        }

        -- SO IT HAS ITS FACT
        pub logged_fact : Fact told
        logged_fact = sims_are_facts told sim over

        -- ---- AND IT MAY TAKE ITS NUMBER
        pub logged_may_draw : MayDraw told
        logged_may_draw = record {
          is_open = at.working.is_open;
          whole = at.working.whole;
          first = at.number.none;
          drained = inl refl;
          found = at.number.seen;
          seen = at.number.told;
          below = at.number.below;
          new_blocks = λ B e. absurd (let z : Some true ≡ None = sym e ∙ no_turn_logged B in cc);
          root = subst (λ (y : View). All (KeepsRoot y) y.log.entries) written_same is.root;
          entries = inr (subst (λ (y : View). AreWhole y.fixed.shape y.fixed.lane y.log) written_same is.whole);
        }

        pub logged_facts : (n : ℕ) → HaveFacts (after told (Draw n))
        logged_facts n = draws_keep_facts told n logged_fact (told_plainly s.view.call Commit told.seen) (records_no_miss told s.view.call Commit refl) at.facts
