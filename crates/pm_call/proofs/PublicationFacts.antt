-- A PUBLISH OUTSIDE A TRANSACTION whose words are logged has its fact: by its log each word is set in
-- its object, and no object comes or goes.
use Rattle.std.proofs.Common.{◌≡◌, ℕ, zero, suc, ⊎_elim, inl, inr, ◌+◌, ◌*◌, ◌-◌, ◌/◌, ◌^◌, ◌<◌, Bool, true, false, Contains, List, [], ◌∷◌, map, refl, sym, ap, ◌∙◌, subst, arith, None, Some}
use Rattle.std.specs.List.{AllByRecursion}
use Rattle.std.proofs.lemmas.Bool.{both_ways}
use Rattle.std.proofs.lemmas.Option.{none-some}
use Rattle.pm_model.specs.Items.{Edit, freed_item, made_item}
use Rattle.pm_model.specs.Pending.{Reservation, SetWord, block_of, item_reserved, wants_pending}
use Rattle.pm_objects.specs.declared.calls.Operation.TheVariants.{Publish}
use Rattle.pm_objects.specs.declared.ids.Oid.{Oid}
use Rattle.pm_record.specs.declared.redo.Redo.{Redo}
use Rattle.pm_view.specs.Claims.{header_in}
use Rattle.pm_view.specs.Entries.{Entry, latest, turn}
use Rattle.pm_view.specs.Parts.{is_entry_word}
use Rattle.pm_view.specs.Places.{Place, InRun, InHuge, Descr, RootWord, Block, Small, Big, Root, word_of}
use Rattle.pm_view.specs.Steps.Step.{Tell}
use Rattle.pm_view.specs.View.{Told, View}
use Rattle.pm_view.specs.Views.{after, value_in}
use Rattle.pm_world.specs.InWorld.{IsSound}
use Rattle.pm_world.specs.LaneFields.{Standing}
use Rattle.pm_world.specs.States.{given}
use Rattle.pm_world.proofs.Basics.{given_cases}
use Rattle.pm_world.proofs.RecordsAtPlaces.{data_pictured}
use Rattle.pm_crash.specs.Calls.{Fact, pending_of}
use Rattle.pm_crash.specs.Looked as looked
use Rattle.pm_crash.specs.Looked.{ChangesAt, Enters, IsChanged, size_seen, word_place, words_in}
use Rattle.pm_crash.specs.Sim.{change_so_far, lists_of}
use Rattle.pm_crash.specs.SimAllocs.{HaveBlocksFor}
use Rattle.pm_crash.specs.SimBlocks.{ChangesObjects, NewOnce, OldOnce}
use Rattle.pm_crash.specs.SimCommits.{CanSet, IsSetIn, SetsWords, Setting, Settles, index_of}
use Rattle.pm_crash.proofs.SimPublish.{enters_none, publications_are_facts}
use Rattle.pm_crash.proofs.SimWrites.{not_descriptor}
use Rattle.pm_crash.proofs.Simulation.{nothing_yet}
use Rattle.pm_lock.specs.Wants.{has_unplaced}
use Rattle.pm_plan.specs.Notes.{AreNotes, Note}
use Rattle.pm_redo.specs.Stages.{IsLogged, all_logged}
use Rattle.pm_call.specs.At.{IsAt, MaySet}
use Rattle.pm_call.specs.Did.{unseen}
use Rattle.pm_call.specs.Held.{HasObject, IsObjectWord}
use Rattle.pm_call.specs.Publications.{PassesTests}
use Rattle.pm_call.specs.Ranges.{KnowsWord}
use Rattle.pm_call.proofs.Frames.{header_so, noting}
use Rattle.pm_call.proofs.KnownObjects.{object_stands, word_known, word_number}
use Rattle.pm_call.proofs.LoggedCalls as calls
use Rattle.pm_call.proofs.LoggedEnds as logs
use Rattle.pm_call.proofs.Noting.{all_map, found_so, object_word_so, place_so, sound_so, sound_told, words_so}
use Rattle.pm_call.proofs.ObjectWords.{object_place}
use Rattle.pm_call.proofs.OverCalls.{size_no_entry}
use Rattle.pm_call.proofs.PublicationTests.{IsSizedWord, tests_pass}
use Rattle.pm_call.proofs.SetChanges.{are_sets, located, member, set_redos, settings_of}
use Rattle.pm_call.proofs.SetEntries.{IsSetAt, set_at}

-- no object comes or goes where nothing is entered
stays : (v : View) → v.log.records ≡ [] → ChangesObjects v [] v [] [] []
unfolding OldOnce NewOnce
stays v none = record {
  enters = enters_none v none;
  goes = λ o c. absurd (none_of c);
  goes_once = tt;
  gone = λ B e. absurd (both_ways false refl e);
  comes = λ n c. absurd (none_of c);
  comes_once = tt;
  was_none = λ B e m. both_ways false refl e;
  apart = λ B C line e m ne h k. both_ways false refl e;
  stay = λ C g c. refl;
  descriptors = λ f b g c. refl;
  words = λ p b d g c. refl;
}
  where
    none_of : {A : Type 0} {x : A} → Contains [] x → ⊥
    none_of (k, low, e) = absurd (omega (arith, low))

-- A PUBLISH THAT MAKES AND FREES NOTHING has its fact, where its entries set its words
pub words_have_facts : (v : View)
    → v.call ≡ record { operation = Publish; reply = None } ∷ [] → v.log.records ≡ []
    → (pending_of v.entries).frees ≡ [] → (pending_of v.entries).reserved ≡ []
    → PassesTests v → (settings : List Setting)
    → map (λ (p : Setting). p.set) settings ≡ (pending_of v.entries).sets
    → SetsWords v [] v v.log.entries settings → Enters v v.log.entries
    → ((B : Block) → turn (change_so_far v v.log.entries) B ≡ None) → Fact v
unfolding HaveBlocksFor
words_have_facts v lone records frees reserved passes settings are sets enters none =
    publications_are_facts v (record { operation = Publish; seen = unseen; reply = None }) (record {
      lone = lone;
      publishes = refl;
      replied = refl;
      records = records;
      value = passes.value;
      looks = passes.looks;
      unrefused = passes.none;
      rooms = subst (λ (rs : List Reservation).
          HaveBlocksFor v true [] (map block_of rs)) (sym reserved) tt;
      entered = [];
      olds = [];
      news = [];
      freed = ap (λ (ids : List Oid). map (λ (id : Oid). freed_item id.off) ids) (sym frees);
      made = ap (λ (rs : List Reservation). map made_of rs) (sym reserved);
      changes = stays v records;
      settings = settings;
      are = are;
      sets = sets;
      enters = enters;
      sized = λ B m. absurd (none-some true (sym (none B) ∙ m));
    })
  where
    made_of : Reservation → Edit
    made_of r = made_item r.off (item_reserved r)

module _ (s : Standing) (here : IsAt s 1)
    (known : AllByRecursion (λ (e : Redo). KnowsWord s.view (e.place / 8)) s.entries)
    (actions published : List Told) (records : s.view.log.records ≡ []) where
  -- the view outside, as the log is written and the publish told
  abbrev before : View
  before = logs.real s 1 here known [] actions published

  abbrev g : View
  g = logs.g s 1 here known [] actions published

  abbrev pub told : View
  told = after (logs.g s 1 here known [] actions published) (Tell Publish None)

  abbrev entries : List Entry
  entries = all_logged s.view s.entries

  abbrev sets : List SetWord
  sets = (lists_of s.view).sets

  abbrev may : AllByRecursion (MaySet s) (lists_of s.view).sets
  may = here.lists.may_set

  abbrev pub settings : List Setting
  settings = settings_of s 1 here (lists_of s.view).sets here.lists.may_set

  -- the log as from the view of the lane at work
  abbrev w : View
  w = logs.w_work s 1 here known [] actions published

  abbrev ns : List Note
  ns = (logs.written_log s 1 here known [] actions published).noted.notes

  each : AreNotes s.view.fixed.shape s.view.claims ns
  each = (logs.written_log s 1 here known [] actions published).noted.each

  abbrev work : IsLogged s.view s.entries (logs.w_work s 1 here known [] actions published)
  work = logs.work_log s 1 here known [] actions published

  abbrev by_commit : SetsWords s.view [] (calls.told s 1 here known w work) entries settings
  by_commit = calls.set_words s 1 here known w work

  -- ---- what the lane knew it knows

  sound : IsSound told
  sound = sound_told g (record { operation = Publish; reply = None } ∷ []) [] told.published
      (sound_so before ns [] g.calls g.log each here.working.unmaking
      (sound_told s.view [] actions published here.sound))

  header_at : (B : Block) → header_in told.fixed.shape told.claims B
      ≡ header_in s.view.fixed.shape s.view.claims B
  header_at B = header_so s.view.fixed.shape ns s.view.claims each here.working.unmaking B

  places : (B : Block) (k : ℕ) → word_place told B k ≡ word_place s.view B k
  places (Small c i) k =
      place_so s.view ns [] g.calls g.log each here.working.unmaking
      (Small c i) k
  places (Big f) k = refl
  places Root k = refl

  word_then : (B : Block) (k : ℕ) → IsObjectWord s.view B k → IsObjectWord told B k
  word_then B k is =
      let o = object_word_so s.view ns [] g.calls g.log each here.working.unmaking B k is in
      record { found = o.found; inside = o.inside; within = within B o.within; kind = o.kind }
    where
      within : (B : Block) → k < words_in (noting s.view ns [] g.calls g.log) B
          → k < words_in told B
      within (Small c i) l = l
      within (Big f) l = l
      within Root l = l

  value_then : (u : ℕ) → is_entry_word s.view.fixed.shape s.view.fixed.lane u ≡ false
      → value_in told u ≡ value_in s.view u
  value_then u far = sym (ap (λ (y : View). value_in y u)
      (logs.same_g s 1 here known [] actions published))
      ∙ ((logs.written_log s 1 here known [] actions published).known u far).1

  -- a word of data of an object is no word of entries
  data_far : (B : Block) (k : ℕ) (is : IsObjectWord s.view B k)
      → is_entry_word s.view.fixed.shape s.view.fixed.lane
      (word_of s.view.fixed.shape (word_place s.view B k)) ≡ false
  data_far B k is = calls.not_entry s.view.fixed.shape s.view.fixed.lane (word_place s.view B k)
      here.working.lane here.working.lanes
      (let p = object_place s.view here.sound B k is in
      data_pictured s.view.fixed.shape (word_place s.view B k) p.data_ p.there)

  -- so a word that had a value to it has it
  known_then : (B : Block) (k x : ℕ) → IsObjectWord s.view B k
      → value_in s.view (word_of s.view.fixed.shape (word_place s.view B k)) ≡ Some x → x < 2 ^ 64
      → looked.KnowsWord told [] B k x
  known_then B k x is value small = word_known told sound B k x (word_then B k is)
      (ap (λ p. value_in told (word_of s.view.fixed.shape p)) (places B k)
      ∙ (value_then (word_of s.view.fixed.shape (word_place s.view B k)) (data_far B k is) ∙ value))
      small

  -- ---- each word may be set in its object

  module _ (a : SetWord) (m : MaySet s a) where
    abbrev t : IsSetAt s.view a
    t = set_at s 1 here a m

    abbrev stands_at : HasObject told (header_in told.fixed.shape told.claims t.block)
    stands_at = record {
      block = t.block;
      found = found_so s.view ns [] g.calls g.log each here.working.unmaking t.block ∙ t.word.found;
      at = refl;
      inside = t.word.inside;
    }

    abbrev can_set_then : CanSet told [] a (set_at s 1 here a m).block
    can_set_then = record {
      at = ap (λ n. 64 * n + 64) (header_at t.block) ∙ t.at;
      object = object_stands told sound (header_in told.fixed.shape told.claims t.block) stands_at;
      size = m.size;
      sized = known_then t.block 1 m.size (size_is_word t.block t.word) size_value size_small;
      inside = m.inside;
    }
      where
        size_is_word : (B : Block) → IsObjectWord s.view B (8 + a.off / 8) → IsObjectWord s.view B 1
        size_is_word B is = record {
          found = is.found;
          inside = is.inside;
          within = let l = is.within in omega (arith, l);
          kind = inl refl;
        }

        size_value : value_in s.view (word_of s.view.fixed.shape (word_place s.view t.block 1))
            ≡ Some m.size
        size_value = ap (value_in s.view)
            (word_number s.view here.sound t.block 1 (size_is_word t.block t.word)
            ∙ (let h = t.at in
            let e : 8 * header_in s.view.fixed.shape s.view.claims t.block + 1 ≡ a.id.off / 8 - 7
            = omega (arith, h) in e)) ∙ m.sized

        size_small : m.size < 2 ^ 64
        size_small = calls.size_small s 1 here t.block m.size t.word.found
            (here.sizes t.block m.size t.word.found t.word.inside
            (ap (value_in s.view) (let h = t.at in
            let e : 8 * header_in s.view.fixed.shape s.view.claims t.block + 1 ≡ a.id.off / 8 - 7
            = omega (arith, h) in e) ∙ m.sized))

  index_so : (B : Block) (i : ℕ) → index_of told B i ≡ index_of s.view B i
  index_so B i = ap (λ n. i - ((64 * n + 64) / 8 - 8)) (header_at B)

  spots : (B : Block) (i : ℕ)
      → word_place told B (index_of told B i) ≡ word_place s.view B (index_of s.view B i)
  spots B i = places B (index_of told B i) ∙ ap (word_place s.view B) (index_so B i)

  -- by the log the words are set
  pub sets_words : SetsWords told [] told (all_logged s.view s.entries)
      (settings_of s 1 here (lists_of s.view).sets here.lists.may_set)
  sets_words = record {
    each = λ y among.
        let m = member s 1 here (lists_of s.view).sets may y among in
        subst (λ (z : Setting). Settles told [] z.set z.block) (sym m.is) (can_set_then m.set m.may);
    are_bytes = by_commit.are_bytes;
    words = by_commit.words;
    knows = knows;
    small = by_commit.small;
    puts = λ B i b is few. ap (λ q. change_so_far told entries q b) (spots B i)
        ∙ by_commit.puts B i b is few;
    others = λ q b far. by_commit.others q b (λ B i is e. far B i is (e ∙ sym (spots B i)))
        ∙ (nothing_yet s.view records q b ∙ sym (nothing_yet told records q b));
  }
    where
      knows : (B : Block) (i : ℕ) → IsSetIn settings B i
          → looked.KnowsWord told [] B (index_of told B i) (by_commit.words i)
      knows B i is =
          let l = located s 1 here (lists_of s.view).sets may B i is in
          let b = set_at s 1 here l.set l.may in
          let k = calls.known_word_at s 1 here known B i is in
          subst (λ n. looked.KnowsWord told [] B n (by_commit.words i)) (sym (index_so B i))
          (subst (λ (C : Block). looked.KnowsWord told [] C (index_of s.view B i) (by_commit.words i))
          (sym l.block)
          (subst (λ n. looked.KnowsWord told [] b.block n (by_commit.words i)) (sym l.index)
          (subst (λ n. looked.KnowsWord told [] b.block (8 + l.set.off / 8) n)
          (sym (calls.known_small s 1 here known i k))
          (known_then b.block (8 + l.set.off / 8) k.value b.word
          (ap (value_in s.view) (b.number ∙ l.number) ∙ k.known) k.small))))

  none_turned : (B : Block) → turn (change_so_far told (all_logged s.view s.entries)) B ≡ None
  none_turned B = calls.turn_told s 1 here known w work refl B

  -- what the log changes is of blocks that the lane found
  words_then : (B : Block) → words_in told B ≡ words_in s.view B
  words_then (Small c i) = words_so s.view ns [] g.calls g.log each here.working.unmaking (Small c i)
  words_then (Big f) = words_so s.view ns [] g.calls g.log each here.working.unmaking (Big f)
  words_then Root = refl

  changed : (q : Place) (b : ℕ) → given (change_so_far told (all_logged s.view s.entries) q b) ≡ true
      → IsChanged told q
  changed q b e = ⊎_elim
      (λ (y : given (latest (set_redos s 1 here (lists_of s.view).sets may) q b) ≡ true).
      let c = calls.changed_place s 1 here known w work refl (lists_of s.view).sets may q b y in
      let t = set_at s 1 here c.0 c.1 in (
        t.block,
        8 + c.0.off / 8,
        sym c.2 ∙ sym (places t.block (8 + c.0.off / 8)),
        subst (λ n. 8 + c.0.off / 8 < n) (sym (words_then t.block)) t.word.within,
        inr (
          found_so s.view ns [] g.calls g.log each here.working.unmaking t.block ∙ t.word.found,
          t.word.inside,
          omega arith,
        ),
      ))
      (λ (y : given (change_so_far s.view [] q b) ≡ true).
      absurd (both_ways (given (change_so_far s.view [] q b))
      (ap given (nothing_yet s.view records q b)) y))
      (given_cases (latest (set_redos s 1 here (lists_of s.view).sets may) q b)
      (change_so_far s.view [] q b)
      (sym (ap given (calls.change_is s 1 here known w work q b)) ∙ e))

  changes_at : (q : Place) → IsChanged told q
      → ChangesAt told (change_so_far told (all_logged s.view s.entries)) q
  changes_at (InRun c zero) y = tt
  changes_at (InRun c (suc k)) y = y
  changes_at (InHuge c k) y = y
  changes_at (Descr c) y = absurd (not_descriptor told y.0 c y.1 y.2)
  changes_at RootWord y = absurd (by y.0 y.1 y.2 y.3)
    where
      is_run_word : Place → Bool
      is_run_word (InRun c k) = true
      is_run_word p = false

      is_huge_word : Place → Bool
      is_huge_word (InHuge c k) = true
      is_huge_word p = false

      by : (B : Block) (k : ℕ) → RootWord ≡ word_place told B k → k < words_in told B → ⊥
      by (Small c i) k e low = both_ways false refl (ap is_run_word e)
      by (Big f) k e low = both_ways false refl (ap is_huge_word e)
      by Root k e low = omega (arith, low)

  enters_log : Enters told (all_logged s.view s.entries)
  enters_log = record {
    makes = λ B m. none_made B true m;
    frees = λ B m. none_made B false m;
    of_run = λ c i m. none_made (Small c i) true m;
    of_zone = λ f m. none_made (Big f) true m;
    says = λ f b m few. none_made (Big f) true m;
    no_run = λ f c i m t n. none_made (Big f) true m;
    no_other = λ f c m t n. none_made (Big f) true m;
    changes = λ q b e. changes_at q (changed q b e);
  }
    where
      none_made : {P : Type 0} (B : Block) (y : Bool)
          → turn (change_so_far told (all_logged s.view s.entries)) B ≡ Some y → P
      none_made B y e = absurd (none-some y (sym (none_turned B) ∙ e))

  -- ---- SO IT HAS ITS FACT
  module _ (frees : (pending_of s.view.entries).frees ≡ [])
      (reserved : (pending_of s.view.entries).reserved ≡ [])
      (late : (pending_of s.view.entries).late ≡ false)
      (placed : has_unplaced s.view.fixed.shape s.view.fixed.pool
      (wants_pending (pending_of s.view.entries)) ≡ false)
      (same : (lists_of s.view).sets ≡ (pending_of s.view.entries).sets) where
    sized : (a : SetWord) → MaySet s a → IsSizedWord told a
    sized a m =
        let c = can_set_then a m in record {
          knows = record {
            block = (set_at s 1 here a m).block;
            at = c.at;
            object = c.object;
            size = m.size;
            knows = c.sized;
            seen = seen;
          };
          inside = m.inside;
        }
      where
        seen : size_seen told a.id.off ≡ Some m.size
        seen =
            let t = set_at s 1 here a m in
            value_then (a.id.off / 8 - 7)
            (subst (λ n. is_entry_word s.view.fixed.shape s.view.fixed.lane n ≡ false)
            (let h = t.at in
            let e : 8 * header_in s.view.fixed.shape s.view.claims t.block + 1 ≡ a.id.off / 8 - 7
            = omega (arith, h) in e)
            (size_no_entry s.view here.working.lane t.block t.word.inside)) ∙ m.sized

    passes : PassesTests told
    passes = tests_pass told frees late placed
        (subst (AllByRecursion (IsSizedWord told)) same
        (all_map (MaySet s) (IsSizedWord told) (lists_of s.view).sets sized here.lists.may_set))

    pub logged_fact : Fact (after (logs.g s 1 here known [] actions published) (Tell Publish None))
    logged_fact = words_have_facts told refl records frees reserved passes settings
        (are_sets s 1 here (lists_of s.view).sets may ∙ same) sets_words enters_log none_turned
