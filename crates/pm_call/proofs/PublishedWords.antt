-- PENDING WORDS ARE PUBLISHED, OR CANCELLED: the operation is told, and the lane is at work
-- with the longer list of entries, or with the same.
use Rattle.std.proofs.Common.{◌≡◌, zero, suc, ◌+◌, ◌-◌, ◌<◌, ◌≤◌, inl, inr, nat_lt, Bool, true, false, ◌||◌, Contains, List, [], ◌∷◌, ◌++◌, length, length-append, map, refl, sym, ap, ◌∙◌, subst, arith, None}
use Rattle.std.specs.List.{AllByRecursion, list_any}
use Rattle.std.proofs.lemmas.Bool.{both_ways, false_from_ne_true, ltb-true}
use Rattle.std.proofs.lemmas.List.{length-map, map-append}
use Rattle.pm_layout.specs.Areas.{redo_entries}
use Rattle.pm_model.specs.Items.{Edit, freed_item, made_item}
use Rattle.pm_model.specs.Pending.{Pending, Reservation, SetWord, blocks_reserved, item_reserved, max_actions, none_pending}
use Rattle.pm_model.specs.Refusals.{first_of, max_entries, refusal_of}
use Rattle.pm_model.specs.Transaction.{Transaction, idle, is_gone, is_new, is_working}
use Rattle.pm_model.specs.Transaction as model
use Rattle.pm_objects.specs.declared.calls.Operation.TheVariants.{Cancel, Publish}
use Rattle.pm_objects.specs.declared.ids.Oid.{Oid}
use Rattle.pm_objects.specs.declared.refusal.Refusal.TheVariants as refusal
use Rattle.pm_record.specs.declared.redo.Redo.{Redo}
use Rattle.pm_view.specs.View.{Told, View}
use Rattle.pm_world.specs.LaneFields.{Standing}
use Rattle.pm_crash.specs.Calls.{pending_of}
use Rattle.pm_crash.specs.Looked.{Enters, items_seen, pool_seen, refusal_by}
use Rattle.pm_crash.specs.OpenRuns.{no_pool}
use Rattle.pm_crash.specs.Sim.{Sim, lists_of, tx_with}
use Rattle.pm_crash.specs.SimAllocs.{HaveBlocksFor}
use Rattle.pm_crash.specs.SimBlocks.{ChangesObjects, NewOnce, OldOnce}
use Rattle.pm_crash.specs.SimOps.{LookedAt}
use Rattle.pm_crash.proofs.OpenRuns.{told_once_more}
use Rattle.pm_crash.proofs.SimAllocs.{sim_publishes}
use Rattle.pm_crash.proofs.SimFacts.{no_entries}
use Rattle.pm_crash.proofs.SimOps.{sim_extends}
use Rattle.pm_crash.proofs.Telling.{no_root_is_asked, tells_grow}
use Rattle.pm_call.specs.At.{At, AreLists, MaySet, entries_so_far, set_entry}
use Rattle.pm_call.specs.Did.{IsUnrefused, unseen}
use Rattle.pm_call.specs.Publishing.{CanPublish, HasWord, IsWordSized, LeadsPublish, PendingWordsAreLookedAt, PublishRefusals, WordsMayBePublished, is_past_end, is_unheld, publishing_tests}
use Rattle.pm_call.specs.RangeLaws.{IsSizedIfHeld}
use Rattle.pm_call.specs.Waiting.{HasPending, IsWord, listed_set, pending_now}
use Rattle.pm_call.proofs.Noting.{all_map, data_told, held_told, sizes_told, sound_told, working_told}
use Rattle.pm_call.proofs.RangeReads.{begun_more, range_passes}
use Rattle.pm_call.proofs.RangeRefusals as ranges
use Rattle.pm_call.proofs.Staying.{holds_with, pending_more}

-- ---- lists

pub all_both : {A : Type 0} (P : A → Type 0) (xs ys : List A) → AllByRecursion P xs
    → AllByRecursion P ys → AllByRecursion P (xs ++ ys)
all_both P [] ys one two = two
all_both P (x ∷ xs) ys one two = (one.0, all_both P xs ys one.1 two)

never_any : {A : Type 0} (f : A → Bool) → ((x : A) → f x ≡ false) → (xs : List A)
    → list_any f xs ≡ false
never_any f none [] = refl
never_any f none (x ∷ xs) = λ i. none x i || never_any f none xs i

-- where each has something, none passes a test
none_any : {A : Type 0} (P : A → Type 0) (f : A → Bool) → ((x : A) → P x → f x ≡ false)
    → (xs : List A) → AllByRecursion P xs → list_any f xs ≡ false
none_any P f none [] all = refl
none_any P f none (x ∷ xs) all = λ i. none x all.0 i || none_any P f none xs all.1 i

abbrev id_of : SetWord → Oid
id_of a = a.id

-- of an object that is named by some of the words
named : (P : Oid → Type 0) (words : List SetWord) (id : Oid)
    → AllByRecursion (λ (a : SetWord). P a.id) words → Contains (map id_of words) id → P id
named P [] id all (k, low, e) = absurd (omega (arith, low))
named P (a ∷ words) id all (zero, low, e) = subst P e all.0
named P (a ∷ words) id all (suc k, low, e) = named P words id all.1 (k, omega (arith, low), e)

-- words that the lane has for writing pass the tests
pub none_unheld : (s : Standing) (words : List SetWord) → AllByRecursion (HasWord s) words
    → list_any (is_unheld s) words ≡ false
none_unheld s words all =
    none_any (HasWord s) (is_unheld s) (λ a r. (range_passes s a.id a.off 8 true r).0) words all

pub none_past_end : (s : Standing) (words : List SetWord) → AllByRecursion (HasWord s) words
    → list_any (is_past_end s) words ≡ false
none_past_end s words all =
    none_any (HasWord s) (is_past_end s) (λ a r. (range_passes s a.id a.off 8 true r).1) words all

module _ (s : Standing) (at : At s) where
  abbrev v : View
  v = s.view

  abbrev lists : Transaction
  lists = lists_of s.view

  abbrev words : List SetWord
  words = (pending_now s.view).sets

  -- what is pending is words alone
  abbrev only : Pending
  only = record { sets = (pending_now s.view).sets; frees = []; reserved = []; late = false }

  pending_is : lists.pending ≡ only
  pending_is = at.lists.pending ∙ (λ i. record {
    sets = words;
    frees = at.pending.no_frees i;
    reserved = at.pending.none_reserved i;
    late = at.pending.on_time i;
  })

  -- ---- THE FIRST REFUSAL

  abbrev tx : Pending → Transaction
  tx p = record (tx_with s.view (pool_seen s.view None) (items_seen s.view)) { pending = p }

  entries_count : length (lists.sets ++ words) + (length lists.made - length lists.dropped)
      + length lists.freed ≡ length s.entries + length words
  entries_count =
      let sets = length-append lists.sets words in
      let listed = ap length at.lists.sets ∙ length-map lists.sets set_entry in
      let made = ap length at.lists.blocks.0 in
      let freed = ap length at.lists.blocks.2 in
      omega (arith, sets, listed, made, freed)

  gone_none : list_any (λ (a : SetWord). is_gone (lists_of s.view) a.id.off) words ≡ false
  gone_none = never_any (λ (a : SetWord). is_gone (lists_of s.view) a.id.off)
      (λ a. ranges.none_gone s at a.id.off) words

  by_words : refusal_of unseen (tx only) Publish ≡ first_of (publishing_tests s)
  unfolding first_of
  by_words = λ i. first_of (
      (refusal.NotWork, ranges.works s at i) ∷ (refusal.NoTx, ranges.is_open s at i)
      ∷ (refusal.NotLocked, list_any (λ (a : SetWord). ranges.not_held s at a.id true i) words)
      ∷ (refusal.NoObject, gone_none i) ∷ (refusal.RootKept, false) ∷ (refusal.Listed, false)
      ∷ (
        refusal.OutOfRange,
        list_any (λ (a : SetWord). ranges.passes s at a.id (a.off + 8) i) words,
      )
      ∷ (refusal.ActionsFull, nat_lt max_entries (entries_count i + 1)) ∷ [])

  refusals : refusal_by unseen s.view None Publish ≡ first_of (publishing_tests s)
  refusals = ap (λ p. refusal_of unseen (tx p) Publish) pending_is ∙ by_words

  looked : AllByRecursion (IsWordSized s) words → LookedAt s.view (entries_so_far s) None Publish
  looked sized = record {
    enters = ranges.enters s at;
    sizes = λ id write among held stays. ranges.asked s at id
        (named (IsSizedIfHeld s) words id sized
        (subst (λ (p : Pending). Contains (map id_of p.sets) id) pending_is among)) write held;
    knows_root = no_root_is_asked v None Publish (ap (λ (p : Pending). p.frees) pending_is);
  }

  -- ---- WHAT AN OPERATION THAT IS ONLY TOLD LEAVES, with another list of entries and none pending

  module _ (t : Told) (published : List Told) (entries : List Redo) where
    abbrev call : List Told
    call = s.view.call ++ t ∷ []

    abbrev u : View
    u = record s.view { call = s.view.call ++ t ∷ []; actions = []; published = published }

    abbrev then : Standing
    then = record s { view = u; entries = entries }

    told_with : length entries < redo_entries s.view.fixed.shape
        → AreLists then s.level (lists_of u) → HasPending u → Sim u [] → At then
    told_with room are pending sim = record {
      working = working_told v call [] published at.working;
      unbumped = at.unbumped;
      begun = begun_more v.call t at.begun;
      some = at.some;
      most = at.most;
      sound = sound_told v call [] published at.sound;
      sizes = sizes_told v call [] published at.sizes;
      sealed = at.sealed;
      number = record {
        seen = at.number.seen;
        told = at.number.told;
        below = at.number.below;
        none = at.number.none;
      };
      held = held_told v call [] published s.locks at.held;
      lines = at.lines;
      few = at.few;
      holds = holds_with v u s.locks refl refl at.holds;
      own = at.own;
      room = room;
      recorded = λ p e. data_told v call [] published at.sound p (at.recorded p e);
      lists = are;
      pending = pending;
      sim = sim;
      facts = at.facts;
    }

    may_set_still : (sets : List SetWord) → AllByRecursion (MaySet s) sets
        → AllByRecursion (MaySet then) sets
    may_set_still sets all = all_map (MaySet s) (MaySet then) sets (λ a m. record {
      locked = m.locked;
      aligned = m.aligned;
      size = m.size;
      sized = m.sized;
      inside = m.inside;
      small = m.small;
    }) all

    none_left : pending_now u ≡ none_pending → HasPending u
    none_left none = record {
      lists = ap (λ (p : Pending). map listed_set p.sets) (sym none);
      no_frees = ap (λ (p : Pending). p.frees) none;
      none_reserved = ap (λ (p : Pending). p.reserved) none;
      on_time = ap (λ (p : Pending). p.late) none;
      few = subst (λ (p : Pending). length p.sets ≤ max_actions) (sym none) (omega arith);
      words = subst (λ (p : Pending). AllByRecursion IsWord p.sets) (sym none) tt;
    }

    told_enters : Enters u []
    told_enters = no_entries u (λ p e.
        let d = data_told v call [] published at.sound p (at.recorded p e) in
        (d.object.block, d.index, d.at, d.within, inr (d.found, d.object.object.inside, d.data_)))

  -- ---- CANCEL

  abbrev cancelled : Told
  cancelled = record { operation = Cancel; reply = None }

  abbrev emptied : View
  emptied = u cancelled s.view.published s.entries

  pub cancel_unrefused : IsUnrefused s Cancel
  unfolding first_of
  cancel_unrefused = record {
    looks = record {
      enters = ranges.enters s at;
      sizes = λ id write among held stays. absurd (none_of id among);
      knows_root = no_root_is_asked v None Cancel refl;
    };
    none = refl;
  }
    where
      none_of : (id : Oid) → Contains [] id → ⊥
      none_of id (k, low, e) = absurd (omega (arith, low))

  cancel_lists : lists_of emptied ≡ record lists { pending = none_pending }
  cancel_lists = told_once_more v.call cancelled (idle no_pool (pending_of v.entries))

  cancel_now : pending_now emptied ≡ none_pending
  cancel_now = pending_more v.call cancelled (pending_of v.entries)

  cancel_are : AreLists (then cancelled s.view.published s.entries) s.level (lists_of emptied)
  cancel_are =
      subst (AreLists (then cancelled s.view.published s.entries) s.level) (sym cancel_lists)
      (record {
        level_is = at.lists.level_is;
        works = at.lists.works;
        locks = at.lists.locks;
        count = at.lists.count;
        recorded = at.lists.recorded;
        records = at.lists.records;
        blocks = at.lists.blocks;
        pending = sym cancel_now;
        sets = at.lists.sets;
        may_set = may_set_still cancelled v.published s.entries lists.sets at.lists.may_set;
        error_is = at.lists.error_is;
      })

  cancel_sim : Sim emptied []
  cancel_sim = sim_extends v emptied [] [] None
      (record { operation = Cancel; seen = unseen; reply = None }) at.sim
      (record { keeps = record { fixed = refl; entries = refl }; call = refl })
      (inr at.lists.works)
      (λ kept. tells_grow v Cancel None kept)
      (record {
        leaves = refl;
        looks = cancel_unrefused.looks;
        unrefused = cancel_unrefused.none;
        replies = refl;
        enters = told_enters cancelled v.published s.entries;
        there = λ i d low. absurd (omega (arith, low));
        same = λ p b. inl refl;
      })

  pub cancel_stands : At (then cancelled s.view.published s.entries)
  cancel_stands = told_with cancelled v.published s.entries at.room cancel_are
      (none_left cancelled v.published s.entries cancel_now) cancel_sim

  -- ---- PUBLISH

  module _ (can : CanPublish s) where
    abbrev told : Told
    told = record { operation = Publish; reply = None }

    abbrev shown : List Told
    shown = s.view.published ++ s.view.actions

    abbrev entries : List Redo
    entries = s.entries ++ map set_entry (pending_now s.view).sets

    abbrev next : View
    next = u told shown entries

    abbrev after_it : Standing
    after_it = then told shown entries

    has_room : nat_lt max_entries (length s.entries + length words + 1) ≡ false
    has_room = false_from_ne_true _ (λ e.
        let l = ltb-true max_entries (length s.entries + length words + 1) e in
        let r = can.room in omega (arith, l, r))

    publish_unrefused : IsUnrefused s Publish
    unfolding first_of
    publish_unrefused = record {
      looks = looked (all_map (HasWord s) (IsWordSized s) words
          (λ a r. inl (record { size = r.size; sized = r.sized; small = r.small })) can.each);
      none = refusals ∙ (λ i. first_of (
          (refusal.NotLocked, none_unheld s words can.each i)
          ∷ (refusal.OutOfRange, none_past_end s words can.each i)
          ∷ (refusal.ActionsFull, has_room i) ∷ []));
    }

    publish_lists : lists_of next ≡ model.published (record lists { pending = only })
    publish_lists = told_once_more v.call told (idle no_pool (pending_of v.entries))
        ∙ ap (λ p. model.published (record lists { pending = p })) pending_is

    publish_now : pending_now next ≡ none_pending
    publish_now = pending_more v.call told (pending_of v.entries)

    may_set_more : (sets : List SetWord) → AllByRecursion (HasWord s) sets
        → AllByRecursion IsWord sets → AllByRecursion (MaySet after_it) sets
    may_set_more [] all are = tt
    may_set_more (a ∷ sets) all are = (
      record {
        locked = all.0.locked;
        aligned = are.0.0;
        size = all.0.size;
        sized = all.0.sized;
        inside = all.0.inside;
        small = are.0.1;
      },
      may_set_more sets all.1 are.1,
    )

    -- the transaction with what was pending published, as the lane lists it
    publish_are : AreLists after_it s.level (lists_of next)
    publish_are = subst (AreLists after_it s.level) (sym publish_lists) (record {
      level_is = at.lists.level_is;
      works = at.lists.works;
      locks = at.lists.locks;
      count = at.lists.count;
      recorded = at.lists.recorded;
      records = at.lists.records;
      blocks = at.lists.blocks;
      pending = sym publish_now;
      sets = ap (λ es. es ++ map set_entry words) at.lists.sets
          ∙ sym (map-append set_entry lists.sets words);
      may_set = all_both (MaySet after_it) lists.sets words
          (may_set_still told shown entries lists.sets at.lists.may_set)
          (may_set_more words can.each at.pending.words);
      error_is = at.lists.error_is;
    })

    -- no block comes or goes
    publish_sim : Sim next []
    unfolding HaveBlocksFor OldOnce NewOnce
    publish_sim = sim_publishes v next [] [] None
        (record { operation = Publish; seen = unseen; reply = None }) at.sim
        (record { keeps = record { fixed = refl; entries = refl }; call = refl })
        (inr at.lists.works)
        (λ kept. tells_grow v Publish None kept)
        (record {
          publishes = refl;
          replied = refl;
          looks = publish_unrefused.looks;
          unrefused = publish_unrefused.none;
          rooms = λ kept.
              subst (λ (p : Pending). HaveBlocksFor next kept lists.made (blocks_reserved p))
              (sym pending_is) tt;
          olds = [];
          news = [];
          freed =
              ap (λ (p : Pending). map (λ (id : Oid). freed_item id.off) p.frees) (sym pending_is);
          made = ap (λ (p : Pending). map made_of p.reserved) (sym pending_is);
          changes = changes;
        })
      where
        made_of : Reservation → Edit
        made_of r = made_item r.off (item_reserved r)

        none_of : {A : Type 0} {x : A} → Contains [] x → ⊥
        none_of (k, low, e) = absurd (omega (arith, low))

        changes : ChangesObjects v [] next [] [] []
        changes = record {
          enters = told_enters told shown entries;
          goes = λ o c. absurd (none_of c);
          goes_once = tt;
          gone = λ B e. absurd (both_ways false refl e);
          comes = λ n c. absurd (none_of c);
          comes_once = tt;
          was_none = λ B e m. both_ways false refl e;
          apart = λ B C line e m ne h k. both_ways false refl e;
          stay = λ C g c. refl;
          descriptors = λ f b g c. refl;
          words = λ p b d g c. refl;
        }

    room_more : length (s.entries ++ map set_entry words) < redo_entries s.view.fixed.shape
    room_more =
        let e = length-append s.entries (map set_entry words) in
        let m = length-map words set_entry in
        let r = can.room in
        omega (arith, e, m, r)

    pub leads_publish : LeadsPublish s
    leads_publish = record {
      unrefused = publish_unrefused;
      allowed = at.working.is_open;
      stands = told_with told shown entries room_more publish_are
          (none_left told shown entries publish_now) publish_sim;
    }

pub publish_refusals : PublishRefusals
publish_refusals s at = refusals s at

pub pending_words_are_looked_at : PendingWordsAreLookedAt
pending_words_are_looked_at s at sized = looked s at sized

pub pending_words_may_be_published : WordsMayBePublished
pending_words_may_be_published s at can = leads_publish s at can
