-- A publish outside a transaction has its fact.
use Rattle.std.proofs.Common.{◌≡◌, ⊎_elim, ℕ, ◌+◌, ◌==◌, ◌||◌, not, Bool, true, false, cond, All, List, [], ◌∷◌, ◌++◌, map, Option, Some, None, IsSome, refl, sym, ap, ◌∙◌, subst}
use Rattle.std.specs.Prelude.{MatchOption}
use Rattle.std.specs.List.{list_any}
use Rattle.std.proofs.lemmas.Bool.{both_ways}
use Rattle.std.proofs.lemmas.Option.{none-some}
use Rattle.std.proofs.lemmas.List.Elements.{All-append, All-cons, All-head, All-nil, All-tail}
use Rattle.pm_header.specs.declared.header.Header.{Header}
use Rattle.pm_objects.specs.declared.calls.Operation.TheVariants.{Publish}
use Rattle.pm_objects.specs.declared.calls.Want.{Want}
use Rattle.pm_objects.specs.declared.ids.Oid.{Oid}
use Rattle.pm_objects.specs.declared.pool.PoolView.{PoolView}
use Rattle.pm_objects.specs.declared.refusal.Refusal.{Refusal}
use Rattle.pm_objects.specs.declared.refusal.Refusal.TheVariants as refusal
use Rattle.pm_model.specs.Inside.{IsRefused, Ran}
use Rattle.pm_model.specs.Items.{Item, Items, PlainPool, all_edited, freed_item, is_root, made_item, plain_pool, size_of}
use Rattle.pm_model.specs.Outside.{IsDoneOutside, RepliesOutside, after_reply_outside, found_tests, is_outside, late_tests, refusal_outside, tests_outside}
use Rattle.pm_model.specs.Pending.{Pending, SetWord, block_edits, blocks_reserved, passes_object, set_edits, want_to_write, wants_pending}
use Rattle.pm_model.specs.Places.{has_place}
use Rattle.pm_model.specs.Refusals.{Seen, Test, first_of, is_listed}
use Rattle.pm_model.proofs.Lists.{each_weaker, none_applies, none_pass}
use Rattle.pm_model.proofs.SoundTransactions.{edits_append}
use Rattle.pm_view.specs.Entries.{turn}
use Rattle.pm_view.specs.Places.{Block, Place}
use Rattle.pm_view.specs.View.{View}
use Rattle.pm_world.specs.States.{State, given}
use Rattle.pm_crash.specs.Calls.{pending_of}
use Rattle.pm_crash.specs.Facts.{bits_after}
use Rattle.pm_crash.specs.Freshness.{root_told}
use Rattle.pm_crash.specs.HeapChanges.{Makes}
use Rattle.pm_crash.specs.Looked.{Enters, KnowsSize, items_seen, pool_seen, size_seen}
use Rattle.pm_crash.specs.Sim.{Agrees, StandIn, bits_now, change_so_far}
use Rattle.pm_crash.specs.SimBlocks.{object_edits}
use Rattle.pm_crash.specs.SimCommits.{Setting}
use Rattle.pm_crash.specs.SimOps.{Finds}
use Rattle.pm_crash.specs.SimOutside.{LeadsOutside, LeavesPool, outside_before, pool_after}
use Rattle.pm_crash.specs.SimPublish.{IsLateRefusal, IsLonePublication, IsRefusedPublication, LooksToPublish, PublicationsAreFacts, RefusedPublicationsAreFacts, early_refusal, publish_refusal}
use Rattle.pm_crash.specs.SimRoots.{SawRoot}
use Rattle.pm_crash.specs.Spelled.{Holds}
use Rattle.pm_crash.proofs.FreeBlocks.{are_free}
use Rattle.pm_crash.proofs.ItemsOfBits.{root_is_told}
use Rattle.pm_crash.proofs.Looked.{item_so, seen_is_unlisted, seen_size, size_so, unlisted}
use Rattle.pm_crash.proofs.OpenPools.{blocks_stay, sets_stay}
use Rattle.pm_crash.proofs.SceneSteps.{scenes_begin}
use Rattle.pm_crash.proofs.SimBlocks.{objects_changed}
use Rattle.pm_crash.proofs.SimCommits.{sets_now}
use Rattle.pm_crash.proofs.SimHeap as good
use Rattle.pm_crash.proofs.SimOutside.{bare_outsides_are_facts, outsides_are_facts}
use Rattle.pm_crash.proofs.SimRoots.{same_root}
use Rattle.pm_crash.proofs.Simulation.{nothing_yet}

-- a test of a list's elements, by one that says the same of each
any_same : {A : Type 0} (f h : A → Bool) (xs : List A) → All (λ x. f x ≡ h x) xs → list_any f xs ≡ list_any h xs
any_same f h [] a = refl
any_same f h (x ∷ xs) a = λ i. All-head (λ y. f y ≡ h y) x xs a i || any_same f h xs (All-tail (λ y. f y ≡ h y) x xs a) i

all_so : {A : Type 0} (P Q : A → Type 0) → ((e : A) → P e → Q e) → (es : List A) → All P es → All Q es
all_so P Q f [] a = All-nil Q
all_so P Q f (e ∷ es) a = All-cons Q e es (f e (All-head P e es a)) (all_so P Q f es (All-tail P e es a))

every : {A : Type 0} (Q : A → Type 0) → ((e : A) → Q e) → (es : List A) → All Q es
every Q f [] = All-nil Q
every Q f (e ∷ es) = All-cons Q e es (f e) (every Q f es)

mapped : {A B : Type 0} (Q : B → Type 0) (f : A → B) (es : List A) → All (λ e. Q (f e)) es → All Q (map f es)
mapped Q f [] a = All-nil Q
mapped Q f (e ∷ es) a = All-cons Q (f e) (map f es) (All-head (λ e. Q (f e)) e es a) (mapped Q f es (All-tail (λ e. Q (f e)) e es a))

-- nothing is entered where nothing is recorded
pub enters_none : (v : View) → v.log.records ≡ [] → Enters v []
enters_none v none = record {
  makes = λ B m. absurd (no_make B m);
  frees = λ B f. absurd (no_turn B false f);
  of_run = λ c i m. absurd (no_make (Rattle.pm_view.specs.Places.Small c i) m);
  of_zone = λ f m. absurd (no_make (Rattle.pm_view.specs.Places.Big f) m);
  says = λ f b m. absurd (no_make (Rattle.pm_view.specs.Places.Big f) m);
  no_run = λ f c i m. absurd (no_make (Rattle.pm_view.specs.Places.Big f) m);
  no_other = λ f c m. absurd (no_make (Rattle.pm_view.specs.Places.Big f) m);
  changes = λ p b g. absurd (both_ways (given (change_so_far v [] p b)) (ap given (nothing_yet v none p b)) g);
}
  where
    no_turn : (B : Block) (q : Bool) → turn (change_so_far v []) B ≡ Some q → ⊥
    no_turn (Rattle.pm_view.specs.Places.Small c i) q e = both_ways false refl (sym (ap given (nothing_yet v none (Rattle.pm_view.specs.Places.InRun c 0) i)) ∙ ap given e)
    no_turn (Rattle.pm_view.specs.Places.Big f) q e = both_ways false refl (sym (ap given (nothing_yet v none (Rattle.pm_view.specs.Places.Descr f) 1)) ∙ ap given e)
    no_turn Rattle.pm_view.specs.Places.Root q e = both_ways false refl (ap given e)

    no_make : (B : Block) → Makes (change_so_far v []) B → ⊥
    no_make B m = no_turn B true m

module _ (v : View) (seen : Seen) (value : ℕ) (looks : LooksToPublish v value) (none : v.log.records ≡ []) (classes : ℕ → ℕ) (s : State) (header : Header) (pool : PoolView)
    (agrees : Agrees classes v true s) (holds : Holds v.fixed.shape classes s header pool) (id : header.id ≡ v.fixed.pool) where
  abbrev pends : Pending
  pends = pending_of v.entries

  abbrev stock : Items
  stock = (plain_pool pool).items

  pub none_entered : Enters v []
  none_entered = enters_none v none

  pub begun : StandIn v.fixed.shape classes (bits_now v [] s) stock
  begun = subst (λ (t : State). StandIn v.fixed.shape classes t stock) (λ i q b. ap (λ o. Rattle.pm_world.specs.States.over o (s q b)) (sym (nothing_yet v none q b)) i)
      (scenes_begin v.fixed.shape classes s header pool holds)

  -- ---- ITS FIRST REFUSAL

  pool_id : pool.id ≡ v.fixed.pool
  pool_id = ap (λ (q : PoolView). q.id) holds.is_pool ∙ id

  seen_pool : PlainPool
  seen_pool = record (pool_seen v (root_told value)) { items = items_seen v }

  root_so : All (λ (i : Oid). is_root (plain_pool pool).root i.off ≡ is_root (root_told value) i.off) pends.frees
  root_so = all_so (λ (i : Oid). SawRoot v value i.off) (λ (i : Oid). is_root (plain_pool pool).root i.off ≡ is_root (root_told value) i.off)
      (λ i saw. ap (λ r. is_root r i.off) (root_is_told v.fixed.shape classes s header pool holds) ∙ same_root v classes _ s agrees value i.off saw) pends.frees looks.roots

  size_is : All (λ (a : SetWord). passes_object stock a ≡ passes_object (items_seen v) a) pends.sets
  size_is = all_so (λ (a : SetWord). KnowsSize v [] a.id.off) (λ (a : SetWord). passes_object stock a ≡ passes_object (items_seen v) a)
      (λ a k. ap (λ n. Rattle.std.specs.Prelude.nat_lt n (a.off + 8))
      (size_so v [] true classes s header pool holds agrees none_entered stock begun a.id.off k ∙ sym (seen_size (size_seen v a.id.off) k.size k.seen))) pends.sets looks.sets

  unlisted_so : All (λ (i : Oid). is_listed stock i.off ≡ is_listed (items_seen v) i.off) pends.frees
  unlisted_so = every (λ (i : Oid). is_listed stock i.off ≡ is_listed (items_seen v) i.off)
      (λ i. unlisted v [] true classes s header pool holds agrees none_entered stock begun i.off ∙ sym (seen_is_unlisted v i.off)) pends.frees

  pub alike : refusal_outside seen (outside_before v (plain_pool pool)) Publish ≡ publish_refusal seen v (root_told value)
  alike =
      let lanes = ap (λ (q : PoolView). q.lanes) holds.is_pool in
      let zones = ap (λ (q : PoolView). q.zones) holds.is_pool in
      let roots = any_same (λ (d : Oid). is_root (plain_pool pool).root d.off) (λ (d : Oid). is_root (root_told value) d.off) pends.frees root_so in
      let listed = any_same (λ (d : Oid). is_listed stock d.off) (λ (d : Oid). is_listed (items_seen v) d.off) pends.frees unlisted_so in
      let passes = any_same (passes_object stock) (passes_object (items_seen v)) pends.sets size_is in
      λ i. first_of (
      (refusal.Spent, seen.spent)
      ∷ (refusal.NoObject, list_any (λ (w : Want). not (has_place (record (plain_pool pool) { id = pool_id i; lanes = lanes i; zones = zones i }) w.id)) (wants_pending pends))
      ∷ (refusal.NoObject, list_any (λ (w : Want). Rattle.pm_model.specs.Items.is_among seen.missing w.id.off) (wants_pending pends))
      ∷ (refusal.NoObject, pends.late)
      ∷ (refusal.RootKept, roots i)
      ∷ (refusal.Listed, listed i)
      ∷ (refusal.OutOfRange, passes i)
      ∷ []
      )

module _ (v : View) (ran : Ran) (y : IsLonePublication v ran) (classes : ℕ → ℕ) (s : State) (header : Header) (pool : PoolView)
    (agrees : Agrees classes v true s) (holds : Holds v.fixed.shape classes s header pool) (id : header.id ≡ v.fixed.pool) where
  abbrev p : Pending
  p = pending_of v.entries

  abbrev items : Items
  items = (plain_pool pool).items

  nothing : Enters v []
  nothing = none_entered v ran.seen y.value y.looks y.records classes s header pool agrees holds id

  starts : StandIn v.fixed.shape classes (bits_now v [] s) items
  starts = begun v ran.seen y.value y.looks y.records classes s header pool agrees holds id

  unrefused : refusal_outside ran.seen (outside_before v (plain_pool pool)) Publish ≡ None
  unrefused = alike v ran.seen y.value y.looks y.records classes s header pool agrees holds id ∙ y.unrefused

  -- ---- ITS REPLY

  there : (B : Block) (off : ℕ) → Rattle.pm_crash.specs.Looked.IsObject v [] B → Rattle.pm_crash.specs.Sim.known_offset v B ≡ off → IsSome (items off)
  there B off o at = ap Rattle.std.specs.Prelude.is_some (item_so v [] true classes s header pool holds agrees nothing items starts B off o at)

  done : IsDoneOutside (outside_before v (plain_pool pool)) Publish ran.seen ran.reply
  done = record {
    there = All-append (λ (w : Want). IsSome (items w.id.off)) (wants_pending p) []
        (All-append (λ (w : Want). IsSome (items w.id.off)) (map want_to_write p.frees) (map (λ (a : SetWord). want_to_write a.id) p.sets)
        (mapped (λ (w : Want). IsSome (items w.id.off)) want_to_write p.frees
        (all_so (λ (d : Oid). Finds v [] d.off) (λ (d : Oid). IsSome (items d.off)) (λ d f. there f.block d.off f.object f.at) p.frees y.looks.frees))
        (mapped (λ (w : Want). IsSome (items w.id.off)) (λ (a : SetWord). want_to_write a.id) p.sets
        (all_so (λ (a : SetWord). KnowsSize v [] a.id.off) (λ (a : SetWord). IsSome (items a.id.off)) (λ a k. there k.block a.id.off k.object k.at) p.sets y.looks.sets)))
        (All-nil (λ (w : Want). IsSome (items w.id.off)));
    publishes = are_free v.fixed.shape classes s header pool holds v refl true agrees [] (blocks_reserved p) y.rooms;
    value = y.replied;
  }

  replies : RepliesOutside (outside_before v (plain_pool pool)) ran
  replies = record {
    outside = ap is_outside y.publishes;
    reply = subst (λ op. MatchOption (refusal_outside ran.seen (outside_before v (plain_pool pool)) op) (IsDoneOutside (outside_before v (plain_pool pool)) op ran.seen ran.reply) (λ r. IsRefused r ran.reply)) (sym y.publishes)
        (subst (λ o. MatchOption o (IsDoneOutside (outside_before v (plain_pool pool)) Publish ran.seen ran.reply) (λ r. IsRefused r ran.reply)) (sym unrefused) done);
  }

  -- ---- THE OBJECTS THEN

  abbrev changed : Items
  changed = all_edited (object_edits y.olds y.news) items

  abbrev final : Items
  final = all_edited (set_edits (map (λ (q : Setting). q.set) y.settings)) changed

  stands : StandIn v.fixed.shape classes (bits_now v v.log.entries s) final
  stands = sets_now v v y.entered v.log.entries y.settings y.sets true classes s header pool holds agrees y.changes.enters changed
      (objects_changed v v [] y.entered y.olds y.news y.changes true true classes s header pool holds agrees agrees nothing items starts)

  final_is : final ≡ all_edited (block_edits p ++ set_edits p.sets) items
  final_is = (λ i. all_edited (set_edits (y.are i)) (all_edited (y.freed i ++ y.made i) items)) ∙ sym (edits_append (block_edits p) (set_edits p.sets) items)

  kept_root : (r : ℕ) → (plain_pool pool).root ≡ Some r → IsSome (items r) → IsSome (final r)
  kept_root r is t =
      let none = none_applies (tests_outside ran.seen (outside_before v (plain_pool pool)) Publish) unrefused in
      let each = none_pass (λ (d : Oid). is_root (plain_pool pool).root d.off) p.frees none.1.1.1.1.0 in
      subst (λ (q : Items). IsSome (q r)) (λ i. all_edited (set_edits (sym y.are i)) (all_edited (sym y.freed i ++ sym y.made i) items))
      (sets_stay r p.sets (all_edited (block_edits p) items)
      (blocks_stay r p.frees p.reserved items
      (each_weaker (λ (d : Oid). is_root (plain_pool pool).root d.off ≡ false) (λ (d : Oid). (r == d.off) ≡ false) p.frees
      (λ d n. sym (ap (λ (o : Option ℕ). is_root o d.off) is) ∙ n) each) t))

  now_is : pool_after v ran (plain_pool pool) ≡ record (plain_pool pool) { items = final }
  now_is = (λ i. (after_reply_outside (y.publishes i) (y.replied i) (outside_before v (plain_pool pool))).pool)
      ∙ (λ i. record (plain_pool pool) { items = sym final_is i })

  pub leads : LeadsOutside v ran classes s (plain_pool pool)
  leads = record {
    replies = replies;
    heap = good.heap v y.enters y.sized classes s header pool holds agrees final stands kept_root;
    stands = subst (λ (q : PlainPool). StandIn v.fixed.shape classes (bits_after v s) q.items) (sym now_is) stands;
    root = ap (λ (q : PlainPool). q.root) now_is ∙ sym (good.same_root v y.enters y.sized classes s header pool holds agrees final stands kept_root);
  }

pub publications_are_facts : PublicationsAreFacts
publications_are_facts v ran y = outsides_are_facts v ran y.lone (λ classes s header pool agrees holds id. leads v ran y classes s header pool agrees holds id)

-- ---- ONE THAT IS REFUSED

by_test : (q : Bool) (a b c : Option Refusal) (r : Refusal) → (b ≡ Some r → c ≡ Some r) → cond q a b ≡ Some r → cond q a c ≡ Some r
by_test true a b c r f e = e
by_test false a b c r f e = f e

first_some : (xs ys : List Test) (r : Refusal) → first_of xs ≡ Some r → first_of (xs ++ ys) ≡ Some r
unfolding first_of
first_some [] ys r e = absurd (none-some r e)
first_some (x ∷ xs) ys r e = by_test x.1 (Some x.0) (first_of xs) (first_of (xs ++ ys)) r (λ z. first_some xs ys r z) e

module _ (v : View) (ran : Ran) (y : IsRefusedPublication v ran) (classes : ℕ → ℕ) (s : State) (header : Header) (pool : PoolView)
    (agrees : Agrees classes v true s) (holds : Holds v.fixed.shape classes s header pool) (id : header.id ≡ v.fixed.pool) where
  early : early_refusal ran.seen v ≡ Some y.refusal → refusal_outside ran.seen (outside_before v (plain_pool pool)) Publish ≡ Some y.refusal
  early e =
      let same : pool.id ≡ v.fixed.pool = ap (λ (q : PoolView). q.id) holds.is_pool ∙ id in
      let lanes = ap (λ (q : PoolView). q.lanes) holds.is_pool in
      let zones = ap (λ (q : PoolView). q.zones) holds.is_pool in
      first_some ((refusal.Spent, ran.seen.spent) ∷ found_tests ran.seen (plain_pool pool) (wants_pending (pending_of v.entries)))
      (late_tests ran.seen (plain_pool pool) (pending_of v.entries) Publish) y.refusal
      ((λ i. first_of ((refusal.Spent, ran.seen.spent) ∷ found_tests ran.seen (record (plain_pool pool) { id = same i; lanes = lanes i; zones = zones i }) (wants_pending (pending_of v.entries)))) ∙ e)

  first : refusal_outside ran.seen (outside_before v (plain_pool pool)) Publish ≡ Some y.refusal
  first = ⊎_elim early
      (λ (l : IsLateRefusal v ran.seen y.refusal). alike v ran.seen l.value l.looks y.bare.records classes s header pool agrees holds id ∙ l.first)
      y.looked

  pub refused_leaves : LeavesPool v ran (plain_pool pool)
  refused_leaves = record {
    replies = record {
      outside = ap is_outside y.publishes;
      reply = subst (λ op. MatchOption (refusal_outside ran.seen (outside_before v (plain_pool pool)) op) (IsDoneOutside (outside_before v (plain_pool pool)) op ran.seen ran.reply) (λ r. IsRefused r ran.reply)) (sym y.publishes)
          (subst (λ o. MatchOption o (IsDoneOutside (outside_before v (plain_pool pool)) Publish ran.seen ran.reply) (λ r. IsRefused r ran.reply)) (sym first) y.refused);
    };
    same = ap (λ r. (after_reply_outside ran.operation r (outside_before v (plain_pool pool))).pool) y.refused.replied;
  }

pub refused_publications_are_facts : RefusedPublicationsAreFacts
refused_publications_are_facts v ran y = bare_outsides_are_facts v ran y.lone y.bare
    (λ classes s header pool agrees holds id. refused_leaves v ran y classes s header pool agrees holds id)
