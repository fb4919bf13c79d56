-- What the checks of a publish find in an open call, of all that is pending: it passes where the lane can publish, and else is refused for the first reason that
-- the lane has, which gives the call up.
use Rattle.std.proofs.Common.{◌≡◌, ◌≢◌, ℕ, ◌+◌, ◌≤◌, ◌||◌, ⊎_elim, inl, inr, Bool, true, false, not, eqb, ltb, List, ◌++◌, length, length-append, map, Option, Some, None, refl, sym, ◌∙◌, ap, subst, arith}
use Rattle.std.specs.List.{All, Any, list_any}
use Rattle.std.proofs.lemmas.Bool.{and_left, and_right, cases_eq, le-ltb, lt-ltb, ne_eqb, or_from, or_left, or_parts, or_right}
use Rattle.std.proofs.lemmas.List.{length-map}
use Rattle.std.proofs.lemmas.List.Elements.{All-append, All-map, All-weaker, Contains-append_left}
use Rattle.std.proofs.lemmas.List.Folds.{list_any_none, list_any-from_Any}
use Rattle.pm_header.specs.declared.header.Header.{Header}
use Rattle.pm_objects.specs.declared.calls.Operation.TheVariants.{Publish}
use Rattle.pm_objects.specs.declared.calls.Want.{Want}
use Rattle.pm_objects.specs.declared.history.TxErr.TheVariants as error
use Rattle.pm_objects.specs.declared.history.Value.TheVariants.{Refused}
use Rattle.pm_objects.specs.declared.ids.Oid.{Oid}
use Rattle.pm_objects.specs.declared.pool.PoolView.{PoolView}
use Rattle.pm_objects.specs.declared.refusal.Refusal.{Refusal}
use Rattle.pm_objects.specs.declared.refusal.Refusal.TheVariants as refusal
use Rattle.solo_model.specs.declared.stage.Stage.TheVariants as stage
use Rattle.solo_model.specs.Actions.{Action, Pending, max_entries, object_of, passes_object, wants_for, wants_pending}
use Rattle.solo_model.specs.Actions.Action.{SetWord}
use Rattle.solo_model.specs.Bytes.{bytes_of}
use Rattle.solo_model.specs.Checks.{first_refusal, frees_listed, frees_root, is_listed, is_not_held, is_root}
use Rattle.solo_model.specs.Transaction.{Transaction, entries_of, given_over, holds_object, is_gone, is_locked, published}
use Rattle.solo_model.proofs.Alike.{after_refused}
use Rattle.solo_view.specs.View.{View}
use Rattle.solo_crash.specs.CallBlocks.{FreeNoRoot, IsOldIn, NewObject, TellsOfRoot, blocks_behind, blocks_in, is_at, is_freed_in, is_gone_in, is_made_in, is_new_in}
use Rattle.solo_crash.specs.Held.{HoldsPool}
use Rattle.solo_crash.specs.Locks.{AreSameLocks}
use Rattle.solo_crash.specs.OnActions.{CanFreeIn, CanSetIn, HasObject, IsOnLeft, IsPublishReasonIn, LacksObject, PassesIn, blocks_published, entries_published}
use Rattle.solo_crash.specs.OpenCall.{ComesTo, HasMade, IsBefore, IsPerformable, IsUnderWay, TracksBlocks, WasAborted, locks_of}
use Rattle.solo_crash.specs.Operations.{has_at, IsGone, IsHeld, IsLeft, IsMade, TakesBack, Tells}
use Rattle.solo_crash.specs.Pending.{pending_in, published_in, sets_in}
use Rattle.solo_crash.proofs.CallBlocks.{all_tracks_gone, tells_of_root, tracks_new}
use Rattle.solo_crash.proofs.CallWords.{call_works, locked_member, object_under, same_pool}
use Rattle.solo_crash.proofs.FreeChecks.{had_is_held, same_root, unlisted}
use Rattle.solo_crash.proofs.GivenUp.{aborts_from, refused_answers, IsRefusedFor}
use Rattle.solo_crash.proofs.KeptWords.{same_found}
use Rattle.solo_crash.proofs.MadeInTurn.{ListsAlike, blocks_alike, blocks_alone}
use Rattle.solo_crash.proofs.NamedObjects.{is_outside, set_is_held, set_is_inside, set_performs, FindsObjects}
use Rattle.solo_crash.proofs.NewRanges.{new_long}
use Rattle.solo_crash.proofs.NewStay.{new_there}
use Rattle.solo_crash.proofs.Passing.{unhindered, Works}
use Rattle.solo_crash.proofs.PublishChecks.{any_gone, any_unheld, first_of_publish, none_is_root, one_is_root, publish_checks}

-- the transaction of the open call has what is pending and what was published; it finds the objects that the lane holds and did not free, and has those that its
-- call made; its pool's root is this, and none of its objects is in a list or has members
pub record Publishes (v : View) (w : ℕ → ℕ) (root : Option ℕ) (tx : Transaction) : Type 0 where
  pub works : Works tx
  pub of_pool : tx.pool.id ≡ v.pool
  pub locks : AreSameLocks tx.locks (locks_of v)
  pub actions : tx.actions ≡ pending_in v
  pub moved : tx.moved ≡ published_in v
  pub tracks : TracksBlocks tx (blocks_in v)
  pub finds : FindsObjects v w tx (IsOldIn v)
  pub news : (id : Oid) → (made : IsMade v id) → length (bytes_of tx.pool.objects id.off) ≡ made.new.size
  pub of_root : tx.pool.root ≡ root
  pub unlisted : (off : ℕ) → is_listed tx.pool.objects off ≡ false

pub publishes_open : (v : View) (w : ℕ → ℕ) (header : Header) (pool : PoolView) (level : ℕ) → 1 ≤ level → IsUnderWay v level stage.Work error.None → HoldsPool w v.lanes v.zones header pool → v.pool ≡ header.id → IsBefore v w
    → (c : ComesTo v w header pool level stage.Work error.None) → Publishes v w pool.root c.tx
publishes_open v w header pool level some under_way holds same_id before c = record {
  works = call_works v w header pool level some under_way c;
  of_pool = same_pool v w header c.base c.tx c.holds c.changed same_id;
  locks = c.locks;
  actions = c.actions;
  moved = c.moved;
  tracks = c.tracks;
  finds = record { under = λ id write old held known. object_under v w header pool level id write under_way before c held known old; sizes = c.sizes_stay };
  news = λ id made. new_long v w header pool level under_way c id made;
  of_root = same_root v w header pool level under_way holds c;
  unlisted = unlisted v w header pool level under_way holds c;
}

-- ---- what the lane has of the objects

held_is_had : (v : View) (id : Oid) → IsHeld v id true → has_at v id.off true ≡ true
held_is_had v id held = or_right (is_new_in v id.off) (is_locked (locks_of v) id.off true) (locked_member v.locks held.lock id.off true held.held (sym held.place) held.allows)

old_is_left : (v : View) (off : ℕ) → IsOldIn v off → is_gone_in v off ≡ false
old_is_left v off old = or_from (is_freed_in v off) (list_any (is_at off) (blocks_in v).dropped) old.kept (or_parts (is_made_in v off) (list_any (is_at off) (blocks_in v).dropped) old.found).1

held_is_left : (v : View) (id : Oid) → IsHeld v id true → IsOldIn v id.off → IsLeft v id true
held_is_left v id held old = record { of_pool = held.of_pool; has = held_is_had v id held; left = old_is_left v id.off old }

made_is_left : (v : View) (id : Oid) → HasMade v → IsMade v id → IsLeft v id true
made_is_left v id has made = record {
  of_pool = made.of_pool;
  has = or_left (is_new_in v id.off) (is_locked (locks_of v) id.off true)
      (ap (is_new_in v) made.place ∙ new_there v made.new (Contains-append_left (blocks_in v).made (blocks_in v).dropped made.new made.has));
  left = ap (is_gone_in v) made.place ∙ has.kept made.new made.has;
}

-- what can be set or freed is of an object that it has, and that is not gone
set_is_left : (v : View) → HasMade v → (a : Action) → CanSetIn v a → IsOnLeft v a
set_is_left v has a (inl can) = held_is_left v (object_of a) (set_is_held v a can.0) can.1
set_is_left v has (SetWord id off value) (inr can) = made_is_left v id has can.0.made

free_is_left : (v : View) → HasMade v → (id : Oid) → CanFreeIn v id → IsLeft v id true
free_is_left v has id (inl can) = held_is_left v id can.0.0 can.1
free_is_left v has id (inr made) = made_is_left v id has made

abbrev AreLeft : View → Type 0
AreLeft v = All (λ (want : Want). IsLeft v want.id true) (wants_pending (pending_in v))

all_left : (v : View) → HasMade v → All (CanFreeIn v) (pending_in v).frees → All (CanSetIn v) (sets_in v) → AreLeft v
all_left v has frees each =
    let free : Oid → Want = λ id. record { id = id; write = true } in
    let set : Action → Want = λ a. record { id = object_of a; write = true } in
    All-append (λ (want : Want). IsLeft v want.id true) (map free (pending_in v).frees) (wants_for (sets_in v))
    (All-map (λ (want : Want). IsLeft v want.id true) free (pending_in v).frees (All-weaker (CanFreeIn v) (λ (id : Oid). IsLeft v id true) (free_is_left v has) (pending_in v).frees frees))
    (All-map (λ (want : Want). IsLeft v want.id true) set (sets_in v) (All-weaker (CanSetIn v) (IsOnLeft v) (set_is_left v has) (sets_in v) each))

abbrev AreHad : View → Type 0
AreHad v = All (λ (want : Want). HasObject v want.id) (wants_pending (pending_in v))

all_had : (v : View) → AreLeft v → AreHad v
all_had v each = All-weaker (λ (want : Want). IsLeft v want.id true) (λ (want : Want). HasObject v want.id) (λ want left. (left.of_pool, left.has)) (wants_pending (pending_in v)) each

-- ---- what the checks find

module _ (v : View) (w : ℕ → ℕ) (root : Option ℕ) (tx : Transaction) (of : Publishes v w root tx) where
  abbrev p : Pending
  p = pending_in v

  abbrev all_wants : List Want
  all_wants = wants_pending p

  -- the locks
  locks_found : AreHad v → any_unheld tx tx.actions ≡ false
  locks_found each =
      ap (any_unheld tx) of.actions
      ∙ list_any_none (λ (want : Want). is_not_held tx true want.id) all_wants
      (All-weaker (λ (want : Want). HasObject v want.id) (λ (want : Want). is_not_held tx true want.id ≡ false) (λ want has. had_is_held v tx want.id true of.of_pool of.locks of.tracks has.0 has.1) all_wants each)

  lacking_is_unheld : (id : Oid) → LacksObject v id → is_not_held tx true id ≡ true
  lacking_is_unheld id lacks =
      ap not (⊎_elim
      (λ (same : id.pool ≡ tx.pool.id). and_right (eqb id.pool tx.pool.id) (holds_object tx id.off true) ((λ j. tracks_new v tx of.tracks id.off j || of.locks.same id.off true j) ∙ lacks (same ∙ of.of_pool)))
      (λ (other : id.pool ≢ tx.pool.id). and_left (eqb id.pool tx.pool.id) (holds_object tx id.off true) (ne_eqb id.pool tx.pool.id other))
      (cases_eq id.pool tx.pool.id))

  one_unheld : Any (λ (want : Want). LacksObject v want.id) all_wants → any_unheld tx tx.actions ≡ true
  one_unheld (k, want, inside, at, lacks) =
      ap (any_unheld tx) of.actions ∙ list_any-from_Any (λ (x : Want). is_not_held tx true x.id) all_wants (k, want, inside, at, lacking_is_unheld want.id lacks)

  -- which are gone
  abbrev gone_check : Bool
  gone_check = tx.actions.late || any_gone tx tx.actions

  none_gone : p.late ≡ false → AreLeft v → gone_check ≡ false
  none_gone in_time each =
      or_from tx.actions.late (any_gone tx tx.actions) (ap (λ (q : Pending). q.late) of.actions ∙ in_time)
      (ap (any_gone tx) of.actions
      ∙ list_any_none (λ (want : Want). is_gone tx want.id.off) all_wants
      (All-weaker (λ (want : Want). IsLeft v want.id true) (λ (want : Want). is_gone tx want.id.off ≡ false) (λ want left. all_tracks_gone v tx of.tracks want.id.off ∙ left.left) all_wants each))

  late_gone : p.late ≡ true → gone_check ≡ true
  late_gone late = or_left tx.actions.late (any_gone tx tx.actions) (ap (λ (q : Pending). q.late) of.actions ∙ late)

  one_gone : Any (λ (want : Want). IsGone v want.id true) all_wants → gone_check ≡ true
  one_gone (k, want, inside, at, gone) = or_right tx.actions.late (any_gone tx tx.actions)
      (ap (any_gone tx) of.actions ∙ list_any-from_Any (λ (x : Want). is_gone tx x.id.off) all_wants (k, want, inside, at, all_tracks_gone v tx of.tracks want.id.off ∙ gone.gone))

  -- the root, and lists
  no_root_freed : FreeNoRoot root p.frees → frees_root tx Publish ≡ false
  no_root_freed others =
      ap (λ (q : Pending). list_any (is_root tx.pool) q.frees) of.actions ∙ none_is_root tx.pool p.frees (subst (λ (r : Option ℕ). FreeNoRoot r p.frees) (sym of.of_root) others)

  root_freed : Any (λ (id : Oid). root ≡ Some id.off) p.frees → frees_root tx Publish ≡ true
  root_freed one =
      ap (λ (q : Pending). list_any (is_root tx.pool) q.frees) of.actions ∙ one_is_root tx.pool p.frees (subst (λ (r : Option ℕ). Any (λ (id : Oid). r ≡ Some id.off) p.frees) (sym of.of_root) one)

  none_listed : frees_listed tx Publish ≡ false
  none_listed = list_any_none (λ (id : Oid). is_listed tx.pool.objects id.off) tx.actions.frees (λ k d inside. of.unlisted _)

  -- the ends
  inside_end : (a : Action) → CanSetIn v a → passes_object tx.pool.objects a ≡ false
  inside_end a (inl can) = set_is_inside v w tx (IsOldIn v) of.finds a can.1 can.0
  inside_end (SetWord id off value) (inr can) =
      let long = of.news id can.0.made in let inside = can.0.inside in
      le-ltb (length (bytes_of tx.pool.objects id.off)) (off + 8) (omega (arith, long, inside))

  past_end : (a : Action) → PassesIn v a → passes_object tx.pool.objects a ≡ true
  past_end a (inl passes) = is_outside v w tx (IsOldIn v) of.finds a passes.1 passes.0
  past_end (SetWord id off value) (inr passes) =
      let long = of.news id passes.made in let outside = passes.outside in
      lt-ltb (length (bytes_of tx.pool.objects id.off)) (off + 8) (omega (arith, long, outside))

  abbrev past_check : Bool
  past_check = list_any (passes_object tx.pool.objects) tx.actions.sets

  ends_found : All (CanSetIn v) (sets_in v) → past_check ≡ false
  ends_found each =
      ap (λ (q : Pending). list_any (passes_object tx.pool.objects) q.sets) of.actions
      ∙ list_any_none (passes_object tx.pool.objects) (sets_in v) (All-weaker (CanSetIn v) (λ (a : Action). passes_object tx.pool.objects a ≡ false) inside_end (sets_in v) each)

  one_past : Any (PassesIn v) (sets_in v) → past_check ≡ true
  one_past (k, a, inside, at, passes) =
      ap (λ (q : Pending). list_any (passes_object tx.pool.objects) q.sets) of.actions ∙ list_any-from_Any (passes_object tx.pool.objects) (sets_in v) (k, a, inside, at, past_end a passes)

  -- so many entries the model's transaction has once all is published
  alike : ListsAlike (published tx) (blocks_published v)
  alike =
      subst (λ (q : Pending). ListsAlike (published tx) (blocks_behind Publish None q (blocks_in v))) of.actions
      (blocks_alike tx.actions.frees tx.actions.reserved (given_over tx) (blocks_in v) (record { made = of.tracks.made; freed = of.tracks.freed }))

  entries_found : entries_of (published tx) + 1 ≡ entries_published v
  entries_found =
      let moved : length tx.moved ≡ length (published_in v) = ap (λ (actions : List Action). length actions) of.moved in
      let pending : length tx.actions.sets ≡ length (sets_in v) = ap (λ (q : Pending). length q.sets) of.actions in
      let all : length (tx.moved ++ tx.actions.sets) ≡ length tx.moved + length tx.actions.sets = length-append tx.moved tx.actions.sets in
      let given : length (published tx).moved ≡ length (tx.moved ++ tx.actions.sets) = ap (λ (x : Transaction). length x.moved) (blocks_alone tx.actions.frees tx.actions.reserved (given_over tx)) in
      let made : length (published tx).made ≡ length (blocks_published v).made = ap (λ (offs : List ℕ). length offs) alike.made ∙ length-map (blocks_published v).made (λ (n : NewObject). n.off) in
      let freed : length (published tx).freed ≡ length (blocks_published v).freed = ap (λ (offs : List ℕ). length offs) alike.freed in
      omega (arith, moved, pending, all, given, made, freed)

  abbrev full_check : Bool
  full_check = ltb max_entries (entries_of (published tx) + 1)

  -- it passes
  pub publish_passes : HasMade v → p.late ≡ false → All (CanFreeIn v) p.frees → All (CanSetIn v) (sets_in v) → entries_published v ≤ max_entries → FreeNoRoot root p.frees → first_refusal unhindered tx Publish ≡ None
  unfolding first_of_publish
  publish_passes has in_time frees each room others =
      let left : AreLeft v = all_left v has frees each in
      publish_checks tx of.works
      ∙ (λ j. first_of_publish (locks_found (all_had v left) j) (none_gone in_time left j) (no_root_freed others j) (none_listed j) (ends_found each j) ((ap (ltb max_entries) entries_found ∙ le-ltb max_entries (entries_published v) room) j))

  -- what can be set can be performed
  pub performs_one : HasMade v → (a : Action) → CanSetIn v a → IsPerformable v w a
  performs_one has a (inl can) = inl (set_performs v w tx (IsOldIn v) of.finds a can.1 can.0)
  performs_one has (SetWord id off value) (inr can) =
      let made : IsMade v id = can.0.made in
      inr (record {
        new = made.new;
        is_new = Contains-append_left (blocks_in v).made (blocks_in v).dropped made.new made.has;
        begins = sym made.place;
        behind = (has.each made.new made.has).behind;
        inside = can.0.inside;
        whole = can.1;
      })

  -- or it is refused for the first reason that the lane has
  gone_first : AreHad v → gone_check ≡ true → IsRefusedFor tx Publish refusal.NoObject
  unfolding first_of_publish
  gone_first had gone = record {
    refused_first = publish_checks tx of.works ∙ (λ j. first_of_publish (locks_found had j) (gone j) (frees_root tx Publish) (frees_listed tx Publish) past_check full_check);
    traced = refl;
  }

  publish_refused : (r : Refusal) → HasMade v → IsPublishReasonIn v r → TellsOfRoot root Publish (Some (Refused r)) p → IsRefusedFor tx Publish r
  unfolding first_of_publish
  publish_refused refusal.NotLocked has lacks tells = record {
    refused_first = publish_checks tx of.works ∙ (λ j. first_of_publish (one_unheld lacks j) gone_check (frees_root tx Publish) (frees_listed tx Publish) past_check full_check);
    traced = refl;
  }
  publish_refused refusal.NoObject has reason tells = ⊎_elim
      (λ (late : p.late ≡ true). gone_first reason.0 (late_gone late))
      (λ (gone : Any (λ (want : Want). IsGone v want.id true) all_wants). gone_first reason.0 (one_gone gone))
      reason.1
  publish_refused refusal.RootKept has reason tells = record {
    refused_first =
        publish_checks tx of.works
        ∙ (λ j. first_of_publish (locks_found (all_had v reason.0.left) j) (none_gone reason.0.in_time reason.0.left j) (root_freed tells j) (frees_listed tx Publish) past_check full_check);
    traced = refl;
  }
  publish_refused refusal.OutOfRange has reason tells = record {
    refused_first =
        publish_checks tx of.works
        ∙ (λ j. first_of_publish (locks_found (all_had v reason.0.left) j) (none_gone reason.0.in_time reason.0.left j) (no_root_freed tells j) (none_listed j) (one_past reason.1 j) full_check);
    traced = refl;
  }
  publish_refused refusal.ActionsFull has reason tells =
      let left : AreLeft v = all_left v has reason.frees reason.each in
      record {
        refused_first =
            publish_checks tx of.works
            ∙ (λ j. first_of_publish (locks_found (all_had v left) j) (none_gone reason.in_time left j) (no_root_freed tells j) (none_listed j) (ends_found reason.each j) ((ap (ltb max_entries) entries_found ∙ lt-ltb max_entries (entries_published v) reason.full) j));
        traced = refl;
      }
  publish_refused r has reason tells = absurd reason

-- so the call is aborted
pub refused_publish_aborts : (v next : View) (r : Refusal) (level : ℕ) → 1 ≤ level → IsUnderWay v level stage.Work error.None → IsPublishReasonIn v r → Tells v next Publish (Some (Refused r)) → TakesBack v next
    → WasAborted next (error.Refused r)
refused_publish_aborts v next r level some under_way reason tells back =
    aborts_from v next Publish (Some (Refused r)) level (error.Refused r) under_way tells.keeps (same_found v next tells.locks) (λ p. refl) tells.call back
    (λ w header pool holds same_id before may c.
    let is : IsRefusedFor c.tx Publish r =
    publish_refused v w pool.root c.tx (publishes_open v w header pool level some under_way holds same_id before c) r under_way.has reason (tells_of_root v next Publish (Some (Refused r)) tells.keeps.entries tells.call pool may) in
    (refused_answers c.tx Publish r refl is, after_refused Publish (Some (Refused r)) c.tx r (record { traced = is.traced; told = refl })))
