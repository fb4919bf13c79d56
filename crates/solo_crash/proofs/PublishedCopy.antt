-- What a committed call publishes at once makes of the pool that its words hold its transaction's copy, with its actions performed.
use Rattle.std.proofs.Common.{◌≡◌, ℕ, ◌||◌, Bool, true, false, List, [], ◌∷◌, ◌++◌, map, None, Some, refl, sym, ◌∙◌, ap, subst}
use Rattle.std.specs.List.{AllZip, Contains, list_any}
use Rattle.std.specs.List.Sorted.{IsStrictlyIncreasing}
use Rattle.pm_header.specs.declared.header.Header.{Header}
use Rattle.pm_objects.specs.Pool.{Objects, object_at, offsets}
use Rattle.pm_objects.specs.declared.pool.Object.{Object}
use Rattle.pm_objects.specs.declared.pool.PoolView.{PoolView}
use Rattle.solo_model.specs.Actions.{Action, all_performed, with_actions}
use Rattle.solo_model.specs.NewObjects.{with_object, without_object}
use Rattle.solo_model.proofs.Objects.{same_objects}
use Rattle.solo_view.specs.View.{View}
use Rattle.solo_crash.specs.CallBlocks.{NewObject, blocks_in, is_at, is_freed_in, is_new_in}
use Rattle.solo_crash.specs.CallChanges.{bytes_published, AllocatesNew, ChangesOf, FreesAt}
use Rattle.solo_crash.specs.HeapChanges.{HeapChange}
use Rattle.solo_crash.specs.HeapChanges.HeapChange.{AllocatesChunks, AllocatesInRun, FreesChunks, FreesInRun}
use Rattle.solo_crash.specs.NewObjects.{unlinked}
use Rattle.solo_crash.specs.OpenCall.{CommitsTo, HasMade, IsChanged, call_words}
use Rattle.solo_crash.specs.Pending.{published_in}
use Rattle.solo_crash.specs.Publishing.{all_pool_published, Published}
use Rattle.solo_crash.specs.Publishing.Published.{Changes, Performs}
use Rattle.solo_crash.proofs.ManyObjects.{HasNone, none_at, none_performed, performed_rise, same_performed, some_at, with_elsewhere, with_objects, with_rise, with_there, without_elsewhere, without_none, without_objects, without_rise, without_there}
use Rattle.solo_crash.proofs.ObjectsOfBlocks.{objects_rise}
use Rattle.solo_crash.proofs.PerformedNew.{stands_behind}

-- ---- what each part of it makes of a pool's objects

-- the pool with these objects
abbrev holding : Objects → PoolView → PoolView
holding objects pool = record pool { objects = objects }

-- actions come first
actions_first : (lanes : ℕ) (actions : List Action) (steps : List Published) (pool : PoolView)
    → all_pool_published lanes (map Performs actions ++ steps) pool ≡ all_pool_published lanes steps (with_actions actions pool)
unfolding all_pool_published all_performed
actions_first lanes [] steps pool = refl
actions_first lanes (a ∷ actions) steps pool = actions_first lanes actions steps (with_actions (a ∷ []) pool)

freed_object : (lanes : ℕ) (change : HeapChange) (off : ℕ) (steps : List Published) (pool : PoolView) → FreesAt lanes change off
    → all_pool_published lanes (Changes change ∷ steps) pool ≡ all_pool_published lanes steps (holding (without_object off pool.objects) pool)
unfolding all_pool_published
freed_object lanes (FreesInRun c lines index) off steps pool at = (λ j. all_pool_published lanes steps (holding (without_object (at j) pool.objects) pool))
freed_object lanes (FreesChunks c chunks) off steps pool at = (λ j. all_pool_published lanes steps (holding (without_object (at j) pool.objects) pool))
freed_object lanes (AllocatesInRun c lines index kind bytes) off steps pool at = absurd at
freed_object lanes (AllocatesChunks c chunks kind bytes) off steps pool at = absurd at

-- then come the frees
frees_next : (lanes : ℕ) (freed : List HeapChange) (offs : List ℕ) (steps : List Published) (pool : PoolView) → AllZip (FreesAt lanes) freed offs
    → all_pool_published lanes (map Changes freed ++ steps) pool ≡ all_pool_published lanes steps (holding (without_objects offs pool.objects) pool)
unfolding without_objects
frees_next lanes [] [] steps pool each = refl
frees_next lanes [] (off ∷ offs) steps pool each = absurd each
frees_next lanes (change ∷ freed) [] steps pool each = absurd each
frees_next lanes (change ∷ freed) (off ∷ offs) steps pool each =
    freed_object lanes change off (map Changes freed ++ steps) pool each.0
    ∙ frees_next lanes freed offs steps (holding (without_object off pool.objects) pool) each.1

-- what the lane's words have of a new object once the call's actions are performed
abbrev object_behind : View → NewObject → Object
object_behind v n = unlinked n.kind (bytes_published v n)

made_object : (v : View) (lanes : ℕ) (change : HeapChange) (n : NewObject) (steps : List Published) (pool : PoolView) → AllocatesNew v lanes change n
    → all_pool_published lanes (Changes change ∷ steps) pool ≡ all_pool_published lanes steps (holding (with_object n.off (object_behind v n) pool.objects) pool)
unfolding all_pool_published
made_object v lanes (AllocatesInRun c lines index kind bytes) n steps pool of =
    (λ j. all_pool_published lanes steps (holding (with_object (of.begins j) (unlinked (of.of_kind j) (of.holds j)) pool.objects) pool))
made_object v lanes (AllocatesChunks c chunks kind bytes) n steps pool of =
    (λ j. all_pool_published lanes steps (holding (with_object (of.begins j) (unlinked (of.of_kind j) (of.holds j)) pool.objects) pool))
made_object v lanes (FreesInRun c lines index) n steps pool of = absurd of
made_object v lanes (FreesChunks c chunks) n steps pool of = absurd of

-- and then what is new
new_last : (v : View) (lanes : ℕ) (made : List HeapChange) (news : List NewObject) (pool : PoolView) → AllZip (AllocatesNew v lanes) made news
    → all_pool_published lanes (map Changes made) pool ≡ holding (with_objects (object_behind v) news pool.objects) pool
unfolding all_pool_published with_objects
new_last v lanes [] [] pool each = refl
new_last v lanes [] (n ∷ news) pool each = absurd each
new_last v lanes (change ∷ made) [] pool each = absurd each
new_last v lanes (change ∷ made) (n ∷ news) pool each =
    made_object v lanes change n (map Changes made) pool each.0
    ∙ new_last v lanes made news (holding (with_object n.off (object_behind v n) pool.objects) pool) each.1

changes_apart : (freed made : List HeapChange) → map Changes (freed ++ made) ≡ map Changes freed ++ map Changes made
changes_apart [] made = refl
changes_apart (change ∷ freed) made = ap (λ (steps : List Published). Changes change ∷ steps) (changes_apart freed made)

-- ---- the pool that is published and the copy are one

module _ (v : View) (base copy : PoolView) (changes : List HeapChange) (rising : IsStrictlyIncreasing (offsets base.objects)) (changed : IsChanged v base copy)
    (unfound : (off : ℕ) → is_new_in v off ≡ true → object_at base.objects off ≡ None) (stands : (n : NewObject) → Contains (blocks_in v).made n → object_at (all_performed (published_in v) copy.objects) n.off ≡ Some (object_behind v n))
    (of : ChangesOf v v.lanes changes) where
  abbrev actions : List Action
  actions = published_in v

  abbrev news : List NewObject
  news = (blocks_in v).made

  -- the objects of base with the actions performed, then without what was freed, and then with what is new
  abbrev acted : Objects
  acted = all_performed actions base.objects

  abbrev left : Objects
  left = without_objects (blocks_in v).freed acted

  abbrev all : Objects
  all = with_objects (object_behind v) news left

  published_parts : all_pool_published v.lanes (map Performs actions ++ map Changes changes) base ≡ holding all base
  published_parts =
      actions_first v.lanes actions (map Changes changes) base
      ∙ ap (λ (steps : List Published). all_pool_published v.lanes steps (holding acted base)) (ap (map Changes) of.are ∙ changes_apart of.freed of.made)
      ∙ frees_next v.lanes of.freed (blocks_in v).freed (map Changes of.made) (holding acted base) of.frees
      ∙ new_last v v.lanes of.made news (holding left base) of.allocates

  new_by_made : (off : ℕ) → list_any (is_at off) news ≡ true → is_new_in v off ≡ true
  new_by_made off made = ap (λ (b : Bool). b || list_any (is_at off) (blocks_in v).dropped) made

  made_is_at : (n : NewObject) → Contains news n → list_any (is_at n.off) news ≡ true
  made_is_at n there = go (list_any (is_at n.off) news) refl where
    go : (t : Bool) → list_any (is_at n.off) news ≡ t → t ≡ true
    go true is = refl
    go false is = absurd (none_at n.off news n is there refl)

  -- nothing is found where a new object comes to
  none_left : (off : ℕ) → object_at base.objects off ≡ None → object_at left off ≡ None
  none_left off none = without_none (blocks_in v).freed acted off (none_performed actions base.objects off none)

  none_for_new : HasNone left news
  none_for_new n there = none_left n.off (unfound n.off (new_by_made n.off (made_is_at n there)))

  abbrev copied : Objects
  copied = all_performed actions copy.objects

  at_new : (off : ℕ) → list_any (is_at off) news ≡ true → object_at all off ≡ object_at copied off
  at_new off made =
      let found = some_at off news made in
      let n : NewObject = found.0 in
      subst (λ (o : ℕ). object_at all o ≡ object_at copied o) found.1.1
      (with_there (object_behind v) news left n of.once none_for_new found.1.0 ∙ sym (stands n found.1.0))

  -- at any other offset, by whether the call freed the object there
  at_old : (off : ℕ) (freed : Bool) → list_any (is_at off) news ≡ false → is_freed_in v off ≡ freed → object_at left off ≡ object_at copied off
  at_old off true other gone = without_there (blocks_in v).freed acted off gone ∙ sym (none_performed actions copy.objects off (changed.gone off gone))
  at_old off false other kept = without_elsewhere (blocks_in v).freed acted off kept ∙ same_performed actions base.objects copy.objects off (sym (changed.others off other kept))

  same_at : (off : ℕ) → object_at all off ≡ object_at copied off
  same_at off = go (list_any (is_at off) news) refl where
    go : (t : Bool) → list_any (is_at off) news ≡ t → object_at all off ≡ object_at copied off
    go true made = at_new off made
    go false other = with_elsewhere (object_behind v) news left off other ∙ at_old off (is_freed_in v off) other refl

  same_all : all ≡ copied
  same_all = same_objects all copied
      (with_rise (object_behind v) news left of.once none_for_new (without_rise (blocks_in v).freed acted (performed_rise actions base.objects rising)))
      (performed_rise actions copy.objects changed.rising) same_at

  pub publishes_copy : all_pool_published v.lanes (map Performs actions ++ map Changes changes) base ≡ with_actions actions copy
  publishes_copy =
      published_parts
      ∙ (λ j. holding (same_all j) base)
      ∙ sym (ap (holding copied) changed.fixed)

-- so it is with what a committed call came to
pub committed_is_published : (v : View) (w : ℕ → ℕ) (header : Header) (pool : PoolView) (to : CommitsTo v w header pool) (changes : List HeapChange) → HasMade v → ChangesOf v v.lanes changes
    → all_pool_published v.lanes (map Performs (published_in v) ++ map Changes changes) to.base ≡ with_actions (published_in v) to.copy
committed_is_published v w header pool to changes has of =
    publishes_copy v to.base to.copy changes (objects_rise (call_words v w) v.lanes v.zones header to.base to.holds) to.changed to.unfound
    (λ n there. (stands_behind v w header pool to has n there).stands) of
