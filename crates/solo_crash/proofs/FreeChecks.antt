-- The checks of a free, in the order in which the plain model makes them, by what the lane has.
use Rattle.std.proofs.Common.{◌≡◌, ◌≢◌, ⊎_elim, ℕ, ◌||◌, Bool, true, false, not, cond, eqb, leb, List, [], ◌∷◌, ◌++◌, get_or, length, Option, Some, None, refl, sym, ◌∙◌, ap, arith}
use Rattle.std.specs.List.{All, Contains, find}
use Rattle.std.specs.Option.{option_map, option_map_or}
use Rattle.std.proofs.Math.Bool.{or-false}
use Rattle.std.proofs.lemmas.Bool.{and_from, cases_Bool, eq-eqb, eqb-true, false_from_ne_true, le-ltb, ne_eqb, or_from}
use Rattle.std.proofs.lemmas.List.Elements.{All-head, All-tail}
use Rattle.std.proofs.lemmas.List.Folds.{Any-from_list_any}
use Rattle.std.proofs.lemmas.Option.{same_Some}
use Rattle.pm_header.specs.declared.header.Header.{Header}
use Rattle.pm_objects.specs.Pool.{Objects, all_members, object_at}
use Rattle.pm_objects.specs.declared.calls.Operation.TheVariants.{Free}
use Rattle.pm_objects.specs.declared.history.TxErr.TheVariants as error
use Rattle.pm_objects.specs.declared.ids.Oid.{Oid}
use Rattle.pm_objects.specs.declared.pool.Object.{Object}
use Rattle.pm_objects.specs.declared.pool.PoolView.{PoolView}
use Rattle.pm_objects.specs.declared.refusal.Refusal.{Refusal}
use Rattle.pm_objects.specs.declared.refusal.Refusal.TheVariants as refusal
use Rattle.pm_image.specs.Contents.{first_in, walk}
use Rattle.pm_image.proofs.FaultFree.{links_taken}
use Rattle.pm_image.proofs.LocalPool.{first_none}
use Rattle.pm_image.proofs.Reading.{walk_nowhere}
use Rattle.solo_model.specs.declared.stage.Stage.TheVariants as stage
use Rattle.solo_model.specs.Bytes.{is_among}
use Rattle.solo_model.specs.Checks.{first_refusal, frees_root, is_listed, is_not_held, is_not_locked, names_gone, passes_actions}
use Rattle.solo_model.specs.Transaction.{Transaction, holds_object, is_gone, locked_all}
use Rattle.solo_view.specs.View.{View}
use Rattle.solo_world.specs.Records.{is_recorded}
use Rattle.solo_crash.specs.CallBlocks.{NewObject, blocks_in, is_at, is_freed_in, is_made_in, object_made}
use Rattle.solo_crash.specs.Held.{HoldsPool}
use Rattle.solo_crash.specs.OpenCall.{ComesTo, IsUnderBlock, IsUnderWay, TracksBlocks, call_words, locks_of}
use Rattle.solo_crash.specs.Locks.{AreSameLocks}
use Rattle.solo_crash.specs.Operations.{has_at}
use Rattle.solo_crash.proofs.NewPlaces.{stands_there}
use Rattle.solo_crash.proofs.CallBlocks.{any_map, tracks_new}
use Rattle.solo_crash.proofs.CallWords.{chunk_is_behind, other_call_word}
use Rattle.solo_crash.proofs.ObjectsOfBlocks.{block_is_there, objects_rise}
use Rattle.solo_crash.proofs.Passing.{no_tx, no_work, not_busy, not_missing, not_spent, unhindered, Works}

-- the first refusal of a free, by what the checks of its lock, of what is gone, of the root, of lists and of room say
first_of_frees : Bool → Bool → Bool → Bool → Bool → Option Refusal
first_of_frees not_locked gone of_root listed roomless = option_map (λ (check : Refusal × Bool). check.0) (find (λ (check : Refusal × Bool). check.1)
    ((refusal.NotLocked, not_locked) ∷ (refusal.NoObject, gone) ∷ (refusal.RootKept, of_root) ∷ (refusal.Listed, listed) ∷ (refusal.ActionsFull, roomless) ∷ []))

free_checks : (tx : Transaction) (id : Oid) → Works tx
    → first_refusal unhindered tx (Free id) ≡ first_of_frees (is_not_held tx true id) (is_gone tx id.off) (frees_root tx (Free id)) (is_listed tx.pool.objects id.off) (passes_actions tx (Free id))
unfolding first_refusal first_of_frees locked_all
free_checks tx id works =
    let lock : is_not_locked tx (Free id) ≡ is_not_held tx true id = or-false (is_not_held tx true id) in
    let gone : names_gone tx (Free id) ≡ is_gone tx id.off = or-false (is_gone tx id.off) in
    (λ j. option_map (λ (check : Refusal × Bool). check.0) (find (λ (check : Refusal × Bool). check.1)
    ((refusal.NotWork, no_work tx works j)
    ∷ (refusal.NoTx, no_tx tx (Free id) works j)
    ∷ (refusal.Spent, not_spent tx j)
    ∷ (refusal.Deep, false)
    ∷ (refusal.LocksFull, (le-ltb 64 (length tx.locks) works.few) j)
    ∷ (refusal.Unaligned, false)
    ∷ (refusal.BadSize, false)
    ∷ (refusal.NotLocked, lock j)
    ∷ (refusal.NoObject, false)
    ∷ (refusal.Busy, not_busy tx (Free id) j)
    ∷ (refusal.NoObject, not_missing tx (Free id) j)
    ∷ (refusal.NoObject, gone j)
    ∷ (refusal.RootKept, frees_root tx (Free id))
    ∷ (refusal.Listed, is_listed tx.pool.objects id.off)
    ∷ (refusal.OutOfRange, false)
    ∷ (refusal.NotAdded, false)
    ∷ (refusal.LogFull, false)
    ∷ (refusal.ActionsFull, passes_actions tx (Free id))
    ∷ (refusal.NoSpace, false)
    ∷ [])))

-- the refusals one by one, where no object is in a list
module _ (tx : Transaction) (id : Oid) (works : Works tx) where
  pub free_unheld : is_not_held tx true id ≡ true → first_refusal unhindered tx (Free id) ≡ Some refusal.NotLocked
  unfolding first_of_frees
  free_unheld missing = free_checks tx id works ∙ (λ j. first_of_frees (missing j) (is_gone tx id.off) (frees_root tx (Free id)) (is_listed tx.pool.objects id.off) (passes_actions tx (Free id)))

  pub free_gone : is_not_held tx true id ≡ false → is_gone tx id.off ≡ true → first_refusal unhindered tx (Free id) ≡ Some refusal.NoObject
  unfolding first_of_frees
  free_gone held gone = free_checks tx id works ∙ (λ j. first_of_frees (held j) (gone j) (frees_root tx (Free id)) (is_listed tx.pool.objects id.off) (passes_actions tx (Free id)))

  pub free_of_root : is_not_held tx true id ≡ false → is_gone tx id.off ≡ false → frees_root tx (Free id) ≡ true → first_refusal unhindered tx (Free id) ≡ Some refusal.RootKept
  unfolding first_of_frees
  free_of_root held left root = free_checks tx id works ∙ (λ j. first_of_frees (held j) (left j) (root j) (is_listed tx.pool.objects id.off) (passes_actions tx (Free id)))

  pub free_roomless : is_not_held tx true id ≡ false → is_gone tx id.off ≡ false → frees_root tx (Free id) ≡ false → is_listed tx.pool.objects id.off ≡ false → passes_actions tx (Free id) ≡ true
      → first_refusal unhindered tx (Free id) ≡ Some refusal.ActionsFull
  unfolding first_of_frees
  free_roomless held left other unlisted full = free_checks tx id works ∙ (λ j. first_of_frees (held j) (left j) (other j) (unlisted j) (full j))

  pub free_passes : is_not_held tx true id ≡ false → is_gone tx id.off ≡ false → frees_root tx (Free id) ≡ false → is_listed tx.pool.objects id.off ≡ false → passes_actions tx (Free id) ≡ false
      → first_refusal unhindered tx (Free id) ≡ None
  unfolding first_of_frees
  free_passes held left other unlisted room = free_checks tx id works ∙ (λ j. first_of_frees (held j) (left j) (other j) (unlisted j) (room j))

-- ---- what the lane has

-- what the lane has of its pool the transaction holds
pub had_is_held : (v : View) (tx : Transaction) (id : Oid) (write : Bool) → tx.pool.id ≡ v.pool → AreSameLocks tx.locks (locks_of v) → TracksBlocks tx (blocks_in v) → id.pool ≡ v.pool → has_at v id.off write ≡ true
    → is_not_held tx write id ≡ false
had_is_held v tx id write of_pool locks tracks same has =
    ap not (and_from (eqb id.pool tx.pool.id) (holds_object tx id.off write) (eq-eqb id.pool tx.pool.id (same ∙ sym of_pool)) ((λ j. tracks_new v tx tracks id.off j || locks.same id.off write j) ∙ has))

-- it made what the lane's call made
pub tracks_made : (v : View) (tx : Transaction) → TracksBlocks tx (blocks_in v) → (off : ℕ) → is_among tx.made off ≡ is_made_in v off
tracks_made v tx tracks off = ap (λ (xs : List ℕ). is_among xs off) tracks.made ∙ any_map (λ other. eqb other off) (λ (n : NewObject). n.off) (blocks_in v).made

-- ---- the root

pub root_differs : (root : Option ℕ) (off : ℕ) → root ≢ Some off → option_map_or (λ r. eqb r off) root false ≡ false
root_differs None off differ = refl
root_differs (Some r) off differ = ne_eqb r off (λ same. differ (ap (λ (n : ℕ). Some n) same))

pub root_is : (root : Option ℕ) (off : ℕ) → root ≡ Some off → option_map_or (λ r. eqb r off) root false ≡ true
root_is root off same = ap (λ (o : Option ℕ). option_map_or (λ r. eqb r off) o false) same ∙ eq-eqb off off refl

-- ---- lists

-- where no object has members, none is in a list
no_members : (objects : Objects) → All (λ (e : ℕ × Object). e.1.members ≡ []) objects → all_members objects ≡ []
no_members [] none = refl
no_members (e ∷ es) none =
    let here : e.1.members ≡ [] = All-head (λ (x : ℕ × Object). x.1.members ≡ []) e es none in
    let later : all_members es ≡ [] = no_members es (All-tail (λ (x : ℕ × Object). x.1.members ≡ []) e es none) in
    (λ j. here j ++ later j)

unlisted_by : (objects : Objects) (off : ℕ) → all_members objects ≡ [] → ((object : Object) → object_at objects off ≡ Some object → object.members ≡ []) → is_listed objects off ≡ false
unlisted_by objects off none each =
    or_from (is_among (all_members objects) off) (option_map_or (λ (object : Object). leb 1 (length object.members)) (object_at objects off) false)
    (ap (λ (xs : List ℕ). is_among xs off) none) (go (object_at objects off) each) where
      go : (o : Option Object) → ((object : Object) → o ≡ Some object → object.members ≡ []) → option_map_or (λ (object : Object). leb 1 (length object.members)) o false ≡ false
      go None has = refl
      go (Some object) has = ap (λ (ms : List ℕ). leb 1 (length ms)) (has object refl)

-- no object has members of a pool that words hold, whose heap has no fault
held_has_none : (w : ℕ → ℕ) (lanes zones : ℕ) (header : Header) (pool : PoolView) → HoldsPool w lanes zones header pool → (off : ℕ) (object : Object) → object_at pool.objects off ≡ Some object → object.members ≡ []
held_has_none w lanes zones header pool holds off object is =
    let found = block_is_there w lanes zones off header pool object holds is in
    let none : first_in w found.block ≡ 0 = first_none w found.block (links_taken w lanes zones found.block holds.no_fault found.is_there) in
    ap (λ (x : Object). x.members) found.is_object ∙ ap (walk w _) none ∙ walk_nowhere w _

pub held_unlisted : (w : ℕ → ℕ) (lanes zones : ℕ) (header : Header) (pool : PoolView) → HoldsPool w lanes zones header pool → (off : ℕ) → is_listed pool.objects off ≡ false
held_unlisted w lanes zones header pool holds off =
    let each : (o : ℕ) (object : Object) → object_at pool.objects o ≡ Some object → object.members ≡ [] = held_has_none w lanes zones header pool holds in
    unlisted_by pool.objects off
    (no_members pool.objects (λ k d inside. let e : ℕ × Object = get_or pool.objects k d in each e.0 e.1 (stands_there pool.objects k d (objects_rise w lanes zones header pool holds) inside)))
    (each off)

-- ---- the transaction of an open call

module _ (v : View) (w : ℕ → ℕ) (header : Header) (pool : PoolView) (level : ℕ) (under_way : IsUnderWay v level stage.Work error.None) (holds : HoldsPool w v.lanes v.zones header pool) (c : ComesTo v w header pool level stage.Work error.None) where
  -- the root's word is in no chunk, so it is not recorded
  root_unrecorded : is_recorded v.log.records 64 ≡ false
  root_unrecorded = false_from_ne_true (is_recorded v.log.records 64) (λ recorded.
      let under : IsUnderBlock v 64 = under_way.under 64 recorded in
      let behind = chunk_is_behind v.lanes under.lock.line (under_way.chunks under.lock under.lines under.held under.found) in
      let from = under.from in omega (arith, behind, from))

  -- and the transaction has the root of the pool before it
  pub same_root : c.tx.pool.root ≡ pool.root
  same_root =
      ap (λ (p : PoolView). p.root) c.changed.fixed ∙ ap (λ (p : PoolView). p.root) c.holds.is_pool
      ∙ ap (λ (n : ℕ). cond (eqb n 0) None (Some n)) (other_call_word v w 64 root_unrecorded) ∙ sym (ap (λ (p : PoolView). p.root) holds.is_pool)

  pub not_the_root : (id : Oid) → pool.root ≢ Some id.off → frees_root c.tx (Free id) ≡ false
  not_the_root id differ = ap (λ (o : Option ℕ). option_map_or (λ r. eqb r id.off) o false) same_root ∙ root_differs pool.root id.off differ

  pub the_root : (id : Oid) → pool.root ≡ Some id.off → frees_root c.tx (Free id) ≡ true
  the_root id same = ap (λ (o : Option ℕ). option_map_or (λ r. eqb r id.off) o false) same_root ∙ root_is pool.root id.off same

  -- no object has members: neither one that the call made, nor one of a heap with no fault
  has_no_members : (off : ℕ) (object : Object) → object_at c.tx.pool.objects off ≡ Some object → object.members ≡ []
  has_no_members off object is = ⊎_elim
      (λ (made : is_made_in v off ≡ true).
      let t = Any-from_list_any (is_at off) (blocks_in v).made made in
      let there : Contains (blocks_in v).made t.1 = (t.0, t.2, t.3) in
      let at : t.1.off ≡ off = eqb-true t.1.off off t.4 in
      let same : Some (object_made v t.1) ≡ Some object = sym (c.changed.new t.1 there) ∙ ap (object_at c.tx.pool.objects) at ∙ is in
      ap (λ (x : Object). x.members) (sym (same_Some (object_made v t.1) object same)))
      (λ (not_made : is_made_in v off ≡ false). ⊎_elim
      (λ (freed : is_freed_in v off ≡ true). absurd (let clash : None ≡ Some object = sym (c.changed.gone off freed) ∙ is in cc))
      (λ (kept : is_freed_in v off ≡ false). held_has_none (call_words v w) v.lanes v.zones header c.base c.holds off object (sym (c.changed.others off not_made kept) ∙ is))
      (cases_Bool (is_freed_in v off)))
      (cases_Bool (is_made_in v off))

  pub unlisted : (off : ℕ) → is_listed c.tx.pool.objects off ≡ false
  unlisted off = unlisted_by c.tx.pool.objects off
      (no_members c.tx.pool.objects (λ k d inside. let e : ℕ × Object = get_or c.tx.pool.objects k d in has_no_members e.0 e.1 (stands_there c.tx.pool.objects k d c.changed.rising inside)))
      (has_no_members off)
