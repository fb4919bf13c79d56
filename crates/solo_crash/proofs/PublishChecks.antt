-- The checks of a publish, in the order in which the plain model makes them, over all that is pending: what is to be freed, and what is to be set.
use Rattle.std.proofs.Common.{◌≡◌, ◌≢◌, ◌+◌, ◌||◌, Bool, true, false, ltb, List, [], ◌∷◌, length, map, Option, Some, sym, ◌∙◌, ap}
use Rattle.std.specs.List.{Any, find, list_any}
use Rattle.std.specs.Option.{option_map}
use Rattle.std.proofs.Math.Bool.{or-false}
use Rattle.std.proofs.lemmas.Bool.{le-ltb}
use Rattle.std.proofs.lemmas.List.Elements.{All-weaker}
use Rattle.std.proofs.lemmas.List.Folds.{list_any-append, list_any-from_Any, list_any_none}
use Rattle.pm_objects.specs.declared.calls.Operation.TheVariants.{Publish}
use Rattle.pm_objects.specs.declared.calls.Want.{Want}
use Rattle.pm_objects.specs.declared.ids.Oid.{Oid}
use Rattle.pm_objects.specs.declared.pool.PoolView.{PoolView}
use Rattle.pm_objects.specs.declared.refusal.Refusal.{Refusal}
use Rattle.pm_objects.specs.declared.refusal.Refusal.TheVariants as refusal
use Rattle.solo_model.specs.Actions.{Action, Pending, max_entries, object_of, passes_object, wants_for, wants_pending}
use Rattle.solo_model.specs.Checks.{first_refusal, frees_listed, frees_root, is_not_held, is_not_locked, is_root, is_unlocked_action, names_gone, passes_end}
use Rattle.solo_model.specs.Transaction.{Transaction, entries_of, is_gone, locked_all, published}
use Rattle.solo_crash.specs.CallBlocks.{FreeNoRoot}
use Rattle.solo_crash.proofs.CallBlocks.{any_map}
use Rattle.solo_crash.proofs.FreeChecks.{root_differs, root_is}
use Rattle.solo_crash.proofs.Passing.{no_tx, no_work, not_busy, not_missing, not_spent, unhindered, Works}

-- a test of the objects that are wanted is one of those to be freed, and of those to be set
pub any_wanted : (f : Oid → Bool) (p : Pending) → list_any (λ (want : Want). f want.id) (wants_pending p) ≡ (list_any f p.frees || list_any (λ (a : Action). f (object_of a)) p.sets)
any_wanted f p =
    let free : Oid → Want = λ id. record { id = id; write = true } in
    let set : Action → Want = λ a. record { id = object_of a; write = true } in
    list_any-append (λ (want : Want). f want.id) (map free p.frees) (wants_for p.sets)
    ∙ (λ j. any_map (λ (want : Want). f want.id) free p.frees j || any_map (λ (want : Want). f want.id) set p.sets j)

-- one of them is not held for writing, or is gone
abbrev pub any_unheld : Transaction → Pending → Bool
any_unheld tx p = list_any (λ (want : Want). is_not_held tx true want.id) (wants_pending p)

abbrev pub any_gone : Transaction → Pending → Bool
any_gone tx p = list_any (λ (want : Want). is_gone tx want.id.off) (wants_pending p)

unlocked_wanted : (tx : Transaction) → is_not_locked tx Publish ≡ any_unheld tx tx.actions
unlocked_wanted tx =
    let unlocked : Bool = list_any (is_not_held tx true) tx.actions.frees || list_any (is_unlocked_action tx) tx.actions.sets in
    or-false (unlocked || false) ∙ or-false unlocked ∙ sym (any_wanted (is_not_held tx true) tx.actions)

gone_wanted : (tx : Transaction) → names_gone tx Publish ≡ (tx.actions.late || any_gone tx tx.actions)
gone_wanted tx =
    let p : Pending = tx.actions in
    ap (λ (b : Bool). p.late || b)
    (list_any-append (is_gone tx) (map (λ (id : Oid). id.off) p.frees) (map (λ (a : Action). (object_of a).off) p.sets)
    ∙ (λ j. any_map (is_gone tx) (λ (id : Oid). id.off) p.frees j || any_map (is_gone tx) (λ (a : Action). (object_of a).off) p.sets j)
    ∙ sym (any_wanted (λ (id : Oid). is_gone tx id.off) p))

-- the first refusal of a publish, by what the checks of locks, of what is gone, of the root, of lists, of ends and of room say
unfoldable pub first_of_publish : Bool → Bool → Bool → Bool → Bool → Bool → Option Refusal
first_of_publish unheld gone of_root listed past full = option_map (λ (check : Refusal × Bool). check.0) (find (λ (check : Refusal × Bool). check.1)
    ((refusal.NotLocked, unheld) ∷ (refusal.NoObject, gone) ∷ (refusal.RootKept, of_root) ∷ (refusal.Listed, listed) ∷ (refusal.OutOfRange, past) ∷ (refusal.ActionsFull, full) ∷ []))

pub publish_checks : (tx : Transaction) → Works tx
    → first_refusal unhindered tx Publish
    ≡ first_of_publish (any_unheld tx tx.actions) (tx.actions.late || any_gone tx tx.actions) (frees_root tx Publish) (frees_listed tx Publish) (list_any (passes_object tx.pool.objects) tx.actions.sets) (ltb max_entries (entries_of (published tx) + 1))
unfolding first_refusal first_of_publish locked_all
publish_checks tx works =
    let past : passes_end tx Publish ≡ list_any (passes_object tx.pool.objects) tx.actions.sets = or-false (list_any (passes_object tx.pool.objects) tx.actions.sets) in
    (λ j. option_map (λ (check : Refusal × Bool). check.0) (find (λ (check : Refusal × Bool). check.1)
    ((refusal.NotWork, no_work tx works j)
    ∷ (refusal.NoTx, no_tx tx Publish works j)
    ∷ (refusal.Spent, not_spent tx j)
    ∷ (refusal.Deep, false)
    ∷ (refusal.LocksFull, (le-ltb 64 (length tx.locks) works.few) j)
    ∷ (refusal.Unaligned, false)
    ∷ (refusal.BadSize, false)
    ∷ (refusal.NotLocked, unlocked_wanted tx j)
    ∷ (refusal.NoObject, false)
    ∷ (refusal.Busy, not_busy tx Publish j)
    ∷ (refusal.NoObject, not_missing tx Publish j)
    ∷ (refusal.NoObject, gone_wanted tx j)
    ∷ (refusal.RootKept, frees_root tx Publish)
    ∷ (refusal.Listed, frees_listed tx Publish)
    ∷ (refusal.OutOfRange, past j)
    ∷ (refusal.NotAdded, false)
    ∷ (refusal.LogFull, false)
    ∷ (refusal.ActionsFull, ltb max_entries (entries_of (published tx) + 1))
    ∷ (refusal.NoSpace, false)
    ∷ [])))

-- ---- the root

-- none of these is the root, or one is
pub none_is_root : (pool : PoolView) (ids : List Oid) → FreeNoRoot pool.root ids → list_any (is_root pool) ids ≡ false
none_is_root pool ids others =
    list_any_none (is_root pool) ids (All-weaker (λ (id : Oid). pool.root ≢ Some id.off) (λ (id : Oid). is_root pool id ≡ false) (λ id differ. root_differs pool.root id.off differ) ids others)

pub one_is_root : (pool : PoolView) (ids : List Oid) → Any (λ (id : Oid). pool.root ≡ Some id.off) ids → list_any (is_root pool) ids ≡ true
one_is_root pool ids (k, id, inside, at, same) = list_any-from_Any (is_root pool) ids (k, id, inside, at, root_is pool.root id.off same)
