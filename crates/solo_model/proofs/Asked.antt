-- What an operation that is done has passed, and on what its answer depends.
use Rattle.std.proofs.Common.{◌≡◌, ⊎_elim, ℕ, ◌+◌, List, [], ◌∷◌, length, Option, Some, None, Bool, true, false, cond, eqb, ltb, ◌&&◌, ◌||◌, refl, sym, ◌∙◌, ap, arith}
use Rattle.std.specs.List.{find, list_any}
use Rattle.std.specs.Option.{option_map, option_map_or}
use Rattle.std.proofs.lemmas.Bool.{cases_Bool, false≢true, not-false, and_parts, eqb-true, or_parts}
use Rattle.pm_objects.specs.Pool.{Objects, object_at}
use Rattle.pm_objects.specs.declared.calls.Operation.{Operation}
use Rattle.pm_objects.specs.declared.calls.Operation.TheVariants.{Free, Publish}
use Rattle.pm_objects.specs.declared.ids.Oid.{Oid}
use Rattle.pm_objects.specs.declared.pool.Object.{Object}
use Rattle.pm_objects.specs.declared.refusal.Refusal.{Refusal}
use Rattle.pm_objects.specs.declared.refusal.Refusal.TheVariants as refusal
use Rattle.solo_model.specs.Transaction.{Transaction, all_made, all_released, entries_of, given_over, holds_object, published}
use Rattle.solo_model.specs.Actions.{Action, Pending, Reservation, end_of, is_plain, object_of, passes_object}
use Rattle.solo_model.specs.Bytes.{bytes_of}
use Rattle.solo_model.specs.Checks.{Seen, Range, range_of, needs_write, finds_no_work, finds_no_tx, is_spent, is_too_deep, passes_locks, is_lock_missing, is_publish, is_unaligned, is_bad_size, is_not_held, is_unlocked_action, publishes_unlocked, frees_unlocked, names_gone, is_free, frees_root, frees_listed, finds_no_space, publishes_past_end, passes_actions, is_not_locked, wants_no_place, is_busy, is_missing, passes_end_of, passes_end, is_not_added, passes_log, checks, first_refusal, is_listed, is_root, lacks_reservation, puts_past_end}
use Rattle.solo_model.proofs.Locking.{holds_to_read}

-- the transaction over other objects, of a pool with another root
abbrev pub over : Transaction → Objects → Objects → Option ℕ → Transaction
over tx objects before root = record tx {
  pool = record tx.pool { objects = objects; root = root };
  before = record tx.before { objects = before; root = root };
}

-- the rows of the checks, for any answers of those on locks, on frees, on the object's end and on the room for entries
rows : Seen → Transaction → Operation → Bool → Bool → Bool → Bool → Bool → List (Refusal × Bool)
rows seen tx op not_locked of_root listed past_end full =
    (refusal.NotWork, finds_no_work tx)
    ∷ (refusal.NoTx, finds_no_tx tx op)
    ∷ (refusal.Spent, is_spent seen tx)
    ∷ (refusal.Deep, is_too_deep tx op)
    ∷ (refusal.LocksFull, passes_locks tx op)
    ∷ (refusal.Unaligned, is_unaligned op)
    ∷ (refusal.BadSize, is_bad_size op)
    ∷ (refusal.NotReserved, lacks_reservation tx.pool tx.actions op)
    ∷ (refusal.NotLocked, not_locked)
    ∷ (refusal.NoObject, wants_no_place tx op)
    ∷ (refusal.Busy, is_busy seen tx op)
    ∷ (refusal.NoObject, is_missing seen tx op)
    ∷ (refusal.NoObject, names_gone tx op)
    ∷ (refusal.RootKept, of_root)
    ∷ (refusal.Listed, listed)
    ∷ (refusal.OutOfRange, past_end)
    ∷ (refusal.NotAdded, is_not_added tx op)
    ∷ (refusal.LogFull, passes_log tx op)
    ∷ (refusal.ActionsFull, full)
    ∷ (refusal.NoSpace, finds_no_space seen op)
    ∷ []

first_row : List (Refusal × Bool) → Option Refusal
first_row checks = option_map (λ check. check.0) (find (λ check. check.1) checks)

-- an object's end is looked at only under its lock
end_under_lock : (seen : Seen) (tx : Transaction) (op : Operation) (not_locked of_root listed one other full : Bool) → (not_locked ≡ false → one ≡ other)
    → first_row (rows seen tx op not_locked of_root listed one full) ≡ first_row (rows seen tx op not_locked of_root listed other full)
unfolding rows first_row
end_under_lock seen tx op true of_root listed one other full same = refl
end_under_lock seen tx op false of_root listed one other full same = ap (λ (b : Bool). first_row (rows seen tx op false of_root listed b full)) (same refl)

-- nothing is to be freed or reserved
pub record IsPlain (p : Pending) : Type 0 where
  pub frees : p.frees ≡ []
  pub reserved : p.reserved ≡ []

pub plain_from : (p : Pending) → is_plain p ≡ true → IsPlain p
plain_from p plain =
    let parts = and_parts (eqb (length p.frees) 0) (eqb (length p.reserved) 0) plain in
    record { frees = none p.frees (eqb-true (length p.frees) 0 parts.0); reserved = none p.reserved (eqb-true (length p.reserved) 0 parts.1) } where
      none : {A : Type 0} (xs : List A) → length xs ≡ 0 → xs ≡ []
      none [] empty = refl
      none (x ∷ xs) empty = absurd (omega (arith, empty))

-- an operation that is no free frees nothing, where nothing is to be freed
pub frees_no_root : (tx : Transaction) (op : Operation) → is_free op ≡ false → IsPlain tx.actions → frees_root tx op ≡ false
frees_no_root tx (Free id) other plain = absurd (false≢true (sym other))
frees_no_root tx Publish other plain = ap (list_any (is_root tx.pool)) plain.frees
frees_no_root tx op other plain = refl

pub frees_none_listed : (tx : Transaction) (op : Operation) → is_free op ≡ false → IsPlain tx.actions → frees_listed tx op ≡ false
frees_none_listed tx (Free id) other plain = absurd (false≢true (sym other))
frees_none_listed tx Publish other plain = ap (list_any (λ (id : Oid). is_listed tx.pool.objects id.off)) plain.frees
frees_none_listed tx op other plain = refl

-- what is published is given over then, and no more
none_made : (ids : List Oid) (rs : List Reservation) (tx : Transaction) → ids ≡ [] → rs ≡ [] → all_made rs (all_released ids tx) ≡ tx
none_made ids rs tx no_ids no_rs = (λ j. all_made (no_rs j) (all_released (no_ids j) tx))

pub published_plain : (tx : Transaction) → IsPlain tx.actions → published tx ≡ given_over tx
published_plain tx plain = none_made tx.actions.frees tx.actions.reserved (given_over tx) plain.frees plain.reserved

-- and its entries are as many over other objects
same_room : (tx : Transaction) (op : Operation) (objects before : Objects) (root : Option ℕ) → IsPlain tx.actions → passes_actions (over tx objects before root) op ≡ passes_actions tx op
same_room tx Publish objects before root plain =
    ap (λ (t : Transaction). ltb 64 (entries_of t + 1)) (published_plain (over tx objects before root) (record { frees = plain.frees; reserved = plain.reserved }))
    ∙ sym (ap (λ (t : Transaction). ltb 64 (entries_of t + 1)) (published_plain tx plain))
same_room tx op objects before root plain = refl

pub frees_none_unlocked : (tx : Transaction) (op : Operation) → is_free op ≡ false → frees_unlocked tx op ≡ false
frees_none_unlocked tx (Free id) other = absurd (false≢true (sym other))
frees_none_unlocked tx op other = refl

-- an object that an access finds held is held
pub held_object : (tx : Transaction) (write : Bool) (id : Oid) → is_not_held tx write id ≡ false → holds_object tx id.off write ≡ true
held_object tx write id held =
    (and_parts (eqb id.pool tx.pool.id) (holds_object tx id.off write) (not-false (eqb id.pool tx.pool.id && holds_object tx id.off write) held)).1

-- a range under a lock is held
pub range_held : (tx : Transaction) (write : Bool) (range : Range) → is_lock_missing tx write range ≡ false → holds_object tx range.id.off false ≡ true
range_held tx write range held = holds_to_read tx range.id.off write (held_object tx write range.id held)

pub same_bytes : (one other : Objects) (off : ℕ) → object_at one off ≡ object_at other off → bytes_of one off ≡ bytes_of other off
same_bytes one other off same = ap (λ (o : Option Object). option_map_or (λ (object : Object). object.bytes) o []) same

same_end : (tx : Transaction) (objects before : Objects) (root : Option ℕ) (write : Bool) (range : Option Range)
    → ((off : ℕ) → holds_object tx off false ≡ true → object_at objects off ≡ object_at tx.pool.objects off)
    → option_map_or (is_lock_missing tx write) range false ≡ false
    → option_map_or (passes_end_of (over tx objects before root)) range false ≡ option_map_or (passes_end_of tx) range false
same_end tx objects before root write None same held = refl
same_end tx objects before root write (Some range) same held =
    ap (λ (bytes : List ℕ). ltb (length bytes) (range.off + range.len)) (same_bytes objects tx.pool.objects range.id.off (same range.id.off (range_held tx write range held)))

-- an action whose object is the same passes its end alike
pub same_passes : (one other : Objects) (a : Action) → object_at one (object_of a).off ≡ object_at other (object_of a).off → passes_object one a ≡ passes_object other a
same_passes one other a same = ap (λ (bytes : List ℕ). ltb (length bytes) (end_of a)) (same_bytes one other (object_of a).off same)

-- an action under a lock is of a held object
pub action_held : (tx : Transaction) (a : Action) → is_unlocked_action tx a ≡ false → holds_object tx (object_of a).off true ≡ true
action_held tx a held = held_object tx true (object_of a) held

same_ends : (tx : Transaction) (objects : Objects) (actions : List Action) → ((off : ℕ) → holds_object tx off false ≡ true → object_at objects off ≡ object_at tx.pool.objects off)
    → list_any (is_unlocked_action tx) actions ≡ false → list_any (passes_object objects) actions ≡ list_any (passes_object tx.pool.objects) actions
same_ends tx objects [] same held = refl
same_ends tx objects (a ∷ actions) same held =
    let t = or_parts (is_unlocked_action tx a) (list_any (is_unlocked_action tx) actions) held in
    let off : ℕ = (object_of a).off in
    let one : passes_object objects a ≡ passes_object tx.pool.objects a = same_passes objects tx.pool.objects a (same off (holds_to_read tx off true (action_held tx a t.0))) in
    let rest : list_any (passes_object objects) actions ≡ list_any (passes_object tx.pool.objects) actions = same_ends tx objects actions same t.1 in
    (λ i. one i || rest i)

same_published : (tx : Transaction) (objects before : Objects) (root : Option ℕ) (publishes : Bool) → ((off : ℕ) → holds_object tx off false ≡ true → object_at objects off ≡ object_at tx.pool.objects off)
    → (publishes && (list_any (is_not_held tx true) tx.actions.frees || list_any (is_unlocked_action tx) tx.actions.sets)) ≡ false
    → (publishes && list_any (passes_object objects) tx.actions.sets) ≡ (publishes && list_any (passes_object tx.pool.objects) tx.actions.sets)
same_published tx objects before root true same held =
    same_ends tx objects tx.actions.sets same (or_parts (list_any (is_not_held tx true) tx.actions.frees) (list_any (is_unlocked_action tx) tx.actions.sets) held).1
same_published tx objects before root false same held = refl

-- objects that are the same wherever one is held have the same first refusal
pub same_refusal : (seen : Seen) (tx : Transaction) (op : Operation) (objects before : Objects) (root : Option ℕ) → is_free op ≡ false → IsPlain tx.actions
    → ((off : ℕ) → holds_object tx off false ≡ true → object_at objects off ≡ object_at tx.pool.objects off)
    → first_refusal seen (over tx objects before root) op ≡ first_refusal seen tx op
unfolding first_refusal first_row rows
same_refusal seen tx op objects before root no_free plain same =
    let other_tx : Transaction = over tx objects before root in
    let other_plain : IsPlain other_tx.actions = record { frees = plain.frees; reserved = plain.reserved } in
    (λ i. first_row (rows seen tx op (is_not_locked tx op)
    ((frees_no_root other_tx op no_free other_plain ∙ sym (frees_no_root tx op no_free plain)) i)
    ((frees_none_listed other_tx op no_free other_plain ∙ sym (frees_none_listed tx op no_free plain)) i) (passes_end other_tx op) (same_room tx op objects before root plain i)))
    ∙ end_under_lock seen tx op (is_not_locked tx op) (frees_root tx op) (frees_listed tx op) (passes_end other_tx op) (passes_end tx op) (passes_actions tx op)
    (λ held.
    let both = or_parts (publishes_unlocked tx op || frees_unlocked tx op) (option_map_or (is_lock_missing tx (needs_write op)) (range_of op) false) held in
    let one : publishes_past_end (over tx objects before root) op ≡ publishes_past_end tx op = same_published tx objects before root (is_publish op) same (or_parts (publishes_unlocked tx op) (frees_unlocked tx op) both.0).0 in
    let other : option_map_or (passes_end_of (over tx objects before root)) (range_of op) false ≡ option_map_or (passes_end_of tx) (range_of op) false =
    same_end tx objects before root (needs_write op) (range_of op) same both.1 in
    (λ i. puts_past_end tx.actions op || (one i || other i)))

-- none of them passes the test
unfoldable pub NonePasses : {A : Type 0} → (A → Bool) → List A → Type 0
NonePasses p [] = Unit {0}
NonePasses p (x ∷ xs) = (p x ≡ false) × NonePasses p xs

pub none_passes : {A : Type 0} (p : A → Bool) (xs : List A) → find p xs ≡ None → NonePasses p xs
unfolding NonePasses
none_passes p [] none = tt
none_passes p (x ∷ xs) none = ⊎_elim
    (λ (here : p x ≡ true). absurd (let clash : Some x ≡ None = sym (ap (λ (b : Bool). cond b (Some x) (find p xs)) here) ∙ none in cc))
    (λ (off : p x ≡ false). (off, none_passes p xs (sym (ap (λ (b : Bool). cond b (Some x) (find p xs)) off) ∙ none)))
    (cases_Bool (p x))

pub unmapped : {A B : Type 0} (f : A → B) (o : Option A) → option_map f o ≡ None → o ≡ None
unmapped f None none = refl
unmapped f (Some x) none = absurd (let clash : Some (f x) ≡ None = none in cc)

-- an operation that is not refused has its lock, and its range ends in the object
pub passed_lock : (seen : Seen) (tx : Transaction) (op : Operation) → first_refusal seen tx op ≡ None → is_not_locked tx op ≡ false
unfolding first_refusal NonePasses
passed_lock seen tx op none =
    let found : Option (Refusal × Bool) = find (λ (check : Refusal × Bool). check.1) (checks seen tx op) in
    let passed : NonePasses (λ (check : Refusal × Bool). check.1) (checks seen tx op) =
    none_passes (λ (check : Refusal × Bool). check.1) (checks seen tx op) (unmapped (λ (check : Refusal × Bool). check.0) found none) in
    passed.1.1.1.1.1.1.1.1.0

pub passed_end : (seen : Seen) (tx : Transaction) (op : Operation) → first_refusal seen tx op ≡ None → passes_end tx op ≡ false
unfolding first_refusal NonePasses
passed_end seen tx op none =
    let found : Option (Refusal × Bool) = find (λ (check : Refusal × Bool). check.1) (checks seen tx op) in
    let passed : NonePasses (λ (check : Refusal × Bool). check.1) (checks seen tx op) =
    none_passes (λ (check : Refusal × Bool). check.1) (checks seen tx op) (unmapped (λ (check : Refusal × Bool). check.0) found none) in
    passed.1.1.1.1.1.1.1.1.1.1.1.1.1.1.1.0

-- an operation that is not refused misses no object
pub passed_missing : (seen : Seen) (tx : Transaction) (op : Operation) → first_refusal seen tx op ≡ None → is_missing seen tx op ≡ false
unfolding first_refusal NonePasses
passed_missing seen tx op none =
    let found : Option (Refusal × Bool) = find (λ (check : Refusal × Bool). check.1) (checks seen tx op) in
    let passed : NonePasses (λ (check : Refusal × Bool). check.1) (checks seen tx op) =
    none_passes (λ (check : Refusal × Bool). check.1) (checks seen tx op) (unmapped (λ (check : Refusal × Bool). check.0) found none) in
    passed.1.1.1.1.1.1.1.1.1.1.1.0

-- an object that is made has a size
pub passed_size : (seen : Seen) (tx : Transaction) (op : Operation) → first_refusal seen tx op ≡ None → is_bad_size op ≡ false
unfolding first_refusal NonePasses
passed_size seen tx op none =
    let found : Option (Refusal × Bool) = find (λ (check : Refusal × Bool). check.1) (checks seen tx op) in
    let passed : NonePasses (λ (check : Refusal × Bool). check.1) (checks seen tx op) =
    none_passes (λ (check : Refusal × Bool). check.1) (checks seen tx op) (unmapped (λ (check : Refusal × Bool). check.0) found none) in
    passed.1.1.1.1.1.1.0

-- one that is freed is not the root, and neither in a list nor with members
pub passed_root : (seen : Seen) (tx : Transaction) (op : Operation) → first_refusal seen tx op ≡ None → frees_root tx op ≡ false
unfolding first_refusal NonePasses
passed_root seen tx op none =
    let found : Option (Refusal × Bool) = find (λ (check : Refusal × Bool). check.1) (checks seen tx op) in
    let passed : NonePasses (λ (check : Refusal × Bool). check.1) (checks seen tx op) =
    none_passes (λ (check : Refusal × Bool). check.1) (checks seen tx op) (unmapped (λ (check : Refusal × Bool). check.0) found none) in
    passed.1.1.1.1.1.1.1.1.1.1.1.1.1.0

pub passed_list : (seen : Seen) (tx : Transaction) (op : Operation) → first_refusal seen tx op ≡ None → frees_listed tx op ≡ false
unfolding first_refusal NonePasses
passed_list seen tx op none =
    let found : Option (Refusal × Bool) = find (λ (check : Refusal × Bool). check.1) (checks seen tx op) in
    let passed : NonePasses (λ (check : Refusal × Bool). check.1) (checks seen tx op) =
    none_passes (λ (check : Refusal × Bool). check.1) (checks seen tx op) (unmapped (λ (check : Refusal × Bool). check.0) found none) in
    passed.1.1.1.1.1.1.1.1.1.1.1.1.1.1.0
