-- The refusals of calls on what is pending: the plain model's first that applies is the one that what is pending gives alone.
use Rattle.std.proofs.Common.{◌≡◌, ℕ, ◌+◌, ◌%◌, ◌&&◌, ◌||◌, Bool, true, false, not, cond, eqb, leb, ltb, List, [], ◌∷◌, length, Option, Some, None, refl, ◌∙◌}
use Rattle.std.specs.Prelude.{find}
use Rattle.std.specs.Option.{option_map}
use Rattle.std.proofs.Math.Bool.{or-false}
use Rattle.pm_objects.specs.declared.calls.Operation.TheVariants.{DeferFree, Reserve, SetValue, WriteReserved}
use Rattle.pm_objects.specs.declared.ids.Oid.{Oid}
use Rattle.pm_objects.specs.declared.pool.PoolView.{PoolView}
use Rattle.pm_objects.specs.declared.refusal.Refusal.{Refusal}
use Rattle.pm_objects.specs.declared.refusal.Refusal.TheVariants as refusal
use Rattle.solo_model.specs.Actions.{Pending, bytes_reserved, is_reserved, max_actions, pending_count}
use Rattle.solo_model.specs.Outside.{refusal_outside}
use Rattle.solo_crash.specs.OnActions.{defer_refusal, set_refusal}
use Rattle.solo_crash.specs.Reserving.{put_refusal}
use Rattle.solo_pending.specs.Pending.{unhindered}

-- the first of some checks that applies
abbrev first_of : List (Refusal × Bool) → Option Refusal
first_of checks = option_map (λ (check : Refusal × Bool). check.0) (find (λ (check : Refusal × Bool). check.1) checks)

-- of two
two_checks : (r s : Refusal) (one other : Bool) → first_of ((r, one) ∷ (s, other) ∷ []) ≡ cond one (Some r) (cond other (Some s) None)
two_checks r s true other = refl
two_checks r s false true = refl
two_checks r s false false = refl

-- and of one
one_check : (r : Refusal) (one : Bool) → first_of ((r, one) ∷ []) ≡ cond one (Some r) None
one_check r true = refl
one_check r false = refl

pub set_answers : (pool : PoolView) (p : Pending) (id : Oid) (off value : ℕ) → refusal_outside unhindered (record { pool = pool; actions = p }) (SetValue id off value) ≡ set_refusal off p
unfolding refusal_outside
set_answers pool p id off value = two_checks refusal.Unaligned refusal.ActionsFull (not (eqb (off % 8) 0)) (leb max_actions (pending_count p))

pub defer_answers : (pool : PoolView) (p : Pending) (id : Oid) → refusal_outside unhindered (record { pool = pool; actions = p }) (DeferFree id) ≡ defer_refusal p
unfolding refusal_outside
defer_answers pool p id = one_check refusal.ActionsFull (leb max_actions (pending_count p))

pub reserve_answers : (pool : PoolView) (p : Pending) (size kind : ℕ)
    → refusal_outside unhindered (record { pool = pool; actions = p }) (Reserve size kind) ≡ cond (eqb size 0 || ltb 262080 size) (Some refusal.BadSize) (defer_refusal p)
unfolding refusal_outside
reserve_answers pool p size kind = two_checks refusal.BadSize refusal.ActionsFull (eqb size 0 || ltb 262080 size) (leb max_actions (pending_count p))

put_checks : (pool : PoolView) (p : Pending) (id : Oid) (off : ℕ) (bytes : List ℕ)
    → refusal_outside unhindered (record { pool = pool; actions = p }) (WriteReserved id off bytes) ≡ put_refusal pool.id p id off (length bytes)
unfolding refusal_outside
put_checks pool p id off bytes =
    let lacks : Bool = not (eqb id.pool pool.id && is_reserved p id.off) in
    let passes : Bool = ltb (length (bytes_reserved p id.off)) (off + length bytes) in
    (λ j. first_of ((refusal.NotReserved, lacks) ∷ (refusal.OutOfRange, or-false passes j) ∷ [])) ∙ two_checks refusal.NotReserved refusal.OutOfRange lacks passes

pub put_answers : (view : PoolView) (p : Pending) (id : Oid) (off : ℕ) (bytes : List ℕ) (pool len : ℕ) → view.id ≡ pool → length bytes ≡ len
    → refusal_outside unhindered (record { pool = view; actions = p }) (WriteReserved id off bytes) ≡ put_refusal pool p id off len
put_answers view p id off bytes pool len of_view long = put_checks view p id off bytes ∙ (λ j. put_refusal (of_view j) p id off (long j))
