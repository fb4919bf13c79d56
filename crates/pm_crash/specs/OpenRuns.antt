-- A CALL THAT IS OPEN STILL, against the plain model: its operations so far with their replies. What
-- they make of a transaction, but for its pool and its copy of the objects, follows from them alone.
use Rattle.std.specs.Prelude.{◌≡◌, Bool, true, List, [], ◌∷◌, None}
use Rattle.pm_model.specs.Items.{Items, PlainPool}
use Rattle.pm_model.specs.Inside.{Ran, Replies, after, after_reply, is_kept_by}
use Rattle.pm_model.specs.Transaction.{Transaction, is_working}
use Rattle.pm_view.specs.View.{Told}

-- the transaction after what was told
unfoldable pub after_told : List Told → Transaction → Transaction
after_told [] tx = tx
after_told (t ∷ told) tx = after_told told (after_reply t.operation t.reply tx)

-- the same lists on another pool and another copy
abbrev pub on_pool : PlainPool → Items → Transaction → Transaction
on_pool before copy tx = record tx { before = before; items = copy }

-- a pool without objects
abbrev pub no_pool : PlainPool
no_pool = record { id = 0; name = []; lanes = 0; zones = 0; items = λ off. None; root = None }

-- what is pending before these operations is published in the end: so it is if what is pending after
-- them is, unless they cancel it
unfoldable pub is_kept_if : Bool → List Ran → Bool
is_kept_if kept [] = kept
is_kept_if kept (ran ∷ rest) = is_kept_by ran.operation (is_kept_if kept rest)

-- each of them finds the transaction at work and replies as the model says, if what is pending after
-- them is kept or not
unfoldable pub RepliesOn : Bool → Transaction → List Ran → Type 0
RepliesOn kept tx [] = Unit {0}
RepliesOn kept tx (ran ∷ rest) =
    (is_working tx.stage ≡ true) × Replies tx ran (is_kept_if kept rest)
    × RepliesOn kept (after ran tx) rest

-- so they do where the first finds none open
unfoldable pub AreReplies : Bool → Transaction → List Ran → Type 0
AreReplies kept tx [] = Unit {0}
AreReplies kept tx (ran ∷ rest) =
    Replies tx ran (is_kept_if kept rest) × RepliesOn kept (after ran tx) rest

-- one more may follow: it is the first, or finds the transaction at work
abbrev pub MayFollow : List Ran → Transaction → Type 0
MayFollow [] tx = Unit {0}
MayFollow (ran ∷ rest) tx = is_working tx.stage ≡ true
