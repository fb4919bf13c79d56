-- An operation inside a transaction that passes each check is not refused, and else is refused for the first that it fails.
use Rattle.std.proofs.Common.{◌≡◌, ◌≤◌, ℕ, List, [], ◌∷◌, length, Option, Some, None, Bool, true, false, not, eqb, leb, ltb, ◌&&◌, refl, sym, ◌∙◌, ap, arith}
use Rattle.std.specs.List.{Contains, find, filter, list_any}
use Rattle.std.specs.Option.{option_map}
use Rattle.std.proofs.lemmas.Bool.{and_left, and_right, false≢true, ne_eqb, or_from, le-ltb}
use Rattle.pm_objects.specs.declared.calls.Operation.{Operation}
use Rattle.pm_objects.specs.declared.calls.Operation.TheVariants.{Alloc, Free, Publish, Reserve, WriteReserved}
use Rattle.pm_objects.specs.declared.calls.Want.{Want}
use Rattle.pm_objects.specs.declared.pool.PoolView.{PoolView}
use Rattle.pm_objects.specs.declared.refusal.Refusal.{Refusal}
use Rattle.pm_objects.specs.declared.refusal.Refusal.TheVariants as refusal
use Rattle.solo_model.specs.declared.stage.Stage.{Stage}
use Rattle.solo_model.specs.declared.stage.Stage.TheVariants as stage
use Rattle.solo_model.specs.Places.{has_place}
use Rattle.pm_image.proofs.Members.{first_member, later_member}
use Rattle.solo_model.specs.Actions.{Pending, only_sets}
use Rattle.solo_model.specs.Transaction.{Transaction, is_gone, is_new, is_working, locked_all}
use Rattle.solo_model.specs.Checks.{Seen, wants_of, seeks_block, is_free, is_publish, is_begin, lacks_reservation, puts_past_end, publishes_late, objects_named, is_action, names_gone, frees_root, frees_listed, is_bad_size, is_unaligned, finds_no_space, passes_actions, finds_no_work, finds_no_tx, is_spent, is_too_deep, passes_locks, is_not_locked, wants_no_place, takes_lock, is_busy, takes_first_lock, is_missing, passes_end, is_not_added, passes_log, first_refusal}
use Rattle.solo_crash.specs.CallBlocks.{is_put}
use Rattle.solo_model.proofs.Asked.{IsPlain}

-- what a lane saw that nothing hindered
abbrev pub unhindered : Seen
unhindered = record { spent = false; busy = false; missing = false; full = false }

-- the transaction works, with 64 locks at most
pub record Works (tx : Transaction) : Type 0 where
  pub level : 1 ≤ tx.level
  pub working : tx.stage ≡ stage.Work
  pub few : length tx.locks ≤ 64

-- the operation asks for no lock, and makes, reserves and frees no object
pub record WantsNone (op : Operation) : Type 0 where
  pub no_wants : wants_of op ≡ []
  pub no_begin : is_begin op ≡ false
  pub no_alloc : seeks_block op ≡ false
  pub no_free : is_free op ≡ false
  pub no_put : is_put op ≡ false

-- and is about no pending action
pub record AsksNoLock (op : Operation) : Type 0 where
  pub no_wants : wants_of op ≡ []
  pub no_begin : is_begin op ≡ false
  pub no_alloc : seeks_block op ≡ false
  pub no_free : is_free op ≡ false
  pub no_put : is_put op ≡ false
  pub no_publish : is_publish op ≡ false
  pub aligned : is_unaligned op ≡ false
  pub no_more : (tx : Transaction) → passes_actions tx op ≡ false
  pub no_action : is_action op ≡ false

-- the operation frees no root, and nothing that is in a list or has members
pub record FreesNone (tx : Transaction) (op : Operation) : Type 0 where
  pub no_root : frees_root tx op ≡ false
  pub none_listed : frees_listed tx op ≡ false

-- so it is of one that neither frees nor publishes
pub frees_nothing : (tx : Transaction) (op : Operation) → is_free op ≡ false → is_publish op ≡ false → FreesNone tx op
frees_nothing tx (Free id) other none = absurd (false≢true (sym other))
frees_nothing tx Publish other none = absurd (false≢true (sym none))
frees_nothing tx op other none = record { no_root = refl; none_listed = refl }

-- set-values are all that is pending, so it is plain, and not late
pub only_plain : (p : Pending) → p ≡ only_sets p.sets → IsPlain p
only_plain p alone = record { frees = ap (λ (q : Pending). q.frees) alone; reserved = ap (λ (q : Pending). q.reserved) alone }

-- what is late is published by no other operation
pub not_late : (p : Pending) (op : Operation) → is_publish op ≡ false → publishes_late p op ≡ false
not_late p op other = and_left (is_publish op) p.late other

-- no object that it names is gone, if none is by its offset
pub none_gone_named : (tx : Transaction) (op : Operation) → publishes_late tx.actions op ≡ false → list_any (is_gone tx) (objects_named tx op) ≡ false → names_gone tx op ≡ false
none_gone_named tx op in_time none = or_from (publishes_late tx.actions op) (list_any (is_gone tx) (objects_named tx op)) in_time none

-- an operation that writes nothing into what is reserved lacks no reservation, and passes the end of none
lacks_none : (pool : PoolView) (p : Pending) (op : Operation) → is_put op ≡ false → lacks_reservation pool p op ≡ false
lacks_none pool p (WriteReserved id off bytes) other = absurd (false≢true (sym other))
lacks_none pool p op other = refl

pub puts_none : (p : Pending) (op : Operation) → is_put op ≡ false → puts_past_end p op ≡ false
puts_none p (WriteReserved id off bytes) other = absurd (false≢true (sym other))
puts_none p op other = refl

pub no_work : (tx : Transaction) → Works tx → finds_no_work tx ≡ false
no_work tx works = and_right (leb 1 tx.level) (not (is_working tx.stage)) (ap (λ (s : Stage). not (is_working s)) works.working)

pub at_level : (tx : Transaction) → Works tx → eqb tx.level 0 ≡ false
at_level tx works = let some : 1 ≤ tx.level = works.level in ne_eqb tx.level 0 (λ none. omega arith)

pub no_tx : (tx : Transaction) (op : Operation) → Works tx → finds_no_tx tx op ≡ false
no_tx tx op works = and_left (eqb tx.level 0) (not (is_begin op)) (at_level tx works)

not_deep : (tx : Transaction) (op : Operation) → WantsNone op → is_too_deep tx op ≡ false
not_deep tx op asks = and_left (is_begin op) (leb 64 tx.level) asks.no_begin

few_locks : (tx : Transaction) (op : Operation) → Works tx → WantsNone op → passes_locks tx op ≡ false
unfolding locked_all
few_locks tx op works asks =
    ap (λ (wants : List Want). ltb 64 (length (locked_all (filter (λ (want : Want). not (is_new tx want.id.off) && has_place tx.pool want.id) wants) tx.locks))) asks.no_wants
    ∙ le-ltb 64 (length tx.locks) works.few

has_places : (tx : Transaction) (op : Operation) → WantsNone op → wants_no_place tx op ≡ false
has_places tx op asks = ap (λ (wants : List Want). list_any (λ (want : Want). not (has_place tx.pool want.id)) wants) asks.no_wants

pub not_busy : (tx : Transaction) (op : Operation) → is_busy unhindered tx op ≡ false
not_busy tx op = and_right (leb 1 tx.level && takes_lock tx op) false refl

pub not_missing : (tx : Transaction) (op : Operation) → is_missing unhindered tx op ≡ false
not_missing tx op = and_right (takes_first_lock tx op) false refl

pub not_spent : (tx : Transaction) → is_spent unhindered tx ≡ false
not_spent tx = and_right (eqb tx.level 0) false refl

-- no object is named that is gone
pub none_named : (tx : Transaction) (offs : List ℕ) → ((off : ℕ) → Contains offs off → is_gone tx off ≡ false) → list_any (is_gone tx) offs ≡ false
none_named tx [] none = refl
none_named tx (off ∷ offs) none = or_from (is_gone tx off) (list_any (is_gone tx) offs) (none off (first_member off offs)) (none_named tx offs (λ other there. none other (later_member off offs other there)))

-- an operation that makes and reserves no object has no bad size
makes_none : (op : Operation) → seeks_block op ≡ false → is_bad_size op ≡ false
makes_none (Alloc size kind) other = absurd (false≢true (sym other))
makes_none (Reserve size kind) other = absurd (false≢true (sym other))
makes_none op other = refl

not_full : (op : Operation) → finds_no_space unhindered op ≡ false
not_full op = and_right (seeks_block op) false refl

-- the first refusal, by what the checks of places, locks, ends, words, room and pending actions say
unfoldable pub first_of_six : Bool → Bool → Bool → Bool → Bool → Bool → Option Refusal
first_of_six unaligned not_locked past_end not_added overfull actions_full = option_map (λ (check : Refusal × Bool). check.0) (find (λ (check : Refusal × Bool). check.1)
    ((refusal.Unaligned, unaligned) ∷ (refusal.NotLocked, not_locked) ∷ (refusal.OutOfRange, past_end) ∷ (refusal.NotAdded, not_added) ∷ (refusal.LogFull, overfull) ∷ (refusal.ActionsFull, actions_full) ∷ []))

pub six_checks : (tx : Transaction) (op : Operation) → Works tx → WantsNone op → FreesNone tx op → names_gone tx op ≡ false
    → first_refusal unhindered tx op ≡ first_of_six (is_unaligned op) (is_not_locked tx op) (passes_end tx op) (is_not_added tx op) (passes_log tx op) (passes_actions tx op)
unfolding first_refusal first_of_six
six_checks tx op works wants frees kept =
    (λ j. option_map (λ (check : Refusal × Bool). check.0) (find (λ (check : Refusal × Bool). check.1)
    ((refusal.NotWork, no_work tx works j)
    ∷ (refusal.NoTx, no_tx tx op works j)
    ∷ (refusal.Spent, not_spent tx j)
    ∷ (refusal.Deep, not_deep tx op wants j)
    ∷ (refusal.LocksFull, few_locks tx op works wants j)
    ∷ (refusal.Unaligned, is_unaligned op)
    ∷ (refusal.BadSize, makes_none op wants.no_alloc j)
    ∷ (refusal.NotReserved, lacks_none tx.pool tx.actions op wants.no_put j)
    ∷ (refusal.NotLocked, is_not_locked tx op)
    ∷ (refusal.NoObject, has_places tx op wants j)
    ∷ (refusal.Busy, not_busy tx op j)
    ∷ (refusal.NoObject, not_missing tx op j)
    ∷ (refusal.NoObject, kept j)
    ∷ (refusal.RootKept, frees.no_root j)
    ∷ (refusal.Listed, frees.none_listed j)
    ∷ (refusal.OutOfRange, passes_end tx op)
    ∷ (refusal.NotAdded, is_not_added tx op)
    ∷ (refusal.LogFull, passes_log tx op)
    ∷ (refusal.ActionsFull, passes_actions tx op)
    ∷ (refusal.NoSpace, not_full op j)
    ∷ [])))

pub wants_none : (op : Operation) → AsksNoLock op → WantsNone op
wants_none op asks = record { no_wants = asks.no_wants; no_begin = asks.no_begin; no_alloc = asks.no_alloc; no_free = asks.no_free; no_put = asks.no_put }

-- about no pending action, by four of them
first_of_four : Bool → Bool → Bool → Bool → Option Refusal
first_of_four not_locked past_end not_added overfull = first_of_six false not_locked past_end not_added overfull false

four_checks : (tx : Transaction) (op : Operation) → Works tx → AsksNoLock op → names_gone tx op ≡ false
    → first_refusal unhindered tx op ≡ first_of_four (is_not_locked tx op) (passes_end tx op) (is_not_added tx op) (passes_log tx op)
unfolding first_of_four
four_checks tx op works asks kept =
    six_checks tx op works (wants_none op asks) (frees_nothing tx op asks.no_free asks.no_publish) kept
    ∙ (λ j. first_of_six (asks.aligned j) (is_not_locked tx op) (passes_end tx op) (is_not_added tx op) (passes_log tx op) (asks.no_more tx j))

pub passes_all : (tx : Transaction) (op : Operation) → Works tx → AsksNoLock op → names_gone tx op ≡ false → is_not_locked tx op ≡ false → passes_end tx op ≡ false → is_not_added tx op ≡ false → passes_log tx op ≡ false
    → first_refusal unhindered tx op ≡ None
unfolding first_of_six first_of_four
passes_all tx op works asks kept locked ends added room = four_checks tx op works asks kept ∙ (λ j. first_of_four (locked j) (ends j) (added j) (room j))

-- an object's lock is missed whether the object is gone or not
pub fails_lock : (tx : Transaction) (op : Operation) → Works tx → WantsNone op → is_unaligned op ≡ false → is_not_locked tx op ≡ true → first_refusal unhindered tx op ≡ Some refusal.NotLocked
unfolding first_refusal
fails_lock tx op works wants aligned fails =
    (λ j. option_map (λ (check : Refusal × Bool). check.0) (find (λ (check : Refusal × Bool). check.1)
    ((refusal.NotWork, no_work tx works j)
    ∷ (refusal.NoTx, no_tx tx op works j)
    ∷ (refusal.Spent, not_spent tx j)
    ∷ (refusal.Deep, not_deep tx op wants j)
    ∷ (refusal.LocksFull, few_locks tx op works wants j)
    ∷ (refusal.Unaligned, aligned j)
    ∷ (refusal.BadSize, makes_none op wants.no_alloc j)
    ∷ (refusal.NotReserved, lacks_none tx.pool tx.actions op wants.no_put j)
    ∷ (refusal.NotLocked, fails j)
    ∷ (refusal.NoObject, wants_no_place tx op)
    ∷ (refusal.Busy, is_busy unhindered tx op)
    ∷ (refusal.NoObject, is_missing unhindered tx op)
    ∷ (refusal.NoObject, names_gone tx op)
    ∷ (refusal.RootKept, frees_root tx op)
    ∷ (refusal.Listed, frees_listed tx op)
    ∷ (refusal.OutOfRange, passes_end tx op)
    ∷ (refusal.NotAdded, is_not_added tx op)
    ∷ (refusal.LogFull, passes_log tx op)
    ∷ (refusal.ActionsFull, passes_actions tx op)
    ∷ (refusal.NoSpace, finds_no_space unhindered op)
    ∷ [])))

-- where the lock is held, an object that is gone is
pub fails_gone : (tx : Transaction) (op : Operation) → Works tx → WantsNone op → is_unaligned op ≡ false → is_not_locked tx op ≡ false → names_gone tx op ≡ true → first_refusal unhindered tx op ≡ Some refusal.NoObject
unfolding first_refusal
fails_gone tx op works wants aligned locked gone =
    (λ j. option_map (λ (check : Refusal × Bool). check.0) (find (λ (check : Refusal × Bool). check.1)
    ((refusal.NotWork, no_work tx works j)
    ∷ (refusal.NoTx, no_tx tx op works j)
    ∷ (refusal.Spent, not_spent tx j)
    ∷ (refusal.Deep, not_deep tx op wants j)
    ∷ (refusal.LocksFull, few_locks tx op works wants j)
    ∷ (refusal.Unaligned, aligned j)
    ∷ (refusal.BadSize, makes_none op wants.no_alloc j)
    ∷ (refusal.NotReserved, lacks_none tx.pool tx.actions op wants.no_put j)
    ∷ (refusal.NotLocked, locked j)
    ∷ (refusal.NoObject, has_places tx op wants j)
    ∷ (refusal.Busy, not_busy tx op j)
    ∷ (refusal.NoObject, not_missing tx op j)
    ∷ (refusal.NoObject, gone j)
    ∷ (refusal.RootKept, frees_root tx op)
    ∷ (refusal.Listed, frees_listed tx op)
    ∷ (refusal.OutOfRange, passes_end tx op)
    ∷ (refusal.NotAdded, is_not_added tx op)
    ∷ (refusal.LogFull, passes_log tx op)
    ∷ (refusal.ActionsFull, passes_actions tx op)
    ∷ (refusal.NoSpace, finds_no_space unhindered op)
    ∷ [])))

pub fails_end : (tx : Transaction) (op : Operation) → Works tx → AsksNoLock op → names_gone tx op ≡ false → is_not_locked tx op ≡ false → passes_end tx op ≡ true → first_refusal unhindered tx op ≡ Some refusal.OutOfRange
unfolding first_of_six first_of_four
fails_end tx op works asks kept locked fails = four_checks tx op works asks kept ∙ (λ j. first_of_four (locked j) (fails j) (is_not_added tx op) (passes_log tx op))

pub fails_added : (tx : Transaction) (op : Operation) → Works tx → AsksNoLock op → names_gone tx op ≡ false → is_not_locked tx op ≡ false → passes_end tx op ≡ false → is_not_added tx op ≡ true
    → first_refusal unhindered tx op ≡ Some refusal.NotAdded
unfolding first_of_six first_of_four
fails_added tx op works asks kept locked ends fails = four_checks tx op works asks kept ∙ (λ j. first_of_four (locked j) (ends j) (fails j) (passes_log tx op))

pub fails_room : (tx : Transaction) (op : Operation) → Works tx → AsksNoLock op → names_gone tx op ≡ false → is_not_locked tx op ≡ false → passes_end tx op ≡ false → is_not_added tx op ≡ false → passes_log tx op ≡ true
    → first_refusal unhindered tx op ≡ Some refusal.LogFull
unfolding first_of_six first_of_four
fails_room tx op works asks kept locked ends added fails = four_checks tx op works asks kept ∙ (λ j. first_of_four (locked j) (ends j) (added j) (fails j))
