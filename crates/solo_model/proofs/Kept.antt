-- A transaction keeps all but the objects that it locks for writing.
use Rattle.std.proofs.Common.{◌≡◌, ⊎_elim, ℕ, ◌+◌, ◌/◌, ◌%◌, ◌^◌, ◌≤◌, All, List, [], ◌∷◌, ◌++◌, length, map, Some, Bool, true, false, cond, eqb, leb, ltb, ◌||◌, refl, sym, ◌∙◌, ap, subst, arith}
use Rattle.std.specs.List.{list_any}
use Rattle.std.specs.Option.{option_map, option_map_or}
use Rattle.std.proofs.lemmas.Bool.{cases_Bool, false≢true, ne_eqb, or_parts, or_right, ltb-false}
use Rattle.std.proofs.lemmas.List.Elements.{All-append, All-cons, All-head, All-nil, All-tail}
use Rattle.std.proofs.lemmas.List.FromFn.{length-map-range_with_len}
use Rattle.pm_objects.specs.Pool.{Objects, offsets, object_at, all_members}
use Rattle.pm_objects.specs.declared.calls.Operation.{Operation}
use Rattle.pm_objects.specs.declared.calls.Operation.TheVariants.{Begin, AddRange, Write, Free, WriteReserved, DeferFree, SetValue, Publish, Cancel, Commit, Abort}
use Rattle.pm_objects.specs.declared.history.TxErr.{TxErr}
use Rattle.pm_objects.specs.declared.history.TxErr.TheVariants as error
use Rattle.pm_objects.specs.declared.pool.Object.{Object}
use Rattle.pm_objects.specs.declared.pool.PoolView.{PoolView}
use Rattle.solo_model.specs.Actions.{Action, Pending, all_performed, end_of, number_bytes, object_of, passes_object, with_actions}
use Rattle.solo_model.specs.Actions.Action.{SetWord}
use Rattle.solo_model.specs.Transaction.{Transaction, resting, aborted, ended_inner, committed, is_locked, is_new, holds_object}
use Rattle.solo_model.specs.Bytes.{put_object, with_bytes, bytes_of, new_words, records_of}
use Rattle.solo_model.specs.Checks.{Range, wants_of, words_in, is_defer, is_free, is_not_held, is_not_locked, is_unlocked_action, passes_end}
use Rattle.solo_model.specs.Answers.{Told, error_for, performed, after, Answers}
use Rattle.solo_model.specs.Step.{RunsFrom}
use Rattle.solo_model.specs.Names.{changes_blocks, is_refusal, is_wanted}
use Rattle.solo_model.proofs.Objects.{object_at-put, offsets-put, size_of, sizes-put, members-put}
use Rattle.solo_model.proofs.Locking.{held_from}
use Rattle.solo_model.proofs.Asked.{IsPlain, action_held, held_object, passed_lock, passed_end, published_plain}
use Rattle.solo_model.proofs.Alike.{KeepBlocks, TakesWithin, after_value, done_is_plain, keep_first, keep_rest, no_alloc, no_defer, no_free, plain_performed, takes_first, takes_rest}
use Rattle.solo_model.proofs.Running.{after_cases, runs_keep}

-- a pool is the other but for its objects, which have the same offsets, sizes and lists and are the same outside W
pub record IsChangedIn (W : ℕ → Bool) (from to : PoolView) : Type 0 where
  pub else : to ≡ record from { objects = to.objects }
  pub outside : (off : ℕ) → W off ≡ false → object_at to.objects off ≡ object_at from.objects off
  pub places : offsets to.objects ≡ offsets from.objects
  pub sizes : map size_of to.objects ≡ map size_of from.objects
  pub members : all_members to.objects ≡ all_members from.objects

-- how many bytes stand at an offset, by the sizes of objects
abbrev size_in : ℕ → List (ℕ × ℕ) → ℕ
size_in off [] = 0
size_in off (e ∷ es) = cond (eqb e.0 off) e.1 (size_in off es)

size_by : (objects : Objects) (off : ℕ) → length (bytes_of objects off) ≡ size_in off (map size_of objects)
size_by [] off = refl
size_by (e ∷ objects) off = ⊎_elim
    (λ (here : eqb e.0 off ≡ true). ap (λ (b : Bool). length (option_map_or (λ (object : Object). object.bytes) (cond b (Some e.1) (object_at objects off)) [])) here
    ∙ sym (ap (λ (b : Bool). cond b (length e.1.bytes) (size_in off (map size_of objects))) here))
    (λ (other : eqb e.0 off ≡ false). ap (λ (b : Bool). length (option_map_or (λ (object : Object). object.bytes) (cond b (Some e.1) (object_at objects off)) [])) other
    ∙ (size_by objects off ∙ sym (ap (λ (b : Bool). cond b (length e.1.bytes) (size_in off (map size_of objects))) other)))
    (cases_Bool (eqb e.0 off))

pub same_size : (one other : Objects) (off : ℕ) → map size_of one ≡ map size_of other → length (bytes_of one off) ≡ length (bytes_of other off)
same_size one other off same = size_by one off ∙ (ap (size_in off) same ∙ sym (size_by other off))

-- an action sets a word of an object in W, within it
abbrev pub MayPerform : (ℕ → Bool) → PoolView → Action → Type 0
MayPerform W from a = (W (object_of a).off ≡ true) × (passes_object from.objects a ≡ false)

-- both pools of a transaction are so, what it holds for writing is in W, and what was published in it is of objects there
pub record Keeps (W : ℕ → Bool) (from : PoolView) (tx : Transaction) : Type 0 where
  pub now : IsChangedIn W from tx.pool
  pub at_start : IsChangedIn W from tx.before
  pub held : (off : ℕ) → holds_object tx off true ≡ true → W off ≡ true
  pub moved : All (MayPerform W from) tx.moved
  pub plain : IsPlain tx.actions

pub unchanged : (W : ℕ → Bool) (pool : PoolView) → IsChangedIn W pool pool
unchanged W pool = record { else = refl; outside = λ off none. refl; places = refl; sizes = refl; members = refl }

pub keeps_at_rest : (W : ℕ → Bool) (pool : PoolView) (actions : Pending) → IsPlain actions → Keeps W pool (resting pool actions)
keeps_at_rest W pool actions plain = record { plain = plain; now = unchanged W pool; at_start = unchanged W pool; held = λ off h. absurd (false≢true h); moved = All-nil (MayPerform W pool) }

-- new bytes inside an object of W
put_changed : (W : ℕ → Bool) (from pool : PoolView) → IsChangedIn W from pool → (off at : ℕ) (bytes : List ℕ) → W off ≡ true → at + length bytes ≤ length (bytes_of pool.objects off)
    → IsChangedIn W from (record pool { objects = put_object off at bytes pool.objects })
put_changed W from pool changed off at bytes inside fits = record {
  else = ap (λ (p : PoolView). record p { objects = put_object off at bytes pool.objects }) changed.else;
  outside = λ x none. object_at-put off at bytes pool.objects x
      ∙ (ap (λ (b : Bool). cond b (option_map (with_bytes at bytes) (object_at pool.objects x)) (object_at pool.objects x)) (ne_eqb x off (λ e. false≢true (sym none ∙ (ap W e ∙ inside))))
      ∙ changed.outside x none);
  places = offsets-put off at bytes pool.objects ∙ changed.places;
  sizes = sizes-put off at bytes pool.objects fits ∙ changed.sizes;
  members = members-put off at bytes pool.objects ∙ changed.members;
}

pub eight_bytes : (value : ℕ) → length (number_bytes value) ≡ 8
eight_bytes value = length-map-range_with_len (λ j. value / 256 ^ j % 256) 0 8

-- what actions make of a pool
pub actions_changed : (W : ℕ → Bool) (from : PoolView) (actions : List Action) (pool : PoolView) → IsChangedIn W from pool → All (MayPerform W from) actions → IsChangedIn W from (with_actions actions pool)
unfolding all_performed
actions_changed W from [] pool changed may = changed
actions_changed W from (SetWord id off value ∷ actions) pool changed may =
    let first = All-head (MayPerform W from) (SetWord id off value) actions may in
    let eight = eight_bytes value in
    let same = same_size pool.objects from.objects id.off changed.sizes in
    let within : off + 8 ≤ length (bytes_of from.objects id.off) = ltb-false (length (bytes_of from.objects id.off)) (off + 8) first.1 in
    actions_changed W from actions (record pool { objects = put_object id.off off (number_bytes value) pool.objects })
    (put_changed W from pool changed id.off off (number_bytes value) first.0 (omega arith))
    (All-tail (MayPerform W from) (SetWord id off value) actions may)

-- what is published is of locked objects, within them
published_within : (W : ℕ → Bool) (from : PoolView) (tx : Transaction) → IsChangedIn W from tx.pool → ((off : ℕ) → holds_object tx off true ≡ true → W off ≡ true) → (actions : List Action)
    → list_any (is_unlocked_action tx) actions ≡ false → list_any (passes_object tx.pool.objects) actions ≡ false → All (MayPerform W from) actions
published_within W from tx changed held [] locked ends = All-nil (MayPerform W from)
published_within W from tx changed held (a ∷ actions) locked ends =
    let l = or_parts (is_unlocked_action tx a) (list_any (is_unlocked_action tx) actions) locked in
    let e = or_parts (passes_object tx.pool.objects a) (list_any (passes_object tx.pool.objects) actions) ends in
    All-cons (MayPerform W from) a actions
    (held (object_of a).off (action_held tx a l.0), ap (λ (n : ℕ). ltb n (end_of a)) (sym (same_size tx.pool.objects from.objects (object_of a).off changed.sizes)) ∙ e.0)
    (published_within W from tx changed held actions l.1 e.1)

module _ (W : ℕ → Bool) (from : PoolView) (tx : Transaction) (keeps : Keeps W from tx) where
  abort_keeps : (e : TxErr) → Keeps W from (aborted e tx)
  abort_keeps e = record {
    now = keeps.at_start;
    at_start = keeps.at_start;
    held = λ off h. keeps.held off (or_right (is_new tx off) (is_locked tx.locks off true) h);
    moved = All-nil (MayPerform W from);
    plain = keeps.plain;
  }

  end_keeps : (outermost : Bool) → Keeps W from (cond outermost (resting (with_actions tx.moved tx.pool) tx.actions) (ended_inner (committed tx)))
  end_keeps true =
      let changed = actions_changed W from tx.moved tx.pool keeps.now keeps.moved in
      record { now = changed; at_start = changed; held = λ off h. absurd (false≢true h); moved = All-nil (MayPerform W from); plain = keeps.plain }
  end_keeps false = record { now = keeps.now; at_start = keeps.at_start; held = keeps.held; moved = keeps.moved; plain = keeps.plain }

  put_keeps : (off at : ℕ) (bytes : List ℕ) → W off ≡ true → at + length bytes ≤ length (bytes_of tx.pool.objects off) → IsChangedIn W from (record tx.pool { objects = put_object off at bytes tx.pool.objects })
  put_keeps off at bytes inside fits = put_changed W from tx.pool keeps.now off at bytes inside fits

  -- what is recorded, where the object is new or not
  recorded_keeps : (range : Range) (new : Bool)
      → Keeps W from (cond new tx (record tx { recorded = tx.recorded ++ new_words tx.recorded (words_in range); records = tx.records + length (records_of (new_words tx.recorded (words_in range))) }))
  recorded_keeps range true = keeps
  recorded_keeps range false = record { now = keeps.now; at_start = keeps.at_start; held = keeps.held; moved = keeps.moved; plain = keeps.plain }

  performed_keeps : (op : Operation) → is_free op ≡ false → is_defer op ≡ false → is_not_locked tx op ≡ false → passes_end tx op ≡ false → ((off : ℕ) → is_wanted (wants_of op) off true ≡ true → W off ≡ true) → Keeps W from (performed op tx)
  performed_keeps (Begin wants) no_free no_defer locked ends within = record {
    now = keeps.now;
    at_start = keeps.at_start;
    held = λ off h. ⊎_elim (λ (w : is_wanted wants off true ≡ true). within off w) (λ (old : holds_object tx off true ≡ true). keeps.held off old) (held_from wants tx off true h);
    moved = keeps.moved;
    plain = keeps.plain;
  }
  performed_keeps (AddRange id off len) no_free no_defer locked ends within = recorded_keeps (record { id = id; off = off; len = len }) (is_new tx id.off)
  performed_keeps (Write id off bytes) no_free no_defer locked ends within =
      let lock : holds_object tx id.off true ≡ true = held_object tx true id locked in
      record { now = put_keeps id.off off bytes (keeps.held id.off lock) (ltb-false (length (bytes_of tx.pool.objects id.off)) (off + length bytes) ends); at_start = keeps.at_start; held = keeps.held; moved = keeps.moved; plain = keeps.plain }
  performed_keeps (SetValue id off value) no_free no_defer locked ends within = record { now = keeps.now; at_start = keeps.at_start; held = keeps.held; moved = keeps.moved; plain = record { frees = keeps.plain.frees; reserved = keeps.plain.reserved } }
  performed_keeps Publish no_free no_defer locked ends within =
      let freed : Bool = list_any (is_not_held tx true) tx.actions.frees in
      let set : Bool = list_any (is_unlocked_action tx) tx.actions.sets in
      let l : set ≡ false = (or_parts freed set (or_parts (freed || set) false (or_parts ((freed || set) || false) false locked).0).0).1 in
      let e : list_any (passes_object tx.pool.objects) tx.actions.sets ≡ false = (or_parts (list_any (passes_object tx.pool.objects) tx.actions.sets) false ends).0 in
      subst (Keeps W from) (sym (published_plain tx keeps.plain)) (record {
        now = keeps.now;
        at_start = keeps.at_start;
        held = keeps.held;
        moved = All-append (MayPerform W from) tx.moved tx.actions.sets keeps.moved (published_within W from tx keeps.now keeps.held tx.actions.sets l e);
        plain = record { frees = refl; reserved = refl };
      })
  performed_keeps Cancel no_free no_defer locked ends within = record { now = keeps.now; at_start = keeps.at_start; held = keeps.held; moved = keeps.moved; plain = record { frees = refl; reserved = refl } }
  performed_keeps (WriteReserved id off bytes) no_free no_defer locked ends within =
      record { now = keeps.now; at_start = keeps.at_start; held = keeps.held; moved = keeps.moved; plain = plain_performed tx (WriteReserved id off bytes) refl refl keeps.plain }
  performed_keeps (DeferFree id) no_free no_defer locked ends within = absurd (false≢true (sym no_defer))
  performed_keeps (Free id) no_free no_defer locked ends within = absurd (false≢true (sym no_free))
  performed_keeps Commit no_free no_defer locked ends within = end_keeps (leb tx.level 1)
  performed_keeps (Abort errnum) no_free no_defer locked ends within = abort_keeps (error_for errnum)
  performed_keeps op no_free no_defer locked ends within = keeps

abbrev StillKeeps : (W : ℕ → Bool) → PoolView → List Told → Transaction → Type 0
StillKeeps W from told tx = KeepBlocks told × TakesWithin W true told × Keeps W from tx

after_keeps : (W : ℕ → Bool) (from : PoolView) (t : Told) (told : List Told) (tx : Transaction) → Answers tx t.operation t.reply
    → StillKeeps W from (t ∷ told) tx → StillKeeps W from told (after t tx)
after_keeps W from t told tx answers holds =
    let keeps : changes_blocks t.operation t.reply ≡ false = keep_first t told holds.0 in (
      keep_rest t told holds.0,
      takes_rest W true t told holds.1,
      after_cases (Keeps W from) t tx answers holds.2
          (λ seen none done.
          let plain : is_refusal t.reply ≡ false = done_is_plain tx t.operation t.reply done.value in
          subst (Keeps W from) (sym (after_value t.operation t.reply tx (no_alloc t.operation t.reply keeps plain) plain))
          (performed_keeps W from tx holds.2 t.operation (no_free t.operation t.reply keeps) (no_defer t.operation t.reply keeps plain) (passed_lock seen tx t.operation none) (passed_end seen tx t.operation none)
          (takes_first W true t told holds.1 plain)))
          (λ r. abort_keeps W from tx holds.2 (error.Refused r)),
    )

-- the pool at the end is the one at the start, but for objects in W
pub run_keeps : (W : ℕ → Bool) (from : PoolView) (actions : Pending) (told : List Told) (last : Transaction) → IsPlain actions → KeepBlocks told → TakesWithin W true told → RunsFrom (resting from actions) told last
    → IsChangedIn W from last.pool
run_keeps W from actions told last plain keep within runs =
    (runs_keep (StillKeeps W from) (after_keeps W from) told (resting from actions) last runs (keep, within, keeps_at_rest W from actions plain)).2.now
