-- A call leaves a pool a pool.
use Rattle.std.proofs.Common.{◌≡◌, ◌≢◌, ◌⊎◌, ⊎_elim, inl, inr, ℕ, zero, suc, ◌+◌, ◌-◌, ◌*◌, ◌<◌, ◌≤◌, All, List, [], ◌∷◌, ◌++◌, length, map, get_or, Option, Some, None, MatchOption, Bool, true, false, cond, eqb, leb, ltb, ◌||◌, refl, sym, ◌∙◌, ap, subst, arith}
use Rattle.std.specs.Prelude.{IsSome, nat_eq}
use Rattle.std.specs.List.{list_any, IsDistinct}
use Rattle.std.specs.Option.{is_some, option_map, option_map_or}
use Rattle.std.specs.List.Sorted.{IsStrictlyIncreasing}
use Rattle.std.proofs.lemmas.Bool.{cases_eq, eqb-false, false≢true, ltb-false, or_parts}
use Rattle.std.proofs.lemmas.List.{get_or-map, length-map, length-replicate}
use Rattle.std.proofs.lemmas.List.Elements.{All-append, All-cons, All-head, All-nil, All-tail, All-weaker}
use Rattle.pm_layout.specs.Sizes.{class_of}
use Rattle.pm_objects.specs.Pool.{Objects, offsets, object_at, block_lines, block_end, all_members, IsPool}
use Rattle.pm_objects.specs.declared.calls.Operation.{Operation}
use Rattle.pm_objects.specs.declared.calls.Operation.TheVariants.{Begin, AddRange, Write, Free, WriteReserved, DeferFree, SetValue, Publish, Cancel, Commit, Abort}
use Rattle.pm_objects.specs.declared.history.TxErr.{TxErr}
use Rattle.pm_objects.specs.declared.history.TxErr.TheVariants as error
use Rattle.pm_objects.specs.declared.pool.Object.{Object}
use Rattle.pm_objects.specs.declared.pool.PoolView.{PoolView}
use Rattle.solo_model.specs.Actions.{Action, Pending, Reservation, all_performed, object_reserved, end_of, number_bytes, object_of, passes_object, performed_on, with_actions}
use Rattle.solo_model.specs.Actions.Action.{SetWord}
use Rattle.solo_model.specs.Transaction.{Transaction, aborted, all_made, all_released, committed, ended_inner, given_over, is_dropped, is_new, made_at, published, released, resting}
use Rattle.solo_model.specs.Bytes.{bytes_of, is_among, new_words, put_object, records_of, with_bytes}
use Rattle.solo_model.specs.NewObjects.{new_object, pool_without, with_object, without_object}
use Rattle.solo_model.specs.Checks.{Range, frees_listed, frees_root, is_bad_size, is_listed, is_root, passes_end, words_in}
use Rattle.solo_model.specs.Answers.{Answers, IsBeside, IsNewPlace, MayStand, StandsOnceDone, Told, after, allocated, error_for, performed, reserved, written}
use Rattle.solo_model.specs.Outside.{IsDoneOutside, IsRefusedOutside, Outside, after_outside, all_done, as_resting, done_outside, refusal_outside}
use Rattle.solo_model.specs.Step.{State, Act, RunsFrom, Step}
use Rattle.solo_model.proofs.Objects.{members-put, object_at-put, offsets-put, present, size_of, sizes-put}
use Rattle.solo_model.proofs.ObjectsByOffset.{more_elsewhere}
use Rattle.solo_model.proofs.Asked.{passed_end, passed_list, passed_root, passed_size, same_passes}
use Rattle.solo_model.proofs.Alike.{done_cases}
use Rattle.solo_model.proofs.Running.{after_cases, runs_keep}
use Rattle.solo_model.proofs.Blocks.{All-parts, none_beside}
use Rattle.solo_model.proofs.Made.{among_else, among_more, among_without, dropped_now, dropped_stays, freed_alone, freed_pool, freed_there, released_by}
use Rattle.solo_model.proofs.PoolsMade.{if_some, pool_freed, pool_made, unlisted_without}
use Rattle.solo_model.proofs.Kept.{eight_bytes, same_size}
use Rattle.solo_model.proofs.OutsideCalls.{HasPassed, after_done, passed_outside}
use Rattle.pm_objects.specs.declared.history.Value.{Value}
use Rattle.pm_objects.specs.declared.ids.Oid.{Oid}
use Rattle.pm_objects.specs.declared.refusal.Refusal.{Refusal}

some_from : {A : Type 0} (o p : Option A) → is_some o ≡ is_some p → IsSome p → IsSome o
some_from o p same is = same ∙ is

module _ (from : PoolView) (objects : Objects) (places : offsets objects ≡ offsets from.objects) (sizes : map size_of objects ≡ map size_of from.objects)
    (members : all_members objects ≡ all_members from.objects) (is : IsPool from) where
  count : length objects ≡ length from.objects
  count = sym (length-map objects size_of) ∙ (ap (λ (xs : List (ℕ × ℕ)). length xs) sizes ∙ length-map from.objects size_of)

  -- an entry and the one before it in its place show the same
  size_at : (k : ℕ) (d : ℕ × Object) → k < length objects → size_of (get_or objects k d) ≡ size_of (get_or from.objects k d)
  size_at k d inside =
      sym (get_or-map size_of objects k d (size_of d) inside)
      ∙ (ap (λ (xs : List (ℕ × ℕ)). get_or xs k (size_of d)) sizes
      ∙ get_or-map size_of from.objects k d (size_of d) (let n : length objects ≡ length from.objects = count in omega arith))

  there : (off : ℕ) → IsSome (object_at from.objects off) → IsSome (object_at objects off)
  there off = some_from (object_at objects off) (object_at from.objects off)
      (present objects off ∙ (ap (λ (keys : List ℕ). list_any (λ key. eqb key off) keys) places ∙ sym (present from.objects off)))

  pub still_pool : IsPool (record from { objects = objects })
  still_pool = record {
    has_id = is.has_id;
    name_some = is.name_some;
    name_short = is.name_short;
    name_bytes = is.name_bytes;
    shape = is.shape;
    rising = subst (λ (keys : List ℕ). IsStrictlyIncreasing keys) (sym places) is.rising;
    sizes = λ k d inside. subst (λ (e : ℕ × ℕ). (1 ≤ e.1) × (e.1 ≤ 262080)) (sym (size_at k d inside))
        (is.sizes k d (let n : length objects ≡ length from.objects = count in omega arith));
    apart = λ k d inside. subst (λ (e : ℕ × ℕ). e.0 - 64 + 64 * block_lines (class_of e.1) ≤ (get_or objects (k + 1) d).0 - 64) (sym (size_at k d (omega arith)))
        (subst (λ (e : ℕ × ℕ). block_end (get_or from.objects k d) ≤ e.0 - 64) (sym (size_at (k + 1) d inside))
        (is.apart k d (let n : length objects ≡ length from.objects = count in omega arith)));
    members_there = subst (λ (offs : List ℕ). All (λ off. IsSome (object_at objects off)) offs) (sym members) (λ k d inside. there (get_or (all_members from.objects) k d) (is.members_there k d inside));
    members_once = subst (λ (offs : List ℕ). IsDistinct nat_eq offs) (sym members) is.members_once;
    root_there = if_some from.root (λ off. IsSome (object_at from.objects off)) (λ off. IsSome (object_at objects off)) there is.root_there;
  }

-- what was there as the outermost level began, or was made and dropped since: no new object is in its place
abbrev WasThere : Transaction → ℕ → Type 0
WasThere tx off = IsSome (object_at tx.before.objects off) ⊎ (is_dropped tx off ≡ true)

-- an action that was published ends in its object, if that was not freed since
abbrev IsToPerform : Transaction → Action → Type 0
IsToPerform tx a = (passes_object tx.pool.objects a ≡ false) ⊎ ((object_at tx.pool.objects (object_of a).off ≡ None) × WasThere tx (object_of a).off)

-- both pools of a transaction are pools, its objects were there before or it made them, and what was published may be performed
record IsSound (tx : Transaction) : Type 0 where
  now : IsPool tx.pool
  at_start : IsPool tx.before
  found : (off : ℕ) → IsSome (object_at tx.pool.objects off) → IsSome (object_at tx.before.objects off) ⊎ (is_among tx.made off ≡ true)
  moved : All (IsToPerform tx) tx.moved

-- what an action makes of a pool: an object that is not there stays so
no_object_put : (off at : ℕ) (bytes : List ℕ) (objects : Objects) → object_at objects off ≡ None → put_object off at bytes objects ≡ objects
unfolding put_object
no_object_put off at bytes [] none = refl
no_object_put off at bytes (e ∷ es) none = go (eqb e.0 off) none (no_object_put off at bytes es) where
  go : (t : Bool) → cond t (Some e.1) (object_at es off) ≡ None → (object_at es off ≡ None → put_object off at bytes es ≡ es)
      → cond t ((e.0, with_bytes at bytes e.1) ∷ es) (e ∷ put_object off at bytes es) ≡ e ∷ es
  go true found rest = absurd (let clash : Some e.1 ≡ None = found in cc)
  go false later rest = ap (λ (objects : Objects). e ∷ objects) (rest later)

-- bytes within an object leave a pool a pool
put_pool : (pool : PoolView) (off at : ℕ) (bytes : List ℕ) → at + length bytes ≤ length (bytes_of pool.objects off) → IsPool pool → IsPool (record pool { objects = put_object off at bytes pool.objects })
put_pool pool off at bytes fits is =
    still_pool pool (put_object off at bytes pool.objects) (offsets-put off at bytes pool.objects) (sizes-put off at bytes pool.objects fits) (members-put off at bytes pool.objects) is

-- an action ends in its object, or that is not there
abbrev EndsThere : Objects → Action → Type 0
EndsThere objects a = (passes_object objects a ≡ false) ⊎ (object_at objects (object_of a).off ≡ None)

performed_pool : (a : Action) (pool : PoolView) → EndsThere pool.objects a → IsPool pool → IsPool (record pool { objects = performed_on a pool.objects })
performed_pool (SetWord id off value) pool ends is = ⊎_elim
    (λ (within : passes_object pool.objects (SetWord id off value) ≡ false).
    let eight : length (number_bytes value) ≡ 8 = eight_bytes value in
    let room : off + 8 ≤ length (bytes_of pool.objects id.off) = ltb-false (length (bytes_of pool.objects id.off)) (off + 8) within in
    put_pool pool id.off off (number_bytes value) (omega arith) is)
    (λ (none : object_at pool.objects id.off ≡ None). subst (λ (objects : Objects). IsPool (record pool { objects = objects })) (sym (no_object_put id.off off (number_bytes value) pool.objects none)) is)
    ends

-- it leaves each size, and what is not there
sizes_performed : (a : Action) (objects : Objects) → EndsThere objects a → map size_of (performed_on a objects) ≡ map size_of objects
sizes_performed (SetWord id off value) objects ends = ⊎_elim
    (λ (within : passes_object objects (SetWord id off value) ≡ false).
    let eight : length (number_bytes value) ≡ 8 = eight_bytes value in
    let room : off + 8 ≤ length (bytes_of objects id.off) = ltb-false (length (bytes_of objects id.off)) (off + 8) within in
    sizes-put id.off off (number_bytes value) objects (omega arith))
    (λ (none : object_at objects id.off ≡ None). ap (map size_of) (no_object_put id.off off (number_bytes value) objects none))
    ends

none_performed : (a : Action) (objects : Objects) (x : ℕ) → object_at objects x ≡ None → object_at (performed_on a objects) x ≡ None
none_performed (SetWord id off value) objects x none =
    object_at-put id.off off (number_bytes value) objects x
    ∙ (ap (λ (o : Option Object). cond (eqb x id.off) (option_map (with_bytes off (number_bytes value)) o) o) none ∙ same_none (eqb x id.off)) where
      same_none : (b : Bool) → cond b (option_map (with_bytes off (number_bytes value)) None) None ≡ None
      same_none true = refl
      same_none false = refl

ends_still : (a b : Action) (objects : Objects) → EndsThere objects a → EndsThere objects b → EndsThere (performed_on a objects) b
ends_still a b objects ends_a ends_b = ⊎_elim
    (λ (within : passes_object objects b ≡ false). inl (ap (λ (n : ℕ). ltb n (end_of b)) (same_size (performed_on a objects) objects (object_of b).off (sizes_performed a objects ends_a)) ∙ within))
    (λ (none : object_at objects (object_of b).off ≡ None). inr (none_performed a objects (object_of b).off none))
    ends_b

actions_pool : (actions : List Action) (pool : PoolView) → All (EndsThere pool.objects) actions → IsPool pool → IsPool (with_actions actions pool)
unfolding all_performed
actions_pool [] pool ends is = is
actions_pool (a ∷ actions) pool ends is =
    let first : EndsThere pool.objects a = All-head (EndsThere pool.objects) a actions ends in
    actions_pool actions (record pool { objects = performed_on a pool.objects })
    (All-weaker (EndsThere pool.objects) (EndsThere (performed_on a pool.objects)) (λ b. ends_still a b pool.objects first) actions (All-tail (EndsThere pool.objects) a actions ends))
    (performed_pool a pool first is)

-- new bytes leave what stands where
there_put : (off at : ℕ) (bytes : List ℕ) (objects : Objects) (x : ℕ) → is_some (object_at (put_object off at bytes objects) x) ≡ is_some (object_at objects x)
there_put off at bytes objects x =
    present (put_object off at bytes objects) x ∙ (ap (λ (keys : List ℕ). is_among keys x) (offsets-put off at bytes objects) ∙ sym (present objects x))

none_from : (o : Option Object) → is_some o ≡ false → o ≡ None
none_from None none = refl
none_from (Some object) none = absurd (false≢true (sym none))

-- an action that ends in an object is of one
has_object : (objects : Objects) (a : Action) → passes_object objects a ≡ false → IsSome (object_at objects (object_of a).off)
has_object objects (SetWord id off value) within = by (object_at objects id.off) (ltb-false (length (bytes_of objects id.off)) (off + 8) within) where
  by : (o : Option Object) → off + 8 ≤ length (option_map_or (λ (object : Object). object.bytes) o []) → IsSome o
  by None room = absurd (let none : off + 8 ≤ 0 = room in omega arith)
  by (Some object) room = refl

module _ (tx : Transaction) (sound : IsSound tx) where
  abort_sound : (e : TxErr) → IsSound (aborted e tx)
  abort_sound e = record { now = sound.at_start; at_start = sound.at_start; found = λ off there. inl there; moved = All-nil (IsToPerform (aborted e tx)) }

  end_sound : (outermost : Bool) → IsSound (cond outermost (resting (with_actions tx.moved tx.pool) tx.actions) (ended_inner (committed tx)))
  end_sound true =
      let ends : All (EndsThere tx.pool.objects) tx.moved =
      All-weaker (IsToPerform tx) (EndsThere tx.pool.objects)
      (λ a is. ⊎_elim (λ (within : passes_object tx.pool.objects a ≡ false). inl within) (λ (gone : (object_at tx.pool.objects (object_of a).off ≡ None) × WasThere tx (object_of a).off). inr gone.0) is) tx.moved sound.moved in
      let is : IsPool (with_actions tx.moved tx.pool) = actions_pool tx.moved tx.pool ends sound.now in
      record { now = is; at_start = is; found = λ off there. inl there; moved = All-nil (IsToPerform (resting (with_actions tx.moved tx.pool) tx.actions)) }
  end_sound false = record { now = sound.now; at_start = sound.at_start; found = sound.found; moved = sound.moved }

  recorded_sound : (range : Range) (new : Bool)
      → IsSound (cond new tx (record tx { recorded = tx.recorded ++ new_words tx.recorded (words_in range); records = tx.records + length (records_of (new_words tx.recorded (words_in range))) }))
  recorded_sound range true = sound
  recorded_sound range false = record { now = sound.now; at_start = sound.at_start; found = sound.found; moved = sound.moved }

  written_sound : (off at : ℕ) (bytes : List ℕ) → at + length bytes ≤ length (bytes_of tx.pool.objects off) → IsSound (written off at bytes tx)
  written_sound off at bytes fits = record {
    now = put_pool tx.pool off at bytes fits sound.now;
    at_start = sound.at_start;
    found = λ x there. sound.found x (sym (there_put off at bytes tx.pool.objects x) ∙ there);
    moved = All-weaker (IsToPerform tx) (IsToPerform (written off at bytes tx))
        (λ a is. ⊎_elim
        (λ (within : passes_object tx.pool.objects a ≡ false).
        inl (ap (λ (n : ℕ). ltb n (end_of a)) (same_size (put_object off at bytes tx.pool.objects) tx.pool.objects (object_of a).off (sizes-put off at bytes tx.pool.objects fits)) ∙ within))
        (λ (gone : (object_at tx.pool.objects (object_of a).off ≡ None) × WasThere tx (object_of a).off).
        inr (none_from (object_at (put_object off at bytes tx.pool.objects) (object_of a).off) (there_put off at bytes tx.pool.objects (object_of a).off ∙ ap is_some gone.0), gone.1))
        is)
        tx.moved sound.moved;
  }

  -- a new object is at no offset at which one was
  made_sound : (off : ℕ) (object : Object) → 1 ≤ length object.bytes → length object.bytes ≤ 262080 → object.members ≡ [] → IsNewPlace tx (length object.bytes) off → IsSound (made_at off object tx)
  made_sound off object some most no_members place =
      let size : ℕ = length object.bytes in
      let parts = All-parts (IsBeside size off) (tx.before.objects ++ tx.pool.objects) tx.dropped place.apart in
      let pools = All-parts (IsBeside size off) tx.before.objects tx.pool.objects parts.0 in
      let none_before : object_at tx.before.objects off ≡ None = none_beside size off tx.before.objects pools.0 in
      let none_now : object_at tx.pool.objects off ≡ None = none_beside size off tx.pool.objects pools.1 in
      let none_dropped : is_dropped tx off ≡ false = sym (present tx.dropped off) ∙ ap is_some (none_beside size off tx.dropped parts.1) in
      let elsewhere : (x : ℕ) → x ≢ off → object_at (with_object off object tx.pool.objects) x ≡ object_at tx.pool.objects x =
      λ x else. more_elsewhere tx.pool.objects off x object else in
      record {
        now = pool_made tx.pool off object some most no_members pools.1 sound.now;
        at_start = sound.at_start;
        found = λ x there. ⊎_elim
            (λ (same : x ≡ off). inr (ap (is_among (tx.made ++ off ∷ [])) same ∙ among_more tx.made off))
            (λ (else : x ≢ off). ⊎_elim
            (λ (before : IsSome (object_at tx.before.objects x)). inl before)
            (λ (made : is_among tx.made x ≡ true). inr (among_else tx.made off x else ∙ made))
            (sound.found x (subst (λ (o : Option Object). IsSome o) (elsewhere x else) there)))
            (cases_eq x off);
        moved = All-weaker (IsToPerform tx) (IsToPerform (made_at off object tx))
            (λ a is. ⊎_elim
            (λ (within : passes_object tx.pool.objects a ≡ false).
            let there : IsSome (object_at tx.pool.objects (object_of a).off) = has_object tx.pool.objects a within in
            inl (same_passes (with_object off object tx.pool.objects) tx.pool.objects a
            (elsewhere (object_of a).off (λ same. false≢true (ap is_some (sym none_now ∙ ap (object_at tx.pool.objects) (sym same)) ∙ there))) ∙ within))
            (λ (gone : (object_at tx.pool.objects (object_of a).off ≡ None) × WasThere tx (object_of a).off).
            let else : (object_of a).off ≢ off = λ same. ⊎_elim
            (λ (before : IsSome (object_at tx.before.objects (object_of a).off)). false≢true (ap is_some (sym none_before ∙ ap (object_at tx.before.objects) (sym same)) ∙ before))
            (λ (dropped : is_dropped tx (object_of a).off ≡ true). false≢true (sym none_dropped ∙ (ap (is_dropped tx) (sym same) ∙ dropped)))
            gone.1 in
            inr (elsewhere (object_of a).off else ∙ gone.0, gone.1))
            is)
            tx.moved sound.moved;
      }

  allocated_sound : (size kind off : ℕ) → 1 ≤ size → size ≤ 262080 → IsNewPlace tx size off → IsSound (allocated off size kind tx)
  allocated_sound size kind off some most place =
      let long : length (new_object kind size).bytes ≡ size = length-replicate size 0 in
      made_sound off (new_object kind size) (omega (arith, long, some)) (omega (arith, long, most)) refl (subst (λ (n : ℕ). IsNewPlace tx n off) (sym long) place)

  -- what a free leaves: the object was there before, or is dropped
  was_there : (off : ℕ) → IsSome (object_at tx.pool.objects off) → WasThere (released off tx) off
  was_there off there = by (is_among tx.made off) (sound.found off there) where
    by : (made : Bool) → IsSome (object_at tx.before.objects off) ⊎ (made ≡ true) → WasThere (released_by made off tx) off
    by true was = inr (dropped_now tx.dropped tx.pool.objects off there)
    by false was = ⊎_elim (λ (before : IsSome (object_at tx.before.objects off)). inl before) (λ (made : false ≡ true). absurd (false≢true made)) was

  still_was_there : (off x : ℕ) (made : Bool) → WasThere tx x → WasThere (released_by made off tx) x
  still_was_there off x true was = ⊎_elim
      (λ (before : IsSome (object_at tx.before.objects x)). inl before)
      (λ (dropped : is_dropped tx x ≡ true). inr (dropped_stays tx.dropped tx.pool.objects off x dropped))
      was
  still_was_there off x false was = was

  released_start : (off : ℕ) (made : Bool) → (released_by made off tx).before ≡ tx.before
  released_start off true = refl
  released_start off false = refl

  released_moved : (off : ℕ) (made : Bool) → (released_by made off tx).moved ≡ tx.moved
  released_moved off true = refl
  released_moved off false = refl

  released_made : (off x : ℕ) (made : Bool) → x ≢ off → is_among (released_by made off tx).made x ≡ is_among tx.made x
  released_made off x true else = among_without tx.made off x else
  released_made off x false else = refl

  released_sound : (off : ℕ) → option_map_or (λ root. eqb root off) tx.pool.root false ≡ false → is_listed tx.pool.objects off ≡ false → IsSound (released off tx)
  released_sound off not_root unlisted =
      let made : Bool = is_among tx.made off in
      let pool : (released off tx).pool ≡ pool_without off tx.pool = freed_pool tx off made in
      let start : (released off tx).before ≡ tx.before = released_start off made in
      record {
        now = subst IsPool (sym pool) (pool_freed tx.pool off not_root unlisted sound.now);
        at_start = subst IsPool (sym start) sound.at_start;
        found = λ x there. ⊎_elim
            (λ (same : x ≡ off). absurd (false≢true (ap is_some (sym (freed_there tx off) ∙ ap (object_at (released off tx).pool.objects) (sym same)) ∙ there)))
            (λ (else : x ≢ off). ⊎_elim
            (λ (before : IsSome (object_at tx.before.objects x)). inl (subst (λ (p : PoolView). IsSome (object_at p.objects x)) (sym start) before))
            (λ (was_made : is_among tx.made x ≡ true). inr (released_made off x made else ∙ was_made))
            (sound.found x (subst (λ (o : Option Object). IsSome o) (freed_alone tx off x else) there)))
            (cases_eq x off);
        moved = subst (λ (actions : List Action). All (IsToPerform (released off tx)) actions) (sym (released_moved off made))
            (All-weaker (IsToPerform tx) (IsToPerform (released off tx))
            (λ a is. ⊎_elim
            (λ (within : passes_object tx.pool.objects a ≡ false). ⊎_elim
            (λ (same : (object_of a).off ≡ off).
            inr (
              ap (object_at (released off tx).pool.objects) same ∙ freed_there tx off,
              subst (WasThere (released off tx)) (sym same) (was_there off (subst (λ (x : ℕ). IsSome (object_at tx.pool.objects x)) same (has_object tx.pool.objects a within))),
            ))
            (λ (else : (object_of a).off ≢ off). inl (same_passes (released off tx).pool.objects tx.pool.objects a (freed_alone tx off (object_of a).off else) ∙ within))
            (cases_eq (object_of a).off off))
            (λ (gone : (object_at tx.pool.objects (object_of a).off ≡ None) × WasThere tx (object_of a).off). inr (
              ⊎_elim
                  (λ (same : (object_of a).off ≡ off). ap (object_at (released off tx).pool.objects) same ∙ freed_there tx off)
                  (λ (else : (object_of a).off ≢ off). freed_alone tx off (object_of a).off else ∙ gone.0)
                  (cases_eq (object_of a).off off),
              still_was_there off (object_of a).off made gone.1,
            ))
            is)
            tx.moved sound.moved);
      }

  -- what is published ends in its objects
  published_ends : (actions : List Action) → list_any (passes_object tx.pool.objects) actions ≡ false → All (IsToPerform tx) actions
  published_ends [] ends = All-nil (IsToPerform tx)
  published_ends (a ∷ actions) ends =
      let e = or_parts (passes_object tx.pool.objects a) (list_any (passes_object tx.pool.objects) actions) ends in
      All-cons (IsToPerform tx) a actions (inl e.0) (published_ends actions e.1)

  -- what is pending is given over
  given_sound : list_any (passes_object tx.pool.objects) tx.actions.sets ≡ false → IsSound (given_over tx)
  given_sound ends = record {
    now = sound.now;
    at_start = sound.at_start;
    found = sound.found;
    moved = All-weaker (IsToPerform tx) (IsToPerform (given_over tx)) (λ a is. is) (tx.moved ++ tx.actions.sets)
        (All-append (IsToPerform tx) tx.moved tx.actions.sets sound.moved (published_ends tx.actions.sets ends));
  }

  -- an object that is not the root or in a list stays so where another that has no members is freed
  still_unlisted : (off x : ℕ) → is_listed tx.pool.objects off ≡ false → is_listed tx.pool.objects x ≡ false → is_listed (without_object off tx.pool.objects) x ≡ false
  still_unlisted off x unlisted other = unlisted_without tx.pool.objects off x sound.now.rising unlisted other

-- objects are freed, one after another
all_released_sound : (ids : List Oid) (tx : Transaction) → IsSound tx → list_any (is_root tx.pool) ids ≡ false → list_any (λ (id : Oid). is_listed tx.pool.objects id.off) ids ≡ false → IsSound (all_released ids tx)
all_released_sound [] tx sound root list = sound
all_released_sound (id ∷ ids) tx sound root list =
    let roots = or_parts (is_root tx.pool id) (list_any (is_root tx.pool) ids) root in
    let lists = or_parts (is_listed tx.pool.objects id.off) (list_any (λ (other : Oid). is_listed tx.pool.objects other.off) ids) list in
    let pool : (released id.off tx).pool ≡ pool_without id.off tx.pool = freed_pool tx id.off (is_among tx.made id.off) in
    all_released_sound ids (released id.off tx) (released_sound tx sound id.off roots.0 lists.0)
    (subst (λ (p : PoolView). list_any (is_root p) ids ≡ false) (sym pool) roots.1)
    (subst (λ (p : PoolView). list_any (λ (other : Oid). is_listed p.objects other.off) ids ≡ false) (sym pool) (still ids lists.1)) where
      still : (ids : List Oid) → list_any (λ (other : Oid). is_listed tx.pool.objects other.off) ids ≡ false → list_any (λ (other : Oid). is_listed (without_object id.off tx.pool.objects) other.off) ids ≡ false
      still [] none = refl
      still (other ∷ others) none =
          let first = or_parts (is_listed tx.pool.objects id.off) (list_any (λ (o : Oid). is_listed tx.pool.objects o.off) ids) list in
          let t = or_parts (is_listed tx.pool.objects other.off) (list_any (λ (o : Oid). is_listed tx.pool.objects o.off) others) none in
          (λ j. still_unlisted tx sound id.off other.off first.0 t.0 j || still others t.1 j)

-- and what is reserved comes to be
all_made_sound : (rs : List Reservation) (tx : Transaction) → IsSound tx → MayStand rs tx → IsSound (all_made rs tx)
all_made_sound [] tx sound stands = sound
all_made_sound (r ∷ rs) tx sound stands = all_made_sound rs (made_at r.off (object_reserved r) tx) (made_sound tx sound r.off (object_reserved r) stands.0 stands.1 refl stands.2) stands.3

published_sound : (tx : Transaction) → IsSound tx → list_any (passes_object tx.pool.objects) tx.actions.sets ≡ false → frees_root tx Publish ≡ false → frees_listed tx Publish ≡ false → StandsOnceDone tx Publish
    → IsSound (published tx)
published_sound tx sound ends root list stands =
    all_made_sound tx.actions.reserved (all_released tx.actions.frees (given_over tx))
    (all_released_sound tx.actions.frees (given_over tx) (given_sound tx sound ends) root list) stands

module _ (tx : Transaction) (sound : IsSound tx) where
  performed_sound : (op : Operation) → passes_end tx op ≡ false → frees_root tx op ≡ false → frees_listed tx op ≡ false → StandsOnceDone tx op → IsSound (performed op tx)
  performed_sound (Begin wants) ends root list stands = record { now = sound.now; at_start = sound.at_start; found = sound.found; moved = sound.moved }
  performed_sound (AddRange id off len) ends root list stands = recorded_sound tx sound (record { id = id; off = off; len = len }) (is_new tx id.off)
  performed_sound (Write id off bytes) ends root list stands = written_sound tx sound id.off off bytes (ltb-false (length (bytes_of tx.pool.objects id.off)) (off + length bytes) ends)
  performed_sound (Free id) ends root list stands = released_sound tx sound id.off root list
  performed_sound (WriteReserved id off bytes) ends root list stands = record { now = sound.now; at_start = sound.at_start; found = sound.found; moved = sound.moved }
  performed_sound (DeferFree id) ends root list stands = record { now = sound.now; at_start = sound.at_start; found = sound.found; moved = sound.moved }
  performed_sound (SetValue id off value) ends root list stands = record { now = sound.now; at_start = sound.at_start; found = sound.found; moved = sound.moved }
  performed_sound Publish ends root list stands = published_sound tx sound (or_parts (list_any (passes_object tx.pool.objects) tx.actions.sets) false ends).0 root list stands
  performed_sound Cancel ends root list stands = record { now = sound.now; at_start = sound.at_start; found = sound.found; moved = sound.moved }
  performed_sound Commit ends root list stands = end_sound tx sound (leb tx.level 1)
  performed_sound (Abort errnum) ends root list stands = abort_sound tx sound (error_for errnum)
  performed_sound op ends root list stands = sound

-- the size of an object that is made
good_size : (size : ℕ) → (eqb size 0 || ltb 262080 size) ≡ false → (1 ≤ size) × (size ≤ 262080)
good_size size good =
    let parts = or_parts (eqb size 0) (ltb 262080 size) good in
    let some : size ≢ 0 = eqb-false size 0 parts.0 in
    let most : size ≤ 262080 = ltb-false 262080 size parts.1 in
    (positive size some, most) where
      positive : (n : ℕ) → n ≢ 0 → 1 ≤ n
      positive zero some = absurd (some refl)
      positive (suc n) some = omega arith

after_sound : (t : Told) (told : List Told) (tx : Transaction) → Answers tx t.operation t.reply → IsSound tx → IsSound (after t tx)
after_sound t told tx answers sound =
    after_cases IsSound t tx answers sound
    (λ seen none done. done_cases IsSound t.operation t.reply tx done.value
    (λ other. performed_sound tx sound t.operation (passed_end seen tx t.operation none) (passed_root seen tx t.operation none) (passed_list seen tx t.operation none) done.stands)
    (λ size kind off is place.
    let good = good_size size (ap is_bad_size (sym is) ∙ passed_size seen tx t.operation none) in
    allocated_sound tx sound size kind off good.0 good.1 place)
    (λ size kind off is place. record { now = sound.now; at_start = sound.at_start; found = sound.found; moved = sound.moved }))
    (λ r. abort_sound tx sound (error.Refused r))

run_sound : (pool : PoolView) (actions : Pending) (told : List Told) (last : Transaction) → RunsFrom (resting pool actions) told last → IsPool pool → IsPool last.pool
run_sound pool actions told last runs is =
    (runs_keep (λ rest. IsSound) after_sound told (resting pool actions) last runs
    (record { now = is; at_start = is; found = λ off there. inl there; moved = All-nil (IsToPerform (resting pool actions)) })).now

-- what is published outside of a transaction leaves a pool a pool, as a transaction of its own would
published_pool : (s : Outside) → IsPool s.pool → list_any (passes_object s.pool.objects) s.actions.sets ≡ false → frees_root (as_resting s) Publish ≡ false → frees_listed (as_resting s) Publish ≡ false
    → StandsOnceDone (as_resting s) Publish → IsPool (all_done (published (as_resting s)))
published_pool s is ends root list stands =
    (end_sound (published (as_resting s))
    (published_sound (as_resting s) (record { now = is; at_start = is; found = λ off there. inl there; moved = All-nil (IsToPerform (as_resting s)) }) ends root list stands) true).now

done_pool : (s : Outside) (op : Operation) → IsPool s.pool → HasPassed s op → StandsOnceDone (as_resting s) op → IsPool (done_outside op s).pool
done_pool s Publish is passed stands = published_pool s is passed.end passed.root passed.list stands
done_pool s op is passed stands = is

left_pool : (s : Outside) (op : Operation) (reply : Option Value) → IsPool s.pool → (fr : Option Refusal) → (fr ≡ None → HasPassed s op) → MatchOption fr (IsDoneOutside s op reply) (λ r. IsRefusedOutside r reply)
    → IsPool (after_outside op reply s).pool
left_pool s op reply is None passed done = subst IsPool (sym (after_done s op reply done.value)) (done_pool s op is (passed refl) done.stands)
left_pool s op reply is (Some r) passed refused = subst (λ (x : Option Value). IsPool (after_outside op x s).pool) (sym refused.told) is

-- a call leaves a pool a pool
pub keeps_pool : (act : Act) (s t : State) → Step s act t → IsPool s.pool → IsPool t.pool
keeps_pool act s t (inl step) is = subst IsPool (sym (ap (λ (v : State). v.pool) step.leaves.leaves)) (run_sound s.pool act.actions act.told step.last step.runs is)
keeps_pool act s t (inr step) is =
    subst IsPool (sym (ap (λ (v : State). v.pool) step.leaves.leaves))
    (left_pool (record { pool = s.pool; actions = act.actions }) step.operation step.reply is (refusal_outside step.answers.seen (record { pool = s.pool; actions = act.actions }) step.operation)
    (λ none. passed_outside step.answers.seen (record { pool = s.pool; actions = act.actions }) step.operation none) step.answers.answer)
