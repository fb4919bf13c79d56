-- A transaction runs alike over other objects that are the same wherever it takes a lock.
use Rattle.std.proofs.Common.{◌≡◌, ⊎_elim, ℕ, ◌+◌, length, List, [], ◌∷◌, ◌++◌, get_or, map, Option, Some, None, MatchOption, Bool, true, false, not, cond, eqb, leb, ◌&&◌, ◌||◌, refl, sym, ◌∙◌, ap, subst}
use Rattle.std.specs.Prelude.{IsSome}
use Rattle.std.specs.List.{list_any, list_all}
use Rattle.std.specs.Option.{option_map}
use Rattle.std.proofs.lemmas.Bool.{false≢true, eq-eqb, and_cases, and_from, and_parts, not-false, not-true, or_left, or_parts, or_right}
use Rattle.std.proofs.lemmas.List.Folds.{list_any-append, list_any_at}
use Rattle.pm_objects.specs.Pool.{Objects, object_at}
use Rattle.pm_objects.specs.declared.calls.Operation.{Operation}
use Rattle.pm_objects.specs.declared.calls.Operation.TheVariants.{Begin, AddRange, Write, Read, Alloc, Free, Reserve, WriteReserved, DeferFree, SetValue, Publish, Cancel, Commit, Abort}
use Rattle.pm_objects.specs.declared.calls.Want.{Want}
use Rattle.pm_objects.specs.declared.history.TxErr.{TxErr}
use Rattle.pm_objects.specs.declared.history.TxErr.TheVariants as error
use Rattle.pm_objects.specs.declared.history.Value.{Value}
use Rattle.pm_objects.specs.declared.history.Value.TheVariants.{Offset, Bytes, Refused}
use Rattle.pm_objects.specs.declared.pool.Object.{Object}
use Rattle.pm_objects.specs.declared.refusal.Refusal.{Refusal}
use Rattle.solo_model.specs.Actions.{Action, Reservation, all_performed, number_bytes, with_actions}
use Rattle.solo_model.specs.Actions.Action.{SetWord}
use Rattle.solo_model.specs.Transaction.{Transaction, resting, aborted, all_released, ended_inner, committed, given_over, is_working, is_locked, is_new, holds_object, published}
use Rattle.solo_model.specs.Bytes.{bytes_at, put_bytes, put_object, with_bytes, new_words, records_of}
use Rattle.solo_model.specs.Checks.{Range, wants_of, words_in, is_action, is_defer, is_free, is_not_locked, first_refusal, seeks_block}
use Rattle.solo_model.specs.Answers.{Told, changes_nothing, value_of, error_for, allocated, performed, reserved, after_reply, after, IsDone, IsNewPlace, IsRefused, IsValue, Answers, MayStand, StandsOnceDone}
use Rattle.solo_model.specs.Step.{RunsOn}
use Rattle.solo_model.specs.Names.{asks_for_blocks, changes_blocks, is_refusal, wants_taken, is_wanted}
use Rattle.solo_model.proofs.Objects.{object_at-put}
use Rattle.solo_model.proofs.Locking.{held_from}
use Rattle.solo_model.proofs.Asked.{IsPlain, over, range_held, same_bytes, same_refusal, passed_lock, published_plain}

-- what an operation that is done answers is no refusal
no_refusal : (tx : Transaction) (op : Operation) → is_refusal (value_of tx op) ≡ false
no_refusal tx (Read id off len) = refl
no_refusal tx op = refl

-- one that seeks no block gives its value, and no place of an object
pub known_value : (tx : Transaction) (op : Operation) (reply : Option Value) → seeks_block op ≡ false → IsValue tx op reply → reply ≡ value_of tx op
known_value tx (Alloc size kind) reply other value = absurd (false≢true (sym other))
known_value tx (Reserve size kind) reply other value = absurd (false≢true (sym other))
known_value tx op reply other value = value

pub value_known : (tx : Transaction) (op : Operation) (reply : Option Value) → seeks_block op ≡ false → reply ≡ value_of tx op → IsValue tx op reply
value_known tx (Alloc size kind) reply other value = absurd (false≢true (sym other))
value_known tx (Reserve size kind) reply other value = absurd (false≢true (sym other))
value_known tx op reply other value = value

after_place : (op : Operation) (off : ℕ) (tx : Transaction) → seeks_block op ≡ false → after_reply op (Some (Offset off)) tx ≡ performed op tx
after_place (Alloc size kind) off tx other = absurd (false≢true (sym other))
after_place (Reserve size kind) off tx other = absurd (false≢true (sym other))
after_place op off tx other = refl

-- so it leaves what it performs
pub after_value : (op : Operation) (reply : Option Value) (tx : Transaction) → seeks_block op ≡ false → is_refusal reply ≡ false → after_reply op reply tx ≡ performed op tx
after_value op None tx other plain = refl
after_value op (Some (Refused r)) tx other plain = absurd (false≢true (sym plain))
after_value op (Some (Offset off)) tx other plain = after_place op off tx other
after_value op (Some value) tx other plain = refl

pub done_is_plain : (tx : Transaction) (op : Operation) (reply : Option Value) → IsValue tx op reply → is_refusal reply ≡ false
done_is_plain tx (Alloc size kind) reply value = ap is_refusal value.2
done_is_plain tx (Reserve size kind) reply value = ap is_refusal value.2
done_is_plain tx op reply value = ap is_refusal value ∙ no_refusal tx op

-- what an operation that is done leaves: what it performs, or a new object at a new place, or one that is reserved there
pub done_cases : (J : Transaction → Type 0) (op : Operation) (reply : Option Value) (tx : Transaction) → IsValue tx op reply
    → (seeks_block op ≡ false → J (performed op tx)) → ((size kind off : ℕ) → op ≡ Alloc size kind → IsNewPlace tx size off → J (allocated off size kind tx))
    → ((size kind off : ℕ) → op ≡ Reserve size kind → IsNewPlace tx size off → J (reserved off size kind tx)) → J (after_reply op reply tx)
done_cases J (Alloc size kind) reply tx value performs allocates reserves = subst (λ (o : Option Value). J (after_reply (Alloc size kind) o tx)) (sym value.2) (allocates size kind value.0 refl value.1)
done_cases J (Reserve size kind) reply tx value performs allocates reserves = subst (λ (o : Option Value). J (after_reply (Reserve size kind) o tx)) (sym value.2) (reserves size kind value.0 refl value.1)
done_cases J op reply tx value performs allocates reserves = subst J (sym (after_value op reply tx refl (done_is_plain tx op reply value))) (performs refl)

-- none of these operations allocated or is a free
abbrev pub KeepBlocks : List Told → Type 0
KeepBlocks told = list_all (λ (t : Told). not (changes_blocks t.operation t.reply)) told ≡ true

pub keep_first : (t : Told) (told : List Told) → KeepBlocks (t ∷ told) → changes_blocks t.operation t.reply ≡ false
keep_first t told keep = not-true (changes_blocks t.operation t.reply) (and_parts (not (changes_blocks t.operation t.reply)) (list_all (λ (u : Told). not (changes_blocks u.operation u.reply)) told) keep).0

pub keep_rest : (t : Told) (told : List Told) → KeepBlocks (t ∷ told) → KeepBlocks told
keep_rest t told keep = (and_parts (not (changes_blocks t.operation t.reply)) (list_all (λ (u : Told). not (changes_blocks u.operation u.reply)) told) keep).1

-- one that is not refused is no free, and no allocation
pub no_free : (op : Operation) (reply : Option Value) → changes_blocks op reply ≡ false → is_free op ≡ false
no_free op reply keeps = (or_parts (is_free op) (asks_for_blocks op && not (is_refusal reply)) keeps).0

asks_for_none : (op : Operation) (reply : Option Value) → changes_blocks op reply ≡ false → is_refusal reply ≡ false → asks_for_blocks op ≡ false
asks_for_none op reply keeps plain = ⊎_elim
    (λ (none : asks_for_blocks op ≡ false). none)
    (λ (refused : not (is_refusal reply) ≡ false). absurd (false≢true (sym plain ∙ not-false (is_refusal reply) refused)))
    (and_cases (asks_for_blocks op) (not (is_refusal reply)) (or_parts (is_free op) (asks_for_blocks op && not (is_refusal reply)) keeps).1)

pub no_alloc : (op : Operation) (reply : Option Value) → changes_blocks op reply ≡ false → is_refusal reply ≡ false → seeks_block op ≡ false
no_alloc op reply keeps plain = (or_parts (seeks_block op) (is_defer op) (asks_for_none op reply keeps plain)).0

pub no_defer : (op : Operation) (reply : Option Value) → changes_blocks op reply ≡ false → is_refusal reply ≡ false → is_defer op ≡ false
no_defer op reply keeps plain = (or_parts (seeks_block op) (is_defer op) (asks_for_none op reply keeps plain)).1

-- what is reserved is nothing then, so it may stand
pub stands_plain : (tx : Transaction) (op : Operation) → IsPlain tx.actions → StandsOnceDone tx op
stands_plain tx Publish plain = none tx.actions.reserved (all_released tx.actions.frees (given_over tx)) plain.reserved where
  none : (rs : List Reservation) (t : Transaction) → rs ≡ [] → MayStand rs t
  none rs t is = subst (λ (r : List Reservation). MayStand r t) (sym is) tt
stands_plain tx op plain = tt

-- an operation leaves nothing to be freed or reserved where it asks for none
pub plain_performed : (tx : Transaction) (op : Operation) → is_free op ≡ false → is_defer op ≡ false → IsPlain tx.actions → IsPlain (performed op tx).actions
plain_performed tx (Free id) no_free no_defer plain = absurd (false≢true (sym no_free))
plain_performed tx (DeferFree id) no_free no_defer plain = absurd (false≢true (sym no_defer))
plain_performed tx (WriteReserved id off bytes) no_free no_defer plain =
    record { frees = plain.frees; reserved = ap (map (λ (r : Reservation). cond (eqb r.off id.off) (record r { bytes = put_bytes off bytes r.bytes }) r)) plain.reserved }
plain_performed tx (SetValue id off value) no_free no_defer plain = record { frees = plain.frees; reserved = plain.reserved }
plain_performed tx Publish no_free no_defer plain = subst (λ (t : Transaction). IsPlain t.actions) (sym (published_plain tx plain)) (record { frees = refl; reserved = refl })
plain_performed tx Cancel no_free no_defer plain = record { frees = refl; reserved = refl }
plain_performed tx (AddRange id off len) no_free no_defer plain = by (is_new tx id.off) where
  by : (new : Bool) → IsPlain (cond new tx (record tx { recorded = tx.recorded ++ new_words tx.recorded (words_in (record { id = id; off = off; len = len })); records = tx.records + length (records_of (new_words tx.recorded (words_in (record { id = id; off = off; len = len })))) })).actions
  by true = plain
  by false = plain
plain_performed tx Commit no_free no_defer plain = by (leb tx.level 1) where
  by : (outermost : Bool) → IsPlain (cond outermost (resting (with_actions tx.moved tx.pool) tx.actions) (ended_inner (committed tx))).actions
  by true = plain
  by false = plain
plain_performed tx op no_free no_defer plain = plain

-- a refusal that leaves a trace aborts, but of an operation on the pending actions alone, which it leaves as it was
pub after_refused : (op : Operation) (reply : Option Value) (tx : Transaction) (r : Refusal) → IsRefused r reply → after_reply op reply tx ≡ cond (is_action op) tx (aborted (error.Refused r) tx)
after_refused op reply tx r is = ap (λ (x : Option Value). after_reply op x tx) is.told ∙ by_action (is_action op) where
  by_action : (b : Bool) → cond (b || changes_nothing r) tx (aborted (error.Refused r) tx) ≡ cond b tx (aborted (error.Refused r) tx)
  by_action true = refl
  by_action false = ap (λ (c : Bool). cond c tx (aborted (error.Refused r) tx)) is.traced

-- every lock that these operations take is in T, for writing if so asked
abbrev pub TakesWithin : (ℕ → Bool) → Bool → List Told → Type 0
TakesWithin T write told = (off : ℕ) → is_wanted (wants_taken told) off write ≡ true → T off ≡ true

pub takes_first : (T : ℕ → Bool) (write : Bool) (t : Told) (told : List Told) → TakesWithin T write (t ∷ told) → is_refusal t.reply ≡ false
    → (off : ℕ) → is_wanted (wants_of t.operation) off write ≡ true → T off ≡ true
unfolding wants_taken
takes_first T write t told within plain off wanted =
    let asks : Want → Bool = λ want. eqb want.id.off off && (want.write || not write) in
    within off (ap (λ (b : Bool). list_any asks (cond b [] (wants_of t.operation) ++ wants_taken told)) plain
    ∙ (list_any-append asks (wants_of t.operation) (wants_taken told) ∙ or_left (list_any asks (wants_of t.operation)) (list_any asks (wants_taken told)) wanted))

pub takes_rest : (T : ℕ → Bool) (write : Bool) (t : Told) (told : List Told) → TakesWithin T write (t ∷ told) → TakesWithin T write told
unfolding wants_taken
takes_rest T write t told within off wanted =
    let asks : Want → Bool = λ want. eqb want.id.off off && (want.write || not write) in
    let front : List Want = cond (is_refusal t.reply) [] (wants_of t.operation) in
    within off (list_any-append asks front (wants_taken told) ∙ or_right (list_any asks front) (list_any asks (wants_taken told)) wanted)

-- the other transaction is this one over other objects, which are the same in T, where all that it holds is
pub record Alike (T : ℕ → Bool) (root : Option ℕ) (tx other : Transaction) : Type 0 where
  pub objects : Objects
  pub before : Objects
  pub is : other ≡ over tx objects before root
  pub now : (off : ℕ) → T off ≡ true → object_at objects off ≡ object_at tx.pool.objects off
  pub at_start : (off : ℕ) → T off ≡ true → object_at before off ≡ object_at tx.before.objects off
  pub held : (off : ℕ) → holds_object tx off false ≡ true → T off ≡ true
  pub plain : IsPlain tx.actions

alike_along : (T : ℕ → Bool) (root : Option ℕ) (tx tx' other other' : Transaction) → tx ≡ tx' → other ≡ other' → Alike T root tx other → Alike T root tx' other'
alike_along T root tx tx' other other' e f h = subst (λ (o : Transaction). Alike T root tx' o) f (subst (λ (t : Transaction). Alike T root t other) e h)

-- objects with new bytes are the same where they were
put_alike : (one other : Objects) (off at : ℕ) (bytes : List ℕ) (x : ℕ) → object_at one x ≡ object_at other x → object_at (put_object off at bytes one) x ≡ object_at (put_object off at bytes other) x
put_alike one other off at bytes x same =
    object_at-put off at bytes one x
    ∙ (ap (λ (o : Option Object). cond (eqb x off) (option_map (with_bytes at bytes) o) o) same ∙ sym (object_at-put off at bytes other x))

-- and so are objects on which the same actions were performed
pub all_alike : (actions : List Action) (one other : Objects) (x : ℕ) → object_at one x ≡ object_at other x → object_at (all_performed actions one) x ≡ object_at (all_performed actions other) x
unfolding all_performed
all_alike [] one other x same = same
all_alike (SetWord id off value ∷ actions) one other x same =
    all_alike actions (put_object id.off off (number_bytes value) one) (put_object id.off off (number_bytes value) other) x (put_alike one other id.off off (number_bytes value) x same)

module _ (T : ℕ → Bool) (root : Option ℕ) (tx : Transaction) (objects before : Objects)
    (now : (off : ℕ) → T off ≡ true → object_at objects off ≡ object_at tx.pool.objects off)
    (at_start : (off : ℕ) → T off ≡ true → object_at before off ≡ object_at tx.before.objects off)
    (held : (off : ℕ) → holds_object tx off false ≡ true → T off ≡ true) (plain_now : IsPlain tx.actions) where
  same_value : (op : Operation) → is_not_locked tx op ≡ false → value_of (over tx objects before root) op ≡ value_of tx op
  same_value (Read id off len) locked =
      let range : Range = record { id = id; off = off; len = len } in
      ap (λ (bytes : List ℕ). Some (Bytes (bytes_at off len bytes)))
      (same_bytes objects tx.pool.objects id.off (now id.off (held id.off (range_held tx false range locked))))
  same_value op locked = refl

  done_alike : (op : Operation) (reply : Option Value) → seeks_block op ≡ false → is_not_locked tx op ≡ false → ((off : ℕ) → is_wanted (wants_of op) off false ≡ true → T off ≡ true)
      → IsDone tx op reply → IsDone (over tx objects before root) op reply
  done_alike op reply no_alloc locked within done = record {
    there = λ k d inside first.
        let want : Want = get_or (wants_of op) k d in
        let off : ℕ = want.id.off in
        let wanted : is_wanted (wants_of op) off false ≡ true =
        list_any_at (λ (w : Want). eqb w.id.off off && (w.write || not false)) (wants_of op) k d inside
        (and_from (eqb off off) (want.write || true) (eq-eqb off off refl) (or_right want.write true refl)) in
        subst (λ (o : Option Object). IsSome o) (sym (now off (within off wanted))) (done.there k d inside first);
    stands = stands_plain (over tx objects before root) op (record { frees = plain_now.frees; reserved = plain_now.reserved });
    value = value_known (over tx objects before root) op reply no_alloc (known_value tx op reply no_alloc done.value ∙ sym (same_value op locked));
  }

  same_match : (fr fr' : Option Refusal) (A A' : Type 0) (B : Refusal → Type 0) → fr' ≡ fr → (fr ≡ None → A → A') → MatchOption fr A B → MatchOption fr' A' B
  same_match None fr' A A' B e both m = subst (λ (o : Option Refusal). MatchOption o A' B) (sym e) (both refl m)
  same_match (Some r) fr' A A' B e both m = subst (λ (o : Option Refusal). MatchOption o A' B) (sym e) m

  answers_alike : (t : Told) (told : List Told) → changes_blocks t.operation t.reply ≡ false → TakesWithin T false (t ∷ told) → Answers tx t.operation t.reply
      → Answers (over tx objects before root) t.operation t.reply
  answers_alike t told keeps within a = record {
    known = a.known;
    seen = a.seen;
    answer = same_match (first_refusal a.seen tx t.operation) (first_refusal a.seen (over tx objects before root) t.operation)
        (IsDone tx t.operation t.reply) (IsDone (over tx objects before root) t.operation t.reply) (λ r. IsRefused r t.reply)
        (same_refusal a.seen tx t.operation objects before root (no_free t.operation t.reply keeps) plain_now (λ off h. now off (held off h)))
        (λ none done.
        let plain : is_refusal t.reply ≡ false = done_is_plain tx t.operation t.reply done.value in
        done_alike t.operation t.reply (no_alloc t.operation t.reply keeps plain) (passed_lock a.seen tx t.operation none)
        (takes_first T false t told within plain) done)
        a.answer;
  }

  abort_alike : (e : TxErr) → Alike T root (aborted e tx) (aborted e (over tx objects before root))
  abort_alike e = record {
    objects = before;
    before = before;
    is = refl;
    now = at_start;
    at_start = at_start;
    held = λ off h. held off (or_right (is_new tx off) (is_locked tx.locks off false) h);
    plain = plain_now;
  }

  end_alike : (outermost : Bool) → Alike T root
      (cond outermost (resting (with_actions tx.moved tx.pool) tx.actions) (ended_inner (committed tx)))
      (cond outermost (resting (with_actions tx.moved (over tx objects before root).pool) tx.actions) (ended_inner (committed (over tx objects before root))))
  end_alike true =
      let performed_alike_ : (x : ℕ) → T x ≡ true → object_at (all_performed tx.moved objects) x ≡ object_at (all_performed tx.moved tx.pool.objects) x = λ x inside. all_alike tx.moved objects tx.pool.objects x (now x inside) in
      record { objects = all_performed tx.moved objects; before = all_performed tx.moved objects; is = refl; now = performed_alike_; at_start = performed_alike_; held = λ off h. absurd (false≢true h); plain = plain_now }
  end_alike false = record { objects = objects; before = before; is = refl; now = now; at_start = at_start; held = held; plain = plain_now }

  -- what is recorded, where the object is new or not
  recorded_alike : (range : Range) (new : Bool) → Alike T root
      (cond new tx (record tx { recorded = tx.recorded ++ new_words tx.recorded (words_in range); records = tx.records + length (records_of (new_words tx.recorded (words_in range))) }))
      (cond new (over tx objects before root)
      (record (over tx objects before root) { recorded = tx.recorded ++ new_words tx.recorded (words_in range); records = tx.records + length (records_of (new_words tx.recorded (words_in range))) }))
  recorded_alike range true = record { objects = objects; before = before; is = refl; now = now; at_start = at_start; held = held; plain = plain_now }
  recorded_alike range false = record { objects = objects; before = before; is = refl; now = now; at_start = at_start; held = held; plain = plain_now }

  -- what is published is given over alike
  published_alike : Alike T root (published tx) (published (over tx objects before root))
  published_alike =
      alike_along T root (given_over tx) (published tx) (given_over (over tx objects before root)) (published (over tx objects before root))
      (sym (published_plain tx plain_now)) (sym (published_plain (over tx objects before root) (record { frees = plain_now.frees; reserved = plain_now.reserved })))
      (record { objects = objects; before = before; is = refl; now = now; at_start = at_start; held = held; plain = record { frees = refl; reserved = refl } })

  performed_alike : (op : Operation) → is_free op ≡ false → is_defer op ≡ false → ((off : ℕ) → is_wanted (wants_of op) off false ≡ true → T off ≡ true)
      → Alike T root (performed op tx) (performed op (over tx objects before root))
  performed_alike (Begin wants) no_free no_defer within = record {
    objects = objects;
    before = before;
    is = refl;
    now = now;
    at_start = at_start;
    held = λ off h. ⊎_elim (λ (w : is_wanted wants off false ≡ true). within off w) (λ (old : holds_object tx off false ≡ true). held off old) (held_from wants tx off false h);
    plain = plain_now;
  }
  performed_alike (AddRange id off len) no_free no_defer within = recorded_alike (record { id = id; off = off; len = len }) (is_new tx id.off)
  performed_alike (Write id off bytes) no_free no_defer within = record {
    objects = put_object id.off off bytes objects;
    before = before;
    is = refl;
    now = λ x inside. put_alike objects tx.pool.objects id.off off bytes x (now x inside);
    at_start = at_start;
    held = held;
    plain = plain_now;
  }
  performed_alike (Free id) no_free no_defer within = absurd (false≢true (sym no_free))
  performed_alike Publish no_free no_defer within = published_alike
  performed_alike Commit no_free no_defer within = end_alike (leb tx.level 1)
  performed_alike (Abort errnum) no_free no_defer within = abort_alike (error_for errnum)
  performed_alike op no_free no_defer within =
      record { objects = objects; before = before; is = refl; now = now; at_start = at_start; held = held; plain = plain_performed tx op no_free no_defer plain_now }

  after_alike : (t : Told) (told : List Told) → changes_blocks t.operation t.reply ≡ false → TakesWithin T false (t ∷ told) → (fr : Option Refusal) → MatchOption fr (IsDone tx t.operation t.reply) (λ r. IsRefused r t.reply)
      → Alike T root (after t tx) (after t (over tx objects before root))
  after_alike t told keeps within None done =
      let plain : is_refusal t.reply ≡ false = done_is_plain tx t.operation t.reply done.value in
      let made_none : seeks_block t.operation ≡ false = no_alloc t.operation t.reply keeps plain in
      alike_along T root (performed t.operation tx) (after t tx) (performed t.operation (over tx objects before root)) (after t (over tx objects before root))
      (sym (after_value t.operation t.reply tx made_none plain)) (sym (after_value t.operation t.reply (over tx objects before root) made_none plain))
      (performed_alike t.operation (no_free t.operation t.reply keeps) (no_defer t.operation t.reply keeps plain) (takes_first T false t told within plain))
  after_alike t told keeps within (Some r) is =
      alike_along T root (cond (is_action t.operation) tx (aborted (error.Refused r) tx)) (after t tx)
      (cond (is_action t.operation) (over tx objects before root) (aborted (error.Refused r) (over tx objects before root))) (after t (over tx objects before root))
      (sym (after_refused t.operation t.reply tx r is)) (sym (after_refused t.operation t.reply (over tx objects before root) r is))
      (refused_alike (is_action t.operation)) where
        refused_alike : (b : Bool) → Alike T root (cond b tx (aborted (error.Refused r) tx)) (cond b (over tx objects before root) (aborted (error.Refused r) (over tx objects before root)))
        refused_alike true = record { objects = objects; before = before; is = refl; now = now; at_start = at_start; held = held; plain = plain_now }
        refused_alike false = abort_alike (error.Refused r)

-- one operation answers alike, and leaves alike
pub step_alike : (T : ℕ → Bool) (root : Option ℕ) (t : Told) (told : List Told) (tx other : Transaction) → changes_blocks t.operation t.reply ≡ false → TakesWithin T false (t ∷ told) → Alike T root tx other
    → Answers tx t.operation t.reply → Answers other t.operation t.reply × Alike T root (after t tx) (after t other)
step_alike T root t told tx other keeps within alike answers =
    let there : Transaction = over tx alike.objects alike.before root in (
      subst (λ (o : Transaction). Answers o t.operation t.reply) (sym alike.is)
          (answers_alike T root tx alike.objects alike.before alike.now alike.at_start alike.held alike.plain t told keeps within answers),
      alike_along T root (after t tx) (after t tx) (after t there) (after t other) refl (ap (after t) (sym alike.is))
          (after_alike T root tx alike.objects alike.before alike.now alike.at_start alike.held alike.plain t told keeps within (first_refusal answers.seen tx t.operation) answers.answer),
    )

-- the same operations run with the same replies
pub runs_alike : (T : ℕ → Bool) (root : Option ℕ) (told : List Told) (tx other last : Transaction) → KeepBlocks told → TakesWithin T false told → Alike T root tx other → RunsOn tx told last
    → (end : Transaction) × RunsOn other told end × Alike T root last end
unfolding RunsOn
runs_alike T root [] tx other last keep within alike runs =
    (other, (ap (λ (t : Transaction). is_working t.stage) alike.is ∙ runs.0, refl), alike_along T root tx last other other (sym runs.1) refl alike)
runs_alike T root (t ∷ told) tx other last keep within alike runs =
    let next : Answers other t.operation t.reply × Alike T root (after t tx) (after t other) = step_alike T root t told tx other (keep_first t told keep) within alike runs.1 in
    let rest : (end : Transaction) × RunsOn (after t other) told end × Alike T root last end =
    runs_alike T root told (after t tx) (after t other) last (keep_rest t told keep) (takes_rest T false t told within) next.1 runs.2 in
    (rest.0, (ap (λ (t : Transaction). is_working t.stage) alike.is ∙ runs.0, next.0, rest.1), rest.2)
