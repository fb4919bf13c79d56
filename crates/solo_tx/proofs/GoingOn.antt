-- A lane at work stays so by what keeps its locks, what it found under them, and its call.
use Rattle.std.proofs.Common.{◌≡◌, refl, true, ℕ, ◌+◌, ◌*◌, All, Contains, [], map, slice_index, Some, sym, ap, ◌∙◌, subst, arith, ◌<◌, ◌≤◌, ◌/◌, ◌&&◌, ◌⊎◌, ◌++◌, List, is_some, length, get_or, ⊎_elim, inl, inr, ◌^◌}
use Rattle.std.specs.Prelude.{nat_eq}
use Rattle.std.specs.List.{IsDistinct}
use Rattle.std.specs.Option.{ForSome}
use Rattle.solo_model.specs.Actions.Action.{SetWord}
use Rattle.solo_crash.specs.OpenCall.{IsUnderWay}
use Rattle.solo_model.specs.declared.stage.Stage.TheVariants as model_stage
use Rattle.pm_objects.specs.declared.history.TxErr.TheVariants as error
use Rattle.solo_view.specs.Constants.{IsSameLane}
use Rattle.solo_view.specs.Steps.{Step}
use Rattle.solo_view.specs.View.{View, Lock}
use Rattle.solo_undo.specs.Spans.{IsSpan}
use Rattle.solo_undo.specs.Working.{FindsOpening, IsSameCall, IsWorking, KeepsOutside}
use Rattle.solo_world.specs.Lanes.{lock_of, last_number_of, span_of}
use Rattle.solo_world.specs.Opening.{Opening}
use Rattle.solo_world.specs.declared.lane.Lane.{Lane}
use Rattle.solo_world.proofs.Shapes.{shape_seen}
use Rattle.solo_lock.specs.Finding.{FindsObject}
use Rattle.solo_tx.specs.AtWork.{IsAtWork}
use Rattle.std.proofs.lemmas.List.{append-nil, map-append}
use Rattle.std.proofs.lemmas.List.Elements.{All-append, All-nil, All-map, All-weaker}
use Rattle.solo_crash.specs.Pending.{published_in}
use Rattle.solo_model.specs.Actions.{Action}
use Rattle.solo_pending.specs.Pending.{entry_of}
use Rattle.pm_record.specs.declared.redo.Op.TheVariants.{Set}
use Rattle.solo_redo.specs.Entering.{EntersHeap, IsOfPool, KnowsWord, MayEnter}
use Rattle.pm_record.specs.declared.redo.Redo.{Redo}
use Rattle.solo_tx.specs.AtWork.{ListsPublished, MakesNone, PublishesLocked}
use Rattle.solo_view.specs.Area.{is_in_area}
use Rattle.solo_view.specs.Rights.{is_written}
use Rattle.std.specs.Prelude.{IsTrue}
use Rattle.std.specs.List.{list_any}
use Rattle.solo_view.specs.Held.{is_under}
use Rattle.solo_world.specs.Entries.{IsKnownWord}

-- the lane's fields but for its memory and its records
pub record HasSameFields {M : Type 0} (lane next : Lane M) : Type 0 where
  pub pool : next.pool ≡ lane.pool
  pub shape : next.shape ≡ lane.shape
  pub locks : next.locks ≡ lane.locks
  pub entries : next.entries ≡ lane.entries
  pub level : next.level ≡ lane.level
  pub stage : next.stage ≡ lane.stage
  pub error : next.error ≡ lane.error
  pub drawn : next.drawn ≡ lane.drawn
  pub last : next.last ≡ lane.last
  pub stopped : next.stopped ≡ lane.stopped

pub fields_same : {M : Type 0} (lane next : Lane M) → next ≡ record lane { memory = next.memory; records = next.records } → HasSameFields lane next
fields_same {M} lane next same = record {
  pool = ap (λ (l : Lane M). l.pool) same;
  shape = ap (λ (l : Lane M). l.shape) same;
  locks = ap (λ (l : Lane M). l.locks) same;
  entries = ap (λ (l : Lane M). l.entries) same;
  level = ap (λ (l : Lane M). l.level) same;
  stage = ap (λ (l : Lane M). l.stage) same;
  error = ap (λ (l : Lane M). l.error) same;
  drawn = ap (λ (l : Lane M). l.drawn) same;
  last = ap (λ (l : Lane M). l.last) same;
  stopped = ap (λ (l : Lane M). l.stopped) same;
}

-- the view's locks, and what is known of the objects under them
pub record KeepsObjects (v w : View) : Type 0 where
  pub lane : IsSameLane v w
  pub locks : w.locks ≡ v.locks
  pub number : w.number ≡ v.number
  pub entries : w.entries ≡ v.entries
  pub remembers : (u : ℕ) → Contains v.known u → Contains w.known u
  pub seen : (s : Step) → Contains v.seen s → Contains w.seen s
  pub sizes : (l : Lock) → Contains v.locks l → slice_index w.words (8 * l.line + 1) ≡ slice_index v.words (8 * l.line + 1)

pub objects_kept : (v w : View) → IsSameCall v w → ((l : Lock) → Contains v.locks l → slice_index w.words (8 * l.line + 1) ≡ slice_index v.words (8 * l.line + 1)) → KeepsObjects v w
objects_kept v w call sizes = record {
  lane = call.lane;
  locks = call.locks;
  number = call.number;
  entries = call.entries;
  remembers = call.remembers;
  seen = call.seen;
  sizes = sizes;
}

-- an entry of a word of the pool stays one under the same locks, where it sets the word or the lane knows it still
pub of_pool_on : (v w : View) → IsSameLane v w → w.locks ≡ v.locks → (e : Redo) → IsOfPool v e → KnowsWord w e → IsOfPool w e
of_pool_on v w lane locks e is known = record {
  entry = is.entry;
  own = subst (λ (held : List Lock). IsTrue (list_any (λ (l : Lock). l.write && is_some l.block && is_under (e.place / 8) l) held)) (sym locks) is.own;
  outside = ap (λ (k : ℕ). is_in_area k (e.place / 8)) lane.lane ∙ is.outside;
  inside = (let low = is.inside in let size = lane.size in omega (arith, low, size));
  known = known;
}

-- the lane knows it, where nothing changed outside of its area
pub knows_on : (v w : View) → ((u : ℕ) → Contains v.known u → Contains w.known u) → KeepsOutside v w → (e : Redo) → IsOfPool v e → KnowsWord w e
knows_on v w remembers same e is =
    ⊎_elim inl (λ (t : IsKnownWord v (e.place / 8)). inr (record { known = remembers (e.place / 8) t.known; small = subst (λ n. n < 2 ^ 64) (sym (same (e.place / 8) is.outside)) t.small })) is.known

-- an entry of the heap stays one, where it sets the word or that has 64 bits still
heap_on : (v w : View) → IsSameLane v w → w.locks ≡ v.locks → (e : Redo) → EntersHeap v e → (e.op ≡ Set) ⊎ (slice_index w.words (e.place / 8) < 2 ^ 64) → EntersHeap w e
heap_on v w lane locks e is small = record {
  entry = is.entry;
  alone = lane.table ∙ is.alone;
  unlocked = ap (λ (held : List Lock). list_any (λ (l : Lock). l.write && is_some l.block && is_under (e.place / 8) l) held) locks ∙ is.unlocked;
  outside = ap (λ (k : ℕ). is_in_area k (e.place / 8)) lane.lane ∙ is.outside;
  inside = (let low = is.inside in let size = lane.size in omega (arith, low, size));
  small = small;
}

-- so the lane may enter what it might before, where it knows the words still that it locked for writing
pub enters_on : (v w : View) → IsSameLane v w → w.locks ≡ v.locks → ((u : ℕ) → is_written v u ≡ true → Contains v.known u → Contains w.known u) → KeepsOutside v w → (e : Redo) → MayEnter v e → MayEnter w e
enters_on v w lane locks remembers same e may = ⊎_elim
    (λ (is : IsOfPool v e).
    inl (of_pool_on v w lane locks e is (⊎_elim inl (λ (t : IsKnownWord v (e.place / 8)). inr (record { known = remembers (e.place / 8) is.own t.known; small = subst (λ n. n < 2 ^ 64) (sym (same (e.place / 8) is.outside)) t.small })) is.known)))
    (λ (is : EntersHeap v e). inr (heap_on v w lane locks e is (subst (λ n. (e.op ≡ Set) ⊎ (n < 2 ^ 64)) (sym (same (e.place / 8) is.outside)) is.small)))
    may

-- and what sets its word, whatever that and the others are now
pub sets_on : (v w : View) → IsSameLane v w → w.locks ≡ v.locks → (e : Redo) → e.op ≡ Set → MayEnter v e → MayEnter w e
sets_on v w lane locks e sets may = ⊎_elim (λ (is : IsOfPool v e). inl (of_pool_on v w lane locks e is (inl sets))) (λ (is : EntersHeap v e). inr (heap_on v w lane locks e is (inl sets))) may

-- an action sets its word
sets_word : (a : Action) → (entry_of a).op ≡ Set
sets_word (SetWord id off value) = refl

listed_set : {M : Type 0} (lane : Lane M) (v : View) → ListsPublished lane v → All (λ (e : Redo). e.op ≡ Set) lane.entries.items
listed_set lane v lists = subst (All (λ (e : Redo). e.op ≡ Set)) (sym lists.listed) (All-map (λ (e : Redo). e.op ≡ Set) entry_of (published_in v) (λ n d low. sets_word (get_or (published_in v) n d)))

-- where nothing is published and no entry listed
pub lists_none : {M : Type 0} (lane : Lane M) (v : View) → lane.entries.items ≡ [] → published_in v ≡ [] → ListsPublished lane v
lists_none lane v none nothing = record {
  listed = none ∙ sym (ap (map entry_of) nothing);
  few = (let long = ap (λ (es : List Redo). length es) none in omega (arith, long));
  may_enter = subst (All (MayEnter v)) (sym none) (All-nil (MayEnter v));
  locked = λ made_none. subst (All (λ (a : Action). IsOfPool v (entry_of a))) (sym nothing) (All-nil (λ (a : Action). IsOfPool v (entry_of a)));
}

-- the words of actions that are under locks stay so
own_on : (v w : View) → IsSameLane v w → w.locks ≡ v.locks → (actions : List Action) → All (λ (a : Action). IsOfPool v (entry_of a)) actions → All (λ (a : Action). IsOfPool w (entry_of a)) actions
own_on v w same locks actions own =
    All-weaker (λ (a : Action). IsOfPool v (entry_of a)) (λ (a : Action). IsOfPool w (entry_of a)) (λ a is. of_pool_on v w same locks (entry_of a) is (inl (sets_word a))) actions own

pub locked_on : (v w : View) → IsSameLane v w → w.locks ≡ v.locks → published_in w ≡ published_in v → PublishesLocked v → PublishesLocked w
locked_on v w same locks published own = subst (All (λ (a : Action). IsOfPool w (entry_of a))) (sym published) (own_on v w same locks (published_in v) own)

-- so what is listed is of words under locks
pub listed_locked : {M : Type 0} (lane : Lane M) (v : View) → ListsPublished lane v → PublishesLocked v → All (IsOfPool v) lane.entries.items
listed_locked lane v lists own = subst (All (IsOfPool v)) (sym lists.listed) (All-map (IsOfPool v) entry_of (published_in v) own)

-- where the lane lists the entries of some actions more that were published, which it may enter, and of words under locks where the call made no object
pub lists_more : {M : Type 0} (lane next : Lane M) (v w : View) (actions : List Action) → next.entries.items ≡ lane.entries.items ++ map entry_of actions → length next.entries.items ≤ 63
    → IsSameLane v w → w.locks ≡ v.locks → published_in w ≡ published_in v ++ actions → (MakesNone w → MakesNone v)
    → All (λ (a : Action). MayEnter v (entry_of a)) actions → (MakesNone w → All (λ (a : Action). IsOfPool v (entry_of a)) actions) → ListsPublished lane v → ListsPublished next w
lists_more lane next v w actions entries few same locks published before may own lists = record {
  listed = entries ∙ ((λ j. lists.listed j ++ map entry_of actions) ∙ (sym (map-append entry_of (published_in v) actions) ∙ ap (map entry_of) (sym published)));
  few = few;
  may_enter =
      subst (All (MayEnter w)) (sym entries)
      (All-append (MayEnter w) lane.entries.items (map entry_of actions)
      (λ n d low. sets_on v w same locks (get_or lane.entries.items n d) (listed_set lane v lists n d low) (lists.may_enter n d low))
      (All-map (MayEnter w) entry_of actions (All-weaker (λ (a : Action). MayEnter v (entry_of a)) (λ (a : Action). MayEnter w (entry_of a)) (λ a is. sets_on v w same locks (entry_of a) (sets_word a) is) actions may)));
  locked = λ none.
      subst (All (λ (a : Action). IsOfPool w (entry_of a))) (sym published)
      (own_on v w same locks (published_in v ++ actions) (All-append (λ (a : Action). IsOfPool v (entry_of a)) (published_in v) actions (lists.locked (before none)) (own none)));
}

-- where the lane lists the same entries, and published the same, and the call had made no object where it made none now
pub lists_on : {M : Type 0} (lane next : Lane M) (v w : View) → next.entries ≡ lane.entries → IsSameLane v w → w.locks ≡ v.locks → published_in w ≡ published_in v
    → (MakesNone w → MakesNone v) → ListsPublished lane v → ListsPublished next w
lists_on lane next v w entries same locks published before lists =
    lists_more lane next v w [] (ap (λ es. es.items) entries ∙ sym (append-nil lane.entries.items)) (subst (λ es. length es.items ≤ 63) (sym entries) lists.few)
    same locks (published ∙ sym (append-nil (published_in v))) before
    (All-nil (λ (a : Action). MayEnter v (entry_of a))) (λ none. All-nil (λ (a : Action). IsOfPool v (entry_of a))) lists

-- and by what it lists of the entries of its call
pub goes_on_listing : {M : Type 0} (o : Opening) (at : M → View → Type 0) (lane next : Lane M) (v w : View) → IsAtWork o at lane v → HasSameFields (record lane { entries = next.entries }) next → KeepsObjects v w
    → at next.memory w → next.records.items ≡ map span_of w.log.records → All IsSpan next.records.items → FindsOpening o w → IsWorking w → w.log.entries ≡ [] → ListsPublished next w
    → IsUnderWay w lane.level model_stage.Work error.None → IsAtWork o at next w
goes_on_listing o at lane next v w work fields keeps seen records spans opening working no_entries published under_way = record {
  seen = record {
    memory = seen;
    pool = keeps.lane.pool ∙ (work.seen.pool ∙ sym fields.pool);
    shape = shape_seen lane next v w (record { pool = fields.pool; shape = fields.shape }) keeps.lane work.seen.shape;
    locks = ap (λ locks. map lock_of locks.items) fields.locks ∙ (work.seen.locks ∙ sym keeps.locks);
    records = records;
    drawn = subst (λ drawn. ForSome drawn (λ number. w.number ≡ Some number)) (sym fields.drawn) (subst (λ n. ForSome lane.drawn (λ number. n ≡ Some number)) (sym keeps.number) work.seen.drawn);
    last = fields.last ∙ (work.seen.last ∙ ap last_number_of (sym keeps.entries));
  };
  level = (let e = fields.level in let some = work.level in omega (arith, e, some));
  works = fields.stage ∙ work.works;
  unharmed = fields.error ∙ work.unharmed;
  unstopped = fields.stopped ∙ work.unstopped;
  spans = spans;
  sound = work.sound;
  zones = work.zones;
  opening = opening;
  working = working;
  no_entries = no_entries;
  published = published;
  under_way = subst (λ n. IsUnderWay w n model_stage.Work error.None) (sym fields.level) under_way;
  may_come = record { found = work.may_come.found; seen = keeps.seen _ work.may_come.seen; below = work.may_come.below };
  lines = record {
    inside = subst (λ locks. All (λ (l : Lock). l.line < length w.words / 8) locks) (sym keeps.locks) (subst (λ n. All (λ (l : Lock). l.line < n / 8) v.locks) (work.opening.size ∙ sym opening.size) work.lines.inside);
    once = subst (λ locks. IsDistinct nat_eq (map (λ (l : Lock). l.line) locks)) (sym keeps.locks) work.lines.once;
  };
  objects = λ l there.
      let held : Contains v.locks l = subst (λ locks. Contains locks l) keeps.locks there in
      let object : FindsObject v l = work.objects l held in
      record {
        lines = object.lines;
        block = object.block;
        known = keeps.remembers (8 * l.line + 1) object.known;
        fits = (let same = keeps.sizes l held in let most = object.fits in omega (arith, same, most));
      };
}

-- where it lists the same
pub goes_on : {M : Type 0} (o : Opening) (at : M → View → Type 0) (lane next : Lane M) (v w : View) → IsAtWork o at lane v → HasSameFields lane next → KeepsObjects v w
    → at next.memory w → next.records.items ≡ map span_of w.log.records → All IsSpan next.records.items → FindsOpening o w → IsWorking w → w.log.entries ≡ [] → published_in w ≡ published_in v
    → (MakesNone w → MakesNone v) → IsUnderWay w lane.level model_stage.Work error.None → IsAtWork o at next w
goes_on o at lane next v w work fields keeps seen records spans opening working no_entries published before under_way =
    let but_entries : HasSameFields (record lane { entries = next.entries }) next =
    record { pool = fields.pool; shape = fields.shape; locks = fields.locks; entries = refl; level = fields.level; stage = fields.stage; error = fields.error; drawn = fields.drawn; last = fields.last; stopped = fields.stopped } in
    goes_on_listing o at lane next v w work but_entries keeps seen records spans opening working no_entries (lists_on lane next v w fields.entries keeps.lane keeps.locks published before work.published) under_way
