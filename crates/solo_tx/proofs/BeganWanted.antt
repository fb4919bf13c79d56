-- A lane that took the locks of a plan and found objects under them holds what the begin wants; one that found none is refused.
use Rattle.std.proofs.Common.{◌≡◌, ◌⊎◌, ⊎_elim, inl, inr, ℕ, zero, suc, ◌+◌, ◌*◌, ◌/◌, ◌%◌, ◌<◌, ◌≤◌, Bool, true, false, not, cond, eqb, ◌&&◌, ◌||◌, Any, Contains, IsTrue, List, [], ◌∷◌, map, length, slice_index, Some, None, refl, sym, ap, ◌∙◌, subst, arith}
use Rattle.std.specs.List.{filter, list_any}
use Rattle.std.specs.Prelude.{IfSome}
use Rattle.std.proofs.lemmas.Bool.{and_from, and_parts, cases_Bool, eq-eqb, eqb-true, false≢true, not-true, or_cases, or_left, or_right}
use Rattle.std.proofs.lemmas.List.{length-map}
use Rattle.std.proofs.lemmas.List.Elements.{All-contains}
use Rattle.std.proofs.lemmas.List.Folds.{Any-from_list_any, list_any_at}
use Rattle.std.proofs.lemmas.Option.{none-some}
use Rattle.solo_crash.proofs.Begun.{all_pass}
use Rattle.solo_crash.proofs.SameLocks.{is_locked_after}
use Rattle.solo_crash.specs.Locks.{AreSameLocks}
use Rattle.solo_crash.specs.OpenCall.{locks_of}
use Rattle.solo_crash.specs.OpenCall.{lock_of as model_lock}
use Rattle.solo_crash.specs.Operations.{IsBeginReason, TakesWanted, is_placed, wants_first}
use Rattle.pm_objects.specs.declared.calls.Want.{Want}
use Rattle.pm_objects.specs.declared.refusal.Refusal.{Refusal}
use Rattle.pm_objects.specs.declared.refusal.Refusal.TheVariants as refusal
use Rattle.solo_model.specs.Places.{can_begin}
use Rattle.solo_model.specs.Transaction.{Lock as Locked, is_locked, locked, locked_all}
use Rattle.solo_undo.specs.Working.{FindsOpening}
use Rattle.solo_view.specs.Blocks.{bitmap_word, block_at, descriptor_word, has_block, is_chunk, is_huge, is_run}
use Rattle.solo_view.specs.View.{View, Lock}
use Rattle.solo_world.specs.Opening.{Opening}
use Rattle.solo_world.specs.declared.lane.HeldLock.{HeldLock}
use Rattle.solo_world.specs.declared.lane.Lane.{Lane}
use Rattle.solo_lock.proofs.LookedAlone.{any_lacks_same}
use Rattle.solo_lock.proofs.PlannedLocks.{model_length}
use Rattle.solo_lock.specs.Finding.{FindsObject, FindsObjects}
use Rattle.solo_lock.specs.Lacking.{HoldsNoObject, LacksObject}
use Rattle.solo_lock.specs.Plans.{IsPlan, has_form, locks_of_form, model_locks}
use Rattle.solo_tx.specs.Begins.{HasFoundNone, IsRefusedAtOnce}

-- what is locked stays locked as more is wanted
stays_locked : (wants : List Want) (locks : List Locked) (off : ℕ) (write : Bool) → is_locked locks off write ≡ true → is_locked (locked_all wants locks) off write ≡ true
unfolding locked_all
stays_locked [] locks off write is = is
stays_locked (want ∷ wants) locks off write is =
    stays_locked wants (locked want.id.off want.write locks) off write
    (is_locked_after want.id.off want.write locks off write ∙ or_left (is_locked locks off write) (eqb want.id.off off && (want.write || not write)) is)

all_hold : (b : Bool) → (b || not b) ≡ true
all_hold true = refl
all_hold false = refl

-- the first of some wants, or a later one
member_cases : (w : Want) (wants : List Want) (want : Want) → Contains (w ∷ wants) want → (w ≡ want) ⊎ Contains wants want
member_cases w wants want (zero, low, is) = inl is
member_cases w wants want (suc k, low, is) = inr (k, omega (arith, low), is)

-- and what is wanted is locked
pub wanted_locked : (wants : List Want) (locks : List Locked) (want : Want) → Contains wants want → is_locked (locked_all wants locks) want.id.off want.write ≡ true
unfolding locked_all
wanted_locked [] locks want there = absurd (let low = there.1 in omega (arith, low))
wanted_locked (w ∷ wants) locks want there =
    ⊎_elim
    (λ (here : w ≡ want).
    stays_locked wants (locked w.id.off w.write locks) want.id.off want.write
    (is_locked_after w.id.off w.write locks want.id.off want.write
    ∙ or_right (is_locked locks want.id.off want.write) (eqb w.id.off want.id.off && (w.write || not want.write))
    (subst (λ (u : Want). (eqb w.id.off u.id.off && (w.write || not u.write)) ≡ true) here (and_from (eqb w.id.off w.id.off) (w.write || not w.write) (eq-eqb w.id.off w.id.off refl) (all_hold w.write)))))
    (λ (later : Contains wants want). wanted_locked wants (locked w.id.off w.write locks) want later)
    (member_cases w wants want there)

-- and what is locked was locked before, or is wanted
locked_wanted : (wants : List Want) (locks : List Locked) (off : ℕ) → is_locked (locked_all wants locks) off false ≡ true → (is_locked locks off false ≡ true) ⊎ Any (λ (want : Want). want.id.off ≡ off) wants
unfolding locked_all
locked_wanted [] locks off is = inl is
locked_wanted (w ∷ wants) locks off is =
    ⊎_elim
    (λ (front : is_locked (locked w.id.off w.write locks) off false ≡ true).
    ⊎_elim (λ (before : is_locked locks off false ≡ true). inl before)
    (λ (here : (eqb w.id.off off && (w.write || not false)) ≡ true). inr (0, w, omega arith, refl, eqb-true w.id.off off (and_parts (eqb w.id.off off) (w.write || not false) here).0))
    (or_cases (is_locked locks off false) (eqb w.id.off off && (w.write || not false)) (sym (is_locked_after w.id.off w.write locks off false) ∙ front)))
    (λ (later : Any (λ (want : Want). want.id.off ≡ off) wants). inr (suc later.0, later.1, (let low = later.2 in omega (arith, low)), later.3, later.4))
    (locked_wanted wants (locked w.id.off w.write locks) off is)

-- a lock of an object is of the line before it
pub locked_by : (locks : List Lock) (off : ℕ) (write : Bool) → is_locked (map model_lock locks) off write ≡ list_any (λ (l : Lock). eqb (64 * l.line + 64) off && (l.write || not write)) locks
locked_by [] off write = refl
locked_by (l ∷ locks) off write = ap (λ b. (eqb (64 * l.line + 64) off && (l.write || not write)) || b) (locked_by locks off write)

-- where a block is found there is a chunk
no_chunk : (lanes : ℕ) (words : List ℕ) (line : ℕ) → is_chunk lanes (line / 64) ≡ false → block_at lanes words line ≡ None
no_chunk lanes words line none =
    let d : ℕ = slice_index words (descriptor_word lanes (line / 64)) in
    ap (λ b. cond (not b) None (cond (is_run d && has_block (slice_index words (bitmap_word (line / 64))) (d / 256) (line % 64)) (Some (d / 256)) (cond (is_huge d && eqb (line % 64) 0) (Some (64 * (d / 256))) None))) none

found_chunk : (lanes : ℕ) (words : List ℕ) (line lines : ℕ) → block_at lanes words line ≡ Some lines → is_chunk lanes (line / 64) ≡ true
found_chunk lanes words line lines found = ⊎_elim
    (λ (chunk : is_chunk lanes (line / 64) ≡ true). chunk)
    (λ (none : is_chunk lanes (line / 64) ≡ false). absurd (none-some lines (sym (no_chunk lanes words line none) ∙ found)))
    (cases_Bool (is_chunk lanes (line / 64)))

module _ (pool : ℕ) (v : View) (wants : List Want) (plan : List HeldLock) (of_pool : v.pool ≡ pool) (is : IsPlan pool v.lanes v.zones wants plan) (models : locks_of v ≡ model_locks plan) where
  pub same_locks : AreSameLocks (locks_of v) (locked_all wants [])
  same_locks = subst (λ (locks : List Locked). AreSameLocks locks (locked_all wants [])) (sym models) is.same

  pub count : length v.locks ≡ length plan
  count = sym (length-map v.locks model_lock) ∙ ap length models ∙ model_length plan

  pub takes_wanted : FindsObjects v → (o : Opening) → FindsOpening o v → TakesWanted v [] wants
  takes_wanted objects o finds = record {
    few = (let n = count in let few = is.few in omega (arith, n, few));
    locks = same_locks;
    wanted = λ want there.
        let form = and_parts (eqb want.id.pool pool) (can_begin v.lanes v.zones want.id.off) (is.placed want there) in
        let holds = sym (locked_by v.locks want.id.off want.write) ∙ same_locks.same want.id.off want.write ∙ wanted_locked wants [] want there in
        let t = Any-from_list_any (λ (l : Lock). eqb (64 * l.line + 64) want.id.off && (l.write || not want.write)) v.locks holds in
        let test = and_parts (eqb (64 * t.1.line + 64) want.id.off) (t.1.write || not want.write) t.4 in
        let held : Contains v.locks t.1 = (t.0, t.2, t.3) in
        let object : FindsObject v t.1 = objects t.1 held in
        record {
          place = form.1;
          held = record {
            lock = t.1;
            lines = object.lines;
            held = held;
            block = object.block;
            allows = test.1;
            of_pool = eqb-true want.id.pool pool form.0 ∙ sym of_pool;
            place = sym (eqb-true (64 * t.1.line + 64) want.id.off test.0);
          };
        };
    chunks = λ l lines there block.
        let found = subst (λ b. IfSome b (λ lines. block_at o.lanes o.words l.line ≡ Some lines)) block (All-contains (λ (m : Lock). IfSome m.block (λ lines. block_at o.lanes o.words m.line ≡ Some lines)) v.locks l finds.locks there) in
        ap (λ n. is_chunk n (l.line / 64)) finds.lanes ∙ found_chunk o.lanes o.words l.line lines found;
  }

  -- where it holds the lock of a line with no object, something wanted has none
  pub lacks_wanted : HoldsNoObject v → Any (LacksObject v) wants
  lacks_wanted holds =
      let l : Lock = holds.lock in
      let off : ℕ = 64 * l.line + 64 in
      let there = holds.held in
      let test : (eqb (64 * l.line + 64) off && (l.write || not false)) ≡ true = and_from (eqb (64 * l.line + 64) off) (l.write || not false) (eq-eqb off off refl) (or_right l.write true refl) in
      let held : is_locked (locks_of v) off false ≡ true =
      locked_by v.locks off false
      ∙ list_any_at (λ (k : Lock). eqb (64 * k.line + 64) off && (k.write || not false)) v.locks there.0 l there.1 (ap (λ (k : Lock). eqb (64 * k.line + 64) off && (k.write || not false)) there.2 ∙ test) in
      ⊎_elim (λ (none : is_locked [] off false ≡ true). absurd (false≢true none))
      (λ (some : Any (λ (want : Want). want.id.off ≡ off) wants). (some.0, some.1, some.2, some.3, inr (record { line = l.line; place = some.4; none = holds.none })))
      (locked_wanted wants [] off (sym (same_locks.same off false) ∙ held))

  -- a begin that wants something may be refused, since there is no object
  some_wanted : (wants : List Want) → 0 < length (locked_all wants []) → wants_first [] wants ≡ true
  unfolding locked_all
  some_wanted [] some = absurd (omega (arith, some))
  some_wanted (want ∷ wants) some = refl

  pub no_object : 0 < length v.locks → IsBeginReason v 0 [] wants refusal.NoObject
  no_object some = (
    omega arith,
    (let same : locked_all (filter (has_form v.pool v.lanes v.zones) wants) [] ≡ locked_all wants [] =
        ap (λ ws. locked_all ws []) (all_pass (has_form v.pool v.lanes v.zones) wants (λ want there. subst (λ p. has_form p v.lanes v.zones want ≡ true) (sym of_pool) (is.placed want there))) in
        let n = ap length same in let m = same_locks.count in let k = length-map v.locks model_lock in let few = count in let most = is.few in omega (arith, n, m, k, few, most)),
    inr (some_wanted wants (let m = same_locks.count in let k = length-map v.locks model_lock in omega (arith, m, k, some))),
  )

-- where something wanted has no object as the begin is refused at once, it has none by the words of the view that the refusal leaves
pub found_none : {M : Type 0} (at : M → View → Type 0) (lane : Lane M) (v : View) (wants : List Want) → IsRefusedAtOnce at lane v wants refusal.NoObject → Any (LacksObject v) wants → HasFoundNone at lane v wants
found_none at lane v wants is lacks = let same = is.refused.same in record { refused = is.refused; lacking = any_lacks_same v is.refused.view same.lanes same.zones same.pool is.words wants lacks }

-- the wants by the view's pool and shape
module _ (pool lanes zones : ℕ) (v : View) (wants : List Want) (of_pool : v.pool ≡ pool) (of_lanes : v.lanes ≡ lanes) (of_zones : v.zones ≡ zones) where
  by_view : (P : ℕ → ℕ → ℕ → Type 0) → P pool lanes zones → P v.pool v.lanes v.zones
  by_view P is = subst (λ p. P p v.lanes v.zones) (sym of_pool) (subst (λ n. P pool n v.zones) (sym of_lanes) (subst (P pool lanes) (sym of_zones) is))

  full_reason : 64 < length (locks_of_form pool lanes zones wants) → IsBeginReason v 0 [] wants refusal.LocksFull
  full_reason full = (omega arith, by_view (λ p n z. 64 < length (locks_of_form p n z wants)) full)

  form_reason : (length (locks_of_form pool lanes zones wants) ≤ 64) × IsTrue (list_any (λ (want : Want). not (has_form pool lanes zones want)) wants) → IsBeginReason v 0 [] wants refusal.NoObject
  form_reason lack = (
    omega arith,
    by_view (λ p n z. length (locks_of_form p n z wants) ≤ 64) lack.0,
    inl (by_view (λ p n z. IsTrue (list_any (λ (want : Want). not (has_form p n z want)) wants)) lack.1),
  )

  -- a want without an object's form lacks an object
  pub form_lacks : IsTrue (list_any (λ (want : Want). not (has_form pool lanes zones want)) wants) → Any (LacksObject v) wants
  form_lacks lack =
      let t = Any-from_list_any (λ (want : Want). not (is_placed v want)) wants (by_view (λ p n z. IsTrue (list_any (λ (want : Want). not (has_form p n z want)) wants)) lack) in
      (t.0, t.1, t.2, t.3, inl (not-true (is_placed v t.1) t.4))

  -- so does a begin that is refused for it
  pub unplanned_lacks : {M : Type 0} (at : M → View → Type 0) (new : Lane M) (r : Refusal) → r ≡ refusal.NoObject → (r ≡ refusal.NoObject → (length (locks_of_form pool lanes zones wants) ≤ 64) × IsTrue (list_any (λ (want : Want). not (has_form pool lanes zones want)) wants))
      → (IsBeginReason v 0 [] wants r → IsRefusedAtOnce at new v wants r) → HasFoundNone at new v wants
  unplanned_lacks at new r is lack refuses =
      found_none at new v wants (subst (λ q. IsBeginReason v 0 [] wants q → IsRefusedAtOnce at new v wants q) is refuses (form_reason (lack is))) (form_lacks (lack is).1)

  -- wants that have no plan are refused for a reason
  pub unplanned_reason : (r : Refusal) → (r ≡ refusal.LocksFull) ⊎ (r ≡ refusal.NoObject) → (r ≡ refusal.LocksFull → 64 < length (locks_of_form pool lanes zones wants))
      → (r ≡ refusal.NoObject → (length (locks_of_form pool lanes zones wants) ≤ 64) × IsTrue (list_any (λ (want : Want). not (has_form pool lanes zones want)) wants)) → IsBeginReason v 0 [] wants r
  unplanned_reason r (inl is) full lack = subst (IsBeginReason v 0 [] wants) (sym is) (full_reason (full is))
  unplanned_reason r (inr is) full lack = subst (IsBeginReason v 0 [] wants) (sym is) (form_reason (lack is))
