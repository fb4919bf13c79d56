-- What a call made, whether it has it or freed it again, stays so while the call goes on, and is listed with all that it allocated.
use Rattle.std.proofs.Common.{◌≡◌, ◌⊎◌, ⊎_elim, inl, inr, ℕ, ◌||◌, Bool, true, false, cond, not, eq-eqb, List, [], ◌∷◌, ◌++◌, map, Option, None, Some, sym, ap, subst}
use Rattle.std.specs.List.{All, Contains, filter, list_any}
use Rattle.std.proofs.lemmas.Bool.{cases_Bool, or_left, or_right}
use Rattle.std.proofs.lemmas.List.Elements.{All-weaker, Contains-append_cases, Contains-append_left, Contains-append_right}
use Rattle.std.proofs.lemmas.List.Folds.{list_any-from_Any}
use Rattle.pm_image.proofs.Members.{later_member, no_member}
use Rattle.pm_objects.specs.declared.calls.Operation.{Operation}
use Rattle.pm_objects.specs.declared.calls.Operation.TheVariants.{Abort, Alloc, Free, Publish}
use Rattle.pm_objects.specs.declared.history.Value.{Value}
use Rattle.pm_objects.specs.declared.history.Value.TheVariants.{Offset, Refused}
use Rattle.solo_model.specs.declared.stage.Stage.TheVariants as stage
use Rattle.pm_objects.specs.declared.ids.Oid.{Oid}
use Rattle.solo_model.specs.Actions.{Action, Pending, Reservation}
use Rattle.solo_model.specs.Answers.{after_reply, changes_nothing}
use Rattle.solo_model.specs.Checks.{is_action}
use Rattle.solo_model.specs.Transaction.{Transaction, aborted, is_working}
use Rattle.pm_objects.specs.declared.history.TxErr.TheVariants as error
use Rattle.solo_view.specs.View.{Told, View}
use Rattle.solo_world.proofs.StepGive.{contains-filter, filter-contains}
use Rattle.solo_crash.specs.CallBlocks.{CallBlocks, NewObject, allocated_by, allocated_in, allocated_told, blocks_behind, blocks_in, blocks_told, is_at, is_new_in, no_blocks, reserved_object, with_all_freed, with_all_made, with_freed, with_made}
use Rattle.solo_crash.specs.OpenCall.{IsPerformable, LiesInNew}
use Rattle.solo_crash.specs.Pending.{pending_before, pending_behind}
use Rattle.solo_crash.specs.Performing.{CanPerform}

abbrev pub news_in : CallBlocks → List NewObject
news_in b = b.made ++ b.dropped

-- ---- they stay

stays_freed : (off : ℕ) (b : CallBlocks) (n : NewObject) → Contains (news_in b) n → Contains (news_in (with_freed off b)) n
stays_freed off b n there = by (list_any (is_at off) b.made) where
  left : List NewObject
  left = filter (λ m. not (is_at off m)) b.made

  gone : List NewObject
  gone = filter (is_at off) b.made

  dropped_now : Contains (left ++ (b.dropped ++ gone)) n
  dropped_now = ⊎_elim
      (λ (made : Contains b.made n). ⊎_elim
      (λ (here : is_at off n ≡ true). Contains-append_right left (b.dropped ++ gone) n (Contains-append_right b.dropped gone n (contains-filter (is_at off) b.made n made here)))
      (λ (other : is_at off n ≡ false). Contains-append_left left (b.dropped ++ gone) n (contains-filter (λ m. not (is_at off m)) b.made n made (ap not other)))
      (cases_Bool (is_at off n)))
      (λ (dropped : Contains b.dropped n). Contains-append_right left (b.dropped ++ gone) n (Contains-append_left b.dropped gone n dropped))
      (Contains-append_cases b.made b.dropped n there)

  by : (made : Bool) → Contains (news_in (cond made (record b { made = left; dropped = b.dropped ++ gone }) (record b { freed = b.freed ++ off ∷ [] }))) n
  by true = dropped_now
  by false = there

stays_all_freed : (ids : List Oid) (b : CallBlocks) (n : NewObject) → Contains (news_in b) n → Contains (news_in (with_all_freed ids b)) n
stays_all_freed [] b n there = there
stays_all_freed (id ∷ ids) b n there = stays_all_freed ids (with_freed id.off b) n (stays_freed id.off b n there)

stays_made : (new : NewObject) (b : CallBlocks) (n : NewObject) → Contains (news_in b) n → Contains (news_in (with_made new b)) n
stays_made new b n there =
    ⊎_elim
    (λ (made : Contains b.made n). Contains-append_left (b.made ++ new ∷ []) b.dropped n (Contains-append_left b.made (new ∷ []) n made))
    (λ (dropped : Contains b.dropped n). Contains-append_right (b.made ++ new ∷ []) b.dropped n dropped)
    (Contains-append_cases b.made b.dropped n there)

stays_all_made : (rs : List Reservation) (b : CallBlocks) (n : NewObject) → Contains (news_in b) n → Contains (news_in (with_all_made rs b)) n
stays_all_made [] b n there = there
stays_all_made (r ∷ rs) b n there = stays_all_made rs (with_made (reserved_object r) b) n (stays_made (reserved_object r) b n there)

no_more_work : {X : Type 0} → is_working stage.OnAbort ≡ true → X
no_more_work is = absurd cc

-- behind an operation that leaves the transaction in work
pub news_stay : (op : Operation) (reply : Option Value) (p : Pending) (b : CallBlocks) (tx : Transaction) (n : NewObject) → is_working (after_reply op reply tx).stage ≡ true → Contains (news_in b) n → Contains (news_in (blocks_behind op reply p b)) n
news_stay op (Some (Refused r)) p b tx n works there = by (is_action op || changes_nothing r) works where
  by : (stays : Bool) → is_working (cond stays tx (aborted (error.Refused r) tx)).stage ≡ true → Contains (news_in (cond stays b no_blocks)) n
  by true works = there
  by false works = no_more_work works
news_stay (Alloc size kind) (Some (Offset off)) p b tx n works there = stays_made (record { off = off; kind = kind; size = size }) b n there
news_stay (Free id) reply p b tx n works there = stays_freed id.off b n there
news_stay Publish None p b tx n works there = stays_all_made p.reserved (with_all_freed p.frees b) n (stays_all_freed p.frees b n there)
news_stay (Abort errnum) reply p b tx n works there = no_more_work works
news_stay op reply p b tx n works there = there

-- so an action that lies in one does
pub lies_still : (v next : View) (a : Action) → ((n : NewObject) → Contains (news_in (blocks_in v)) n → Contains (news_in (blocks_in next)) n) → LiesInNew v a → LiesInNew next a
lies_still v next a stays lies = record { new = lies.new; is_new = stays lies.new lies.is_new; begins = lies.begins; behind = lies.behind; inside = lies.inside; whole = lies.whole }

pub performable_still : (v next : View) (w : ℕ → ℕ) (actions : List Action) → next.lanes ≡ v.lanes → next.zones ≡ v.zones → ((n : NewObject) → Contains (news_in (blocks_in v)) n → Contains (news_in (blocks_in next)) n)
    → All (IsPerformable v w) actions → All (IsPerformable next w) actions
performable_still v next w actions lanes zones stays = All-weaker (IsPerformable v w) (IsPerformable next w) one actions where
  one : (a : Action) → IsPerformable v w a → IsPerformable next w a
  one a (inl can) = inl (subst (λ (m : ℕ). CanPerform w m next.zones a) (sym lanes) (subst (λ (m : ℕ). CanPerform w v.lanes m a) (sym zones) can))
  one a (inr lies) = inr (lies_still v next a stays lies)

-- ---- they are new, and listed

pub new_there : (v : View) (n : NewObject) → Contains (news_in (blocks_in v)) n → is_new_in v n.off ≡ true
new_there v n there = ⊎_elim
    (λ (made : Contains (blocks_in v).made n). or_left (list_any (is_at n.off) (blocks_in v).made) (list_any (is_at n.off) (blocks_in v).dropped) (list_any-from_Any (is_at n.off) (blocks_in v).made (made.0, n, made.1, made.2, eq-eqb n.off n.off (λ i. n.off))))
    (λ (dropped : Contains (blocks_in v).dropped n). or_right (list_any (is_at n.off) (blocks_in v).made) (list_any (is_at n.off) (blocks_in v).dropped) (list_any-from_Any (is_at n.off) (blocks_in v).dropped (dropped.0, n, dropped.1, dropped.2, eq-eqb n.off n.off (λ i. n.off))))
    (Contains-append_cases (blocks_in v).made (blocks_in v).dropped n there)

pub before_free : (off : ℕ) (b : CallBlocks) (n : NewObject) → Contains (news_in (with_freed off b)) n → Contains (news_in b) n
before_free off b n = by (list_any (is_at off) b.made) where
  by : (made : Bool) → Contains (news_in (cond made (record b { made = filter (λ m. not (is_at off m)) b.made; dropped = b.dropped ++ filter (is_at off) b.made }) (record b { freed = b.freed ++ off ∷ [] }))) n → Contains (news_in b) n
  by true there = ⊎_elim
      (λ (left : Contains (filter (λ m. not (is_at off m)) b.made) n). Contains-append_left b.made b.dropped n (filter-contains (λ m. not (is_at off m)) b.made n left))
      (λ (more : Contains (b.dropped ++ filter (is_at off) b.made) n). ⊎_elim
      (λ (dropped : Contains b.dropped n). Contains-append_right b.made b.dropped n dropped)
      (λ (gone : Contains (filter (is_at off) b.made) n). Contains-append_left b.made b.dropped n (filter-contains (is_at off) b.made n gone))
      (Contains-append_cases b.dropped (filter (is_at off) b.made) n more))
      (Contains-append_cases (filter (λ m. not (is_at off m)) b.made) (b.dropped ++ filter (is_at off) b.made) n there)
  by false there = there

pub before_made : (new : NewObject) (b : CallBlocks) (n : NewObject) → Contains (news_in (with_made new b)) n → Contains (news_in b) n ⊎ Contains (new ∷ []) n
before_made new b n there =
    ⊎_elim
    (λ (now : Contains (b.made ++ new ∷ []) n). ⊎_elim
    (λ (made : Contains b.made n). inl (Contains-append_left b.made b.dropped n made))
    (λ (here : Contains (new ∷ []) n). inr here)
    (Contains-append_cases b.made (new ∷ []) n now))
    (λ (dropped : Contains b.dropped n). inl (Contains-append_right b.made b.dropped n dropped))
    (Contains-append_cases (b.made ++ new ∷ []) b.dropped n there)

pub before_all_freed : (ids : List Oid) (b : CallBlocks) (n : NewObject) → Contains (news_in (with_all_freed ids b)) n → Contains (news_in b) n
before_all_freed [] b n there = there
before_all_freed (id ∷ ids) b n there = before_free id.off b n (before_all_freed ids (with_freed id.off b) n there)

before_all_made : (rs : List Reservation) (b : CallBlocks) (n : NewObject) → Contains (news_in (with_all_made rs b)) n → Contains (news_in b) n ⊎ Contains (map reserved_object rs) n
before_all_made [] b n there = inl there
before_all_made (r ∷ rs) b n there = ⊎_elim
    (λ (behind : Contains (news_in (with_made (reserved_object r) b)) n). ⊎_elim
    (λ (before : Contains (news_in b) n). inl before)
    (λ (here : Contains (reserved_object r ∷ []) n). inr (Contains-append_left (reserved_object r ∷ []) (map reserved_object rs) n here))
    (before_made (reserved_object r) b n behind))
    (λ (later : Contains (map reserved_object rs) n). inr (later_member (reserved_object r) (map reserved_object rs) n later))
    (before_all_made rs (with_made (reserved_object r) b) n there)

-- what the call made behind an operation it made before, or that made it
pub before_one : (op : Operation) (reply : Option Value) (p : Pending) (b : CallBlocks) (n : NewObject) → Contains (news_in (blocks_behind op reply p b)) n → Contains (news_in b) n ⊎ Contains (allocated_by op reply p) n
before_one op (Some (Refused r)) p b n there = inl (by (is_action op || changes_nothing r) there) where
  by : (stays : Bool) → Contains (news_in (cond stays b no_blocks)) n → Contains (news_in b) n
  by true there = there
  by false there = absurd (no_member n there)
before_one (Alloc size kind) (Some (Offset off)) p b n there = before_made (record { off = off; kind = kind; size = size }) b n there
before_one (Free id) reply p b n there = inl (before_free id.off b n there)
before_one Publish None p b n there = ⊎_elim
    (λ (before : Contains (news_in (with_all_freed p.frees b)) n). inl (before_all_freed p.frees b n before))
    (λ (made : Contains (map reserved_object p.reserved) n). inr made)
    (before_all_made p.reserved (with_all_freed p.frees b) n there)
before_one (Abort errnum) reply p b n there = absurd (no_member n there)
before_one op reply p b n there = inl there

listed_told : (told : List Told) (p : Pending) (b : CallBlocks) (n : NewObject) → Contains (news_in (blocks_told p b told)) n → Contains (news_in b) n ⊎ Contains (allocated_told p told) n
unfolding blocks_told allocated_told
listed_told [] p b n there = inl there
listed_told (t ∷ told) p b n there =
    let now : Pending = pending_behind t.operation t.reply p in
    let by_it : List NewObject = allocated_by t.operation t.reply p in
    ⊎_elim
    (λ (behind : Contains (news_in (blocks_behind t.operation t.reply p b)) n). ⊎_elim
    (λ (before : Contains (news_in b) n). inl before)
    (λ (made : Contains by_it n). inr (Contains-append_left by_it (allocated_told now told) n made))
    (before_one t.operation t.reply p b n behind))
    (λ (later : Contains (allocated_told now told) n). inr (Contains-append_right by_it (allocated_told now told) n later))
    (listed_told told now (blocks_behind t.operation t.reply p b) n there)

pub new_is_listed : (v : View) (n : NewObject) → Contains (news_in (blocks_in v)) n → Contains (allocated_in v) n
new_is_listed v n there = ⊎_elim
    (λ (none : Contains (news_in no_blocks) n). absurd (no_member n none))
    (λ (listed : Contains (allocated_in v) n). listed)
    (listed_told v.call (pending_before v) no_blocks n there)
