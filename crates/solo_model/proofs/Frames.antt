-- A call reads and changes its parts alone, and a state is known name by name.
use Rattle.std.proofs.Common.{◌≡◌, inl, inr, ℕ, List, [], ◌∷◌, ◌++◌, Option, Bool, true, false, cond, eqb, not, ◌&&◌, ◌||◌, refl, sym, ◌∙◌, ap, subst}
use Rattle.std.specs.List.{list_all, list_any}
use Rattle.std.specs.List.Sorted.{IsStrictlyIncreasing}
use Rattle.std.proofs.lemmas.Bool.{and_parts, false≢true, eq-eqb, or_left, or_right}
use Rattle.std.proofs.lemmas.List.Folds.{list_any-append}
use Rattle.pm_objects.specs.Pool.{object_at}
use Rattle.pm_objects.specs.declared.calls.Want.{Want}
use Rattle.pm_objects.specs.declared.pool.Object.{Object}
use Rattle.pm_objects.specs.declared.pool.PoolView.{PoolView}
use Rattle.solo_model.specs.Actions.{Pending, is_plain}
use Rattle.solo_model.specs.Outside.{AnswersOutside, Outside, after_outside, stands_outside, wants_outside}
use Rattle.solo_model.specs.Transaction.{Transaction, resting}
use Rattle.solo_model.specs.Answers.{Told, after, Answers}
use Rattle.solo_model.specs.Step.{State, Act, RunsOn, RunsFrom, Step, TransactionStep, OutsideStep, with_pending}
use Rattle.solo_model.specs.Names.{Name, changes_blocks, content, IsMap, is_missed, is_wanted, keeps_blocks, named_by, wants_taken, locks, writes, touches, IsFramedCall}
use Rattle.solo_model.specs.Names.Name.{Fixed, RootOffset, ObjectAt, ActionsOf}
use Rattle.solo_model.specs.Names.Content.{FixedIs, RootIs, ObjectIs, ActionsAre}
use Rattle.solo_model.proofs.Objects.{same_objects}
use Rattle.solo_model.proofs.Locking.{is_wanted_to_read}
use Rattle.solo_model.proofs.Asked.{IsPlain, plain_from}
use Rattle.solo_model.proofs.Alike.{Alike, KeepBlocks, TakesWithin, keep_first, keep_rest, runs_alike, step_alike, takes_rest}
use Rattle.solo_model.proofs.Kept.{IsChangedIn, run_keeps}
use Rattle.solo_model.proofs.OutsideCalls.{answers_there, left_actions, left_alike, outside_changed}

-- what is written is touched
pub touched : (act : Act) (n : Name) → writes act n ≡ true → touches act n ≡ true
touched act Fixed w = refl
touched act RootOffset w = w
touched act (ObjectAt off) w = is_wanted_to_read (named_by act.actions act.told ++ wants_taken act.told) off true w
touched act (ActionsOf lane) w = w

-- a lock of a transaction's begins is one of the call
taken_locked : (act : Act) (off : ℕ) (write : Bool) → is_wanted (wants_taken act.told) off write ≡ true → locks act off write ≡ true
taken_locked act off write w =
    let asks : Want → Bool = λ want. eqb want.id.off off && (want.write || not write) in
    list_any-append asks (named_by act.actions act.told) (wants_taken act.told) ∙ or_right (list_any asks (named_by act.actions act.told)) (list_any asks (wants_taken act.told)) w

named_locked : (act : Act) (off : ℕ) (write : Bool) → is_wanted (named_by act.actions act.told) off write ≡ true → locks act off write ≡ true
named_locked act off write w =
    let asks : Want → Bool = λ want. eqb want.id.off off && (want.write || not write) in
    list_any-append asks (named_by act.actions act.told) (wants_taken act.told) ∙ or_left (list_any asks (named_by act.actions act.told)) (list_any asks (wants_taken act.told)) w

-- a call that keeps every block found nothing to be freed or reserved, and no operation of it asked for a block
plain_of : (act : Act) → keeps_blocks act ≡ true → IsPlain act.actions
plain_of act keep = plain_from act.actions (and_parts (is_plain act.actions) (list_all (λ (t : Told). not (changes_blocks t.operation t.reply)) act.told) keep).0

told_of : (act : Act) → keeps_blocks act ≡ true → KeepBlocks act.told
told_of act keep = (and_parts (is_plain act.actions) (list_all (λ (t : Told). not (changes_blocks t.operation t.reply)) act.told) keep).1

-- a call changes the objects alone that it locks for writing
pub call_changed : (act : Act) (s t : State) → keeps_blocks act ≡ true → Step s act t → IsChangedIn (λ off. locks act off true) s.pool t.pool
call_changed act s t keep (inl step) =
    subst (IsChangedIn (λ off. locks act off true) s.pool) (sym (ap (λ (v : State). v.pool) step.leaves.leaves))
    (run_keeps (λ off. locks act off true) s.pool act.actions act.told step.last (plain_of act keep) (told_of act keep) (λ off w. taken_locked act off true w) step.runs)
call_changed act s t keep (inr step) = outside_changed act s t (plain_of act keep) step

other_lane : (actions : ℕ → Pending) (lane k : ℕ) (pending : Pending) → eqb k lane ≡ false → with_pending actions lane pending k ≡ actions k
other_lane actions lane k pending other = ap (λ (b : Bool). cond b pending (actions k)) other

own_lane : (actions : ℕ → Pending) (lane k : ℕ) (pending : Pending) → eqb k lane ≡ true → with_pending actions lane pending k ≡ pending
own_lane actions lane k pending same = ap (λ (b : Bool). cond b pending (actions k)) same

-- the pending actions of other lanes stay
kept_actions : (act : Act) (s t : State) → Step s act t → (k : ℕ) → eqb k act.lane ≡ false → t.actions k ≡ s.actions k
kept_actions act s t (inl step) k other = ap (λ (v : State). v.actions k) step.leaves.leaves ∙ other_lane s.actions act.lane k step.last.actions other
kept_actions act s t (inr step) k other =
    ap (λ (v : State). v.actions k) step.leaves.leaves ∙ other_lane s.actions act.lane k (after_outside step.operation step.reply (record { pool = s.pool; actions = act.actions })).actions other

pub keeps : (act : Act) (s t : State) → keeps_blocks act ≡ true → Step s act t → (n : Name) → writes act n ≡ false → content t n ≡ content s n
keeps act s t keep step Fixed none = ap (λ (p : PoolView). FixedIs p.id p.name p.lanes p.zones) (call_changed act s t keep step).else
keeps act s t keep step RootOffset none = ap (λ (p : PoolView). RootIs p.root) (call_changed act s t keep step).else
keeps act s t keep step (ObjectAt off) none = ap ObjectIs ((call_changed act s t keep step).outside off none)
keeps act s t keep step (ActionsOf lane) none = ap ActionsAre (kept_actions act s t step lane none)

-- a pool that is the other but for its objects and its root
same_fixed : (p q : PoolView) → FixedIs q.id q.name q.lanes q.zones ≡ FixedIs p.id p.name p.lanes p.zones → q ≡ record p { objects = q.objects; root = q.root }
same_fixed p q same =
    let ids : q.id ≡ p.id = cc in
    let names : q.name ≡ p.name = cc in
    let lanes : q.lanes ≡ p.lanes = cc in
    let zones : q.zones ≡ p.zones = cc in
    (λ i. record { id = ids i; name = names i; lanes = lanes i; zones = zones i; objects = q.objects; root = q.root })

same_object : (one other : Option Object) → ObjectIs one ≡ ObjectIs other → one ≡ other
same_object one other same = cc

same_actions : (one other : Pending) → ActionsAre one ≡ ActionsAre other → one ≡ other
same_actions one other same = cc

runs_from : (T : ℕ → Bool) (actions : Pending) (told : List Told) (pool other : PoolView) (last : Transaction) → IsPlain actions → KeepBlocks told → TakesWithin T false told → other ≡ record pool { objects = other.objects; root = other.root }
    → ((off : ℕ) → T off ≡ true → object_at other.objects off ≡ object_at pool.objects off) → RunsFrom (resting pool actions) told last
    → (end : Transaction) × RunsFrom (resting other actions) told end × Alike T other.root last end
unfolding RunsFrom
runs_from T actions [] pool other last plain keep within fixed same runs = absurd runs
runs_from T actions (t ∷ told) pool other last plain keep within fixed same runs =
    let start : Alike T other.root (resting pool actions) (resting other actions) = record {
      objects = other.objects;
      before = other.objects;
      is = ap (λ (p : PoolView). resting p actions) fixed;
      now = same;
      at_start = same;
      held = λ off h. absurd (false≢true h);
      plain = plain;
    } in
    let next : Answers (resting other actions) t.operation t.reply × Alike T other.root (after t (resting pool actions)) (after t (resting other actions)) =
    step_alike T other.root t told (resting pool actions) (resting other actions) (keep_first t told keep) within start runs.0 in
    let rest : (end : Transaction) × RunsOn (after t (resting other actions)) told end × Alike T other.root last end =
    runs_alike T other.root told (after t (resting pool actions)) (after t (resting other actions)) last (keep_rest t told keep) (takes_rest T false t told within) next.1 runs.1 in
    (rest.0, (next.0, rest.1), rest.2)

-- what the transaction writes is the same after both runs
same_written : (act : Act) (s t other : State) (step : TransactionStep s act t) (root : Option ℕ) (end : Transaction) → Alike (λ off. locks act off false) root step.last end
    → (n : Name) → writes act n ≡ true → content (record { pool = end.pool; actions = with_pending other.actions act.lane end.actions }) n ≡ content t n
same_written act s t other step root end alike Fixed w = absurd (false≢true w)
same_written act s t other step root end alike RootOffset w = absurd (false≢true w)
same_written act s t other step root end alike (ObjectAt off) w =
    ap (λ (e : Transaction). ObjectIs (object_at e.pool.objects off)) alike.is
    ∙ (ap ObjectIs (alike.now off (touched act (ObjectAt off) w)) ∙ sym (ap (λ (v : State). content v (ObjectAt off)) step.leaves.leaves))
same_written act s t other step root end alike (ActionsOf lane) w =
    ap ActionsAre (own_lane other.actions act.lane lane end.actions w
    ∙ (ap (λ (e : Transaction). e.actions) alike.is ∙ (sym (own_lane s.actions act.lane lane step.last.actions w) ∙ sym (ap (λ (v : State). v.actions lane) step.leaves.leaves))))

-- what one operation outside writes
same_left : (act : Act) (s t other : State) (step : OutsideStep s act t) (left : Outside) → ((off : ℕ) → locks act off false ≡ true
    → object_at left.pool.objects off ≡ object_at (after_outside step.operation step.reply (record { pool = s.pool; actions = act.actions })).pool.objects off)
    → left.actions ≡ (after_outside step.operation step.reply (record { pool = s.pool; actions = act.actions })).actions
    → (n : Name) → writes act n ≡ true → content (record { pool = left.pool; actions = with_pending other.actions act.lane left.actions }) n ≡ content t n
same_left act s t other step left objects actions Fixed w = absurd (false≢true w)
same_left act s t other step left objects actions RootOffset w = absurd (false≢true w)
same_left act s t other step left objects actions (ObjectAt off) w = ap ObjectIs (objects off (touched act (ObjectAt off) w)) ∙ sym (ap (λ (v : State). content v (ObjectAt off)) step.leaves.leaves)
same_left act s t other step left objects actions (ActionsOf lane) w =
    ap ActionsAre (own_lane other.actions act.lane lane left.actions w
    ∙ (actions ∙ (sym (own_lane s.actions act.lane lane (after_outside step.operation step.reply (record { pool = s.pool; actions = act.actions })).actions w)
    ∙ sym (ap (λ (v : State). v.actions lane) step.leaves.leaves))))

-- the lane's pending actions are touched
same_pending : (act : Act) (s other : State) → ((n : Name) → touches act n ≡ true → content other n ≡ content s n) → s.actions act.lane ≡ act.actions → other.actions act.lane ≡ act.actions
same_pending act s other same pending = same_actions (other.actions act.lane) (s.actions act.lane) (same (ActionsOf act.lane) (eq-eqb act.lane act.lane refl)) ∙ pending

pub local : (act : Act) (s t other : State) → keeps_blocks act ≡ true → Step s act t → ((n : Name) → touches act n ≡ true → content other n ≡ content s n)
    → (next : State) × Step other act next × ((n : Name) → writes act n ≡ true → content next n ≡ content t n)
local act s t other keep (inl step) same =
    let T : ℕ → Bool = λ off. locks act off false in
    let run : (end : Transaction) × RunsFrom (resting other.pool act.actions) act.told end × Alike T other.pool.root step.last end =
    runs_from T act.actions act.told s.pool other.pool step.last (plain_of act keep) (told_of act keep) (λ off w. taken_locked act off false w) (same_fixed s.pool other.pool (same Fixed refl))
    (λ off touch. same_object (object_at other.pool.objects off) (object_at s.pool.objects off) (same (ObjectAt off) touch)) step.runs in
    let next : State = record { pool = run.0.pool; actions = with_pending other.actions act.lane run.0.actions } in
    (next, inl (record { last = run.0; runs = run.1; leaves = record { pending = same_pending act s other same step.leaves.pending; leaves = refl } }), same_written act s t other step other.pool.root run.0 run.2)
local act s t other keep (inr step) same =
    let fixed : other.pool ≡ record s.pool { objects = other.pool.objects; root = other.pool.root } = same_fixed s.pool other.pool (same Fixed refl) in
    let there : Outside = record { pool = record s.pool { objects = other.pool.objects; root = other.pool.root }; actions = act.actions } in
    let named : is_missed step.reply ≡ false → (off : ℕ) → is_wanted (wants_outside step.operation act.actions) off false ≡ true → object_at other.pool.objects off ≡ object_at s.pool.objects off = λ found off w.
    same_object (object_at other.pool.objects off) (object_at s.pool.objects off) (same (ObjectAt off) (named_locked act off false
    (ap (λ told. is_wanted (named_by act.actions told) off false) step.alone ∙ (ap (λ (b : Bool). is_wanted (cond b [] (wants_outside step.operation act.actions)) off false) found ∙ w)))) in
    let plain : IsPlain act.actions = plain_of act keep in
    let stands : stands_outside step.operation ≡ true = step.answers.known in
    let keeps : changes_blocks step.operation step.reply ≡ false = keep_first (record { operation = step.operation; reply = step.reply }) [] (subst KeepBlocks step.alone (told_of act keep)) in
    let answers = answers_there step.operation step.reply s.pool other.pool.objects other.pool.root act.actions plain stands keeps named step.answers in
    let left : Outside = after_outside step.operation step.reply (record { pool = other.pool; actions = act.actions }) in
    let left_there : left ≡ after_outside step.operation step.reply there = ap (λ (p : PoolView). after_outside step.operation step.reply (record { pool = p; actions = act.actions })) fixed in
    let next : State = record { pool = left.pool; actions = with_pending other.actions act.lane left.actions } in (
      next,
      inr (record {
        operation = step.operation;
        reply = step.reply;
        alone = step.alone;
        answers = subst (λ (p : PoolView). AnswersOutside (record { pool = p; actions = act.actions }) step.operation step.reply) (sym fixed) answers;
        leaves = record { pending = same_pending act s other same step.leaves.pending; leaves = refl };
      }),
      same_left act s t other step left
          (λ off touch. ap (λ (o : Outside). object_at o.pool.objects off) left_there
          ∙ left_alike step.operation step.reply s.pool other.pool.objects other.pool.root act.actions plain stands keeps named step.reply off
          (same_object (object_at other.pool.objects off) (object_at s.pool.objects off) (same (ObjectAt off) touch)))
          (ap (λ (o : Outside). o.actions) left_there ∙ left_actions step.operation step.reply s.pool other.pool.objects other.pool.root act.actions plain stands keeps named step.reply),
    )

pub framed : (act : Act) → keeps_blocks act ≡ true → IsFramedCall act
framed act keep = record { keeps = λ s t. keeps act s t keep; local = λ s t other. local act s t other keep }

-- a call leaves a map a map
pub keeps_map : (s t : State) (act : Act) → keeps_blocks act ≡ true → Step s act t → IsMap s → IsMap t
keeps_map s t act keep step is = subst (λ (keys : List ℕ). IsStrictlyIncreasing keys) (sym (call_changed act s t keep step).places) is

same_root : (one other : Option ℕ) → RootIs one ≡ RootIs other → one ≡ other
same_root one other same = cc

-- states whose objects are maps are the same where they have the same under each name
pub same_state : (s t : State) → IsMap s → IsMap t → ((n : Name) → content s n ≡ content t n) → s ≡ t
same_state s t map_s map_t same =
    let objects : s.pool.objects ≡ t.pool.objects =
    same_objects s.pool.objects t.pool.objects map_s map_t (λ off. same_object (object_at s.pool.objects off) (object_at t.pool.objects off) (same (ObjectAt off))) in
    let root : s.pool.root ≡ t.pool.root = same_root s.pool.root t.pool.root (same RootOffset) in
    let fixed : s.pool ≡ record t.pool { objects = s.pool.objects; root = s.pool.root } = same_fixed t.pool s.pool (same Fixed) in
    let pool : s.pool ≡ t.pool = fixed ∙ (λ i. record t.pool { objects = objects i; root = root i }) in
    (λ i. record { pool = pool i; actions = λ lane. same_actions (s.actions lane) (t.actions lane) (same (ActionsOf lane)) i })
