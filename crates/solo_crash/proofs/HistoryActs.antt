-- The calls of a history with one entry more: its lane has what its earlier calls left pending.
use Rattle.std.proofs.Common.{◌≡◌, ◌≢◌, ⊎_elim, ℕ, eqb, cond, Bool, true, false, List, [], ◌∷◌, ◌++◌, map, refl, sym, ◌∙◌, ap, subst, eq-eqb, ne_eqb}
use Rattle.std.specs.List.{Contains, filter}
use Rattle.std.proofs.lemmas.Bool.{cases_Bool, cases_eq, cond-false, cond-true}
use Rattle.std.proofs.lemmas.List.{append_assoc, append-nil}
use Rattle.pm_objects.specs.declared.pool.PoolView.{PoolView}
use Rattle.pm_image.proofs.Members.{first_member, later_member}
use Rattle.solo_model.specs.Actions.{none_pending}
use Rattle.solo_model.specs.History.{opened}
use Rattle.solo_model.specs.Names.{Replays}
use Rattle.solo_model.specs.Step.{Act, State, Step, with_pending}
use Rattle.solo_view.specs.View.{Numbered, View}
use Rattle.solo_world.specs.Course.{entry_of}
use Rattle.solo_world.specs.History.{Entry, entries_by}
use Rattle.solo_world.proofs.Longer.{entries_by-more}
use Rattle.solo_crash.specs.OpenCall.{Turns}
use Rattle.solo_crash.specs.Pending.{act_alone, act_behind, act_of, acts_alone, acts_alone_behind, acts_behind, acts_of, pending_after, pending_before, pending_from, pending_told, state_after, state_alone, told_in, told_of}
use Rattle.solo_crash.proofs.PendingOn.{calls_further}

pub acts_further : (done entries : List Entry) (e : Entry) → acts_behind done (entries ++ e ∷ []) ≡ acts_behind done entries ++ act_behind (done ++ entries) e ∷ []
unfolding acts_behind
acts_further done [] e = ap (λ (d : List Entry). act_behind d e ∷ []) (sym (append-nil done))
acts_further done (d ∷ entries) e =
    ap (λ (acts : List Act). act_behind done d ∷ acts) (acts_further (done ++ d ∷ []) entries e)
    ∙ ap (λ (behind : List Entry). act_behind done d ∷ acts_behind (done ++ d ∷ []) entries ++ act_behind behind e ∷ []) (append_assoc done (d ∷ []) entries)

-- what is pending for each lane behind one entry more
pending_further : (log : List Entry) (e : Entry) (k : ℕ) → pending_after (log ++ e ∷ []) k ≡ cond (eqb k e.lane) (pending_told (pending_after log e.lane) e.call) (pending_after log k)
pending_further log e k =
    let d : Numbered = record { number = e.number; call = e.call } in
    let more = entries_by-more k log e in
    ⊎_elim
    (λ (own : k ≡ e.lane).
    ap (pending_from none_pending) (more ∙ ap (λ (b : Bool). entries_by k log ++ cond b (d ∷ []) []) (eq-eqb e.lane k (sym own)))
    ∙ calls_further none_pending (entries_by k log) d
    ∙ ap (λ (lane : ℕ). pending_told (pending_after log lane) e.call) own
    ∙ sym (cond-true (eqb k e.lane) (pending_told (pending_after log e.lane) e.call) (pending_after log k) (eq-eqb k e.lane own)))
    (λ (other : k ≢ e.lane).
    ap (pending_from none_pending) (more ∙ ap (λ (b : Bool). entries_by k log ++ cond b (d ∷ []) []) (ne_eqb e.lane k (λ same. other (sym same))) ∙ append-nil (entries_by k log))
    ∙ sym (cond-false (eqb k e.lane) (pending_told (pending_after log e.lane) e.call) (pending_after log k) (ne_eqb k e.lane other)))
    (cases_eq k e.lane)

pub state_further : (pool : PoolView) (log : List Entry) (e : Entry)
    → state_after pool (log ++ e ∷ []) ≡ record { pool = pool; actions = with_pending (pending_after log) e.lane (pending_told (pending_after log e.lane) e.call) }
state_further pool log e = (λ j. let s : State = record { pool = pool; actions = λ k. pending_further log e k j } in s)

-- before the first call nothing is pending
pub state_first : (pool : PoolView) → opened pool ≡ state_after pool []
unfolding entries_by pending_from
state_first pool = refl

-- and no call leads to itself
pub replays_none : (pool : PoolView) → Replays (opened pool) (acts_of []) (state_after pool [])
unfolding acts_behind
replays_none pool = sym (state_first pool)

-- the step of a lane's open call, behind entries of which its own are those that it drew
pub turns_history : (v : View) (n : ℕ) (pool next : PoolView) (log : List Entry) → pending_after log v.lane ≡ pending_before v → Turns v pool next
    → Step (state_after pool log) (act_of v) (state_after next (log ++ entry_of v n ∷ []))
turns_history v n pool next log own turns =
    subst (λ (s : State). Step (state_after pool log) (act_of v) s)
    ((λ j. let s : State = record { pool = next; actions = with_pending (pending_after log) v.lane (pending_told (sym own j) v.call) } in s) ∙ sym (state_further next log (entry_of v n)))
    (turns (pending_after log) own)

-- the entry's call is the open one
pub act_drawn : (v : View) (n : ℕ) (log : List Entry) → pending_after log v.lane ≡ pending_before v → act_behind log (entry_of v n) ≡ act_of v
act_drawn v n log own = (λ j. let act : Act = record { lane = v.lane; actions = own j; told = told_in v } in act)

-- a lane's entries are all there where each of them passes the test
pub own_entries_pass : (k : ℕ) (keep : ℕ → Bool) (log : List Entry) → ((e : Entry) → Contains log e → e.lane ≡ k → keep e.number ≡ true)
    → entries_by k (filter (λ (e : Entry). keep e.number) log) ≡ entries_by k log
unfolding entries_by
own_entries_pass k keep [] passes = refl
own_entries_pass k keep (e ∷ log) passes =
    let d : Numbered = record { number = e.number; call = e.call } in
    let kept : List Entry = filter (λ (x : Entry). keep x.number) log in
    let rest : entries_by k kept ≡ entries_by k log = own_entries_pass k keep log (λ x there. passes x (later_member e log x there)) in
    ⊎_elim
    (λ (yes_ : keep e.number ≡ true).
    ap (entries_by k) (cond-true (keep e.number) (e ∷ kept) kept yes_) ∙ ap (λ (es : List Numbered). cond (eqb e.lane k) (d ∷ es) es) rest)
    (λ (no_ : keep e.number ≡ false).
    ap (entries_by k) (cond-false (keep e.number) (e ∷ kept) kept no_)
    ∙ rest
    ∙ sym (cond-false (eqb e.lane k) (d ∷ entries_by k log) (entries_by k log) (ne_eqb e.lane k (λ own. absurd (let clash : true ≡ false = sym (passes e (first_member e log) own) ∙ no_ in cc)))))
    (cases_Bool (keep e.number))

-- ---- a lane that is alone

none_elsewhere : (log : List Entry) (k : ℕ) → ((e : Entry) → Contains log e → e.lane ≡ 0) → k ≢ 0 → pending_after log k ≡ none_pending
unfolding entries_by pending_from
none_elsewhere [] k of other = refl
none_elsewhere (e ∷ log) k of other =
    let d : Numbered = record { number = e.number; call = e.call } in
    ap (pending_from none_pending) (cond-false (eqb e.lane k) (d ∷ entries_by k log) (entries_by k log) (ne_eqb e.lane k (λ same. other (sym same ∙ of e (first_member e log)))))
    ∙ none_elsewhere log k (λ x there. of x (later_member e log x there)) other

alone_by : (log : List Entry) → ((e : Entry) → Contains log e → e.lane ≡ 0) → (k : ℕ) → pending_after log k ≡ cond (eqb k 0) (pending_from none_pending (entries_by 0 log)) none_pending
alone_by log alone k = ⊎_elim
    (λ (own : k ≡ 0). ap (pending_after log) own ∙ sym (cond-true (eqb k 0) (pending_from none_pending (entries_by 0 log)) none_pending (eq-eqb k 0 own)))
    (λ (other : k ≢ 0). none_elsewhere log k alone other ∙ sym (cond-false (eqb k 0) (pending_from none_pending (entries_by 0 log)) none_pending (ne_eqb k 0 other)))
    (cases_eq k 0)

pub state_of_one : (pool : PoolView) (log : List Entry) → ((e : Entry) → Contains log e → e.lane ≡ 0) → state_after pool log ≡ state_alone pool (entries_by 0 log)
state_of_one pool log alone = (λ j. let s : State = record { pool = pool; actions = λ k. alone_by log alone k j } in s)

acts_of_one : (done entries : List Entry) → ((e : Entry) → Contains entries e → e.lane ≡ 0)
    → acts_behind done entries ≡ acts_alone_behind (entries_by 0 done) (entries_by 0 entries)
unfolding acts_behind acts_alone_behind entries_by
acts_of_one done [] alone = refl
acts_of_one done (e ∷ entries) alone =
    let d : Numbered = record { number = e.number; call = e.call } in
    let is : e.lane ≡ 0 = alone e (first_member e entries) in
    let here : act_behind done e ≡ act_alone (entries_by 0 done) d = (λ j. let act : Act = record { lane = is j; actions = pending_after done (is j); told = map told_of e.call } in act) in
    let longer : entries_by 0 (done ++ e ∷ []) ≡ entries_by 0 done ++ d ∷ [] =
    entries_by-more 0 done e ∙ ap (λ (b : Bool). entries_by 0 done ++ cond b (d ∷ []) []) (eq-eqb e.lane 0 is) in
    let rest = acts_of_one (done ++ e ∷ []) entries (λ x there. alone x (later_member e entries x there)) in
    (λ j. here j ∷ (rest ∙ ap (λ (behind : List Numbered). acts_alone_behind behind (entries_by 0 entries)) longer) j)
    ∙ sym (ap (acts_alone_behind (entries_by 0 done)) (cond-true (eqb e.lane 0) (d ∷ entries_by 0 entries) (entries_by 0 entries) (eq-eqb e.lane 0 is)))

pub acts_of_all : (entries : List Entry) → ((e : Entry) → Contains entries e → e.lane ≡ 0) → acts_of entries ≡ acts_alone (entries_by 0 entries)
unfolding entries_by
acts_of_all entries alone = acts_of_one [] entries alone
