-- The calls of a lane alone with one more, which turns the pool that they led to into the next.
use Rattle.std.proofs.Common.{◌≡◌, ◌≢◌, ⊎_elim, ℕ, cond, eqb, List, [], ◌∷◌, ◌++◌, refl, sym, ap, ◌∙◌, subst, eq-eqb, ne_eqb}
use Rattle.std.proofs.lemmas.Bool.{cases_eq, cond-false, cond-true}
use Rattle.std.proofs.lemmas.List.{append_assoc, append-nil}
use Rattle.pm_objects.specs.declared.pool.PoolView.{PoolView}
use Rattle.solo_model.specs.Actions.{Pending, none_pending}
use Rattle.solo_model.specs.History.{opened}
use Rattle.solo_model.specs.Names.{Replays}
use Rattle.solo_model.specs.Step.{Act, State, Step, with_pending}
use Rattle.solo_view.specs.View.{Numbered, View}
use Rattle.solo_crash.specs.OpenCall.{Turns}
use Rattle.solo_crash.specs.Pending.{act_alone, act_of, acts_alone, acts_alone_behind, pending_from, pending_in, state_alone, told_in}
use Rattle.solo_crash.proofs.PendingOn.{calls_further}

acts_further : (done entries : List Numbered) (e : Numbered) → acts_alone_behind done (entries ++ e ∷ []) ≡ acts_alone_behind done entries ++ act_alone (done ++ entries) e ∷ []
unfolding acts_alone_behind
acts_further done [] e = ap (λ (d : List Numbered). act_alone d e ∷ []) (sym (append-nil done))
acts_further done (d ∷ entries) e =
    ap (λ (acts : List Act). act_alone done d ∷ acts) (acts_further (done ++ d ∷ []) entries e)
    ∙ ap (λ (behind : List Numbered). act_alone done d ∷ acts_alone_behind (done ++ d ∷ []) entries ++ act_alone behind e ∷ []) (append_assoc done (d ∷ []) entries)

step_more : (calls : List Act) (a : Act) (s t u : State) → Replays s calls t → Step t a u → Replays s (calls ++ a ∷ []) u
step_more [] a s t u replays step = (u, subst (λ (x : State). Step x a u) replays step, refl)
step_more (b ∷ calls) a s t u replays step = (replays.0, replays.1, step_more calls a replays.0 t u replays.2 step)

-- the lane's open call, once it has this number
module _ (v : View) (n : ℕ) (lane : v.lane ≡ 0) where
  abbrev e : Numbered
  e = record { number = n; call = v.call }

  -- what each lane has pending before it
  abbrev pending : ℕ → Pending
  pending k = cond (eqb k 0) (pending_from none_pending v.entries) none_pending

  own : pending v.lane ≡ pending_from none_pending v.entries
  own = cond-true (eqb v.lane 0) (pending_from none_pending v.entries) none_pending (eq-eqb v.lane 0 lane)

  pending_further : (k : ℕ) → cond (eqb k v.lane) (pending_in v) (pending k) ≡ cond (eqb k 0) (pending_from none_pending (v.entries ++ e ∷ [])) none_pending
  pending_further k = ⊎_elim
      (λ (same : k ≡ 0).
      cond-true (eqb k v.lane) (pending_in v) (pending k) (eq-eqb k v.lane (same ∙ sym lane))
      ∙ (sym (calls_further none_pending v.entries e) ∙ sym (cond-true (eqb k 0) (pending_from none_pending (v.entries ++ e ∷ [])) none_pending (eq-eqb k 0 same))))
      (λ (other : k ≢ 0).
      cond-false (eqb k v.lane) (pending_in v) (pending k) (ne_eqb k v.lane (λ same. other (same ∙ lane)))
      ∙ (cond-false (eqb k 0) (pending_from none_pending v.entries) none_pending (ne_eqb k 0 other) ∙ sym (cond-false (eqb k 0) (pending_from none_pending (v.entries ++ e ∷ [])) none_pending (ne_eqb k 0 other))))
      (cases_eq k 0)

  state_further : (last : PoolView) → record { pool = last; actions = with_pending pending v.lane (pending_in v) } ≡ state_alone last (v.entries ++ e ∷ [])
  state_further last = (λ j. let s : State = record { pool = last; actions = λ k. pending_further k j } in s)

  act_drawn : act_of v ≡ act_alone v.entries e
  act_drawn = (λ j. let act : Act = record { lane = lane j; actions = pending_from none_pending v.entries; told = told_in v } in act)

  pub replays_with_call : (pool before last : PoolView) → Replays (opened pool) (acts_alone v.entries) (state_alone before v.entries) → Turns v before last
      → Replays (opened pool) (acts_alone (v.entries ++ e ∷ [])) (state_alone last (v.entries ++ e ∷ []))
  replays_with_call pool before last replays turns =
      subst (λ (calls : List Act). Replays (opened pool) calls (state_alone last (v.entries ++ e ∷ []))) (sym (acts_further [] v.entries e))
      (step_more (acts_alone v.entries) (act_alone v.entries e) (opened pool) (state_alone before v.entries) (state_alone last (v.entries ++ e ∷ [])) replays
      (subst (λ (act : Act). Step (state_alone before v.entries) act (state_alone last (v.entries ++ e ∷ []))) act_drawn
      (subst (Step (state_alone before v.entries) (act_of v)) (state_further last) (turns pending own))))
