-- WHAT THE PLANS OF OPERATIONS TELL: each is of silent steps, and of the one that tells it; and
-- where
-- it ends its call the number is taken at once then.
use Rattle.std.proofs.Common.{◌≡◌, ◌⊎◌, ℕ, zero, suc, ◌+◌, inl, inr, ⊎_elim, List, [], ◌∷◌, ◌++◌, map, take, refl, sym, ap, ◌∙◌, subst, Option, None, Some}
use Rattle.pm_model.specs.Items.{number_bytes}
use Rattle.pm_objects.specs.declared.calls.Operation.{Operation}
use Rattle.pm_objects.specs.declared.calls.Operation.TheVariants.{AddRange, Cancel, Commit, Increment, Publish, Read, Write}
use Rattle.pm_objects.specs.declared.history.Value.{Value}
use Rattle.pm_objects.specs.declared.history.Value.TheVariants.{Bytes, Number}
use Rattle.pm_record.specs.declared.redo.Redo.{Redo}
use Rattle.pm_view.specs.Steps.{Step}
use Rattle.pm_view.specs.Steps.Step.{Draw, Tell}
use Rattle.pm_view.specs.View.{Told, View}
use Rattle.pm_view.specs.Views.{after, after_all}
use Rattle.pm_crash.specs.Looked.{bytes_seen}
use Rattle.pm_plan.specs.Plans.{Plan, in_turn, known_word, one, persists_all}
use Rattle.pm_undo.specs.Plans.{snapshots}
use Rattle.pm_redo.specs.Plans.{performs, writes_log}
use Rattle.pm_call.specs.At.{set_entry}
use Rattle.pm_call.specs.Histories.{AddsTell, CancelsTell, CommitsTell, IncrementsTell, InnerCommitsTell, IsPlanOf, LaneHistory, LogsTell, LoneCallsTell, PlanTellsLast, PlanTellsMore, PublishesTell, ReadsTell, RollbacksTell, WritesTell, calls_ended, ended_of, history_of, open_call, told, told_by, told_last, told_more}
use Rattle.pm_call.specs.Planned.Planned.{Adds, Cancels, Increments, Reads, Records, Writes}
use Rattle.pm_call.specs.Plans.{commits, ends_call, ends_records, finishes, gives_up, known_sum, logs_entries, performs_call, puts_sum, takes_back, tells, writes_words}
use Rattle.pm_call.proofs.SilentPlans.{AreSilent, IsAsTold, IsSilentPlan, silent_back, silent_both, silent_ends_records, silent_log, silent_performs, silent_persists, silent_snapshots, silent_step, silent_steps, silent_writes}

calls_same : (v w : View) → IsAsTold v w → calls_ended w ≡ calls_ended v
calls_same v w s = ap (map ended_of) s.entries

-- SILENT STEPS leave the history as it is
pub silent_history : (v w : View) → IsAsTold v w → history_of w ≡ history_of v
silent_history v w s = λ i. record {
  lane = (s.fixed i).lane;
  done = calls_same v w s i;
  call = open_call (s.number i) (s.call i);
  within = None;
}

pub after_append : (v : View) (first last : List Step)
    → after_all v (first ++ last) ≡ after_all (after_all v first) last
unfolding after_all
after_append v [] last = refl
after_append v (s ∷ first) last = after_append (after v s) first last

pub silent_take : (k : ℕ) (steps : List Step) → AreSilent steps → AreSilent (take k steps)
silent_take zero steps are = tt
silent_take (suc k) [] are = tt
silent_take (suc k) (s ∷ steps) are = (are.0, silent_take k steps are.1)

-- what a plan tells, whatever operation it is the plan of
record TellsMoreOf (plan : Plan) (op : Operation) (reply : View → Option Value) : Type 0 where
  whole : (v : View) → v.number ≡ None
      → history_of (after_all v (plan v)) ≡ told_more op (reply v) (history_of v)
  on_the_way : (v : View) (k : ℕ) → v.number ≡ None
      → calls_ended (after_all v (take k (plan v))) ≡ calls_ended v
  unnumbered : (v : View) (k : ℕ) → v.number ≡ None
      → (after_all v (take k (plan v))).number ≡ None

-- ---- AN OPERATION IS TOLD after silent steps

module _ (op : Operation) (reply : Option Value) where
  -- the open call told one more operation
  record TellsMore (v w : View) : Type 0 where
    call : w.call ≡ v.call ++ told op reply ∷ []
    calls : calls_ended w ≡ calls_ended v
    number : w.number ≡ v.number
    fixed : w.fixed ≡ v.fixed

  pub tells_history : (v : View) → v.number ≡ None
      → history_of (after v (Tell op reply)) ≡ told_more op reply (history_of v)
  tells_history v none = more_history v (after v (Tell op reply)) none
      (record { call = refl; calls = refl; number = refl; fixed = refl })
    where
      more_history : (v w : View) → v.number ≡ None → TellsMore v w
          → history_of w ≡ told_more op reply (history_of v)
      more_history v w none m =
          let opens : open_call w.number w.call ≡ v.call ++ told op reply ∷ [] =
          ap (λ n. open_call n w.call) (m.number ∙ none) ∙ m.call in
          let before : open_call v.number v.call ≡ v.call = ap (λ n. open_call n v.call) none in
          λ i. record {
            lane = (m.fixed i).lane;
            done = m.calls i;
            call = (opens ∙ ap (λ (call : List Told). call ++ told op reply ∷ []) (sym before)) i;
            within = None;
          }

  after_one : (v : View) (steps : List Step)
      → after_all v (steps ++ Tell op reply ∷ []) ≡ after (after_all v steps) (Tell op reply)
  unfolding after_all
  after_one v [] = refl
  after_one v (s ∷ steps) = after_one (after v s) steps

  more_way : (v : View) (a : List Step) (k : ℕ) → AreSilent a
      → calls_ended (after_all v (take k (a ++ Tell op reply ∷ []))) ≡ calls_ended v
  unfolding after_all
  more_way v [] zero are = refl
  more_way v [] (suc zero) are = refl
  more_way v [] (suc (suc k)) are = refl
  more_way v (s ∷ a) zero are = refl
  more_way v (s ∷ a) (suc k) are = more_way (after v s) a k are.1
      ∙ calls_same v (after v s) (silent_step v s are.0)

  number_way : (v : View) (a : List Step) (k : ℕ) → AreSilent a
      → (after_all v (take k (a ++ Tell op reply ∷ []))).number ≡ v.number
  unfolding after_all
  number_way v [] zero are = refl
  number_way v [] (suc zero) are = refl
  number_way v [] (suc (suc k)) are = refl
  number_way v (s ∷ a) zero are = refl
  number_way v (s ∷ a) (suc k) are =
      number_way (after v s) a k are.1 ∙ (silent_step v s are.0).number

  silent_more : (a : Plan) → IsSilentPlan a → TellsMoreOf (in_turn a (tells op reply)) op (λ v. reply)
  unfolding in_turn one
  silent_more a silent = record {
    whole = λ v none.
        let u : View = after_all v (a v) in
        let s = silent_steps v (a v) (silent v) in
        ap history_of (after_one v (a v)) ∙ tells_history u (s.number ∙ none)
        ∙ ap (told_more op reply) (silent_history v u s);
    on_the_way = λ v k none. more_way v (a v) k (silent v);
    unnumbered = λ v k none. number_way v (a v) k (silent v) ∙ none;
  }

  pub plan_more : (a : Plan) → IsSilentPlan a
      → ((v : View) → IsPlanOf (in_turn a (tells op reply)) op v)
      → PlanTellsMore (in_turn a (tells op reply)) op (λ v. reply)
  plan_more a silent planned = let more = silent_more a silent in record {
    planned = planned;
    whole = more.whole;
    on_the_way = more.on_the_way;
    unnumbered = more.unnumbered;
  }

-- ---- AND THE NUMBER IS TAKEN at once

module _ (op : Operation) (reply : Option Value) (n : ℕ) where
  abbrev last_of : List Step → List Step
  last_of b = Tell op reply ∷ Draw n ∷ b

  -- the call told its last operation, and has its number
  record TellsLast (v w : View) : Type 0 where
    calls : calls_ended w
        ≡ record { number = suc n; call = v.call ++ told op reply ∷ [] } ∷ calls_ended v
    number : w.number ≡ Some (suc n)
    fixed : w.fixed ≡ v.fixed

  -- or not yet
  abbrev ToldOnTheWay : View → View → Type 0
  ToldOnTheWay v w = ((calls_ended w ≡ calls_ended v) × (w.number ≡ v.number)) ⊎ TellsLast v w

  last_history : (v w : View) → v.number ≡ None → TellsLast v w
      → history_of w ≡ told_last (suc n) op reply (history_of v)
  last_history v w none l =
      let before : open_call v.number v.call ≡ v.call = ap (λ m. open_call m v.call) none in
      λ i. record {
        lane = (l.fixed i).lane;
        done = (l.calls ∙ ap (λ (call : List Told).
            record { number = suc n; call = call ++ told op reply ∷ [] } ∷ calls_ended v)
            (sym before)) i;
        call = open_call (l.number i) w.call;
        within = None;
      }

  way_history : (v w : View) → v.number ≡ None → ToldOnTheWay v w
      → calls_ended w ≡ (told_by w.number op reply (history_of v)).done
  way_history v w none on = ⊎_elim
      (λ e. e.0 ∙ sym (ap (λ m. (told_by m op reply (history_of v)).done) (e.1 ∙ none)))
      (λ (l : TellsLast v w). ap (λ (h : LaneHistory). h.done) (last_history v w none l)
      ∙ sym (ap (λ m. (told_by m op reply (history_of v)).done) l.number)) on

  last_from : (v w : View) → IsAsTold v w → (z : View) → TellsLast w z → TellsLast v z
  last_from v w s z l = record {
    calls = l.calls ∙ (λ i. record { number = suc n; call = s.call i ++ told op reply ∷ [] }
        ∷ calls_same v w s i);
    number = l.number;
    fixed = l.fixed ∙ s.fixed;
  }

  told_numbered : (v : View) (b : List Step) → AreSilent b → TellsLast v (after_all v (last_of b))
  unfolding after_all
  told_numbered v b are =
      let u : View = after (after v (Tell op reply)) (Draw n) in
      let s = silent_steps u b are in
      record { calls = calls_same u (after_all u b) s; number = s.number; fixed = s.fixed }

  whole_so : (v : View) (a b : List Step) → AreSilent a → AreSilent b
      → TellsLast v (after_all v (a ++ last_of b))
  unfolding after_all
  whole_so v [] b one two = told_numbered v b two
  whole_so v (s ∷ a) b one two = last_from v (after v s) (silent_step v s one.0) _
      (whole_so (after v s) a b one.1 two)

  way_from : (v w z : View) → IsAsTold v w → ToldOnTheWay w z → ToldOnTheWay v z
  way_from v w z s on = ⊎_elim
      (λ e. inl (e.0 ∙ calls_same v w s, e.1 ∙ s.number))
      (λ (l : TellsLast w z). inr (last_from v w s z l)) on

  way_so : (v : View) (a b : List Step) (k : ℕ) → AreSilent a → AreSilent b
      → ToldOnTheWay v (after_all v (take k (a ++ last_of b)))
  unfolding after_all
  way_so v [] b zero one two = inl (refl, refl)
  way_so v [] b (suc zero) one two = inl (refl, refl)
  way_so v [] b (suc (suc k)) one two = inr (told_numbered v (take k b) (silent_take k b two))
  way_so v (s ∷ a) b zero one two = inl (refl, refl)
  way_so v (s ∷ a) b (suc k) one two = way_from v (after v s) _ (silent_step v s one.0)
      (way_so (after v s) a b k one.1 two)

  -- a plan of such steps
  pub record Ends (plan : Plan) : Type 0 where
    pub front : View → List Step
    pub back : View → List Step
    pub are : (v : View) → plan v ≡ front v ++ last_of (back v)
    pub silent_front : (v : View) → AreSilent (front v)
    pub silent_back : (v : View) → AreSilent (back v)

  pub plan_last : (plan : Plan) → Ends plan → PlanTellsLast plan op reply n
  plan_last plan e = record {
    whole = λ v none. last_history v (after_all v (plan v)) none
        (subst (λ (steps : List Step). TellsLast v (after_all v steps)) (sym (e.are v))
        (whole_so v (e.front v) (e.back v) (e.silent_front v) (e.silent_back v)));
    on_the_way = λ v k none. way_history v (after_all v (take k (plan v))) none
        (subst (λ (steps : List Step). ToldOnTheWay v (after_all v (take k steps)))
        (sym (e.are v)) (way_so v (e.front v) (e.back v) k (e.silent_front v) (e.silent_back v)));
  }

  -- the call ends
  pub lone_ends : Ends (ends_call op reply n)
  unfolding in_turn one
  lone_ends = record {
    front = λ v. [];
    back = λ v. [];
    are = λ v. refl;
    silent_front = λ v. tt;
    silent_back = λ v. tt;
  }

  -- after silent steps; and before silent ones
  pub ends_after : (a plan : Plan) → IsSilentPlan a → Ends plan → Ends (in_turn a plan)
  unfolding in_turn
  ends_after a plan silent e = record {
    front = λ v. a v ++ e.front (after_all v (a v));
    back = λ v. e.back (after_all v (a v));
    are = λ v. ap (λ (steps : List Step). a v ++ steps) (e.are (after_all v (a v)))
        ∙ sym (append_in (a v) (e.front (after_all v (a v)))
        (last_of (e.back (after_all v (a v)))));
    silent_front = λ v. silent_both (a v) (e.front (after_all v (a v))) (silent v)
        (e.silent_front (after_all v (a v)));
    silent_back = λ v. e.silent_back (after_all v (a v));
  }
    where
      append_in : (xs ys zs : List Step) → (xs ++ ys) ++ zs ≡ xs ++ (ys ++ zs)
      append_in [] ys zs = refl
      append_in (x ∷ xs) ys zs = ap (λ (steps : List Step). x ∷ steps) (append_in xs ys zs)

  pub ends_before : (plan b : Plan) → IsSilentPlan b → Ends plan → Ends (in_turn plan b)
  unfolding in_turn
  ends_before plan b silent e = record {
    front = e.front;
    back = λ v. e.back v ++ b (after_all v (plan v));
    are = λ v. ap (λ (steps : List Step). steps ++ b (after_all v (plan v))) (e.are v)
        ∙ append_in (e.front v) (last_of (e.back v)) (b (after_all v (plan v)));
    silent_front = e.silent_front;
    silent_back = λ v. silent_both (e.back v) (b (after_all v (plan v))) (e.silent_back v)
        (silent (after_all v (plan v)));
  }
    where
      append_in : (xs ys zs : List Step) → (xs ++ ys) ++ zs ≡ xs ++ (ys ++ zs)
      append_in [] ys zs = refl
      append_in (x ∷ xs) ys zs = ap (λ (steps : List Step). x ∷ steps) (append_in xs ys zs)

-- THE LAWS
pub adds_tell : AddsTell
adds_tell id off len = plan_more (AddRange id off len) None (snapshots (id.off + off) len)
    (silent_snapshots (id.off + off) len)
    (λ v. record { by = Adds id off len; operation = refl; same = refl })

pub writes_tell : WritesTell
writes_tell id off bytes = plan_more (Write id off bytes) None (writes_words (id.off + off) bytes)
    (silent_writes (id.off + off) bytes)
    (λ v. record { by = Writes id off bytes; operation = refl; same = refl })

pub reads_tell : ReadsTell
unfolding one after_all
reads_tell id off len = record {
  planned = λ v. record { by = Reads id off len; operation = refl; same = refl };
  whole = λ v none. tells_history (Read id off len)
      (Some (Bytes (bytes_seen (known_word v) id.off off len))) v none;
  on_the_way = λ v k none. more_way (Read id off len)
      (Some (Bytes (bytes_seen (known_word v) id.off off len))) v [] k tt;
  unnumbered = λ v k none. number_way (Read id off len)
      (Some (Bytes (bytes_seen (known_word v) id.off off len))) v [] k tt ∙ none;
}

pub increments_tell : IncrementsTell
increments_tell id off by = record {
  planned = λ v. record { by = Increments id off by; operation = refl; same = refl };
  whole = λ v none. (puts_sum_tells (known_sum v id off by)).whole v none;
  on_the_way = λ v k none. (puts_sum_tells (known_sum v id off by)).on_the_way v k none;
  unnumbered = λ v k none. (puts_sum_tells (known_sum v id off by)).unnumbered v k none;
}
  where
    puts_sum_tells : (sum : ℕ) → TellsMoreOf (puts_sum id off by sum) (Increment id off by)
        (λ v. Some (Number sum))
    puts_sum_tells sum = silent_more (Increment id off by) (Some (Number sum))
        (writes_words (id.off + off) (number_bytes sum))
        (silent_writes (id.off + off) (number_bytes sum))

pub cancels_tell : CancelsTell
cancels_tell = plan_more Cancel None persists_all silent_persists
    (λ v. record { by = Cancels; operation = refl; same = refl })

pub inner_commits_tell : InnerCommitsTell
unfolding one after_all
inner_commits_tell = record {
  planned = λ v. record { by = Records Commit None refl; operation = refl; same = refl };
  whole = λ v none. tells_history Commit None v none;
  on_the_way = λ v k none. more_way Commit None v [] k tt;
  unnumbered = λ v k none. number_way Commit None v [] k tt ∙ none;
}

pub rollbacks_tell : RollbacksTell
rollbacks_tell op reply n = plan_last op reply n (gives_up op reply n)
    (ends_after op reply n takes_back (ends_call op reply n) silent_back (lone_ends op reply n))

pub logs_tell : LogsTell
logs_tell op entries found n = plan_last op None n (logs_entries op entries found n)
    (log_ends op entries found n)
  where
    log_ends : (op : Operation) (entries : List Redo) (found : ℕ → ℕ) (n : ℕ)
        → Ends op None n (logs_entries op entries found n)
    log_ends op entries found n = ends_after op None n (writes_log entries)
        (performs_call op found n) (silent_log entries)
        (ends_before op None n (ends_call op None n) (performs found) (silent_performs found)
        (lone_ends op None n))

pub lone_calls_tell : LoneCallsTell
lone_calls_tell op reply n = plan_last op reply n (ends_call op reply n) (lone_ends op reply n)

pub commits_tell : CommitsTell
commits_tell entries found n = plan_last Commit None n (commits entries found n)
    (ends_after Commit None n persists_all (finishes entries found n) silent_persists
    (finish_ends entries))
  where
    finish_ends : (entries : List Redo) → Ends Commit None n (finishes entries found n)
    finish_ends [] = ends_before Commit None n (ends_call Commit None n) ends_records
        silent_ends_records (lone_ends Commit None n)
    finish_ends (e ∷ es) = ends_after Commit None n (writes_log (e ∷ es))
        (performs_call Commit found n) (silent_log (e ∷ es))
        (ends_before Commit None n (ends_call Commit None n) (performs found)
        (silent_performs found) (lone_ends Commit None n))

pub publishes_tell : PublishesTell
publishes_tell [] found n = lone_calls_tell Publish None n
publishes_tell (a ∷ words) found n = logs_tell Publish (map set_entry (a ∷ words)) found n
