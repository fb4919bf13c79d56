-- A lane whose call is over may give its locks back, where nothing undrained lies under them.
use Rattle.std.proofs.Common.{◌≡◌, inl, All, Contains, None, false, List, [], map, Ok, refl, sym, ap, ◌∙◌, subst}
use Rattle.std.proofs.lemmas.List.Elements.{All-contains, All-contains_itself, All-nil, All-weaker}
use Rattle.std.proofs.lemmas.Option.{none-some}
use Rattle.pm_objects.specs.declared.history.TxErr.TheVariants as error
use Rattle.solo_lock.proofs.GivenBack.{MayGiveAny, lawful_gives}
use Rattle.solo_lock.specs.Locking.{gives}
use Rattle.solo_lock.proofs.Undrained.{rest_kept}
use Rattle.solo_lock.specs.Resting.{HasPlace, MayRest}
use Rattle.solo_tx.specs.Ending.{IsAfterCall, IsAfterTold, IsClosedBy, LiesUnlocked}
use Rattle.solo_view.proofs.SameLane.{same_lane-after_all}
use Rattle.solo_view.specs.Held.{is_under}
use Rattle.solo_view.specs.Log.Phase.{Idle}
use Rattle.solo_view.specs.Log.{Log, no_log}
use Rattle.solo_view.specs.View.{Lock, View}
use Rattle.solo_view.specs.Views.{after_all}
use Rattle.solo_view.specs.declared.change.Change.{Change}
use Rattle.solo_world.proofs.Shapes.{IsOfSamePool, shape_seen}
use Rattle.solo_world.specs.Lanes.{last_number_of, lock_of, span_of}
use Rattle.solo_world.specs.Lawful.{GiveFits}
use Rattle.solo_world.specs.Sequences.{IsReady, Ready, Runs}
use Rattle.solo_world.specs.declared.lane.HeldLock.{HeldLock}
use Rattle.solo_world.specs.declared.lane.Lane.{Lane}

-- once the call is over, and nothing undrained lies under a lock
idle_may_give : (v : View) → v.log ≡ no_log Idle → LiesUnlocked v → MayGiveAny v
idle_may_give v idle apart locks known l there =
    subst (λ (log : Log). GiveFits (record v { locks = locks; known = known }) l log.phase) (sym idle)
    (All-weaker (λ (c : Change). All (λ (k : Lock). is_under c.word k ≡ false) v.locks) (λ (c : Change). is_under c.word l ≡ false) (λ c each. All-contains (λ (k : Lock). is_under c.word k ≡ false) v.locks l each there) v.changes apart)

-- what is not there lies nowhere
pub none_under : (v : View) → v.changes ≡ [] → LiesUnlocked v
none_under v none = subst (All (λ (c : Change). All (λ (l : Lock). is_under c.word l ≡ false) v.locks)) (sym none) (All-nil (λ (c : Change). All (λ (l : Lock). is_under c.word l ≡ false) v.locks))

pub none_locked : (v : View) → v.locks ≡ [] → LiesUnlocked v
none_locked v none =
    All-weaker (Contains v.changes) (λ (c : Change). All (λ (l : Lock). is_under c.word l ≡ false) v.locks)
    (λ c there. subst (All (λ (l : Lock). is_under c.word l ≡ false)) (sym none) (All-nil (λ (l : Lock). is_under c.word l ≡ false))) v.changes (All-contains_itself v.changes)

-- behind a call with nothing undrained the lane is as behind one that left words that it filled
pub after_call_told : {M : Type 0} (at : M → View → Type 0) (lane : Lane M) (v : View) → IsAfterCall at lane v → IsAfterTold at lane v
after_call_told at lane v is = record {
  seen = is.seen;
  unstopped = is.unstopped;
  unlisted = is.unlisted;
  log = is.log;
  undrained = inl is.drained;
  apart = none_under v is.drained;
  lines = is.lines;
  place = is.place;
}

module _ {M : Type 0} (at : M → View → Type 0) (lane : Lane M) (v : View) (is : IsAfterTold at lane v) where
  abbrev locks : List HeldLock
  locks = lane.locks.items

  lawful : Ready v (gives locks v) × (after_all v (gives locks v) ≡ record v { locks = []; known = (after_all v (gives locks v)).known })
  lawful = lawful_gives v locks is.seen.locks (idle_may_give v is.log is.apart) is.lines

  pub give_ready : IsReady (at lane.memory) (gives lane.locks.items)
  unfolding IsReady
  give_ready = (v, (is.seen.memory, lawful.0))

  pub closed : (new : Lane M) → Runs {T = Unit {0}} (at lane.memory) (at new.memory) (gives lane.locks.items) (Ok tt) → new.locks.items ≡ [] → new.records.items ≡ lane.records.items → new.entries ≡ lane.entries → new.drawn ≡ None → new.last ≡ lane.last → IsOfSamePool lane new → new.error ≡ error.None → new.stopped ≡ lane.stopped
      → IsClosedBy at new v (gives lane.locks.items)
  unfolding Runs
  closed new ran none records listed drawn last pool unharmed stops =
      let w : View = after_all v (gives locks v) in
      let same = lawful.1 in
      record {
        ready = lawful.0;
        rests = record {
          seen = record {
            memory = ran v is.seen.memory lawful.0;
            pool = ap (λ (u : View). u.pool) same ∙ (is.seen.pool ∙ sym pool.pool);
            shape = shape_seen lane new v w pool (same_lane-after_all v (gives locks v)) is.seen.shape;
            locks = ap (map lock_of) none ∙ sym (ap (λ (u : View). u.locks) same);
            records = records ∙ (is.seen.records ∙ sym (ap (λ (u : View). map span_of u.log.records) same));
            drawn = λ number some. absurd (none-some number (sym drawn ∙ some));
            last = last ∙ (is.seen.last ∙ sym (ap (λ (u : View). last_number_of u.entries) same));
          };
          answered = drawn;
          unharmed = unharmed;
          unstopped = stops ∙ is.unstopped;
          unlisted = ap (λ es. es.items) listed ∙ is.unlisted;
          fresh = inl (ap (λ (u : View). u.log) same ∙ is.log);
          undrained = subst MayRest (sym same) (rest_kept v (record v { locks = []; known = w.known }) refl refl refl refl (λ alone. refl) is.undrained);
          free = ap (λ (u : View). u.locks) same;
          place = subst HasPlace (sym same) (let p = is.place in record { lane = p.lane; few = p.few; inside = p.inside });
        };
        same = same;
      }
